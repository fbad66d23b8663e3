-- The set of the tests meets the rules, its bodies may ask what they ask, and its runs are short.
use Rattle.std.proofs.Common.{◌≡◌, ◌≢◌, ℕ, zero, suc, ◌+◌, ◌^◌, ◌<◌, ◌≤◌, Bool, true, false, List, [], ◌∷◌, length, map, take, drop, get_or, slice_get, Some, refl, ap, sym, ◌∙◌, subst, arith}
use Rattle.std.proofs.lemmas.List.{length-take}
use Rattle.std.specs.Prelude.{IsTrue}
use Rattle.rt_base.specs.declared.ids.TogetherDecl.{TogetherDecl}
use Rattle.rt_base.specs.declared.operation.Outcome.{Outcome}
use Rattle.item_model.specs.Kinds.{is_dated, is_derived}
use Rattle.item_model.specs.declared.decl.ItemDecl.{ItemDecl}
use Rattle.txn_set.specs.declared.decl.TxnDecl.{TxnDecl}
use Rattle.txn_set.specs.declared.decl.Ceilings.{Ceilings}
use Rattle.txn_set.specs.Set.{Set, HasGoodTimes, AreItemsOf, IsCompiled}
use Rattle.txn_set.specs.Ceilings.{IsCeilingsOf}
use Rattle.txn_set.proofs.Declared.{good_declared}
use Rattle.step_journal.specs.declared.entry.Entry.{Entry}
use Rattle.step_journal.specs.State.{Row}
use Rattle.step_journal.specs.Step.{may_ask}
use Rattle.law_histories.specs.Counting.{room_of_jobs}
use Rattle.law_histories.specs.Sim.{Body, Workload, IsSim}
use Rattle.sim_run.specs.Workloads.{AreSpaced, body_of, ticks_of}
use Rattle.sim_run.specs.Steady.{steady_txns, steady_set, steady_op}
use Rattle.sim_run.proofs.Planning.{drop_here}
use Rattle.sim_run.proofs.Runs.{way_fits}

-- the set

times : (k : ℕ) (d : TxnDecl) → k < 2 → HasGoodTimes (get_or steady_txns k d)
times zero d lt = good_declared 2 4 2 [] [] (omega arith, omega arith) (omega arith, omega arith) (omega arith, omega arith)
times (suc zero) d lt = good_declared 1 8 2 [] [] (omega arith, omega arith) (omega arith, omega arith) (omega arith, omega arith)
times (suc (suc k)) d lt = absurd (omega arith)

prios : (i j : ℕ) (d : TxnDecl) → i < j → j < 2 → (get_or steady_txns i d).prio ≢ (get_or steady_txns j d).prio
prios zero (suc zero) d lt top e = absurd (omega arith)
prios i j d lt top e = absurd (omega arith)

no_items : AreItemsOf steady_set []
no_items = record { rising = λ i j d lt top. absurd (omega arith); in_range = λ k d lt. absurd (omega arith) }

reads : (k : ℕ) (d : TxnDecl) → k < 2 → AreItemsOf steady_set (get_or steady_txns k d).reads
reads (suc (suc k)) d lt = absurd (omega arith)
reads other d lt = no_items

writes : (k : ℕ) (d : TxnDecl) → k < 2 → AreItemsOf steady_set (get_or steady_txns k d).writes
writes (suc (suc k)) d lt = absurd (omega arith)
writes other d lt = no_items

undated : (item : ℕ) → IsTrue (is_dated steady_set.items item) → ⊥
undated zero h = cc
undated (suc item) h = cc

underived : (item : ℕ) → IsTrue (is_derived steady_set.items item) → ⊥
underived zero h = cc
underived (suc item) h = cc

compiled : IsCompiled steady_set
compiled = record {
  few_items = omega arith;
  few_txns = omega arith;
  few_together = omega arith;
  times = times;
  prios = prios;
  reads = reads;
  writes = writes;
  written = λ item h. absurd (undated item h);
  acyclic = λ item n walk. underived item walk.1.derived;
  together = λ k d lt. absurd (omega arith);
  together_size = λ k d lt. absurd (omega arith);
  together_dated = λ k d lt. absurd (omega arith);
}

pub of_steady : (items : List ItemDecl) (txns : List TxnDecl) (together : List TogetherDecl) → items ≡ []
    → txns ≡ steady_txns → together ≡ []
    → IsCompiled (record { items = items; txns = txns; together = together })
of_steady items txns together a b c = subst IsCompiled (sym (ap (λ (xs : List ItemDecl). record { items = xs; txns = txns; together = together }) a ∙ ap (λ (xs : List TxnDecl). record { items = []; txns = xs; together = together }) b ∙ ap (λ (xs : List TogetherDecl). record { items = []; txns = steady_txns; together = xs }) c)) compiled

none_at : (table : List Ceilings) (item : ℕ) (row : Ceilings) → table ≡ [] → slice_get table item ≡ Some row → ⊥
none_at [] item row none h = cc
none_at (t ∷ ts) item row none h = absurd cc

pub no_ceilings : (set : Set) (table : List Ceilings) → set.items ≡ [] → table ≡ [] → IsCeilingsOf set table
no_ceilings set table none none' = (ap (λ (xs : List Ceilings). length xs) none' ∙ sym (ap (λ (xs : List ItemDecl). length xs) none), λ item row h. absurd (none_at table item row none' h))

-- the bodies

pub steady_asks : {Y : Type 0} (gives : Y → Body) (computes : Y → Bool) → ((y : Y) (k : ℕ) (os : List Outcome) → gives y k os ≡ steady_op (computes y))
    → (set : Set) (bodies : List Y) (row : Row) (tx k : ℕ) (os : List Outcome)
    → may_ask set row (body_of (map gives bodies) tx k os) ≡ true
steady_asks gives computes is set [] row tx k os = refl
steady_asks gives computes is set (y ∷ ys) row zero k os = ap (may_ask set row) (is y k os) ∙ may_be (computes y) where
  may_be : (b : Bool) → may_ask set row (steady_op b) ≡ true
  may_be true = refl
  may_be false = refl
steady_asks gives computes is set (y ∷ ys) row (suc tx) k os = steady_asks gives computes is set ys row tx k os

-- the releases

pub spaced_more : (period from n next d : ℕ) (ticks : List ℕ) → n < length ticks → next ≡ suc n → from ≤ get_or ticks n d
    → get_or ticks n d ≤ 2 ^ 40 → AreSpaced period (get_or ticks n d + period) (drop next ticks)
    → AreSpaced period from (drop n ticks)
spaced_more period from n next d ticks lt one low high more =
    subst (AreSpaced period from) (sym (drop_here ticks n d lt)) (low, high, subst (λ (m : ℕ). AreSpaced period (get_or ticks n d + period) (drop m ticks)) one more)

-- the room

pub sim_fits : (w : Workload) (history : List Entry) (n : ℕ) → IsCompiled w.set → IsSim w history
    → length (take n history) ≤ room_of_jobs w.set.txns (λ k. length (ticks_of w.releases k))
sim_fits w history n ok sim =
    omega (arith, length-take n history, way_fits w history ok sim.legal (record { script_run = sim.script_run; rest = sim.rest; begins = sim.begins; fixed = sim.fixed }))

pub good_by : (w : Workload) (set : Set) (history : List Entry) (n room : ℕ) → w.set ≡ set → IsCompiled w.set
    → IsSim w history → room_of_jobs set.txns (λ k. length (ticks_of w.releases k)) ≤ room
    → length (take n history) ≤ room
good_by w set history n room is ok sim le =
    omega (arith, sim_fits w history n ok sim, ap (λ (q : Set). room_of_jobs q.txns (λ k. length (ticks_of w.releases k))) is, le)
