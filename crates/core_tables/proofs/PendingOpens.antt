-- The tables of nothing pending.
use Rattle.std.proofs.Common.{◌≡◌, ℕ, ◌^◌, ◌<◌, false, List, [], ◌∷◌, length, map, Option, None, Some, get_or, refl, ap, sym, ◌∙◌, inl, inr, arith}
use Rattle.std.proofs.lemmas.Bool.{cases_lt}
use Rattle.std.proofs.lemmas.List.{length-map, get_or_past}
use Rattle.std.proofs.Math.ListN.{get_or-map}
use Rattle.std.specs.Prelude.{is_some}
use Rattle.rt_base.specs.declared.ids.TxId.{TxId}
use Rattle.rt_base.specs.declared.rank_set.RankSet.{RankSet}
use Rattle.rt_base.specs.Ranks.{has_rank}
use Rattle.ceiling_table.specs.declared.LockKind.TheVariants as kind
use Rattle.ceiling_table.specs.Held.{Locks, lock_at, no_ceilings}
use Rattle.inherit_prio.specs.Waits.{Waiting, IsOrder, on_of, tx_of}
use Rattle.strict_commit.specs.Jobs.{Job}
use Rattle.txn_set.specs.declared.decl.TxnDecl.{TxnDecl}
use Rattle.txn_set.specs.Set.{Set, IsCompiled, no_txn, txn_of}
use Rattle.step_journal.specs.State.{Row, row_of}
use Rattle.law_histories.proofs.Calendar.{times_at}
use Rattle.core_tables.specs.declared.head.Head.{Head}
use Rattle.core_tables.specs.Rows.{Accesses, AreRows, HasCeilings, accesses_of}
use Rattle.core_tables.specs.PendingTables.{head_at, row_at, row_by, rows_by, row_lock, no_job, waited_job, opening_job, access_of, IsTable}
use Rattle.core_tables.proofs.RowsBy.{rows_are, rows_at}

module _ (set : Set) (heads : List (Option Head)) (works : List Job) (on : List (Option TxId)) (empty : heads ≡ map (λ t. None) set.txns) where
  no_head : (tx : ℕ) → head_at heads tx ≡ None
  no_head tx = ap (λ (l : List (Option Head)). get_or l tx None) empty ∙ get_or-map (λ (t : TxnDecl). None) set.txns tx no_txn

  no_row : (tx : ℕ) → row_at heads works on tx ≡ None
  no_row tx = ap (λ (h : Option Head). row_by h (get_or works tx no_job).work (waited_job heads (on_of on tx))) (no_head tx)

  heads_size : length heads ≡ length set.txns
  heads_size = ap length empty ∙ length-map set.txns (λ t. None)

  pub opening_rows : rows_by heads works on ≡ map (λ t. None) set.txns
  opening_rows = rows_are heads works on (map (λ t. None) set.txns) (heads_size ∙ sym (length-map set.txns (λ t. None))) (λ tx. no_row tx ∙ sym (get_or-map (λ (t : TxnDecl). None) set.txns tx no_txn))

  none_here : (tx : ℕ) → row_of (rows_by heads works on) tx ≡ None
  none_here tx = rows_at heads works on tx ∙ no_row tx

module _ (set : Set) (heads : List (Option Head)) (works : List Job) (held : Locks) (waiting : Waiting) (deadlines : List ℕ) (ranks : RankSet) (ok : IsCompiled set)
    (empty : heads ≡ map (λ t. None) set.txns) (works_are : works ≡ map opening_job set.txns) (prios_are : held.prios ≡ map (λ t. t.prio) set.txns) (same : waiting.prios ≡ held.prios)
    (ordered : IsOrder held.prios waiting.order) (deadlines_are : deadlines ≡ map (λ t. t.deadline) set.txns) (free : (tx item : ℕ) → lock_at held tx item ≡ kind.Free) (nobody : (t : ℕ) → on_of waiting.on t ≡ None)
    (none : (rank : ℕ) → has_rank ranks rank ≡ false) where
  prios_size : length held.prios ≡ length set.txns
  prios_size = ap length prios_are ∙ length-map set.txns (λ t. t.prio)

  no_row_here : (tx : ℕ) (row : Row) → row_of (rows_by heads works waiting.on) tx ≡ Some row → ⊥
  no_row_here tx row h = let n : row_of (rows_by heads works waiting.on) tx ≡ None = none_here set heads works waiting.on empty tx in cc (n, h)

  soon_at : (tx : ℕ) → get_or deadlines tx 0 < 2 ^ 32
  soon_at tx =
      let is : get_or deadlines tx 0 ≡ (txn_of set tx).deadline = ap (λ (l : List ℕ). get_or l tx 0) deadlines_are ∙ get_or-map (λ (t : TxnDecl). t.deadline) set.txns tx no_txn in
      elim (cases_lt tx (length set.txns)) [
        | inl lt ↦ (let t = times_at set tx ok lt in omega (arith, is, t.deadline.1, t.period.1))
        | inr ge ↦ (let past : (txn_of set tx).deadline ≡ 0 = ap (λ (t : TxnDecl). t.deadline) (get_or_past set.txns tx no_txn ge) in omega (arith, is, past))
      ]

  pub opening_table : IsTable heads works held waiting deadlines ranks None None
  opening_table = record {
    heads_size = heads_size set heads works waiting.on empty ∙ sym prios_size;
    works_size = ap length works_are ∙ (length-map set.txns opening_job ∙ sym prios_size);
    agree = record {
      few = omega (arith, prios_size, ok.few_txns);
      size = ap length (opening_rows set heads works waiting.on empty) ∙ (length-map set.txns (λ t. None) ∙ sym prios_size);
      deadlines_size = ap length deadlines_are ∙ (length-map set.txns (λ t. t.deadline) ∙ sym prios_size);
      prios = same;
      order = ordered;
      soon = soon_at;
      early = λ tx row h. absurd (no_row_here tx row h);
      named = λ tx row h. absurd (no_row_here tx row h);
      locks = λ tx item lt low. free tx item ∙ sym (ap (λ (o : Option Row). row_lock o item) (none_here set heads works waiting.on empty tx));
      touched = λ tx item row h t. absurd (no_row_here tx row h);
      waits = λ tx u h. absurd (let n : on_of waiting.on tx ≡ None = nobody tx in cc (n, h));
      ranks = record {
        within = λ r lt. none r ∙ sym (ap is_some (none_here set heads works waiting.on empty (tx_of waiting.order r)));
        beyond = λ r ge. none r;
      };
      least = λ tx. none_here set heads works waiting.on empty tx;
    };
    running = inl (record { nobody = none; is = refl });
  }

  pub opening_are_rows : length held.ceilings ≡ length set.items → ((item : ℕ) → item < length set.items → HasCeilings set item (get_or held.ceilings item no_ceilings))
      → AreRows set (record { facts = record { ceilings = held.ceilings; prios = held.prios; deadlines = deadlines; accesses = map access_of works }; rows = rows_by heads works waiting.on }) (map (λ t. None) set.txns)
  opening_are_rows size are = record {
    facts = record {
      compiled = ok;
      items = size;
      ceilings = are;
      prios = prios_are;
      deadlines = deadlines_are;
      accesses = ap (map access_of) works_are ∙ twice set.txns;
    };
    rows = opening_rows set heads works waiting.on empty;
  } where
    twice : (ts : List TxnDecl) → map access_of (map opening_job ts) ≡ map accesses_of ts
    twice [] = refl
    twice (t ∷ ts) = ap (λ (l : List Accesses). accesses_of t ∷ l) (twice ts)
