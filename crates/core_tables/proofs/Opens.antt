-- The tables at the start.
use Rattle.std.proofs.Common.{◌≡◌, ℕ, zero, suc, ◌<◌, List, [], ◌∷◌, map, length, replicate, None, refl, ap, sym, ◌∙◌, subst, arith}
use Rattle.std.proofs.Math.ListN.{get_or-map}
use Rattle.std.proofs.lemmas.List.{length-map}
use Rattle.std.proofs.lemmas.List.Sorted.{IsPermutation-refl}
use Rattle.std.specs.List.Sorted.{IsPermutation}
use Rattle.rt_base.specs.declared.release.Plans.{Plans}
use Rattle.rt_base.specs.declared.release.Release.{Release}
use Rattle.item_model.specs.declared.stored.Stored.{Stored}
use Rattle.item_model.specs.Kinds.{initial_of}
use Rattle.release_calendar.specs.Agenda.{Agenda, ArePeriods, no_plans}
use Rattle.txn_set.specs.Set.{Set, IsCompiled, no_txn}
use Rattle.txn_set.specs.declared.decl.TxnDecl.{TxnDecl}
use Rattle.step_journal.specs.State.{opening}
use Rattle.law_histories.proofs.Calendar.{times_at}
use Rattle.board.specs.Answers.{most_planned}
use Rattle.core_tables.specs.Rows.{PendingSeen, AreRows}
use Rattle.core_tables.specs.declared.tally.Tally.{Tally}
use Rattle.core_tables.specs.Seen.{no_tally, tally_of}
use Rattle.core_tables.specs.Tables.{AreTables}

pub are_periods : (set : Set) (periods : List ℕ) → IsCompiled set → periods ≡ map (λ (t : TxnDecl). t.period) set.txns → ArePeriods periods
are_periods set periods ok e = subst ArePeriods (sym e) (λ tx lt.
    let in_set : tx < length set.txns = omega (arith, lt, length-map set.txns (λ (t : TxnDecl). t.period)) in
    let good = times_at set tx ok in_set in
    let at = get_or-map (λ (t : TxnDecl). t.period) set.txns tx no_txn in
    (omega (arith, at, good.period.0), omega (arith, at, good.period.1)))

plans_open : (txns : List TxnDecl) → replicate (length txns) no_plans ≡ map (λ t. record { number = 0; last = 0 }) txns
plans_open [] = refl
plans_open (t ∷ ts) = ap (λ (l : List Plans). no_plans ∷ l) (plans_open ts)

tallies_open : (n k : ℕ) → tally_of (replicate n no_tally) k ≡ no_tally
tallies_open zero k = refl
tallies_open (suc n) zero = refl
tallies_open (suc n) (suc k) = tallies_open n k

length_open : (n : ℕ) → length (replicate n no_tally) ≡ n
length_open zero = refl
length_open (suc n) = ap suc (length_open n)

pub opens : (set : Set) (items : List Stored) (calendar : Agenda) (pending : PendingSeen) (tallies : List Tally)
    → items ≡ map initial_of set.items → calendar.periods ≡ map (λ (t : TxnDecl). t.period) set.txns → calendar.plans ≡ replicate (length calendar.periods) no_plans → calendar.planned ≡ [] → calendar.room ≡ most_planned
    → AreRows set pending (map (λ t. None) set.txns) → tallies ≡ replicate (length set.txns) no_tally
    → AreTables set (record { clock = 0; items = items; calendar = calendar; pending = pending; tallies = tallies }) (opening set)
unfolding opening
opens set items calendar pending tallies ei ep cl cn cr rows et = record {
  now = refl;
  items = ei;
  periods = ep;
  room = cr;
  plans = cl ∙ (ap (λ (n : ℕ). replicate n no_plans) (ap (λ (l : List ℕ). length l) ep ∙ length-map set.txns (λ (t : TxnDecl). t.period)) ∙ plans_open set.txns);
  planned = subst (IsPermutation {X = Release} []) (sym cn) (IsPermutation-refl []);
  rows = rows;
  tallies = record {
    count = ap (λ (l : List Tally). length l) et ∙ length_open (length set.txns);
    each = λ tx lt. ap (λ (l : List Tally). tally_of l tx) et ∙ tallies_open (length set.txns) tx;
  };
}
