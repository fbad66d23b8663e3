-- The opening tables of the set stand.
use Rattle.std.proofs.Common.{◌≡◌, [], length, refl, ap, sym, ◌∙◌, subst}
use Rattle.txn_set.specs.Set.{Set}
use Rattle.step_journal.specs.State.{opening}
use Rattle.core_tables.specs.Seen.{TablesSeen}
use Rattle.core_tables.specs.Tables.{AreTables}
use Rattle.core_tables.specs.Legal.{IsLegalState, Stand}
use Rattle.core_tables.proofs.Places.{places}
use Rattle.table_tests.specs.Trio.{trio}
use Rattle.table_tests.proofs.TrioCompiled.{trio_compiled}

-- the opening state is that after no entry

trio_opens : IsLegalState trio (opening trio)
trio_opens = record { history = []; compiled = trio_compiled; legal = tt; is = refl }

opens_by : (set : Set) → set ≡ trio → IsLegalState set (opening set)
opens_by set e = subst (λ (s : Set). IsLegalState s (opening s)) (sym e) trio_opens

pub trio_stands : (set : Set) (t : TablesSeen) → set ≡ trio → AreTables set t (opening set) → Stand set t
trio_stands set t e are = record { state = opening set; are = are; legal = opens_by set e }

-- one item, and a place for each of three transactions
pub record AreOfTrio (set : Set) (t : TablesSeen) : Type 0 where
  pub txns : length set.txns ≡ 3
  pub items : length t.items ≡ 1
  pub periods : length t.calendar.periods ≡ 3
  pub rows : length t.pending.rows ≡ 3
  pub tallies : length t.tallies ≡ 3

pub of_trio : (set : Set) (t : TablesSeen) → set ≡ trio → AreTables set t (opening set) → AreOfTrio set t
of_trio set t e are =
    let p = places set t (opening set) are (opens_by set e) in
    let txns : length set.txns ≡ 3 = ap (λ (s : Set). length s.txns) e in
    let items : length set.items ≡ 1 = ap (λ (s : Set). length s.items) e in
    record { txns = txns; items = p.items ∙ items; periods = p.periods ∙ txns; rows = p.rows ∙ txns; tallies = p.tallies ∙ txns }
