-- A core at the opening state stands for the empty history.
use Rattle.std.proofs.Common.{◌≡◌, ℕ, ◌≤◌, ◌^◌, [], refl, sym, subst, arith}
use Rattle.txn_set.specs.Set.{Set, IsCompiled}
use Rattle.step_journal.specs.State.{opening}
use Rattle.plain_core.specs.TablesSeen.{TablesSeen, tables_of}
use Rattle.step_journal.specs.Journal.{JournalSeen}
use Rattle.plain_core.specs.Stands.{Stands}

pub opens : (set : Set) (journal : JournalSeen) (tables : TablesSeen) (room : ℕ) → IsCompiled set → room ≤ 2 ^ 20 → journal ≡ record { room = room; first = 0; kept = [] } → tables ≡ tables_of set (opening set)
    → Stands (record { set = set; journal = journal; tables = tables }) []
opens set journal tables room ok small ej et =
    subst (λ (j : JournalSeen). Stands (record { set = set; journal = j; tables = tables }) []) (sym ej) (record {
      is_history = record { compiled = ok; legal = tt; rest = refl; counted = refl; fits = omega arith; small = small };
      is_state = et;
    })
