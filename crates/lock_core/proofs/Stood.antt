-- What a core's history tells of its parts.
use Rattle.std.proofs.Common.{◌≡◌, ℕ, ◌+◌, ◌<◌, ◌≤◌, ◌^◌, List, [], length, refl, ap, sym, subst, arith}
use Rattle.step_journal.specs.declared.entry.Entry.{Entry}
use Rattle.txn_set.specs.Set.{Set, IsCompiled}
use Rattle.step_journal.specs.State.{State, opening}
use Rattle.step_journal.specs.Journal.{JournalSeen}
use Rattle.step_journal.specs.History.{IsLegal, state_of}
use Rattle.law_histories.proofs.Never.{never_stuck}
use Rattle.law_histories.proofs.SerialAll.{no_conflict, ended_hold_nothing, pending_alone, serial}
use Rattle.law_histories.proofs.DelayAll.{one_delay}
use Rattle.law_histories.proofs.CountingAll.{entries_few}
use Rattle.board.specs.Answers.{ended_number, last_end}
use Rattle.board.proofs.Ended.{ended_few}
use Rattle.core_tables.specs.declared.tally.Tally.{Tally}
use Rattle.core_tables.specs.Seen.{TablesSeen}
use Rattle.core_tables.specs.Tables.{AreTables}
use Rattle.core_tables.specs.Legal.{IsLegalState, Stand}
use Rattle.core_tables.proofs.Places.{Places, places}
use Rattle.lock_core.specs.Seen.{CoreSeen, core_of}
use Rattle.lock_core.specs.Stands.{Stands, IsCore}
use Rattle.lock_core.specs.Promises.{IsLawful}
use Rattle.lock_core.proofs.Refused.{each_refusal}

pub legal_state : (core : CoreSeen) (history : List Entry) → Stands core history → IsLegalState core.set (state_of core.set history)
legal_state core history h = record { history = history; compiled = h.is_history.compiled; legal = h.is_history.legal; is = refl }

pub stand : (core : CoreSeen) → IsCore core → Stand core.set core.tables
stand core is = record { state = state_of core.set is.history; are = is.stands.are; legal = legal_state core is.history is.stands }

pub history_fits : (core : CoreSeen) → IsCore core → core.journal.first + length core.journal.kept < 2 ^ 64
history_fits core is = omega (arith, is.stands.is_history.counted, (entries_few core.set is.history is.stands.is_history.compiled is.stands.is_history.legal).all)

pub tally_fits : (core : CoreSeen) (tx : ℕ) (t : Tally) → IsCore core → ((set : Set) (s : State) → AreTables set core.tables s → t ≡ record { number = ended_number s.ended tx; last = last_end s.ended tx })
    → t.number < 2 ^ 32
tally_fits core tx t is says =
    let e = says core.set (state_of core.set is.history) is.stands.are in
    omega (arith, ap (λ (x : Tally). x.number) e, ended_few core.set is.history tx is.stands.is_history.compiled is.stands.is_history.legal)

-- the tables have a place for each item and each transaction
pub fit : (core : CoreSeen) → IsCore core → Places core.set core.tables
fit core is = places core.set core.tables (state_of core.set is.history) is.stands.are (legal_state core is.history is.stands)

-- the laws hold of each legal history
pub lawful_history : (set : Set) (history : List Entry) → IsCompiled set → IsLegal set history → IsLawful set history
lawful_history set history ok legal =
    record {
      no_conflict = λ a b x y i. no_conflict set history a b x y i ok legal;
      ended_hold_nothing = λ n e. ended_hold_nothing set history n e ok legal;
      never_stuck = never_stuck set history ok legal;
      refused_once = each_refusal set history ok legal;
      serial = serial set history ok legal;
      pending_alone = λ job row. pending_alone set history job row ok legal;
      one_delay = λ job. one_delay set history job ok legal;
    }

pub lawful : (core : CoreSeen) (history : List Entry) → Stands core history → IsLawful core.set history
lawful core history h = lawful_history core.set history h.is_history.compiled h.is_history.legal

pub opens : (set : Set) (journal : JournalSeen) (tables : TablesSeen) (room : ℕ) → IsCompiled set → room ≤ 2 ^ 20 → journal ≡ record { room = room; first = 0; kept = [] } → AreTables set tables (opening set)
    → Stands (core_of set journal tables) []
opens set journal tables room ok small ej are =
    subst (λ (j : JournalSeen). Stands (core_of set j tables) []) (sym ej) (record {
      is_history = record { compiled = ok; legal = tt; rest = refl; counted = refl; fits = omega arith; small = small };
      are = are;
    })
