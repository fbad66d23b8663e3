-- What the analysis promises: each job ends within its response, and none is late.
use Rattle.std.specs.Prelude.{◌≡◌, ◌≢◌, ℕ, ◌+◌, ◌<◌, ◌≤◌, List, None, Some}
use Rattle.std.specs.List.{All}
use Rattle.rt_base.specs.declared.operation.End.TheVariants.{Late}
use Rattle.step_journal.specs.declared.entry.Entry.{Entry}
use Rattle.txn_set.specs.Set.{Set, IsCompiled}
use Rattle.step_journal.specs.State.{State, Row, row_of}
use Rattle.step_journal.specs.History.{IsLegal, state_of}
use Rattle.law_times.specs.Response.{demand, HoldsDemand, HasResponses, IsResponse, response}

-- each ended job of the transaction ended within r ticks of its release, and not late; its pending job has time left
pub record IsInTime (tx r : ℕ) (s : State) : Type 0 where
  pub ended : All (λ e. e.job.tx.0 ≡ tx → (e.tick ≤ e.release + r) × (e.end ≢ Late)) s.ended
  pub pending : (row : Row) → row_of s.rows tx ≡ Some row → s.now < row.release + r

-- for the response of the transaction, whether or not the other transactions have one
abbrev pub EachIsInTime : Type 0
EachIsInTime = (set : Set) (entries : List Entry) (tx r : ℕ) → IsCompiled set → IsLegal set entries
    → response set tx ≡ Some r → IsInTime tx r (state_of set entries)

-- for every window that holds its demand
abbrev pub EachWindowIsKept : Type 0
EachWindowIsKept = (set : Set) (entries : List Entry) (tx r : ℕ) → IsCompiled set → IsLegal set entries
    → HoldsDemand set tx r → IsInTime tx r (state_of set entries)

-- the response that is found by trying each window is the least, and where none is found no window holds its demand
pub record IsFound (set : Set) (tx : ℕ) : Type 0 where
  pub some : (r : ℕ) → response set tx ≡ Some r → IsResponse set tx r
  pub none : response set tx ≡ None → (w : ℕ) → ¬ HoldsDemand set tx w

abbrev pub ResponseIsFound : Type 0
ResponseIsFound = (set : Set) (tx : ℕ) → IsFound set tx

-- a window up to the response asks for no more than the response: so windows that grow to their demand reach it
abbrev pub ResponseIsReached : Type 0
ResponseIsReached =
    (set : Set) (tx r w : ℕ) → IsCompiled set → HoldsDemand set tx r → w ≤ r → demand set tx w ≤ r

-- where each transaction has a response, no job ends late
abbrev pub NoneIsLate : Type 0
NoneIsLate = (set : Set) (entries : List Entry) → IsCompiled set → IsLegal set entries
    → HasResponses set → All (λ e. e.end ≢ Late) (state_of set entries).ended
