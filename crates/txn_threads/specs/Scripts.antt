-- The operations of a body, and the entries that follow it.
use Rattle.std.specs.Prelude.{◌≡◌, ℕ, List, [], ◌∷◌, ◌++◌, map}
use Rattle.rt_base.specs.declared.ids.TxId.{TxId}
use Rattle.rt_base.specs.declared.ids.JobId.{JobId}
use Rattle.rt_base.specs.declared.operation.Op.{Op}
use Rattle.rt_base.specs.declared.operation.Outcome.{Outcome}
use Rattle.step_journal.specs.declared.entry.Entry.{Entry}
use Rattle.step_journal.specs.declared.entry.Entry.TheVariants.{Step, Blocked}
use Rattle.step_journal.specs.Serial.{outcomes_of}

abbrev pub job_of : TxId → ℕ → JobId
job_of tx serial = record { tx = tx; serial = serial }

-- the outcomes of a job's Step entries among a seat's own entries
abbrev pub own_outcomes : List (ℕ × Entry) → JobId → List Outcome
own_outcomes mine job = outcomes_of (map (λ p. p.1) mine) job

-- no job of the transaction took a step among a seat's own entries
abbrev pub NoSteps : TxId → List (ℕ × Entry) → Type 0
NoSteps tx mine = (serial : ℕ) → own_outcomes mine (job_of tx serial) ≡ []

-- the job is of this transaction, and the operation is the body's function of its serial and of the outcomes of its
-- earlier Step entries
abbrev pub IsOwnOp : (ℕ → List Outcome → Op) → TxId → List (ℕ × Entry) → JobId → Op → Type 0
IsOwnOp gives tx before job op = (job.tx ≡ tx) × (op ≡ gives job.serial (own_outcomes before job))

abbrev pub IsAsked : (ℕ → List Outcome → Op) → TxId → List (ℕ × Entry) → Entry → Type 0
IsAsked gives tx before (Step job op outcome over tick) = IsOwnOp gives tx before job op
IsAsked gives tx before (Blocked job op by ceiling tick) = IsOwnOp gives tx before job op
IsAsked gives tx before other = Unit {0}

-- each Step and Blocked entry of the second list, in order after those of the first, is of this transaction, with the
-- operation of its body
abbrev pub AreAsked : (ℕ → List Outcome → Op) → TxId → List (ℕ × Entry) → List (ℕ × Entry) → Type 0
AreAsked gives tx before [] = Unit {0}
AreAsked gives tx before (p ∷ ps) = IsAsked gives tx before p.1 × AreAsked gives tx (before ++ p ∷ []) ps
