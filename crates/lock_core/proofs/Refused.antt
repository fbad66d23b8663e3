-- A job that is refused was not refused before, and holds no lock.
use Rattle.std.proofs.Common.{◌≡◌, ℕ, List, [], ◌∷◌, ◌++◌, subst}
use Rattle.rt_base.specs.declared.ids.JobId.{JobId}
use Rattle.rt_base.specs.declared.operation.Op.{Op}
use Rattle.step_journal.specs.declared.entry.Entry.{Entry}
use Rattle.step_journal.specs.declared.entry.Entry.TheVariants.{Blocked}
use Rattle.txn_set.specs.Set.{Set, IsCompiled}
use Rattle.step_journal.specs.State.{State, opening}
use Rattle.step_journal.specs.History.{state_after, IsLegalFrom, IsLegal}
use Rattle.law_histories.specs.Protocol.{IsFirstRefusal}
use Rattle.law_histories.proofs.Never.{refused_once}
use Rattle.board.specs.declared.replies.StepReply.{StepReply}
use Rattle.board.specs.declared.replies.StepReply.TheVariants as reply
use Rattle.board.specs.Histories.{noted, step_entry, IfBlocked}

legal_until : (set : Set) (s : State) (es : List Entry) (e : Entry) (rest : List Entry) → IsLegalFrom set s (es ++ e ∷ rest) → IsLegalFrom set s (es ++ e ∷ [])
legal_until set s [] e rest h = (h.0, tt)
legal_until set s (x ∷ es) e rest h = (h.0, legal_until set (state_after set s x) es e rest h.1)

pub each_refusal : (set : Set) (history : List Entry) → IsCompiled set → IsLegal set history → (before after : List Entry) (job on : JobId) (op : Op) (ceiling tick : ℕ) → history ≡ before ++ Blocked job op on ceiling tick ∷ after → IsFirstRefusal set before job
each_refusal set history ok legal before after job on op ceiling tick e =
    refused_once set before job on op ceiling tick ok (legal_until set (opening set) before (Blocked job op on ceiling tick) after (subst (IsLegal set) e legal))

pub first_refusal : (set : Set) (history : List Entry) (job : JobId) (op : Op) (now : ℕ) (r : StepReply) → IsCompiled set → IsLegal set (noted history (step_entry now job op r)) → IfBlocked r (IsFirstRefusal set history job)
first_refusal set history job op now (reply.Blocked by ceiling) ok legal = refused_once set history job by op ceiling now ok legal
first_refusal set history job op now other ok legal = tt
