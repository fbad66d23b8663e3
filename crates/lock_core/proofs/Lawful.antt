-- What a step of a board promises follows from what the board says of it: the history that it stands for is legal, and has
-- the answer's entry at its end.
use Rattle.std.proofs.Common.{◌≡◌, ℕ, ◌+◌, List, [], ◌∷◌, ◌++◌, length, drop, Option, None, Some, refl, ap, sym, ◌∙◌, subst, arith}
use Rattle.std.proofs.lemmas.List.{drop-append-le}
use Rattle.rt_base.specs.declared.ids.JobId.{JobId}
use Rattle.rt_base.specs.declared.operation.Op.{Op}
use Rattle.step_journal.specs.declared.entry.Entry.{Entry}
use Rattle.step_journal.specs.declared.entry.Entry.TheVariants.{Step, Blocked}
use Rattle.txn_set.specs.Set.{Set}
use Rattle.step_journal.specs.Journal.{JournalSeen}
use Rattle.step_journal.specs.Step.{ask}
use Rattle.step_journal.specs.History.{IsLegal}
use Rattle.law_histories.proofs.Pushes.{last_step}
use Rattle.board.specs.declared.replies.StepReply.{StepReply}
use Rattle.board.specs.declared.replies.StepReply.TheVariants as reply
use Rattle.board.specs.Histories.{IsHistory, noted, step_entry, now_of, IsRefusal}
use Rattle.core_tables.specs.Seen.{TablesSeen}
use Rattle.lock_core.specs.Seen.{CoreSeen, core_of, set_of, kept_by}
use Rattle.lock_core.specs.Stands.{Stands}
use Rattle.lock_core.specs.Calls.{IsEvent, IsCall}
use Rattle.lock_core.specs.Promises.{IsLawfulStep}
use Rattle.lock_core.proofs.Refused.{first_refusal}
use Rattle.lock_core.proofs.Stood.{lawful_history}

-- the entry of an answer is that of the step
asked_steps : (set : Set) (history : List Entry) (job : JobId) (op : Op) (now : ℕ) (r : StepReply) → IsLegal set (noted history (step_entry now job op r)) → IsEvent set history (ask job op) (step_entry now job op r)
asked_steps set history job op now (reply.Blocked by ceiling) legal = last_step set history (Blocked job op by ceiling now) legal
asked_steps set history job op now (reply.Done outcome over) legal = last_step set history (Step job op outcome over now) legal
asked_steps set history job op now other legal = tt

kept_more : (first : ℕ) (kept later history : List Entry) (entry : Option Entry) → kept ≡ drop first history → first + length kept ≡ length history → later ≡ drop first (noted history entry) → later ≡ noted kept entry
kept_more first kept later history None rest counted more = more ∙ sym rest
kept_more first kept later history (Some e) rest counted more =
    more ∙ (drop-append-le first history (e ∷ []) (omega (arith, counted)) ∙ ap (λ (l : List Entry). l ++ e ∷ []) (sym rest))

module _ {B : Type 0} (stands_for : B → List Entry → Type 0) (set_of : B → Set) (room_of first_of : B → ℕ) (kept_by : B → List Entry)
    (is_history : (b : B) (history : List Entry) → stands_for b history → IsHistory (set_of b) (room_of b) (first_of b) (kept_by b) history) where
  pub lawful_step : (old new : B) (job : JobId) (op : Op) (r : StepReply) → set_of new ≡ set_of old → first_of new ≡ first_of old → (IsRefusal r → new ≡ old)
      → ((history : List Entry) → stands_for old history → stands_for new (noted history (step_entry (now_of (set_of old) history) job op r)))
      → IsLawfulStep stands_for set_of kept_by old new job op r
  lawful_step old new job op r same_set same_first refused after =
      let legal : (history : List Entry) → stands_for old history → IsLegal (set_of old) (noted history (step_entry (now_of (set_of old) history) job op r)) =
      λ history h. subst (λ (set : Set). IsLegal set (noted history (step_entry (now_of (set_of old) history) job op r))) same_set (is_history new (noted history (step_entry (now_of (set_of old) history) job op r)) (after history h)).legal in
      record {
        call = λ history h. record {
          stands = after history h;
          steps = asked_steps (set_of old) history job op (now_of (set_of old) history) r (legal history h);
          kept =
              let entry = step_entry (now_of (set_of old) history) job op r in
              let was = is_history old history h in
              kept_more (first_of old) (kept_by old) (kept_by new) history entry was.rest was.counted
              ((is_history new (noted history entry) (after history h)).rest ∙ ap (λ (n : ℕ). drop n (noted history entry)) same_first);
        };
        refused = refused;
        blocked_once = λ history h. first_refusal (set_of old) history job op (now_of (set_of old) history) r (is_history old history h).compiled (legal history h);
        no_conflict = λ history h. (lawful_history (set_of new) history (is_history new history h).compiled (is_history new history h).legal).no_conflict;
        ended_hold_nothing = λ history h. (lawful_history (set_of new) history (is_history new history h).compiled (is_history new history h).legal).ended_hold_nothing;
        no_cycle = λ history h. (lawful_history (set_of new) history (is_history new history h).compiled (is_history new history h).legal).never_stuck;
        serial = λ history h. (lawful_history (set_of new) history (is_history new history h).compiled (is_history new history h).legal).serial;
      }

-- what a call of a core does to its parts is a lawful step of the core
pub core_step : (set : Set) (journal more : JournalSeen) (tables next : TablesSeen) (old : CoreSeen) (job : JobId) (op : Op) (r : StepReply) → core_of set journal tables ≡ old → more.first ≡ journal.first → (IsRefusal r → (more ≡ journal) × (next ≡ tables))
    → ((history : List Entry) → Stands (core_of set journal tables) history → IsCall (core_of set journal tables) (core_of set more next) history (ask job op) (step_entry (now_of set history) job op r))
    → IsLawfulStep Stands set_of kept_by old (core_of set more next) job op r
core_step set journal more tables next old job op r is first refused call =
    subst (λ (core : CoreSeen). IsLawfulStep Stands set_of kept_by core (core_of set more next) job op r) is
    (lawful_step Stands set_of (λ core. core.journal.room) (λ core. core.journal.first) kept_by (λ core history h. h.is_history) (core_of set journal tables) (core_of set more next) job op r refl first
    (λ h. let same = refused h in ap (λ (j : JournalSeen). core_of set j next) same.0 ∙ ap (λ (t : TablesSeen). core_of set journal t) same.1)
    (λ history h. (call history h).stands))
