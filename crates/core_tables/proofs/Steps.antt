-- What is granted, blocked or idle is a step of the definition, and what a board answers.
use Rattle.std.proofs.Common.{◌≡◌, ℕ, Bool, true, cond, List, Option, None, Some, ap, ◌∙◌}
use Rattle.std.proofs.lemmas.Bool.{eq-eqb, and_from}
use Rattle.std.specs.Option.{option_map, option_and_then}
use Rattle.rt_base.specs.declared.ids.JobId.{JobId}
use Rattle.rt_base.specs.declared.operation.Op.{Op}
use Rattle.txn_set.specs.Set.{Set}
use Rattle.item_model.specs.Work.{outcome_of}
use Rattle.step_journal.specs.declared.entry.Entry.TheVariants.{Step, Blocked, Idle}
use Rattle.step_journal.specs.State.{State, Row, same_job}
use Rattle.step_journal.specs.LockRule.{Above}
use Rattle.step_journal.specs.Running.{running, of_job}
use Rattle.step_journal.specs.Instant.{arrived}
use Rattle.step_journal.specs.Step.{ask, idle, step, given, asked, answered, idled, may_ask, lock_refusal, with_step, with_wait, end_of}
use Rattle.core_tables.specs.Legal.{IsGranted, IsBlocked, IsIdle}

same_is : (a b : JobId) → a ≡ b → same_job a b ≡ true
same_is a b e =
    and_from _ _ (eq-eqb a.tx.0 b.tx.0 (ap (λ (k : JobId). k.tx.0) e)) (eq-eqb a.serial b.serial (ap (λ (k : JobId). k.serial) e))

asked_row : (set : Set) (s : State) (job : JobId) (op : Op) (row : Row) → running set s.rows ≡ Some row → row.job ≡ job → may_ask set row op ≡ true
    → step set s (ask job op) ≡ Some (answered set s row op (lock_refusal set s row op))
unfolding step
asked_row set s job op row runs is may =
    ap (λ (o : Option Row). option_and_then (asked set s op) (option_and_then (of_job job) o)) runs
    ∙ (ap (λ (b : Bool). option_and_then (asked set s op) (cond b (Some row) None)) (same_is row.job job is)
    ∙ ap (λ (b : Bool). given b (answered set s row op (lock_refusal set s row op))) may)

pub granted_steps : (set : Set) (s : State) (job : JobId) (op : Op) (g : IsGranted set s job op)
    → step set s (ask job op) ≡ Some (Step job op (outcome_of s.items g.row.work op) (end_of (with_step set s g.row op) job) s.now, with_step set s g.row op)
granted_steps set s job op g =
    asked_row set s job op g.row g.runs g.is g.may
    ∙ (ap (λ (o : Option Above). Some (answered set s g.row op o)) g.free
    ∙ ap (λ (k : JobId). Some (Step k op (outcome_of s.items g.row.work op) (end_of (with_step set s g.row op) k) s.now, with_step set s g.row op)) g.is)

pub blocked_steps : (set : Set) (s : State) (job : JobId) (op : Op) (by : JobId) (ceiling : ℕ) (b : IsBlocked set s job op by ceiling)
    → step set s (ask job op) ≡ Some (Blocked job op by ceiling s.now, with_wait s b.row by)
blocked_steps set s job op by ceiling b =
    asked_row set s job op b.row b.runs b.is b.may
    ∙ (ap (λ (o : Option Above). Some (answered set s b.row op o)) b.refused
    ∙ ap (λ (k : JobId). Some (Blocked k op by ceiling s.now, with_wait s b.row by)) b.is)

pub idle_steps : (set : Set) (s : State) (to : ℕ) → IsIdle set s to → step set s idle ≡ Some (Idle s.now to, arrived set to s)
unfolding step
idle_steps set s to i =
    ap (λ (rows : List Row). idled set s rows) i.none
    ∙ ap (λ (o : Option ℕ). option_map (λ t. (Idle s.now t, arrived set t s)) o) i.next
