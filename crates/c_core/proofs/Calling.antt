-- What a call of a core comes to, over plain variables: `b` is the core before it and `t` the core after, and `s` is what is
-- seen of the first.
use Rattle.std.proofs.Common.{◌≡◌, ◌∙◌, ℕ, ◌+◌, ◌≤◌, ◌++◌, Bool, true, if◌then◌else◌, nat_lt, List, length, map, take, drop, min, Option, Result, refl, ap, subst, arith}
use Rattle.std.proofs.lemmas.List.{length-take-le}
use Rattle.rt_base.specs.declared.ids.JobId.{JobId}
use Rattle.rt_base.specs.declared.operation.Op.{Op}
use Rattle.rt_base.specs.declared.release.PlanRefused.{PlanRefused}
use Rattle.step_journal.specs.declared.entry.Entry.{Entry}
use Rattle.txn_set.specs.Set.{Set}
use Rattle.law_histories.specs.Protocol.{IsFirstRefusal}
use Rattle.board.specs.declared.replies.StepReply.{StepReply}
use Rattle.board.specs.declared.replies.IdleReply.{IdleReply}
use Rattle.board.specs.Histories.{noted, plan_entry, plan_next_entry, step_entry, idle_entry, now_of, IfBlocked}
use Rattle.lock_core.specs.Promises.{IsLawfulStep}
use Rattle.lock_core.specs.Seen.{CoreSeen, set_of, kept_by}
use Rattle.lock_core.specs.Stands.{Stands}
use Rattle.c_forms.specs.declared.forms.StepForm.{StepForm}
use Rattle.c_forms.specs.declared.forms.TimeForm.{TimeForm}
use Rattle.c_forms.specs.declared.entries.EntryForm.{EntryForm}
use Rattle.c_forms.specs.Forms.{form_of_step, form_of_plan, form_of_plan_next, form_of_idle, form_of_entry}
use Rattle.c_core.specs.Calls.{tx_status, step_reply_of, plan_reply_of, plan_next_reply_of, idle_reply_of}
use Rattle.c_core.specs.Called.{Keeps, AskedOf, Planned, PlannedNext, Idled, Drained}
use Rattle.c_core.specs.Open.{OpenSeen, KeepsBoundsOf}

abbrev seen : CoreSeen → Option Set → OpenSeen
seen board admitted = record { board = board; admitted = admitted }

-- what a call of the core keeps
abbrev Fixed : CoreSeen → CoreSeen → Type 0
Fixed b t = (t.set ≡ b.set) × (t.journal.room ≡ b.journal.room) × (t.journal.first ≡ b.journal.first)

abbrev Bounded : CoreSeen → Option Set → Type 0
Bounded t admitted = (history : List Entry) → Stands t history → KeepsBoundsOf (seen t admitted) history

known : (b : CoreSeen) (tx : ℕ) → true ≡ nat_lt tx (length b.set.txns) → 0 ≡ tx_status b tx
known b tx is = subst (λ (x : Bool). ◌≡◌ {A = ℕ} 0 (if x then 0 else 4)) is refl

keeps : (b t : CoreSeen) (admitted : Option Set) → Fixed b t → Bounded t admitted → Keeps (seen b admitted) (seen t admitted)
keeps b t admitted fixed bounded = record { set = fixed.0; admitted = refl; room = fixed.1; bounds = bounded }

pub planned : (b t : CoreSeen) (admitted : Option Set) (s : OpenSeen) (tx tick : ℕ) (r : Result JobId PlanRefused) (before form : TimeForm)
    → seen b admitted ≡ s → true ≡ nat_lt tx (length s.board.set.txns) → form ≡ form_of_plan tick r → Fixed b t
    → ((history : List Entry) → Stands b history → r ≡ plan_reply_of b history tx tick)
    → ((history : List Entry) → Stands b history → Stands t (noted history (plan_entry (record { 0 = tx }) tick r)))
    → Bounded t admitted → Planned tx tick 0 before form s (seen t admitted)
planned b t admitted s tx tick r before form view is made fixed answer after bounded =
    subst (λ (z : OpenSeen). true ≡ nat_lt tx (length z.board.set.txns) → Planned tx tick 0 before form z (seen t admitted)) view
    (λ in_set. record {
      status_is = known b tx in_set;
      refused = λ no. absurd (no refl);
      keeps = keeps b t admitted fixed bounded;
      first = fixed.2;
      answer = λ history ok stands. made ∙ ap (form_of_plan tick) (answer history stands);
      stands = λ history ok stands. subst (λ (a : Result JobId PlanRefused). Stands t (noted history (plan_entry (record { 0 = tx }) tick a))) (answer history stands) (after history stands);
    }) is

pub planned_next : (b t : CoreSeen) (admitted : Option Set) (s : OpenSeen) (tx : ℕ) (r : Result (JobId × ℕ) PlanRefused) (before form : TimeForm)
    → seen b admitted ≡ s → true ≡ nat_lt tx (length s.board.set.txns) → form ≡ form_of_plan_next r → Fixed b t
    → ((history : List Entry) → Stands b history → r ≡ plan_next_reply_of b history tx)
    → ((history : List Entry) → Stands b history → Stands t (noted history (plan_next_entry (record { 0 = tx }) r)))
    → Bounded t admitted → PlannedNext tx 0 before form s (seen t admitted)
planned_next b t admitted s tx r before form view is made fixed answer after bounded =
    subst (λ (z : OpenSeen). true ≡ nat_lt tx (length z.board.set.txns) → PlannedNext tx 0 before form z (seen t admitted)) view
    (λ in_set. record {
      status_is = known b tx in_set;
      refused = λ no. absurd (no refl);
      keeps = keeps b t admitted fixed bounded;
      first = fixed.2;
      answer = λ history ok stands. made ∙ ap form_of_plan_next (answer history stands);
      stands = λ history ok stands. subst (λ (a : Result (JobId × ℕ) PlanRefused). Stands t (noted history (plan_next_entry (record { 0 = tx }) a))) (answer history stands) (after history stands);
    }) is

pub idled : (b t : CoreSeen) (admitted : Option Set) (s : OpenSeen) (r : IdleReply) (form : TimeForm)
    → seen b admitted ≡ s → form ≡ form_of_idle r → Fixed b t
    → ((history : List Entry) → Stands b history → r ≡ idle_reply_of b history)
    → ((history : List Entry) → Stands b history → Stands t (noted history (idle_entry (now_of b.set history) r)))
    → Bounded t admitted → Idled 0 form s (seen t admitted)
idled b t admitted s r form view made fixed answer after bounded =
    subst (λ (z : OpenSeen). Idled 0 form z (seen t admitted)) view
    (record {
      status_is = refl;
      keeps = keeps b t admitted fixed bounded;
      first = fixed.2;
      answer = λ history stands. made ∙ ap form_of_idle (answer history stands);
      stands = λ history stands. subst (λ (a : IdleReply). Stands t (noted history (idle_entry (now_of b.set history) a))) (answer history stands) (after history stands);
    })

pub answered : (b t : CoreSeen) (admitted : Option Set) (s : OpenSeen) (job : JobId) (op : Op) (r : StepReply) (form : StepForm)
    → seen b admitted ≡ s → form ≡ form_of_step r → Fixed b t
    → ((history : List Entry) → Stands b history → r ≡ step_reply_of b history job op)
    → IsLawfulStep Stands set_of kept_by b t job op r → Bounded t admitted → AskedOf job op form s (seen t admitted)
answered b t admitted s job op r form view made fixed answer lawful bounded =
    subst (λ (z : OpenSeen). AskedOf job op form z (seen t admitted)) view
    (record {
      keeps = keeps b t admitted fixed bounded;
      first = fixed.2;
      answer = λ history stands. made ∙ ap form_of_step (answer history stands);
      stands = λ history stands. subst (λ (a : StepReply). Stands t (noted history (step_entry (now_of b.set history) job op a))) (answer history stands) (lawful.call history stands).stands;
      blocked_once = λ history stands. subst (λ (a : StepReply). IfBlocked a (IsFirstRefusal b.set history job)) (answer history stands) (lawful.blocked_once history stands);
    })

pub drained : (b t : CoreSeen) (admitted : Option Set) (s : OpenSeen) (count : ℕ) (moved : List Entry) (before after : List EntryForm)
    → seen b admitted ≡ s → count ≡ min (length before) (min (length b.journal.kept) 64) → moved ≡ take count b.journal.kept
    → after ≡ map form_of_entry moved ++ drop (length moved) before → t.journal.kept ≡ drop count b.journal.kept
    → (t.set ≡ b.set) × (t.journal.room ≡ b.journal.room) × (t.journal.first ≡ b.journal.first + count)
    → ((history : List Entry) → Stands b history → Stands t history) → Bounded t admitted → Drained 0 count before after s (seen t admitted)
drained b t admitted s count moved before after view many taken made left fixed stands bounded =
    let within : count ≤ length b.journal.kept = omega (arith, many) in
    let long : length moved ≡ count = ap length taken ∙ length-take-le count b.journal.kept within in
    subst (λ (z : OpenSeen). Drained 0 count before after z (seen t admitted)) view
    (record {
      status_is = refl;
      count_is = many;
      moved = made ∙ ap (λ (l : List Entry). map form_of_entry l ++ drop (length moved) before) taken ∙ ap (λ (n : ℕ). map form_of_entry (take count b.journal.kept) ++ drop n before) long;
      left = left;
      keeps = record { set = fixed.0; admitted = refl; room = fixed.1; bounds = bounded };
      first = fixed.2;
      stands = stands;
    })
