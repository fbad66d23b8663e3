-- The running job that the code finds is the definition's.
use Rattle.std.proofs.Common.{◌≡◌, ℕ, zero, suc, Bool, true, false, cond, List, [], ◌∷◌, length, Option, None, Some, slice_get, refl, ap, sym, ◌∙◌}
use Rattle.std.specs.Prelude.{nat_lt}
use Rattle.std.specs.Option.{option_map, option_and_then}
use Rattle.rt_base.specs.declared.ids.JobId.{JobId}
use Rattle.txn_set.specs.Set.{Set}
use Rattle.step_journal.specs.State.{Row, pending, prio}
use Rattle.step_journal.specs.LockRule.{placed, in_falling_priority, highest}
use Rattle.step_journal.specs.Running.{job_row, followed, running}
use Rattle.plain_core.specs.declared.slot.Head.{Head}
use Rattle.plain_core.specs.Slots.{head_of}
use Rattle.plain_core.specs.Rules.{higher_by, highest_by, followed_by, running_by}

first_at : (b : Bool) (r x : Row) (xs ys : List Row) → slice_get (cond b (r ∷ xs) (x ∷ ys)) 0 ≡ cond b (Some r) (Some x)
first_at true r x xs ys = refl
first_at false r x xs ys = refl

heads_at : (b : Bool) (r x : Row) → cond b (Some (head_of r)) (Some (head_of x)) ≡ option_map head_of (cond b (Some r) (Some x))
heads_at true r x = refl
heads_at false r x = refl

pub higher_is : (set : Set) (r : Row) (l : List Row) → higher_by set.txns (Some (head_of r)) (option_map head_of (slice_get l 0)) ≡ option_map head_of (slice_get (placed set r l) 0)
higher_is set r [] = refl
higher_is set r (x ∷ xs) =
    heads_at (nat_lt (prio set x) (prio set r)) r x
    ∙ ap (option_map head_of) (sym (first_at (nat_lt (prio set x) (prio set r)) r x (x ∷ xs) (placed set r xs)))

pub highest_is : (set : Set) (rows : List (Option Row)) → highest_by set.txns rows ≡ option_map head_of (highest set (pending rows))
unfolding highest
highest_is set [] = refl
highest_is set (None ∷ rows) = highest_is set rows
highest_is set (Some r ∷ rows) =
    ap (higher_by set.txns (Some (head_of r))) (highest_is set rows) ∙ higher_is set r (in_falling_priority set (pending rows))

followed_next : (rows : List (Option Row)) (n : ℕ) (o : Option Row) → ((r : Row) → followed_by rows n (head_of r) r.waits_on ≡ option_map head_of (followed rows n r r.waits_on))
    → option_and_then (λ r. followed_by rows n (head_of r) r.waits_on) o ≡ option_map head_of (option_and_then (λ r. followed rows n r r.waits_on) o)
followed_next rows n None h = refl
followed_next rows n (Some r) h = h r

pub followed_is : (rows : List (Option Row)) (n : ℕ) (r : Row) (o : Option JobId) → followed_by rows n (head_of r) o ≡ option_map head_of (followed rows n r o)
followed_is rows n r None = refl
followed_is rows zero r (Some on) = refl
followed_is rows (suc n) r (Some on) = followed_next rows n (job_row rows on) (λ q. followed_is rows n q q.waits_on)

runs_at : (rows : List (Option Row)) (n : ℕ) (o : Option Row)
    → option_and_then (λ h. followed_by rows n h h.waits_on) (option_map head_of o) ≡ option_map head_of (option_and_then (λ r. followed rows n r r.waits_on) o)
runs_at rows n None = refl
runs_at rows n (Some r) = followed_is rows n r r.waits_on

job_at : (o : Option Row) → option_map (λ h. h.job) (option_map head_of o) ≡ option_map (λ r. r.job) o
job_at None = refl
job_at (Some r) = refl

pub running_is : (set : Set) (rows : List (Option Row)) → running_by set.txns rows ≡ option_map (λ r. r.job) (running set rows)
unfolding running
running_is set rows =
    ap (λ (o : Option Head). option_map (λ h. h.job) (option_and_then (λ h. followed_by rows (length rows) h h.waits_on) o)) (highest_is set rows)
    ∙ (ap (option_map (λ h. h.job)) (runs_at rows (length rows) (highest set (pending rows))) ∙ job_at (option_and_then (λ r. followed rows (length rows) r r.waits_on) (highest set (pending rows))))
