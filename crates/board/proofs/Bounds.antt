-- After every legal history the planned ticks are small, and so is the time where a job is pending.
use Rattle.std.proofs.Common.{◌≡◌, ℕ, zero, suc, ◌+◌, ◌^◌, ◌<◌, ◌≤◌, Bool, true, false, List, [], ◌∷◌, length, map, Option, None, Some, get_or, set as with_item, refl, ap, ◌∙◌, arith}
use Rattle.std.specs.List.{filter, fold}
use Rattle.std.specs.Option.{option_map, option_and_then}
use Rattle.rt_base.specs.declared.operation.Op.{Op}
use Rattle.rt_base.specs.declared.operation.End.{End}
use Rattle.step_journal.specs.declared.entry.Entry.{Entry}
use Rattle.step_journal.specs.declared.entry.Entry.TheVariants.{Planned, Idle}
use Rattle.txn_set.specs.Set.{Set, IsCompiled}
use Rattle.step_journal.specs.State.{State, Row, opening, pending}
use Rattle.rt_base.specs.declared.release.Plans.{Plans}
use Rattle.step_journal.specs.LockRule.{Above, in_falling_priority}
use Rattle.step_journal.specs.Instant.{with_end, with_late, is_due, with_cancellations, with_releases, arrived}
use Rattle.step_journal.specs.Running.{running, of_job}
use Rattle.step_journal.specs.Step.{Event, plan, ask, idle, step, given, plans_of, may_plan, with_plan, lock_refusal, row_after, end_by, settled, after_effect, with_step, with_wait, answered, asked, may_ask, idled, next_tick}
use Rattle.step_journal.specs.History.{IsLegal, state_of, states_after, state_after, state_given, event_of}
use Rattle.law_histories.proofs.Invariant.{IsPending, in_range}
use Rattle.law_histories.proofs.Calendar.{times_at}
use Rattle.law_histories.proofs.Never.{legal_sound}
use Rattle.law_histories.proofs.Counts.{no_plans}
use Rattle.law_histories.proofs.Rooms.{tick_limit as may_plan_early}

-- only a plan changes the plans

late_plans : (t : ℕ) (rows : List Row) (s : State) → (fold (with_late t) s rows).plans ≡ s.plans
unfolding with_end
late_plans t [] s = refl
late_plans t (r ∷ rs) s = late_plans t rs (with_late t s r)

pub arrived_plans : (set : Set) (t : ℕ) (s : State) → (arrived set t s).plans ≡ s.plans
unfolding arrived with_releases with_cancellations
arrived_plans set t s = late_plans t (in_falling_priority set (filter (is_due set t) (pending s.rows))) (record s { now = t })

settled_plans : (set : Set) (row : Row) (t : ℕ) (o : Option End) (s : State) → (settled set row t o s).plans ≡ s.plans
unfolding with_end
settled_plans set row t None s = refl
settled_plans set row t (Some e) s = refl

answered_plans : (set : Set) (s : State) (row : Row) (op : Op) (o : Option Above) → (answered set s row op o).1.plans ≡ s.plans
unfolding with_step after_effect with_wait
answered_plans set s row op None =
    arrived_plans set (s.now + 1) (settled set (row_after s row op) (s.now + 1) (end_by set (row_after s row op) (s.now + 1) op) s)
    ∙ settled_plans set (row_after s row op) (s.now + 1) (end_by set (row_after s row op) (s.now + 1) op) s
answered_plans set s row op (Some above) = refl

given_plans : (s : State) (b : Bool) (p : Entry × State) → p.1.plans ≡ s.plans → (state_given s (given b p)).plans ≡ s.plans
given_plans s true p h = h
given_plans s false p h = refl

pub asked_plans : (set : Set) (s : State) (op : Op) (o : Option Row) → (state_given s (option_and_then (asked set s op) o)).plans ≡ s.plans
asked_plans set s op None = refl
asked_plans set s op (Some row) = given_plans s (may_ask set row op) (answered set s row op (lock_refusal set s row op)) (answered_plans set s row op (lock_refusal set s row op))

pub idled_plans : (set : Set) (s : State) (rows : List Row) (o : Option ℕ) → next_tick s.planned ≡ o → (state_given s (idled set s rows)).plans ≡ s.plans
idled_plans set s (r ∷ rs) o e = refl
idled_plans set s [] None e = ap (λ (n : Option ℕ). (state_given s (option_map (λ t. (Idle s.now t, arrived set t s)) n)).plans) e
idled_plans set s [] (Some t) e = ap (λ (n : Option ℕ). (state_given s (option_map (λ t. (Idle s.now t, arrived set t s)) n)).plans) e ∙ arrived_plans set t s

-- the last planned tick

abbrev pub AreEarly : State → Type 0
AreEarly s = (n : ℕ) → (plans_of s n).last ≤ 2 ^ 40

early_set : (plans : List Plans) (i n : ℕ) (p : Plans) → p.last ≤ 2 ^ 40 → (get_or plans n no_plans).last ≤ 2 ^ 40 → (get_or (with_item plans i p) n no_plans).last ≤ 2 ^ 40
early_set [] i n p h k = k
early_set (q ∷ qs) zero zero p h k = h
early_set (q ∷ qs) zero (suc n) p h k = k
early_set (q ∷ qs) (suc i) zero p h k = k
early_set (q ∷ qs) (suc i) (suc n) p h k = early_set qs i n p h k

plan_early : (set : Set) (s : State) (tx tick : ℕ) (b : Bool) (e : Entry) → may_plan set s tx tick ≡ b → AreEarly s → AreEarly (state_given s (given b (e, with_plan s tx tick)))
unfolding with_plan
plan_early set s tx tick true e may h n = early_set s.plans tx n (record { number = (plans_of s tx).number + 1; last = tick }) (may_plan_early set s tx tick may) (h n)
plan_early set s tx tick false e may h n = h n

same_early : (s s' : State) → s'.plans ≡ s.plans → AreEarly s → AreEarly s'
same_early s s' e h n = omega (arith, h n, ap (λ (l : List Plans). (get_or l n no_plans).last) e)

step_early : (set : Set) (s : State) (event : Event) → AreEarly s → AreEarly (state_given s (step set s event))
unfolding step
step_early set s (plan tx tick) h = plan_early set s tx tick (may_plan set s tx tick) (Planned (record { 0 = tx }) tick) refl h
step_early set s (ask job op) h = same_early s (state_given s (option_and_then (asked set s op) (option_and_then (of_job job) (running set s.rows)))) (asked_plans set s op (option_and_then (of_job job) (running set s.rows))) h
step_early set s idle h = same_early s (state_given s (idled set s (pending s.rows))) (idled_plans set s (pending s.rows) (next_tick s.planned) refl) h

after_early : (set : Set) (s : State) (es : List Entry) → AreEarly s → AreEarly (states_after set s es)
after_early set s [] h = h
after_early set s (e ∷ es) h = after_early set (state_after set s e) es (step_early set s (event_of e) h)

nothing_early : {A : Type 0} (xs : List A) (n : ℕ) → (get_or (map (λ t. no_plans) xs) n no_plans).last ≤ 2 ^ 40
nothing_early [] n = omega arith
nothing_early (x ∷ xs) zero = omega arith
nothing_early (x ∷ xs) (suc n) = nothing_early xs n

opening_early : (set : Set) → AreEarly (opening set)
unfolding opening
opening_early set n = nothing_early set.txns n

pub plans_early : (set : Set) (history : List Entry) (n : ℕ) → (plans_of (state_of set history) n).last ≤ 2 ^ 40
plans_early set history n = after_early set (opening set) history (opening_early set) n

-- where a job is pending the next tick is at most its release and its deadline
pub pending_early : (set : Set) (history : List Entry) (x : Row) → IsCompiled set → IsLegal set history → IsPending (state_of set history).rows x → (state_of set history).now + 1 ≤ 2 ^ 40 + 2 ^ 30
pending_early set history x ok legal here =
    let sound = legal_sound set history ok legal in
    let lt : x.job.tx.0 < length set.txns = omega (arith, in_range (state_of set history).rows _ x here, sound.frame.count) in
    let t = times_at set x.job.tx.0 ok lt in
    omega (arith, sound.calendar.alive x here, (sound.calendar.released x here).0, plans_early set history x.job.tx.0, t.deadline.1, t.period.1)
