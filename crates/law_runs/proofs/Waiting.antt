-- How many releases are planned and have not taken place: each plan adds one at most, and no other entry adds any.
use Rattle.std.proofs.Common.{◌≡◌, ℕ, ◌+◌, ◌≤◌, ◌==◌, Bool, true, false, cond, not, List, [], ◌∷◌, ◌++◌, length, Option, None, Some, refl, ap, arith, length-append}
use Rattle.std.proofs.lemmas.List.Filters.{length-filter_both}
use Rattle.std.specs.List.{filter, fold}
use Rattle.std.specs.Option.{option_map, option_and_then}
use Rattle.rt_base.specs.declared.operation.Op.{Op}
use Rattle.rt_base.specs.declared.operation.End.{End}
use Rattle.rt_base.specs.declared.release.Release.{Release}
use Rattle.txn_set.specs.Set.{Set}
use Rattle.step_journal.specs.declared.entry.Entry.{Entry}
use Rattle.step_journal.specs.declared.entry.Entry.TheVariants.{Planned, Step, Blocked, Idle}
use Rattle.step_journal.specs.State.{State, Row, opening, pending}
use Rattle.step_journal.specs.LockRule.{Above, in_falling_priority}
use Rattle.step_journal.specs.Running.{running, of_job}
use Rattle.step_journal.specs.Instant.{with_end, with_late, is_due, with_cancellations, with_releases, arrived}
use Rattle.step_journal.specs.Step.{step, given, may_plan, with_plan, next_job, lock_refusal, row_after, end_by, settled, after_effect, with_step, with_wait, answered, asked, may_ask, idled, next_tick}
use Rattle.step_journal.specs.History.{state_of, states_after, state_after, state_given}
use Rattle.txn_threads.specs.Plans.{plan_number}
use Rattle.sim_run.proofs.Planning.{after_few as plan_planned}

late_planned : (t : ℕ) (rows : List Row) (s : State) → (fold (with_late t) s rows).planned ≡ s.planned
unfolding with_end
late_planned t [] s = refl
late_planned t (r ∷ rs) s = late_planned t rs (with_late t s r)

later_ones : (t : ℕ) (rs : List Release) → length (filter (λ r. not (r.tick == t)) rs) ≤ length rs
later_ones t rs = omega (arith, length-filter_both (λ (r : Release). r.tick == t) (λ (r : Release). not (r.tick == t)) (λ r. refl) rs)

arrived_planned : (set : Set) (t : ℕ) (s : State) → length (arrived set t s).planned ≤ length s.planned
unfolding arrived with_releases with_cancellations
arrived_planned set t s =
    let gone : List Row = in_falling_priority set (filter (is_due set t) (pending s.rows)) in
    let same = ap (λ (l : List Release). length (filter (λ (r : Release). not (r.tick == t)) l)) (late_planned t gone (record s { now = t })) in
    omega (arith, same, later_ones t s.planned)

settled_planned : (set : Set) (row : Row) (t : ℕ) (o : Option End) (s : State) → (settled set row t o s).planned ≡ s.planned
unfolding with_end
settled_planned set row t None s = refl
settled_planned set row t (Some e) s = refl

answered_planned : (set : Set) (s : State) (row : Row) (op : Op) (o : Option Above) → length (answered set s row op o).1.planned ≤ length s.planned
unfolding with_step after_effect with_wait
answered_planned set s row op None =
    let how : Option End = end_by set (row_after s row op) (s.now + 1) op in
    let same = ap (λ (l : List Release). length l) (settled_planned set (row_after s row op) (s.now + 1) how s) in
    omega (arith, arrived_planned set (s.now + 1) (settled set (row_after s row op) (s.now + 1) how s), same)
answered_planned set s row op (Some above) = omega arith

given_planned : (s : State) (b : Bool) (p : Entry × State) (d : ℕ) → length p.1.planned ≤ length s.planned + d
    → length (state_given s (given b p)).planned ≤ length s.planned + d
given_planned s true p d h = h
given_planned s false p d h = omega arith

asked_planned : (set : Set) (s : State) (op : Op) (o : Option Row) → length (state_given s (option_and_then (asked set s op) o)).planned ≤ length s.planned + 0
asked_planned set s op None = omega arith
asked_planned set s op (Some row) =
    given_planned s (may_ask set row op) (answered set s row op (lock_refusal set s row op)) 0
    (omega (arith, answered_planned set s row op (lock_refusal set s row op)))

idled_planned : (set : Set) (s : State) (rows : List Row) (o : Option ℕ) → next_tick s.planned ≡ o
    → length (state_given s (idled set s rows)).planned ≤ length s.planned + 0
idled_planned set s (r ∷ rs) o e = omega arith
idled_planned set s [] None e =
    omega (arith, ap (λ (n : Option ℕ). length (state_given s (option_map (λ t. (Idle s.now t, arrived set t s)) n)).planned) e)
idled_planned set s [] (Some t) e =
    omega (arith, ap (λ (n : Option ℕ). length (state_given s (option_map (λ t. (Idle s.now t, arrived set t s)) n)).planned) e, arrived_planned set t s)

one_more : (s : State) (tx tick : ℕ) (b : Bool)
    → length (cond b s.planned (s.planned ++ record { job = next_job s tx; tick = tick } ∷ [])) ≤ length s.planned + 1
one_more s tx tick true = omega arith
one_more s tx tick false = omega (arith, length-append s.planned (record { job = next_job s tx; tick = tick } ∷ []))

pub entry_planned : (set : Set) (s : State) (e : Entry) → length (state_after set s e).planned ≤ length s.planned + plan_number e
unfolding step
entry_planned set s (Planned tx tick) = given_planned s (may_plan set s tx.0 tick) (Planned (record { 0 = tx.0 }) tick, with_plan s tx.0 tick) 1 (plan_planned s tx.0 tick)
entry_planned set s (Step job op outcome over tick) = asked_planned set s op (option_and_then (of_job job) (running set s.rows))
entry_planned set s (Blocked job op by ceiling tick) = asked_planned set s op (option_and_then (of_job job) (running set s.rows))
entry_planned set s (Idle from to) = idled_planned set s (pending s.rows) (next_tick s.planned) refl

one_at_most : (e : Entry) → plan_number e ≤ 1
one_at_most (Planned tx tick) = omega arith
one_at_most (Step job op outcome over tick) = omega arith
one_at_most (Blocked job op by ceiling tick) = omega arith
one_at_most (Idle from to) = omega arith

after_planned : (set : Set) (s : State) (es : List Entry) → length (states_after set s es).planned ≤ length s.planned + length es
after_planned set s [] = omega arith
after_planned set s (e ∷ es) = omega (arith, after_planned set (state_after set s e) es, entry_planned set s e, one_at_most e)

opening_planned : (set : Set) → (opening set).planned ≡ []
unfolding opening
opening_planned set = refl

-- after every history they are at most its entries
pub few_planned : (set : Set) (es : List Entry) → length (state_of set es).planned ≤ length es
few_planned set es =
    let none = ap (λ (l : List Release). length l) (opening_planned set) in
    omega (arith, after_planned set (opening set) es, none)
