-- After every legal history there is a stored value for each item of the set.
use Rattle.std.proofs.Common.{◌≡◌, ℕ, ◌+◌, Bool, true, false, List, [], ◌∷◌, length, Option, None, Some, refl, ap, ◌∙◌}
use Rattle.std.proofs.lemmas.List.{length-set, length-map}
use Rattle.std.specs.List.{filter, fold}
use Rattle.std.specs.Option.{option_map, option_and_then}
use Rattle.item_model.specs.declared.stored.Stored.{Stored}
use Rattle.item_model.specs.declared.stored.OwnWrite.{OwnWrite}
use Rattle.rt_base.specs.declared.operation.Op.{Op}
use Rattle.rt_base.specs.declared.operation.End.{End}
use Rattle.rt_base.specs.declared.operation.End.TheVariants as end
use Rattle.step_journal.specs.declared.entry.Entry.{Entry}
use Rattle.step_journal.specs.declared.entry.Entry.TheVariants.{Planned, Idle}
use Rattle.txn_set.specs.Set.{Set}
use Rattle.item_model.specs.Work.{Work, write_installed, items_after}
use Rattle.step_journal.specs.State.{State, Row, opening, pending}
use Rattle.step_journal.specs.LockRule.{Above, in_falling_priority}
use Rattle.step_journal.specs.Instant.{with_end, with_late, is_due, with_cancellations, with_releases, arrived}
use Rattle.step_journal.specs.Running.{running, of_job}
use Rattle.step_journal.specs.Step.{Event, plan, ask, idle, step, given, may_plan, with_plan, lock_refusal, row_after, end_by, settled, after_effect, with_step, with_wait, answered, asked, may_ask, idled, next_tick}
use Rattle.step_journal.specs.History.{state_of, states_after, state_after, state_given, event_of}

late_items : (t : ℕ) (rows : List Row) (s : State) → (fold (with_late t) s rows).items ≡ s.items
unfolding with_end
late_items t [] s = refl
late_items t (r ∷ rs) s = late_items t rs (with_late t s r)

pub arrived_items : (set : Set) (t : ℕ) (s : State) → (arrived set t s).items ≡ s.items
unfolding arrived with_releases with_cancellations
arrived_items set t s = late_items t (in_falling_priority set (filter (is_due set t) (pending s.rows))) (record s { now = t })

installed_count : (set : Set) (work : Work) (release : ℕ) (writes : List OwnWrite) (items : List Stored) → length (fold (write_installed set.items work release) items writes) ≡ length items
installed_count set work release [] items = refl
installed_count set work release (w ∷ ws) items = installed_count set work release ws (write_installed set.items work release items w) ∙ length-set items w.item.0 _

after_count : (set : Set) (work : Work) (release : ℕ) (e : End) (items : List Stored) → length (items_after set.items work release e items) ≡ length items
after_count set work release end.Committed items = installed_count set work release work.writes items
after_count set work release other items = refl

settled_count : (set : Set) (row : Row) (t : ℕ) (o : Option End) (s : State) → length (settled set row t o s).items ≡ length s.items
unfolding with_end
settled_count set row t None s = refl
settled_count set row t (Some e) s = after_count set row.work row.release e s.items

answered_count : (set : Set) (s : State) (row : Row) (op : Op) (o : Option Above) → length (answered set s row op o).1.items ≡ length s.items
unfolding with_step after_effect with_wait
answered_count set s row op None =
    ap (λ (l : List Stored). length l) (arrived_items set (s.now + 1) (settled set (row_after s row op) (s.now + 1) (end_by set (row_after s row op) (s.now + 1) op) s))
    ∙ settled_count set (row_after s row op) (s.now + 1) (end_by set (row_after s row op) (s.now + 1) op) s
answered_count set s row op (Some above) = refl

given_count : (s : State) (b : Bool) (p : Entry × State) → length p.1.items ≡ length s.items → length (state_given s (given b p)).items ≡ length s.items
given_count s true p h = h
given_count s false p h = refl

asked_count : (set : Set) (s : State) (op : Op) (o : Option Row) → length (state_given s (option_and_then (asked set s op) o)).items ≡ length s.items
asked_count set s op None = refl
asked_count set s op (Some row) = given_count s (may_ask set row op) (answered set s row op (lock_refusal set s row op)) (answered_count set s row op (lock_refusal set s row op))

idled_count : (set : Set) (s : State) (rows : List Row) (o : Option ℕ) → next_tick s.planned ≡ o → length (state_given s (idled set s rows)).items ≡ length s.items
idled_count set s (r ∷ rs) o e = refl
idled_count set s [] None e = ap (λ (n : Option ℕ). length (state_given s (option_map (λ t. (Idle s.now t, arrived set t s)) n)).items) e
idled_count set s [] (Some t) e = ap (λ (n : Option ℕ). length (state_given s (option_map (λ t. (Idle s.now t, arrived set t s)) n)).items) e ∙ ap (λ (l : List Stored). length l) (arrived_items set t s)

plan_count : (set : Set) (s : State) (tx tick : ℕ) → length (with_plan s tx tick).items ≡ length s.items
unfolding with_plan
plan_count set s tx tick = refl

step_count : (set : Set) (s : State) (event : Event) → length (state_given s (step set s event)).items ≡ length s.items
unfolding step
step_count set s (plan tx tick) = given_count s (may_plan set s tx tick) (Planned (record { 0 = tx }) tick, with_plan s tx tick) (plan_count set s tx tick)
step_count set s (ask job op) = asked_count set s op (option_and_then (of_job job) (running set s.rows))
step_count set s idle = idled_count set s (pending s.rows) (next_tick s.planned) refl

after_all : (set : Set) (s : State) (es : List Entry) → length (states_after set s es).items ≡ length s.items
after_all set s [] = refl
after_all set s (e ∷ es) = after_all set (state_after set s e) es ∙ step_count set s (event_of e)

opening_count : (set : Set) → length (opening set).items ≡ length set.items
unfolding opening
opening_count set = length-map set.items (λ d. record { value = d.initial; stamp = 0 })

pub items_count : (set : Set) (history : List Entry) → length (state_of set history).items ≡ length set.items
items_count set history = after_all set (opening set) history ∙ opening_count set
