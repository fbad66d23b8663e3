-- There is one run of a workload: each entry is the step's for the event that the state fixes, and where nothing is pending
-- and nothing planned no event is fixed.
use Rattle.std.proofs.Common.{◌≡◌, List, [], ◌∷◌, ◌++◌, length, Option, None, Some, refl, sym, ap, subst, ◌∙◌, append_assoc, append-nil}
use Rattle.step_journal.specs.declared.entry.Entry.{Entry}
use Rattle.std.specs.Prelude.{slice_get}
use Rattle.std.specs.Option.{option_and_then}
use Rattle.txn_set.specs.Set.{Set}
use Rattle.step_journal.specs.State.{State, Row, opening, pending}
use Rattle.step_journal.specs.LockRule.{in_falling_priority, highest}
use Rattle.step_journal.specs.Running.{followed, running}
use Rattle.step_journal.specs.Step.{Event, step}
use Rattle.step_journal.specs.History.{IsLegalFrom, state_of, states_after, state_after, event_of, entry_given}
use Rattle.law_histories.specs.Sim.{Workload, IsSim, IsFixed, OneSim, plans, next_event, event_for, event_in}

pub some_same : {A : Type 0} (a b : A) → Some a ≡ Some b → a ≡ b
some_same a b e = cc

-- the state after a history and more entries
states_append : (w : Workload) (s : State) (xs ys : List Entry) → states_after w.set s (xs ++ ys) ≡ states_after w.set (states_after w.set s xs) ys
states_append w s [] ys = refl
states_append w s (x ∷ xs) ys = states_append w (state_after w.set s x) xs ys

legal_rest : (w : Workload) (s : State) (xs ys : List Entry) → IsLegalFrom w.set s (xs ++ ys) → IsLegalFrom w.set (states_after w.set s xs) ys
legal_rest w s [] ys h = h
legal_rest w s (x ∷ xs) ys h = legal_rest w (state_after w.set s x) xs ys h.1

-- with nothing pending and nothing planned no event is fixed
pub none_runs : (set : Set) (rows : List (Option Row)) → pending rows ≡ [] → running set rows ≡ None
unfolding running highest
none_runs set rows h = ap (λ (l : List Row). option_and_then (λ (r : Row). followed rows (length rows) r r.waits_on) (slice_get (in_falling_priority set l) 0)) h

pub no_event : (w : Workload) (h : List Entry) → pending (state_of w.set h).rows ≡ [] → (state_of w.set h).planned ≡ [] → next_event w h ≡ None
no_event w h pend plan =
    ap (λ (o : Option Row). event_for w h (state_of w.set h) o) (none_runs w.set (state_of w.set h).rows pend) ∙ ap event_in plan

-- two ways to go on from one history are one
same_rest : (w : Workload) (before xs ys : List Entry) → IsFixed w before xs → IsFixed w before ys
    → IsLegalFrom w.set (state_of w.set before) xs → IsLegalFrom w.set (state_of w.set before) ys
    → next_event w (before ++ xs) ≡ None → next_event w (before ++ ys) ≡ None → xs ≡ ys
same_rest w before [] [] fx fy lx ly ox oy = refl
same_rest w before [] (y ∷ ys) fx fy lx ly ox oy =
    let none : next_event w before ≡ None = ap (next_event w) (sym (append-nil before)) ∙ ox in
    absurd (cc (none, fy.0))
same_rest w before (x ∷ xs) [] fx fy lx ly ox oy =
    let none : next_event w before ≡ None = ap (next_event w) (sym (append-nil before)) ∙ oy in
    absurd (cc (none, fx.0))
same_rest w before (x ∷ xs) (y ∷ ys) fx fy lx ly ox oy =
    let event : event_of x ≡ event_of y = some_same _ _ (sym fx.0 ∙ fy.0) in
    let entry : Some x ≡ Some y = sym lx.0 ∙ (ap (λ (e : Event). entry_given (step w.set (state_of w.set before) e)) event ∙ ly.0) in
    let same : x ≡ y = some_same _ _ entry in
    let next : (z : Entry) → state_of w.set (before ++ z ∷ []) ≡ state_after w.set (state_of w.set before) z = λ z. states_append w _ before (z ∷ []) in
    let more : (z : Entry) (zs : List Entry) → (before ++ z ∷ []) ++ zs ≡ before ++ z ∷ zs = λ z zs. append_assoc before (z ∷ []) zs in
    let fy' : IsFixed w (before ++ x ∷ []) ys = subst (λ (e : Entry). IsFixed w (before ++ e ∷ []) ys) (sym same) fy.1 in
    let ly' : IsLegalFrom w.set (state_of w.set (before ++ x ∷ [])) ys =
    subst (λ (e : Entry). IsLegalFrom w.set (state_of w.set (before ++ e ∷ [])) ys) (sym same) (subst (λ (s : State). IsLegalFrom w.set s ys) (sym (next y)) ly.1) in
    let lx' : IsLegalFrom w.set (state_of w.set (before ++ x ∷ [])) xs = subst (λ (s : State). IsLegalFrom w.set s xs) (sym (next x)) lx.1 in
    let ox' : next_event w ((before ++ x ∷ []) ++ xs) ≡ None = ap (next_event w) (more x xs) ∙ ox in
    let oy' : next_event w ((before ++ x ∷ []) ++ ys) ≡ None = ap (next_event w) (more x ys ∙ ap (λ (e : Entry). before ++ e ∷ ys) same) ∙ oy in
    let tails : xs ≡ ys = same_rest w (before ++ x ∷ []) xs ys fx.1 fy' lx' ly' ox' oy' in
    ap (λ (e : Entry). e ∷ xs) same ∙ ap (λ (t : List Entry). y ∷ t) tails

pub one_sim : OneSim
one_sim w h k sh sk =
    let legal : (g : List Entry) (sg : IsSim w g) → IsLegalFrom w.set (state_of w.set (plans w)) sg.rest =
    λ g sg. legal_rest w (opening w.set) (plans w) sg.rest (subst (λ (l : List Entry). IsLegalFrom w.set (opening w.set) l) sg.begins sg.legal) in
    let over : (g : List Entry) (sg : IsSim w g) → next_event w (plans w ++ sg.rest) ≡ None =
    λ g sg. ap (next_event w) (sym sg.begins) ∙ no_event w g sg.none_pending sg.none_planned in
    let same : sh.rest ≡ sk.rest = same_rest w (plans w) sh.rest sk.rest sh.fixed sk.fixed (legal h sh) (legal k sk) (over h sh) (over k sk) in
    sh.begins ∙ (ap (λ (l : List Entry). plans w ++ l) same ∙ sym sk.begins)
