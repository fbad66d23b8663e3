-- What the marks of each kind show.
use Rattle.std.proofs.Common.{◌≡◌, ℕ, zero, suc, ◌+◌, ◌-◌, Bool, true, false, cond, ◌&&◌, nat_lt, nat_le, ◌<◌, ◌≤◌, List, [], ◌∷◌, ◌++◌, map, Option, None, Some, refl, ap, sym, ◌∙◌, append-nil}
use Rattle.std.proofs.lemmas.Bool.{and_from, and_parts, ltb-true, leb-true, lt-ltb, le-leb}
use Rattle.std.proofs.lemmas.List.Elements.{filter_map-append}
use Rattle.std.specs.List.{filter, filter_map, cons_option, list_any}
use Rattle.std.specs.Option.{option_map, option_and_then}
use Rattle.rt_base.specs.declared.ids.ItemId.{ItemId}
use Rattle.rt_base.specs.declared.ids.JobId.{JobId}
use Rattle.rt_base.specs.declared.operation.Op.{Op}
use Rattle.rt_base.specs.declared.operation.End.{End}
use Rattle.txn_set.specs.Set.{Set}
use Rattle.txn_set.specs.Ceilings.{greatest}
use Rattle.step_journal.specs.State.{Row, pending}
use Rattle.step_journal.specs.LockRule.{in_falling_priority}
use Rattle.step_journal.specs.History.{state_of}
use Rattle.step_journal.specs.declared.entry.Entry.{Entry}
use Rattle.step_journal.specs.declared.entry.Entry.TheVariants.{Planned, Step, Blocked, Idle}
use Rattle.step_journal.specs.declared.entry.EndedJob.{EndedJob}
use Rattle.law_histories.proofs.Lists.{filter_map_same}
use Rattle.job_rows.specs.declared.row.JobRow.{JobRow}
use Rattle.job_rows.specs.Rows.{ended_row, pending_row, job_rows}
use Rattle.schedule_marks.specs.declared.part.Part.{Part}
use Rattle.schedule_marks.specs.declared.mark.Mark.{Mark}
use Rattle.schedule_marks.specs.declared.mark.Mark.TheVariants as mark
use Rattle.schedule_marks.specs.Parts.{has_tick, has_instant, meets}
use Rattle.schedule_marks.specs.Marks.{until, until_of, last_instant, pending_in, release_in, deadline_in, end_at, end_in, step_in, refusal_in, wait_in, lock_by, shows_lock, lock_until, lock_mark, lock_from, lock_in, locks_along, present, locks_of, ceiling_by, ceilings_from, spans_of, marks_to, marks_of}
use Rattle.law_texts.specs.Ceilings.{Drawn, drawn_of, ceilings_in, ticks_from}
use Rattle.law_texts.specs.Drawn.{if_within, lock_shown, wait_shown, job_shown}
use Rattle.law_texts.specs.ShownMarks.{granted_of, refused_of, release_of, deadline_of, ending_of, granted_by, refused_by, released_by, due_by, ended_by, ended_as, ShowsEach}

-- ---- lists that are picked from lists that were picked

picked_at : {A B : Type 0} (p : A → Option B) (o : Option A) (ms : List A) → filter_map p (cons_option o ms) ≡ cons_option (option_and_then p o) (filter_map p ms)
picked_at p None ms = refl
picked_at p (Some m) ms = refl

pub picked : {A B C : Type 0} (p : B → Option C) (f : A → Option B) (xs : List A) → filter_map p (filter_map f xs) ≡ filter_map (λ x. option_and_then p (f x)) xs
picked p f [] = refl
picked p f (x ∷ xs) = picked_at p (f x) (filter_map f xs) ∙ ap (λ l. cons_option (option_and_then p (f x)) l) (picked p f xs)

nothing : {A B : Type 0} (f : A → Option B) (xs : List A) → ((x : A) → f x ≡ None) → filter_map f xs ≡ []
nothing f [] h = refl
nothing f (x ∷ xs) h = ap (λ o. cons_option o (filter_map f xs)) (h x) ∙ nothing f xs h

none_picked : {A B C : Type 0} (p : B → Option C) (f : A → Option B) (xs : List A) → ((x : A) → option_and_then p (f x) ≡ None) → filter_map p (filter_map f xs) ≡ []
none_picked p f xs h = picked p f xs ∙ nothing (λ x. option_and_then p (f x)) xs h

-- a value, where it passes
abbrev pub kept : {A : Type 0} → (A → Bool) → Option A → Option A
kept q None = None
kept q (Some a) = cond (q a) (Some a) None

kept_if : {A : Type 0} (b : Bool) (a : A) (rest : List A) → cond b (a ∷ rest) rest ≡ cons_option (cond b (Some a) None) rest
kept_if true a rest = refl
kept_if false a rest = refl

kept_at : {A : Type 0} (q : A → Bool) (o : Option A) (rest : List A) → filter q (cons_option o rest) ≡ cons_option (kept q o) (filter q rest)
kept_at q None rest = refl
kept_at q (Some a) rest = kept_if (q a) a (filter q rest)

kept_all : {A B : Type 0} (q : B → Bool) (g : A → Option B) (xs : List A) → filter q (filter_map g xs) ≡ filter_map (λ x. kept q (g x)) xs
kept_all q g [] = refl
kept_all q g (x ∷ xs) = kept_at q (g x) (filter_map g xs) ∙ ap (λ l. cons_option (kept q (g x)) l) (kept_all q g xs)

kept_each : {A B : Type 0} (q : B → Bool) (g : A → B) (xs : List A) → filter q (map g xs) ≡ filter_map (λ x. kept q (Some (g x))) xs
kept_each q g [] = refl
kept_each q g (x ∷ xs) = kept_if (q (g x)) (g x) (filter q (map g xs)) ∙ ap (λ l. cons_option (kept q (Some (g x))) l) (kept_each q g xs)

picked_is : {A B C : Type 0} (p : B → Option C) (f : A → Option B) (q : C → Bool) (g : A → Option C) (xs : List A) → ((x : A) → option_and_then p (f x) ≡ kept q (g x))
    → filter_map p (filter_map f xs) ≡ filter q (filter_map g xs)
picked_is p f q g xs h = picked p f xs ∙ filter_map_same (λ x. option_and_then p (f x)) (λ x. kept q (g x)) xs h ∙ sym (kept_all q g xs)

picked_each : {A B C : Type 0} (p : B → Option C) (f : A → Option B) (q : C → Bool) (g : A → C) (xs : List A) → ((x : A) → option_and_then p (f x) ≡ kept q (Some (g x)))
    → filter_map p (filter_map f xs) ≡ filter q (map g xs)
picked_each p f q g xs h = picked p f xs ∙ filter_map_same (λ x. option_and_then p (f x)) (λ x. kept q (Some (g x))) xs h ∙ sym (kept_each q g xs)

joined : {A B : Type 0} (p : A → Option B) (xs ys : List A) (us vs : List B) → filter_map p xs ≡ us → filter_map p ys ≡ vs → filter_map p (xs ++ ys) ≡ us ++ vs
joined p xs ys us vs a b = filter_map-append p xs ys ∙ (ap (λ l. l ++ filter_map p ys) a ∙ ap (λ l. us ++ l) b)

-- ---- what is picked of the marks of a part

none_if : {X : Type 0} (p : Mark → Option X) (b : Bool) (m : Mark) → p m ≡ None → option_and_then p (cond b (Some m) None) ≡ None
none_if p true m e = e
none_if p false m e = refl

-- nothing is picked of what lasts, ceilings aside
pub record NoSpan {X : Type 0} (p : Mark → Option X) : Type 0 where
  pub pending : (job : JobId) (from to : ℕ) → p (mark.Pending job from to) ≡ None
  pub lock : (job : JobId) (item : ItemId) (is_write : Bool) (ceiling from to : ℕ) → p (mark.Lock job item is_write ceiling from to) ≡ None
  pub wait : (job by : JobId) (from to : ℕ) → p (mark.Wait job by from to) ≡ None

pendings_none : {X : Type 0} (p : Mark → Option X) (part : Part) (stop : ℕ) (rows : List JobRow) → ((job : JobId) (from to : ℕ) → p (mark.Pending job from to) ≡ None) → filter_map p (filter_map (pending_in part stop) rows) ≡ []
pendings_none p part stop rows none = none_picked p (pending_in part stop) rows (λ row. none_if p (meets part row.release (until stop row)) _ (none row.job row.release (until stop row)))

waits_none : {X : Type 0} (p : Mark → Option X) (part : Part) (stop : ℕ) (shown : List JobRow) (entries : List Entry) → ((job by : JobId) (from to : ℕ) → p (mark.Wait job by from to) ≡ None) → filter_map p (filter_map (wait_in part stop shown) entries) ≡ []
waits_none p part stop shown entries none = none_picked p (wait_in part stop shown) entries at where
  at : (entry : Entry) → option_and_then p (wait_in part stop shown entry) ≡ None
  at (Planned tx tick) = refl
  at (Step job op outcome over tick) = refl
  at (Blocked job op by ceiling tick) = none_if p _ _ (none job by tick _)
  at (Idle from to) = refl

module _ {X : Type 0} (p : Mark → Option X) (set : Set) (part : Part) (stop : ℕ) (shown : List JobRow) (none : (job : JobId) (item : ItemId) (is_write : Bool) (ceiling from to : ℕ) → p (mark.Lock job item is_write ceiling from to) ≡ None) where
  lock_from_none : (to : ℕ) (before after : List Entry) (job : JobId) (tick : ℕ) (o : Option (ItemId × Bool)) → option_and_then p (lock_from set part to before after job tick o) ≡ None
  lock_from_none to before after job tick None = refl
  lock_from_none to before after job tick (Some l) = at (list_any (shows_lock job l.0 l.1) before) where
    at : (b : Bool) → option_and_then p (cond b None (lock_mark set part job l.0 l.1 tick (lock_until job l.0 l.1 to after))) ≡ None
    at true = refl
    at false = none_if p (meets part tick (lock_until job l.0 l.1 to after)) _ (none job l.0 l.1 _ tick (lock_until job l.0 l.1 to after))

  lock_none : (before after : List Entry) (entry : Entry) → option_and_then p (lock_in set part stop shown before after entry) ≡ None
  lock_none before after (Step job op outcome over tick) = lock_from_none (until_of stop shown job) before after job tick (lock_by op outcome)
  lock_none before after other = refl

  locks_none : (before es : List Entry) → filter_map p (locks_along set part stop shown before es) ≡ []
  locks_none before [] = refl
  locks_none before (e ∷ es) =
      picked_at p (lock_in set part stop shown before es e) (locks_along set part stop shown (before ++ e ∷ []) es)
      ∙ (ap (λ o. cons_option o (filter_map p (locks_along set part stop shown (before ++ e ∷ []) es))) (lock_none before es e)
      ∙ locks_none (before ++ e ∷ []) es)

module _ {X : Type 0} (p : Mark → Option X) (set : Set) (part : Part) (stop : ℕ) (rows : List JobRow) (entries : List Entry) (none : NoSpan p) where
  spans_picked : (ceilings : List X) → filter_map p (ceilings_from (locks_of set part stop rows entries) part.from (part.to - part.from)) ≡ ceilings
      → filter_map p (spans_of set part stop rows entries) ≡ ceilings
  spans_picked ceilings e =
      joined p _ _ [] _ (pendings_none p part stop rows none.pending)
      (joined p _ _ [] _ (locks_none p set part stop (present part stop rows) none.lock [] entries)
      (joined p _ _ ceilings [] e (waits_none p part stop (present part stop rows) entries none.wait)))
      ∙ append-nil ceilings

  pub all_picked : (ceilings steps refusals releases deadlines ends : List X)
      → filter_map p (ceilings_from (locks_of set part stop rows entries) part.from (part.to - part.from)) ≡ ceilings
      → filter_map p (filter_map (step_in part) entries) ≡ steps
      → filter_map p (filter_map (refusal_in part) entries) ≡ refusals
      → filter_map p (filter_map (release_in part) rows) ≡ releases
      → filter_map p (filter_map (deadline_in set part) rows) ≡ deadlines
      → filter_map p (filter_map (end_in part) rows) ≡ ends
      → filter_map p (marks_to set part stop rows entries) ≡ ceilings ++ (steps ++ (refusals ++ (releases ++ (deadlines ++ ends))))
  all_picked ceilings steps refusals releases deadlines ends f a b c d e =
      joined p _ _ ceilings _ (spans_picked ceilings f) (joined p _ _ steps _ a (joined p _ _ refusals _ b (joined p _ _ releases _ c (joined p _ _ deadlines ends d e))))

no_ceiling : {X : Type 0} (p : Mark → Option X) (locks : List Mark) (tick n : ℕ) → ((t c : ℕ) → p (mark.Ceiling t c) ≡ None) → filter_map p (ceilings_from locks tick n) ≡ []
no_ceiling p locks tick zero none = refl
no_ceiling p locks tick (suc n) none = ap (λ o. cons_option o (filter_map p (ceilings_from locks (tick + 1) n))) (none tick _) ∙ no_ceiling p locks (tick + 1) n none

-- ---- nothing is picked of the other instants

module _ {X : Type 0} (p : Mark → Option X) (part : Part) where
  no_step : ((job : JobId) (op : Op) (tick : ℕ) → p (mark.Step job op tick) ≡ None) → (entries : List Entry) → filter_map p (filter_map (step_in part) entries) ≡ []
  no_step h entries = none_picked p (step_in part) entries at where
    at : (entry : Entry) → option_and_then p (step_in part entry) ≡ None
    at (Planned tx tick) = refl
    at (Step job op outcome over tick) = none_if p (has_tick part tick) _ (h job op tick)
    at (Blocked job op by ceiling tick) = refl
    at (Idle from to) = refl

  no_refusal : ((job : JobId) (op : Op) (by : JobId) (tick : ℕ) → p (mark.Refusal job op by tick) ≡ None) → (entries : List Entry) → filter_map p (filter_map (refusal_in part) entries) ≡ []
  no_refusal h entries = none_picked p (refusal_in part) entries at where
    at : (entry : Entry) → option_and_then p (refusal_in part entry) ≡ None
    at (Planned tx tick) = refl
    at (Step job op outcome over tick) = refl
    at (Blocked job op by ceiling tick) = none_if p (has_tick part tick) _ (h job op by tick)
    at (Idle from to) = refl

  no_release : ((job : JobId) (tick : ℕ) → p (mark.Release job tick) ≡ None) → (rows : List JobRow) → filter_map p (filter_map (release_in part) rows) ≡ []
  no_release h rows = none_picked p (release_in part) rows (λ row. none_if p (has_instant part row.release) _ (h row.job row.release))

  no_deadline : (set : Set) → ((job : JobId) (tick : ℕ) → p (mark.Deadline job tick) ≡ None) → (rows : List JobRow) → filter_map p (filter_map (deadline_in set part) rows) ≡ []
  no_deadline set h rows = none_picked p (deadline_in set part) rows (λ row. none_if p _ _ (h row.job _))

  no_end : ((job : JobId) (end : End) (tick : ℕ) → p (mark.Ended job end tick) ≡ None) → (rows : List JobRow) → filter_map p (filter_map (end_in part) rows) ≡ []
  no_end h rows = none_picked p (end_in part) rows (λ row. at row.job row.end) where
    at : (job : JobId) (o : Option (End × ℕ)) → option_and_then p (end_at part job o) ≡ None
    at job None = refl
    at job (Some e) = none_if p (has_instant part e.1) _ (h job e.0 e.1)

-- ---- each kind

if_both : {X : Type 0} (p : Mark → Option X) (b : Bool) (m : Mark) (x : X) → p m ≡ Some x → option_and_then p (cond b (Some m) None) ≡ cond b (Some x) None
if_both p true m x e = e
if_both p false m x e = refl

module _ (set : Set) (part : Part) (rows : List JobRow) (entries : List Entry) where
  steps_at : (entry : Entry) → option_and_then granted_of (step_in part entry) ≡ kept (λ s. has_tick part s.tick) (granted_by entry)
  steps_at (Step job op outcome over tick) = if_both granted_of (has_tick part tick) _ _ refl
  steps_at other = refl

  refusals_at : (entry : Entry) → option_and_then refused_of (refusal_in part entry) ≡ kept (λ r. has_tick part r.tick) (refused_by entry)
  refusals_at (Blocked job op by ceiling tick) = if_both refused_of (has_tick part tick) _ _ refl
  refusals_at other = refl

  ends_at : (job : JobId) (o : Option (End × ℕ)) → option_and_then ending_of (end_at part job o) ≡ kept (λ e. has_instant part e.tick) (option_map (λ e. record { job = job; end = e.0; tick = e.1 }) o)
  ends_at job None = refl
  ends_at job (Some e) = if_both ending_of (has_instant part e.1) _ _ refl

  pub shows_each : ShowsEach set part rows entries (marks_of set part rows entries)
  shows_each =
      let stop = last_instant part.to entries in
      let locks = locks_of set part stop rows entries in
      record {
        steps =
            all_picked granted_of set part stop rows entries (record { pending = λ j f t. refl; lock = λ j i w c f t. refl; wait = λ j b f t. refl }) [] _ [] [] [] []
            (no_ceiling granted_of locks part.from (part.to - part.from) (λ t c. refl)) (picked_is granted_of (step_in part) (λ s. has_tick part s.tick) granted_by entries steps_at)
            (no_refusal granted_of part (λ j o b t. refl) entries) (no_release granted_of part (λ j t. refl) rows)
            (no_deadline granted_of part set (λ j t. refl) rows) (no_end granted_of part (λ j e t. refl) rows)
            ∙ append-nil _;
        refusals =
            all_picked refused_of set part stop rows entries (record { pending = λ j f t. refl; lock = λ j i w c f t. refl; wait = λ j b f t. refl }) [] [] _ [] [] []
            (no_ceiling refused_of locks part.from (part.to - part.from) (λ t c. refl)) (no_step refused_of part (λ j o t. refl) entries)
            (picked_is refused_of (refusal_in part) (λ r. has_tick part r.tick) refused_by entries refusals_at) (no_release refused_of part (λ j t. refl) rows)
            (no_deadline refused_of part set (λ j t. refl) rows) (no_end refused_of part (λ j e t. refl) rows)
            ∙ append-nil _;
        releases =
            all_picked release_of set part stop rows entries (record { pending = λ j f t. refl; lock = λ j i w c f t. refl; wait = λ j b f t. refl }) [] [] [] _ [] []
            (no_ceiling release_of locks part.from (part.to - part.from) (λ t c. refl)) (no_step release_of part (λ j o t. refl) entries) (no_refusal release_of part (λ j o b t. refl) entries)
            (picked_each release_of (release_in part) (λ r. has_instant part r.tick) released_by rows (λ row. if_both release_of (has_instant part row.release) _ _ refl))
            (no_deadline release_of part set (λ j t. refl) rows) (no_end release_of part (λ j e t. refl) rows)
            ∙ append-nil _;
        deadlines =
            all_picked deadline_of set part stop rows entries (record { pending = λ j f t. refl; lock = λ j i w c f t. refl; wait = λ j b f t. refl }) [] [] [] [] _ []
            (no_ceiling deadline_of locks part.from (part.to - part.from) (λ t c. refl)) (no_step deadline_of part (λ j o t. refl) entries) (no_refusal deadline_of part (λ j o b t. refl) entries)
            (no_release deadline_of part (λ j t. refl) rows)
            (picked_each deadline_of (deadline_in set part) (λ d. has_instant part d.tick) (due_by set) rows (λ row. if_both deadline_of _ _ _ refl))
            (no_end deadline_of part (λ j e t. refl) rows)
            ∙ append-nil _;
        ends =
            all_picked ending_of set part stop rows entries (record { pending = λ j f t. refl; lock = λ j i w c f t. refl; wait = λ j b f t. refl }) [] [] [] [] [] _
            (no_ceiling ending_of locks part.from (part.to - part.from) (λ t c. refl)) (no_step ending_of part (λ j o t. refl) entries) (no_refusal ending_of part (λ j o b t. refl) entries)
            (no_release ending_of part (λ j t. refl) rows) (no_deadline ending_of part set (λ j t. refl) rows)
            (picked_is ending_of (end_in part) (λ e. has_instant part e.tick) ended_by rows (λ row. ends_at row.job row.end));
      }

-- ---- ceilings

abbrev pub drawn_at : List Mark → ℕ → Drawn
drawn_at locks tick = record { tick = tick; ceiling = greatest (map (ceiling_by tick) locks) }

ceilings_shown : (locks : List Mark) (tick n : ℕ) → filter_map drawn_of (ceilings_from locks tick n) ≡ map (drawn_at locks) (ticks_from tick n)
ceilings_shown locks tick zero = refl
ceilings_shown locks tick (suc n) = ap (λ l. drawn_at locks tick ∷ l) (ceilings_shown locks (tick + 1) n)

pub drawn_are : (set : Set) (part : Part) (rows : List JobRow) (entries : List Entry)
    → ceilings_in (marks_of set part rows entries) ≡ map (drawn_at (locks_of set part (last_instant part.to entries) rows entries)) (ticks_from part.from (part.to - part.from))
drawn_are set part rows entries =
    let stop = last_instant part.to entries in
    all_picked drawn_of set part stop rows entries (record { pending = λ j f t. refl; lock = λ j i w c f t. refl; wait = λ j b f t. refl }) _ [] [] [] [] []
    (ceilings_shown (locks_of set part stop rows entries) part.from (part.to - part.from))
    (no_step drawn_of part (λ j o t. refl) entries) (no_refusal drawn_of part (λ j o b t. refl) entries) (no_release drawn_of part (λ j t. refl) rows)
    (no_deadline drawn_of part set (λ j t. refl) rows) (no_end drawn_of part (λ j e t. refl) rows)
    ∙ append-nil _

ticks_shown : (locks : List Mark) (ticks : List ℕ) → map (λ d. d.tick) (map (drawn_at locks) ticks) ≡ ticks
ticks_shown locks [] = refl
ticks_shown locks (t ∷ ts) = ap (λ l. t ∷ l) (ticks_shown locks ts)

pub each_tick : (set : Set) (part : Part) (rows : List JobRow) (entries : List Entry)
    → map (λ d. d.tick) (ceilings_in (marks_of set part rows entries)) ≡ ticks_from part.from (part.to - part.from)
each_tick set part rows entries =
    ap (map (λ d. d.tick)) (drawn_are set part rows entries)
    ∙ ticks_shown (locks_of set part (last_instant part.to entries) rows entries) (ticks_from part.from (part.to - part.from))

-- ---- spans

-- a span that shows something in a tick covers it
pub record IsShownThen {A : Type 0} (tick from to : ℕ) (shown what : A) : Type 0 where
  pub begins : from ≤ tick
  pub lasts : tick < to
  pub is : shown ≡ what

pub shown_then : {A : Type 0} (tick from to : ℕ) (shown is : A) → if_within from to tick is ≡ Some shown → IsShownThen tick from to shown is
shown_then tick from to shown is h = at (nat_le from tick && nat_lt tick to) refl h where
  at : (b : Bool) → (nat_le from tick && nat_lt tick to) ≡ b → cond b (Some is) None ≡ Some shown → IsShownThen tick from to shown is
  at true e k = let p = and_parts (nat_le from tick) (nat_lt tick to) e in record { begins = leb-true _ _ p.0; lasts = ltb-true _ _ p.1; is = cc }
  at false e k = absurd cc

pub shows_then : {A : Type 0} (tick from to : ℕ) (is : A) → from ≤ tick → tick < to → if_within from to tick is ≡ Some is
shows_then tick from to is a b = ap (λ (c : Bool). cond c (Some is) None) (and_from _ _ (le-leb _ _ a) (lt-ltb _ _ b))

-- nothing is picked of ceilings, nor of what happens at an instant
pub record NoInstant {X : Type 0} (p : Mark → Option X) : Type 0 where
  pub ceiling : (tick ceiling : ℕ) → p (mark.Ceiling tick ceiling) ≡ None
  pub step : (job : JobId) (op : Op) (tick : ℕ) → p (mark.Step job op tick) ≡ None
  pub refusal : (job : JobId) (op : Op) (by : JobId) (tick : ℕ) → p (mark.Refusal job op by tick) ≡ None
  pub release : (job : JobId) (tick : ℕ) → p (mark.Release job tick) ≡ None
  pub deadline : (job : JobId) (tick : ℕ) → p (mark.Deadline job tick) ≡ None
  pub ended : (job : JobId) (end : End) (tick : ℕ) → p (mark.Ended job end tick) ≡ None

module _ {X : Type 0} (p : Mark → Option X) (set : Set) (part : Part) (rows : List JobRow) (entries : List Entry) (none : NoInstant p) where
  spans_left : (stop : ℕ) (jobs locks waits : List X) → filter_map p (filter_map (pending_in part stop) rows) ≡ jobs → filter_map p (locks_of set part stop rows entries) ≡ locks
      → filter_map p (filter_map (wait_in part stop (present part stop rows)) entries) ≡ waits → filter_map p (marks_to set part stop rows entries) ≡ jobs ++ (locks ++ waits)
  spans_left stop jobs locks waits a b c =
      joined p (spans_of set part stop rows entries) _ (jobs ++ (locks ++ waits)) []
      (joined p (filter_map (pending_in part stop) rows) _ jobs _ a
      (joined p (locks_of set part stop rows entries) _ locks _ b
      (joined p (ceilings_from (locks_of set part stop rows entries) part.from (part.to - part.from)) _ [] waits
      (no_ceiling p (locks_of set part stop rows entries) part.from (part.to - part.from) none.ceiling) c)))
      (joined p _ _ [] [] (no_step p part none.step entries)
      (joined p _ _ [] [] (no_refusal p part none.refusal entries)
      (joined p _ _ [] [] (no_release p part none.release rows)
      (joined p _ _ [] [] (no_deadline p part set none.deadline rows) (no_end p part none.ended rows)))))
      ∙ append-nil (jobs ++ (locks ++ waits))

module _ (set : Set) (part : Part) (rows : List JobRow) (entries : List Entry) (tick : ℕ) where
  abbrev last : ℕ
  last = last_instant part.to entries

  abbrev seen : List JobRow
  seen = present part last rows

  pub locks_are : filter_map (lock_shown tick) (marks_of set part rows entries) ≡ filter_map (lock_shown tick) (locks_of set part last rows entries)
  locks_are =
      let p = lock_shown tick in
      spans_left p set part rows entries (record { ceiling = λ t c. refl; step = λ j o t. refl; refusal = λ j o b t. refl; release = λ j t. refl; deadline = λ j t. refl; ended = λ j e t. refl })
      last [] _ [] (pendings_none p part last rows (λ j f t. refl)) refl (waits_none p part last seen entries (λ j b f t. refl))
      ∙ append-nil _

  pub waits_are : filter_map (wait_shown tick) (marks_of set part rows entries) ≡ filter_map (wait_shown tick) (filter_map (wait_in part last seen) entries)
  waits_are =
      let p = wait_shown tick in
      spans_left p set part rows entries (record { ceiling = λ t c. refl; step = λ j o t. refl; refusal = λ j o b t. refl; release = λ j t. refl; deadline = λ j t. refl; ended = λ j e t. refl })
      last [] [] _ (pendings_none p part last rows (λ j f t. refl)) (locks_none p set part last seen (λ j i w c f t. refl) [] entries) refl

  pub jobs_are : filter_map (job_shown tick) (marks_of set part rows entries) ≡ filter_map (job_shown tick) (filter_map (pending_in part last) rows)
  jobs_are =
      let p = job_shown tick in
      spans_left p set part rows entries (record { ceiling = λ t c. refl; step = λ j o t. refl; refusal = λ j o b t. refl; release = λ j t. refl; deadline = λ j t. refl; ended = λ j e t. refl })
      last _ [] [] refl (locks_none p set part last seen (λ j i w c f t. refl) [] entries) (waits_none p part last seen entries (λ j b f t. refl))
      ∙ append-nil _

-- ---- the ends of the state

ended_told : (set : Set) (entries : List Entry) (ended : List EndedJob) → filter_map ended_by (map (ended_row set entries) ended) ≡ map ended_as ended
ended_told set entries [] = refl
ended_told set entries (e ∷ es) = ap (λ l. ended_as e ∷ l) (ended_told set entries es)

none_told : (set : Set) (entries : List Entry) (rows : List Row) → filter_map ended_by (map (pending_row set entries) rows) ≡ []
none_told set entries [] = refl
none_told set entries (r ∷ rs) = none_told set entries rs

pub rows_tell_ends : (set : Set) (entries : List Entry) → filter_map ended_by (job_rows set entries) ≡ map ended_as (state_of set entries).ended
rows_tell_ends set entries =
    joined ended_by (map (ended_row set entries) (state_of set entries).ended)
    (map (pending_row set entries) (in_falling_priority set (pending (state_of set entries).rows))) _ [] (ended_told set entries (state_of set entries).ended)
    (none_told set entries (in_falling_priority set (pending (state_of set entries).rows)))
    ∙ append-nil _
