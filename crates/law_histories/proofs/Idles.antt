-- Each idling releases a job: one that was planned for the tick at which it ends.
use Rattle.std.proofs.Common.{◌≡◌, ◌≢◌, ℕ, zero, suc, ◌<◌, ◌==◌, Bool, true, false, cond, List, [], ◌∷◌, ◌++◌, length, map, Option, None, Some, slice_get, refl, ap, sym, ◌∙◌, subst, inl, inr, arith, get_or-set_same, get_or-set_other}
use Rattle.std.proofs.lemmas.List.{length-set}
use Rattle.std.proofs.lemmas.Bool.{eq-eqb, and_from}
use Rattle.std.specs.List.{filter, fold}
use Rattle.std.specs.Option.{option_map, option_and_then}
use Rattle.rt_base.specs.declared.ids.JobId.{JobId}
use Rattle.rt_base.specs.declared.release.Release.{Release}
use Rattle.step_journal.specs.declared.entry.Entry.{Entry}
use Rattle.step_journal.specs.declared.entry.Entry.TheVariants.{Idle}
use Rattle.txn_set.specs.Set.{Set, IsCompiled}
use Rattle.step_journal.specs.State.{State, Row, pending, row_of, new_row, same_job, opening}
use Rattle.step_journal.specs.Running.{of_job, job_row}
use Rattle.step_journal.specs.Instant.{with_row, arrived, with_releases, with_cancellations}
use Rattle.step_journal.specs.Step.{idle, next_tick, idled, step}
use Rattle.step_journal.specs.History.{entry_given, state_after, states_after, IsLegalEntry, IsLegalFrom, IsLegal, state_of}
use Rattle.law_histories.proofs.Members.{In, in_filter}
use Rattle.law_histories.proofs.Calendar.{Sound, AreApart, apart_due, after_cancelled, after_late, late_rows, due, period_pos, spaced_before}
use Rattle.law_histories.proofs.Histories.{idle_early}
use Rattle.law_histories.proofs.Never.{refused_all, legal_sound}
use Rattle.law_histories.proofs.Pushes.{pushed}
use Rattle.law_histories.specs.Counting.{ReleasesAJob}
use Rattle.law_histories.proofs.Counts.{next_in}

place_in : {A : Type 0} (xs : List A) (a : A) → In a xs → (k : ℕ) × (slice_get xs k ≡ Some a)
place_in [] a i = absurd i
place_in (x ∷ xs) a (inl e) = (zero, ap Some (sym e))
place_in (x ∷ xs) a (inr i) = let r = place_in xs a i in (suc r.0, r.1)

-- releases of other transactions leave a row as it is
row_kept : (t : ℕ) (ds : List Release) (rows : List (Option Row)) (n : ℕ) → ((q : Release) → In q ds → n ≢ q.job.tx.0) → row_of (fold (with_row t) rows (map (λ d. d.job) ds)) n ≡ row_of rows n
row_kept t [] rows n h = refl
row_kept t (d ∷ ds) rows n h = row_kept t ds (with_row t rows d.job) n (λ q i. h q (inr i)) ∙ get_or-set_other rows d.job.tx.0 n (Some (new_row d.job t)) None (h d (inl refl))

row_released : (t : ℕ) (ds : List Release) (rows : List (Option Row)) (r : Release) → In r ds → AreApart ds → r.job.tx.0 < length rows → row_of (fold (with_row t) rows (map (λ d. d.job) ds)) r.job.tx.0 ≡ Some (new_row r.job t)
row_released t [] rows r i apart lt = absurd i
row_released t (d ∷ ds) rows r (inl e) apart lt =
    let in_rows : d.job.tx.0 < length rows = omega (arith, lt, ap (λ (k : Release). k.job.tx.0) e) in
    let own : row_of (fold (with_row t) (with_row t rows d.job) (map (λ k. k.job) ds)) d.job.tx.0 ≡ Some (new_row d.job t) =
    row_kept t ds (with_row t rows d.job) d.job.tx.0 apart.0 ∙ get_or-set_same rows d.job.tx.0 (Some (new_row d.job t)) None in_rows in
    subst (λ (k : Release). row_of (fold (with_row t) (with_row t rows d.job) (map (λ q. q.job) ds)) k.job.tx.0 ≡ Some (new_row k.job t)) (sym e) own
row_released t (d ∷ ds) rows r (inr i) apart lt = row_released t ds (with_row t rows d.job) r i apart.1 (omega (arith, lt, length-set rows d.job.tx.0 (Some (new_row d.job t))))

-- what was planned for a tick is pending after the arrival at it
row_arrived : (set : Set) (refused : JobId → Bool) (t : ℕ) (s : State) (ok : IsCompiled set) (sound : Sound set refused t s) (r : Release) → In r s.planned → r.tick ≡ t → row_of (arrived set t s).rows r.job.tx.0 ≡ Some (new_row r.job t)
unfolding arrived with_releases with_cancellations after_cancelled due late_rows
row_arrived set refused t s ok sound r i at =
    let late = after_late set refused t s ok sound in
    let there : In r (after_cancelled set refused t s ok sound).planned = subst (λ (l : List Release). In r l) (sym late.planned) i in
    row_released t (filter (λ q. q.tick == t) (after_cancelled set refused t s ok sound).planned) (after_cancelled set refused t s ok sound).rows r
    (in_filter (λ (q : Release). q.tick == t) r (after_cancelled set refused t s ok sound).planned there (eq-eqb _ _ at))
    (apart_due set t (after_cancelled set refused t s ok sound).planned (period_pos set refused t s ok sound) (spaced_before set refused t s ok sound))
    (omega (arith, sound.calendar.in_set r i, late.frame.count))

own_row : (rows : List (Option Row)) (job : JobId) (t : ℕ) → row_of rows job.tx.0 ≡ Some (new_row job t) → job_row rows job ≡ Some (new_row job t)
own_row rows job t h =
    let same : same_job job job ≡ true = and_from _ _ (eq-eqb job.tx.0 job.tx.0 refl) (eq-eqb job.serial job.serial refl) in
    ap (option_and_then (of_job job)) h ∙ ap (λ (b : Bool). cond b (Some (new_row job t)) None) same

-- an idling that is a legal entry: nothing is pending, and it ends at the least planned tick
record IsIdling (s : State) (from to : ℕ) : Type 0 where
  none : pending s.rows ≡ []
  next : next_tick s.planned ≡ Some to
  now : s.now ≡ from

idling_at : (set : Set) (s : State) (from to : ℕ) (o : Option ℕ) → pending s.rows ≡ [] → next_tick s.planned ≡ o → entry_given (option_map (λ t. (Idle s.now t, arrived set t s)) o) ≡ Some (Idle from to) → IsIdling s from to
idling_at set s from to None none e h = absurd cc
idling_at set s from to (Some t) none e h = record { none = none; next = e ∙ ap Some (let w : t ≡ to = cc in w); now = cc }

idling_is : (set : Set) (s : State) (from to : ℕ) (rows : List Row) → pending s.rows ≡ rows → entry_given (idled set s rows) ≡ Some (Idle from to) → IsIdling s from to
idling_is set s from to [] e h = idling_at set s from to (next_tick s.planned) e refl h
idling_is set s from to (r ∷ rows) e h = absurd cc

entry_idles : (set : Set) (s : State) (from to : ℕ) → IsLegalEntry set s (Idle from to) → IsIdling s from to
unfolding step
entry_idles set s from to h = idling_is set s from to (pending s.rows) refl h

step_idles : (set : Set) (s : State) (from to : ℕ) → IsIdling s from to → step set s idle ≡ Some (Idle from to, arrived set to s)
unfolding step
step_idles set s from to h =
    ap (idled set s) h.none ∙ ap (option_map (λ t. (Idle s.now t, arrived set t s))) h.next ∙ ap (λ (n : ℕ). Some (Idle n to, arrived set to s)) h.now

parts : (set : Set) (s : State) (es : List Entry) (e : Entry) (rest : List Entry) → IsLegalFrom set s (es ++ e ∷ rest) → IsLegalFrom set s es × IsLegalEntry set (states_after set s es) e
parts set s [] e rest h = (tt, h.0)
parts set s (x ∷ es) e rest h = let r = parts set (state_after set s x) es e rest h.1 in ((h.0, r.0), r.1)

pub idle_releases : (set : Set) (entries : List Entry) → IsCompiled set → IsLegal set entries → (before after : List Entry) (from to : ℕ) → entries ≡ before ++ Idle from to ∷ after → ReleasesAJob set before from to
idle_releases set entries ok legal before after from to e =
    let p = parts set (opening set) before (Idle from to) after (subst (IsLegal set) e legal) in
    let i = entry_idles set (state_of set before) from to p.1 in
    let sound = legal_sound set before ok p.0 in
    let early = idle_early set (refused_all (λ _. false) before) (state_of set before) to sound i.none i.next in
    let q = next_in (state_of set before).planned to i.next in
    let k = place_in (state_of set before).planned q.0 q.1 in
    let row = row_arrived set (refused_all (λ _. false) before) to (state_of set before) ok early q.0 q.1 q.2 in
    let next = (pushed set before (Idle from to) (arrived set to (state_of set before)) p.0 (step_idles set (state_of set before) from to i)).state in
    record {
      nothing = i.none;
      place = k.0;
      release = q.0;
      planned = k.1;
      due = q.2;
      is_pending = subst (λ (s : State). job_row s.rows q.0.job ≡ Some (new_row q.0.job to)) next (own_row (arrived set to (state_of set before)).rows q.0.job to row);
    }
