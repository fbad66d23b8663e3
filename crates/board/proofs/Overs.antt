-- How a granted step leaves its job, as the ended jobs after the arrival have it.
use Rattle.std.proofs.Common.{◌≡◌, ℕ, ◌+◌, Bool, true, false, cond, List, [], ◌∷◌, ◌++◌, map, Option, None, Some, set as with_item, refl, ap, sym, ◌∙◌, inl, inr, arith, append_assoc, get_or-set_same}
use Rattle.std.proofs.lemmas.List.{append-nil}
use Rattle.std.proofs.lemmas.Bool.{eq-eqb, and_from}
use Rattle.std.specs.List.{find, filter, fold}
use Rattle.std.specs.Option.{option_map}
use Rattle.rt_base.specs.declared.ids.JobId.{JobId}
use Rattle.rt_base.specs.declared.operation.Op.{Op}
use Rattle.rt_base.specs.declared.operation.End.{End}
use Rattle.rt_base.specs.declared.operation.End.TheVariants.{Late}
use Rattle.item_model.specs.Work.{items_after}
use Rattle.txn_set.specs.Set.{Set, IsCompiled}
use Rattle.step_journal.specs.declared.entry.Entry.{Entry}
use Rattle.step_journal.specs.declared.entry.EndedJob.{EndedJob}
use Rattle.step_journal.specs.State.{State, Row, row_of, pending, same_job}
use Rattle.step_journal.specs.LockRule.{in_falling_priority}
use Rattle.step_journal.specs.Running.{running}
use Rattle.step_journal.specs.Instant.{with_end, with_late, is_due, with_cancellations, with_releases, arrived}
use Rattle.step_journal.specs.Step.{row_after, end_by, settled, after_effect, with_step, end_of}
use Rattle.step_journal.specs.History.{IsLegal, state_of}
use Rattle.law_histories.proofs.Members.{In, in_filter, filter_in, in_pending, pending_in}
use Rattle.law_histories.proofs.Invariant.{IsPending, in_range, same_job_is}
use Rattle.law_histories.proofs.Calendar.{Frame, in_sorted, sorted_in}
use Rattle.law_histories.proofs.Histories.{frame_set}
use Rattle.law_histories.proofs.Never.{legal_sound}
use Rattle.law_histories.proofs.SerialAll.{legal_serial}
use Rattle.law_histories.proofs.Events.{false_from as not_true}
use Rattle.board.specs.Over.{over_of}
use Rattle.board.proofs.Asks.{running_here}

abbrev pub late_of : ℕ → Row → EndedJob
late_of t r = record { job = r.job; release = r.release; end = Late; tick = t }

lates_ended : (t : ℕ) (gone : List Row) (s : State) → (fold (with_late t) s gone).ended ≡ s.ended ++ map (late_of t) gone
unfolding with_end
lates_ended t [] s = sym (append-nil s.ended)
lates_ended t (r ∷ rs) s = lates_ended t rs (with_late t s r) ∙ append_assoc s.ended (late_of t r ∷ []) (map (late_of t) rs)

-- the jobs that are late at an instant, in falling priority
abbrev pub gone_at : Set → ℕ → List (Option Row) → List Row
gone_at set t rows = in_falling_priority set (filter (is_due set t) (pending rows))

pub arrived_ended : (set : Set) (t : ℕ) (s : State) → (arrived set t s).ended ≡ s.ended ++ map (late_of t) (gone_at set t s.rows)
unfolding arrived with_releases with_cancellations
arrived_ended set t s = lates_ended t (gone_at set t s.rows) (record s { now = t })

-- the first of a name

find_past : {A : Type 0} (p : A → Bool) (xs ys : List A) → ((x : A) → In x xs → p x ≡ false) → find p (xs ++ ys) ≡ find p ys
find_past p [] ys h = refl
find_past p (x ∷ xs) ys h =
    ap (λ (b : Bool). cond b (Some x) (find p (xs ++ ys))) (h x (inl refl)) ∙ find_past p xs ys (λ y i. h y (inr i))

find_here : {A : Type 0} (p : A → Bool) (x : A) (xs : List A) → p x ≡ true → find p (x ∷ xs) ≡ Some x
find_here p x xs h = ap (λ (b : Bool). cond b (Some x) (find p xs)) h

abbrev pub named : JobId → EndedJob → Bool
named job e = same_job e.job job

abbrev end_found : Option EndedJob → Option End
end_found o = option_map (λ e. e.end) o

found_at : (t : ℕ) (job : JobId) (r : Row) (rest : Option EndedJob) (b : Bool) → (b ≡ false → end_found rest ≡ Some Late) → end_found (cond b (Some (late_of t r)) rest) ≡ Some Late
found_at t job r rest true h = refl
found_at t job r rest false h = h refl

late_found : (t : ℕ) (job : JobId) (x : Row) (gone : List Row) → In x gone → same_job x.job job ≡ true → end_found (find (named job) (map (late_of t) gone)) ≡ Some Late
late_found t job x [] i same = absurd i
late_found t job x (r ∷ rs) (inl e) same =
    ap end_found (find_here (named job) (late_of t r) (map (late_of t) rs) (ap (λ (q : Row). same_job q.job job) (sym e) ∙ same))
late_found t job x (r ∷ rs) (inr i) same =
    found_at t job r (find (named job) (map (late_of t) rs)) (same_job r.job job) (λ f. late_found t job x rs i same)

late_missing : (t : ℕ) (job : JobId) (gone : List Row) → ((r : Row) → In r gone → same_job r.job job ≡ false) → find (named job) (map (late_of t) gone) ≡ None
late_missing t job [] h = refl
late_missing t job (r ∷ rs) h =
    ap (λ (b : Bool). cond b (Some (late_of t r)) (find (named job) (map (late_of t) rs))) (h r (inl refl)) ∙ late_missing t job rs (λ q i. h q (inr i))

pub same_self : (job : JobId) → same_job job job ≡ true
same_self job = and_from _ _ (eq-eqb job.tx.0 job.tx.0 refl) (eq-eqb job.serial job.serial refl)

module _ (set : Set) (s : State) (x : Row) (op : Op) (frame : Frame set s.rows) (here : IsPending s.rows x) (new : (e : EndedJob) → In e s.ended → named x.job e ≡ false) where
  abbrev next : Row
  next = row_after s x op

  abbrev rows_on : List (Option Row)
  rows_on = with_item s.rows x.job.tx.0 (Some next)

  there : row_of rows_on x.job.tx.0 ≡ Some next
  there = get_or-set_same s.rows x.job.tx.0 (Some next) None (in_range s.rows x.job.tx.0 x here)

  -- the row goes on: it is late exactly where it is due
  late_one : (t : ℕ) (r : Row) → In r (gone_at set t rows_on) → same_job r.job x.job ≡ true → is_due set t x ≡ true
  late_one t r i same =
      let f = filter_in (is_due set t) r (pending rows_on) (sorted_in set r (filter (is_due set t) (pending rows_on)) i) in
      let p = pending_in rows_on r f.0 in
      let named_so = (frame_set set s.rows x next frame here refl).named p.0 r p.1 in
      let e : x.job.tx.0 ≡ p.0 = ap (λ (j : JobId). j.tx.0) (sym (same_job_is r.job x.job same)) ∙ named_so in
      let is : Some next ≡ Some r = sym there ∙ (ap (λ (n : ℕ). row_of rows_on n) e ∙ p.1) in
      let is_next : next ≡ r = cc in
      ap (is_due set t) is_next ∙ f.1

  due_at : (t : ℕ) (b : Bool) → is_due set t x ≡ b → end_found (find (named x.job) (map (late_of t) (gone_at set t rows_on))) ≡ cond b (Some Late) None
  due_at t true due =
      late_found t x.job next (gone_at set t rows_on) (in_sorted set next (filter (is_due set t) (pending rows_on)) (in_filter (is_due set t) next (pending rows_on) (in_pending rows_on x.job.tx.0 next there) due)) (same_self x.job)
  due_at t false due =
      ap end_found (late_missing t x.job (gone_at set t rows_on) (λ r i. not_true (same_job r.job x.job) (λ same. both (is_due set t x) (late_one t r i same) due))) where
        both : (b : Bool) → b ≡ true → b ≡ false → ⊥
        both b p q = cc

  over_at : (t : ℕ) (o : Option End) → over_of o (is_due set t x) ≡ end_of (arrived set t (settled set next t o s)) x.job
  unfolding with_end
  over_at t None =
      sym (due_at t (is_due set t x) refl)
      ∙ (ap end_found (sym (find_past (named x.job) s.ended (map (late_of t) (gone_at set t rows_on)) new))
      ∙ ap (λ (l : List EndedJob). end_found (find (named x.job) l)) (sym (arrived_ended set t (record s { rows = rows_on }))))
  over_at t (Some e) =
      let own : EndedJob = record { job = x.job; release = x.release; end = e; tick = t } in
      let after : State = with_end next e t (record s { items = items_after set.items next.work next.release e s.items }) in
      let rest : List EndedJob = map (late_of t) (gone_at set t after.rows) in
      ap end_found (sym (find_here (named x.job) own rest (same_self x.job)))
      ∙ (ap end_found (sym (find_past (named x.job) s.ended (own ∷ rest) new))
      ∙ (ap (λ (l : List EndedJob). end_found (find (named x.job) l)) (sym (append_assoc s.ended (own ∷ []) rest))
      ∙ ap (λ (l : List EndedJob). end_found (find (named x.job) l)) (sym (arrived_ended set t after))))

  pub over_is : over_of (end_by set next (s.now + 1) op) (is_due set (s.now + 1) x) ≡ end_of (with_step set s x op) x.job
  unfolding with_step after_effect
  over_is = over_at (s.now + 1) (end_by set next (s.now + 1) op)

-- no ended job has the name of a pending one
pub ended_others : (set : Set) (history : List Entry) (x : Row) → IsCompiled set → IsLegal set history → IsPending (state_of set history).rows x → (e : EndedJob) → In e (state_of set history).ended → named x.job e ≡ false
ended_others set history x ok legal here e i =
    not_true (named x.job e) (λ same.
    let is : e.job ≡ x.job = same_job_is e.job x.job same in
    let less = (legal_serial set history ok legal).done_row e x i here (ap (λ (j : JobId). j.tx.0) is) in
    absurd (omega (arith, less, ap (λ (j : JobId). j.serial) is)))

-- after every legal history
pub over_after : (set : Set) (history : List Entry) (x : Row) (op : Op) → IsCompiled set → IsLegal set history → running set (state_of set history).rows ≡ Some x
    → over_of (end_by set (row_after (state_of set history) x op) ((state_of set history).now + 1) op) (is_due set ((state_of set history).now + 1) x) ≡ end_of (with_step set (state_of set history) x op) x.job
over_after set history x op ok legal runs =
    let here = running_here set history ok legal x runs in
    over_is set (state_of set history) x op (legal_sound set history ok legal).frame here (ended_others set history x ok legal here)
