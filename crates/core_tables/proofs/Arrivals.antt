-- The loop of the releases.
use Rattle.std.proofs.Common.{◌≡◌, ℕ, List, Option, None, Some, refl, ap, sym, ◌∙◌, subst}
use Rattle.std.specs.List.{fold}
use Rattle.std.specs.Prelude.{MatchOption}
use Rattle.rt_base.specs.declared.ids.JobId.{JobId}
use Rattle.rt_base.specs.declared.release.Release.{Release}
use Rattle.release_calendar.specs.Agenda.{Agenda, Holds, NothingDue, IsDue, SamePlans, without, left}
use Rattle.step_journal.specs.State.{Row}
use Rattle.step_journal.specs.Instant.{with_row}
use Rattle.core_tables.specs.Rows.{PendingSeen}
use Rattle.core_tables.specs.Changes.{due_jobs, later}
use Rattle.core_tables.specs.Arriving.{CanRelease, CanReleaseSome}
use Rattle.core_tables.proofs.Releases.{one, release_rows, release_can, later_without, none_due}

-- what is still to be released, of what was
pub record Left (tick : ℕ) (old_rows rows : List (Option Row)) (old : List Release) (calendar : Agenda) : Type 0 where
  pub planned : List Release
  pub holds : Holds calendar planned
  pub can : CanRelease tick rows planned
  pub rows_as : fold (with_row tick) rows (due_jobs tick planned) ≡ fold (with_row tick) old_rows (due_jobs tick old)
  pub later_as : later tick planned ≡ later tick old

pub record Releasing (tick : ℕ) (old now : PendingSeen) (old_calendar calendar : Agenda) : Type 0 where
  pub facts : now.facts ≡ old.facts
  pub each : (planned : List Release) → Holds old_calendar planned → CanRelease tick old.rows planned → Left tick old.rows now.rows planned calendar
  pub plans : SamePlans old_calendar calendar

pub left_some : (tick : ℕ) (old now : PendingSeen) (old_calendar calendar : Agenda) → Releasing tick old now old_calendar calendar → CanReleaseSome tick old.rows old_calendar → CanReleaseSome tick now.rows calendar
left_some tick old now old_calendar calendar r some =
    let l = r.each some.planned some.holds some.can in
    record { planned = l.planned; holds = l.holds; can = l.can }

pub releases : (tick : ℕ) (old now next : PendingSeen) (old_calendar calendar left_calendar : Agenda) (job : JobId) → Releasing tick old now old_calendar calendar
    → ((planned : List Release) → Holds calendar planned → IsDue tick planned job) → ((planned : List Release) → Holds calendar planned → Holds left_calendar (left tick (Some job) planned)) → SamePlans calendar left_calendar
    → next ≡ record now { rows = with_row tick now.rows job } → Releasing tick old next old_calendar left_calendar
releases tick old now next old_calendar calendar left_calendar job r due rest same en =
    let done : Releasing tick old (record now { rows = with_row tick now.rows job }) old_calendar left_calendar = record {
      facts = r.facts;
      each = λ planned holds can.
          let l = r.each planned holds can in
          record {
            planned = without (one job tick) l.planned;
            holds = rest l.planned l.holds;
            can = release_can tick now.rows l.planned job l.can (due l.planned l.holds);
            rows_as = sym (release_rows tick now.rows l.planned job l.can (due l.planned l.holds)) ∙ l.rows_as;
            later_as = later_without tick (one job tick) l.planned refl ∙ l.later_as;
          };
      plans = record { periods = same.periods ∙ r.plans.periods; plans = same.plans ∙ r.plans.plans; room = same.room ∙ r.plans.room };
    } in
    subst (λ (p : PendingSeen). Releasing tick old p old_calendar left_calendar) (sym en) done

-- none is left

pub released_rows : (tick : ℕ) (old now : PendingSeen) (old_calendar calendar : Agenda) → Releasing tick old now old_calendar calendar → ((planned : List Release) → Holds calendar planned → NothingDue tick planned)
    → (planned : List Release) → Holds old_calendar planned → CanRelease tick old.rows planned → now.rows ≡ fold (with_row tick) old.rows (due_jobs tick planned)
released_rows tick old now old_calendar calendar r none planned holds can =
    let l = r.each planned holds can in
    sym (ap (fold (with_row tick) now.rows) (none_due tick l.planned (none l.planned l.holds)).0) ∙ l.rows_as

pub released_planned : (tick : ℕ) (old now : PendingSeen) (old_calendar calendar last : Agenda) → Releasing tick old now old_calendar calendar → ((planned : List Release) → Holds calendar planned → NothingDue tick planned)
    → ((planned : List Release) → Holds calendar planned → Holds last planned)
    → (planned : List Release) → Holds old_calendar planned → CanRelease tick old.rows planned → Holds last (later tick planned)
released_planned tick old now old_calendar calendar last r none stays planned holds can =
    let l = r.each planned holds can in
    subst (Holds last) (sym (none_due tick l.planned (none l.planned l.holds)).1 ∙ l.later_as) (stays l.planned l.holds)

-- where none is taken
pub nothing_due : (tick : ℕ) (calendar : Agenda) (o : Option JobId) → o ≡ None → ((planned : List Release) → Holds calendar planned → MatchOption o (NothingDue tick planned) (IsDue tick planned))
    → (planned : List Release) → Holds calendar planned → NothingDue tick planned
nothing_due tick calendar o e h planned holds = subst (λ (p : Option JobId). MatchOption p (NothingDue tick planned) (IsDue tick planned)) e (h planned holds)

pub stays_as : (tick : ℕ) (calendar last : Agenda) (o : Option JobId) → o ≡ None → ((planned : List Release) → Holds calendar planned → Holds last (left tick o planned)) → (planned : List Release) → Holds calendar planned → Holds last planned
stays_as tick calendar last o e h planned holds = subst (λ (p : Option JobId). Holds last (left tick p planned)) e (h planned holds)
