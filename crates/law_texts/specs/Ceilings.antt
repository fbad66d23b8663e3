-- What the drawn ceilings are: those of the locks that a history's state holds.
use Rattle.std.specs.Prelude.{◌≡◌, ℕ, zero, suc, ◌+◌, ◌-◌, ◌<◌, ◌≤◌, List, [], ◌∷◌, ◌++◌, map, Option, None, Some, slice_get, slice_set}
use Rattle.std.specs.List.{filter_map}
use Rattle.rt_base.specs.declared.operation.Op.{Op}
use Rattle.txn_set.specs.Set.{Set, IsCompiled}
use Rattle.txn_set.specs.Ceilings.{greatest}
use Rattle.step_journal.specs.declared.entry.Entry.{Entry}
use Rattle.step_journal.specs.declared.entry.Entry.TheVariants.{Step}
use Rattle.step_journal.specs.State.{State, Row, pending}
use Rattle.step_journal.specs.LockRule.{ceiling_of}
use Rattle.step_journal.specs.Running.{job_row}
use Rattle.step_journal.specs.Step.{row_after}
use Rattle.step_journal.specs.History.{IsLegal, state_of}
use Rattle.job_rows.specs.declared.row.JobRow.{JobRow}
use Rattle.job_rows.specs.Rows.{job_rows}
use Rattle.schedule_marks.specs.declared.part.Part.{Part}
use Rattle.schedule_marks.specs.declared.mark.Mark.{Mark}
use Rattle.schedule_marks.specs.declared.mark.Mark.TheVariants as mark
use Rattle.schedule_marks.specs.Marks.{marks_of}

-- ---- what is held

abbrev pub with_work : State → Op → Option Row → List (Option Row)
with_work s op None = s.rows
with_work s op (Some row) = slice_set s.rows row.job.tx.0 (Some (row_after s row op))

-- the rows while an entry goes on from a state: those of the state, with what a step notes for its job
abbrev pub rows_in : State → Entry → List (Option Row)
rows_in s (Step job op outcome over tick) = with_work s op (job_row s.rows job)
rows_in s other = s.rows

-- the greatest ceiling of the locks that the jobs of these rows hold
abbrev pub held_ceiling : Set → List (Option Row) → ℕ
held_ceiling set rows = greatest (map (ceiling_of set) (pending rows))

-- ---- what is drawn

pub record Drawn : Type 0 where
  pub tick : ℕ
  pub ceiling : ℕ

abbrev pub drawn_of : Mark → Option Drawn
drawn_of (mark.Ceiling tick ceiling) = Some (record { tick = tick; ceiling = ceiling })
drawn_of other = None

-- the ceilings that marks show
abbrev pub ceilings_in : List Mark → List Drawn
ceilings_in marks = filter_map drawn_of marks

abbrev pub ticks_from : ℕ → ℕ → List ℕ
ticks_from tick zero = []
ticks_from tick (suc n) = tick ∷ ticks_from (tick + 1) n

-- ---- laws

-- each tick of the part has one ceiling, in order
abbrev pub EachTickHasACeiling : Type 0
EachTickHasACeiling =
    (set : Set) (part : Part) (rows : List JobRow) (entries : List Entry)
    → map (λ d. d.tick) (ceilings_in (marks_of set part rows entries)) ≡ ticks_from part.from (part.to - part.from)

-- the nth ceiling that the picture of a part of a history shows
abbrev pub ShowsCeiling : Set → List Entry → Part → ℕ → Drawn → Type 0
ShowsCeiling set entries part n d = slice_get (ceilings_in (marks_of set part (job_rows set entries) entries)) n ≡ Some d

-- The ceiling of a tick through which the history goes by an entry, that is by a step or an idle time, is the greatest of the
-- locks that are held in the state before that entry, and of those that the step takes.
abbrev pub DrawnIsHeld : Type 0
DrawnIsHeld =
    (set : Set) (part : Part) (before after : List Entry) (entry : Entry) (n : ℕ) (d : Drawn) → IsCompiled set
    → IsLegal set (before ++ entry ∷ after) → ShowsCeiling set (before ++ entry ∷ after) part n d
    → (state_of set before).now ≤ d.tick → d.tick < (state_of set (before ++ entry ∷ [])).now
    → d.ceiling ≡ held_ceiling set (rows_in (state_of set before) entry)

-- and from the history's last instant on it is 0
abbrev pub NothingIsDrawnLater : Type 0
NothingIsDrawnLater =
    (set : Set) (part : Part) (entries : List Entry) (n : ℕ) (d : Drawn) → IsCompiled set → IsLegal set entries
    → ShowsCeiling set entries part n d → (state_of set entries).now ≤ d.tick → d.ceiling ≡ 0
