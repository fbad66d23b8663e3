-- All that is shown of a part of a history.
use Rattle.std.specs.Prelude.{List}
use Rattle.txn_set.specs.Set.{Set}
use Rattle.step_journal.specs.declared.entry.Entry.{Entry}
use Rattle.job_rows.specs.declared.row.JobRow.{JobRow}
use Rattle.schedule_marks.specs.declared.part.Part.{Part}
use Rattle.schedule_marks.specs.declared.showing.Limits.{Limits}
use Rattle.schedule_marks.specs.declared.showing.Shown.{Shown}
use Rattle.schedule_marks.specs.Marks.{marks_of}
use Rattle.schedule_marks.specs.Lanes.{bounds_of, age_spans_of, age_reads_of}

-- the marks, the bounds of jobs, and the ages of items
abbrev pub shown_of : Set → Part → Limits → List JobRow → List Entry → Shown
shown_of set part limits rows entries = record {
  marks = marks_of set part rows entries;
  bounds = bounds_of part limits.responses rows;
  spans = age_spans_of set part rows entries;
  reads = age_reads_of set part rows entries;
}
