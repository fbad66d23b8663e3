-- The forms of the lines of a report after its declarations.
use Rattle.std.specs.Prelude.{ℕ, Bool, true, false, List, codes, Option, Some, None, option_map, if◌then◌else◌}
use Rattle.std.specs.Str.{bytes_eq}
use Rattle.rt_base.specs.declared.name.Names.{Names}
use Rattle.rt_base.specs.declared.ids.ItemId.{ItemId}
use Rattle.rt_base.specs.declared.ids.JobId.{JobId}
use Rattle.rt_base.specs.declared.operation.End.{End}
use Rattle.rt_base.specs.declared.operation.End.TheVariants as end
use Rattle.step_journal.specs.declared.entry.Entry.{Entry}
use Rattle.step_journal.specs.declared.entry.Entry.TheVariants.{Step}
use Rattle.line_fields.specs.Cuts.{◌>>=◌, word_of, next, word_is, done_of}
use Rattle.line_fields.specs.Numbers.{unsigned_of, short_of, signed_of}
use Rattle.journal_text.specs.Ids.{tx_of, item_of, job_of}
use Rattle.journal_text.specs.Reading.{end_of, entry_of}
use Rattle.report_text.specs.declared.forms.Kind.{Kind}
use Rattle.report_text.specs.declared.forms.Section.{Section}
use Rattle.report_text.specs.declared.forms.Section.TheVariants.{Ceilings, Bounds, Ages, Jobs, Finals}

-- what follows the first word, where it is this one
unfoldable pub begins : List ℕ → List ℕ → Option (List ℕ)
begins want line = if bytes_eq (word_of line).0 want then Some (word_of line).1 else None

abbrev pub where_true : Bool → Option (Unit {0})
where_true true = Some tt
where_true false = None

-- ---- `ceiling ITEM UNUM UNUM`

unfoldable pub ceiling_form : Names → List ℕ → Option (Unit {0})
ceiling_form names line = do
  rest ← begins (codes "ceiling") line
  item ← next (item_of names.items) rest
  write ← next short_of item.1
  absolute ← next short_of write.1
  done_of absolute.1

-- ---- `bound TXN UNUM UNUM` and `age ITEM UNUM`, in mode admitted alone

unfoldable pub bound_form : Bool → Names → List ℕ → Option (Unit {0})
bound_form admitted names line = do
  allowed ← where_true admitted
  rest ← begins (codes "bound") line
  tx ← next (tx_of names.txns) rest
  blocking ← next unsigned_of tx.1
  response ← next unsigned_of blocking.1
  done_of response.1

unfoldable pub age_form : Bool → Names → List ℕ → Option (Unit {0})
age_form admitted names line = do
  allowed ← where_true admitted
  rest ← begins (codes "age") line
  item ← next (item_of names.items) rest
  age ← next unsigned_of item.1
  done_of age.1

-- ---- the lines of entries; in the first version no job ends by two items apart

abbrev pub may_end : Bool → End → Bool
may_end second (end.Apart a b) = second
may_end second other = true

abbrev pub may_be_over : Bool → Option End → Bool
may_be_over second None = true
may_be_over second (Some e) = may_end second e

abbrev pub may_be : Bool → Entry → Bool
may_be second (Step job op outcome over tick) = may_be_over second over
may_be second other = true

unfoldable pub entry_form : Bool → Names → List ℕ → Option Entry
entry_form second names line = do
  entry ← entry_of names line
  allowed ← where_true (may_be second entry)
  Some entry

-- ---- `job JOB UNUM UNUM END UNUM BY UNUM`, or `job JOB UNUM - pending - BY UNUM`

unfoldable pub pending_form : List ℕ → Option (List ℕ)
pending_form bs = do
  no_tick ← next (word_is (codes "-")) bs
  pending ← next (word_is (codes "pending")) no_tick.1
  no_response ← next (word_is (codes "-")) pending.1
  Some no_response.1

unfoldable pub ended_form : Bool → Names → List ℕ → Option (List ℕ)
ended_form second names bs = do
  tick ← next unsigned_of bs
  over ← end_of names tick.1
  allowed ← where_true (may_end second over.0)
  response ← next unsigned_of over.1
  Some response.1

abbrev pub or_else : Option (List ℕ) → Option (List ℕ) → Option (List ℕ)
or_else (Some a) other = Some a
or_else None other = other

unfoldable pub close_form : Bool → Names → List ℕ → Option (List ℕ)
close_form second names bs = or_else (pending_form bs) (ended_form second names bs)

-- who delayed: `-` or a job
unfoldable pub by_form : List (List ℕ) → List ℕ → Option (Option JobId)
by_form txns w = if bytes_eq w (codes "-") then Some None else option_map (λ j. Some j) (job_of txns w)

unfoldable pub job_form : Bool → Names → List ℕ → Option (Unit {0})
job_form second names line = do
  rest ← begins (codes "job") line
  job ← next (job_of names.txns) rest
  release ← next unsigned_of job.1
  close ← close_form second names release.1
  by ← next (by_form names.txns) close
  delay ← next unsigned_of by.1
  done_of delay.1

-- ---- `final ITEM SNUM UNUM`, read as its item

unfoldable pub final_form : Names → List ℕ → Option ItemId
final_form names line = do
  rest ← begins (codes "final") line
  item ← next (item_of names.items) rest
  value ← next signed_of item.1
  stamp ← next unsigned_of value.1
  over ← done_of stamp.1
  Some item.0

-- ---- all of them

-- a line of a section, in a report of this version and mode
unfoldable pub section_form : Section → Kind → Names → List ℕ → Option (Unit {0})
section_form Ceilings kind names line = ceiling_form names line
section_form Bounds kind names line = bound_form kind.admitted names line
section_form Ages kind names line = age_form kind.admitted names line
section_form Jobs kind names line = job_form kind.second names line
section_form Finals kind names line = option_map (λ item. tt) (final_form names line)

-- ---- the last line

unfoldable pub is_end : List ℕ → Bool
is_end line = bytes_eq line (codes "end")
