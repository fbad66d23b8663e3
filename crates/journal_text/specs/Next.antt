-- The line that is likely to be next, and the entry of the first line of a text.
use Rattle.std.specs.Prelude.{ℕ, ◌≡◌, ◌+◌, ◌≤◌, ◌<◌, ◌^◌, List, take, length, decimal, codes, Option, Some}
use Rattle.rt_base.specs.declared.name.Names.{Names}
use Rattle.rt_base.specs.declared.ids.JobId.{JobId}
use Rattle.step_journal.specs.declared.entry.Entry.{Entry}
use Rattle.step_journal.specs.declared.entry.Entry.TheVariants.{Step}
use Rattle.line_fields.specs.Cuts.{◌>>=◌, cut_at, field, Lacks}
use Rattle.journal_text.specs.Ids.{job_of, job_text}
use Rattle.journal_text.specs.Lines.{◌⊕◌}
use Rattle.journal_text.specs.Reading.{answers_of, op_of, over_of, entry_of}
use Rattle.journal_text.specs.declared.next_step.NextStep.{NextStep}

-- the step of a job at a tick, of what follows them in its line
unfoldable pub step_by : Names → JobId → ℕ → List ℕ → Option Entry
step_by names job tick bs = do
  answer ← answers_of (op_of names bs)
  over ← over_of names answer.1
  Some (Step job answer.0.0 answer.0.1 over tick)

-- the entry of the first line, and what follows the line; nothing where there is no line or it is no entry's
abbrev pub first_entry : Names → List ℕ → Option (Entry × List ℕ)
first_entry names text = cut_at 10 text >>= λ p. entry_of names p.0 >>= λ e. Some (e, p.1)

-- the line of a Compute at which nothing ends, up to its operation
abbrev pub front_of : List ℕ → ℕ → List ℕ
front_of word tick = codes "step" ⊕ field word ⊕ field (decimal tick)

-- the line of a Compute of a job, with its line end
abbrev pub compute_line : Names → JobId → ℕ → List ℕ
compute_line names job tick = front_of (job_text names.txns job) tick ⊕ codes " compute\n"

-- what is kept is such a line with its line end, of this word for the job and of the tick
pub record Holds (word : List ℕ) (next : NextStep) : Type 0 where
  pub line : take next.len next.line ≡ front_of word next.tick ⊕ codes " compute\n"
  pub size : next.len ≡ length (front_of word next.tick) + 9
  pub tick : next.tick < 2 ^ 64

-- its word is read as the job
pub record Awaits (names : Names) (next : NextStep) : Type 0 where
  pub word : List ℕ
  pub holds : Holds word next
  pub job : job_of names.txns word ≡ Some next.job
  pub no_blank : Lacks 32 word
  pub no_end : Lacks 10 word

-- there is nothing, or a line that is read so; none has fewer bytes than 18
pub record IsNext (names : Names) (next : NextStep) : Type 0 where
  pub within : next.len ≤ 64
  pub awaits : 18 ≤ next.len → Awaits names next

-- there is nothing, or the line as it is written
pub record IsOwn (names : Names) (next : NextStep) : Type 0 where
  pub within : next.len ≤ 64
  pub holds : 18 ≤ next.len → Holds (job_text names.txns next.job) next
