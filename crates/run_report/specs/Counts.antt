-- What a summary counts, one by one.
use Rattle.std.specs.Prelude.{◌≡◌, ℕ, ◌+◌, ◌<◌, ◌^◌, Bool, true, false, Option, None, Some, unwrap_or}
use Rattle.rt_base.specs.declared.operation.End.{End}
use Rattle.rt_base.specs.declared.operation.End.TheVariants as end
use Rattle.step_journal.specs.declared.entry.Entry.{Entry}
use Rattle.step_journal.specs.declared.entry.Entry.TheVariants.{Planned, Step, Blocked, Idle}
use Rattle.job_rows.specs.declared.row.JobRow.{JobRow}
use Rattle.job_rows.specs.Upkeep.{is_plan}
use Rattle.run_report.specs.declared.counts.Ends.{Ends}
use Rattle.run_report.specs.declared.counts.Kinds.{Kinds}
use Rattle.run_report.specs.Summary.{is_committed, is_overrun, is_late, is_stale, is_quit, is_step, is_block, is_idle}

abbrev pub close_is : (End → Bool) → Option (End × ℕ) → Bool
close_is test None = false
close_is test (Some e) = test e.0

-- the row is of a job that ended so
abbrev pub row_is : (End → Bool) → JobRow → Bool
row_is test row = close_is test row.end

-- one end more
abbrev pub with_end : End → Ends → Ends
with_end end.Committed c = record c { all = c.all + 1; committed = c.committed + 1 }
with_end end.Overrun c = record c { all = c.all + 1; overrun = c.overrun + 1 }
with_end end.Late c = record c { all = c.all + 1; late = c.late + 1 }
with_end end.Quit c = record c { all = c.all + 1; quit = c.quit + 1 }
with_end other c = record c { all = c.all + 1; stale = c.stale + 1 }

abbrev pub with_close : Option (End × ℕ) → Ends → Ends
with_close None c = c
with_close (Some e) c = with_end e.0 c

-- one entry more
abbrev pub with_entry : Entry → Kinds → Kinds
with_entry (Planned tx tick) c = record c { plans = c.plans + 1 }
with_entry (Step job op outcome over tick) c = record c { steps = c.steps + 1 }
with_entry (Blocked job op by ceiling tick) c = record c { blocks = c.blocks + 1 }
with_entry (Idle from to) c = record c { idles = c.idles + 1 }

-- what each test is passed by so many
pub record AreEnds (c : Ends) (count : (End → Bool) → ℕ) : Type 0 where
  pub all : c.all ≡ count (λ e. true)
  pub committed : c.committed ≡ count is_committed
  pub overrun : c.overrun ≡ count is_overrun
  pub late : c.late ≡ count is_late
  pub stale : c.stale ≡ count is_stale
  pub quit : c.quit ≡ count is_quit

pub record AreKinds (c : Kinds) (count : (Entry → Bool) → ℕ) : Type 0 where
  pub plans : c.plans ≡ count is_plan
  pub steps : c.steps ≡ count is_step
  pub blocks : c.blocks ≡ count is_block
  pub idles : c.idles ≡ count is_idle

-- each number is low
pub record FewEnds (c : Ends) : Type 0 where
  pub all : c.all < 2 ^ 63
  pub committed : c.committed < 2 ^ 63
  pub overrun : c.overrun < 2 ^ 63
  pub late : c.late < 2 ^ 63
  pub stale : c.stale < 2 ^ 63
  pub quit : c.quit < 2 ^ 63

pub record FewKinds (c : Kinds) : Type 0 where
  pub plans : c.plans < 2 ^ 63
  pub steps : c.steps < 2 ^ 63
  pub blocks : c.blocks < 2 ^ 63
  pub idles : c.idles < 2 ^ 63

-- the instant after an entry by which the time goes on
abbrev pub instant_of : Entry → Option ℕ
instant_of (Step job op outcome over tick) = Some (tick + 1)
instant_of (Idle from to) = Some to
instant_of other = None

-- the instant after an entry
abbrev pub instant_after : ℕ → Entry → ℕ
instant_after now entry = unwrap_or (instant_of entry) now
