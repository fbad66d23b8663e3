-- What is answered where a journal is not opened.
use Rattle.std.specs.Prelude.{◌≡◌, ℕ}
use Rattle.law_histories.specs.Sim.{Workload}
use Rattle.durable_journal.specs.declared.log.LogError.{LogError}
use Rattle.durable_journal.specs.declared.log.LogError.TheVariants.{DiskFault, BadRecord, Full, Stopped, OutOfMemory}
use Rattle.io_edge.specs.declared.status.Status.TheVariants as statuses
use Rattle.command_replies.specs.Replies.{Reply}
use Rattle.scenario_run.specs.Ran.{HasOther}
use Rattle.scenario_run.specs.declared.over.Halt.{Halt}
use Rattle.scenario_run.specs.declared.over.Halt.TheVariants.{Other, Fault}
use Rattle.scenario_run.specs.JournalReplies.{bad_line}

-- the number of the record that is named: the one that was refused, or the first that is not the run's
abbrev pub NamesRecord : Workload → LogError → ℕ → Type 0
NamesRecord w DiskFault number = ⊥
NamesRecord w (BadRecord refused) number = number ≡ refused
NamesRecord w (Full room first) number = HasOther w first number
NamesRecord w Stopped number = ⊥
NamesRecord w OutOfMemory number = ⊥

abbrev pub IsNamed : Workload → LogError → Reply
IsNamed w error status text = (number : ℕ) × (status ≡ statuses.BadJournal) × (text ≡ bad_line number) × NamesRecord w error number

-- where a run was not kept: the record that is not the run's; where the disk failed there is no reply
abbrev pub IsHaltReply : Halt → Reply
IsHaltReply (Other number) status text = (status ≡ statuses.BadJournal) × (text ≡ bad_line number)
IsHaltReply Fault status text = ⊥
