-- The exit status of each answer.
use Rattle.std.specs.Prelude.{ℕ}
use Rattle.io_edge.specs.declared.status.Status.{Status}
use Rattle.io_edge.specs.declared.status.Status.TheVariants as statuses

abbrev pub number_of : Status → ℕ
number_of statuses.Ok = 0
number_of statuses.Refused = 1
number_of statuses.Usage = 2
number_of statuses.ReadFault = 3
number_of statuses.WriteFault = 4
number_of statuses.OutOfMemory = 5
number_of statuses.TooLong = 6
number_of statuses.NotLegal = 7
number_of statuses.DiskFault = 9
number_of statuses.BadJournal = 10
