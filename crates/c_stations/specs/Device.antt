-- What a queue of calls and a disk over it stand for.
use Rattle.std.specs.Prelude.{ℕ, List}
use Rattle.c_stations.specs.declared.call.Call.{Call}

-- the file when all earlier calls had been made, and the calls since, in order
pub record Queued : Type 0 where
  pub base : List ℕ
  pub calls : List Call

-- the calls that a disk was asked for, in order, and how many of them it refused for want of a place
pub record Device : Type 0 where
  pub calls : List Call
  pub faults : ℕ
