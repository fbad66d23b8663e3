-- Text that is added where there is room for it.
use Rattle.std.specs.Prelude.{ℕ, ◌+◌, ◌≤◌, vec_len, vec_capacity}
use Rattle.std.specs.Global.{Vec}

-- at most so many bytes are added, and no room is lost
pub record Grows (old new : Vec ℕ) (most : ℕ) : Type 0 where
  pub len : vec_len new ≤ vec_len old + most
  pub room : vec_capacity old ≤ vec_capacity new
