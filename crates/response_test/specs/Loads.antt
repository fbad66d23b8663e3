-- What higher rows use of a window, and of the processor in the long run.
use Rattle.std.specs.Prelude.{◌≡◌, ℕ, ◌+◌, ◌*◌, ◌^◌, ◌<◌, ◌≤◌, nat_le, List, length, Option}
use Rattle.std.specs.List.{All, sum_by}
use Rattle.std.specs.Int.{div_ceil}
use Rattle.response_test.specs.Response.{least_from}
use Rattle.response_test.specs.declared.RespRow.{RespRow}
use Rattle.response_test.specs.declared.windows.Load.{Load}
use Rattle.response_test.specs.declared.windows.Bound.{Bound}

-- the share is no more than the steps take of the period, in parts of 2 ^ 48
pub record IsFair (load : Load) : Type 0 where
  pub steps : load.steps ≤ 10000
  pub period : (1 ≤ load.period) × (load.period ≤ 2 ^ 30)
  pub share : load.share * load.period ≤ load.steps * 2 ^ 48

-- what the loads may take of w ticks
abbrev pub uses : ℕ → List Load → ℕ
uses w loads = sum_by (λ l. div_ceil w l.period * l.steps) loads

-- the least w from 1 on that holds these steps and what the loads may take of it
unfoldable pub window : List Load → (own most : ℕ) → Option ℕ
window loads own most = least_from (λ w. nat_le (own + uses w loads) w) 1 most

-- no window from 1 on that is shorter than so many ticks holds these steps and what the loads may take of it
pub record IsBelow (loads : List Load) (own ticks : ℕ) : Type 0 where
  pub some : 1 ≤ ticks
  pub below : (v : ℕ) → 1 ≤ v → v < ticks → v < own + uses v loads

-- what is kept of loads, and of the windows that are too short for these steps
pub record AreLoads (loads : List Load) (own from : ℕ) : Type 0 where
  pub few : length loads ≤ 64
  pub fair : All IsFair loads
  pub below : IsBelow loads own from

abbrev pub shares : List Load → ℕ
shares loads = sum_by (λ l. l.share) loads

-- in whatever order, the loads take what the rows take
abbrev pub StandsFor : List Load → List RespRow → Type 0
StandsFor loads rows = (w : ℕ) → uses w loads ≡ sum_by (λ h. div_ceil w h.period * h.steps) rows

pub record IsBound (bound : Bound) : Type 0 where
  pub demand : bound.demand ≤ 2 ^ 50
  pub some : 1 ≤ bound.parts
  pub whole : bound.parts ≤ 2 ^ 48

-- so many parts of v ticks are not less than the demand
abbrev pub Serves : Bound → ℕ → Type 0
Serves bound v = bound.demand * 2 ^ 48 ≤ v * bound.parts
