-- The integers of a scenario are of 64 bits: initial values, samples, and constants of expressions.
use Rattle.std.specs.Prelude.{ℤ, FitsSigned}
use Rattle.std.specs.Int.{w64}
use Rattle.std.specs.List.{All}
use Rattle.step_script.specs.Values.{Tree, leaf_const, leaf_sample, leaf_serial, leaf_last, node}
use Rattle.step_script.specs.Scripts.{Operation, read, write, compute, commit, quit, Program}
use Rattle.step_script.specs.Shown.{Shown}

abbrev pub IsI64 : ℤ → Type 0
IsI64 z = FitsSigned w64 z

abbrev pub HasConstants : Tree → Type 0
HasConstants (leaf_const n) = IsI64 n
HasConstants leaf_sample = Unit {0}
HasConstants leaf_serial = Unit {0}
HasConstants (leaf_last i) = Unit {0}
HasConstants (node op a b) = HasConstants a × HasConstants b

abbrev pub OpHasConstants : Operation → Type 0
OpHasConstants (read i) = Unit {0}
OpHasConstants (write i value) = HasConstants value
OpHasConstants (compute n) = Unit {0}
OpHasConstants commit = Unit {0}
OpHasConstants quit = Unit {0}

pub record ProgramHasIntegers (p : Program) : Type 0 where
  pub samples : All IsI64 p.samples
  pub constants : All OpHasConstants p.ops

pub record HasIntegers (s : Shown) : Type 0 where
  pub initial : All (λ d. IsI64 d.initial) s.items
  pub programs : All ProgramHasIntegers s.programs
