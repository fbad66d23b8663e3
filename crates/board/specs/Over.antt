-- How a granted step leaves its job: ended by the step's effect, or else Late where its deadline is that instant.
use Rattle.std.specs.Prelude.{Bool, if◌then◌else◌, Option, None, Some}
use Rattle.rt_base.specs.declared.operation.End.{End}
use Rattle.rt_base.specs.declared.operation.End.TheVariants.{Late}

abbrev pub over_of : Option End → Bool → Option End
over_of (Some e) due = Some e
over_of None due = if due then Some Late else None
