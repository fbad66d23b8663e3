use Rattle.scenario_writer.proofs.Ascii.{name_text}
use Rattle.scenario_writer.proofs.object.name.Goals as goal
use Rattle.std.proofs.Common.{subst, sym, List, ℕ}
use Rattle.std.specs.Str.{IsUtf8}

pub unreachable-requires : goal.unreachable-requires
unreachable-requires c =
    c.in-Err.ensures.cases.0 (subst (λ (bs : List ℕ). IsUtf8 bs) (sym c.as_slice.ensures.bytes)
    (name_text c.args.name.now c.as_slice.ensures.name))
