use Rattle.std.proofs.Common.{sym, ◌∙◌, rules}
use Rattle.txn_compiler.specs.Refusal.{cyclic_at}
use Rattle.txn_compiler.proofs.Refusing.{refused-here, refused-later}
use Rattle.txn_compiler.proofs.cycle.cyclic.Goals as goal

pub returns-in-Some : goal.returns-in-Some
returns-in-Some c =
    refused-here (cyclic_at c.args.graph.now.items c.args.graph.now.txns) c.loop-place.place c.args.graph.now.items _ c.in-Some.error (search rules)
    (sym c.in-Some.is ∙ c.in_ok-error.ensures) c.loop-place.invariant

pub loop-place-preserved : goal.loop-place-preserved
loop-place-preserved c =
    refused-later (cyclic_at c.args.graph.now.items c.args.graph.now.txns) c.loop-place.place c.args.graph.now.items _ (search rules)
    (sym c.in_ok-error.ensures ∙ c.in_default.is) c.loop-place.invariant
