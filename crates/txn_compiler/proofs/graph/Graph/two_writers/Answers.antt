use Rattle.std.proofs.Common.{sym, ◌∙◌, rules}
use Rattle.txn_compiler.specs.Refusal.{two_writers_at}
use Rattle.txn_compiler.proofs.Refusing.{refused-here, refused-later}
use Rattle.txn_compiler.proofs.graph.Graph.two_writers.Goals as goal

pub returns-in-Some : goal.returns-in-Some
returns-in-Some c =
    refused-here (two_writers_at c.args.self.now.items c.args.self.now.txns) c.loop-place.place c.args.self.now.items _ c.in-Some.error (search rules)
    (sym c.in-Some.is ∙ c.two_writers_at.ensures) c.loop-place.invariant

pub loop-place-preserved : goal.loop-place-preserved
loop-place-preserved c =
    refused-later (two_writers_at c.args.self.now.items c.args.self.now.txns) c.loop-place.place c.args.self.now.items _ (search rules)
    (sym c.two_writers_at.ensures ∙ c.in_default.is) c.loop-place.invariant
