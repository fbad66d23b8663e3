use Rattle.std.proofs.Common.{sym, ◌∙◌}
use Rattle.std.proofs.lemmas.Bool.{not-false}
use Rattle.law_times.specs.Pass.{is_placed}
use Rattle.txn_priorities.specs.Limits.{limit}
use Rattle.txn_priorities.proofs.Tested.{passes-placed}
use Rattle.txn_priorities.proofs.testing.passes.Goals as goal

pub returns-else-is_free-clause-passes : goal.returns-else-is_free-clause-passes
returns-else-is_free-clause-passes g c =
    sym
    (passes-placed c.args.level.set.now (limit c.args.level.set.now) c.args.level.prios.now c.args.tx
    (not-false (is_placed c.args.level.prios.now c.args.tx) (sym c.is_free.ensures ∙ c.if-is_free.false)))
