use Rattle.std.proofs.Common.{rules}
use Rattle.run_report.proofs.Comparing.{over_some, over_none}
use Rattle.run_report.proofs.compared.over.Goals as goal

pub returns-in-Some : goal.returns-in-Some
returns-in-Some c names =
    over_some names c.args.n c.args.report.now c.in-Some.field-0-0.now c.in-Some.field-0-1.now (search rules)

pub returns-in-None : goal.returns-in-None
returns-in-None c names = over_none names c.args.n c.args.report.now (search rules)
