use Rattle.std.proofs.Common.{rules}
use Rattle.report_text.proofs.GoodHead.{found_new}
use Rattle.report_text.proofs.read.Growing.line.Goals as goal

pub add-requires-clause-new : goal.add-requires-clause-new
add-requires-clause-new c =
    found_new c.args.self.now c.args.two c.args.line.now c.in-Some.found (search rules)
