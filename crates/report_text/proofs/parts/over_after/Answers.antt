use Rattle.std.proofs.Common.{rules}
use Rattle.report_text.proofs.Reading.{more_left}
use Rattle.report_text.proofs.parts.over_after.Goals as goal

pub returns-else-is_empty : goal.returns-else-is_empty
returns-else-is_empty c = more_left c.args.n c.args.text.now (λ e. absurd (search rules))
