use Rattle.std.proofs.Common.{sym, ◌∙◌}
use Rattle.plain_core.proofs.StepSays.{step_says}
use Rattle.plain_core.proofs.board_impl.PlainCoreBoard.step.Goals as goal

pub returns-in-NoJob-clause-answer : goal.returns-in-NoJob-clause-answer
returns-in-NoJob-clause-answer c = let job = c.args.job in let op = c.args.op in λ history h. sym c.in-NoJob.is ∙ (c.step_check.ensures ∙ step_says _ history job op h c.requires)

pub returns-in-NotYet-clause-answer : goal.returns-in-NotYet-clause-answer
returns-in-NotYet-clause-answer c = let job = c.args.job in let op = c.args.op in λ history h. sym c.in-NotYet.is ∙ (c.step_check.ensures ∙ step_says _ history job op h c.requires)

pub returns-in-Undeclared-clause-answer : goal.returns-in-Undeclared-clause-answer
returns-in-Undeclared-clause-answer c = let job = c.args.job in let op = c.args.op in λ history h. sym c.in-Undeclared.is ∙ (c.step_check.ensures ∙ step_says _ history job op h c.requires)

pub returns-in-TooEarly-clause-answer : goal.returns-in-TooEarly-clause-answer
returns-in-TooEarly-clause-answer c = let job = c.args.job in let op = c.args.op in λ history h. sym c.in-TooEarly.is ∙ (c.step_check.ensures ∙ step_says _ history job op h c.requires)

pub returns-in-Unwritten-clause-answer : goal.returns-in-Unwritten-clause-answer
returns-in-Unwritten-clause-answer c = let job = c.args.job in let op = c.args.op in λ history h. sym c.in-Unwritten.is ∙ (c.step_check.ensures ∙ step_says _ history job op h c.requires)

pub returns-in-Full-clause-answer : goal.returns-in-Full-clause-answer
returns-in-Full-clause-answer c = let job = c.args.job in let op = c.args.op in λ history h. sym c.in-Full.is ∙ (c.step_check.ensures ∙ step_says _ history job op h c.requires)

pub returns-in-Blocked-clause-answer : goal.returns-in-Blocked-clause-answer
returns-in-Blocked-clause-answer c = let job = c.args.job in let op = c.args.op in λ history h. sym c.in-Blocked.is ∙ (c.step_check.ensures ∙ step_says _ history job op h c.requires)

pub returns-in-Done-clause-answer : goal.returns-in-Done-clause-answer
returns-in-Done-clause-answer c = let job = c.args.job in let op = c.args.op in λ history h. sym c.in-Done.is ∙ (c.step_check.ensures ∙ step_says _ history job op h c.requires)

pub block-requires-clause-refused : goal.block-requires-clause-refused
block-requires-clause-refused c = let job = c.args.job in let op = c.args.op in λ history h. sym (step_says _ history job op h c.requires) ∙ (sym c.step_check.ensures ∙ c.in-Blocked.is)

pub go-requires-clause-done : goal.go-requires-clause-done
go-requires-clause-done c = let job = c.args.job in let op = c.args.op in λ history h. sym (step_says _ history job op h c.requires) ∙ (sym c.step_check.ensures ∙ c.in-Done.is)
