use Rattle.std.proofs.Common.{arith}
use Rattle.run_report.proofs.Documents.{is_read}
use Rattle.run_report.proofs.verdict.judge.Goals as goal

pub judge_mode-requires-clause-first : goal.judge_mode-requires-clause-first
judge_mode-requires-clause-first c =
    omega (arith, (is_read c.args.bytes.now c.args.placed.document c.requires.read).first, c.requires.bytes)
