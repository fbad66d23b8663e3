use Rattle.std.proofs.Common.{refl, arith}
use Rattle.table_tests.specs.Trio.{both_rows, first_job}
use Rattle.table_tests.proofs.TrioSteps.{high_reads, low_last, within_job, free_job}
use Rattle.table_tests.proofs.pending.both_read.Goals as goal

pub release-requires-clause-tx : goal.release-requires-clause-tx
release-requires-clause-tx c =
    within_job c.step.new.self both_rows c.first_of.result (first_job 2) (high_reads c.args.pending.now c.step.new.self c.args.items.now c.requires.rows c.requires.items c.step.ensures.after) c.first_of.ensures (omega arith)

pub release-requires-clause-free : goal.release-requires-clause-free
release-requires-clause-free c =
    free_job c.step.new.self both_rows c.first_of.result (first_job 2) (high_reads c.args.pending.now c.step.new.self c.args.items.now c.requires.rows c.requires.items c.step.ensures.after) c.first_of.ensures refl

pub returns : goal.returns
returns c =
    low_last c.step.new.self c.release.new.self c.first_of.result (high_reads c.args.pending.now c.step.new.self c.args.items.now c.requires.rows c.requires.items c.step.ensures.after) c.first_of.ensures c.release.ensures
