use Rattle.std.proofs.Common.{refl, arith, pos, length, ap, sym, ◌∙◌}
use Rattle.core_tables.specs.Rows.{PendingSeen}
use Rattle.rt_base.specs.declared.operation.Op.TheVariants.{Write}
use Rattle.step_journal.specs.State.{new_row}
use Rattle.table_tests.specs.Trio.{first_job, no_rows, x}
use Rattle.table_tests.proofs.TrioSteps.{low_rows, low_written, high_after_low, released, low_released, within, within_job, free_job, has_item, as_many, little_used}
use Rattle.table_tests.proofs.pending.low_wrote.Goals as goal

pub release-requires-2-clause-tx : goal.release-requires-2-clause-tx
release-requires-2-clause-tx c =
    within_job c.step.new.self low_rows c.first_of-2.result (first_job 0) (low_written c.in_ok-pending.pending c.release.new.self c.step.new.self c.first_of.result c.in_ok-items.items c.in_ok-pending.ensures c.first_of.ensures c.in_ok-items.ensures c.release.ensures c.step.ensures.after)
    c.first_of-2.ensures (omega arith)

pub release-requires-2-clause-free : goal.release-requires-2-clause-free
release-requires-2-clause-free c =
    free_job c.step.new.self low_rows c.first_of-2.result (first_job 0) (low_written c.in_ok-pending.pending c.release.new.self c.step.new.self c.first_of.result c.in_ok-items.items c.in_ok-pending.ensures c.first_of.ensures c.in_ok-items.ensures c.release.ensures c.step.ensures.after)
    c.first_of-2.ensures refl

pub returns : goal.returns
returns c =
    high_after_low c.step.new.self c.release-2.new.self c.first_of-2.result (low_written c.in_ok-pending.pending c.release.new.self c.step.new.self c.first_of.result c.in_ok-items.items c.in_ok-pending.ensures c.first_of.ensures c.in_ok-items.ensures c.release.ensures c.step.ensures.after)
    c.first_of-2.ensures c.release-2.ensures

pub step-requires-clause-items : goal.step-requires-clause-items
step-requires-clause-items c =
    as_many c.in_ok-pending.pending no_rows c.in_ok-items.items c.in_ok-pending.ensures c.in_ok-items.ensures ∙ ap (λ (p : PendingSeen). length p.facts.ceilings) (sym c.release.ensures)

pub step-requires-clause-tx : goal.step-requires-clause-tx
step-requires-clause-tx c = within c.release.new.self low_released 2 (released c.in_ok-pending.pending c.release.new.self no_rows c.first_of.result (first_job 2) 0 c.in_ok-pending.ensures c.first_of.ensures c.release.ensures) (omega arith)

pub step-requires-clause-item : goal.step-requires-clause-item
step-requires-clause-item c = has_item c.release.new.self low_released (Write x (pos 9)) (released c.in_ok-pending.pending c.release.new.self no_rows c.first_of.result (first_job 2) 0 c.in_ok-pending.ensures c.first_of.ensures c.release.ensures) (omega arith)

pub step-requires-clause-used : goal.step-requires-clause-used
step-requires-clause-used c = little_used c.release.new.self low_released 2 (new_row (first_job 2) 0) (released c.in_ok-pending.pending c.release.new.self no_rows c.first_of.result (first_job 2) 0 c.in_ok-pending.ensures c.first_of.ensures c.release.ensures) refl (omega arith)
