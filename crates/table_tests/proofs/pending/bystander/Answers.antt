use Rattle.std.proofs.Common.{refl, arith}
use Rattle.rt_base.specs.declared.operation.Op.TheVariants.{Read}
use Rattle.table_tests.specs.Trio.{x, first_job, written_rows}
use Rattle.table_tests.proofs.TrioSteps.{waiting_rows, three_rows, left_rows, high_waits, middle_stands_by, low_ends, may_wait_now, within, within_job, free_job, has_item}
use Rattle.table_tests.proofs.pending.bystander.Goals as goal

pub wait-requires-clause-may : goal.wait-requires-clause-may
wait-requires-clause-may g c = may_wait_now c.in_ok-pending.pending c.first_of-4.result c.in_ok-pending.ensures c.first_of-4.ensures

pub release-requires-clause-tx : goal.release-requires-clause-tx
release-requires-clause-tx g c =
    within_job c.wait.new.self waiting_rows c.first_of-6.result (first_job 1) (high_waits c.in_ok-pending.pending c.wait.new.self c.first_of-4.result c.in_ok-pending.ensures c.first_of-4.ensures c.wait.ensures) c.first_of-6.ensures (omega arith)

pub release-requires-clause-free : goal.release-requires-clause-free
release-requires-clause-free g c =
    free_job c.wait.new.self waiting_rows c.first_of-6.result (first_job 1) (high_waits c.in_ok-pending.pending c.wait.new.self c.first_of-4.result c.in_ok-pending.ensures c.first_of-4.ensures c.wait.ensures) c.first_of-6.ensures refl

pub end-requires : goal.end-requires
end-requires g c =
    within c.release.new.self three_rows 2 (middle_stands_by c.wait.new.self c.release.new.self c.first_of-6.result
    (high_waits c.in_ok-pending.pending c.wait.new.self c.first_of-4.result c.in_ok-pending.ensures c.first_of-4.ensures c.wait.ensures) c.first_of-6.ensures c.release.ensures)
    (omega arith)

pub lock_refusal-requires-2-clause-tx : goal.lock_refusal-requires-2-clause-tx
lock_refusal-requires-2-clause-tx g c =
    within c.end.new.self left_rows 0 (low_ends c.release.new.self c.end.new.self (middle_stands_by c.wait.new.self c.release.new.self c.first_of-6.result
    (high_waits c.in_ok-pending.pending c.wait.new.self c.first_of-4.result c.in_ok-pending.ensures c.first_of-4.ensures c.wait.ensures) c.first_of-6.ensures c.release.ensures) c.end.ensures)
    (omega arith)

pub lock_refusal-requires-2-clause-item : goal.lock_refusal-requires-2-clause-item
lock_refusal-requires-2-clause-item g c =
    has_item c.end.new.self left_rows (Read x) (low_ends c.release.new.self c.end.new.self (middle_stands_by c.wait.new.self c.release.new.self c.first_of-6.result
    (high_waits c.in_ok-pending.pending c.wait.new.self c.first_of-4.result c.in_ok-pending.ensures c.first_of-4.ensures c.wait.ensures) c.first_of-6.ensures c.release.ensures) c.end.ensures)
    (omega arith)

pub is_pending-requires : goal.is_pending-requires
is_pending-requires g c =
    within_job c.end.new.self left_rows c.first_of-9.result (first_job 2) (low_ends c.release.new.self c.end.new.self (middle_stands_by c.wait.new.self c.release.new.self c.first_of-6.result
    (high_waits c.in_ok-pending.pending c.wait.new.self c.first_of-4.result c.in_ok-pending.ensures c.first_of-4.ensures c.wait.ensures) c.first_of-6.ensures c.release.ensures) c.end.ensures)
    c.first_of-9.ensures (omega arith)

pub wait-requires-clause-tx : goal.wait-requires-clause-tx
wait-requires-clause-tx g c = within c.in_ok-pending.pending written_rows 0 c.in_ok-pending.ensures (omega arith)
