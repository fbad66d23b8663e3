use Rattle.std.proofs.Common.{arith}
use Rattle.lock_core.proofs.Stood.{legal_state}
use Rattle.lock_core.proofs.Called.{block_room, blocked_said, never_done}
use Rattle.lock_core.proofs.table_calls.asked.Goals as goal

pub go-outcome-requires-clause-roomy : goal.go-outcome-requires-clause-roomy
go-outcome-requires-clause-roomy c =
    let is = c.requires.core in
    omega (arith, (c.in-None.ensures _ is.stands.are (legal_state _ is.history is.stands)).1, c.len.ensures, c.room.ensures)

pub block-requires-clause-blocked : goal.block-requires-clause-blocked
block-requires-clause-blocked c = λ history h.
    let refused = c.in-Some-Blocked in
    (blocked_said _ _ _ _ c.args.job c.args.op _ refused.by refused.ceiling refused.field-0-is (refused.ensures _ h.are (legal_state _ history h))).1

pub block-requires-clause-roomy : goal.block-requires-clause-roomy
block-requires-clause-roomy c =
    let is = c.requires.core in
    let refused = c.in-Some-Blocked in
    let says = blocked_said _ _ _ _ c.args.job c.args.op _ refused.by refused.ceiling refused.field-0-is (refused.ensures _ is.stands.are (legal_state _ is.history is.stands)) in
    omega (arith, block_room _ _ c.len.result c.room.result c.args.job c.args.op refused.by refused.ceiling says.0, c.len.ensures, c.room.ensures)

pub unreachable-requires : goal.unreachable-requires
unreachable-requires c =
    let is = c.requires.core in
    let refused = c.in-Some-Done in
    never_done _ _ _ _ c.args.job c.args.op _ _ _ refused.field-0-is (refused.ensures _ is.stands.are (legal_state _ is.history is.stands))
