use Rattle.std.proofs.Common.{arith}
use Rattle.std.proofs.lemmas.List.{length-map}
use Rattle.set_admission.proofs.Tables.{order-inside, length-order, not-schedulable-is}
use Rattle.set_admission.proofs.Link.{rows-good}
use Rattle.set_admission.proofs.schedule.responses_of.Goals as goal

pub resp_rows_of-requires : goal.resp_rows_of-requires
resp_rows_of-requires c = order-inside c.args.set.now c.args.order.now c.requires.order

pub responses-requires-clause-few : goal.responses-requires-clause-few
responses-requires-clause-few c =
    rw (c.deref.ensures.value, c.in_ok-rows.ensures, length-map) (omega (arith, length-order c.args.set.now c.args.order.now c.requires.order, c.requires.compiled.few_txns))

pub responses-requires-clause-ranges : goal.responses-requires-clause-ranges
responses-requires-clause-ranges c =
    rw (c.deref.ensures.value, c.in_ok-rows.ensures) (rows-good c.args.set.now c.requires.compiled c.args.order.now (order-inside c.args.set.now c.args.order.now c.requires.order))

pub returns-in-Err-Unschedulable-clause-err : goal.returns-in-Err-Unschedulable-clause-err
returns-in-Err-Unschedulable-clause-err c =
    let told = rw (c.in-Err-Unschedulable.field-0-is, c.deref.ensures.value, c.in_ok-rows.ensures) at c.in-Err-Unschedulable.ensures.err in
    rw (c.in-Err-Unschedulable.row-is, c.in-Err-Unschedulable.demand-is)
    (not-schedulable-is c.args.set.now c.requires.compiled c.args.order.now c.requires.order c.in-Err-Unschedulable.row c.in-Err-Unschedulable.demand (record { 0 = 0 }) told)
