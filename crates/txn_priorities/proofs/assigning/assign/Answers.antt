use Rattle.std.proofs.Common.{◌<◌, ◌∙◌, ap, length, arith}
use Rattle.law_times.specs.Pass.{left}
use Rattle.txn_priorities.proofs.Tested.{left-is, looks-end, looks-next, found-inside, given-length, pass-next, given-more, seen-found, none-keeps, solved-at}
use Rattle.txn_priorities.proofs.assigning.assign.Goals as goal

pub returns-in_err-found-clause-looks : goal.returns-in_err-found-clause-looks
returns-in_err-found-clause-looks g c =
    let inside : c.loop-below.below < length c.args.set.now.txns = omega (arith, c.loop-below-test.true, ap length c.txns-count.ensures) in
    looks-end (length c.args.set.now.txns) c.loop-below.below c.args.steps.now c.loop-below.steps c.first_passing.new.steps (left c.deref-in-loop-below.result.now) inside
    (left-is c.args.set.now c.loop-below.below c.deref-in-loop-below.result.now c.loop-below.invariant.given (c.deref-in-loop-below.ensures.value ∙ c.loop-below.invariant.prios))
    c.first_passing.ensures.looks c.loop-below.invariant.looks

pub returns-in_err-unplaced_of-clause-looks : goal.returns-in_err-unplaced_of-clause-looks
returns-in_err-unplaced_of-clause-looks g c =
    let inside : c.loop-below.below < length c.args.set.now.txns = omega (arith, c.loop-below-test.true, ap length c.txns-count.ensures) in
    looks-end (length c.args.set.now.txns) c.loop-below.below c.args.steps.now c.loop-below.steps c.first_passing.new.steps (left c.deref-in-loop-below.result.now) inside
    (left-is c.args.set.now c.loop-below.below c.deref-in-loop-below.result.now c.loop-below.invariant.given (c.deref-in-loop-below.ensures.value ∙ c.loop-below.invariant.prios))
    c.first_passing.ensures.looks c.loop-below.invariant.looks

pub returns-in_default-clause-looks : goal.returns-in_default-clause-looks
returns-in_default-clause-looks g c =
    let inside : c.loop-below.below < length c.args.set.now.txns = omega (arith, c.loop-below-test.true, ap length c.txns-count.ensures) in
    looks-end (length c.args.set.now.txns) c.loop-below.below c.args.steps.now c.loop-below.steps c.first_passing.new.steps (left c.deref-in-loop-below.result.now) inside
    (left-is c.args.set.now c.loop-below.below c.deref-in-loop-below.result.now c.loop-below.invariant.given (c.deref-in-loop-below.ensures.value ∙ c.loop-below.invariant.prios))
    c.first_passing.ensures.looks c.loop-below.invariant.looks

pub returns-in_default-clause-none : goal.returns-in_default-clause-none
returns-in_default-clause-none g c =
    none-keeps c.args.set.now c.loop-below.below c.deref-in-loop-below.result.now c.loop-below.prios.items _ c.is_compiled.ensures (omega (arith, c.loop-below-test.true, ap length c.txns-count.ensures)) c.loop-below.invariant.prios c.loop-below.invariant.given
    c.in_ok-found.ensures.first c.deref-in-loop-below.ensures.value c.in_default.is

pub index_mut-requires : goal.index_mut-requires
index_mut-requires g c =
    let found = seen-found c.args.set.now c.deref-in-loop-below.result.now c.loop-below.prios.items _ _ c.in_ok-found.ensures.first c.deref-in-loop-below.ensures.value c.in-Some.is in
    let inside = found-inside c.args.set.now c.loop-below.prios.items _ found in
    let size = given-length c.args.set.now c.loop-below.below c.loop-below.prios.items c.loop-below.invariant.given c.loop-below.invariant.prios in
    omega (arith, inside, size)

pub loop-below-preserved : goal.loop-below-preserved
loop-below-preserved g c =
    let inside : c.loop-below.below < length c.args.set.now.txns = omega (arith, c.loop-below-test.true, ap length c.txns-count.ensures) in
    let found = seen-found c.args.set.now c.deref-in-loop-below.result.now c.loop-below.prios.items _ _ c.in_ok-found.ensures.first c.deref-in-loop-below.ensures.value c.in-Some.is in
    record {
      prios = pass-next c.args.set.now c.loop-below.below _ c.loop-below.prios.items c.loop-below.invariant.prios found;
      given = given-more c.args.set.now c.loop-below.below _ c.loop-below.prios.items c.loop-below.invariant.prios found c.loop-below.invariant.given;
      looks =
          looks-next (length c.args.set.now.txns) c.loop-below.below c.args.steps.now c.loop-below.steps c.first_passing.new.steps (left c.deref-in-loop-below.result.now) inside
          (left-is c.args.set.now c.loop-below.below c.deref-in-loop-below.result.now c.loop-below.invariant.given (c.deref-in-loop-below.ensures.value ∙ c.loop-below.invariant.prios))
          c.first_passing.ensures.looks c.loop-below.invariant.looks;
    }

pub returns-clause-solved : goal.returns-clause-solved
returns-clause-solved g c =
    solved-at c.args.set.now c.loop-below.below c.loop-below.prios.items c.is_compiled.ensures (omega (arith, c.loop-below-test.false, c.loop-below.auto.below-end, ap length c.txns-count.ensures)) c.loop-below.invariant.prios c.loop-below.invariant.given
