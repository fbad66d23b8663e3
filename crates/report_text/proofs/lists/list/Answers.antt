use Rattle.std.proofs.Common.{rules}
use Rattle.report_text.specs.Head.{list_of}
use Rattle.report_text.proofs.ListLaws.{goes_on, unknown_inside, falls_inside, unknown_last, falls_last, ends}
use Rattle.report_text.proofs.lists.list.Goals as goal

pub returns-in_default-place : goal.returns-in_default-place
returns-in_default-place c =
    unknown_inside c.args.items.now c.loop-name.least c.loop-name.ids.items c.loop-name.rest.now c.in-Some.name.now c.in-Some.after.now (list_of c.args.items.now c.args.word.now) (search rules) (search rules) c.loop-name.invariant

pub returns-then-at-least : goal.returns-then-at-least
returns-then-at-least c =
    falls_inside c.args.items.now c.loop-name.least c.in-Some-place.at c.loop-name.ids.items c.loop-name.rest.now c.in-Some.name.now c.in-Some.after.now (list_of c.args.items.now c.args.word.now) (search rules) (search rules) c.if-at-least.true c.loop-name.invariant

pub loop-name-preserved : goal.loop-name-preserved
loop-name-preserved c =
    rw c.in_ok-push.ensures.items (goes_on c.args.items.now c.loop-name.least c.in-Some-place.at c.loop-name.ids.items c.loop-name.rest.now c.in-Some.name.now c.in-Some.after.now (list_of c.args.items.now c.args.word.now) (search rules) (search rules) c.if-at-least.false c.loop-name.invariant)

pub returns-in_default-place-2 : goal.returns-in_default-place-2
returns-in_default-place-2 c =
    unknown_last c.args.items.now c.loop-name.least c.loop-name.ids.items c.loop-name.rest.now (list_of c.args.items.now c.args.word.now) (search rules) (search rules) c.loop-name.invariant

pub returns-then-at-least-2 : goal.returns-then-at-least-2
returns-then-at-least-2 c =
    falls_last c.args.items.now c.loop-name.least c.in-Some-place-2.at c.loop-name.ids.items c.loop-name.rest.now (list_of c.args.items.now c.args.word.now) (search rules) (search rules) c.if-at-least-2.true c.loop-name.invariant

pub returns : goal.returns
returns c =
    rw (c.of-2.ensures, c.in_ok-push-2.ensures.items) (ends c.args.items.now c.loop-name.least c.in-Some-place-2.at c.loop-name.ids.items c.loop-name.rest.now (list_of c.args.items.now c.args.word.now) (search rules) (search rules) c.if-at-least-2.false c.loop-name.invariant)
