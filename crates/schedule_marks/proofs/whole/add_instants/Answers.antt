use Rattle.std.proofs.Common.{rules}
use Rattle.schedule_marks.specs.Marks.{step_in, refusal_in, release_in, deadline_in, end_in}
use Rattle.schedule_marks.proofs.Sums.{joined}
use Rattle.schedule_marks.proofs.whole.add_instants.Goals as goal

pub returns : goal.returns
returns c =
    let steps = c.in_ok-add_each.ensures (step_in c.args.part) (λ one what says. search rules) in
    let refusals = c.in_ok-add_each-2.ensures (refusal_in c.args.part) (λ one what says. search rules) in
    let releases = c.in_ok-add_each-3.ensures (release_in c.args.part) (λ one what says. search rules) in
    let deadlines = c.in_ok-add_each-4.ensures (deadline_in c.args.set.now c.args.part) (λ one what says. search rules) in
    let ends = c.in_ok-add_each-5.ensures (end_in c.args.part) (λ one what says. search rules) in
    search (rules, joined, steps, refusals, releases, deadlines, ends) depth 9
