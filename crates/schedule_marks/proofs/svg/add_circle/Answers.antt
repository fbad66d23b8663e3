use Rattle.std.proofs.Common.{rules}
use Rattle.schedule_marks.specs.Svg.{circle}
use Rattle.schedule_marks.proofs.Sums.{joined}
use Rattle.schedule_marks.proofs.svg.add_circle.Goals as goal

pub returns : goal.returns
unfolding circle
returns c =
    search (rules, joined, c.in_ok-add.ensures, c.in_ok-add-2.ensures, c.in_ok-add_number.ensures, c.in_ok-add_number-2.ensures, c.in_ok-add-3.ensures) depth 12
