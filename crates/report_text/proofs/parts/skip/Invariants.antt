use Rattle.std.proofs.Common.{length}
use Rattle.report_text.specs.Forms.{section_form}
use Rattle.report_text.specs.Placed.{EndsWith}
use Rattle.report_text.proofs.Walking.{Walked}
use Rattle.report_text.proofs.parts.skip.Given as goal

abbrev pub invariant-loop-line : goal.invariant-loop-line
invariant-loop-line l = Walked (section_form l.section l.kind l.names) l.first l.text l.n l.rest × EndsWith l.text l.rest

abbrev pub decreases-loop-line : goal.decreases-loop-line
decreases-loop-line l = length l.rest
