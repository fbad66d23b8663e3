use Rattle.std.proofs.Common.{◌≡◌, replicate, take}
use Rattle.rt_base.proofs.looked.fill.Given as goal

abbrev pub invariant-loop-place : goal.invariant-loop-place
invariant-loop-place g l = take l.place-index l.rows ≡ replicate l.place-index l.row
