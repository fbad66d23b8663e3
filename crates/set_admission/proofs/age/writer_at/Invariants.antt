use Rattle.std.proofs.Common.{◌≡◌, ◌+◌, drop}
use Rattle.law_times.specs.Ages.{first_writer}
use Rattle.set_admission.proofs.age.writer_at.Given as goal

abbrev pub invariant-loop-place : goal.invariant-loop-place
invariant-loop-place l = first_writer l.txns l.item.0 ≡ l.place + first_writer (drop l.place l.txns) l.item.0
