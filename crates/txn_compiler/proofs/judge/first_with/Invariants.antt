use Rattle.std.proofs.Common.{◌≡◌, ◌+◌, drop}
use Rattle.txn_compiler.specs.Refusal.{first_with}
use Rattle.txn_compiler.proofs.judge.first_with.Given as goal

abbrev pub invariant-loop-place : goal.invariant-loop-place
invariant-loop-place l = first_with l.txns l.prio ≡ l.place + first_with (drop l.place l.txns) l.prio
