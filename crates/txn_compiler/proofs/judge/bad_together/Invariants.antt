use Rattle.std.proofs.Common.{◌≡◌, drop}
use Rattle.txn_compiler.specs.Refusal.{first_refusal, bad_together_at}
use Rattle.txn_compiler.proofs.judge.bad_together.Given as goal

abbrev pub invariant-loop-place : goal.invariant-loop-place
invariant-loop-place l = first_refusal (bad_together_at l.items) 0 l.together ≡ first_refusal (bad_together_at l.items) l.place (drop l.place l.together)
