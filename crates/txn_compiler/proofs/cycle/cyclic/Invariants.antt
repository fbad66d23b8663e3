use Rattle.std.proofs.Common.{◌≡◌}
use Rattle.txn_compiler.specs.Refusal.{cyclic_at, cyclic_derivation}
use Rattle.txn_compiler.proofs.Refusing.{refusal_from}
use Rattle.txn_compiler.proofs.cycle.cyclic.Given as goal

abbrev pub invariant-loop-place : goal.invariant-loop-place
invariant-loop-place l = cyclic_derivation l.graph.items l.graph.txns ≡ refusal_from (cyclic_at l.graph.items l.graph.txns) l.place l.graph.items
