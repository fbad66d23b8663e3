use Rattle.std.proofs.Common.{◌≡◌, drop}
use Rattle.txn_compiler.specs.Refusal.{first_refusal, two_writers_at}
use Rattle.txn_compiler.proofs.graph.Graph.two_writers.Given as goal

abbrev pub invariant-loop-place : goal.invariant-loop-place
invariant-loop-place l = first_refusal (λ item decl. two_writers_at l.self.items l.self.txns item) 0 l.self.items ≡ first_refusal (λ item decl. two_writers_at l.self.items l.self.txns item) l.place (drop l.place l.self.items)
