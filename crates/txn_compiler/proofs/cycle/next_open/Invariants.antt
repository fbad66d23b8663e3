use Rattle.std.proofs.Common.{◌≡◌, ℕ, ◌<◌, get_or, true, false}
use Rattle.txn_compiler.proofs.cycle.next_open.Given as goal

abbrev pub invariant-loop-item : goal.invariant-loop-item
invariant-loop-item l = (k : ℕ) → k < l.item → get_or l.reached k false ≡ true → get_or l.done k false ≡ true
