use Rattle.std.proofs.Common.{◌≡◌, ◌≤◌, ℕ, arith}
use Rattle.txn_set.specs.Set.{Set}
use Rattle.txn_set.specs.Ceilings.{write_ceiling, absolute_ceiling}
use Rattle.law_histories.proofs.Holding.{write_le_absolute}
use Rattle.core_tables.proofs.pending_openings.ceilings_of.Goals as goal

in_order : (set : Set) (item write absolute : ℕ) → write ≡ write_ceiling set item → absolute ≡ absolute_ceiling set item → write ≤ absolute
in_order set item write absolute w a = omega (arith, w, a, write_le_absolute set item)

pub invariant_of-push : goal.invariant_of-push
invariant_of-push c = record { ordered = in_order c.args.set.now _ _ _ c.write_ceiling.ensures c.absolute_ceiling.ensures }
