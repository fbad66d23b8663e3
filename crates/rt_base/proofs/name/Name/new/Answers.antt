use Rattle.std.proofs.Common.{rules}
use Rattle.rt_base.proofs.Padding.{new_is_padded}
use Rattle.rt_base.proofs.name.Name.new.Goals as goal

pub invariant_of-result : goal.invariant_of-result
invariant_of-result c = new_is_padded c.args.bytes.now c.copy_from_slice.new.self (search rules) (search rules)
