use Rattle.std.proofs.Common.{rules}
use Rattle.txn_set.specs.Set.{IsCompiled}
use Rattle.txn_set.proofs.Declared.{reads_in, writes_in}
use Rattle.txn_set.proofs.compiled_set.CompiledSet.blocks.Goals as goal

pub any_write_ceiling-requires : goal.any_write_ceiling-requires
any_write_ceiling-requires c =
    let compiled : IsCompiled c.args.self.now = search rules in
    reads_in c.args.self.now c.args.lower.0 _ compiled c.requires (search rules)

pub any_absolute_ceiling-requires : goal.any_absolute_ceiling-requires
any_absolute_ceiling-requires c =
    let compiled : IsCompiled c.args.self.now = search rules in
    writes_in c.args.self.now c.args.lower.0 _ compiled c.requires (search rules)
