use Rattle.core_tables.proofs.Refusals.{refused_tells}
use Rattle.core_tables.proofs.tables.CoreTables.refusal.Goals as goal

pub returns : goal.returns
returns c = λ s are legal.
    refused_tells c.args.set.now s c.args.job c.args.op c.args.kept c.args.room c.refused.result (c.refused.ensures s are legal)
