use Rattle.std.proofs.Common.{ap, arith}
use Rattle.core_tables.specs.declared.tally.Tally.{Tally}
use Rattle.core_tables.proofs.Facts.{known}
use Rattle.core_tables.proofs.tables.CoreTables.out_of_turn.Goals as goal

pub no_job-requires : goal.no_job-requires
no_job-requires c =
    let set = c.requires.stand.0 in
    let stand = c.requires.stand.1 in
    omega (arith, ap (λ (t : Tally). t.number) (c.tally.ensures set stand.state stand.are), (known set stand.state stand.legal).few c.args.job.tx.0)
