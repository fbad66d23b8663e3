use Rattle.std.proofs.Common.{List, ap, ◌∙◌}
use Rattle.item_model.specs.declared.stored.OutsideRead.{OutsideRead}
use Rattle.item_model.specs.Work.{of_reads, first_apart}
use Rattle.item_model.proofs.Aparts.{apart_of_reads}
use Rattle.plain_core.proofs.verdict.apart_reads.Goals as goal

pub returns : goal.returns
returns c =
    c.first_apart.ensures
    ∙ (ap (λ (reads : List OutsideRead). first_apart (of_reads reads) c.args.together.now) c.reads.ensures
    ∙ apart_of_reads c.args.work.now c.args.together.now)
