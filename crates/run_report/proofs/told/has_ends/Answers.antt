use Rattle.std.proofs.Common.{is_some, ◌∙◌}
use Rattle.run_report.proofs.Between.{begins_within, ends_within, between_written}
use Rattle.run_report.proofs.told.has_ends.Goals as goal

pub is_between-requires-clause-left : goal.is_between-requires-clause-left
is_between-requires-clause-left c = begins_within _ _ _ _ _ c.requires.stand

pub is_between-requires-clause-after : goal.is_between-requires-clause-after
is_between-requires-clause-after c = ends_within _ _ _ _ _ c.requires.stand

pub returns : goal.returns
returns c is =
    between_written c.args.told.bytes.now c.args.names.now c.args.set.now (is_some c.args.bounds) c.args.told.entries.now
    c.args.told.left c.args.told.after c.requires.stand
    (c.is_between.ensures.opening is ∙ (c.deref.ensures.value ∙ c.in_ok-opening.ensures.opening))
    (c.is_between.ensures.closing is ∙ (c.deref-2.ensures.value ∙ c.in_ok-opening.ensures.closing))
