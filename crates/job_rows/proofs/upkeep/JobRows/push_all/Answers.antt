use Rattle.std.proofs.Common.{◌∙◌, ◌++◌, List, subst, refl}
use Rattle.std.proofs.lemmas.List.{take_all}
use Rattle.step_journal.specs.declared.entry.Entry.{Entry}
use Rattle.job_rows.specs.Upkeep.{Follows}
use Rattle.job_rows.proofs.Fronts.{next_goes, follows_next}
use Rattle.job_rows.proofs.upkeep.JobRows.push_all.Goals as goal

pub push-requires : goal.push-requires
push-requires c =
    next_goes c.args.self.now c.loop-entry.self c.args.entries.now c.loop-entry.entry-index _ _ c.requires c.loop-entry-test.true refl c.loop-entry.invariant.room c.loop-entry.invariant.follows

pub loop-entry-preserved : goal.loop-entry-preserved
loop-entry-preserved c = record {
  room = c.push.ensures.room ∙ c.loop-entry.invariant.room;
  follows = follows_next c.args.self.now c.loop-entry.self c.push.new.self c.args.entries.now c.loop-entry.entry-index _ _ c.loop-entry-test.true refl c.loop-entry.invariant.follows c.push.ensures.follows;
}

pub returns-clause-follows : goal.returns-clause-follows
returns-clause-follows c set history f legal =
    subst (λ (l : List Entry). Follows set c.loop-entry.self (history ++ l)) (take_all c.loop-entry.entry-index c.args.entries.now c.loop-entry-test.false) (c.loop-entry.invariant.follows set history f legal)
