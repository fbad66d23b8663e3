-- Computed: each entry is what the step gives.
use Rattle.std.proofs.Common.{◌≡◌, Some, refl, [], ℕ}
use Rattle.std.specs.Prelude.{IsTrue}
use Rattle.rt_base.specs.declared.operation.Op.TheVariants.{Compute}
use Rattle.rt_base.specs.declared.operation.Outcome.TheVariants.{Computed}
use Rattle.rt_base.specs.declared.operation.End.TheVariants.{Overrun}
use Rattle.step_journal.specs.declared.entry.Entry.TheVariants.{Step}
use Rattle.step_journal.specs.History.{IsLegal, state_of}
use Rattle.law_histories.specs.Ids.{job}
use Rattle.rt_base.specs.LockRule.{blocker}
use Rattle.txn_set.specs.Ceilings.{write_ceiling, absolute_ceiling}
use Rattle.item_model.specs.Work.{verdict, stamp_for}
use Rattle.step_journal.specs.State.{opening}
use Rattle.step_journal.specs.LockRule.{ceiling_of, highest, refusal}
use Rattle.step_journal.specs.Running.{running}
use Rattle.step_journal.specs.Instant.{with_end, with_cancellations, with_releases, arrived}
use Rattle.step_journal.specs.Step.{may_plan, with_plan, after_effect, with_step, with_wait, step}
use Rattle.step_journal.specs.History.{event_of, entry_given}
use Rattle.item_model.specs.Kinds.{is_dated, is_derived}
use Rattle.txn_set.specs.Set.{IsTheWriter, IsCompiled}
use Rattle.law_histories.proofs.Compiled.{compiled}
use Rattle.law_histories.specs.Overrun.{overrun, overrun_entries, never_overrun, never_overrun_before, OverrunHolds}

legal : IsLegal overrun overrun_entries
unfolding overrun overrun_entries never_overrun_before write_ceiling absolute_ceiling verdict stamp_for opening blocker ceiling_of highest refusal running with_end with_cancellations with_releases arrived may_plan with_plan after_effect with_step with_wait step
legal = (refl, (refl, (refl, (refl, tt))))

items : (state_of overrun overrun_entries).items ≡ []
unfolding overrun overrun_entries never_overrun_before write_ceiling absolute_ceiling verdict stamp_for opening blocker ceiling_of highest refusal running with_end with_cancellations with_releases arrived may_plan with_plan after_effect with_step with_wait step
items = refl

never_overrun_gives : entry_given (step overrun (state_of overrun never_overrun_before) (event_of never_overrun)) ≡ Some (Step (job 0 0) Compute Computed (Some Overrun) 2)
unfolding overrun overrun_entries never_overrun_before write_ceiling absolute_ceiling verdict stamp_for opening blocker ceiling_of highest refusal running with_end with_cancellations with_releases arrived may_plan with_plan after_effect with_step with_wait step
never_overrun_gives = refl

written : (item : ℕ) → IsTrue (is_dated overrun.items item) → (tx : ℕ) × IsTheWriter overrun item tx
unfolding overrun
written item h = absurd cc

not_derived : (item : ℕ) → IsTrue (is_derived overrun.items item) → ⊥
unfolding overrun
not_derived item h = cc

is_compiled : IsCompiled overrun
unfolding overrun
is_compiled = compiled overrun refl written (λ item n walk. not_derived item walk.1.derived)

pub holds : OverrunHolds
holds = record {
  compiled = is_compiled;
  legal = legal;
  items = items;
  never_overrun = λ h. absurd (cc (h, never_overrun_gives));
}
