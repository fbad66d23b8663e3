-- Computed: each entry is what the step gives.
use Rattle.std.proofs.Common.{◌≡◌, Some, refl, [], ℕ}
use Rattle.std.specs.Prelude.{IsTrue}
use Rattle.rt_base.specs.declared.operation.Op.TheVariants.{Commit}
use Rattle.rt_base.specs.declared.operation.Outcome.TheVariants.{Closed}
use Rattle.rt_base.specs.declared.operation.End.TheVariants.{Committed}
use Rattle.step_journal.specs.declared.entry.Entry.TheVariants.{Step}
use Rattle.step_journal.specs.History.{IsLegal, state_of}
use Rattle.law_histories.specs.Ids.{job}
use Rattle.rt_base.specs.LockRule.{blocker}
use Rattle.txn_set.specs.Ceilings.{write_ceiling, absolute_ceiling}
use Rattle.item_model.specs.Work.{verdict, stamp_for}
use Rattle.step_journal.specs.State.{opening}
use Rattle.step_journal.specs.LockRule.{ceiling_of, highest, refusal}
use Rattle.step_journal.specs.Running.{running}
use Rattle.step_journal.specs.Instant.{with_end, with_cancellations, with_releases, arrived}
use Rattle.step_journal.specs.Step.{may_plan, with_plan, after_effect, with_step, with_wait, step}
use Rattle.step_journal.specs.History.{event_of, entry_given}
use Rattle.item_model.specs.Kinds.{is_dated, is_derived}
use Rattle.txn_set.specs.Set.{IsTheWriter, IsCompiled}
use Rattle.law_histories.proofs.Compiled.{compiled}
use Rattle.law_histories.specs.BackToBack.{back_to_back, back_to_back_entries, late_before_effect, late_before_effect_before, BackToBackHolds}

legal : IsLegal back_to_back back_to_back_entries
unfolding back_to_back back_to_back_entries late_before_effect_before write_ceiling absolute_ceiling verdict stamp_for opening blocker ceiling_of highest refusal running with_end with_cancellations with_releases arrived may_plan with_plan after_effect with_step with_wait step
legal = (refl, (refl, (refl, (refl, (refl, (refl, (refl, (refl, (refl, (refl, tt))))))))))

items : (state_of back_to_back back_to_back_entries).items ≡ []
unfolding back_to_back back_to_back_entries late_before_effect_before write_ceiling absolute_ceiling verdict stamp_for opening blocker ceiling_of highest refusal running with_end with_cancellations with_releases arrived may_plan with_plan after_effect with_step with_wait step
items = refl

late_before_effect_gives : entry_given (step back_to_back (state_of back_to_back late_before_effect_before) (event_of late_before_effect)) ≡ Some (Step (job 0 0) Commit Closed (Some Committed) 3)
unfolding back_to_back back_to_back_entries late_before_effect_before write_ceiling absolute_ceiling verdict stamp_for opening blocker ceiling_of highest refusal running with_end with_cancellations with_releases arrived may_plan with_plan after_effect with_step with_wait step
late_before_effect_gives = refl

written : (item : ℕ) → IsTrue (is_dated back_to_back.items item) → (tx : ℕ) × IsTheWriter back_to_back item tx
unfolding back_to_back
written item h = absurd cc

not_derived : (item : ℕ) → IsTrue (is_derived back_to_back.items item) → ⊥
unfolding back_to_back
not_derived item h = cc

is_compiled : IsCompiled back_to_back
unfolding back_to_back
is_compiled = compiled back_to_back refl written (λ item n walk. not_derived item walk.1.derived)

pub holds : BackToBackHolds
holds = record {
  compiled = is_compiled;
  legal = legal;
  items = items;
  late_before_effect = λ h. absurd (cc (h, late_before_effect_gives));
}
