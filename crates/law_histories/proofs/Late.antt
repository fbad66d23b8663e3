-- Computed: each entry is what the step gives.
use Rattle.std.proofs.Common.{◌≡◌, None, Some, refl, [], ◌∷◌, pos, ℕ, zero, suc}
use Rattle.std.specs.Prelude.{IsTrue}
use Rattle.rt_base.specs.declared.operation.Op.TheVariants.{Compute}
use Rattle.rt_base.specs.declared.operation.Outcome.TheVariants.{Computed}
use Rattle.rt_base.specs.declared.operation.End.TheVariants.{Late}
use Rattle.step_journal.specs.declared.entry.Entry.TheVariants.{Step}
use Rattle.step_journal.specs.History.{IsLegal, state_of}
use Rattle.law_histories.specs.Ids.{job}
use Rattle.rt_base.specs.LockRule.{blocker}
use Rattle.txn_set.specs.Ceilings.{write_ceiling, absolute_ceiling}
use Rattle.item_model.specs.Work.{verdict, stamp_for}
use Rattle.step_journal.specs.State.{opening}
use Rattle.step_journal.specs.LockRule.{ceiling_of, highest, refusal}
use Rattle.step_journal.specs.Running.{running}
use Rattle.step_journal.specs.Instant.{with_end, with_cancellations, with_releases, arrived}
use Rattle.step_journal.specs.Step.{may_plan, with_plan, after_effect, with_step, with_wait, step}
use Rattle.step_journal.specs.History.{event_of, entry_given}
use Rattle.item_model.specs.Kinds.{is_dated, is_derived}
use Rattle.txn_set.specs.Set.{IsTheWriter, IsCompiled}
use Rattle.law_histories.proofs.Compiled.{compiled}
use Rattle.law_histories.specs.Late.{late, late_entries, never_late, never_late_before, release_before_late, release_before_late_before, LateHolds}

legal : IsLegal late late_entries
unfolding late late_entries never_late_before release_before_late_before write_ceiling absolute_ceiling verdict stamp_for opening blocker ceiling_of highest refusal running with_end with_cancellations with_releases arrived may_plan with_plan after_effect with_step with_wait step
legal = (refl, (refl, (refl, (refl, (refl, (refl, (refl, (refl, (refl, (refl, tt))))))))))

items : (state_of late late_entries).items ≡ record { value = pos 0; stamp = 0 } ∷ []
unfolding late late_entries never_late_before release_before_late_before write_ceiling absolute_ceiling verdict stamp_for opening blocker ceiling_of highest refusal running with_end with_cancellations with_releases arrived may_plan with_plan after_effect with_step with_wait step
items = refl

never_late_gives : entry_given (step late (state_of late never_late_before) (event_of never_late)) ≡ Some (Step (job 0 0) Compute Computed (Some Late) 3)
unfolding late late_entries never_late_before release_before_late_before write_ceiling absolute_ceiling verdict stamp_for opening blocker ceiling_of highest refusal running with_end with_cancellations with_releases arrived may_plan with_plan after_effect with_step with_wait step
never_late_gives = refl

release_before_late_gives : entry_given (step late (state_of late release_before_late_before) (event_of release_before_late)) ≡ None
unfolding late late_entries never_late_before release_before_late_before write_ceiling absolute_ceiling verdict stamp_for opening blocker ceiling_of highest refusal running with_end with_cancellations with_releases arrived may_plan with_plan after_effect with_step with_wait step
release_before_late_gives = refl

written : (item : ℕ) → IsTrue (is_dated late.items item) → (tx : ℕ) × IsTheWriter late item tx
unfolding late
written zero h = absurd cc
written (suc item) h = absurd cc

not_derived : (item : ℕ) → IsTrue (is_derived late.items item) → ⊥
unfolding late
not_derived zero h = cc
not_derived (suc item) h = cc

is_compiled : IsCompiled late
unfolding late
is_compiled = compiled late refl written (λ item n walk. not_derived item walk.1.derived)

pub holds : LateHolds
holds = record {
  compiled = is_compiled;
  legal = legal;
  items = items;
  never_late = λ h. absurd (cc (h, never_late_gives));
  release_before_late = λ h. absurd (cc (h, release_before_late_gives));
}
