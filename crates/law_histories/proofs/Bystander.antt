-- Computed: each entry is what the step gives.
use Rattle.std.proofs.Common.{◌≡◌, None, refl, [], ◌∷◌, pos, ℕ, zero, suc}
use Rattle.std.specs.Prelude.{IsTrue}
use Rattle.step_journal.specs.History.{IsLegal, state_of}
use Rattle.rt_base.specs.LockRule.{blocker}
use Rattle.txn_set.specs.Ceilings.{write_ceiling, absolute_ceiling}
use Rattle.item_model.specs.Work.{verdict, stamp_for}
use Rattle.step_journal.specs.State.{opening}
use Rattle.step_journal.specs.LockRule.{ceiling_of, highest, refusal}
use Rattle.step_journal.specs.Running.{running}
use Rattle.step_journal.specs.Instant.{with_end, with_cancellations, with_releases, arrived}
use Rattle.step_journal.specs.Step.{may_plan, with_plan, after_effect, with_step, with_wait, step}
use Rattle.step_journal.specs.History.{event_of, entry_given}
use Rattle.item_model.specs.Kinds.{is_dated, is_derived}
use Rattle.txn_set.specs.Set.{IsTheWriter, IsCompiled}
use Rattle.law_histories.proofs.Compiled.{compiled}
use Rattle.law_histories.specs.Bystander.{bystander, bystander_entries, no_inheritance, no_inheritance_before, BystanderHolds}

legal : IsLegal bystander bystander_entries
unfolding bystander bystander_entries no_inheritance_before write_ceiling absolute_ceiling verdict stamp_for opening blocker ceiling_of highest refusal running with_end with_cancellations with_releases arrived may_plan with_plan after_effect with_step with_wait step
legal = (refl, (refl, (refl, (refl, (refl, (refl, (refl, (refl, (refl, (refl, (refl, (refl, tt))))))))))))

items : (state_of bystander bystander_entries).items ≡ record { value = pos 9; stamp = 0 } ∷ []
unfolding bystander bystander_entries no_inheritance_before write_ceiling absolute_ceiling verdict stamp_for opening blocker ceiling_of highest refusal running with_end with_cancellations with_releases arrived may_plan with_plan after_effect with_step with_wait step
items = refl

no_inheritance_gives : entry_given (step bystander (state_of bystander no_inheritance_before) (event_of no_inheritance)) ≡ None
unfolding bystander bystander_entries no_inheritance_before write_ceiling absolute_ceiling verdict stamp_for opening blocker ceiling_of highest refusal running with_end with_cancellations with_releases arrived may_plan with_plan after_effect with_step with_wait step
no_inheritance_gives = refl

written : (item : ℕ) → IsTrue (is_dated bystander.items item) → (tx : ℕ) × IsTheWriter bystander item tx
unfolding bystander
written zero h = absurd cc
written (suc item) h = absurd cc

not_derived : (item : ℕ) → IsTrue (is_derived bystander.items item) → ⊥
unfolding bystander
not_derived zero h = cc
not_derived (suc item) h = cc

is_compiled : IsCompiled bystander
unfolding bystander
is_compiled = compiled bystander refl written (λ item n walk. not_derived item walk.1.derived)

pub holds : BystanderHolds
holds = record {
  compiled = is_compiled;
  legal = legal;
  items = items;
  no_inheritance = λ h. absurd (cc (h, no_inheritance_gives));
}
