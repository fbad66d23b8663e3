-- Computed: each entry is what the step gives.
use Rattle.std.proofs.Common.{◌≡◌, None, Some, refl, [], ◌∷◌, pos, ℕ, zero, suc, arith}
use Rattle.std.specs.Prelude.{IsTrue}
use Rattle.rt_base.specs.declared.operation.Op.TheVariants.{Write}
use Rattle.step_journal.specs.declared.entry.Entry.TheVariants.{Blocked}
use Rattle.step_journal.specs.History.{IsLegal, state_of}
use Rattle.law_histories.specs.Ids.{item, job}
use Rattle.rt_base.specs.LockRule.{blocker}
use Rattle.txn_set.specs.Ceilings.{write_ceiling, absolute_ceiling}
use Rattle.item_model.specs.Work.{verdict, stamp_for}
use Rattle.step_journal.specs.State.{opening}
use Rattle.step_journal.specs.LockRule.{ceiling_of, highest, refusal}
use Rattle.step_journal.specs.Running.{running}
use Rattle.step_journal.specs.Instant.{with_end, with_cancellations, with_releases, arrived}
use Rattle.step_journal.specs.Step.{may_plan, with_plan, after_effect, with_step, with_wait, step}
use Rattle.step_journal.specs.History.{event_of, entry_given}
use Rattle.item_model.specs.Kinds.{is_dated, is_derived}
use Rattle.txn_set.specs.Set.{IsTheWriter, IsCompiled, may_write, txn_of}
use Rattle.law_histories.proofs.Compiled.{compiled}
use Rattle.law_histories.specs.Base.{base, base_entries, equal_ceiling_granted, equal_ceiling_granted_before, blocker_passed, blocker_passed_before, BaseHolds}

legal : IsLegal base base_entries
unfolding base base_entries equal_ceiling_granted_before blocker_passed_before write_ceiling absolute_ceiling verdict stamp_for opening blocker ceiling_of highest refusal running with_end with_cancellations with_releases arrived may_plan with_plan after_effect with_step with_wait step
legal = (refl, (refl, (refl, (refl, (refl, (refl, (refl, (refl, (refl, (refl, (refl, (refl, (refl, (refl, (refl, (refl, (refl, (refl, (refl, (refl, (refl, (refl, (refl, (refl, (refl, (refl, (refl, (refl, (refl, (refl, (refl, (refl, tt))))))))))))))))))))))))))))))))

items : (state_of base base_entries).items ≡ record { value = pos 11; stamp = 30 } ∷ record { value = pos 109; stamp = 20 } ∷ []
unfolding base base_entries equal_ceiling_granted_before blocker_passed_before write_ceiling absolute_ceiling verdict stamp_for opening blocker ceiling_of highest refusal running with_end with_cancellations with_releases arrived may_plan with_plan after_effect with_step with_wait step
items = refl

equal_ceiling_granted_gives : entry_given (step base (state_of base equal_ceiling_granted_before) (event_of equal_ceiling_granted)) ≡ Some (Blocked (job 0 1) (Write (item 0) (pos 7)) (job 2 0) 3 10)
unfolding base base_entries equal_ceiling_granted_before blocker_passed_before write_ceiling absolute_ceiling verdict stamp_for opening blocker ceiling_of highest refusal running with_end with_cancellations with_releases arrived may_plan with_plan after_effect with_step with_wait step
equal_ceiling_granted_gives = refl

blocker_passed_gives : entry_given (step base (state_of base blocker_passed_before) (event_of blocker_passed)) ≡ None
unfolding base base_entries equal_ceiling_granted_before blocker_passed_before write_ceiling absolute_ceiling verdict stamp_for opening blocker ceiling_of highest refusal running with_end with_cancellations with_releases arrived may_plan with_plan after_effect with_step with_wait step
blocker_passed_gives = refl

alone : (other : ℕ) → IsTrue (may_write (txn_of base other) 0) → other ≡ 0
unfolding base
alone zero h = refl
alone (suc zero) h = absurd cc
alone (suc (suc zero)) h = absurd cc
alone (suc (suc (suc n))) h = absurd cc

written : (item : ℕ) → IsTrue (is_dated base.items item) → (tx : ℕ) × IsTheWriter base item tx
unfolding base
written zero h = (0, record { in_range = omega arith; writes = refl; alone = alone })
written (suc zero) h = absurd cc
written (suc (suc item)) h = absurd cc

not_derived : (item : ℕ) → IsTrue (is_derived base.items item) → ⊥
unfolding base
not_derived zero h = cc
not_derived (suc zero) h = cc
not_derived (suc (suc item)) h = cc

is_compiled : IsCompiled base
unfolding base
is_compiled = compiled base refl written (λ item n walk. not_derived item walk.1.derived)

pub holds : BaseHolds
holds = record {
  compiled = is_compiled;
  legal = legal;
  items = items;
  equal_ceiling_granted = λ h. absurd (cc (h, equal_ceiling_granted_gives));
  blocker_passed = λ h. absurd (cc (h, blocker_passed_gives));
}
