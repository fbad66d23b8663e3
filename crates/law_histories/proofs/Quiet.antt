-- Computed: each entry is what the step gives.
use Rattle.std.proofs.Common.{◌≡◌, None, refl, [], ◌∷◌, pos, ℕ, zero, suc, arith}
use Rattle.std.specs.Prelude.{IsTrue}
use Rattle.step_journal.specs.History.{IsLegal, state_of}
use Rattle.rt_base.specs.LockRule.{blocker}
use Rattle.txn_set.specs.Ceilings.{write_ceiling, absolute_ceiling}
use Rattle.item_model.specs.Work.{verdict, stamp_for}
use Rattle.step_journal.specs.State.{opening}
use Rattle.step_journal.specs.LockRule.{ceiling_of, highest, refusal}
use Rattle.step_journal.specs.Running.{running}
use Rattle.step_journal.specs.Instant.{with_end, with_cancellations, with_releases, arrived}
use Rattle.step_journal.specs.Step.{may_plan, with_plan, after_effect, with_step, with_wait, step}
use Rattle.step_journal.specs.History.{event_of, entry_given}
use Rattle.item_model.specs.Kinds.{is_dated, is_derived}
use Rattle.txn_set.specs.Set.{IsTheWriter, IsCompiled, may_write, txn_of}
use Rattle.law_histories.proofs.Compiled.{compiled}
use Rattle.law_histories.specs.Quiet.{quiet, quiet_entries, too_early, too_early_before, QuietHolds}

legal : IsLegal quiet quiet_entries
unfolding quiet quiet_entries too_early_before write_ceiling absolute_ceiling verdict stamp_for opening blocker ceiling_of highest refusal running with_end with_cancellations with_releases arrived may_plan with_plan after_effect with_step with_wait step
legal = (refl, (refl, (refl, (refl, (refl, tt)))))

items : (state_of quiet quiet_entries).items ≡ record { value = pos 0; stamp = 0 } ∷ []
unfolding quiet quiet_entries too_early_before write_ceiling absolute_ceiling verdict stamp_for opening blocker ceiling_of highest refusal running with_end with_cancellations with_releases arrived may_plan with_plan after_effect with_step with_wait step
items = refl

too_early_gives : entry_given (step quiet (state_of quiet too_early_before) (event_of too_early)) ≡ None
unfolding quiet quiet_entries too_early_before write_ceiling absolute_ceiling verdict stamp_for opening blocker ceiling_of highest refusal running with_end with_cancellations with_releases arrived may_plan with_plan after_effect with_step with_wait step
too_early_gives = refl

alone : (other : ℕ) → IsTrue (may_write (txn_of quiet other) 0) → other ≡ 0
unfolding quiet
alone zero h = refl
alone (suc zero) h = absurd cc
alone (suc (suc n)) h = absurd cc

written : (item : ℕ) → IsTrue (is_dated quiet.items item) → (tx : ℕ) × IsTheWriter quiet item tx
unfolding quiet
written zero h = (0, record { in_range = omega arith; writes = refl; alone = alone })
written (suc item) h = absurd cc

not_derived : (item : ℕ) → IsTrue (is_derived quiet.items item) → ⊥
unfolding quiet
not_derived zero h = cc
not_derived (suc item) h = cc

is_compiled : IsCompiled quiet
unfolding quiet
is_compiled = compiled quiet refl written (λ item n walk. not_derived item walk.1.derived)

pub holds : QuietHolds
holds = record {
  compiled = is_compiled;
  legal = legal;
  items = items;
  too_early = λ h. absurd (cc (h, too_early_gives));
}
