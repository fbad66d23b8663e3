-- Computed: each entry is what the step gives.
use Rattle.std.proofs.Common.{◌≡◌, Some, refl, [], ◌∷◌, pos, ℕ, zero, suc, arith}
use Rattle.std.specs.Prelude.{IsTrue}
use Rattle.rt_base.specs.declared.operation.Op.TheVariants.{Commit}
use Rattle.rt_base.specs.declared.operation.Outcome.TheVariants.{Closed}
use Rattle.rt_base.specs.declared.operation.End.TheVariants.{Apart}
use Rattle.step_journal.specs.declared.entry.Entry.TheVariants.{Step}
use Rattle.step_journal.specs.History.{IsLegal, state_of}
use Rattle.law_histories.specs.Ids.{item, job}
use Rattle.rt_base.specs.LockRule.{blocker}
use Rattle.txn_set.specs.Ceilings.{write_ceiling, absolute_ceiling}
use Rattle.item_model.specs.Work.{is_older, is_newer, verdict, stamp_for}
use Rattle.step_journal.specs.State.{opening}
use Rattle.step_journal.specs.LockRule.{ceiling_of, highest, refusal}
use Rattle.step_journal.specs.Running.{running}
use Rattle.step_journal.specs.Instant.{with_end, with_cancellations, with_releases, arrived}
use Rattle.step_journal.specs.Step.{may_plan, with_plan, after_effect, with_step, with_wait, step}
use Rattle.step_journal.specs.History.{event_of, entry_given}
use Rattle.item_model.specs.Kinds.{is_dated, is_derived}
use Rattle.txn_set.specs.Set.{IsTheWriter, IsCompiled, may_write, txn_of}
use Rattle.law_histories.proofs.Compiled.{compiled}
use Rattle.law_histories.specs.Together.{together, together_entries, apart_committed, apart_committed_before, TogetherHolds}

legal : IsLegal together together_entries
unfolding together together_entries apart_committed_before write_ceiling absolute_ceiling is_older is_newer verdict stamp_for opening blocker ceiling_of highest refusal running with_end with_cancellations with_releases arrived may_plan with_plan after_effect with_step with_wait step
legal = (refl, (refl, (refl, (refl, (refl, (refl, (refl, (refl, (refl, (refl, (refl, (refl, (refl, (refl, (refl, (refl, (refl, (refl, (refl, (refl, (refl, (refl, tt))))))))))))))))))))))

items : (state_of together together_entries).items ≡ record { value = pos 1; stamp = 30 } ∷ record { value = pos 1; stamp = 0 } ∷ []
unfolding together together_entries apart_committed_before write_ceiling absolute_ceiling is_older is_newer verdict stamp_for opening blocker ceiling_of highest refusal running with_end with_cancellations with_releases arrived may_plan with_plan after_effect with_step with_wait step
items = refl

apart_committed_gives : entry_given (step together (state_of together apart_committed_before) (event_of apart_committed)) ≡ Some (Step (job 2 0) Commit Closed (Some (Apart (item 1) (item 0))) 34)
unfolding together together_entries apart_committed_before write_ceiling absolute_ceiling is_older is_newer verdict stamp_for opening blocker ceiling_of highest refusal running with_end with_cancellations with_releases arrived may_plan with_plan after_effect with_step with_wait step
apart_committed_gives = refl

alone_0 : (other : ℕ) → IsTrue (may_write (txn_of together other) 0) → other ≡ 0
unfolding together
alone_0 zero h = refl
alone_0 (suc zero) h = absurd cc
alone_0 (suc (suc zero)) h = absurd cc
alone_0 (suc (suc (suc n))) h = absurd cc

alone_1 : (other : ℕ) → IsTrue (may_write (txn_of together other) 1) → other ≡ 1
unfolding together
alone_1 zero h = absurd cc
alone_1 (suc zero) h = refl
alone_1 (suc (suc zero)) h = absurd cc
alone_1 (suc (suc (suc n))) h = absurd cc

written : (item : ℕ) → IsTrue (is_dated together.items item) → (tx : ℕ) × IsTheWriter together item tx
unfolding together
written zero h = (0, record { in_range = omega arith; writes = refl; alone = alone_0 })
written (suc zero) h = (1, record { in_range = omega arith; writes = refl; alone = alone_1 })
written (suc (suc item)) h = absurd cc

not_derived : (item : ℕ) → IsTrue (is_derived together.items item) → ⊥
unfolding together
not_derived zero h = cc
not_derived (suc zero) h = cc
not_derived (suc (suc item)) h = cc

is_compiled : IsCompiled together
unfolding together
is_compiled = compiled together refl written (λ item n walk. not_derived item walk.1.derived)

pub holds : TogetherHolds
holds = record {
  compiled = is_compiled;
  legal = legal;
  items = items;
  apart_committed = λ h. absurd (cc (h, apart_committed_gives));
}
