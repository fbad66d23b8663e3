-- Computed: each entry is what the step gives.
use Rattle.std.proofs.Common.{◌≡◌, Some, refl, [], ◌∷◌, pos, ℕ, zero, suc, arith}
use Rattle.std.specs.Prelude.{IsTrue}
use Rattle.rt_base.specs.declared.operation.Op.TheVariants.{Commit}
use Rattle.rt_base.specs.declared.operation.Outcome.TheVariants.{Closed}
use Rattle.rt_base.specs.declared.operation.End.TheVariants.{Stale}
use Rattle.step_journal.specs.declared.entry.Entry.TheVariants.{Step}
use Rattle.step_journal.specs.History.{IsLegal, state_of}
use Rattle.law_histories.specs.Ids.{item, job}
use Rattle.rt_base.specs.LockRule.{blocker}
use Rattle.txn_set.specs.Ceilings.{write_ceiling, absolute_ceiling}
use Rattle.item_model.specs.Work.{verdict, stamp_for}
use Rattle.step_journal.specs.State.{opening}
use Rattle.step_journal.specs.LockRule.{ceiling_of, highest, refusal}
use Rattle.step_journal.specs.Running.{running}
use Rattle.step_journal.specs.Instant.{with_end, with_cancellations, with_releases, arrived}
use Rattle.step_journal.specs.Step.{may_plan, with_plan, after_effect, with_step, with_wait, step}
use Rattle.step_journal.specs.History.{event_of, entry_given}
use Rattle.item_model.specs.Kinds.{is_dated, is_derived}
use Rattle.txn_set.specs.Set.{IsTheWriter, IsCompiled, may_write, txn_of}
use Rattle.law_histories.proofs.Compiled.{compiled}
use Rattle.law_histories.specs.Stale.{stale, stale_entries, expired_committed, expired_committed_before, StaleHolds}

legal : IsLegal stale stale_entries
unfolding stale stale_entries expired_committed_before write_ceiling absolute_ceiling verdict stamp_for opening blocker ceiling_of highest refusal running with_end with_cancellations with_releases arrived may_plan with_plan after_effect with_step with_wait step
legal = (refl, (refl, (refl, (refl, (refl, (refl, (refl, (refl, (refl, (refl, (refl, (refl, (refl, tt)))))))))))))

items : (state_of stale stale_entries).items ≡ record { value = pos 7; stamp = 30 } ∷ record { value = pos 0; stamp = 0 } ∷ []
unfolding stale stale_entries expired_committed_before write_ceiling absolute_ceiling verdict stamp_for opening blocker ceiling_of highest refusal running with_end with_cancellations with_releases arrived may_plan with_plan after_effect with_step with_wait step
items = refl

expired_committed_gives : entry_given (step stale (state_of stale expired_committed_before) (event_of expired_committed)) ≡ Some (Step (job 1 0) Commit Closed (Some (Stale (item 0) 0)) 23)
unfolding stale stale_entries expired_committed_before write_ceiling absolute_ceiling verdict stamp_for opening blocker ceiling_of highest refusal running with_end with_cancellations with_releases arrived may_plan with_plan after_effect with_step with_wait step
expired_committed_gives = refl

alone : (other : ℕ) → IsTrue (may_write (txn_of stale other) 0) → other ≡ 0
unfolding stale
alone zero h = refl
alone (suc zero) h = absurd cc
alone (suc (suc zero)) h = absurd cc
alone (suc (suc (suc n))) h = absurd cc

written : (item : ℕ) → IsTrue (is_dated stale.items item) → (tx : ℕ) × IsTheWriter stale item tx
unfolding stale
written zero h = (0, record { in_range = omega arith; writes = refl; alone = alone })
written (suc zero) h = absurd cc
written (suc (suc item)) h = absurd cc

not_derived : (item : ℕ) → IsTrue (is_derived stale.items item) → ⊥
unfolding stale
not_derived zero h = cc
not_derived (suc zero) h = cc
not_derived (suc (suc item)) h = cc

is_compiled : IsCompiled stale
unfolding stale
is_compiled = compiled stale refl written (λ item n walk. not_derived item walk.1.derived)

pub holds : StaleHolds
holds = record {
  compiled = is_compiled;
  legal = legal;
  items = items;
  expired_committed = λ h. absurd (cc (h, expired_committed_gives));
}
