-- Computed: each entry is what the step gives.
use Rattle.std.proofs.Common.{◌≡◌, None, Some, refl, [], ◌∷◌, pos, ℕ, zero, suc, arith, subst}
use Rattle.std.specs.Prelude.{IsTrue}
use Rattle.rt_base.specs.declared.operation.Op.TheVariants.{Read}
use Rattle.rt_base.specs.declared.operation.Outcome.TheVariants.{Got}
use Rattle.step_journal.specs.declared.entry.Entry.TheVariants.{Step}
use Rattle.step_journal.specs.History.{IsLegal, state_of}
use Rattle.law_histories.specs.Ids.{item, job}
use Rattle.rt_base.specs.LockRule.{blocker}
use Rattle.txn_set.specs.Ceilings.{write_ceiling, absolute_ceiling}
use Rattle.item_model.specs.Work.{verdict, stamp_for}
use Rattle.step_journal.specs.State.{opening}
use Rattle.step_journal.specs.LockRule.{ceiling_of, highest, refusal}
use Rattle.step_journal.specs.Running.{running}
use Rattle.step_journal.specs.Instant.{with_end, with_cancellations, with_releases, arrived}
use Rattle.step_journal.specs.Step.{may_plan, with_plan, after_effect, with_step, with_wait, step}
use Rattle.step_journal.specs.History.{event_of, entry_given}
use Rattle.item_model.specs.Kinds.{is_dated, is_derived}
use Rattle.txn_set.specs.Set.{IsTheWriter, IsCompiled, may_write, txn_of, may_read, Walk}
use Rattle.law_histories.proofs.Compiled.{compiled}
use Rattle.law_histories.specs.DerivedStamp.{derived_stamp, derived_stamp_entries, own_read_stamped, own_read_stamped_before, DerivedStampHolds}

legal : IsLegal derived_stamp derived_stamp_entries
unfolding derived_stamp derived_stamp_entries own_read_stamped_before write_ceiling absolute_ceiling verdict stamp_for opening blocker ceiling_of highest refusal running with_end with_cancellations with_releases arrived may_plan with_plan after_effect with_step with_wait step
legal = (refl, (refl, (refl, (refl, (refl, (refl, (refl, (refl, (refl, (refl, tt))))))))))

items : (state_of derived_stamp derived_stamp_entries).items ≡ record { value = pos 5; stamp = 0 } ∷ record { value = pos 105; stamp = 0 } ∷ record { value = pos 7; stamp = 5 } ∷ []
unfolding derived_stamp derived_stamp_entries own_read_stamped_before write_ceiling absolute_ceiling verdict stamp_for opening blocker ceiling_of highest refusal running with_end with_cancellations with_releases arrived may_plan with_plan after_effect with_step with_wait step
items = refl

own_read_stamped_gives : entry_given (step derived_stamp (state_of derived_stamp own_read_stamped_before) (event_of own_read_stamped)) ≡ Some (Step (job 1 0) (Read (item 2)) (Got (pos 7) None) None 8)
unfolding derived_stamp derived_stamp_entries own_read_stamped_before write_ceiling absolute_ceiling verdict stamp_for opening blocker ceiling_of highest refusal running with_end with_cancellations with_releases arrived may_plan with_plan after_effect with_step with_wait step
own_read_stamped_gives = refl

alone_0 : (other : ℕ) → IsTrue (may_write (txn_of derived_stamp other) 0) → other ≡ 0
unfolding derived_stamp
alone_0 zero h = refl
alone_0 (suc zero) h = absurd cc
alone_0 (suc (suc n)) h = absurd cc

alone_1 : (other : ℕ) → IsTrue (may_write (txn_of derived_stamp other) 1) → other ≡ 1
unfolding derived_stamp
alone_1 zero h = absurd cc
alone_1 (suc zero) h = refl
alone_1 (suc (suc n)) h = absurd cc

written : (item : ℕ) → IsTrue (is_dated derived_stamp.items item) → (tx : ℕ) × IsTheWriter derived_stamp item tx
unfolding derived_stamp
written zero h = (0, record { in_range = omega arith; writes = refl; alone = alone_0 })
written (suc zero) h = (1, record { in_range = omega arith; writes = refl; alone = alone_1 })
written (suc (suc zero)) h = absurd cc
written (suc (suc (suc item))) h = absurd cc

one_derived : (item : ℕ) → IsTrue (is_derived derived_stamp.items item) → item ≡ 1
unfolding derived_stamp
one_derived zero h = absurd cc
one_derived (suc zero) h = refl
one_derived (suc (suc zero)) h = absurd cc
one_derived (suc (suc (suc item))) h = absurd cc

not_read : (tx : ℕ) → IsTrue (may_read (txn_of derived_stamp tx) 1) → ⊥
unfolding derived_stamp
not_read zero h = cc
not_read (suc zero) h = cc
not_read (suc (suc n)) h = cc

read_by : (item tx : ℕ) → item ≡ 1 → IsTrue (may_read (txn_of derived_stamp tx) item) → ⊥
read_by item tx e h = not_read tx (subst (λ (i : ℕ). IsTrue (may_read (txn_of derived_stamp tx) i)) e h)

-- the parent of a derived item is not derived
acyclic : (item n : ℕ) → ¬ Walk derived_stamp item item (suc n)
acyclic item zero walk = read_by item walk.1.writer (one_derived item walk.1.derived) (subst (λ (i : ℕ). IsTrue (may_read (txn_of derived_stamp walk.1.writer) i)) walk.2 walk.1.reads)
acyclic item (suc n) walk = read_by walk.0 walk.1.writer (one_derived walk.0 walk.2.1.derived) walk.1.reads

is_compiled : IsCompiled derived_stamp
unfolding derived_stamp
is_compiled = compiled derived_stamp refl written acyclic

pub holds : DerivedStampHolds
holds = record {
  compiled = is_compiled;
  legal = legal;
  items = items;
  own_read_stamped = λ h. absurd (cc (h, own_read_stamped_gives));
}
