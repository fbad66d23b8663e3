-- Computed: each entry is what the step gives.
use Rattle.std.proofs.Common.{◌≡◌, None, Some, refl, [], ◌∷◌, pos, ℕ, zero, suc}
use Rattle.std.specs.Prelude.{IsTrue}
use Rattle.rt_base.specs.declared.operation.Op.TheVariants.{Read}
use Rattle.rt_base.specs.declared.operation.Outcome.TheVariants.{Got}
use Rattle.step_journal.specs.declared.entry.Entry.TheVariants.{Step}
use Rattle.step_journal.specs.History.{IsLegal, state_of}
use Rattle.law_histories.specs.Ids.{item, job}
use Rattle.rt_base.specs.LockRule.{blocker}
use Rattle.txn_set.specs.Ceilings.{write_ceiling, absolute_ceiling}
use Rattle.item_model.specs.Work.{verdict, stamp_for}
use Rattle.step_journal.specs.State.{opening}
use Rattle.step_journal.specs.LockRule.{ceiling_of, highest, refusal}
use Rattle.step_journal.specs.Running.{running}
use Rattle.step_journal.specs.Instant.{with_end, with_cancellations, with_releases, arrived}
use Rattle.step_journal.specs.Step.{may_plan, with_plan, after_effect, with_step, with_wait, step}
use Rattle.step_journal.specs.History.{event_of, entry_given}
use Rattle.item_model.specs.Kinds.{is_dated, is_derived}
use Rattle.txn_set.specs.Set.{IsTheWriter, IsCompiled}
use Rattle.law_histories.proofs.Compiled.{compiled}
use Rattle.law_histories.specs.SharedReaders.{shared_readers, shared_readers_entries, shared_reader_refused, shared_reader_refused_before, SharedReadersHolds}

legal : IsLegal shared_readers shared_readers_entries
unfolding shared_readers shared_readers_entries shared_reader_refused_before write_ceiling absolute_ceiling verdict stamp_for opening blocker ceiling_of highest refusal running with_end with_cancellations with_releases arrived may_plan with_plan after_effect with_step with_wait step
legal = (refl, (refl, (refl, (refl, (refl, (refl, (refl, (refl, tt))))))))

items : (state_of shared_readers shared_readers_entries).items ≡ record { value = pos 0; stamp = 0 } ∷ []
unfolding shared_readers shared_readers_entries shared_reader_refused_before write_ceiling absolute_ceiling verdict stamp_for opening blocker ceiling_of highest refusal running with_end with_cancellations with_releases arrived may_plan with_plan after_effect with_step with_wait step
items = refl

shared_reader_refused_gives : entry_given (step shared_readers (state_of shared_readers shared_reader_refused_before) (event_of shared_reader_refused)) ≡ Some (Step (job 0 0) (Read (item 0)) (Got (pos 0) (Some 0)) None 1)
unfolding shared_readers shared_readers_entries shared_reader_refused_before write_ceiling absolute_ceiling verdict stamp_for opening blocker ceiling_of highest refusal running with_end with_cancellations with_releases arrived may_plan with_plan after_effect with_step with_wait step
shared_reader_refused_gives = refl

written : (item : ℕ) → IsTrue (is_dated shared_readers.items item) → (tx : ℕ) × IsTheWriter shared_readers item tx
unfolding shared_readers
written zero h = absurd cc
written (suc item) h = absurd cc

not_derived : (item : ℕ) → IsTrue (is_derived shared_readers.items item) → ⊥
unfolding shared_readers
not_derived zero h = cc
not_derived (suc item) h = cc

is_compiled : IsCompiled shared_readers
unfolding shared_readers
is_compiled = compiled shared_readers refl written (λ item n walk. not_derived item walk.1.derived)

pub holds : SharedReadersHolds
holds = record {
  compiled = is_compiled;
  legal = legal;
  items = items;
  shared_reader_refused = λ h. absurd (cc (h, shared_reader_refused_gives));
}
