use Rattle.std.proofs.Common.{◌≡◌, ◌<◌, ◌^◌, ℕ, List, Option, Some, subst, sym}
use Rattle.std.specs.Prelude.{MatchOption}
use Rattle.std.specs.List.{filter}
use Rattle.std.specs.Option.{option_map}
use Rattle.step_journal.specs.State.{pending}
use Rattle.step_journal.specs.LockRule.{highest}
use Rattle.step_journal.specs.Instant.{is_due}
use Rattle.core_tables.specs.declared.head.Head.{Head}
use Rattle.core_tables.specs.Rows.{PendingSeen, AreFactsOf}
use Rattle.core_tables.specs.PendingTables.{head_at, AreHeadRanks, NotDue, IsFirstDue}
use Rattle.core_tables.proofs.Calls.{table_ranks, table_early}
use Rattle.core_tables.proofs.Questions.{the_due}
use Rattle.core_tables.proofs.pending.Pending.due.Goals as goal

pub first_due-requires-clause-ranks : goal.first_due-requires-clause-ranks
first_due-requires-clause-ranks c =
    subst (λ (l : List (Option Head)). AreHeadRanks l c.self.inside.waits.order c.self.inside.ranks) (sym c.as_slice.ensures.value) (table_ranks _ _ _ _ _ _ _ _ c.self.invariant)

pub first_due-requires-clause-early : goal.first_due-requires-clause-early
first_due-requires-clause-early c =
    subst (λ (l : List (Option Head)). (tx : ℕ) (head : Head) → head_at l tx ≡ Some head → head.release < 2 ^ 63) (sym c.as_slice.ensures.value) (table_early _ _ _ _ _ _ _ _ c.self.invariant)

pub returns : goal.returns
returns c set =
    subst (λ (p : PendingSeen). AreFactsOf set p.facts → c.first_due.result ≡ option_map (λ r. r.job) (highest set (filter (is_due set c.args.tick) (pending p.rows)))) c.self.view_is
    (λ f. the_due _ _ _ _ _ _ _ _ c.self.invariant set f c.args.tick c.first_due.result
    (subst (λ (d : List ℕ). MatchOption c.first_due.result ((rank : ℕ) → NotDue c.self.inside.heads.items d c.self.inside.waits.order c.args.tick rank) (IsFirstDue c.self.inside.heads.items d c.self.inside.waits.order c.args.tick)) c.as_slice-2.ensures.value
    (subst (λ (l : List (Option Head)). MatchOption c.first_due.result ((rank : ℕ) → NotDue l c.as_slice-2.result.now c.self.inside.waits.order c.args.tick rank) (IsFirstDue l c.as_slice-2.result.now c.self.inside.waits.order c.args.tick)) c.as_slice.ensures.value c.first_due.ensures)))
