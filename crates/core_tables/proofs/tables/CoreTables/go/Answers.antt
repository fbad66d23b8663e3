use Rattle.std.proofs.Common.{◌+◌, ◌==◌, false, Some, None, refl, sym, ap, ◌∙◌, subst, arith}
use Rattle.std.proofs.lemmas.Bool.{ne_eqb}
use Rattle.rt_base.specs.declared.ids.JobId.{JobId}
use Rattle.txn_set.specs.Set.{txn_of}
use Rattle.txn_set.specs.declared.decl.TxnDecl.{TxnDecl}
use Rattle.step_journal.specs.Step.{row_after, after_effect}
use Rattle.law_histories.proofs.Invariant.{in_range}
use Rattle.core_tables.specs.Tables.{AreTables}
use Rattle.core_tables.proofs.Places.{places}
use Rattle.core_tables.proofs.Planned.{at_view}
use Rattle.core_tables.proofs.Effected.{row_here, job_in_set, has_its_item, clock_low, next_arrives, with_step_is, outcome_is, over_is, goes_on_here}
use Rattle.core_tables.proofs.Quiet.{not_late}
use Rattle.core_tables.proofs.tables.CoreTables.go.Goals as goal

pub overflow_add-at : goal.overflow_add-at
overflow_add-at c =
    let set = c.args.set.now in
    let some = c.requires.granted in
    omega (arith, clock_low set _ some.state c.args.job c.args.op (at_view set _ _ some.state c.self.view_is some.are) some.legal some.granted)

pub outcome-outcome-requires-clause-row : goal.outcome-outcome-requires-clause-row
outcome-outcome-requires-clause-row c =
    let set = c.args.set.now in
    let some = c.requires.granted in
    let are = at_view set _ _ some.state c.self.view_is some.are in
    omega (arith, job_in_set set some.state c.args.job c.args.op some.legal some.granted, (places set _ some.state are some.legal).rows)

pub outcome-outcome-requires-clause-item : goal.outcome-outcome-requires-clause-item
outcome-outcome-requires-clause-item c =
    let set = c.args.set.now in
    let some = c.requires.granted in
    let are = at_view set _ _ some.state c.self.view_is some.are in
    has_its_item set some.state c.args.job c.args.op _ some.legal some.granted (places set _ some.state are some.legal).items

pub arrive-requires : goal.arrive-requires
arrive-requires c =
    let set = c.args.set.now in
    let some = c.requires.granted in
    let are = at_view set _ _ some.state c.self.view_is some.are in
    record {
      arrives = (
        set,
        record {
          state = after_effect set some.state some.granted.row c.args.op;
          are = c.effect.ensures.after some.state some.are some.legal some.granted;
          can = next_arrives set _ some.state c.args.job c.args.op are some.legal some.granted;
        },
      );
    }

pub arrive_in_time-requires-clause-arrives : goal.arrive_in_time-requires-clause-arrives
arrive_in_time-requires-clause-arrives c =
    let set = c.args.set.now in
    let some = c.requires.granted in
    let are = at_view set _ _ some.state c.self.view_is some.are in (
      set,
      record {
        state = after_effect set some.state some.granted.row c.args.op;
        are = c.effect.ensures.after some.state some.are some.legal some.granted;
        can = next_arrives set _ some.state c.args.job c.args.op are some.legal some.granted;
      },
    )

pub txn-requires : goal.txn-requires
txn-requires c =
    let some = c.requires.granted in
    job_in_set c.args.set.now some.state c.args.job c.args.op some.legal some.granted

pub is_late-late-requires : goal.is_late-late-requires
is_late-late-requires c =
    let set = c.args.set.now in
    let some = c.requires.granted in
    let are = at_view set _ _ some.state c.self.view_is some.are in
    let after = at_view set _ _ (after_effect set some.state some.granted.row c.args.op) c.self-2.view_is (c.effect.ensures.after some.state some.are some.legal some.granted) in
    in_range c.self-2.inside.pending.rows c.args.job.tx.0 (row_after some.state some.granted.row c.args.op)
    (goes_on_here set _ some.state c.args.job c.args.op some.legal some.granted after
    (sym c.in_default.is ∙ c.effect.ensures.end some.state some.are some.legal some.granted))

pub arrive_late-requires : goal.arrive_late-requires
arrive_late-requires c =
    let set = c.args.set.now in
    let some = c.requires.granted in
    let are = at_view set _ _ some.state c.self.view_is some.are in
    record {
      arrives = (
        set,
        record {
          state = after_effect set some.state some.granted.row c.args.op;
          are = c.effect.ensures.after some.state some.are some.legal some.granted;
          can = next_arrives set _ some.state c.args.job c.args.op are some.legal some.granted;
        },
      );
    }

pub returns-in-Some-clause-outcome : goal.returns-in-Some-clause-outcome
returns-in-Some-clause-outcome c = λ s now legal g.
    let set = c.args.set.now in
    let are = at_view set _ _ s c.self.view_is now in
    c.outcome-outcome.ensures g.row (row_here set _ s c.args.job c.args.op are legal g) ∙ outcome_is set _ s g.row c.args.op are

pub returns-in-Some-clause-over : goal.returns-in-Some-clause-over
returns-in-Some-clause-over c = λ s now legal g.
    let set = c.args.set.now in
    let are = at_view set _ _ s c.self.view_is now in
    over_is set _ s c.args.job c.args.op (Some c.in-Some.end) (g.row.release + (txn_of set c.args.job.tx.0).deadline == c.self.inside.clock + 1) (txn_of set c.args.job.tx.0).deadline are legal g
    (sym c.in-Some.is ∙ c.effect.ensures.end s now legal g) refl refl

pub returns-in-Some-clause-after : goal.returns-in-Some-clause-after
returns-in-Some-clause-after c = λ s now legal g.
    let set = c.args.set.now in
    let are = at_view set _ _ s c.self.view_is now in
    subst (AreTables set c.arrive.new.self) (with_step_is set _ s g.row c.args.op are)
    (c.arrive.ensures set (after_effect set s g.row c.args.op) (c.effect.ensures.after s now legal g) (next_arrives set _ s c.args.job c.args.op are legal g))

pub returns-then-has_time-clause-outcome : goal.returns-then-has_time-clause-outcome
returns-then-has_time-clause-outcome c = λ s now legal g.
    let set = c.args.set.now in
    let are = at_view set _ _ s c.self.view_is now in
    c.outcome-outcome.ensures g.row (row_here set _ s c.args.job c.args.op are legal g) ∙ outcome_is set _ s g.row c.args.op are

pub returns-then-has_time-clause-over : goal.returns-then-has_time-clause-over
returns-then-has_time-clause-over c = λ s now legal g.
    let set = c.args.set.now in
    let are = at_view set _ _ s c.self.view_is now in
    let goes_on = sym c.in_default.is ∙ c.effect.ensures.end s now legal g in
    let after = at_view set _ _ (after_effect set s g.row c.args.op) c.self-2.view_is (c.effect.ensures.after s now legal g) in
    let here = goes_on_here set _ s c.args.job c.args.op legal g after goes_on in
    over_is set _ s c.args.job c.args.op None false (txn_of set g.row.job.tx.0).deadline are legal g goes_on (ap (λ (j : JobId). (txn_of set j.tx.0).deadline) g.is)
    (sym (ne_eqb _ _ (not_late set (c.self.inside.clock + 1) c.self-2.inside.pending.rows (c.if-has_time.ensures refl set after.rows.facts) c.args.job.tx.0 (row_after s g.row c.args.op) here)))

pub returns-then-has_time-clause-after : goal.returns-then-has_time-clause-after
returns-then-has_time-clause-after c = λ s now legal g.
    let set = c.args.set.now in
    let are = at_view set _ _ s c.self.view_is now in
    subst (AreTables set c.arrive_in_time.new.self) (with_step_is set _ s g.row c.args.op are)
    (c.arrive_in_time.ensures set (after_effect set s g.row c.args.op) (c.effect.ensures.after s now legal g) (next_arrives set _ s c.args.job c.args.op are legal g))

pub returns-clause-outcome : goal.returns-clause-outcome
returns-clause-outcome c = λ s now legal g.
    let set = c.args.set.now in
    let are = at_view set _ _ s c.self.view_is now in
    c.outcome-outcome.ensures g.row (row_here set _ s c.args.job c.args.op are legal g) ∙ outcome_is set _ s g.row c.args.op are

pub returns-clause-over : goal.returns-clause-over
returns-clause-over c = λ s now legal g.
    let set = c.args.set.now in
    let are = at_view set _ _ s c.self.view_is now in
    let goes_on = sym c.in_default.is ∙ c.effect.ensures.end s now legal g in
    let after = at_view set _ _ (after_effect set s g.row c.args.op) c.self-2.view_is (c.effect.ensures.after s now legal g) in
    let here = goes_on_here set _ s c.args.job c.args.op legal g after goes_on in
    c.over.ensures
    ∙ over_is set _ s c.args.job c.args.op None c.is_late-late.result c.txn.result.now.deadline are legal g
    goes_on (ap (λ (t : TxnDecl). t.deadline) c.txn.ensures) (c.is_late-late.ensures (row_after s g.row c.args.op) here)

pub returns-clause-after : goal.returns-clause-after
returns-clause-after c = λ s now legal g.
    let set = c.args.set.now in
    let are = at_view set _ _ s c.self.view_is now in
    subst (AreTables set c.arrive_late.new.self) (with_step_is set _ s g.row c.args.op are)
    (c.arrive_late.ensures set (after_effect set s g.row c.args.op) (c.effect.ensures.after s now legal g) (next_arrives set _ s c.args.job c.args.op are legal g))
