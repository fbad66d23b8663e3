use Rattle.std.proofs.Common.{Option, refl, ap, sym, ◌∙◌, subst}
use Rattle.std.specs.Prelude.{is_some}
use Rattle.step_journal.specs.declared.entry.Entry.{Entry}
use Rattle.board.specs.Histories.{noted}
use Rattle.serial_replay.proofs.Outside.{ask_outside}
use Rattle.serial_replay.proofs.Agains.{compute_made}
use Rattle.serial_replay.proofs.again.is_step_noted.Goals as goal

pub returns-then-not-is_in_set-clause-noted : goal.returns-then-not-is_in_set-clause-noted
returns-then-not-is_in_set-clause-noted g c history stands =
    let is = g.met.B.Board.is_history c.args.board.now history stands in
    ap (λ (o : Option Entry). is_some o) (ask_outside _ history c.args.job c.args.op is.compiled is.legal (sym c.is_in_set.ensures ∙ c.if-not-is_in_set.true))

pub returns-then-not-is_in_set-clause-goes_on : goal.returns-then-not-is_in_set-clause-goes_on
returns-then-not-is_in_set-clause-goes_on g c = (
  λ history stands.
      let is = g.met.B.Board.is_history c.args.board.now history stands in
      subst (λ (o : Option Entry). g.B.Board.stands c.args.board.now (noted history o)) (ask_outside _ history c.args.job c.args.op is.compiled is.legal (sym c.is_in_set.ensures ∙ c.if-not-is_in_set.true)) stands,
  refl,
  refl,
  refl,
)

pub returns-then-compute-clause-noted : goal.returns-then-compute-clause-noted
returns-then-compute-clause-noted g c history stands =
    let is = g.met.B.Board.is_history c.args.board.now history stands in
    sym (ap (λ (o : Option Entry). is_some o)
    (compute_made _ history _ _ c.args.job c.args.op c.in-Compute.is (c.answers_are_steps.ensures.steps _ history _ _ c.args.job c.args.op is.compiled is.legal c.requires)
    (c.if-compute.ensures.answer refl history stands)))

pub returns-then-compute-clause-goes_on : goal.returns-then-compute-clause-goes_on
returns-then-compute-clause-goes_on g c = (
  λ history stands.
      let is = g.met.B.Board.is_history c.args.board.now history stands in
      subst (λ (o : Option Entry). g.B.Board.stands c.compute.new.self (noted history o))
      (sym (compute_made _ history _ _ c.args.job c.args.op c.in-Compute.is (c.answers_are_steps.ensures.steps _ history _ _ c.args.job c.args.op is.compiled is.legal c.requires)
      (c.if-compute.ensures.answer refl history stands)))
      (c.if-compute.ensures.after refl history stands),
  c.compute.ensures.fixed.0,
  c.compute.ensures.fixed.1,
  c.compute.ensures.fixed.2,
)
