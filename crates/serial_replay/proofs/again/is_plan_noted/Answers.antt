use Rattle.std.proofs.Common.{Option, refl, ap, sym, ◌∙◌, subst}
use Rattle.std.specs.Prelude.{is_some}
use Rattle.step_journal.specs.declared.entry.Entry.{Entry}
use Rattle.board.specs.Histories.{noted}
use Rattle.serial_replay.proofs.Outside.{plan_outside}
use Rattle.serial_replay.proofs.again.is_plan_noted.Goals as goal

pub returns-then-not-is_in_set-clause-noted : goal.returns-then-not-is_in_set-clause-noted
returns-then-not-is_in_set-clause-noted g c history stands =
    ap (λ (o : Option Entry). is_some o) (plan_outside _ _ c.args.tx.0 c.args.tick (sym c.is_in_set.ensures ∙ c.if-not-is_in_set.true))

pub returns-then-not-is_in_set-clause-goes_on : goal.returns-then-not-is_in_set-clause-goes_on
returns-then-not-is_in_set-clause-goes_on g c = (
  λ history stands. subst (λ (o : Option Entry). g.B.Board.stands c.args.board.now (noted history o)) (plan_outside _ _ c.args.tx.0 c.args.tick (sym c.is_in_set.ensures ∙ c.if-not-is_in_set.true)) stands,
  refl,
  refl,
  refl,
)
