use Rattle.std.proofs.Common.{◌≡◌, ◌<◌, ◌∙◌, true, false, sym, ap, subst, rules}
use Rattle.step_journal.specs.declared.entry.Entry.{Entry}
use Rattle.turn_cell.specs.declared.view.View.{View}
use Rattle.board.specs.Histories.{running_of}
use Rattle.shared_plant.proofs.Turns.{own_holds, one_of, far_step, far_ends}
use Rattle.shared_plant.proofs.turn.step_on.Goals as goal

pub returns-then-not-step_once-clause-steps : goal.returns-then-not-step_once-clause-steps
returns-then-not-step_once-clause-steps g c =
    let i = c.loop.invariant in let few : c.loop.counter < 64 = search rules in
    let off : c.step_once.result ≡ false = search rules in
    let o = one_of g.A.Asker.asks g.A.Asker.hears _ _ _ _ _ _ c.args.job _ _ c.loop.asker c.step_once.new.asker c.loop.seat.view c.step_once.new.seat.view i.3 i.4 i.5 c.step_once.ensures.step in
    far_ends g.A.Asker.asks g.A.Asker.hears _ _ _ c.args.job c.loop.counter 64 _ _ c.args.asker.now c.loop.asker c.step_once.new.asker c.args.seat.now c.loop.seat c.step_once.new.seat i.6 few c.step_once.ensures.cell o (λ k. o.off_is off k.0)

pub returns-then-not-runs-clause-steps : goal.returns-then-not-runs-clause-steps
returns-then-not-runs-clause-steps g c =
    let i = c.loop.invariant in let few : c.loop.counter < 64 = search rules in
    let off : c.runs.result ≡ false = search rules in
    let f = c.step_once.ensures.fixed in let x = c.step_once.new.taken.value.board.value in
    let at = ap (λ s. s.board.value) c.value.ensures in
    let o = one_of g.A.Asker.asks g.A.Asker.hears _ _ _ _ _ _ c.args.job _ _ c.loop.asker c.step_once.new.asker c.loop.seat.view c.step_once.new.seat.view i.3 i.4 i.5 c.step_once.ensures.step in
    far_ends g.A.Asker.asks g.A.Asker.hears _ _ _ c.args.job c.loop.counter 64 _ _ c.args.asker.now c.loop.asker c.step_once.new.asker c.args.seat.now c.loop.seat c.step_once.new.seat i.6 few c.step_once.ensures.cell o
    (λ k. c.runs.ensures.no c.step_once.new.seat.view.seen (subst (λ b. g.B.Board.stands b c.step_once.new.seat.view.seen) (sym at) c.step_once.ensures.stands) off
    (ap (λ z. running_of z c.step_once.new.seat.view.seen) (ap g.B.Board.set at ∙ (f.0 ∙ i.3)) ∙ k.1))

pub loop-preserved : goal.loop-preserved
loop-preserved g c =
    let i = c.loop.invariant in
    let on : c.step_once.result ≡ true = search rules in
    let yes : c.runs.result ≡ true = search rules in
    let f = c.step_once.ensures.fixed in
    let at = ap (λ s. s.board.value) c.value.ensures in
    let o = one_of g.A.Asker.asks g.A.Asker.hears _ _ _ _ _ _ c.args.job _ _ c.loop.asker c.step_once.new.asker c.loop.seat.view c.step_once.new.seat.view i.3 i.4 i.5 c.step_once.ensures.step in
    let seen = c.step_once.new.seat.view.seen in
    let runs = c.runs.ensures.yes seen (subst (λ b. g.B.Board.stands b seen) (sym at) c.step_once.ensures.stands) yes in (
      c.step_once.ensures.cell ∙ i.0,
      ap (λ (w : View Entry). w.holds) o.view ∙ (own_holds c.loop.seat.view o.own ∙ i.1),
      c.step_once.ensures.stands,
      f.0 ∙ i.3,
      f.1 ∙ i.4,
      f.2 ∙ i.5,
      far_step g.A.Asker.asks g.A.Asker.hears _ _ _ c.args.job c.loop.counter _ _ c.args.asker.now c.loop.asker c.step_once.new.asker c.args.seat.now c.loop.seat c.step_once.new.seat i.6 c.step_once.ensures.cell o on
          (sym (ap (λ z. running_of z seen) (ap g.B.Board.set at ∙ (f.0 ∙ i.3))) ∙ runs),
    )
