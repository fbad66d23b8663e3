use Rattle.std.proofs.Common.{◌∙◌, ap, sym, subst}
use Rattle.turn_cell.specs.declared.view.View.{View}
use Rattle.turn_cell.specs.Turn.{counted}
use Rattle.board.specs.Histories.{noted}
use Rattle.shared_plant.proofs.Turns.{own_holds, own_seen, own_counted}
use Rattle.shared_plant.proofs.turn.settle.Goals as goal

pub give-requires : goal.give-requires
give-requires g c =
    let v = c.args.seat.now.view in
    let same = c.note_own.ensures.same in let view = c.note_own.ensures.view in
    let there = subst (λ s. g.B.Board.stands s.board.value (noted v.seen c.args.entry)) (sym same) c.requires.history in record {
      cell = c.note_own.ensures.cell ∙ c.requires.cell;
      turn = ap (λ (w : View _). w.holds) view ∙ (own_holds v c.args.entry ∙ c.requires.turn);
      history = subst (λ l. g.B.Board.stands c.note_own.new.taken.value.board.value l) (sym (ap (λ (w : View _). w.seen) view ∙ own_seen v c.args.entry)) there;
      fixed = ap (λ s. (g.B.Board.set s.board.value, g.B.Board.room s.board.value)) same ∙ (λ i. (c.requires.fixed.0 i, c.requires.fixed.1 i));
      first = ap (λ s. g.B.Board.first s.board.value) same ∙ (c.requires.first ∙ sym (ap counted view ∙ own_counted v c.args.entry));
    }
