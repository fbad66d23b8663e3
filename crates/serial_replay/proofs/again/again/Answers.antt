use Rattle.std.proofs.Common.{◌≡◌, ◌∷◌, ◌++◌, [], Bool, true, false, sym, ◌∙◌, subst, take, get_or, List, Option, Some}
use Rattle.std.specs.Prelude.{IsTrue, ◌↔◌}
use Rattle.std.proofs.lemmas.List.{take_more}
use Rattle.txn_set.specs.Set.{Set}
use Rattle.step_journal.specs.declared.entry.Entry.{Entry}
use Rattle.step_journal.specs.declared.entry.Entry.TheVariants.{Planned}
use Rattle.step_journal.specs.History.{event_of, IsLegal}
use Rattle.board.specs.Histories.{noted}
use Rattle.serial_replay.specs.Boards.{made_by}
use Rattle.serial_replay.proofs.Agains.{first_illegal}
use Rattle.serial_replay.proofs.again.again.Goals as goal

abbrev filler : Entry
filler = Planned (record { 0 = 0 }) 0

clash : (b : Bool) → b ≡ true → b ≡ false → ⊥
clash b p q = cc

pub returns-then-not-is_made_again-clause-answer : goal.returns-then-not-is_made_again-clause-answer
returns-then-not-is_made_again-clause-answer g c =
    let inv = c.loop-i.invariant in
    let history : List Entry = take c.loop-i.i c.args.entries.now in
    let e : Entry = get_or c.args.entries.now c.loop-i.i filler in
    let is = g.met.B.Board.is_history c.loop-i.board history inv.stands in
    let legal = subst (λ (s : Set). IsLegal s history) inv.set is.legal in
    let made = subst (λ (s : Set). IsTrue c.is_made_again.result ↔ (made_by s history (event_of e) ≡ Some e)) inv.set (c.is_made_again.ensures.made history inv.stands) in
    first_illegal (g.B.Board.set c.args.board.now) c.args.entries.now c.loop-i.i filler c.loop-i-test.true legal
    (λ so. clash c.is_made_again.result (made.1 so) c.if-not-is_made_again.true)

pub loop-i-preserved : goal.loop-i-preserved
loop-i-preserved g c =
    let inv = c.loop-i.invariant in
    let history : List Entry = take c.loop-i.i c.args.entries.now in
    let e : Entry = get_or c.args.entries.now c.loop-i.i filler in
    let more = take_more c.args.entries.now c.loop-i.i filler c.loop-i-test.true in
    let made = (c.is_made_again.ensures.made history inv.stands).0 c.if-not-is_made_again.false in
    let stands = subst (λ (o : Option Entry). g.B.Board.stands c.is_made_again.new.board (noted history o)) made (c.is_made_again.ensures.goes_on.0 history inv.stands) in
    record {
      stands = subst (g.B.Board.stands c.make_room.new.board) (sym more) (c.make_room.ensures.stands (history ++ e ∷ []) stands);
      set = c.make_room.ensures.fixed.0 ∙ (c.is_made_again.ensures.goes_on.1 ∙ inv.set);
      room = c.make_room.ensures.fixed.1 ∙ (c.is_made_again.ensures.goes_on.2 ∙ inv.room);
      kept = c.make_room.ensures.kept;
    }
