use Rattle.std.proofs.Common.{◌≡◌, ◌-◌, true, List, length, slice_get, refl, ap, sym, ◌∙◌}
use Rattle.std.specs.Prelude.{is_some}
use Rattle.step_journal.specs.declared.entry.Entry.{Entry}
use Rattle.step_journal.specs.History.{event_of}
use Rattle.board.specs.Histories.{noted}
use Rattle.serial_replay.specs.Boards.{made_by}
use Rattle.serial_replay.proofs.Agains.{last_noted, same_last, none_made, no_last}
use Rattle.serial_replay.proofs.again.is_made_again.Goals as goal

pub returns-then-not-is_noted-clause-made : goal.returns-then-not-is_noted-clause-made
returns-then-not-is_noted-clause-made g c history stands =
    none_made (made_by (g.B.Board.set c.args.board.now) history (event_of c.args.entry.now)) c.args.entry.now _ refl
    (sym c.if-not-is_noted.true ∙ c.is_noted.ensures.noted history stands)

pub returns-in-Some-clause-made : goal.returns-in-Some-clause-made
returns-in-Some-clause-made g c history stands =
    let made = made_by (g.B.Board.set c.args.board.now) history (event_of c.args.entry.now) in
    let was = g.met.B.Board.is_history c.args.board.now history stands in
    let is = g.met.B.Board.is_history c.is_noted.new.board (noted history made) (c.is_noted.ensures.goes_on.0 history stands) in
    let some : true ≡ is_some made = sym c.if-not-is_noted.false ∙ c.is_noted.ensures.noted history stands in
    let last = last_noted _ _ _ _ _ _ _ _ history made was is c.is_noted.ensures.goes_on.3 some in
    same_last made c.in-Some.made.now c.args.entry.now c.is_same.result
    (c.in-Some.ensures.value ∙ (ap (λ (l : List Entry). slice_get l (length l - 1)) c.entries.ensures ∙ last)) c.is_same.ensures

pub returns-in-None-clause-made : goal.returns-in-None-clause-made
returns-in-None-clause-made g c history stands =
    let made = made_by (g.B.Board.set c.args.board.now) history (event_of c.args.entry.now) in
    let was = g.met.B.Board.is_history c.args.board.now history stands in
    let is = g.met.B.Board.is_history c.is_noted.new.board (noted history made) (c.is_noted.ensures.goes_on.0 history stands) in
    let some : true ≡ is_some made = sym c.if-not-is_noted.false ∙ c.is_noted.ensures.noted history stands in
    let last = last_noted _ _ _ _ _ _ _ _ history made was is c.is_noted.ensures.goes_on.3 some in
    no_last made _ (c.in-None.ensures.value ∙ (ap (λ (l : List Entry). slice_get l (length l - 1)) c.entries.ensures ∙ last)) some
