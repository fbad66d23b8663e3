use Rattle.std.proofs.Common.{◌≡◌, ap, ◌∙◌, subst}
use Rattle.txn_set.specs.Set.{Set}
use Rattle.step_journal.specs.History.{IsLegal, state_of}
use Rattle.serial_replay.proofs.serial.last_items.Goals as goal

pub returns-in-None-clause-legal : goal.returns-in-None-clause-legal
returns-in-None-clause-legal c =
    let same : c.in_ok-board.board.set ≡ c.args.set.now = c.in_ok-board.ensures.0 in
    subst (λ (s : Set). IsLegal s c.args.entries.now) same c.in-None.ensures.answer.legal

pub returns-in-None-clause-items : goal.returns-in-None-clause-items
returns-in-None-clause-items c =
    let same : c.in_ok-board.board.set ≡ c.args.set.now = c.in_ok-board.ensures.0 in
    c.into_parts-items.ensures.items c.args.entries.now c.in-None.ensures.answer.board
    ∙ ap (λ (s : Set). (state_of s c.args.entries.now).items) (c.again.ensures.set ∙ same)
