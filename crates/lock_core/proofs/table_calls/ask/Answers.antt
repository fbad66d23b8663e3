use Rattle.std.proofs.Common.{sym, ap, subst}
use Rattle.step_journal.specs.Step.{ask}
use Rattle.step_journal.specs.History.{state_of}
use Rattle.board.specs.Answers.{told_by}
use Rattle.board.specs.Histories.{step_entry}
use Rattle.board.specs.declared.replies.StepReply.{StepReply}
use Rattle.lock_core.specs.Seen.{core_of}
use Rattle.lock_core.specs.Calls.{IsCall}
use Rattle.lock_core.proofs.Stood.{legal_state}
use Rattle.lock_core.proofs.Called.{block_says, asks_each, asks_some}
use Rattle.lock_core.proofs.table_calls.ask.Goals as goal

pub blocker-requires : goal.blocker-requires
blocker-requires c = record { asks = (c.args.set.now, asks_some (core_of c.args.set.now c.args.journal.now c.args.tables.now) c.args.job c.args.op c.requires.asks) }

pub go-outcome-requires-clause-granted : goal.go-outcome-requires-clause-granted
go-outcome-requires-clause-granted c = λ history h.
    let asks = c.requires.asks in
    c.in-None.ensures _ _ h.are (legal_state _ history h) (asks_each _ asks.0 history c.args.job c.args.op asks.1 h asks.2)

pub block-requires-clause-blocked : goal.block-requires-clause-blocked
block-requires-clause-blocked c = λ history h.
    let asks = c.requires.asks in
    c.in-Some.ensures _ _ h.are (legal_state _ history h) (asks_each _ asks.0 history c.args.job c.args.op asks.1 h asks.2)

pub returns-in-Some-clause-answer : goal.returns-in-Some-clause-answer
returns-in-Some-clause-answer c = λ history h.
    let asks = c.requires.asks in
    ap told_by
    (sym (block_says _ _ _ history c.args.job c.args.op _ _ c.requires.roomy h
    (c.in-Some.ensures _ _ h.are (legal_state _ history h) (asks_each _ asks.0 history c.args.job c.args.op asks.1 h asks.2))))

pub returns-in-Some-clause-call : goal.returns-in-Some-clause-call
returns-in-Some-clause-call c = λ history h.
    let asks = c.requires.asks in
    let set = c.args.set.now in
    subst
    (λ (r : StepReply). IsCall (core_of set c.args.journal.now c.args.tables.now) (core_of set c.block.new.journal c.block.new.tables) history (ask c.args.job c.args.op)
    (step_entry (state_of set history).now c.args.job c.args.op r))
    (sym (block_says _ _ _ history c.args.job c.args.op _ _ c.requires.roomy h
    (c.in-Some.ensures _ _ h.are (legal_state _ history h) (asks_each _ asks.0 history c.args.job c.args.op asks.1 h asks.2))))
    (c.block.ensures.call history h)
