use Rattle.lock_core.proofs.Stood.{legal_state}
use Rattle.lock_core.proofs.Called.{go_call, go_says}
use Rattle.lock_core.proofs.table_calls.go.Goals as goal

pub returns-clause-answer : goal.returns-clause-answer
returns-clause-answer c = λ history h.
    let g = c.requires.granted history h in
    let l = legal_state _ history h in
    go_says _ _ _ history c.args.job c.args.op _ _ c.requires.roomy h g (c.go-outcome.ensures.outcome _ h.are l g) (c.go-outcome.ensures.over _ h.are l g)

pub returns-clause-call : goal.returns-clause-call
returns-clause-call c = λ history h.
    let g = c.requires.granted history h in
    let l = legal_state _ history h in
    let says = c.go-outcome.ensures in
    go_call _ _ _ _ _ history c.args.job c.args.op _ _ _ c.push.ensures c.now-tick.ensures c.requires.roomy h g (says.outcome _ h.are l g) (says.over _ h.are l g) (says.after _ h.are l g)
