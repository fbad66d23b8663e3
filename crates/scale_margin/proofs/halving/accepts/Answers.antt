use Rattle.scale_margin.proofs.Looks.{declared, in_range, bars_compile, bars_admit, bars_none}
use Rattle.scale_margin.proofs.halving.accepts.Goals as goal

pub compile-requires : goal.compile-requires
compile-requires g c =
    in_range c.args.set.now c.args.percent c.is_compiled.ensures _
    (declared c.args.set.now c.args.percent _ _ _ _ _ _ c.in_ok-items.ensures.items c.items.ensures c.in_ok-txns.ensures c.txns.ensures c.in_ok-together.ensures c.together.ensures)

pub returns-in-Err-clause-barrier : goal.returns-in-Err-clause-barrier
returns-in-Err-clause-barrier g c =
    rw c.in_ok-not_compiled-in-Err.ensures.cause
    (bars_compile c.args.set.now c.args.percent c.is_compiled.ensures _
    (declared c.args.set.now c.args.percent _ _ _ _ _ _ c.in_ok-items.ensures.items c.items.ensures c.in_ok-txns.ensures c.txns.ensures c.in_ok-together.ensures c.together.ensures)
    c.in-Err.error c.in-Err.ensures.refused c.in_ok-not_compiled-in-Err.ensures.known)

pub returns-in-Ok-admit-clause-barrier : goal.returns-in-Ok-admit-clause-barrier
returns-in-Ok-admit-clause-barrier g c =
    bars_none c.args.set.now c.args.percent c.is_compiled.ensures _
    (declared c.args.set.now c.args.percent _ _ _ _ _ _ c.in_ok-items.ensures.items c.items.ensures c.in_ok-txns.ensures c.txns.ensures c.in_ok-together.ensures c.together.ensures)
    _ c.in-Ok.ensures.set c.in-Ok.ensures.passed c.in-Ok-admit.ensures.admitted

pub returns-in_ok-not_admitted-in-Err-admit-clause-barrier : goal.returns-in_ok-not_admitted-in-Err-admit-clause-barrier
returns-in_ok-not_admitted-in-Err-admit-clause-barrier g c =
    rw c.in_ok-not_admitted-in-Err-admit.ensures.cause
    (bars_admit c.args.set.now c.args.percent c.is_compiled.ensures _
    (declared c.args.set.now c.args.percent _ _ _ _ _ _ c.in_ok-items.ensures.items c.items.ensures c.in_ok-txns.ensures c.txns.ensures c.in_ok-together.ensures c.together.ensures)
    _ c.in-Ok.ensures.set c.in-Ok.ensures.passed c.in-Err-admit.error c.in-Err-admit.ensures.refused c.in_ok-not_admitted-in-Err-admit.ensures.known)
