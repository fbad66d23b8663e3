use Rattle.std.proofs.Common.{ℕ, ◌+◌, ◌∷◌, List, drop, arith, sym, ap, ◌∙◌}
use Rattle.std.proofs.lemmas.List.{drop_more}
use Rattle.scenario_reader.proofs.Counting.{refused_end, tick_count, stops_at}
use Rattle.step_script.specs.Releases.{ticks_of, refused_tick}
use Rattle.scenario_reader.proofs.plans.refused_in.Goals as goal

pub returns-in-Some : goal.returns-in-Some
returns-in-Some c =
    let count = tick_count c.args.txn.now c.args.releases.now (sym c.is_eager.ensures ∙ c.if-is_eager.false) in
    stops_at c.loop-index.index c.loop-index.earliest c.args.txn.now.period c.tick-tick.result
    (drop (c.loop-index.index + 1) (ticks_of c.args.txn.now c.args.releases.now)) c.in-Some.cause c.in-Some.ensures.same
    ∙ ap (refused_tick c.loop-index.index c.loop-index.earliest c.args.txn.now.period)
    (ap (λ (k : ℕ). k ∷ drop (c.loop-index.index + 1) (ticks_of c.args.txn.now c.args.releases.now)) c.tick-tick.ensures
    ∙ sym (drop_more (ticks_of c.args.txn.now c.args.releases.now) c.loop-index.index 0
    (omega (arith, count, c.jobs-index-end.ensures, c.loop-index-test.true))))
    ∙ c.loop-index.invariant

pub returns : goal.returns
returns c =
    let count = tick_count c.args.txn.now c.args.releases.now (sym c.is_eager.ensures ∙ c.if-is_eager.false) in
    sym (refused_end c.loop-index.index c.loop-index.earliest c.args.txn.now.period
    (ticks_of c.args.txn.now c.args.releases.now)
    (omega (arith, count, c.jobs-index-end.ensures, c.loop-index-test.false))) ∙ c.loop-index.invariant
