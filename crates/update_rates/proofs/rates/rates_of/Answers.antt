use Rattle.std.proofs.Common.{◌∙◌, arith}
use Rattle.update_rates.proofs.Chosen.{no_ranked, ranking-seen, rated-before, rated-next, rate-is, rated-all, place-low, deadline-low, tight-found, none-tight}
use Rattle.std.proofs.lemmas.List.{length-set}
use Rattle.update_rates.proofs.Growing.{short-next}
use Rattle.update_rates.proofs.rates.rates_of.Goals as goal

pub earlier_loads-requires-clause-rates : goal.earlier_loads-requires-clause-rates
earlier_loads-requires-clause-rates c =
    let t = ranking-seen c.args.updaters.now c.deref-ranked-items.result.now c.in_ok-ranking.ranking.items c.deref-ranked-items.ensures.value c.in_ok-ranking.ensures in
    rw c.deref.ensures.value
    (rated-before c.args.updaters.now c.deref-ranked-items.result.now c.loop-ranked.rates.items c.loop-ranked.ranked-index no_ranked t c.loop-ranked.invariant.one_each (omega arith) c.loop-ranked.invariant.rated)

pub earlier_loads-requires-clause-from : goal.earlier_loads-requires-clause-from
earlier_loads-requires-clause-from c = c.loop-ranked.invariant.short no_ranked (omega arith)

pub loop-ranked-preserved : goal.loop-ranked-preserved
loop-ranked-preserved c =
    let t = ranking-seen c.args.updaters.now c.deref-ranked-items.result.now c.in_ok-ranking.ranking.items c.deref-ranked-items.ensures.value c.in_ok-ranking.ensures in
    record {
      one_each = length-set c.loop-ranked.rates.items _ _ ∙ c.loop-ranked.invariant.one_each;
      rated = rated-next c.args.updaters.now c.deref-ranked-items.result.now _ c.loop-ranked.ranked-index no_ranked _ c.loop-ranked.invariant.one_each t (omega arith) c.loop-ranked.invariant.rated
          (rate-is c.args.updaters.now c.deref-ranked-items.result.now c.loop-ranked.ranked-index _ _ no_ranked t (omega arith) c.in-Ok.ensures.found c.min.ensures)
          c.in-Ok.ensures.found;
      short = short-next c.args.updaters.now c.deref-ranked-items.result.now c.loop-ranked.ranked-index _ no_ranked t (omega arith) c.in-Ok.ensures.found;
    }

pub deadline_of-requires-clause-rates : goal.deadline_of-requires-clause-rates
deadline_of-requires-clause-rates c =
    let t = ranking-seen c.args.updaters.now c.deref-ranked-items.result.now c.in_ok-ranking.ranking.items c.deref-ranked-items.ensures.value c.in_ok-ranking.ensures in
    rw c.deref-in-loop-ranked.ensures.value
    (rated-before c.args.updaters.now c.deref-ranked-items.result.now c.loop-ranked.rates.items c.loop-ranked.ranked-index no_ranked t c.loop-ranked.invariant.one_each (omega arith) c.loop-ranked.invariant.rated)

pub overflow_sub-updaters : goal.overflow_sub-updaters
overflow_sub-updaters c =
    let t = ranking-seen c.args.updaters.now c.deref-ranked-items.result.now c.in_ok-ranking.ranking.items c.deref-ranked-items.ensures.value c.in_ok-ranking.ensures in
    place-low c.args.updaters.now c.deref-ranked-items.result.now c.loop-ranked.ranked-index no_ranked t (omega arith)

pub overflow_sub-updaters-in-Ok : goal.overflow_sub-updaters-in-Ok
overflow_sub-updaters-in-Ok c =
    let t = ranking-seen c.args.updaters.now c.deref-ranked-items.result.now c.in_ok-ranking.ranking.items c.deref-ranked-items.ensures.value c.in_ok-ranking.ensures in
    deadline-low c.args.updaters.now _ c.in-Ok.deadline (t.each c.loop-ranked.ranked-index no_ranked (omega arith)).in_range c.in-Ok.ensures.found

pub returns-in-Err-clause-err : goal.returns-in-Err-clause-err
returns-in-Err-clause-err c =
    let t = ranking-seen c.args.updaters.now c.deref-ranked-items.result.now c.in_ok-ranking.ranking.items c.deref-ranked-items.ensures.value c.in_ok-ranking.ensures in
    tight-found c.args.updaters.now c.loop-ranked.rates.items _ c.in-Err.demand (t.each c.loop-ranked.ranked-index no_ranked (omega arith)).in_range
    (rated-before c.args.updaters.now c.deref-ranked-items.result.now c.loop-ranked.rates.items c.loop-ranked.ranked-index no_ranked t c.loop-ranked.invariant.one_each (omega arith) c.loop-ranked.invariant.rated)
    c.in-Err.ensures.none c.in-Err.ensures.demand

pub returns-clause-ok : goal.returns-clause-ok
returns-clause-ok c =
    let t = ranking-seen c.args.updaters.now c.deref-ranked-items.result.now c.in_ok-ranking.ranking.items c.deref-ranked-items.ensures.value c.in_ok-ranking.ensures in
    rated-all c.args.updaters.now c.deref-ranked-items.result.now c.loop-ranked.rates.items c.loop-ranked.ranked-index t c.loop-ranked.invariant.one_each (omega arith) c.loop-ranked.invariant.rated

pub returns-clause-passed : goal.returns-clause-passed
returns-clause-passed c =
    let t = ranking-seen c.args.updaters.now c.deref-ranked-items.result.now c.in_ok-ranking.ranking.items c.deref-ranked-items.ensures.value c.in_ok-ranking.ensures in
    none-tight c.args.updaters.now c.loop-ranked.rates.items
    (rated-all c.args.updaters.now c.deref-ranked-items.result.now c.loop-ranked.rates.items c.loop-ranked.ranked-index t c.loop-ranked.invariant.one_each (omega arith) c.loop-ranked.invariant.rated)
