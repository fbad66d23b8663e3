use Rattle.std.proofs.Common.{◌<◌, [], length, arith, ◌∙◌}
use Rattle.std.proofs.lemmas.Option.{slice_get_within}
use Rattle.sim_run.proofs.Calls.{begun_more, map_set_same}
use Rattle.sim_run.proofs.begin_all.Goals as goal

pub loop-tx-preserved : goal.loop-tx-preserved
loop-tx-preserved g c = record {
  begun = begun_more (λ body. g.Y.Body.stands body 0 []) c.loop-tx.bodies c.loop-tx.serials c.loop-tx.tx c.begin.new.self c.begin.ensures.begun c.loop-tx.invariant.begun;
  same = map_set_same g.Y.Body.gives c.loop-tx.bodies c.loop-tx.tx c.index-bodies-tx.result c.begin.new.self c.begin.ensures.same ∙ c.loop-tx.invariant.same;
}

pub returns-clause-begun : goal.returns-clause-begun
returns-clause-begun g c = λ tx body serial b s.
    let lt : tx < length c.loop-tx.bodies = slice_get_within c.loop-tx.bodies tx body b in
    c.loop-tx.invariant.begun tx body serial (omega arith) b s
