use Rattle.std.proofs.Common.{◌≤◌, All, refl}
use Rattle.std.proofs.lemmas.Result.{IfOk-weaker, IfErr-weaker}
use Rattle.txn_threads.specs.Runs.{HaltIs, StopIs, IsDone}
use Rattle.txn_threads.proofs.Draining.{operated_refl, got_none}
use Rattle.txn_threads.proofs.Running.{workers_cleared_sit, workers_have_run, cleared_none, none_have_run, none_done, no_members_after, no_members_before, all_done, stop_is}
use Rattle.txn_threads.proofs.run.run_all.Goals as goal

pub returns-then-not-has_members-clause-members : goal.returns-then-not-has_members-clause-members
returns-then-not-has_members-clause-members g c =
    none_have_run g.Y.Body.gives g.Y.Body.stands c.args.plant.now c.args.workers.now c.clear_all.new.workers c.clear_all.ensures (c.has_members.ensures.none c.if-not-has_members.true)

pub returns-then-not-has_members-clause-done : goal.returns-then-not-has_members-clause-done
returns-then-not-has_members-clause-done g c =
    none_done c.args.plant.now c.clear_all.new.workers (c.has_members.ensures.none c.if-not-has_members.true)

pub returns-then-not-has_members-clause-none : goal.returns-then-not-has_members-clause-none
returns-then-not-has_members-clause-none g c = cleared_none g.Y.Body.gives g.Y.Body.stands c.args.workers.now c.clear_all.new.workers c.clear_all.ensures

pub returns-then-not-has_members-clause-operated : goal.returns-then-not-has_members-clause-operated
returns-then-not-has_members-clause-operated g c = operated_refl c.args.drain.now.operator

pub returns-then-not-has_members-clause-got : goal.returns-then-not-has_members-clause-got
returns-then-not-has_members-clause-got g c = (got_none g.O.EntryOut.got c.args.out.now c.args.drain.now.operator.seen c.args.drain.now.operator.drained, c.requires.lost)

pub rounds-requires-clause-sit : goal.rounds-requires-clause-sit
rounds-requires-clause-sit g c κs within = workers_cleared_sit g.Y.Body.gives g.Y.Body.stands c.args.plant.now c.args.workers.now c.clear_all.new.workers c.requires.members c.clear_all.ensures

pub rounds-requires-clause-clear : goal.rounds-requires-clause-clear
rounds-requires-clause-clear g c κs within = cleared_none g.Y.Body.gives g.Y.Body.stands c.args.workers.now c.clear_all.new.workers c.clear_all.ensures

pub returns-clause-members : goal.returns-clause-members
returns-clause-members g c = workers_have_run g.Y.Body.gives g.Y.Body.stands c.args.plant.now c.args.workers.now c.clear_all.new.workers c.rounds.new.workers c.clear_all.ensures c.rounds.ensures.ran

pub returns-clause-done : goal.returns-clause-done
returns-clause-done g c = IfOk-weaker c.rounds.result
    (λ x. All (λ w. All (λ m. m.jobs ≤ m.ended) w.members.items) c.rounds.new.workers)
    (λ x. All (λ w. All (IsDone c.args.plant.now) w.members.items) c.rounds.new.workers)
    (λ x d. all_done g.Y.Body.gives g.Y.Body.stands c.args.plant.now c.clear_all.new.workers c.rounds.new.workers c.rounds.ensures.ran d) c.rounds.ensures.done

pub returns-clause-stop : goal.returns-clause-stop
returns-clause-stop g c = IfErr-weaker c.rounds.result
    (λ s. HaltIs c.rounds.new.workers s)
    (λ s. StopIs g.Y.Body.gives c.args.plant.now c.rounds.new.workers s)
    (λ s h. stop_is g.Y.Body.gives g.Y.Body.stands c.args.plant.now c.clear_all.new.workers c.rounds.new.workers s c.rounds.ensures.ran h) c.rounds.ensures.stop

pub returns-clause-at_once : goal.returns-clause-at_once
returns-clause-at_once g c = λ none. absurd (c.has_members.ensures.some c.if-not-has_members.false (no_members_after g.Y.Body.gives g.Y.Body.stands c.args.workers.now c.clear_all.new.workers c.clear_all.ensures none))

pub returns-clause-all : goal.returns-clause-all
returns-clause-all g c = λ members places. c.rounds.ensures.drained.all places

pub returns-clause-within : goal.returns-clause-within
returns-clause-within g c = λ before. c.rounds.ensures.drained.within

pub returns-then-not-has_members-clause-all : goal.returns-then-not-has_members-clause-all
returns-then-not-has_members-clause-all g c = λ members places. absurd (members (no_members_before g.Y.Body.gives g.Y.Body.stands c.args.workers.now c.clear_all.new.workers c.clear_all.ensures (c.has_members.ensures.none c.if-not-has_members.true)))

pub returns-then-not-has_members-clause-at_once : goal.returns-then-not-has_members-clause-at_once
returns-then-not-has_members-clause-at_once g c = λ none. (tt, refl, refl)
