use Rattle.std.proofs.Common.{sym, subst}
use Rattle.std.proofs.lemmas.Bool.{false≢true}
use Rattle.txn_threads.specs.Runs.{HaltIs}
use Rattle.txn_threads.proofs.Draining.{drained_on, got_more, got_stopped, rose_later}
use Rattle.txn_threads.proofs.Running.{workers_refl, workers_trans, workers_sit, IsStopped, if_not_stopped, run_stop_not, halt_is}
use Rattle.txn_threads.proofs.run.rounds.Goals as goal

pub returns-in_default : goal.returns-in_default
returns-in_default g c = record {
  ran = workers_refl g.Y.Body.gives g.Y.Body.stands c.args.plant.now c.args.workers.now c.requires.sit;
  done = tt;
  none = tt;
  stop = tt;
  drained = c.drain_all.ensures.drained;
  got = c.in_default.ensures.cut;
}

pub loop-init : goal.loop-init
loop-init g c = record {
  next = tt;
  finite = tt;
  ran = workers_refl g.Y.Body.gives g.Y.Body.stands c.args.plant.now c.args.workers.now c.requires.sit;
  none = c.requires.clear;
  drained = c.drain_all.ensures.drained;
  can = c.in-Ok.ensures.can;
  got = c.in-Ok.ensures.got;
}

pub returns-then-all_done : goal.returns-then-all_done
returns-then-all_done g c = let i = c.loop.invariant in
    record { ran = i.ran; done = c.all_done.ensures c.if-all_done.true; none = i.none; stop = tt; drained = i.drained; got = (i.got, i.can.none_lost) }

pub round_of-running-requires-clause-sit : goal.round_of-running-requires-clause-sit
round_of-running-requires-clause-sit g c κs within = workers_sit g.Y.Body.gives g.Y.Body.stands c.args.plant.now c.args.workers.now c.loop.workers c.loop.invariant.ran

pub drain_all-requires-in-loop : goal.drain_all-requires-in-loop
drain_all-requires-in-loop g c = c.loop.invariant.can

pub returns-in_default-drain_all : goal.returns-in_default-drain_all
returns-in_default-drain_all g c = let i = c.loop.invariant in let e = c.in_default-drain_all.ensures.cut in record {
  ran = workers_trans g.Y.Body.gives g.Y.Body.stands c.args.plant.now _ _ _ i.ran c.round_of-running.ensures.ran;
  done = tt;
  none = tt;
  stop = tt;
  drained = drained_on i.drained c.drain_all-in-loop.ensures.drained;
  got = (rose_later _ _ _ i.drained.stops_more e.0, got_stopped g.O.EntryOut.got i.drained.operated i.drained.within c.drain_all-in-loop.ensures.drained.operated i.got e.1);
}

pub returns-in-Some-first_halt : goal.returns-in-Some-first_halt
returns-in-Some-first_halt g c = let i = c.loop.invariant in record {
  ran = workers_trans g.Y.Body.gives g.Y.Body.stands c.args.plant.now _ _ _ i.ran c.round_of-running.ensures.ran;
  done = tt;
  none = tt;
  stop = subst (λ s. HaltIs c.round_of-running.new.workers s) (sym c.stop_of.ensures) (halt_is c.round_of-running.new.workers c.in-Some-first_halt.halt c.in-Some-first_halt.ensures.some);
  drained = drained_on i.drained c.drain_all-in-loop.ensures.drained;
  got = if_not_stopped c.stop_of.result _ _ (λ s. run_stop_not c.in-Some-first_halt.halt (subst IsStopped c.stop_of.ensures s))
      (got_more g.O.EntryOut.got i.drained.operated i.drained.within c.drain_all-in-loop.ensures.drained.operated i.got c.in-Ok-drain_all.ensures.got, c.in-Ok-drain_all.ensures.can.none_lost);
}

pub loop-preserved : goal.loop-preserved
loop-preserved g c = let i = c.loop.invariant in record {
  next = tt;
  finite = tt;
  ran = workers_trans g.Y.Body.gives g.Y.Body.stands c.args.plant.now _ _ _ i.ran c.round_of-running.ensures.ran;
  none = c.in-None-first_halt.ensures.none;
  drained = drained_on i.drained c.drain_all-in-loop.ensures.drained;
  can = c.in-Ok-drain_all.ensures.can;
  got = got_more g.O.EntryOut.got i.drained.operated i.drained.within c.drain_all-in-loop.ensures.drained.operated i.got c.in-Ok-drain_all.ensures.got;
}

pub unreachable-requires : goal.unreachable-requires
unreachable-requires g c = absurd (false≢true c.in-None.ensures.steps)
