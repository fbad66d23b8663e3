use Rattle.std.proofs.Common.{◌≡◌, All, None}
use Rattle.txn_threads.specs.declared.member.Worker.{Worker}
use Rattle.txn_threads.specs.Rounds.{WorkerRan, Each}
use Rattle.txn_threads.specs.Runs.{CanDrain, HasDrained, GotMore, part}
use Rattle.txn_threads.proofs.run.rounds.Given as goal

abbrev pub invariant-loop : goal.invariant-loop
invariant-loop g l = record {
  next : (goal.iterator-loop g).can_next l.iterator';
  finite : (goal.iterator-loop g).is_finite l.iterator';
  ran : Each (WorkerRan g.Y.Body.gives g.Y.Body.stands l.fn.plant) l.fn.workers l.workers;
  none : All (λ (w : Worker g.row.B.Denot g.row.Y.Denot). w.halt ≡ None) l.workers;
  drained : HasDrained g.O.EntryOut.good g.O.EntryOut.stops l.fn.plant l.fn.drain l.drain l.fn.out l.out;
  can : CanDrain g.O.EntryOut.got g.O.EntryOut.lost g.O.EntryOut.good l.fn.plant l.drain l.out;
  got : GotMore g.O.EntryOut.got l.fn.out l.out (part l.drain.operator.seen l.fn.drain.operator.drained l.drain.operator.drained);
}
