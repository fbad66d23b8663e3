use Rattle.std.proofs.Common.{Ok}
use Rattle.txn_threads.specs.declared.tries.TryOutcome.TheVariants.{Went}
use Rattle.txn_threads.specs.Rounds.{HaveTried}
use Rattle.txn_threads.proofs.member.Worker.passes.Given as goal

abbrev pub invariant-loop : goal.invariant-loop
invariant-loop g l = HaveTried g.Y.Body.gives g.Y.Body.stands l.fn.plant l.fn.self (Ok Went) l.self
