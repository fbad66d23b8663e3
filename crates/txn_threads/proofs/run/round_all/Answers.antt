use Rattle.std.proofs.Common.{◌≡◌, length, slice_index_or, subst, sym, rules}
use Rattle.txn_threads.specs.Rounds.{WorkerSits, WorkerRan}
use Rattle.txn_threads.proofs.run.round_all.Goals as goal

pub for_each_mut-requires-clause-accepts : goal.for_each_mut-requires-clause-accepts
for_each_mut-requires-clause-accepts g c κs within = λ i p less is. subst (λ w. WorkerSits g.Y.Body.gives g.Y.Body.stands c.args.plant.now w) (sym is) (c.requires.sit i p.now less)

pub returns : goal.returns
returns g c =
    let long : length c.for_each_mut.new.s ≡ length c.args.workers.now = search rules in record {
      ran = (
        long,
        λ i d less.
            let at = (c.for_each_mut.ensures i d less).1 in
            subst (λ w. WorkerRan g.Y.Body.gives g.Y.Body.stands c.args.plant.now (slice_index_or c.args.workers.now i d) w) at.left
            (subst (λ w. WorkerRan g.Y.Body.gives g.Y.Body.stands c.args.plant.now w at.after_call.now) at.argument_is at.call),
      );
    }
