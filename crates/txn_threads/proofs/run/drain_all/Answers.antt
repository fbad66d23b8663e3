use Rattle.std.proofs.Common.{◌-◌, ◌^◌, ◌<◌, ◌++◌, List, vec_len, vec_capacity, sym, ◌∙◌, subst, rules}
use Rattle.step_journal.specs.declared.entry.Entry.{Entry}
use Rattle.shared_plant.specs.Answers.{DrainedLate}
use Rattle.txn_threads.specs.declared.drain.Drain.{Drain}
use Rattle.txn_threads.proofs.Draining.{drained_part, drained_seen, drained_one, got_one, can_again, cut_one}
use Rattle.txn_threads.proofs.run.drain_all.Goals as goal

pub put-put-requires-clause-fine : goal.put-put-requires-clause-fine
put-put-requires-clause-fine g c =
    let d = c.drain.ensures.drained in let s = c.args.drain.now.operator in let t = c.drain.new.seat in
    let r = c.requires.may t.seen t.drained d.drained.legal (drained_seen _ _ _ _ _ _ s t d) in
    (r.0, r.1, subst (λ (k : List Entry). g.O.EntryOut.good c.args.out.now (r.0 ++ k)) (sym (c.as_slice.ensures.value ∙ drained_part _ _ _ _ _ _ s t d c.requires.spare)) r.2)

pub returns : goal.returns
returns g c =
    let r = c.put-put.result in let put = c.put-put.ensures in let q = c.put-put.new.self in let stops = g.O.EntryOut.stops in let spare = c.args.drain.now.spare in
    let e : Drain g.row.B.Denot = record { operator = c.drain.new.seat; spare = c.clear.new.self } in
    let drained = subst (λ (l : List Entry). DrainedLate c.args.plant.now (2 ^ 64 - 1) (vec_capacity spare - vec_len spare) spare.items l c.drain.result c.args.drain.now.operator c.drain.new.seat) (sym c.as_slice.ensures.value) c.drain.ensures.drained in
    let few : vec_capacity c.args.drain.now.spare < 2 ^ 64 = search rules in
    record {
      drained = drained_one e q stops r c.requires drained c.clear.ensures.items (c.clear.ensures.capacity ∙ c.drain.ensures.places) few put.cause put.same;
      can = can_again e q stops r c.requires drained r c.clear.ensures.items put.same put.taken put.none_lost;
      got = got_one e q stops r c.requires drained put.taken;
      cut = cut_one e q stops r c.requires drained r put.kept put.lost put.cause;
    }
