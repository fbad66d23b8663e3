use Rattle.std.proofs.Common.{rules, take, sym, subst}
use Rattle.scenario_run.proofs.Pieces.{take_piece}
use Rattle.rtdb_tests.proofs.pieces.put_pieces.Goals as goal

pub put-requires-clause-fine : goal.put-requires-clause-fine
put-requires-clause-fine g c = (
  take c.loop-done.done c.args.entries.now,
  c.loop-done.invariant.so_far,
  c.loop-done.invariant.same _ (subst (g.O.EntryOut.good c.args.out.now)
      (take_piece c.loop-done.done c.min-count.result c.args.entries.now c.loop-done.invariant.within)
      (c.requires.good _)),
)

pub loop-done-preserved : goal.loop-done-preserved
loop-done-preserved g c = record {
  within = search rules;
  none_lost = search rules;
  so_far = subst (g.O.EntryOut.got c.put.new.self)
      (sym (take_piece c.loop-done.done c.min-count.result c.args.entries.now c.loop-done.invariant.within))
      (c.in_ok-put.ensures.taken _ c.loop-done.invariant.so_far);
  same = λ history h. c.put.ensures.same history (c.loop-done.invariant.same history h);
}
