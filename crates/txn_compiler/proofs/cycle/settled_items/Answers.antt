use Rattle.std.proofs.Common.{◌≡◌, length, replicate, false, ap, sym, subst, ◌∙◌}
use Rattle.txn_compiler.specs.Tables.{AreSettled}
use Rattle.txn_compiler.proofs.Named.{as-many, in-place}
use Rattle.txn_compiler.proofs.Search.{settled-none}
use Rattle.txn_compiler.proofs.cycle.settled_items.Goals as goal

pub loop-init : goal.loop-init
loop-init c =
    let none : c.in_ok-settled.settled.items ≡ replicate (length c.items-count.result.now) false = c.in_ok-settled.ensures.items_if_clones_equal (λ y same. same) in
    record {
      one_each = as-many _ _ false none ∙ ap length c.items-count.ensures.value;
      settled = subst (AreSettled c.args.graph.now.items c.args.graph.now.txns) (sym none) (settled-none c.args.graph.now.items c.args.graph.now.txns _);
    }

pub loop-preserved : goal.loop-preserved
loop-preserved c =
    let size : length c.settle.new.settled ≡ c.loop.settled.len = c.settle.auto.settled ∙ c.deref_mut.ensures.len in
    let same = in-place c.loop.settled.len c.settle.new.settled _ (sym size) in
    record {
      one_each = ap length same ∙ (c.settle.auto.settled ∙ (ap length c.deref_mut.ensures.value ∙ c.loop.invariant.one_each));
      settled = subst (AreSettled c.args.graph.now.items c.args.graph.now.txns) (sym same) c.settle.ensures;
    }
