use Rattle.std.proofs.Common.{◌≡◌, ◌∙◌, ◌+◌, ◌-◌, ℕ, map, take, drop, ap, arith}
use Rattle.rt_base.specs.declared.ids.ItemId.{ItemId}
use Rattle.c_forms.proofs.Mapped.{one_more, all_made}
use Rattle.c_forms.proofs.tables.list_at.Goals as goal

abbrev named : ℕ → ItemId
named i = record { 0 = i }

pub loop-id-preserved : goal.loop-id-preserved
loop-id-preserved c = one_more named _ c.loop-id.id-index 0 _ _ _ c.loop-id-test.true c.loop-id.invariant c.item_id.ensures c.in_ok-push.ensures.items

pub returns : goal.returns
returns c =
    let count : (c.args.at + c.args.count) - c.args.at ≡ c.args.count = omega arith in
    c.of.ensures ∙ all_made named _ c.loop-id.id-index _ c.loop-id-test.false c.loop-id.invariant ∙ ap (λ n. map named (take n (drop c.args.at c.args.ids.now))) count
