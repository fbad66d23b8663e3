use Rattle.std.proofs.Common.{◌<◌, sym, ap, ◌∙◌, arith, length, vec_len}
use Rattle.item_model.specs.Work.{with_write}
use Rattle.item_model.proofs.Noting.{write_at}
use Rattle.item_model.proofs.notes.replace_write.Goals as goal

pub returns-then-index-write-clause-items : goal.returns-then-index-write-clause-items
returns-then-index-write-clause-items c =
    let write = c.args.write in
    let lt : c.loop-i.i < length c.loop-i.writes.items = omega (arith, c.loop-i-test.true, c.len-i-end.ensures, ap vec_len c.loop-i.invariant.0, c.loop-i.writes.ok.0) in
    write_at _ c.loop-i.i write.item write.value c.index.result.now lt (ap (λ w. w.item.0) (sym c.index.ensures) ∙ c.if-index-write.true)
    ∙ (sym c.loop-i.invariant.2 ∙ ap (λ w. with_write w.items write.item write.value) c.loop-i.invariant.0)
