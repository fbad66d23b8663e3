use Rattle.std.proofs.Common.{◌≡◌, ◌==◌, List, false, true, sym, ap, ◌∙◌, arith, is_some}
use Rattle.std.specs.List.{find}
use Rattle.item_model.specs.declared.stored.OwnWrite.{OwnWrite}
use Rattle.item_model.specs.Work.{Work, with_write}
use Rattle.item_model.proofs.Noting.{write_new}
use Rattle.plain_core.proofs.Fews.{write_place, places_write, places_rewritten}
use Rattle.plain_core.proofs.work.Work.put.Goals as goal

told : (writes now : List OwnWrite) (n : _) (r b : _) → r ≡ is_some (find (λ x. x.item.0 == n) now) → now ≡ writes → r ≡ b → is_some (find (λ x. x.item.0 == n) writes) ≡ b
told writes now n r b e same f = ap (λ (l : List OwnWrite). is_some (find (λ x. x.item.0 == n) l)) (sym same) ∙ (sym e ∙ f)

pub invariant_of-self : goal.invariant_of-self
invariant_of-self c =
    let yes = told _ _ c.args.write.item.0 _ true c.has_write.ensures c.as_slice.ensures.value c.if-has_write.true in
    rw (c.replace_write.ensures.items, c.replace_write.ensures.places) (places_rewritten _ _ _ _ c.args.write.item c.args.write.value c.self.invariant yes)

pub push_reserved-requires : goal.push_reserved-requires
push_reserved-requires c =
    let no = told _ _ c.args.write.item.0 _ false c.has_write.ensures c.as_slice.ensures.value c.if-has_write.false in
    omega (arith, write_place _ _ _ _ c.args.write.item c.self.invariant c.requires no, c.self.inside.writes.ok.0)

pub invariant_of-self-else-has_write : goal.invariant_of-self-else-has_write
invariant_of-self-else-has_write c =
    let no = told _ _ c.args.write.item.0 _ false c.has_write.ensures c.as_slice.ensures.value c.if-has_write.false in
    rw (c.push_reserved.ensures.items, c.push_reserved.ensures.capacity) (places_write _ _ _ _ c.args.write.item c.args.write.value c.self.invariant c.requires no)

pub returns-else-has_write : goal.returns-else-has_write
returns-else-has_write c =
    let no = told _ _ c.args.write.item.0 _ false c.has_write.ensures c.as_slice.ensures.value c.if-has_write.false in
    let write = c.args.write in
    ap (λ (l : List OwnWrite). record { reads = c.self.inside.reads.items; writes = l }) (c.push_reserved.ensures.items ∙ sym (write_new _ write.item write.value no))
    ∙ ap (λ (w : Work). record w { writes = with_write w.writes write.item write.value }) c.self.view_is
