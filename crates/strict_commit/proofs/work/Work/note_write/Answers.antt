use Rattle.std.proofs.Common.{◌≡◌, ◌==◌, List, false, true, sym, ap, ◌∙◌, subst, arith, is_some, IsTrue}
use Rattle.std.specs.List.{find, list_any}
use Rattle.item_model.specs.declared.stored.OwnWrite.{OwnWrite}
use Rattle.item_model.specs.Work.{with_write}
use Rattle.strict_commit.specs.Jobs.{Job}
use Rattle.item_model.proofs.Noting.{write_new}
use Rattle.strict_commit.proofs.Fews.{write_place, places_write, places_rewritten}
use Rattle.strict_commit.proofs.work.Work.note_write.Goals as goal

told : (writes now : List OwnWrite) (n : _) (r b : _) → r ≡ is_some (find (λ x. x.item.0 == n) now) → now ≡ writes → r ≡ b → is_some (find (λ x. x.item.0 == n) writes) ≡ b
told writes now n r b e same f = ap (λ (l : List OwnWrite). is_some (find (λ x. x.item.0 == n) l)) (sym same) ∙ (sym e ∙ f)

declared : {j k : Job} (n : _) → j ≡ k → IsTrue (list_any (λ i. i.0 == n) k.may_write) → IsTrue (list_any (λ i. i.0 == n) j.may_write)
declared n same h = subst (λ (q : Job). IsTrue (list_any (λ i. i.0 == n) q.may_write)) (sym same) h

pub invariant_of-self : goal.invariant_of-self
invariant_of-self c =
    let yes = told _ _ c.args.write.item.0 _ true c.has_write.ensures c.as_slice.ensures.value c.if-has_write.true in
    rw (c.replace_write.ensures.items, c.replace_write.ensures.places) (places_rewritten _ _ _ _ c.args.write.item c.args.write.value c.self.invariant yes)

pub push_reserved-requires : goal.push_reserved-requires
push_reserved-requires c =
    let no = told _ _ c.args.write.item.0 _ false c.has_write.ensures c.as_slice.ensures.value c.if-has_write.false in
    omega (arith, write_place _ _ _ _ c.args.write.item c.self.invariant (declared _ c.self.view_is c.requires) no, c.self.inside.writes.ok.0)

pub invariant_of-self-else-has_write : goal.invariant_of-self-else-has_write
invariant_of-self-else-has_write c =
    let no = told _ _ c.args.write.item.0 _ false c.has_write.ensures c.as_slice.ensures.value c.if-has_write.false in
    rw (c.push_reserved.ensures.items, c.push_reserved.ensures.capacity) (places_write _ _ _ _ c.args.write.item c.args.write.value c.self.invariant (declared _ c.self.view_is c.requires) no)

pub returns-else-has_write : goal.returns-else-has_write
returns-else-has_write c =
    let no = told _ _ c.args.write.item.0 _ false c.has_write.ensures c.as_slice.ensures.value c.if-has_write.false in
    let item = c.args.write.item in
    let value = c.args.write.value in
    ap (λ (l : List OwnWrite). record { may_read = c.self.inside.may_read.items; may_write = c.self.inside.may_write.items; work = record { reads = c.self.inside.reads.items; writes = l } }) (c.push_reserved.ensures.items ∙ sym (write_new _ item value no))
    ∙ ap (λ (j : Job). record j { work = record j.work { writes = with_write j.work.writes item value } }) c.self.view_is
