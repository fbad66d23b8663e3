use Rattle.std.proofs.Common.{◌≡◌, ◌==◌, List, false, true, sym, ap, ◌∙◌, subst, arith, is_some, IsTrue}
use Rattle.std.specs.List.{find, list_any}
use Rattle.item_model.specs.declared.stored.OutsideRead.{OutsideRead}
use Rattle.item_model.specs.Work.{with_read}
use Rattle.strict_commit.specs.Jobs.{Job}
use Rattle.item_model.proofs.Noting.{read_new, read_old}
use Rattle.strict_commit.proofs.Fews.{read_place, places_read}
use Rattle.strict_commit.proofs.work.Work.note_read.Goals as goal

absent : (reads now : List OutsideRead) (n : _) (r : _) → r ≡ is_some (find (λ x. x.item.0 == n) now) → now ≡ reads → r ≡ false → is_some (find (λ x. x.item.0 == n) reads) ≡ false
absent reads now n r e same f = ap (λ (l : List OutsideRead). is_some (find (λ x. x.item.0 == n) l)) (sym same) ∙ (sym e ∙ f)

there : (reads now : List OutsideRead) (n : _) (r : _) → r ≡ is_some (find (λ x. x.item.0 == n) now) → now ≡ reads → r ≡ true → is_some (find (λ x. x.item.0 == n) reads) ≡ true
there reads now n r e same f = ap (λ (l : List OutsideRead). is_some (find (λ x. x.item.0 == n) l)) (sym same) ∙ (sym e ∙ f)

declared : {j k : Job} (n : _) → j ≡ k → IsTrue (list_any (λ i. i.0 == n) k.may_read) → IsTrue (list_any (λ i. i.0 == n) j.may_read)
declared n same h = subst (λ (q : Job). IsTrue (list_any (λ i. i.0 == n) q.may_read)) (sym same) h

pub push_reserved-requires : goal.push_reserved-requires
push_reserved-requires c =
    let no = absent _ _ c.args.item.0 _ c.has_read.ensures c.as_slice.ensures.value c.if-not-has_read.true in
    omega (arith, read_place _ _ _ _ c.args.item c.self.invariant (declared _ c.self.view_is c.requires) no, c.self.inside.reads.ok.0)

pub invariant_of-self : goal.invariant_of-self
invariant_of-self c =
    let no = absent _ _ c.args.item.0 _ c.has_read.ensures c.as_slice.ensures.value c.if-not-has_read.true in
    rw (c.push_reserved.ensures.items, c.push_reserved.ensures.capacity) (places_read _ _ _ _ c.args.item c.args.stamp c.self.invariant (declared _ c.self.view_is c.requires) no)

pub returns-then-not-has_read : goal.returns-then-not-has_read
returns-then-not-has_read c =
    let no = absent _ _ c.args.item.0 _ c.has_read.ensures c.as_slice.ensures.value c.if-not-has_read.true in
    let item = c.args.item in
    let stamp = c.args.stamp in
    ap (λ (l : List OutsideRead). record { may_read = c.self.inside.may_read.items; may_write = c.self.inside.may_write.items; work = record { reads = l; writes = c.self.inside.writes.items } }) (c.push_reserved.ensures.items ∙ sym (read_new _ item stamp no))
    ∙ ap (λ (j : Job). record j { work = record j.work { reads = with_read j.work.reads item stamp } }) c.self.view_is

pub returns-else-not-has_read : goal.returns-else-not-has_read
returns-else-not-has_read c =
    let yes = there _ _ c.args.item.0 _ c.has_read.ensures c.as_slice.ensures.value c.if-not-has_read.false in
    let item = c.args.item in
    let stamp = c.args.stamp in
    sym c.self.view_is
    ∙ (ap (λ (l : List OutsideRead). record { may_read = c.self.inside.may_read.items; may_write = c.self.inside.may_write.items; work = record { reads = l; writes = c.self.inside.writes.items } }) (sym (read_old _ item stamp yes))
    ∙ ap (λ (j : Job). record j { work = record j.work { reads = with_read j.work.reads item stamp } }) c.self.view_is)
