use Rattle.std.proofs.Common.{◌≡◌, ◌==◌, List, false, true, sym, ap, ◌∙◌, arith, is_some}
use Rattle.std.specs.List.{find}
use Rattle.item_model.specs.declared.stored.OutsideRead.{OutsideRead}
use Rattle.item_model.specs.Work.{Work, with_read}
use Rattle.item_model.proofs.Noting.{read_new, read_old}
use Rattle.plain_core.proofs.Fews.{read_place, places_read}
use Rattle.plain_core.proofs.work.Work.note_read.Goals as goal

absent : (reads now : List OutsideRead) (n : _) (r : _) → r ≡ is_some (find (λ x. x.item.0 == n) now) → now ≡ reads → r ≡ false → is_some (find (λ x. x.item.0 == n) reads) ≡ false
absent reads now n r e same f = ap (λ (l : List OutsideRead). is_some (find (λ x. x.item.0 == n) l)) (sym same) ∙ (sym e ∙ f)

there : (reads now : List OutsideRead) (n : _) (r : _) → r ≡ is_some (find (λ x. x.item.0 == n) now) → now ≡ reads → r ≡ true → is_some (find (λ x. x.item.0 == n) reads) ≡ true
there reads now n r e same f = ap (λ (l : List OutsideRead). is_some (find (λ x. x.item.0 == n) l)) (sym same) ∙ (sym e ∙ f)

pub push_reserved-requires : goal.push_reserved-requires
push_reserved-requires c =
    let no = absent _ _ c.args.item.0 _ c.has_read.ensures c.as_slice.ensures.value c.if-not-has_read.true in
    omega (arith, read_place _ _ _ _ c.args.item c.self.invariant c.requires no, c.self.inside.reads.ok.0)

pub invariant_of-self : goal.invariant_of-self
invariant_of-self c =
    let no = absent _ _ c.args.item.0 _ c.has_read.ensures c.as_slice.ensures.value c.if-not-has_read.true in
    rw (c.push_reserved.ensures.items, c.push_reserved.ensures.capacity) (places_read _ _ _ _ c.args.item c.args.stamp c.self.invariant c.requires no)

pub returns-then-not-has_read : goal.returns-then-not-has_read
returns-then-not-has_read c =
    let no = absent _ _ c.args.item.0 _ c.has_read.ensures c.as_slice.ensures.value c.if-not-has_read.true in
    let item = c.args.item in
    let stamp = c.args.stamp in
    ap (λ (l : List OutsideRead). record { reads = l; writes = c.self.inside.writes.items }) (c.push_reserved.ensures.items ∙ sym (read_new _ item stamp no))
    ∙ ap (λ (w : Work). record w { reads = with_read w.reads item stamp }) c.self.view_is

pub returns-else-not-has_read : goal.returns-else-not-has_read
returns-else-not-has_read c =
    let yes = there _ _ c.args.item.0 _ c.has_read.ensures c.as_slice.ensures.value c.if-not-has_read.false in
    let item = c.args.item in
    let stamp = c.args.stamp in
    sym c.self.view_is
    ∙ (ap (λ (l : List OutsideRead). record { reads = l; writes = c.self.inside.writes.items }) (sym (read_old _ item stamp yes))
    ∙ ap (λ (w : Work). record w { reads = with_read w.reads item stamp }) c.self.view_is)
