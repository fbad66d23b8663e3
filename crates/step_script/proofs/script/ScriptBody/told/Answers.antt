use Rattle.std.proofs.Common.{◌≡◌, ◌<◌, ◌≤◌, ◌+◌, List, length, Some, None, ap, sym, subst, ◌∙◌, refl, true, arith}
use Rattle.std.specs.Prelude.{IfSome}
use Rattle.std.specs.List.{slice_get}
use Rattle.std.proofs.lemmas.List.{with_items_is}
use Rattle.std.proofs.lemmas.Option.{slice_get_within}
use Rattle.std.proofs.lemmas.Bool.{ltb-true, ltb-false}
use Rattle.step_script.specs.declared.lasts.LastRead.{LastRead}
use Rattle.step_script.specs.Scripts.{operation, width, noted}
use Rattle.step_script.specs.Rows.{read_item, names, row_items, last_in}
use Rattle.step_script.proofs.Places.{told_none, told_again, told_next, found}
use Rattle.step_script.proofs.Rows.{has_row}
use Rattle.step_script.proofs.script.ScriptBody.told.Goals as goal

pub returns-in_default-clause-more : goal.returns-in_default-clause-more
returns-in_default-clause-more c serial os h =
    let is : slice_get c.args.self.now.ops.items c.args.self.now.place ≡ None =
    found _ _ _ _ _ c.deref.ensures.value c.in_default.ensures refl in
    let told = told_none c.args.self.now c.args.outcome is serial os h in
    record { begun = told.begun; lasts = told.lasts; within = told.within; left = told.left }

pub note-requires-clause-read : goal.note-requires-clause-read
note-requires-clause-read c =
    let is : slice_get c.args.self.now.ops.items c.args.self.now.place ≡ Some c.in-Some.op.now =
    found _ _ _ _ _ c.deref.ensures.value c.in-Some.ensures refl in
    subst (λ (rows : List LastRead). IfSome (read_item c.in-Some.op.now) (λ i. names (row_items rows) i ≡ true))
    (sym c.deref_mut.ensures.value)
    (has_row c.args.self.now.ops.items (row_items c.args.self.now.lasts.items) c.args.self.now.place c.in-Some.op.now
    c.args.self.now.rows is)

pub overflow_add-self-else-goes_on : goal.overflow_add-self-else-goes_on
overflow_add-self-else-goes_on c =
    let is : slice_get c.args.self.now.ops.items c.args.self.now.place ≡ Some c.in-Some.op.now =
    found _ _ _ _ _ c.deref.ensures.value c.in-Some.ensures refl in
    let lt : c.args.self.now.place < length c.args.self.now.ops.items = slice_get_within _ _ _ is in omega (arith, lt)

pub returns-then-goes_on-clause-more : goal.returns-then-goes_on-clause-more
returns-then-goes_on-clause-more c =
    let is : slice_get c.args.self.now.ops.items c.args.self.now.place ≡ Some c.in-Some.op.now =
    found _ _ _ _ _ c.deref.ensures.value c.in-Some.ensures refl in
    let noted_is : last_in c.note.new.rows ≡ noted (operation c.in-Some.op.now) c.args.outcome (last_in
    c.args.self.now.lasts.items) = c.note.ensures.noted
    ∙ ap (λ (rows : List LastRead). noted (operation c.in-Some.op.now) c.args.outcome (last_in rows))
    c.deref_mut.ensures.value in
    let same_length : length c.note.new.rows ≡ c.args.self.now.lasts.len = c.note.auto.rows ∙ c.deref_mut.ensures.len in
    let lt : c.args.self.now.done + 1 < width (operation c.in-Some.op.now) =
    ltb-true _ _ (sym c.goes_on.ensures.is ∙ c.if-goes_on.true) in
    told_again c.args.self.now _ _ c.in-Some.op.now is refl refl refl refl
    (ap last_in (with_items_is c.args.self.now.lasts c.note.new.rows same_length) ∙ noted_is) lt

pub returns-else-goes_on-clause-more : goal.returns-else-goes_on-clause-more
returns-else-goes_on-clause-more c =
    let is : slice_get c.args.self.now.ops.items c.args.self.now.place ≡ Some c.in-Some.op.now =
    found _ _ _ _ _ c.deref.ensures.value c.in-Some.ensures refl in
    let noted_is : last_in c.note.new.rows ≡ noted (operation c.in-Some.op.now) c.args.outcome (last_in
    c.args.self.now.lasts.items) = c.note.ensures.noted
    ∙ ap (λ (rows : List LastRead). noted (operation c.in-Some.op.now) c.args.outcome (last_in rows))
    c.deref_mut.ensures.value in
    let same_length : length c.note.new.rows ≡ c.args.self.now.lasts.len = c.note.auto.rows ∙ c.deref_mut.ensures.len in
    let le : width (operation c.in-Some.op.now) ≤ c.args.self.now.done + 1 =
    ltb-false _ _ (sym c.goes_on.ensures.is ∙ c.if-goes_on.false) in
    told_next c.args.self.now _ _ c.in-Some.op.now is refl refl refl refl
    (ap last_in (with_items_is c.args.self.now.lasts c.note.new.rows same_length) ∙ noted_is) le
