use Rattle.std.proofs.Common.{◌≡◌, Some, None, ap, ◌∙◌, refl, w64}
use Rattle.std.specs.List.{slice_get}
use Rattle.std.proofs.lemmas.Int.{to_z-of_z}
use Rattle.rt_base.specs.declared.operation.Op.TheVariants as asked
use Rattle.step_script.specs.declared.script.ScriptOp.TheVariants.{Read, Write, Compute, Commit, Quit}
use Rattle.step_script.specs.Values.{tree}
use Rattle.step_script.specs.Rows.{last_in}
use Rattle.step_script.proofs.Places.{asks_op, asks_none, same_known, found}
use Rattle.step_script.proofs.script.ScriptBody.next.Goals as goal

pub returns-in_default : goal.returns-in_default
returns-in_default c =
    let is : slice_get c.args.self.now.ops.items c.args.self.now.place ≡ None =
    found _ _ _ _ _ c.deref.ensures.value c.in_default.ensures refl in asks_none _ is

pub returns-in-Read : goal.returns-in-Read
returns-in-Read c =
    let is : slice_get c.args.self.now.ops.items c.args.self.now.place ≡ Some (Read c.in-Read.item) =
    found _ _ _ _ _ c.deref.ensures.value c.in-Some.ensures (ap Some c.in-Read.is) in asks_op _ _ is

pub returns-in-Write : goal.returns-in-Write
returns-in-Write c =
    let is : slice_get c.args.self.now.ops.items c.args.self.now.place ≡ Some (Write c.in-Write.item c.in-Write.value)
    = found _ _ _ _ _ c.deref.ensures.value c.in-Some.ensures (ap Some c.in-Write.is) in
    let value =
    to_z-of_z w64 c.value_of.result (record { sfits = c.value_of.type_inv })
    ∙ c.value_of.ensures
    ∙ same_known (tree c.in-Write.value) _ _ _ _ _ _
    (to_z-of_z w64 c.sample.result (record { sfits = c.sample.type_inv }) ∙ c.sample.ensures)
    (to_z-of_z w64 c.from-serial.result (record { sfits = c.from-serial.type_inv }) ∙ c.from-serial.ensures)
    (ap last_in c.deref-in-Write.ensures.value) in
    λ serial os h. ap (asked.Write c.in-Write.item) value ∙ asks_op c.args.self.now _ is serial os h

pub returns-in-Compute : goal.returns-in-Compute
returns-in-Compute c =
    let is : slice_get c.args.self.now.ops.items c.args.self.now.place ≡ Some (Compute c.in-Compute.field-0) =
    found _ _ _ _ _ c.deref.ensures.value c.in-Some.ensures (ap Some c.in-Compute.is) in asks_op _ _ is

pub returns-in-Commit : goal.returns-in-Commit
returns-in-Commit c =
    let is : slice_get c.args.self.now.ops.items c.args.self.now.place ≡ Some Commit =
    found _ _ _ _ _ c.deref.ensures.value c.in-Some.ensures (ap Some c.in-Commit.is) in asks_op _ _ is

pub returns-in-Quit : goal.returns-in-Quit
returns-in-Quit c =
    let is : slice_get c.args.self.now.ops.items c.args.self.now.place ≡ Some Quit =
    found _ _ _ _ _ c.deref.ensures.value c.in-Some.ensures (ap Some c.in-Quit.is) in asks_op _ _ is
