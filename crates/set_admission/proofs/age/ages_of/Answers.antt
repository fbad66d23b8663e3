use Rattle.std.proofs.Common.{subst, ◌∙◌, List}
use Rattle.std.proofs.lemmas.Result.{IfOk-weaker}
use Rattle.age_bounds.specs.declared.AgeRow.{AgeRow}
use Rattle.age_bounds.specs.Age.{AreAges}
use Rattle.set_admission.proofs.AgeRows.{rows-good, ages-of}
use Rattle.set_admission.proofs.age.ages_of.Goals as goal

pub ages-requires : goal.ages-requires
ages-requires c = rw (c.deref.ensures.value, c.in_ok-rows.ensures) (rows-good c.args.set.now c.requires.compiled)

pub returns : goal.returns
returns c =
    IfOk-weaker c.ages.result _ _
    (λ answers h. ages-of c.args.set.now c.requires.compiled answers.items (subst (λ (rows : List AgeRow). AreAges rows answers.items) (c.deref.ensures.value ∙ c.in_ok-rows.ensures) h))
    c.ages.ensures
