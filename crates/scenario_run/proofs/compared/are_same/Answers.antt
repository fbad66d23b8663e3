use Rattle.std.proofs.Common.{◌≡◌, Some, sym, ap, ◌∙◌}
use Rattle.scenario_run.proofs.Same.{made_same, same_made}
use Rattle.scenario_run.proofs.compared.are_same.Goals as goal

pub returns : goal.returns
returns c =
    let a = c.args.a in
    let b = c.args.b in (
      λ yes. (let is : Some a ≡ Some b = made_same (Some a) b (sym c.eq.ensures ∙ yes) in cc),
      λ is. c.eq.ensures ∙ same_made (Some a) b (ap Some is),
    )
