use Rattle.std.proofs.Common.{rules, ◌≡◌, ℕ, List, length, Some, option_and_then, sym, ap, ◌∙◌}
use Rattle.serde_json.specs.View.{view}
use Rattle.scenario_forms.specs.Shapes.{one_of}
use Rattle.scenario_forms.proofs.Parts.{one_entry}
use Rattle.scenario_forms.proofs.shape.only.Goals as goal

pub returns : goal.returns
returns c =
    let one : length c.in_ok-members.members.now.entries ≡ 1 = search rules in
    sym (ap (option_and_then one_of) (sym c.in_ok-members.ensures)
    ∙ one_entry _ (c.in_ok-name.name.now, c.in_ok-name.member.now) one c.in_ok-name.ensures.first
    ∙ ap (λ (k : List ℕ). Some (k, view c.in_ok-name.member.now)) (sym c.as_str.ensures.value))
