use Rattle.std.proofs.Common.{◌∙◌}
use Rattle.scenario_forms.specs.Root.{is_root_member}
use Rattle.scenario_forms.proofs.Objects.{no_others_keys}
use Rattle.scenario_forms.proofs.root.is_root.Goals as goal

pub returns-in-Some : goal.returns-in-Some
returns-in-Some c = c.are_members.ensures ∙ no_others_keys (is_root_member c.args.second) _ c.in-Some.members.now
    c.in-Some.ensures
