use Rattle.std.proofs.Common.{length, ◌<◌, ◌^◌, sym, subst, ◌∙◌}
use Rattle.std.specs.List.{All}
use Rattle.scenario_forms.specs.Root.{forms_view}
use Rattle.step_script.specs.Shown.{Shown}
use Rattle.step_script.specs.Releases.{total_jobs}
use Rattle.step_script.specs.Scenarios.{HasTextTimes, IsProgramOver}
use Rattle.scenario_reader.proofs.Making.{good_scripts, programs_over, text_times, scripts_match, few_txns}
use Rattle.scenario_reader.proofs.read.of_forms.Goals as goal

pub made-requires : goal.made-requires
made-requires c =
    good_scripts (forms_view c.args.forms) c.requires.good (sym c.unknown_name.ensures ∙ c.in_default.is)

pub judge-requires-clause-scripted : goal.judge-requires-clause-scripted
judge-requires-clause-scripted c =
    scripts_match c.in_ok-scenario.scenario (forms_view c.args.forms) c.in_ok-scenario.ensures.made

pub judge-requires-clause-good : goal.judge-requires-clause-good
judge-requires-clause-good c =
    subst (λ (s : Shown). All (IsProgramOver (length s.items)) s.programs) (sym c.in_ok-scenario.ensures.made)
    (programs_over (length c.args.forms.items.decls.items) (forms_view c.args.forms).txns.txns
    (good_scripts (forms_view c.args.forms) c.requires.good (sym c.unknown_name.ensures ∙ c.in_default.is)) c.requires.good)

pub judge-requires-clause-times : goal.judge-requires-clause-times
judge-requires-clause-times c =
    subst (λ (s : Shown). All HasTextTimes s.txns) (sym c.in_ok-scenario.ensures.made)
    (text_times (length c.args.forms.items.decls.items) (forms_view c.args.forms).txns.txns c.requires.good)

pub judge-requires-clause-few : goal.judge-requires-clause-few
judge-requires-clause-few c = few_txns c.in_ok-scenario.scenario (forms_view c.args.forms) c.in_ok-scenario.ensures.made
    c.requires.counted.few

pub judge-requires-clause-counted : goal.judge-requires-clause-counted
judge-requires-clause-counted c =
    subst (λ (s : Shown). total_jobs s.releases < 2 ^ 64) (sym c.in_ok-scenario.ensures.made) c.requires.counted.jobs
