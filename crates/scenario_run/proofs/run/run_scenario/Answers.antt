use Rattle.std.proofs.Common.{refl}
use Rattle.step_script.specs.Shown.{Shown, shown}
use Rattle.command_replies.proofs.Compiles.{names_set}
use Rattle.command_replies.proofs.Replying.{taken}
use Rattle.scenario_run.specs.Replies.{IsJudged, RunText}
use Rattle.scenario_run.proofs.Parts.{wrote_of, front_of, kept_or_front}
use Rattle.scenario_run.proofs.Replying.{same_error}
use Rattle.scenario_run.proofs.Started.{tasks_of, run_text_is}
use Rattle.scenario_run.proofs.run.run_scenario.Goals as goal

pub begun_on_core-requires-clause-names : goal.begun_on_core-requires-clause-names
begun_on_core-requires-clause-names g c =
    let j : IsJudged c.args.mode.trial (shown c.args.scenario) c.in-Ok.accepted = taken _ _ _ c.in-Ok.is c.in_ok-accepted.ensures.accepted in
    names_set (shown c.args.scenario) _ _ c.requires.scenario j.parts.names_are j.parts.set_is

pub begun_on_core-requires-clause-tasks : goal.begun_on_core-requires-clause-tasks
begun_on_core-requires-clause-tasks g c =
    let j : IsJudged c.args.mode.trial (shown c.args.scenario) c.in-Ok.accepted = taken _ _ _ c.in-Ok.is c.in_ok-accepted.ensures.accepted in
    tasks_of (shown c.args.scenario) _ _ _ c.requires.scenario j.parts

pub returns-in-Ok-written-clause-whole : goal.returns-in-Ok-written-clause-whole
returns-in-Ok-written-clause-whole g c = λ done.
    let s : Shown = shown c.args.scenario in
    let j : IsJudged c.args.mode.trial s c.in-Ok.accepted = taken _ _ _ c.in-Ok.is c.in_ok-accepted.ensures.accepted in
    wrote_of _ (RunText c.args.mode.trial s) _ _ (run_text_is _ _ _ _ s _ _ c.requires.scenario j c.in-Ok-begun_on_core.ensures.begun) c.in-Ok-written.ensures.whole

pub returns-in-Err-written-clause-cut : goal.returns-in-Err-written-clause-cut
returns-in-Err-written-clause-cut g c = λ is.
    let s : Shown = shown c.args.scenario in
    let j : IsJudged c.args.mode.trial s c.in-Ok.accepted = taken _ _ _ c.in-Ok.is c.in_ok-accepted.ensures.accepted in
    front_of _ (RunText c.args.mode.trial s) _ _ (run_text_is _ _ _ _ s _ _ c.requires.scenario j c.in-Ok-begun_on_core.ensures.begun) (c.in-Err-written.ensures.cut (same_error _ _ is))

pub returns-in-Err-written-clause-short : goal.returns-in-Err-written-clause-short
returns-in-Err-written-clause-short g c = λ is.
    let s : Shown = shown c.args.scenario in
    let j : IsJudged c.args.mode.trial s c.in-Ok.accepted = taken _ _ _ c.in-Ok.is c.in_ok-accepted.ensures.accepted in
    kept_or_front _ (RunText c.args.mode.trial s) _ _ (run_text_is _ _ _ _ s _ _ c.requires.scenario j c.in-Ok-begun_on_core.ensures.begun) (c.in-Err-written.ensures.short (same_error _ _ is))
