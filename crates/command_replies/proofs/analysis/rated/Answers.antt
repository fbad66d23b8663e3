use Rattle.std.proofs.Common.{sym, ap, ◌∙◌}
use Rattle.update_rates.specs.RatedSet.{rated_set}
use Rattle.update_rates.specs.Refusal.{rate_refusal}
use Rattle.command_replies.proofs.Compiles.{in_range_from, kept_from}
use Rattle.command_replies.proofs.Analysing.{is_rate_refusal}
use Rattle.command_replies.proofs.analysis.rated.Goals as goal

pub plan_rates-requires : goal.plan_rates-requires
plan_rates-requires c = in_range_from _ _ _ _ _ _ c.into_vec.ensures c.into_vec-2.ensures c.into_vec-3.ensures c.requires

pub returns-in-Ok-clause-set : goal.returns-in-Ok-clause-set
returns-in-Ok-clause-set c =
    c.in-Ok.ensures.set ∙ ap rated_set (kept_from _ _ _ _ _ _ c.into_vec.ensures c.into_vec-2.ensures c.into_vec-3.ensures c.requires)

pub returns-in-Ok-clause-passed : goal.returns-in-Ok-clause-passed
returns-in-Ok-clause-passed c =
    let same = kept_from _ _ _ _ _ _ c.into_vec.ensures c.into_vec-2.ensures c.into_vec-3.ensures c.requires in
    sym (ap rate_refusal same) ∙ c.in-Ok.ensures.passed

pub returns-in_default-clause-refused : goal.returns-in_default-clause-refused
returns-in_default-clause-refused c =
    let same = kept_from _ _ _ _ _ _ c.into_vec.ensures c.into_vec-2.ensures c.into_vec-3.ensures c.requires in
    sym (ap rate_refusal same) ∙ is_rate_refusal _ c.in-Err.error c.in_default.not-OutOfMemory c.in-Err.ensures.refused
