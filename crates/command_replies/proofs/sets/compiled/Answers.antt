use Rattle.std.proofs.Common.{sym, ap, ◌∙◌}
use Rattle.txn_compiler.specs.Refusal.{compile_refusal}
use Rattle.command_replies.proofs.Compiles.{in_range_from, kept_from, is_refusal}
use Rattle.command_replies.proofs.sets.compiled.Goals as goal

pub compile-requires : goal.compile-requires
compile-requires c = in_range_from _ _ _ _ _ _ c.into_vec.ensures c.into_vec-2.ensures c.into_vec-3.ensures c.requires

pub returns-in-Ok-clause-set : goal.returns-in-Ok-clause-set
returns-in-Ok-clause-set c = c.in-Ok.ensures.set ∙ kept_from _ _ _ _ _ _ c.into_vec.ensures c.into_vec-2.ensures c.into_vec-3.ensures c.requires

pub returns-in-Ok-clause-passed : goal.returns-in-Ok-clause-passed
returns-in-Ok-clause-passed c =
    let same = c.in-Ok.ensures.set ∙ kept_from _ _ _ _ _ _ c.into_vec.ensures c.into_vec-2.ensures c.into_vec-3.ensures c.requires in
    sym (ap compile_refusal same) ∙ c.in-Ok.ensures.passed

pub returns-in_default-clause-refused : goal.returns-in_default-clause-refused
returns-in_default-clause-refused c =
    let same = kept_from _ _ _ _ _ _ c.into_vec.ensures c.into_vec-2.ensures c.into_vec-3.ensures c.requires in
    sym (ap compile_refusal same) ∙ is_refusal _ c.in-Err.error c.in_default.not-OutOfMemory c.in-Err.ensures.refused
