use Rattle.std.proofs.Common.{◌∙◌, subst}
use Rattle.txn_compiler.specs.Refusal.{Refuses, compile_refusal}
use Rattle.txn_set.specs.Set.{Set}
use Rattle.report_text.specs.IsHead.{set_of}
use Rattle.run_report.proofs.HeadSets.{in_range, are_lists}
use Rattle.run_report.proofs.declared.compile_head.Goals as goal

pub compile-requires : goal.compile-requires
compile-requires c =
    rw (c.into_vec.ensures, c.into_vec-2.ensures, c.into_vec-3.ensures) (in_range c.args.head c.requires)

pub returns-in-Ok-clause-set : goal.returns-in-Ok-clause-set
returns-in-Ok-clause-set c =
    rw (c.into_vec.ensures, c.into_vec-2.ensures, c.into_vec-3.ensures) at c.in-Ok.ensures.set
    ∙ c.kept_as_declared.ensures (set_of c.args.head) (are_lists c.args.head c.requires)

pub returns-in-Err-clause-refused : goal.returns-in-Err-clause-refused
returns-in-Err-clause-refused c =
    subst (λ (s : Set). Refuses (compile_refusal s) c.in-Err.error)
    (c.kept_as_declared.ensures (set_of c.args.head) (are_lists c.args.head c.requires))
    (rw (c.into_vec.ensures, c.into_vec-2.ensures, c.into_vec-3.ensures) at c.in-Err.ensures.refused)
