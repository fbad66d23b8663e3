-- The reply to a run from what was found of its scenario.
use Rattle.std.proofs.Common.{◌≡◌, ℕ, Bool, true, false, not, List, None, Err, refl, ap}
use Rattle.std.specs.Prelude.{IsErrOf}
use Rattle.txn_compiler.specs.Refusal.{compile_refusal}
use Rattle.step_script.specs.Shown.{Shown, set_of}
use Rattle.step_script.specs.Scenarios.{IsScenario}
use Rattle.law_runs.specs.Runs.{workload_of}
use Rattle.io_edge.specs.declared.status.Status.TheVariants as statuses
use Rattle.law_runs.specs.Plannable.{eager_jobs_of}
use Rattle.command_replies.specs.Replies.{IsUncompiled}
use Rattle.command_replies.proofs.Compiles.{is_compiled}
use Rattle.command_replies.proofs.Replying.{compiled_reply, uncompiled_reply, admitted_reply, refused_reply}
use Rattle.scenario_run.specs.Eager.{IsRunTextBy}
use Rattle.scenario_run.specs.Runs.{IsAdmittedUnless}
use Rattle.scenario_run.specs.Replies.{Ran, RunReply}
use Rattle.scenario_run.proofs.Guarantees.{run_text}

pub run_reply : (trial : Bool) (s : Shown) (text : List ℕ) → IsScenario s → compile_refusal (set_of s) ≡ None → IsAdmittedUnless trial (set_of s)
    → IsRunTextBy s.names (not trial) (workload_of s) (eager_jobs_of s) text → RunReply trial s statuses.Ok text
run_reply true s text is none h t = compiled_reply (Ran true s) s statuses.Ok text none (refl, run_text true s text is (is_compiled s is none) tt t)
run_reply false s text is none h t = admitted_reply (Ran false s) s statuses.Ok text none h (refl, run_text false s text is (is_compiled s is none) h t)

-- what refuses the set of a scenario is the reply of its run

-- the error of one answer is that of another with it
pub same_error : {A B E : Type 0} (f e : E) → IsErrOf {T = A} {E = E} (Err f) e → IsErrOf {T = B} {E = E} (Err f) e
same_error f e is =
    let same : f ≡ e = cc in
    ap (λ x. Err x) same
