-- The status and the text of a run's answer.
use Rattle.std.specs.Prelude.{◌≡◌, ℕ, List, Bool, true, false, not, None}
use Rattle.txn_compiler.specs.Refusal.{compile_refusal}
use Rattle.set_admission.specs.Admission.{refusal}
use Rattle.step_script.specs.Shown.{Shown, set_of}
use Rattle.io_edge.specs.declared.status.Status.TheVariants as statuses
use Rattle.run_report.specs.declared.judged.ReportedSet.{ReportedSet}
use Rattle.run_report.specs.Judged.{set_in, is_admitted}
use Rattle.command_replies.specs.declared.accepted.Accepted.{Accepted}
use Rattle.command_replies.specs.Accepted.{IsOf}
use Rattle.command_replies.specs.Replies.{Reply, Compiling, Admitting}
use Rattle.scenario_run.specs.Runs.{IsAdmittedUnless, IsRunText, IsLoadText}

abbrev pub Ran : Bool → Shown → Reply
Ran trial s status text = (status ≡ statuses.Ok) × IsRunText trial s text

-- the run of a scenario, which is compiled, and admitted unless it is a trial
abbrev pub RunReply : Bool → Shown → Reply
RunReply true s = Compiling (Ran true s) s.names (compile_refusal (set_of s))
RunReply false s =
    Compiling (Admitting (Ran false s) s.names (refusal (set_of s))) s.names (compile_refusal (set_of s))

-- a scenario whose set compiles, and is admitted unless it is run on trial
pub record IsJudged (trial : Bool) (s : Shown) (a : Accepted ReportedSet) : Type 0 where
  pub parts : IsOf s a.names (set_in a.set) a.tasks
  pub compiles : compile_refusal (set_of s) ≡ None
  pub admits : IsAdmittedUnless trial (set_of s)
  pub mode_is : is_admitted a.set ≡ not trial

-- the text of a run
abbrev pub RunText : Bool → Shown → List ℕ → Type 0
RunText trial s text = RunReply trial s statuses.Ok text

abbrev pub LoadReply : ℕ → Reply
LoadReply n status text = (status ≡ statuses.Ok) × IsLoadText n text
