-- What the laws say of the run of a scenario.
use Rattle.std.proofs.Common.{ℕ, ◌<◌, Bool, true, false, not, List, length, arith}
use Rattle.txn_set.specs.Set.{Set, IsCompiled}
use Rattle.step_journal.specs.declared.entry.Entry.{Entry}
use Rattle.step_journal.specs.History.{IsLegal}
use Rattle.law_histories.proofs.SerialAll.{serial}
use Rattle.law_histories.proofs.DelayAll.{one_delay}
use Rattle.law_histories.proofs.CountingAll.{entries_few}
use Rattle.law_histories.proofs.Commits.{fresh_commits}
use Rattle.set_admission.proofs.Admitted.{decided}
use Rattle.set_admission.proofs.Kept.{keeps_bounds}
use Rattle.step_script.specs.Shown.{Shown, set_of}
use Rattle.step_script.specs.Scenarios.{IsScenario}
use Rattle.scenario_run.specs.Runs.{IsGuaranteed, KeepsBoundsUnless, IsAdmittedUnless, IsRunText}
use Rattle.law_runs.specs.Plannable.{eager_jobs_of}
use Rattle.law_runs.proofs.Scenario.{none_eager}
use Rattle.law_runs.proofs.Fits.{run_fits, scenario_room}
use Rattle.law_runs.specs.Histories.{IsRunOf}
use Rattle.law_runs.proofs.Fixed.{fixed_sim}
use Rattle.scenario_run.specs.Eager.{IsRunTextBy}
use Rattle.law_runs.specs.Runs.{workload_of}

guaranteed : (set : Set) (history : List Entry) → IsCompiled set → IsLegal set history → IsGuaranteed set history
guaranteed set history ok legal = record {
  serial = serial set history ok legal;
  refused_once = (entries_few set history ok legal).refusals;
  delayed_by_one = λ job. one_delay set history job ok legal;
  commits = fresh_commits set history ok legal;
}

bounded : (trial : Bool) (set : Set) (history : List Entry) → IsCompiled set → IsLegal set history → IsAdmittedUnless trial set → KeepsBoundsUnless trial set history
bounded true set history ok legal h = tt
bounded false set history ok legal h = keeps_bounds set history ok ((decided set ok).by_found.0 h) legal

few : (s : Shown) (history : List Entry) → IsScenario s → IsCompiled (set_of s) → IsRunOf (workload_of s) (eager_jobs_of s) history → length history < s.room
few s history is ok run = omega (arith, run_fits (workload_of s) (eager_jobs_of s) history ok run.so_far, scenario_room s is)

pub run_text : (trial : Bool) (s : Shown) (text : List ℕ) → IsScenario s → IsCompiled (set_of s) → IsAdmittedUnless trial (set_of s) → IsRunTextBy s.names (not trial) (workload_of s) (eager_jobs_of s) text → IsRunText trial s text
run_text trial s text is ok h t =
    let history = t.history in
    let legal = t.run.so_far.legal in
    record {
      history = history;
      run = t.run;
      determined = λ without_eager. fixed_sim (workload_of s) (eager_jobs_of s) history (none_eager s without_eager) t.run;
      guaranteed = guaranteed (set_of s) history ok legal;
      bounded = bounded trial (set_of s) history ok legal h;
      few = few s history is ok t.run;
      written = t.written;
    }
