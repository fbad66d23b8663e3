-- A run so far has room in the room of its jobs, and that of a scenario's run in the scenario's room.
use Rattle.std.proofs.Common.{◌≡◌, ℕ, suc, ◌+◌, ◌*◌, List, [], ◌∷◌, length, get_or, refl, ap, ◌∙◌, arith, mul-one, mul-add}
use Rattle.txn_set.specs.declared.decl.TxnDecl.{TxnDecl}
use Rattle.step_journal.specs.declared.entry.Entry.{Entry}
use Rattle.law_histories.specs.Counting.{plan_count, room_of_jobs}
use Rattle.law_histories.proofs.CountingAll.{entries_few}
use Rattle.law_histories.specs.Sim.{plans}
use Rattle.sim_run.specs.Workloads.{ticks_of}
use Rattle.step_script.specs.declared.releases.Releases.{Releases}
use Rattle.step_script.specs.declared.releases.Releases.TheVariants.{At}
use Rattle.step_script.specs.Releases.{jobs_of, entries_of, entries_in}
use Rattle.law_runs.specs.Runs.{workload_of}
use Rattle.law_runs.proofs.Counts.{count_append, count_plans}
use Rattle.law_runs.specs.Plannable.{eager_jobs_of}
use Rattle.law_runs.specs.EagerLaws.{RunFits, ScenarioHasRoom, ScenarioPlansNext}
use Rattle.law_runs.proofs.Near.{run_near}
use Rattle.law_runs.proofs.Open.{next_given}
use Rattle.law_runs.proofs.Scenario.{plannable, jobs_of_each}

pub run_fits : RunFits
run_fits = λ w eager_jobs history ok r.
    let h = run_near w eager_jobs history ok r in
    (entries_few w.set history ok r.legal).jobs (λ tx. length (ticks_of w.releases tx) + eager_jobs tx)
    (λ n lt. omega (arith, ap (λ (l : List Entry). plan_count l n) r.begins, count_append (plans w) r.rest n, count_plans w n, h.jobs n))

as_many : (jobs b steps : ℕ) → jobs ≡ b → jobs * (steps + 3) ≡ entries_of b steps
as_many jobs b steps e = ap (λ (n : ℕ). n * (steps + 3)) e ∙ omega (arith, mul-add b (steps + 2) 1, mul-one b)

all_entries : (ts : List TxnDecl) (rs : List Releases) (jobs : ℕ → ℕ) → length rs ≡ length ts → ((n : ℕ) → jobs n ≡ jobs_of (get_or rs n (At []))) → room_of_jobs ts jobs ≡ entries_in ts rs
all_entries [] rs jobs same is = refl
all_entries (t ∷ ts) [] jobs same is = absurd (omega (arith, same))
all_entries (t ∷ ts) (r ∷ rs) jobs same is =
    omega (arith, as_many (jobs 0) (jobs_of r) t.steps (is 0), all_entries ts rs (λ n. jobs (suc n)) (omega (arith, same)) (λ n. is (suc n)))

pub scenario_room : ScenarioHasRoom
scenario_room = λ s is.
    let room = is.room in
    omega (arith, room, all_entries s.txns s.releases (λ tx. length (ticks_of (workload_of s).releases tx) + eager_jobs_of s tx) is.released (λ n. jobs_of_each s n is))

pub plans_next : ScenarioPlansNext
plans_next = λ s history tx kept is ok j le.
    next_given (workload_of s) (eager_jobs_of s) history tx kept s.room ok (plannable s is) j
    (omega (arith, le, run_fits (workload_of s) (eager_jobs_of s) history ok j.run, scenario_room s is))
