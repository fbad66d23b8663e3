-- The run of a generated scenario, whose entries are kept, and in which no transaction is eager.
use Rattle.std.proofs.Common.{◌≡◌, ℕ, ◌+◌, ◌<◌, ◌≤◌, length, arith, false, List, [], ◌∷◌, map, None, Result, Ok, Err, IfOk, refl, sym, ap, subst, ◌∙◌}
use mathlib.Core.Path.{fun_ext}
use Rattle.std.specs.List.{list_any, range_with_len}
use Rattle.txn_set.specs.Set.{Set, IsCompiled}
use Rattle.txn_compiler.specs.Refusal.{compile_refusal}
use Rattle.txn_compiler.proofs.Verdict.{compiled-unless-refused}
use Rattle.step_journal.specs.declared.entry.Entry.{Entry}
use Rattle.law_histories.specs.Sim.{Workload, IsSim}
use Rattle.law_histories.specs.Counting.{room_of_jobs}
use Rattle.sim_run.specs.Workloads.{workload, ticks_of}
use Rattle.law_runs.specs.Histories.{IsRunOf}
use Rattle.law_runs.specs.Plannable.{eager_jobs_of}
use Rattle.law_runs.proofs.Fits.{run_fits, scenario_room}
use Rattle.step_script.specs.declared.script.Script.{Script}
use Rattle.step_script.specs.Scripts.{next_of}
use Rattle.step_script.specs.declared.releases.Releases.{Releases}
use Rattle.step_script.specs.Shown.{Shown, set_of}
use Rattle.step_script.specs.Scenarios.{IsScenario}
use Rattle.step_script.specs.Releases.{is_eager, eager_of, fixed_ticks}
use Rattle.law_runs.proofs.Scenario.{none_eager}
use Rattle.law_runs.specs.Runs.{workload_of}
use Rattle.run_report.specs.Summary.{summary_of}
use Rattle.step_journal.specs.History.{IsLegal}
use Rattle.scenario_writer.specs.Generated.{generated_of, releases_each, each}
use Rattle.plant_run.specs.Runs.{eager_jobs_at}
use Rattle.scenario_run.specs.Runs.{Declares, functions_of, IsSummaryBy, IsLoadText}
use Rattle.scenario_run.proofs.Owned.{own_is}
use Rattle.scenario_run.proofs.Ready.{functions_same, moved, ticks_same}
use Rattle.command_replies.proofs.Compiles.{lists}

pub not_refused : (s : Shown) → IsScenario s → IsCompiled (set_of s) → compile_refusal (set_of s) ≡ None
not_refused s is ok = (compiled-unless-refused (set_of s) (lists s is)).1 ok

pub summarized : {A E : Type 0} (items : A → List ℕ) (r : Result A E) (w : Workload) (set : Set) (history kept : List Entry) → set ≡ w.set → kept ≡ history → IsSim w history
    → length history ≤ room_of_jobs w.set.txns (λ tx. length (ticks_of w.releases tx))
    → IfOk r (λ t. items t ≡ summary_of set kept) → IfOk r (λ t. IsSummaryBy w (items t))
summarized items (Ok t) w set history kept e f sim few h = record {
  history = history;
  sim = sim;
  few = few;
  written = h ∙ (ap (λ (s : Set). summary_of s kept) e ∙ ap (summary_of w.set) f);
}
summarized items (Err e) w set history kept f g sim few h = tt

-- the summary of what a scenario declares is that of its workload
pub summary_as : (set : Set) (scripts : List Script) (releases : List Releases) (d : Declares set scripts releases)
    → (scripts' : List Script) (ticks : List (List ℕ)) (text : List ℕ) → scripts' ≡ scripts → ticks ≡ fixed_ticks set.txns releases
    → IsSummaryBy (workload set (functions_of scripts') ticks) text → IsSummaryBy (workload_of d.scenario) text
summary_as set scripts releases d scripts' ticks text e g h =
    let s = d.scenario in
    moved (λ w eager_jobs. IsSummaryBy w text) set (set_of s) (functions_of scripts') (map next_of s.programs) ticks (fixed_ticks s.txns s.releases) (λ tx. 0) (λ tx. 0) d.set_is
    (ap functions_of e ∙ (functions_same scripts ∙ ap (map next_of) d.programs_are)) (ticks_same set scripts releases d ticks g) refl h

pub legal_as : (set set' : Set) (h kept : List Entry) → set' ≡ set → kept ≡ h → IsLegal set h → IsLegal set' kept
legal_as set set' h kept e f legal = subst (λ (q : Set). IsLegal q kept) (sym e) (subst (IsLegal set) (sym f) legal)

-- where no transaction plans a job itself a run has at most the entries of its releases
pub fixed_fits : (w : Workload) (eager_jobs : ℕ → ℕ) (history : List Entry) → IsCompiled w.set → ((tx : ℕ) → eager_jobs tx ≡ 0) → IsRunOf w eager_jobs history
    → length history ≤ room_of_jobs w.set.txns (λ tx. length (ticks_of w.releases tx))
fixed_fits w eager_jobs history ok none run =
    subst (λ (jobs : ℕ → ℕ). length history ≤ room_of_jobs w.set.txns jobs)
    (fun_ext {f = λ tx. length (ticks_of w.releases tx) + eager_jobs tx} {g = λ tx. length (ticks_of w.releases tx)} (λ tx. omega (arith, none tx)))
    (run_fits w eager_jobs history ok run.so_far)

-- a scenario in which no transaction is eager has more room than its releases need
fixed_room : (s : Shown) → IsScenario s → list_any is_eager s.releases ≡ false
    → room_of_jobs s.txns (λ tx. length (ticks_of (workload_of s).releases tx)) < s.room
fixed_room s is without_eager =
    subst (λ (jobs : ℕ → ℕ). room_of_jobs s.txns jobs < s.room)
    (fun_ext {f = λ tx. length (ticks_of (workload_of s).releases tx) + eager_jobs_of s tx} {g = λ tx. length (ticks_of (workload_of s).releases tx)} (λ tx. omega (arith, none_eager s without_eager tx)))
    (scenario_room s is)

calm_from : (ns : List ℕ) → list_any is_eager (map releases_each ns) ≡ false
calm_from [] = refl
calm_from (n ∷ ns) = calm_from ns

releases_of_generated : (n : ℕ) → (generated_of n).releases ≡ each releases_each n
unfolding generated_of
releases_of_generated n = refl

calm_generated : (n : ℕ) → list_any is_eager (generated_of n).releases ≡ false
calm_generated n = ap (list_any is_eager) (releases_of_generated n) ∙ calm_from (range_with_len 0 n)

-- the text of the generated scenario's run
pub load_text : (n : ℕ) (s : Shown) (text text' : List ℕ) → IsScenario s → s ≡ generated_of n
    → text' ≡ text → IsSummaryBy (workload_of s) text → IsLoadText n text'
load_text n s text text' is e f h =
    let h' : IsSummaryBy (workload_of (generated_of n)) text' = subst (λ (q : Shown). IsSummaryBy (workload_of q) text') e (subst (λ (t : List ℕ). IsSummaryBy (workload_of s) t) (sym f) h) in
    record {
      history = h'.history;
      sim = h'.sim;
      few = omega (arith, h'.few, fixed_room (generated_of n) (subst IsScenario e is) (calm_generated n));
      written = h'.written;
    }

-- no transaction of the generated scenario is eager
pub generated_eager_jobs : (n : ℕ) (s : Shown) (eager_jobs : List ℕ) → s ≡ generated_of n → eager_jobs ≡ map eager_of s.releases → (tx : ℕ) → eager_jobs_at eager_jobs tx ≡ 0
generated_eager_jobs n s eager_jobs e f tx =
    let without_eager : list_any is_eager s.releases ≡ false =
    ap (λ (q : Shown). list_any is_eager q.releases) e ∙ calm_generated n in
    ap (λ (o : ℕ → ℕ). o tx) (own_is s eager_jobs f) ∙ none_eager s without_eager tx
