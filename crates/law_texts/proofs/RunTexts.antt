-- The run of a scenario has numbers of their types, and so its report is legal.
use Rattle.std.proofs.Common.{◌≡◌, ℕ, zero, suc, ◌<◌, ◌^◌, Bool, true, false, cond, List, [], ◌∷◌, map, Option, Some, None, refl, sym, subst, arith}
use Rattle.std.specs.List.{All, cons_option}
use Rattle.rt_base.specs.declared.ids.JobId.{JobId}
use Rattle.rt_base.specs.declared.operation.Outcome.{Outcome}
use Rattle.item_model.specs.declared.decl.ItemKind.{ItemKind}
use Rattle.item_model.specs.declared.decl.ItemKind.TheVariants.{Sensor, Derived, State}
use Rattle.step_journal.specs.declared.entry.Entry.{Entry}
use Rattle.step_journal.specs.declared.entry.Entry.TheVariants.{Planned, Step, Blocked, Idle}
use Rattle.step_journal.specs.State.{same_job}
use Rattle.step_journal.specs.Serial.{outcome_in, outcomes_of}
use Rattle.law_histories.specs.Sim.{IsScriptRun}
use Rattle.sim_run.specs.Workloads.{body_of}
use Rattle.step_script.specs.Scripts.{Program, next_of}
use Rattle.step_script.specs.Shown.{Shown, set_of}
use Rattle.step_script.specs.Scenarios.{HasValidity, IsScenario}
use Rattle.scenario_writer.specs.Integers.{ProgramHasIntegers, HasIntegers}
use Rattle.law_runs.specs.Runs.{workload_of}
use Rattle.journal_text.proofs.IdLaws.{in_i64}
use Rattle.journal_text.specs.Lines.{IsOutcome}
use Rattle.report_text.specs.Texts.{is_second}
use Rattle.report_text.specs.Laws.{IsKind, IsItemDecl}
use Rattle.run_report.specs.Types.{HasValue}
use Rattle.run_report.proofs.Every.{Every, every_all}
use Rattle.run_report.proofs.Steps.{EntryFits, Values}
use Rattle.law_texts.proofs.Bodies.{next_fits}

-- ---- the declared numbers

kind_fits : (kind : ItemKind) → HasValidity kind → IsKind kind
kind_fits (Sensor v) h = omega (arith, h.1)
kind_fits (Derived v) h = omega (arith, h.1)
kind_fits State h = tt

pub items_fit : (s : Shown) → IsScenario s → HasIntegers s → All IsItemDecl s.items
items_fit s is integers =
    λ k d lt. record { kind = kind_fits _ (is.validities k d lt); initial = in_i64 _ (integers.initial k d lt) }

pub within_fits : (s : Shown) → IsScenario s → All (λ g. g.within < 2 ^ 64) s.together
within_fits s is = λ k d lt. omega (arith, is.within k d lt)

-- ---- what was told

cons_fits : (o : Option Outcome) (os : List Outcome) → ((x : Outcome) → o ≡ Some x → IsOutcome x) → Every IsOutcome os
    → Every IsOutcome (cons_option o os)
cons_fits None os h k = k
cons_fits (Some x) os h k = (h x refl, k)

outcome_if : (b : Bool) (outcome x : Outcome) → IsOutcome outcome → cond b (Some outcome) None ≡ Some x → IsOutcome x
outcome_if true outcome x h e = let same : outcome ≡ x = cc in subst IsOutcome same h
outcome_if false outcome x h e = absurd cc

outcome_told : (second : Bool) (job : JobId) (e : Entry) (x : Outcome) → EntryFits second e → outcome_in job e ≡ Some x → IsOutcome x
outcome_told second job (Step by op outcome over tick) x fits e = outcome_if (same_job by job) outcome x fits.3 e
outcome_told second job (Planned tx tick) x fits e = absurd cc
outcome_told second job (Blocked by op on ceiling tick) x fits e = absurd cc
outcome_told second job (Idle from to) x fits e = absurd cc

outcomes_told : (second : Bool) (job : JobId) (es : List Entry) → Every (EntryFits second) es → Every IsOutcome (outcomes_of es job)
outcomes_told second job [] fits = tt
outcomes_told second job (e ∷ es) fits =
    cons_fits (outcome_in job e) (outcomes_of es job) (λ x is. outcome_told second job e x fits.0 is) (outcomes_told second job es fits.1)

-- ---- what is asked

body_fits : (programs : List Program) (tx serial : ℕ) (outcomes : List Outcome) → Every ProgramHasIntegers programs
    → serial < 2 ^ 32 → Every IsOutcome outcomes → HasValue (body_of (map next_of programs) tx serial outcomes)
body_fits [] tx serial outcomes h lt fits = tt
body_fits (p ∷ ps) zero serial outcomes h lt fits = next_fits p serial outcomes h.0 lt fits
body_fits (p ∷ ps) (suc tx) serial outcomes h lt fits = body_fits ps tx serial outcomes h.1 lt fits

pub run_values : (s : Shown) (entries : List Entry) → HasIntegers s → IsScriptRun (workload_of s) entries
    → Values (set_of s) entries
run_values s entries integers run before after (Step job op outcome over tick) whole serial fits =
    subst HasValue (sym (run before after (Step job op outcome over tick) whole))
    (body_fits s.programs job.tx.0 job.serial (outcomes_of before job) (every_all ProgramHasIntegers s.programs integers.programs) serial
    (outcomes_told (is_second (set_of s)) job before fits))
run_values s entries integers run before after (Blocked job op by ceiling tick) whole serial fits =
    subst HasValue (sym (run before after (Blocked job op by ceiling tick) whole))
    (body_fits s.programs job.tx.0 job.serial (outcomes_of before job) (every_all ProgramHasIntegers s.programs integers.programs) serial
    (outcomes_told (is_second (set_of s)) job before fits))
run_values s entries integers run before after other whole serial fits = tt
