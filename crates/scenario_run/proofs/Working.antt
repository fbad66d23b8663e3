-- What the out of a run by workers has got, however the run ends.
use Rattle.std.proofs.Common.{◌≡◌, ◌≢◌, ℕ, ◌+◌, ◌≤◌, List, [], map, length, Result, Ok, Err, IfOk, OnErr, refl}
use Rattle.std.specs.Prelude.{IsErrOf}
use Rattle.std.specs.List.{sum}
use Rattle.io_edge.specs.Causes.{Rose}
use Rattle.step_journal.specs.declared.entry.Entry.{Entry}
use Rattle.law_histories.specs.Sim.{Workload}
use Rattle.scenario_run.specs.declared.standing.ReportStanding.{ReportStanding}
use Rattle.scenario_run.specs.declared.standing.ReportStanding.TheVariants.{Going, Full}
use Rattle.scenario_run.specs.ReportOuts.{Begun, OutSeen, IsLost, full_stops}
use Rattle.sim_run.specs.declared.fault.RunFault.{RunFault}
use Rattle.sim_run.specs.declared.fault.RunFault.TheVariants.{Writing, Memory}
use Rattle.plant_run.specs.Runs.{IsCutShort}
use Rattle.scenario_run.specs.Lines.{HasFirstLines}
use Rattle.scenario_run.proofs.Handing.{Got, first_lines, sink_cause}

-- a run that wanted memory
pub short_lines : (begun : Begun) (w : Workload) (out : OutSeen) → begun.set ≡ w.set → (got : List Entry → Type 0) (sink : ℕ)
    → sum (map length w.releases) ≤ begun.room → got [] → (h : IsCutShort w got (Got begun sink out) (IsLost begun out))
    → (out.standing ≢ Full) × HasFirstLines w begun.names begun.front out.taken
short_lines begun w out set got sink places at h = first_lines begun w out set h.history h.passed 0 h.sim places (h.grown [] at).1 h.none_lost

-- stops are faults of the sink where the out is not full

pub rose_as : (old new : ReportStanding) (before now : ℕ) → old ≡ Going → new ≢ Full → Rose (before + full_stops old) (now + full_stops new) → before + full_stops old ≤ now + full_stops new
    → Rose before now
rose_as old new before now e not rose later =
    let r : Result (Unit {0}) (Unit {0}) = Err tt in
    (sink_cause old new before now r e tt not (record { later = later; failed = rose })).failed

pub later_as : (old new : ReportStanding) (before now : ℕ) → old ≡ Going → new ≢ Full → before + full_stops old ≤ now + full_stops new → before ≤ now
later_as old new before now e not later =
    let r : Result (Unit {0}) (Unit {0}) = Ok tt in
    (sink_cause old new before now r e not tt (record { later = later; failed = tt })).later

-- by the answer

pub any : {B P : Type 0} (r : Result B RunFault) → IfOk r (λ _. P) → (IsErrOf r Writing → P) → (IsErrOf r Memory → P) → P
any (Ok b) ok s m = ok
any (Err Writing) ok s m = s refl
any (Err Memory) ok s m = m refl

pub any_err : {B P : Type 0} (r : Result B RunFault) → (IsErrOf r Writing → P) → (IsErrOf r Memory → P) → OnErr r P
any_err (Ok b) s m = tt
any_err (Err Writing) s m = s refl
any_err (Err Memory) s m = m refl

pub map_ok : {B Q : Type 0} {P : B → Type 0} (r : Result B RunFault) → ((b : B) → P b → Q) → IfOk r P → IfOk r (λ _. Q)
map_ok (Ok b) f h = f b h
map_ok (Err e) f h = tt

pub both_ok : {B L : Type 0} {P Q : B → Type 0} (r : Result B RunFault) → ((b : B) → P b → L → Q b) → IfOk r P → IfOk r (λ _. L) → IfOk r Q
both_ok (Ok b) f h l = f b h l
both_ok (Err e) f h l = tt
