-- A run has no more entries than there is room for, so an out of that room never stops.
use Rattle.std.proofs.Common.{◌≡◌, ℕ, ◌+◌, ◌≤◌, Bool, true, false, List, [], take, drop, length, refl, sym, ap, subst, arith, length-append}
use Rattle.std.proofs.lemmas.List.{take-append-drop}
use Rattle.io_edge.specs.Causes.{Rose}
use Rattle.txn_set.specs.Set.{IsCompiled}
use Rattle.step_journal.specs.declared.entry.Entry.{Entry}
use Rattle.law_histories.specs.Counting.{room_of_jobs}
use Rattle.law_histories.specs.Sim.{Workload}
use Rattle.sim_run.specs.Workloads.{ticks_of}
use Rattle.scenario_run.specs.Kept.{Roomed, IsRefused, stops_of}
use Rattle.law_runs.specs.Histories.{IsRunOf}
use Rattle.law_runs.proofs.Fits.{run_fits}
use Rattle.sim_run.specs.declared.fault.RunFault.{RunFault}
use Rattle.sim_run.specs.declared.fault.RunFault.TheVariants.{Writing, Memory}
use Rattle.plant_run.specs.Runs.{IsWholeRun, IsStoppedRun}

-- what an out of so much room got
abbrev pub Kept : ℕ → Roomed → List Entry → Type 0
Kept room out history = (out.room ≡ room) × (out.kept ≡ history)

rose_full : (full : Bool) → Rose 0 (stops_of full) → full ≡ true
rose_full true h = refl
rose_full false h = absurd (omega (arith, h))

take_within : (n : ℕ) (xs : List Entry) → length (take n xs) ≤ length xs
take_within n xs = omega (arith, length-append (take n xs) (drop n xs), ap (λ (l : List Entry). length l) (take-append-drop n xs))

pieces_within : (k n : ℕ) (xs : List Entry) → length (take k xs) + length (take n (drop k xs)) ≤ length xs
pieces_within k n xs = omega (arith, length-append (take k xs) (drop k xs), ap (λ (l : List Entry). length l) (take-append-drop k xs), take_within n (drop k xs))

too_long : (room kept : ℕ) (full : Bool) (out : List Entry) (piece : List Entry) → full ≡ true → length out + length piece ≤ room
    → IsRefused (record { room = room; kept = out; full = full }) piece → ⊥
too_long room kept true out piece e le h = omega (arith, le, h.over)
too_long room kept false out piece e le h = cc

pub never_stops : (w : Workload) (eager_jobs : ℕ → ℕ) (room : ℕ) (out out' : Roomed) → IsCompiled w.set → Kept room out [] → out.full ≡ false
    → room_of_jobs w.set.txns (λ tx. length (ticks_of w.releases tx) + eager_jobs tx) ≤ room
    → IsStoppedRun w eager_jobs (Kept room out) (Kept room out') (IsRefused out') → Rose (stops_of out.full) (stops_of out'.full) → ⊥
never_stops w eager_jobs room out out' ok fresh going le h rose =
    let full : out'.full ≡ true = rose_full out'.full (subst (λ (b : Bool). Rose (stops_of b) (stops_of out'.full)) going rose) in
    let got = h.grown [] fresh in
    let fits : length h.history ≤ room_of_jobs w.set.txns (λ tx. length (ticks_of w.releases tx) + eager_jobs tx) = run_fits w eager_jobs h.history ok h.so_far in
    let same : length out'.kept ≡ length (take h.passed h.history) = ap (λ (l : List Entry). length l) got.1 in
    too_long out'.room 0 out'.full out'.kept (take h.missed (drop h.passed h.history)) full
    (omega (arith, got.0, same, pieces_within h.passed h.missed h.history, fits, le)) h.is_lost

-- what it kept of a whole run
pub kept_run : (w : Workload) (eager_jobs : ℕ → ℕ) (room : ℕ) (stands : List Entry → Type 0) (out out' : Roomed) → Kept room out []
    → IsWholeRun w eager_jobs stands (Kept room out) (Kept room out') → IsRunOf w eager_jobs out'.kept × stands out'.kept
kept_run w eager_jobs room stands out out' fresh h =
    let is : out'.kept ≡ h.history = (h.grown [] fresh).1 in
    (subst (IsRunOf w eager_jobs) (sym is) h.run, subst stands (sym is) h.stood)

pub only_memory : (fault : RunFault) → (fault ≡ Writing → ⊥) → fault ≡ Memory
only_memory Writing h = absurd (h refl)
only_memory Memory h = refl
