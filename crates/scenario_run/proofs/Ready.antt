-- What a scenario declares can be run, and what its run leaves.
use Rattle.std.proofs.Common.{◌≡◌, ℕ, ◌+◌, ◌<◌, ◌≤◌, Bool, List, [], ◌∷◌, map, refl, ap, sym, subst, ◌∙◌, length, arith}
use Rattle.std.proofs.lemmas.List.{length-map}
use Rattle.rt_base.specs.declared.name.Names.{Names}
use Rattle.step_script.specs.declared.script.Script.{Script}
use Rattle.step_script.specs.Scripts.{Program, program_of, next_of}
use Rattle.txn_set.specs.Set.{Set, IsCompiled}
use Rattle.law_histories.specs.Counting.{room_of_jobs}
use Rattle.law_histories.specs.Sim.{Body, Workload}
use Rattle.sim_run.specs.Workloads.{workload, ticks_of, AreAccepted, IsObedient}
use Rattle.step_script.specs.declared.releases.Releases.{Releases}
use Rattle.step_script.specs.Shown.{set_of}
use Rattle.step_script.specs.Releases.{eager_of, fixed_ticks}
use Rattle.std.specs.List.{sum}
use Rattle.law_runs.specs.Plannable.{ArePlannable, total_eager_jobs, eager_jobs_of}
use Rattle.law_runs.proofs.Scenario.{plannable, eager_alone}
use Rattle.law_runs.proofs.Fits.{scenario_room}
use Rattle.law_runs.specs.Runs.{workload_of}
use Rattle.law_runs.proofs.Obeys.{obeys}
use Rattle.law_runs.proofs.Accepted.{accepted}
use Rattle.scenario_run.specs.Eager.{IsRunTextBy}
use Rattle.plant_run.specs.Runs.{eager_jobs_at}
use Rattle.scenario_run.specs.Runs.{Declares, IsReady, asked_by, functions_of}
use Rattle.scenario_run.proofs.Owned.{own_is, eager_total}

pub functions_same : (scripts : List Script) → functions_of scripts ≡ map next_of (map program_of scripts)
functions_same [] = refl
functions_same (s ∷ scripts) = ap (λ (l : List Body). asked_by s ∷ l) (functions_same scripts)

-- what holds of a workload and its eager jobs holds of equal ones
pub moved : (P : Workload → (ℕ → ℕ) → Type 0) (set set' : Set) (bodies bodies' : List Body) (ticks ticks' : List (List ℕ)) (eager_jobs eager_jobs' : ℕ → ℕ) → set ≡ set' → bodies ≡ bodies' → ticks ≡ ticks' → eager_jobs ≡ eager_jobs'
    → P (workload set bodies ticks) eager_jobs → P (workload set' bodies' ticks') eager_jobs'
moved P set set' bodies bodies' ticks ticks' eager_jobs eager_jobs' e f g k h =
    subst (λ (s : Set). P (workload s bodies' ticks') eager_jobs') e (subst (λ (l : List Body). P (workload set l ticks') eager_jobs') f
    (subst (λ (t : List (List ℕ)). P (workload set bodies t) eager_jobs') g (subst (λ (o : ℕ → ℕ). P (workload set bodies ticks) o) k h)))

-- the workload of what a scenario declares is the scenario's
pub ticks_same : (set : Set) (scripts : List Script) (releases : List Releases) (d : Declares set scripts releases) (ticks : List (List ℕ)) → ticks ≡ fixed_ticks set.txns releases
    → ticks ≡ fixed_ticks d.scenario.txns d.scenario.releases
ticks_same set scripts releases d ticks e =
    e ∙ (ap (λ (s : Set). fixed_ticks s.txns releases) d.set_is ∙ ap (fixed_ticks d.scenario.txns) d.releases_are)

pub eager_jobs_same : (set : Set) (scripts : List Script) (releases : List Releases) (d : Declares set scripts releases) (eager_jobs : List ℕ) → eager_jobs ≡ map eager_of releases → eager_jobs_at eager_jobs ≡ eager_jobs_of d.scenario
eager_jobs_same set scripts releases d eager_jobs e = own_is d.scenario eager_jobs (e ∙ ap (map eager_of) d.releases_are)

-- what holds of a scenario's workload and eager jobs holds of what it declares, and the other way round
pub declared : (P : Workload → (ℕ → ℕ) → Type 0) (set : Set) (scripts : List Script) (releases : List Releases) (d : Declares set scripts releases)
    → (scripts' : List Script) (ticks : List (List ℕ)) (eager_jobs : List ℕ) → scripts' ≡ scripts → ticks ≡ fixed_ticks set.txns releases → eager_jobs ≡ map eager_of releases
    → P (workload_of d.scenario) (eager_jobs_of d.scenario) → P (workload set (functions_of scripts') ticks) (eager_jobs_at eager_jobs)
declared P set scripts releases d scripts' ticks eager_jobs e f g h =
    let s = d.scenario in
    let functions : map next_of s.programs ≡ functions_of scripts' = ap (map next_of) (sym d.programs_are) ∙ (sym (functions_same scripts) ∙ sym (ap functions_of e)) in
    moved P (set_of s) set (map next_of s.programs) (functions_of scripts') (fixed_ticks s.txns s.releases) ticks (eager_jobs_of s) (eager_jobs_at eager_jobs)
    (sym d.set_is) functions (sym (ticks_same set scripts releases d ticks f)) (sym (eager_jobs_same set scripts releases d eager_jobs g)) h

pub of_scenario : (P : Workload → (ℕ → ℕ) → Type 0) (set : Set) (scripts : List Script) (releases : List Releases) (d : Declares set scripts releases)
    → (scripts' : List Script) (ticks : List (List ℕ)) (eager_jobs : List ℕ) → scripts' ≡ scripts → ticks ≡ fixed_ticks set.txns releases → eager_jobs ≡ map eager_of releases
    → P (workload set (functions_of scripts') ticks) (eager_jobs_at eager_jobs) → P (workload_of d.scenario) (eager_jobs_of d.scenario)
of_scenario P set scripts releases d scripts' ticks eager_jobs e f g h =
    let s = d.scenario in
    moved P set (set_of s) (functions_of scripts') (map next_of s.programs) ticks (fixed_ticks s.txns s.releases) (eager_jobs_at eager_jobs) (eager_jobs_of s)
    d.set_is (ap functions_of e ∙ (functions_same scripts ∙ ap (map next_of) d.programs_are)) (ticks_same set scripts releases d ticks f) (eager_jobs_same set scripts releases d eager_jobs g) h

-- what the releases say of each transaction
abbrev EagerAlone : Workload → (ℕ → ℕ) → Type 0
EagerAlone w eager_jobs = (tx : ℕ) → 0 < eager_jobs tx → ticks_of w.releases tx ≡ []

abbrev AcceptedBy : Workload → (ℕ → ℕ) → Type 0
AcceptedBy w eager_jobs = AreAccepted w.set w.releases

abbrev pub ObedientBy : Workload → (ℕ → ℕ) → Type 0
ObedientBy w eager_jobs = IsObedient w

pub ready : (set : Set) (scripts : List Script) (releases : List Releases) → IsCompiled set → (d : Declares set scripts releases)
    → (scripts' : List Script) (ticks : List (List ℕ)) (eager_jobs : List ℕ) → scripts' ≡ scripts → ticks ≡ fixed_ticks set.txns releases → eager_jobs ≡ map eager_of releases → IsReady set scripts' ticks eager_jobs
ready set scripts releases ok d scripts' ticks eager_jobs e f g =
    let s = d.scenario in
    let compiled : IsCompiled (set_of s) = subst IsCompiled d.set_is ok in
    let txns : length s.txns ≡ length set.txns = sym (ap (λ (q : Set). length q.txns) d.set_is) in
    let many : length scripts ≡ length set.txns = sym (length-map scripts program_of) ∙ (ap (λ (ps : List Program). length ps) d.programs_are ∙ (d.is.scripted ∙ txns)) in
    let released : length releases ≡ length set.txns = ap (λ (rs : List Releases). length rs) d.releases_are ∙ (d.is.released ∙ txns) in
    record {
      scripts_each = ap (λ (l : List Script). length l) e ∙ many;
      eager_jobs_each = ap (λ (l : List ℕ). length l) g ∙ (length-map releases eager_of ∙ released);
      accepted = declared AcceptedBy set scripts releases d scripts' ticks eager_jobs e f g (accepted s d.is);
      obedient = declared ObedientBy set scripts releases d scripts' ticks eager_jobs e f g (obeys s d.is compiled);
      eager = declared EagerAlone set scripts releases d scripts' ticks eager_jobs e f g (eager_alone s);
      plannable = declared ArePlannable set scripts releases d scripts' ticks eager_jobs e f g (plannable s d.is);
    }

-- the room of a scenario is enough for the entries of what it declares
abbrev HasRoom : ℕ → Workload → (ℕ → ℕ) → Type 0
HasRoom room w eager_jobs = room_of_jobs w.set.txns (λ tx. length (ticks_of w.releases tx) + eager_jobs tx) ≤ room

pub room_is : (set : Set) (scripts : List Script) (releases : List Releases) (d : Declares set scripts releases)
    → (scripts' : List Script) (ticks : List (List ℕ)) (eager_jobs : List ℕ) → scripts' ≡ scripts → ticks ≡ fixed_ticks set.txns releases → eager_jobs ≡ map eager_of releases
    → room_of_jobs set.txns (λ tx. length (ticks_of ticks tx) + eager_jobs_at eager_jobs tx) ≤ d.scenario.room
room_is set scripts releases d scripts' ticks eager_jobs e f g =
    let s = d.scenario in
    let enough : HasRoom s.room (workload_of s) (eager_jobs_of s) = let below = scenario_room s d.is in omega (arith, below) in
    declared (HasRoom s.room) set scripts releases d scripts' ticks eager_jobs e f g enough

-- how many jobs there are
pub places_for : (set : Set) (ticks ticks' : List (List ℕ)) (eager_jobs eager_jobs' : List ℕ) (jobs room : ℕ) → ticks' ≡ ticks → eager_jobs' ≡ eager_jobs → length eager_jobs' ≡ length set.txns
    → jobs ≡ sum (map (λ l. length l) ticks) + sum eager_jobs → room ≡ jobs → sum (map (λ l. length l) ticks') + total_eager_jobs set (eager_jobs_at eager_jobs') ≤ room
places_for set ticks ticks' eager_jobs eager_jobs' jobs room e f same all enough =
    let fixed : sum (map (λ l. length l) ticks') ≡ sum (map (λ l. length l) ticks) = ap (λ (t : List (List ℕ)). sum (map (λ l. length l) t)) e in
    let mine : total_eager_jobs set (eager_jobs_at eager_jobs') ≡ sum eager_jobs = eager_total set eager_jobs' same ∙ ap sum f in
    omega (arith, fixed, mine, all, enough)

pub eager_jobs_few : (set : Set) (scripts : List Script) (ticks : List (List ℕ)) (eager_jobs : List ℕ) → IsReady set scripts ticks eager_jobs → sum eager_jobs ≤ 65536
eager_jobs_few set scripts ticks eager_jobs r =
    let few = r.plannable.few in
    omega (arith, few, eager_total set eager_jobs r.eager_jobs_each)

-- the text of what a scenario declares is that of its workload
pub text_of : (names : Names) (admitted : Bool) (set : Set) (scripts : List Script) (releases : List Releases) (d : Declares set scripts releases)
    → (scripts' : List Script) (ticks : List (List ℕ)) (eager_jobs : List ℕ) (text : List ℕ) → scripts' ≡ scripts → ticks ≡ fixed_ticks set.txns releases → eager_jobs ≡ map eager_of releases
    → IsRunTextBy names admitted (workload set (functions_of scripts') ticks) (eager_jobs_at eager_jobs) text → IsRunTextBy names admitted (workload_of d.scenario) (eager_jobs_of d.scenario) text
text_of names admitted set scripts releases d scripts' ticks eager_jobs text e f g h =
    of_scenario (λ w o. IsRunTextBy names admitted w o text) set scripts releases d scripts' ticks eager_jobs e f g h

-- the text by names that are the same
pub text_as : (names names' : Names) (admitted admitted' : Bool) (w : Workload) (eager_jobs : ℕ → ℕ) (text : List ℕ) → names ≡ names' → admitted ≡ admitted'
    → IsRunTextBy names admitted w eager_jobs text → IsRunTextBy names' admitted' w eager_jobs text
text_as names names' admitted admitted' w eager_jobs text e f h =
    subst (λ (n : Names). IsRunTextBy n admitted' w eager_jobs text) e (subst (λ (b : Bool). IsRunTextBy names b w eager_jobs text) f h)
