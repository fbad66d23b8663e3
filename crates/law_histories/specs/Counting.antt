-- How many entries a legal history has, and how far its time goes.
use Rattle.std.specs.Prelude.{◌≡◌, ℕ, suc, ◌+◌, ◌*◌, ◌^◌, ◌<◌, ◌≤◌, ◌==◌, if◌then◌else◌, List, [], ◌∷◌, ◌++◌, map, length, Some, slice_get}
use Rattle.std.specs.List.{filter}
use Rattle.rt_base.specs.declared.ids.JobId.{JobId}
use Rattle.rt_base.specs.declared.release.Release.{Release}
use Rattle.txn_set.specs.declared.decl.TxnDecl.{TxnDecl}
use Rattle.step_journal.specs.declared.entry.Entry.{Entry}
use Rattle.step_journal.specs.declared.entry.Entry.TheVariants.{Planned, Blocked, Idle}
use Rattle.txn_set.specs.Set.{Set, txn_of, IsCompiled}
use Rattle.txn_set.specs.Ceilings.{greatest}
use Rattle.step_journal.specs.State.{State, same_job, pending, new_row, opening}
use Rattle.step_journal.specs.Running.{job_row}
use Rattle.step_journal.specs.Step.{plans_of, next_job}
use Rattle.step_journal.specs.History.{state_after, IsLegal, state_of}
use Rattle.step_journal.specs.Serial.{ops_of}

-- the entries that the job of a plan may have: its plan, its steps, one refusal, and the idling before its release
abbrev pub room_in : Set → Entry → ℕ
room_in set (Planned tx tick) = (txn_of set tx.0).steps + 3
room_in set other = 0

abbrev pub planned_room : Set → List Entry → ℕ
planned_room set [] = 0
planned_room set (e ∷ es) = room_in set e + planned_room set es

-- how many jobs of a transaction were planned
abbrev pub plans_in : ℕ → Entry → ℕ
plans_in n (Planned tx tick) = if n == tx.0 then 1 else 0
plans_in n other = 0

abbrev pub plan_count : List Entry → ℕ → ℕ
plan_count [] n = 0
plan_count (e ∷ es) n = plans_in n e + plan_count es n

-- how often a job was planned: a plan is of the next job of its transaction
abbrev pub planned_by : JobId → State → Entry → ℕ
planned_by job s (Planned tx tick) = if same_job job (next_job s tx.0) then 1 else 0
planned_by job s other = 0

abbrev pub planned_times : Set → State → List Entry → JobId → ℕ
planned_times set s [] job = 0
planned_times set s (e ∷ es) job = planned_by job s e + planned_times set (state_after set s e) es job

-- the room of so many jobs of each transaction, where a transaction goes by its number in the list
abbrev pub room_of_jobs : List TxnDecl → (ℕ → ℕ) → ℕ
room_of_jobs [] jobs = 0
room_of_jobs (t ∷ ts) jobs = jobs 0 * (t.steps + 3) + room_of_jobs ts (λ n. jobs (suc n))

-- how often a job was refused
abbrev pub refusals_in : JobId → Entry → ℕ
refusals_in job (Blocked by op on ceiling tick) = if same_job job by then 1 else 0
refusals_in job other = 0

abbrev pub refusal_count : List Entry → JobId → ℕ
refusal_count [] job = 0
refusal_count (e ∷ es) job = refusals_in job e + refusal_count es job

-- the tick of a plan, and the greatest of all plans
abbrev pub tick_in : Entry → ℕ
tick_in (Planned tx tick) = tick
tick_in other = 0

abbrev pub greatest_planned : List Entry → ℕ
greatest_planned entries = greatest (map tick_in entries)

abbrev pub greatest_period : Set → ℕ
greatest_period set = greatest (map (λ t. t.period) set.txns)

-- Nothing was pending before an idling, and a job is after it, by a release that was planned for the tick at which it ends.
pub record ReleasesAJob (set : Set) (before : List Entry) (from to : ℕ) : Type 0 where
  pub nothing : pending (state_of set before).rows ≡ []
  pub place : ℕ
  pub release : Release
  pub planned : slice_get (state_of set before).planned place ≡ Some release
  pub due : release.tick ≡ to
  pub is_pending : job_row (state_of set (before ++ Idle from to ∷ [])).rows release.job ≡ Some (new_row release.job to)

-- The entries are few: each job has one plan, at most its steps and one refusal, and each idling releases a job.
-- No more jobs of a transaction end than were planned.
pub record IsCounted (set : Set) (entries : List Entry) : Type 0 where
  pub plans : (job : JobId) → planned_times set (opening set) entries job ≤ 1
  pub steps : (job : JobId) → length (ops_of entries job) ≤ (txn_of set job.tx.0).steps
  pub refusals : (job : JobId) → refusal_count entries job ≤ 1
  pub idles :
      (before after : List Entry) (from to : ℕ) → entries ≡ before ++ Idle from to ∷ after
      → ReleasesAJob set before from to
  pub room : length entries ≤ planned_room set entries
  pub jobs :
      (jobs : ℕ → ℕ) → ((n : ℕ) → n < length set.txns → plan_count entries n ≤ jobs n)
      → length entries ≤ room_of_jobs set.txns jobs
  pub all : length entries < 2 ^ 42
  pub planned : (n : ℕ) → plan_count entries n < 2 ^ 32
  pub ended : (n : ℕ) → length (filter (λ e. e.job.tx.0 == n) (state_of set entries).ended) ≤ plan_count entries n

-- the time goes at most a period beyond the last planned tick
pub record IsTimed (set : Set) (entries : List Entry) : Type 0 where
  pub plans : (n : ℕ) → plan_count entries n ≡ (plans_of (state_of set entries) n).number
  pub last : (n : ℕ) → (plans_of (state_of set entries) n).last ≤ greatest_planned entries
  pub planned : greatest_planned entries ≤ 2 ^ 40
  pub now : (state_of set entries).now ≤ greatest_planned entries + greatest_period set
  pub all : (state_of set entries).now ≤ 2 ^ 40 + 2 ^ 30

abbrev pub EntriesAreFew : Type 0
EntriesAreFew =
    (set : Set) (entries : List Entry) → IsCompiled set → IsLegal set entries → IsCounted set entries

abbrev pub TimeIsBounded : Type 0
TimeIsBounded =
    (set : Set) (entries : List Entry) → IsCompiled set → IsLegal set entries → IsTimed set entries
