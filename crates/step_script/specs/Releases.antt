-- The jobs of a scenario, the ticks of their releases, and the entries of its run.
use Rattle.std.specs.Prelude.{ℕ, ◌+◌, ◌*◌, ◌^◌, nat_lt, Bool, true, false, if◌then◌else◌, List, [], ◌∷◌, length, map, slice_index_or, Option, Some, None, option_map}
use Rattle.std.specs.Option.{option_or}
use Rattle.std.specs.List.{range_with_len}
use Rattle.rt_base.specs.declared.release.PlanRefused.{PlanRefused}
use Rattle.rt_base.specs.declared.release.PlanRefused.TheVariants.{TooSoon, TooFar}
use Rattle.txn_set.specs.declared.decl.TxnDecl.{TxnDecl}
use Rattle.txn_set.specs.Set.{periodic_release}
use Rattle.txn_set.specs.Ceilings.{greatest}
use Rattle.step_script.specs.declared.releases.Releases.{Releases}
use Rattle.step_script.specs.declared.releases.Releases.TheVariants.{At, Jobs, Eager}
use Rattle.step_script.specs.Shown.{Shown}

-- how many jobs there are, eager ones too
abbrev pub jobs_of : Releases → ℕ
jobs_of (At ticks) = length ticks
jobs_of (Jobs n) = n
jobs_of (Eager n) = n

abbrev pub is_eager : Releases → Bool
is_eager (Eager n) = true
is_eager other = false

-- how many eager jobs there are
abbrev pub eager_of : Releases → ℕ
eager_of (Eager n) = n
eager_of other = 0

-- the ticks at which the jobs of a transaction are planned; those of eager jobs are not fixed
abbrev pub ticks_of : TxnDecl → Releases → List ℕ
ticks_of t (At ticks) = ticks
ticks_of t (Jobs n) = map (λ k. periodic_release t k) (range_with_len 0 n)
ticks_of t (Eager n) = []

-- the tick of one of them
abbrev pub release_at : TxnDecl → Releases → ℕ → ℕ
release_at t r index = slice_index_or (ticks_of t r) index 0

-- the releases of a transaction by its place
abbrev pub releases_of : List Releases → ℕ → Releases
releases_of releases tx = slice_index_or releases tx (At [])

-- All jobs.

abbrev pub total_jobs : List Releases → ℕ
total_jobs [] = 0
total_jobs (r ∷ rs) = jobs_of r + total_jobs rs

abbrev pub eager_jobs : List Releases → ℕ
eager_jobs [] = 0
eager_jobs (r ∷ rs) = eager_of r + eager_jobs rs

-- the fixed ticks of each transaction
abbrev pub fixed_ticks : List TxnDecl → List Releases → List (List ℕ)
fixed_ticks [] rs = []
fixed_ticks (t ∷ ts) [] = []
fixed_ticks (t ∷ ts) (r ∷ rs) = ticks_of t r ∷ fixed_ticks ts rs

-- The first release that may not be planned.

-- The first of a transaction's ticks, the first of which has this index, that comes before the earliest one that may be
-- planned, which is a period after the tick before it, or after 2^40.
abbrev pub refused_tick : ℕ → ℕ → ℕ → List ℕ → Option (ℕ × PlanRefused)
refused_tick index earliest period [] = None
refused_tick index earliest period (tick ∷ ticks) =
    if nat_lt tick earliest
    then Some (index, TooSoon earliest)
    else (if nat_lt (2 ^ 40) tick
    then Some (index, TooFar (2 ^ 40))
    else refused_tick (index + 1) (tick + period) period ticks)

-- with its transaction, where the first of these has this number
abbrev pub refused_from : ℕ → List TxnDecl → List Releases → Option (ℕ × ℕ × PlanRefused)
refused_from tx [] rs = None
refused_from tx (t ∷ ts) [] = None
refused_from tx (t ∷ ts) (r ∷ rs) =
    option_or (option_map (λ bad. (tx, bad.0, bad.1)) (refused_tick 0 0 t.period (ticks_of t r)))
    (refused_from (tx + 1) ts rs)

-- the transaction, the index of the release, and why it may not be planned
abbrev pub bad_release : Shown → Option (ℕ × ℕ × PlanRefused)
bad_release s = refused_from 0 s.txns s.releases

-- The room: more entries than a run has.

-- the entries that so many jobs of a transaction of so many steps may have: for each its plan, its steps, one refusal,
-- and one idling that ends at its release
abbrev pub entries_of : ℕ → ℕ → ℕ
entries_of jobs steps = jobs + jobs * (steps + 2)

abbrev pub entries_in : List TxnDecl → List Releases → ℕ
entries_in [] rs = 0
entries_in (t ∷ ts) [] = 0
entries_in (t ∷ ts) (r ∷ rs) = entries_of (jobs_of r) t.steps + entries_in ts rs

abbrev pub room_of : Shown → ℕ
room_of s = entries_in s.txns s.releases + 2

-- The tick by which eager jobs could be planned one period after another, after the last fixed release, where the
-- greatest period of all transactions counts for each.
abbrev pub eager_end : Shown → ℕ
eager_end s =
    greatest (map greatest (fixed_ticks s.txns s.releases))
    + eager_jobs s.releases * greatest (map (λ t. t.period) s.txns)
