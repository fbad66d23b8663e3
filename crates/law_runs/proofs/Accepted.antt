-- The fixed releases of a scenario can be planned, and its room is enough for them.
use Rattle.std.proofs.Common.{◌≡◌, ℕ, zero, suc, ◌+◌, ◌*◌, ◌^◌, ◌<◌, ◌≤◌, Bool, true, false, cond, List, [], ◌∷◌, map, Option, None, Some, refl, ap, ◌∙◌, length, arith, mul-le-mul_right, mul-one, mul-add}
use Rattle.std.specs.Prelude.{nat_lt, slice_index_or, option_map}
use Rattle.std.specs.Option.{option_or}
use Rattle.std.specs.List.{sum, range_with_len}
use Rattle.std.proofs.lemmas.Bool.{ltb-false}
use Rattle.std.proofs.lemmas.List.FromFn.{length-map-range_with_len}
use Rattle.std.proofs.lemmas.List.Sums.{sum_by-cons}
use Rattle.rt_base.specs.declared.release.PlanRefused.{PlanRefused}
use Rattle.rt_base.specs.declared.release.PlanRefused.TheVariants.{TooSoon, TooFar}
use Rattle.txn_set.specs.declared.decl.TxnDecl.{TxnDecl}
use Rattle.txn_set.specs.Set.{no_txn, periodic_release, txn_of}
use Rattle.law_histories.specs.Counting.{room_of_jobs}
use Rattle.sim_run.specs.Workloads.{AreSpaced, AreAccepted}
use Rattle.sim_run.specs.Workloads as runs
use Rattle.step_script.specs.declared.releases.Releases.{Releases}
use Rattle.step_script.specs.declared.releases.Releases.TheVariants.{At, Jobs, Eager}
use Rattle.step_script.specs.Shown.{Shown, set_of}
use Rattle.step_script.specs.Releases.{jobs_of, ticks_of, total_jobs, fixed_ticks, refused_tick, refused_from, entries_of, entries_in}
use Rattle.step_script.specs.Scenarios.{IsScenario}

-- where no tick is refused, they are spaced

spaced_at : (index earliest period tick : ℕ) (ticks : List ℕ) (b c : Bool) → nat_lt tick earliest ≡ b → nat_lt (2 ^ 40) tick ≡ c
    → cond b (Some (index, TooSoon earliest)) (cond c (Some (index, TooFar (2 ^ 40))) (refused_tick (index + 1) (tick + period) period ticks)) ≡ None
    → (refused_tick (index + 1) (tick + period) period ticks ≡ None → AreSpaced period (tick + period) ticks) → AreSpaced period earliest (tick ∷ ticks)
spaced_at index earliest period tick ticks true c soon far h rest = absurd cc
spaced_at index earliest period tick ticks false true soon far h rest = absurd cc
spaced_at index earliest period tick ticks false false soon far h rest = (ltb-false tick earliest soon, ltb-false (2 ^ 40) tick far, rest h)

spaced : (index earliest period : ℕ) (ticks : List ℕ) → refused_tick index earliest period ticks ≡ None → AreSpaced period earliest ticks
spaced index earliest period [] h = tt
spaced index earliest period (tick ∷ ticks) h =
    spaced_at index earliest period tick ticks (nat_lt tick earliest) (nat_lt (2 ^ 40) tick) refl refl h (λ k. spaced (index + 1) (tick + period) period ticks k)

none_left : (a : Option (ℕ × PlanRefused)) (tx : ℕ) (rest : Option (ℕ × ℕ × PlanRefused)) → option_or (option_map (λ bad. (tx, bad.0, bad.1)) a) rest ≡ None → (a ≡ None) × (rest ≡ None)
none_left None tx rest h = (refl, h)
none_left (Some bad) tx rest h = absurd cc

spaced_all : (k : ℕ) (ts : List TxnDecl) (rs : List Releases) (n : ℕ) → refused_from k ts rs ≡ None → n < length ts → length rs ≡ length ts
    → AreSpaced (slice_index_or ts n no_txn).period 0 (slice_index_or (fixed_ticks ts rs) n [])
spaced_all k [] rs n h lt same = absurd (omega (arith, lt))
spaced_all k (t ∷ ts) [] n h lt same = absurd (omega (arith, same))
spaced_all k (t ∷ ts) (r ∷ rs) zero h lt same = spaced 0 0 t.period (ticks_of t r) (none_left (refused_tick 0 0 t.period (ticks_of t r)) k (refused_from (k + 1) ts rs) h).0
spaced_all k (t ∷ ts) (r ∷ rs) (suc n) h lt same =
    spaced_all (k + 1) ts rs n (none_left (refused_tick 0 0 t.period (ticks_of t r)) k (refused_from (k + 1) ts rs) h).1 (omega (arith, lt)) (omega (arith, same))

-- there are as many lists of ticks as transactions, and no more ticks than jobs

one_each : (ts : List TxnDecl) (rs : List Releases) → length rs ≡ length ts → length (fixed_ticks ts rs) ≡ length ts
one_each [] rs same = refl
one_each (t ∷ ts) [] same = absurd (omega (arith, same))
one_each (t ∷ ts) (r ∷ rs) same = omega (arith, one_each ts rs (omega (arith, same)))

few : (t : TxnDecl) (r : Releases) → length (ticks_of t r) ≤ jobs_of r
few t (At ticks) = omega arith
few t (Jobs n) = omega (arith, length-map-range_with_len (λ k. periodic_release t k) 0 n)
few t (Eager n) = omega arith

few_all : (ts : List TxnDecl) (rs : List Releases) → sum (map (λ l. length l) (fixed_ticks ts rs)) ≤ total_jobs rs
few_all [] rs = omega arith
few_all (t ∷ ts) [] = omega arith
few_all (t ∷ ts) (r ∷ rs) = omega (arith, few t r, few_all ts rs, sum_by-cons (λ (n : ℕ). n) (length (ticks_of t r)) (map (λ (l : List ℕ). length l) (fixed_ticks ts rs)))

pub accepted : (s : Shown) → IsScenario s → AreAccepted (set_of s) (fixed_ticks s.txns s.releases)
accepted s is = record {
  each = one_each s.txns s.releases is.released;
  spaced = λ tx inside. spaced_all 0 s.txns s.releases tx is.planned inside is.released;
  few = omega (arith, few_all s.txns s.releases, is.few_jobs);
}

-- the room

more_jobs : (a b steps : ℕ) → a ≤ b → a * (steps + 3) ≤ entries_of b steps
more_jobs a b steps h = omega (arith, mul-le-mul_right (steps + 3) h, mul-add b (steps + 2) 1, mul-one b)

enough : (ts : List TxnDecl) (rs : List Releases) (jobs : ℕ → ℕ) → length rs ≡ length ts → ((n : ℕ) → jobs n ≡ length (slice_index_or (fixed_ticks ts rs) n [])) → room_of_jobs ts jobs ≤ entries_in ts rs
enough [] rs jobs same is = omega arith
enough (t ∷ ts) [] jobs same is = absurd (omega (arith, same))
enough (t ∷ ts) (r ∷ rs) jobs same is =
    omega (arith, more_jobs (jobs 0) (jobs_of r) t.steps (omega (arith, is 0, few t r)), enough ts rs (λ n. jobs (suc n)) (omega (arith, same)) (λ n. is (suc n)))

pub room_enough : (s : Shown) → IsScenario s → room_of_jobs s.txns (λ tx. length (runs.ticks_of (fixed_ticks s.txns s.releases) tx)) ≤ s.room
room_enough s is =
    let room = is.room in
    omega (arith, room, enough s.txns s.releases (λ tx. length (runs.ticks_of (fixed_ticks s.txns s.releases) tx)) is.released (λ n. refl))
