-- Jobs, ticks and entries, transaction by transaction.
use Rattle.std.proofs.Common.{◌≡◌, ℕ, ◌+◌, ◌*◌, ◌^◌, ◌<◌, ◌≤◌, Bool, true, false, cond, ltb, max, List, [], ◌∷◌, length, map, get_or, drop, Option, Some, None, refl, sym, ap, ◌∙◌, inl, inr, arith}
use Rattle.std.specs.Option.{option_or, option_map}
use Rattle.std.specs.List.{All}
use Rattle.std.proofs.lemmas.Bool.{ltb-true, ltb-false}
use Rattle.std.proofs.lemmas.List.{drop_all, drop_more}
use Rattle.std.proofs.lemmas.List.Elements.{All-head, All-tail}
use Rattle.std.proofs.lemmas.List.FromFn.{length-map-range_with_len}
use Rattle.std.proofs.Math.Nat.{mul-le-mul_left}
use Rattle.rt_base.specs.declared.release.PlanRefused.{PlanRefused}
use Rattle.rt_base.specs.declared.release.PlanRefused.TheVariants.{TooSoon, TooFar}
use Rattle.txn_set.specs.declared.decl.TxnDecl.{TxnDecl}
use Rattle.txn_set.specs.Set.{periodic_release}
use Rattle.txn_set.specs.Ceilings.{greatest}
use Rattle.step_script.specs.declared.releases.Releases.{Releases}
use Rattle.step_script.specs.declared.releases.Releases.TheVariants.{At, Jobs, Eager}
use Rattle.step_script.specs.Releases.{jobs_of, eager_of, is_eager, ticks_of, total_jobs, eager_jobs, refused_tick, refused_from, fixed_ticks, entries_of, entries_in}
use Rattle.step_script.specs.Scenarios.{HasTextTimes}
use Rattle.step_script.proofs.Counts.{jobs_at}
use Rattle.scenario_reader.specs.Planning.{tick_refusal}

pub few_at : (rs : List Releases) (tx : ℕ) (r : Releases) → tx < length rs → r ≡ get_or rs tx r → total_jobs rs ≤ 65536
    → jobs_of r ≤ 65536
few_at rs tx r lt is few = omega (arith, ap jobs_of is, jobs_at rs tx r lt)

-- eager jobs are among all
eager_below : (r : Releases) → eager_of r ≤ jobs_of r
eager_below (At ticks) = omega arith
eager_below (Jobs n) = omega arith
eager_below (Eager n) = omega arith

pub eager_few : (rs : List Releases) → eager_jobs rs ≤ total_jobs rs
eager_few [] = omega arith
eager_few (r ∷ rs) = omega (arith, eager_below r, eager_few rs)

-- ticks that are fixed, as many as jobs
pub tick_count : (t : TxnDecl) (r : Releases) → is_eager r ≡ false → length (ticks_of t r) ≡ jobs_of r
tick_count t (At ticks) fixed = refl
tick_count t (Jobs n) fixed = length-map-range_with_len (λ k. periodic_release t k) 0 n
tick_count t (Eager n) fixed = absurd cc

-- a tick that is refused, or is not
refused_at : (index earliest period tick : ℕ) (rest : List ℕ) (cause : PlanRefused) (soon far : Bool)
    → cond soon (Some (TooSoon earliest)) (cond far (Some (TooFar (2 ^ 40))) None) ≡ Some cause
    → Some (index, cause) ≡ cond soon (Some (index, TooSoon earliest))
    (cond far (Some (index, TooFar (2 ^ 40))) (refused_tick (index + 1) (tick + period) period rest))
refused_at index earliest period tick rest cause true far is = ap (λ (p : PlanRefused). Some (index, p)) cc
refused_at index earliest period tick rest cause false true is = ap (λ (p : PlanRefused). Some (index, p)) cc
refused_at index earliest period tick rest cause false false is = absurd cc

pub stops_at : (index earliest period tick : ℕ) (rest : List ℕ) (cause : PlanRefused)
    → Some cause ≡ tick_refusal earliest tick
    → Some (index, cause) ≡ refused_tick index earliest period (tick ∷ rest)
stops_at index earliest period tick rest cause is =
    refused_at index earliest period tick rest cause (ltb tick earliest) (ltb (2 ^ 40) tick) (sym is)

pub refused_end : (index earliest period : ℕ) (ticks : List ℕ) → length ticks ≤ index
    → refused_tick index earliest period (drop index ticks) ≡ None
refused_end index earliest period ticks le = ap (refused_tick index earliest period) (drop_all index ticks le)

pub greatest_end : (last index : ℕ) (ticks : List ℕ) → length ticks ≤ index
    → max last (greatest (drop index ticks)) ≡ last
greatest_end last index ticks le = ap (λ (xs : List ℕ). max last (greatest xs)) (drop_all index ticks le)
    ∙ omega arith

-- the entries of all jobs

entries_below : (jobs steps : ℕ) → steps ≤ 2 ^ 40 → entries_of jobs steps ≤ jobs * (2 ^ 40 + 3)
entries_below jobs steps le =
    let more : steps + 2 ≤ 2 ^ 40 + 2 = omega arith in
    omega (arith, mul-le-mul_left jobs more)

pub entries_few : (ts : List TxnDecl) (rs : List Releases) → All HasTextTimes ts
    → entries_in ts rs ≤ total_jobs rs * (2 ^ 40 + 3)
entries_few [] rs times = omega arith
entries_few (t ∷ ts) [] times = omega arith
entries_few (t ∷ ts) (r ∷ rs) times =
    omega (
      arith,
      entries_below (jobs_of r) t.steps (All-head HasTextTimes t ts times).steps,
      entries_few ts rs (All-tail HasTextTimes t ts times),
    )

-- the last tick, where no release is refused

near_at : (index earliest period tick : ℕ) (ticks : List ℕ) (soon far : Bool) → ltb (2 ^ 40) tick ≡ far
    → (refused_tick (index + 1) (tick + period) period ticks ≡ None → greatest ticks ≤ 2 ^ 40)
    → cond soon (Some (index, TooSoon earliest))
    (cond far (Some (index, TooFar (2 ^ 40))) (refused_tick (index + 1) (tick + period) period ticks)) ≡ None
    → greatest (tick ∷ ticks) ≤ 2 ^ 40
near_at index earliest period tick ticks true far is later none = absurd cc
near_at index earliest period tick ticks false true is later none = absurd cc
near_at index earliest period tick ticks false false is later none = omega (arith, ltb-false _ _ is, later none)

ticks_near : (index earliest period : ℕ) (ticks : List ℕ) → refused_tick index earliest period ticks ≡ None
    → greatest ticks ≤ 2 ^ 40
ticks_near index earliest period [] none = omega arith
ticks_near index earliest period (tick ∷ ticks) none =
    near_at index earliest period tick ticks (ltb tick earliest) (ltb (2 ^ 40) tick) refl
    (λ rest. ticks_near (index + 1) (tick + period) period ticks rest) none

or_none : {A : Type 0} (a b : Option A) → option_or a b ≡ None → (a ≡ None) × (b ≡ None)
or_none None b none = (refl, none)
or_none (Some x) b none = absurd cc

map_none : {A B : Type 0} (f : A → B) (a : Option A) → option_map f a ≡ None → a ≡ None
map_none f None none = refl
map_none f (Some x) none = absurd cc

pub fixed_near : (tx : ℕ) (ts : List TxnDecl) (rs : List Releases) → refused_from tx ts rs ≡ None
    → greatest (map greatest (fixed_ticks ts rs)) ≤ 2 ^ 40
fixed_near tx [] rs none = omega arith
fixed_near tx (t ∷ ts) [] none = omega arith
fixed_near tx (t ∷ ts) (r ∷ rs) none =
    let parts = or_none _ _ none in
    omega (arith, ticks_near 0 0 t.period (ticks_of t r) (map_none _ _ parts.0), fixed_near (tx + 1) ts rs parts.1)

-- one more transaction

pub eager_more : (rs : List Releases) (i : ℕ) (r : Releases) → i < length rs → r ≡ get_or rs i r
    → eager_jobs (drop i rs) ≡ eager_of r + eager_jobs (drop (i + 1) rs)
eager_more rs i r lt is =
    ap eager_jobs (drop_more rs i r lt ∙ ap (λ (x : Releases). x ∷ drop (i + 1) rs) (sym is))

pub entries_more : (ts : List TxnDecl) (rs : List Releases) (i : ℕ) (t : TxnDecl) (r : Releases) → i < length ts
    → i < length rs → t ≡ get_or ts i t → r ≡ get_or rs i r
    → entries_in (drop i ts) (drop i rs)
    ≡ entries_of (jobs_of r) t.steps + entries_in (drop (i + 1) ts) (drop (i + 1) rs)
entries_more ts rs i t r lt also is is_r =
    ap (λ (xs : List TxnDecl). entries_in xs (drop i rs))
    (drop_more ts i t lt ∙ ap (λ (x : TxnDecl). x ∷ drop (i + 1) ts) (sym is))
    ∙ ap (entries_in (t ∷ drop (i + 1) ts))
    (drop_more rs i r also ∙ ap (λ (x : Releases). x ∷ drop (i + 1) rs) (sym is_r))

pub product_below : (n period : ℕ) → n ≤ 65536 → period ≤ 2 ^ 40 → n * period ≤ 65536 * 2 ^ 40
product_below n period few le = omega (arith, mul-le-mul_left n le)
