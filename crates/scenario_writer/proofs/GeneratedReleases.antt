-- The releases of a generated scenario.
use Rattle.std.proofs.Common.{◌≡◌, ℕ, zero, suc, ◌+◌, ◌-◌, ◌≤◌, ◌^◌, ◌*◌, max, List, map, Bool, false, cond, Option, Some, None, option_map, refl, ap, ◌∙◌, arith}
use Rattle.std.specs.List.{range_with_len}
use Rattle.std.specs.Option.{option_or}
use Rattle.std.specs.Prelude.{nat_lt}
use Rattle.std.proofs.lemmas.Bool.{le-ltb}
use Rattle.std.proofs.Math.Nat.{add-mul, mul-le-mul_left, mul-le-mul_right}
use Rattle.rt_base.specs.declared.release.PlanRefused.{PlanRefused}
use Rattle.rt_base.specs.declared.release.PlanRefused.TheVariants.{TooSoon, TooFar}
use Rattle.txn_set.specs.declared.decl.TxnDecl.{TxnDecl}
use Rattle.txn_set.specs.Set.{periodic_release}
use Rattle.txn_set.specs.Ceilings.{greatest}
use Rattle.step_script.specs.declared.releases.Releases.TheVariants.{Jobs}
use Rattle.step_script.specs.Releases.{total_jobs, eager_jobs, fixed_ticks, ticks_of, refused_tick, refused_from, entries_in}
use Rattle.scenario_writer.specs.Generated.{each, txn_decl, releases_each, jobs_each, period_of}

-- ticks a period apart are planned
abbrev ticks_from : TxnDecl → ℕ → ℕ → List ℕ
ticks_from t a m = map (λ k. periodic_release t k) (range_with_len a m)

not_refused : (soon far : Bool) (x y : ℕ × PlanRefused) (o : Option (ℕ × PlanRefused)) → soon ≡ false → far ≡ false
    → o ≡ None
    → cond soon (Some x) (cond far (Some y) o) ≡ None
not_refused soon far x y o e f g = ap (λ (b : Bool). cond b (Some x) (cond far (Some y) o)) e
    ∙ ap (λ (b : Bool). cond b (Some y) o) f ∙ g

all_planned : (t : TxnDecl) (a m index earliest : ℕ) → earliest ≤ periodic_release t a
    → periodic_release t (a + m) ≤ 2 ^ 40
    → refused_tick index earliest t.period (ticks_from t a m) ≡ None
all_planned t a zero index earliest low high = refl
all_planned t a (suc m) index earliest low high =
    let step : (a + 1) * t.period ≡ a * t.period + 1 * t.period = add-mul a 1 t.period in
    let same : (a + 1 + m) * t.period ≡ (a + suc m) * t.period =
    (let e : a + 1 + m ≡ a + suc m = omega arith in ap (λ (k : ℕ). k * t.period) e) in
    let within : a * t.period ≤ (a + suc m) * t.period = mul-le-mul_right {m = a} {n = a + suc m} t.period (omega arith) in
    not_refused (nat_lt (periodic_release t a) earliest) (nat_lt (2 ^ 40) (periodic_release t a))
    (index, TooSoon earliest)
    (index, TooFar (2 ^ 40)) _ (le-ltb (periodic_release t a) earliest low) (le-ltb (2 ^ 40) (periodic_release t a)
    (omega arith))
    (all_planned t (a + 1) m (index + 1) (periodic_release t a + t.period) (omega arith) (omega arith))

-- the last job of each transaction is early
bound : (n i : ℕ) → n ≤ 64 → 3 * (n - 1 - i) + (0 + jobs_each) * period_of n ≤ 2 ^ 40
bound n i few = let most : 256 * period_of n ≤ 256 * 520 = mul-le-mul_left {m = period_of n} {n = 520} 256
    (omega arith) in omega arith

jobs_planned : (t : TxnDecl) (m : ℕ) → periodic_release t (0 + m) ≤ 2 ^ 40
    → refused_tick 0 0 t.period (ticks_of t (Jobs m)) ≡ None
jobs_planned t m low = all_planned t 0 m 0 0 (omega arith) low

-- the jobs of one transaction
one_planned : (n i : ℕ) → n ≤ 64 → refused_tick 0 0 (txn_decl n i).period (ticks_of (txn_decl n i)
    (Jobs jobs_each)) ≡ None
one_planned n i few = jobs_planned (txn_decl n i) jobs_each (bound n i few)

-- all of them
no_bad : (tx : ℕ) (o : Option (ℕ × PlanRefused)) (rest : Option (ℕ × ℕ × PlanRefused)) → o ≡ None → rest ≡ None
    → option_or (option_map (λ bad. (tx, bad.0, bad.1)) o) rest ≡ None
no_bad tx o rest e f = ap (λ (q : Option (ℕ × PlanRefused)). option_or (option_map (λ bad.
    (tx, bad.0, bad.1)) q) rest) e ∙ f

planned_from : (n a m tx : ℕ) → n ≤ 64
    → refused_from tx (map (txn_decl n) (range_with_len a m)) (map releases_each (range_with_len a m)) ≡ None
planned_from n a zero tx few = refl
planned_from n a (suc m) tx few = no_bad tx _ _ (one_planned n a few) (planned_from n (a + 1) m (tx + 1) few)

pub planned : (n : ℕ) → n ≤ 64 → refused_from 0 (each (txn_decl n) n) (each releases_each n) ≡ None
planned n few = planned_from n 0 n 0 few

jobs_from : (a m : ℕ) → total_jobs (map releases_each (range_with_len a m)) ≡ m * 256
jobs_from a zero = refl
jobs_from a (suc m) = let h : total_jobs (map releases_each (range_with_len (a + 1) m)) ≡ m * 256 = jobs_from
    (a + 1) m in omega arith

pub jobs_in_all : (n : ℕ) → total_jobs (each releases_each n) ≡ n * 256
jobs_in_all n = jobs_from 0 n

eager_from : (a m : ℕ) → eager_jobs (map releases_each (range_with_len a m)) ≡ 0
eager_from a zero = refl
eager_from a (suc m) = let h : eager_jobs (map releases_each (range_with_len (a + 1) m)) ≡ 0 = eager_from
    (a + 1) m in omega arith

pub no_eager : (n : ℕ) → eager_jobs (each releases_each n) ≡ 0
no_eager n = eager_from 0 n

room_from : (n a m : ℕ) → entries_in (map (txn_decl n) (range_with_len a m)) (map releases_each (range_with_len a m))
    ≡ m * (256 + 256 * (4 + 2))
room_from n a zero = refl
room_from n a (suc m) =
    let h : entries_in (map (txn_decl n) (range_with_len (a + 1) m)) (map releases_each (range_with_len (a + 1) m))
    ≡ m * (256 + 256 * (4 + 2)) = room_from n (a + 1) m in omega arith

pub room : (n : ℕ) → entries_in (each (txn_decl n) n) (each releases_each n) ≡ n * (256 + 256 * (4 + 2))
room n = room_from n 0 n

-- the last tick
low_ticks : (t : TxnDecl) (a m most : ℕ) → periodic_release t (a + m) ≤ most
    → greatest (ticks_from t a m) ≤ most
low_ticks t a zero most low = omega arith
low_ticks t a (suc m) most low =
    let same : (a + 1 + m) * t.period ≡ (a + suc m) * t.period =
    (let e : a + 1 + m ≡ a + suc m = omega arith in ap (λ (k : ℕ). k * t.period) e) in
    let within : a * t.period ≤ (a + suc m) * t.period = mul-le-mul_right {m = a} {n = a + suc m} t.period (omega arith) in
    let rest : greatest (ticks_from t (a + 1) m) ≤ most = low_ticks t (a + 1) m most
    (omega arith) in
    omega arith

max_low : (a b most : ℕ) → a ≤ most → b ≤ most → max a b ≤ most
max_low a b most h g = omega arith

jobs_low : (t : TxnDecl) (m most : ℕ) → periodic_release t (0 + m) ≤ most → greatest (ticks_of t (Jobs m)) ≤ most
jobs_low t m most low = low_ticks t 0 m most low

low_from : (n a m : ℕ) → n ≤ 64
    → greatest (map greatest (fixed_ticks (map (txn_decl n) (range_with_len a m)) (map releases_each
    (range_with_len a m)))) ≤ 2 ^ 40
low_from n a zero few = omega arith
low_from n a (suc m) few = max_low _ _ (2 ^ 40) (jobs_low (txn_decl n a) jobs_each (2 ^ 40) (bound n a few))
    (low_from n (a + 1) m few)

pub low_last : (n : ℕ) → n ≤ 64 → greatest (map greatest (fixed_ticks (each (txn_decl n) n)
    (each releases_each n))) ≤ 2 ^ 40
low_last n few = low_from n 0 n few
