-- How many jobs the transactions plan themselves, and how many plans of a transaction a history has at most.
use Rattle.std.proofs.Common.{◌≡◌, ℕ, zero, suc, ◌+◌, ◌≤◌, Bool, true, false, cond, List, [], ◌∷◌, length, map, refl, ap, sym, ◌∙◌, arith}
use Rattle.std.proofs.lemmas.List.Sums.{sum_by-cons}
use Rattle.std.proofs.lemmas.List.FromFn.{sum_by-map-range_with_len_more}
use Rattle.std.specs.List.{sum, sum_by, range_with_len}
use Rattle.step_journal.specs.declared.entry.Entry.{Entry}
use Rattle.step_journal.specs.declared.entry.Entry.TheVariants.{Planned, Step, Blocked, Idle}
use Rattle.law_histories.specs.Counting.{plans_in, plan_count}
use Rattle.law_histories.proofs.Sums.{sum_below, sum_of}

-- all own jobs as a sum over the numbers of the transactions
pub own_sum : (eager_jobs : ℕ → ℕ) (n : ℕ) → sum (map eager_jobs (range_with_len 0 n)) ≡ sum_below eager_jobs n
own_sum eager_jobs zero = refl
own_sum eager_jobs (suc n) =
    let more : suc n ≡ n + 1 = omega arith in
    let step : sum (map eager_jobs (range_with_len 0 (n + 1))) ≡ sum (map eager_jobs (range_with_len 0 n)) + eager_jobs n = sum_by-map-range_with_len_more (λ (k : ℕ). k) eager_jobs 0 n n (omega arith) in
    ap (λ (k : ℕ). sum (map eager_jobs (range_with_len 0 k))) more ∙ (step ∙ ap (λ (k : ℕ). k + eager_jobs n) (own_sum eager_jobs n))

-- the sum over the places of a list is that of its elements
pub listed_sum : {A : Type 0} (f : A → ℕ) (xs : List A) → sum_of f xs ≡ sum_by f xs
listed_sum f [] = refl
listed_sum f (x ∷ xs) = ap (λ (n : ℕ). f x + n) (listed_sum f xs) ∙ sym (sum_by-cons f x xs)

-- the plans of a transaction are some of the entries

bit_le : (b : Bool) → cond b 1 0 ≤ 1
bit_le true = omega arith
bit_le false = omega arith

one_at_most : (n : ℕ) (e : Entry) → plans_in n e ≤ 1
one_at_most n (Planned tx tick) = bit_le _
one_at_most n (Step job op outcome over tick) = omega arith
one_at_most n (Blocked job op by ceiling tick) = omega arith
one_at_most n (Idle from to) = omega arith

pub count_few : (es : List Entry) (n : ℕ) → plan_count es n ≤ length es
count_few [] n = omega arith
count_few (e ∷ es) n = omega (arith, one_at_most n e, count_few es n)
