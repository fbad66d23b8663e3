-- The plans of a member.
use Rattle.std.proofs.Common.{◌≡◌, ℕ, ◌+◌, ◌≤◌, Bool, List, [], ◌∷◌, ◌++◌, subst, arith}
use Rattle.rt_base.specs.declared.ids.TxId.{TxId}
use Rattle.txn_set.specs.Set.{Set}
use Rattle.step_journal.specs.declared.entry.Entry.{Entry}
use Rattle.step_journal.specs.declared.entry.Entry.TheVariants.{Planned}
use Rattle.turn_cell.specs.Turn.{Begins}
use Rattle.turn_cell.proofs.Lists.{chained}
use Rattle.txn_threads.specs.Plans.{plan_number, plans_in, IsPlanned, ArePlanned}

pub plans_append : (xs ys : List (ℕ × Entry)) → plans_in (xs ++ ys) ≡ plans_in xs + plans_in ys
plans_append [] ys = omega arith
plans_append (x ∷ xs) ys = omega (arith, plans_append xs ys)

planned_later : (set : Set) (seen more : List Entry) (tx : TxId) (eager : Bool) (jobs n place : ℕ) (e : Entry) → Begins seen more → IsPlanned set seen tx eager jobs n place e → IsPlanned set more tx eager jobs n place e
planned_later set seen more tx eager jobs n place (Planned by tick) b p = record {
  is_eager = p.is_eager;
  own = p.own;
  left = p.left;
  history = p.history;
  begins = chained p.history seen more p.begins b;
  place_is = p.place_is;
  tick_is = p.tick_is;
  ended = p.ended;
}
planned_later set seen more tx eager jobs n place other b p = tt

-- plans of a history are plans of a longer one
pub are_planned_later : (set : Set) (seen more : List Entry) (tx : TxId) (eager : Bool) (jobs n : ℕ) (xs : List (ℕ × Entry)) → Begins seen more → ArePlanned set seen tx eager jobs n xs → ArePlanned set more tx eager jobs n xs
are_planned_later set seen more tx eager jobs n [] b a = tt
are_planned_later set seen more tx eager jobs n (x ∷ xs) b a = (planned_later set seen more tx eager jobs n x.0 x.1 b a.0, are_planned_later set seen more tx eager jobs (n + plan_number x.1) xs b a.1)

pub are_planned_append : (set : Set) (seen : List Entry) (tx : TxId) (eager : Bool) (jobs n : ℕ) (xs ys : List (ℕ × Entry)) → ArePlanned set seen tx eager jobs n xs → ArePlanned set seen tx eager jobs (n + plans_in xs) ys → ArePlanned set seen tx eager jobs n (xs ++ ys)
are_planned_append set seen tx eager jobs n [] ys a b = let e : n + 0 ≡ n = omega arith in subst (λ (k : ℕ). ArePlanned set seen tx eager jobs k ys) e b
are_planned_append set seen tx eager jobs n (x ∷ xs) ys a b =
    let e : n + (plan_number x.1 + plans_in xs) ≡ (n + plan_number x.1) + plans_in xs = omega arith in
    (a.0, are_planned_append set seen tx eager jobs (n + plan_number x.1) xs ys a.1 (subst (λ (k : ℕ). ArePlanned set seen tx eager jobs k ys) e b))

one_few : (set : Set) (seen : List Entry) (tx : TxId) (eager : Bool) (jobs n place : ℕ) (e : Entry) → n ≤ jobs → IsPlanned set seen tx eager jobs n place e → n + plan_number e ≤ jobs
one_few set seen tx eager jobs n place (Planned by tick) le p = let l = p.left in omega arith
one_few set seen tx eager jobs n place other le p = omega arith

-- they are at most as many as the member is to have
pub few_plans : (set : Set) (seen : List Entry) (tx : TxId) (eager : Bool) (jobs n : ℕ) (xs : List (ℕ × Entry)) → n ≤ jobs → ArePlanned set seen tx eager jobs n xs → n + plans_in xs ≤ jobs
few_plans set seen tx eager jobs n [] le a = omega arith
few_plans set seen tx eager jobs n (x ∷ xs) le a = let r = few_plans set seen tx eager jobs (n + plan_number x.1) xs (one_few set seen tx eager jobs n x.0 x.1 le a.0) a.1 in omega arith
