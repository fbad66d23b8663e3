-- A run from its clearing to its end.
use Rattle.std.proofs.Common.{◌≡◌, ℕ, ◌+◌, ◌<◌, ◌≤◌, List, Some, None, Err, length, All, Bool, ◌++◌, slice_index_or, slice_set, refl, sym, ap, subst, ◌∙◌, arith}
use Rattle.std.proofs.lemmas.List.{length-set, get_or-set_same, get_or-set_other, get_or_default}
use Rattle.std.proofs.lemmas.Option.{get_or_from_slice_get, slice_get_read}
use mathlib.Core.Logic.{dite}
use native.Mathlib.Decide.{ℕ_discrete}
use Rattle.rt_base.specs.declared.ids.TxId.{TxId}
use Rattle.rt_base.specs.declared.operation.Op.{Op}
use Rattle.rt_base.specs.declared.operation.Outcome.{Outcome}
use Rattle.step_journal.specs.declared.entry.Entry.{Entry}
use Rattle.turn_cell.specs.Turn.{Begins}
use Rattle.shared_plant.specs.Seats.{PlantFacts, SeatFacts, IsOf}
use Rattle.txn_threads.specs.declared.member.RunStop.{RunStop}
use Rattle.txn_threads.specs.declared.member.RunStop.TheVariants.{Refused, NoPlan, Stopped}
use Rattle.txn_threads.specs.declared.member.Halt.{Halt}
use Rattle.txn_threads.specs.declared.member.Halt.TheVariants as halt
use Rattle.txn_threads.specs.declared.member.Member.{Member}
use Rattle.txn_threads.specs.declared.member.Worker.{Worker}
use Rattle.txn_threads.specs.Scripts.{AreAsked}
use Rattle.txn_threads.specs.Plans.{plans_in, ArePlanned}
use Rattle.txn_threads.specs.Rising.{AreRising}
use Rattle.txn_threads.specs.Tasks.{Tied}
use Rattle.txn_threads.specs.Rounds.{Each, Sits, Ran, Halted, WorkerSits, WorkerRan}
use Rattle.txn_threads.specs.Runs.{MayRun, HasRun, IsDone, FirstStop, FirstHalt, HaltIs, StopIs, run_stop, IfStopped, NoMembers, Cleared, WorkerCleared}
use Rattle.txn_threads.proofs.Rounding.{each_refl, each_trans, each_step, each_has, all_sit, all_refl, all_trans, none_some_halt}
use Rattle.txn_threads.proofs.Planning.{few_plans}

-- loops over lists

-- those before a place have it, and so does the one at the place
pub so_far : {X : Type 0} (P : X → Type 0) (xs : List X) (i : ℕ) (x : X) → ((j : ℕ) (d : X) → j < i → P (slice_index_or xs j d)) → i < length xs → x ≡ slice_index_or xs i x → P x → (j : ℕ) (d : X) → j < i + 1 → P (slice_index_or xs j d)
so_far P xs i x before less is p j d low = dite (ℕ_discrete j i)
    (λ e. subst (λ k. P (slice_index_or xs k d)) (sym e) (subst P (is ∙ get_or_default xs i x d less) p))
    (λ ne. before j d (omega arith))

-- those before a place were changed, and the others are as they were
abbrev pub Upto : {X : Type 0} → (X → X → Type 0) → ℕ → List X → List X → Type 0
Upto {X} R i xs ys =
    (length ys ≡ length xs) × ((j : ℕ) (d : X) → j < i → j < length xs → R (slice_index_or xs j d) (slice_index_or ys j d))
    × ((j : ℕ) (d : X) → i ≤ j → slice_index_or ys j d ≡ slice_index_or xs j d)

pub upto_step : {X : Type 0} (R : X → X → Type 0) (xs ys : List X) (i : ℕ) (y z : X) → Upto R i xs ys → i < length ys → y ≡ slice_index_or ys i y → R y z → Upto R (i + 1) xs (slice_set ys i z)
upto_step R xs ys i y z u less is r = let same = u.0 in let low : i < length xs = omega (arith, same, less) in (
  length-set ys i z ∙ u.0,
  (λ j d le lt. dite (ℕ_discrete j i)
      (λ e. subst (λ k. R (slice_index_or xs k d) (slice_index_or (slice_set ys i z) k d)) (sym e)
      (subst (R (slice_index_or xs i d)) (sym (get_or-set_same ys i z d less)) (subst (λ a. R a z) (is ∙ (get_or_default ys i y d less ∙ u.2 i d (omega arith))) r)))
      (λ ne. subst (R (slice_index_or xs j d)) (sym (get_or-set_other ys i j z d ne)) (u.1 j d (omega arith) lt))),
  (λ j d le. get_or-set_other ys i j z d (λ e. absurd (omega arith)) ∙ u.2 j d (omega arith)),
)

pub upto_all : {X : Type 0} (R : X → X → Type 0) (xs ys : List X) (i : ℕ) → Upto R i xs ys → length xs ≤ i → Each R xs ys
upto_all R xs ys i u le = (u.0, λ j d less. u.1 j d (omega arith) less)

pub upto_none : {X : Type 0} (R : X → X → Type 0) (xs : List X) → Upto R 0 xs xs
upto_none R xs = (refl, (λ j d low less. absurd (omega arith)), (λ j d le. refl))

-- the first stop

pub first_halt_at : {B Y : Type 0} (ws : List (Worker B Y)) (i : ℕ) (w : Worker B Y) (h : Halt) → i < length ws → w ≡ slice_index_or ws i w → w.halt ≡ Some h → ((j : ℕ) (d : Worker B Y) → j < i → (slice_index_or ws j d).halt ≡ None) → FirstHalt ws h
first_halt_at ws i w h less is kept before = record {
  place = i;
  within = less;
  worker = w;
  at = slice_get_read ws (length ws) i w refl less is;
  kept = kept;
  before = λ j v low at. subst (λ (u : Worker _ _). u.halt ≡ None) (get_or_from_slice_get ws j v v at) (before j v low);
}

module _ {B Y : Type 0} (gives : Y → ℕ → List Outcome → Op) (stands : Y → ℕ → List Outcome → Type 0) where
  pub worker_trans : (p : PlantFacts) (a b c : Worker B Y) → WorkerRan gives stands p a b → WorkerRan gives stands p b c → WorkerRan gives stands p a c
  worker_trans p a b c x y = (all_trans gives stands p a.members.items b.members.items c.members.items x.0 y.0, y.1)

  pub worker_refl : (p : PlantFacts) (a : Worker B Y) → WorkerSits gives stands p a → WorkerRan gives stands p a a
  worker_refl p a s = (all_refl gives stands p a.members.items s.0, s.1)

  pub workers_refl : (p : PlantFacts) (ws : List (Worker B Y)) → All (WorkerSits gives stands p) ws → Each (WorkerRan gives stands p) ws ws
  workers_refl p ws sit = each_refl (WorkerRan gives stands p) ws (λ i d less. worker_refl p (slice_index_or ws i d) (sit i d less))

  pub workers_trans : (p : PlantFacts) (xs ys zs : List (Worker B Y)) → Each (WorkerRan gives stands p) xs ys → Each (WorkerRan gives stands p) ys zs → Each (WorkerRan gives stands p) xs zs
  workers_trans p xs ys zs = each_trans (WorkerRan gives stands p) (worker_trans p) xs ys zs

  pub workers_step : (p : PlantFacts) (xs ys : List (Worker B Y)) (i : ℕ) (y z : Worker B Y) → Each (WorkerRan gives stands p) xs ys → i < length ys → y ≡ slice_index_or ys i y → WorkerRan gives stands p y z → Each (WorkerRan gives stands p) xs (slice_set ys i z)
  workers_step p = each_step (WorkerRan gives stands p) (worker_trans p)

  pub workers_sit : (p : PlantFacts) (xs ys : List (Worker B Y)) → Each (WorkerRan gives stands p) xs ys → All (WorkerSits gives stands p) ys
  workers_sit p xs ys e = each_has (WorkerRan gives stands p) (WorkerSits gives stands p) (λ a b r. (all_sit gives stands p a.members.items b.members.items r.0, r.1)) xs ys e

  -- a member that has been cleared
  pub cleared_sits : (p : PlantFacts) (m c : Member B Y) → MayRun p m → Cleared gives stands m c → Sits gives stands p c
  cleared_sits p m c may k = let same = k.seat in record {
    of = subst (IsOf p) (sym same) may.of;
    has = (may.has.0, ap (λ (s : SeatFacts). s.tx) same ∙ may.has.1);
    tied = λ tx is. subst (λ (s : SeatFacts). Tied gives stands tx s.mine c.task) (sym same) (k.tied tx m.seat.mine (may.fresh tx (sym (ap (λ (s : SeatFacts). s.tx) same) ∙ is)));
    knows = λ tx is. (let none = k.ended in omega (arith, none));
  }

  pub has_run : (p : PlantFacts) (m c n : Member B Y) → Cleared gives stands m c → Ran gives stands p c n → HasRun gives p m n
  has_run p m c n k r =
      let same = k.seat in let of_tx : c.seat.tx ≡ m.seat.tx = ap (λ (s : SeatFacts). s.tx) same in
      let plans : (tx : TxId) → m.seat.tx ≡ Some tx → ArePlanned p.set n.seat.seen tx m.eager m.jobs 0 r.added = λ tx is.
      subst (λ (b : Bool). ArePlanned p.set n.seat.seen tx b m.jobs 0 r.added) k.eager
      (subst (λ (j : ℕ). ArePlanned p.set n.seat.seen tx c.eager j 0 r.added) k.jobs
      (subst (λ (z : ℕ). ArePlanned p.set n.seat.seen tx c.eager c.jobs z r.added) k.planned (r.plans tx (of_tx ∙ is)))) in
      let tx = r.sits.has.0 in let is : m.seat.tx ≡ Some tx = sym of_tx ∙ (sym r.tx ∙ r.sits.has.1) in
      let few : 0 + plans_in r.added ≤ m.jobs = few_plans p.set n.seat.seen tx m.eager m.jobs 0 r.added (omega arith) (plans tx is) in record {
        of = r.sits.of;
        tx = r.tx ∙ of_tx;
        jobs = r.jobs ∙ k.jobs;
        eager = r.eager ∙ k.eager;
        gives_is = r.gives_is ∙ k.gives_is;
        seen = subst (λ (s : SeatFacts). Begins s.seen n.seat.seen) same r.seen;
        added = r.added;
        mine = r.mine ∙ ap (λ (s : SeatFacts). s.mine ++ r.added) same;
        rising = subst (λ (s : SeatFacts). AreRising (length s.seen) (length n.seat.seen) r.added) same r.rising;
        asked = λ t e. subst (λ (l : List (ℕ × Entry)). AreAsked (gives m.task.body) t l r.added) (ap (λ (s : SeatFacts). s.mine) same)
            (subst (λ (f : ℕ → List Outcome → Op). AreAsked f t c.seat.mine r.added) k.gives_is (r.asked t (of_tx ∙ e)));
        plans = plans;
        few = omega (arith, few);
        count = let counted = r.planned in let none = k.planned in omega (arith, counted, none);
      }

  pub workers_cleared_sit : (p : PlantFacts) (ws us : List (Worker B Y)) → All (λ (w : Worker B Y). All (MayRun p) w.members.items) ws → Each (WorkerCleared gives stands) ws us → All (WorkerSits gives stands p) us
  workers_cleared_sit p ws us may e i d less =
      let low : i < length ws = subst (λ n. i < n) e.0 less in let k = e.1 i d low in
      let w = slice_index_or ws i d in let u = slice_index_or us i d in (
        (λ j c at. let lo : j < length w.members.items = subst (λ n. j < n) k.0.0 at in cleared_sits p (slice_index_or w.members.items j c) (slice_index_or u.members.items j c) (may i d low j c lo) (k.0.1 j c lo)),
        (λ h is. absurd (none_some_halt h (sym k.1 ∙ is))),
      )

  pub workers_have_run : (p : PlantFacts) (ws us vs : List (Worker B Y)) → Each (WorkerCleared gives stands) ws us → Each (WorkerRan gives stands p) us vs → Each (λ (w v : Worker B Y). Each (HasRun gives p) w.members.items v.members.items) ws vs
  workers_have_run p ws us vs e r = (
    r.0 ∙ e.0,
    λ i d less.
        let up : i < length us = subst (λ n. i < n) (sym e.0) less in
        let k = e.1 i d less in let q = r.1 i d up in
        let w = slice_index_or ws i d in let u = slice_index_or us i d in let v = slice_index_or vs i d in (
          q.0.0 ∙ k.0.0,
          λ j c at. let hi : j < length u.members.items = subst (λ n. j < n) (sym k.0.0) at in has_run p (slice_index_or w.members.items j c) (slice_index_or u.members.items j c) (slice_index_or v.members.items j c) (k.0.1 j c at) (q.0.1 j c hi),
        ),
  )

  pub cleared_none : (ws us : List (Worker B Y)) → Each (WorkerCleared gives stands) ws us → All (λ (u : Worker B Y). u.halt ≡ None) us
  cleared_none ws us e = each_has (WorkerCleared gives stands) (λ (u : Worker B Y). u.halt ≡ None) (λ a b k. k.1) ws us e

  -- no worker has a member
  pub none_have_run : (p : PlantFacts) (ws us : List (Worker B Y)) → Each (WorkerCleared gives stands) ws us → All (λ (u : Worker B Y). length u.members.items ≡ 0) us → Each (λ (w u : Worker B Y). Each (HasRun gives p) w.members.items u.members.items) ws us
  none_have_run p ws us e none = (
    e.0,
    λ i d less.
        let up : i < length us = subst (λ n. i < n) (sym e.0) less in let k = e.1 i d less in let no = none i d up in
        (k.0.0, λ j c at. absurd (let b = k.0.0 in omega (arith, no, b, at))),
  )

  -- clearing leaves each worker as many members as it has
  pub no_members_after : (ws us : List (Worker B Y)) → Each (WorkerCleared gives stands) ws us → NoMembers ws → NoMembers us
  no_members_after ws us e none i d less = let low : i < length ws = subst (λ n. i < n) e.0 less in (e.1 i d low).0.0 ∙ none i d low

  pub no_members_before : (ws us : List (Worker B Y)) → Each (WorkerCleared gives stands) ws us → NoMembers us → NoMembers ws
  no_members_before ws us e none i d less = sym (e.1 i d less).0.0 ∙ none i d (subst (λ n. i < n) (sym e.0) less)

  pub all_done : (p : PlantFacts) (ws us : List (Worker B Y)) → Each (WorkerRan gives stands p) ws us → All (λ (u : Worker B Y). All (λ (m : Member B Y). m.jobs ≤ m.ended) u.members.items) us → All (λ (u : Worker B Y). All (IsDone p) u.members.items) us
  all_done p ws us r done i d less j c at tx is =
      let sits = (workers_sit p ws us r i d less).0 j c at in let enough = done i d less j c at in let knows = sits.knows tx is in
      omega (arith, enough, knows)

  pub first_stop_of : (p : PlantFacts) (ws us : List (Worker B Y)) (h : Halt) → Each (WorkerRan gives stands p) ws us → FirstHalt us h → FirstStop gives p us h
  first_stop_of p ws us h r f =
      let is : slice_index_or us f.place f.worker ≡ f.worker = get_or_from_slice_get us f.place f.worker f.worker f.at in
      record {
        place = f.place;
        worker = f.worker;
        at = f.at;
        kept = f.kept;
        met = subst (λ (w : Worker B Y). Halted gives p w) is (workers_sit p ws us r f.place f.worker f.within).1 h f.kept;
        before = f.before;
      }

  pub stop_is : (p : PlantFacts) (ws us : List (Worker B Y)) (s : RunStop) → Each (WorkerRan gives stands p) ws us → HaltIs us s → StopIs gives p us s
  stop_is p ws us (Refused job reply) r f = first_stop_of p ws us (halt.Refused job reply) r f
  stop_is p ws us (NoPlan tx e) r f = first_stop_of p ws us (halt.NoPlan tx e) r f
  stop_is p ws us Stopped r f = tt

pub none_done : {B Y : Type 0} (p : PlantFacts) (us : List (Worker B Y)) → All (λ (u : Worker B Y). length u.members.items ≡ 0) us → All (λ (u : Worker B Y). All (IsDone p) u.members.items) us
none_done p us none i d less j c at tx is = absurd (let a = none i d less in omega (arith, a, at))

-- stops of halts

abbrev pub IsStopped : RunStop → Type 0
IsStopped Stopped = Unit {0}
IsStopped other = ⊥

pub if_not_stopped : (s : RunStop) (P Q : Type 0) → (IsStopped s → ⊥) → Q → IfStopped (Err s) P Q
if_not_stopped Stopped P Q n q = absurd (n tt)
if_not_stopped other P Q n q = q

pub run_stop_not : (h : Halt) → IsStopped (run_stop h) → ⊥
run_stop_not (halt.Refused job reply) s = s
run_stop_not (halt.NoPlan tx e) s = s

pub halt_is : {B Y : Type 0} (ws : List (Worker B Y)) (h : Halt) → FirstHalt ws h → HaltIs ws (run_stop h)
halt_is ws (halt.Refused job reply) f = f
halt_is ws (halt.NoPlan tx e) f = f
