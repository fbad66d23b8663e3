-- Members of workers, from the dealing to the end of their run.
use Rattle.std.proofs.Common.{◌≡◌, ℕ, zero, suc, ◌+◌, ◌<◌, ◌++◌, Bool, true, if◌then◌else◌, nat_lt, List, [], ◌∷◌, length, map, reverse, slice_index_or, Option, None, Some, All, refl, sym, ap, subst, ◌∙◌, arith}
use Rattle.std.proofs.lemmas.Bool.Decides.{nat_tests}
use Rattle.std.proofs.lemmas.List.{reverse-append, length-reverse, map-append}
use Rattle.std.proofs.lemmas.List.Elements.{All-cons, All-push, All-head, All-tail}
use Rattle.rt_base.specs.declared.ids.TxId.{TxId}
use Rattle.rt_base.specs.declared.operation.Op.{Op}
use Rattle.rt_base.specs.declared.operation.Outcome.{Outcome}
use Rattle.step_journal.specs.declared.entry.Entry.{Entry}
use Rattle.turn_cell.specs.Turn.{Begins, total}
use Rattle.turn_cell.proofs.Sums.{total-append}
use Rattle.shared_plant.specs.Seats.{TableId, PlantFacts, SeatFacts, IsOf, tx_of}
use Rattle.shared_plant.proofs.Answering.{the_tx}
use Rattle.law_histories.specs.Sim.{Body, Workload, plans, plans_from}
use Rattle.sim_run.specs.Workloads.{workload, ticks_of, body_of}
use Rattle.sim_run.proofs.Calls.{mapped_at}
use Rattle.txn_threads.specs.declared.member.Member.{Member}
use Rattle.txn_threads.specs.declared.member.Worker.{Worker}
use Rattle.txn_threads.specs.Scripts.{AreAsked, own_outcomes, job_of}
use Rattle.txn_threads.specs.Plans.{plans_in, ArePlanned}
use Rattle.txn_threads.specs.Rising.{AreRising}
use Rattle.txn_threads.specs.Rounds.{Each}
use Rattle.txn_threads.specs.Runs.{MayRun, HasRun}
use Rattle.law_runs.specs.Seats.{IsSeatRun}
use Rattle.plant_run.specs.Deals.{sits_at, members_at, team_of, jobs_at, IsDealt, AreDealt}
use Rattle.plant_run.proofs.Deals.{Row, rows}

-- a member's jobs, and those that its transaction plans itself

-- they are its transaction's own where it is eager, and else none is
pub own_jobs_are : (n ticks jobs : ℕ) → jobs ≡ (if nat_lt 0 n then n else ticks) → n ≡ (if nat_lt 0 n then jobs else 0)
own_jobs_are n ticks jobs e = grind (arith, nat_tests)

pub own_jobs_eager : (n ticks jobs : ℕ) → jobs ≡ (if nat_lt 0 n then n else ticks) → nat_lt 0 n ≡ true → jobs ≡ n
own_jobs_eager n ticks jobs e is = grind (arith, nat_tests)

-- where an eager transaction has no release they are its own and those of its releases
pub all_jobs : (n : ℕ) (ticks : List ℕ) → (0 < n → ticks ≡ []) → length ticks + n ≡ (if nat_lt 0 n then n else length ticks)
all_jobs zero ticks f = grind (arith, nat_tests)
all_jobs (suc n) ticks f =
    let none : length ticks ≡ 0 = ap (λ (l : List ℕ). length l) (f (omega arith)) in
    grind (arith, nat_tests)

-- lists turned round

pub map_reverse : {X Y : Type 0} (f : X → Y) (xs : List X) → map f (reverse xs) ≡ reverse (map f xs)
map_reverse f [] = refl
map_reverse f (x ∷ xs) =
    ap (map f) (reverse-append (x ∷ []) xs)
    ∙ (map-append f (reverse xs) (x ∷ []) ∙ (ap (λ l. l ++ f x ∷ []) (map_reverse f xs) ∙ sym (reverse-append (f x ∷ []) (map f xs))))

total_reverse : {X : Type 0} (f : X → ℕ) (xs : List X) → total f (reverse xs) ≡ total f xs
total_reverse f [] = refl
total_reverse f (x ∷ xs) = ap (total f) (reverse-append (x ∷ []) xs) ∙ omega (arith, total-append f (reverse xs) (x ∷ []), total_reverse f xs)

all_reverse : {X : Type 0} (P : X → Type 0) (xs : List X) → All P xs → All P (reverse xs)
all_reverse P [] all = all
all_reverse P (x ∷ xs) all = subst (All P) (sym (reverse-append (x ∷ []) xs)) (All-push P (reverse xs) x (all_reverse P xs (All-tail P x xs all)) (All-head P x xs all))

-- lists each turned round

total_turned : {X V : Type 0} (f : List X → ℕ) (items : V → List X) → ((xs : List X) → f (reverse xs) ≡ f xs) → (vs : List V) → total f (map (λ v. reverse (items v)) vs) ≡ total f (map items vs)
total_turned f items same [] = refl
total_turned f items same (v ∷ vs) = omega (arith, same (items v), total_turned f items same vs)

all_turned : {X V : Type 0} (P : X → Type 0) (items : V → List X) (vs : List V) → All (All P) (map items vs) → All (All P) (map (λ v. reverse (items v)) vs)
all_turned P items [] all = all
all_turned P items (v ∷ vs) all = All-cons (All P) (reverse (items v)) (map (λ v. reverse (items v)) vs) (all_reverse P (items v) (All-head (All P) (items v) (map items vs) all)) (all_turned P items vs (All-tail (All P) (items v) (map items vs) all))

-- elements at one place

pub each_total : {X : Type 0} (R : X → X → Type 0) (f : X → ℕ) → ((a b : X) → R a b → f b ≡ f a) → (xs ys : List X) → Each R xs ys → total f ys ≡ total f xs
each_total R f same [] [] e = refl
each_total R f same [] (y ∷ ys) e = absurd (let n = e.0 in omega arith)
each_total R f same (x ∷ xs) [] e = absurd (let n = e.0 in omega arith)
each_total R f same (x ∷ xs) (y ∷ ys) e =
    let here = same x y (e.1 0 x (omega arith)) in
    let n = e.0 in
    let rest = each_total R f same xs ys (omega arith, λ i d lt. e.1 (suc i) d (omega arith)) in
    omega (arith, here, rest)

pub all_each : {X : Type 0} (P Q : X → Type 0) (R : X → X → Type 0) → ((a b : X) → P a → R a b → Q b) → (xs ys : List X) → All P xs → Each R xs ys → All Q ys
all_each P Q R f xs ys all e = λ i d lt. let low : i < length xs = subst (λ (n : ℕ). i < n) e.0 lt in f (slice_index_or xs i d) (slice_index_or ys i d) (all i d low) (e.1 i d low)

module _ {B Y : Type 0} where
  -- the teams of workers

  abbrev pub teams : List (Worker B Y) → List (List (Member B Y))
  teams ws = map (λ (w : Worker B Y). team_of w) ws

  pub staffed : (gives : Y → ℕ → List Outcome → Op) (bodies : List Body) (releases : List (List ℕ)) (eager_jobs : ℕ → ℕ) (id : TableId) (past : List Entry) (first : ℕ)
      (lists : List (Row B Y)) (ws : List (Worker B Y)) → teams ws ≡ reverse (map (λ (v : Row B Y). reverse v.items) lists)
      → AreDealt gives bodies releases eager_jobs id past first 0 (rows lists) → AreDealt gives bodies releases eager_jobs id past first 0 (teams ws)
  staffed gives bodies releases eager_jobs id past first lists ws is a =
      let items : Row B Y → List (Member B Y) = λ v. v.items in
      let turned : List (List (Member B Y)) = map (λ (v : Row B Y). reverse v.items) lists in
      subst (AreDealt gives bodies releases eager_jobs id past first 0) (sym is) (record {
        each = all_reverse (All (IsDealt gives bodies releases eager_jobs id past first)) turned (all_turned (IsDealt gives bodies releases eager_jobs id past first) items lists a.each);
        once = λ tx. omega (arith, total_reverse (members_at tx) turned, total_turned (members_at tx) items (total_reverse (λ (m : Member B Y). sits_at tx m.seat.tx)) lists, a.once tx);
        count = omega (arith, total_reverse (λ (l : List (Member B Y)). length l) turned, total_turned (λ (l : List (Member B Y)). length l) items (λ xs. length-reverse xs) lists, a.count);
      })

  pub all_teams : (P : Member B Y → Type 0) (ws : List (Worker B Y)) → All (All P) (teams ws) → All (λ (w : Worker B Y). All P w.members.items) ws
  all_teams P ws all i d lt = subst (All P) (mapped_at (λ (w : Worker B Y). team_of w) ws i d (team_of d) lt) (all i (team_of d) (long ws i lt)) where
    long : (us : List (Worker B Y)) (i : ℕ) → i < length us → i < length (teams us)
    long [] i lt = lt
    long (u ∷ us) zero lt = omega arith
    long (u ∷ us) (suc i) lt = let rest = long us i (omega arith) in omega arith

  -- numbers of members that a run does not change

  pub total_teams : (f : List (Member B Y) → ℕ) (ws : List (Worker B Y)) → total f (teams ws) ≡ total (λ (w : Worker B Y). f (team_of w)) ws
  total_teams f [] = refl
  total_teams f (w ∷ ws) = omega (arith, total_teams f ws)

  -- a member before a run, and after it

  pub may_run : (gives : Y → ℕ → List Outcome → Op) (bodies : List Body) (releases : List (List ℕ)) (eager_jobs : ℕ → ℕ) (p : PlantFacts) (past : List Entry) (first : ℕ) (m : Member B Y)
      → length releases ≡ length p.set.txns → IsDealt gives bodies releases eager_jobs p.id past first m → MayRun p m
  may_run gives bodies releases eager_jobs p past first m each d =
      let sits = ap (λ (s : SeatFacts). s.tx) d.seat in record {
        of = (ap (λ (s : SeatFacts). s.plant) d.seat, λ tx is. let at : d.tx ≡ tx.0 = ap (λ (o : Option TxId). (the_tx tx o).0) (sym sits ∙ is) in let low = d.within in omega (arith, at, low, each));
        has = (tx_of d.tx, sits);
        fresh = λ tx is serial. ap (λ (l : List (ℕ × Entry)). own_outcomes l (job_of tx serial)) (ap (λ (s : SeatFacts). s.mine) d.seat);
      }

  -- A member after a run of the workload: its seat's entries are its transaction's, and it is as it was dealt.
  pub record HasPlayed (gives : Y → ℕ → List Outcome → Op) (w : Workload) (eager_jobs : ℕ → ℕ) (p : PlantFacts) (m : Member B Y) : Type 0 where
    pub tx : ℕ
    pub sits : m.seat.tx ≡ Some (tx_of tx)
    pub of : IsOf p m.seat
    pub run : IsSeatRun w eager_jobs m.seat
    pub gives_is : gives m.task.body ≡ w.bodies tx
    pub jobs : m.jobs ≡ jobs_at eager_jobs w.releases tx
    pub eager : m.eager ≡ nat_lt 0 (eager_jobs tx)
    pub planned : m.planned ≡ plans_in m.seat.mine

  pub has_played : (gives : Y → ℕ → List Outcome → Op) (bodies : List Body) (releases : List (List ℕ)) (eager_jobs : ℕ → ℕ) (p : PlantFacts) (first : ℕ) (m n : Member B Y)
      → IsDealt gives bodies releases eager_jobs p.id (plans_from 0 releases) first m → HasRun gives p m n → HasPlayed gives (workload p.set bodies releases) eager_jobs p n
  has_played gives bodies releases eager_jobs p first m n d r =
      let w : Workload = workload p.set bodies releases in
      let was = ap (λ (s : SeatFacts). s.tx) d.seat in
      let sits : n.seat.tx ≡ Some (tx_of d.tx) = r.tx ∙ was in
      let none : m.seat.mine ≡ [] = ap (λ (s : SeatFacts). s.mine) d.seat in
      let seen : m.seat.seen ≡ plans w = ap (λ (s : SeatFacts). s.seen) d.seat in
      let mine : n.seat.mine ≡ r.added = r.mine ∙ ap (λ (l : List (ℕ × Entry)). l ++ r.added) none in
      let at : (tx : TxId) → n.seat.tx ≡ Some tx → d.tx ≡ tx.0 = λ tx is. ap (λ (o : Option TxId). (the_tx tx o).0) (sym sits ∙ is) in
      record {
        tx = d.tx;
        sits = sits;
        of = r.of;
        run = record {
          began = subst (λ (l : List Entry). Begins l n.seat.seen) seen r.seen;
          rising = subst (λ (l : List (ℕ × Entry)). AreRising (length (plans w)) (length n.seat.seen) l) (sym mine) (subst (λ (l : List Entry). AreRising (length l) (length n.seat.seen) r.added) seen r.rising);
          asked = λ tx is.
              let gives_is : gives m.task.body ≡ w.bodies tx.0 = d.gives_is ∙ ap (body_of bodies) (at tx is) in
              subst (λ (l : List (ℕ × Entry)). AreAsked (w.bodies tx.0) tx [] l) (sym mine)
              (subst (λ (l : List (ℕ × Entry)). AreAsked (w.bodies tx.0) tx l r.added) none
              (subst (λ (f : Body). AreAsked f tx m.seat.mine r.added) gives_is (r.asked tx (sym r.tx ∙ is))));
          planned = λ tx is. record {
            eager = nat_lt 0 (eager_jobs d.tx);
            jobs = m.jobs;
            plans = subst (λ (l : List (ℕ × Entry)). ArePlanned p.set n.seat.seen tx (nat_lt 0 (eager_jobs d.tx)) m.jobs 0 l) (sym mine)
                (subst (λ (b : Bool). ArePlanned p.set n.seat.seen tx b m.jobs 0 r.added) d.eager (r.plans tx (sym r.tx ∙ is)));
            own_is = ap eager_jobs (sym (at tx is)) ∙ own_jobs_are (eager_jobs d.tx) (length (ticks_of releases d.tx)) m.jobs d.jobs;
          };
          operator = λ none_is. absurd (no_tx (tx_of d.tx) (sym none_is ∙ sits));
        };
        gives_is = r.gives_is ∙ d.gives_is;
        jobs = r.jobs ∙ d.jobs;
        eager = r.eager ∙ d.eager;
        planned = r.count ∙ ap plans_in (sym mine);
      } where
        no_tx : (tx : TxId) → None ≡ Some tx → ⊥
        no_tx tx e = cc

  -- the teams of a run
  pub all_played : (gives : Y → ℕ → List Outcome → Op) (bodies : List Body) (releases : List (List ℕ)) (eager_jobs : ℕ → ℕ) (p : PlantFacts) (first : ℕ) (ws us : List (Worker B Y))
      → AreDealt gives bodies releases eager_jobs p.id (plans_from 0 releases) first 0 (teams ws)
      → Each (λ (w u : Worker B Y). Each (HasRun gives p) w.members.items u.members.items) ws us
      → All (λ (u : Worker B Y). All (HasPlayed gives (workload p.set bodies releases) eager_jobs p) u.members.items) us
  all_played gives bodies releases eager_jobs p first ws us a e =
      all_each (λ (w : Worker B Y). All (IsDealt gives bodies releases eager_jobs p.id (plans_from 0 releases) first) w.members.items)
      (λ (u : Worker B Y). All (HasPlayed gives (workload p.set bodies releases) eager_jobs p) u.members.items)
      (λ (w u : Worker B Y). Each (HasRun gives p) w.members.items u.members.items)
      (λ w u all r. all_each (IsDealt gives bodies releases eager_jobs p.id (plans_from 0 releases) first) (HasPlayed gives (workload p.set bodies releases) eager_jobs p) (HasRun gives p)
      (λ m n d k. has_played gives bodies releases eager_jobs p first m n d k) w.members.items u.members.items all r)
      ws us (all_teams (IsDealt gives bodies releases eager_jobs p.id (plans_from 0 releases) first) ws a.each) e

  pub same_counts : (gives : Y → ℕ → List Outcome → Op) (p : PlantFacts) (tx : ℕ) (ws us : List (Worker B Y))
      → Each (λ (w u : Worker B Y). Each (HasRun gives p) w.members.items u.members.items) ws us
      → total (members_at tx) (teams us) ≡ total (members_at tx) (teams ws)
  same_counts gives p tx ws us e =
      total_teams (members_at tx) us
      ∙ (each_total (λ (w u : Worker B Y). Each (HasRun gives p) w.members.items u.members.items) (λ (w : Worker B Y). members_at tx (team_of w))
      (λ w u r. each_total (HasRun gives p) (λ (m : Member B Y). sits_at tx m.seat.tx) (λ m n k. ap (sits_at tx) k.tx) w.members.items u.members.items r) ws us e
      ∙ sym (total_teams (members_at tx) ws))

  pub same_sizes : (gives : Y → ℕ → List Outcome → Op) (p : PlantFacts) (ws us : List (Worker B Y))
      → Each (λ (w u : Worker B Y). Each (HasRun gives p) w.members.items u.members.items) ws us
      → total (λ (l : List (Member B Y)). length l) (teams us) ≡ total (λ (l : List (Member B Y)). length l) (teams ws)
  same_sizes gives p ws us e =
      total_teams (λ (l : List (Member B Y)). length l) us
      ∙ (each_total (λ (w u : Worker B Y). Each (HasRun gives p) w.members.items u.members.items) (λ (w : Worker B Y). length (team_of w))
      (λ w u r. r.0) ws us e
      ∙ sym (total_teams (λ (l : List (Member B Y)). length l) ws))
