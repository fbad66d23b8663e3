-- What a plant leaves whose workers ran a workload.
use Rattle.std.proofs.Common.{◌≡◌, ℕ, zero, suc, ◌+◌, ◌-◌, ◌<◌, ◌≤◌, ◌++◌, List, [], ◌∷◌, length, take, drop, slice_get, slice_index_or, Option, None, Some, Result, Err, IfErr, All, refl, sym, ap, subst, ◌∙◌, arith, length-append, append-nil}
use Rattle.std.specs.Option.{option_to_list}
use Rattle.std.proofs.lemmas.Bool.Decides.{nat_tests}
use Rattle.std.proofs.lemmas.List.{drop-append-le, drop-drop, take-append-drop}
use Rattle.std.proofs.lemmas.List.Elements.{All-weaker}
use Rattle.std.proofs.lemmas.Option.{slice_get_within, get_or_from_slice_get}
use lib.ListN.{get_elem?}
use mathlib.Core.Option.{some}
use Rattle.rt_base.specs.declared.ids.TxId.{TxId}
use Rattle.rt_base.specs.declared.operation.Op.{Op}
use Rattle.rt_base.specs.declared.operation.Outcome.{Outcome}
use Rattle.txn_set.specs.Set.{Set}
use Rattle.step_journal.specs.declared.entry.Entry.{Entry}
use Rattle.step_journal.specs.History.{IsLegal}
use Rattle.board.specs.Histories.{step_answer}
use Rattle.turn_cell.specs.Turn.{Begins, below, total}
use Rattle.turn_cell.proofs.Sums.{total-append}
use Rattle.turn_cell.proofs.Lists.{whole}
use Rattle.shared_plant.specs.Seats.{TableId, PlantFacts, SeatFacts, IsOf, AreOf, Closed, newcomer, newcomers, tx_of}
use Rattle.shared_plant.proofs.Answering.{the_tx}
use Rattle.law_histories.specs.Sim.{Body, Workload, plans, plans_from}
use Rattle.sim_run.specs.Workloads.{workload, ticks_of, IsObedient}
use Rattle.txn_threads.specs.declared.member.RunStop.{RunStop}
use Rattle.txn_threads.specs.declared.member.RunStop.TheVariants.{Refused, NoPlan, Stopped}
use Rattle.txn_threads.specs.declared.member.Member.{Member}
use Rattle.txn_threads.specs.declared.member.Worker.{Worker}
use Rattle.txn_threads.specs.Scripts.{own_outcomes}
use Rattle.txn_threads.specs.Rising.{AreRising}
use Rattle.txn_threads.specs.Rounds.{Each}
use Rattle.txn_threads.specs.Runs.{MayRun, HasRun, IsDone, Operated, GotMore, MayDrain, CollectedTo, StopIs, IfStopped, part}
use Rattle.txn_threads.proofs.Draining.{part_join, part_none}
use Rattle.law_runs.specs.Seats.{HaveRun, IsSeatRun, IsDoneSeat}
use Rattle.law_runs.specs.Histories.{IsRunSoFar, IsRunOf}
use Rattle.law_runs.specs.Laws.{NoRefusal}
use Rattle.law_runs.specs.Plannable.{ArePlannable}
use Rattle.law_runs.specs.EagerLaws.{NeverUnplanned}
use Rattle.plant_run.specs.Deals.{sits_at, seats_in, jobs_at, IsDealt, AreDealt}
use Rattle.plant_run.specs.Works.{HasWorked, WasCut, CanGoOn}
use Rattle.plant_run.proofs.Deals.{snoc_same}
use Rattle.plant_run.proofs.Gathers.{popped_items}
use Rattle.plant_run.proofs.Crews.{teams, own_jobs_eager, all_jobs, all_teams, may_run, HasPlayed, all_played, same_counts}
use Rattle.plant_run.proofs.Sitting.{seat_at, at_one, at_both, each_seat, in_front, in_back, in_teams, seats_total, are_seats}

no_tx : (tx : TxId) → None ≡ Some tx → ⊥
no_tx tx e = cc

member_at : {X : Type 0} (P : X → Type 0) (xs : List X) (i : ℕ) (x : X) → All P xs → slice_get xs i ≡ Some x → P x
member_at P xs i x all e = subst P (get_or_from_slice_get xs i x x e) (all i x (slice_get_within xs i x e))

-- the workload of a plant's set
abbrev pub run_by : List Body → List (List ℕ) → PlantFacts → Workload
run_by bodies releases p = workload p.set bodies releases

module _ {B Y : Type 0} (gives : Y → ℕ → List Outcome → Op) (bodies : List Body) (releases : List (List ℕ)) (eager_jobs : ℕ → ℕ) (p : PlantFacts) where
  abbrev Played : List (Worker B Y) → Type 0
  Played us = All (λ (u : Worker B Y). All (HasPlayed gives (run_by bodies releases p) eager_jobs p) u.members.items) us

  all_seats : (P : SeatFacts → Type 0) (us : List (Worker B Y)) (op : SeatFacts) (seats : List SeatFacts) → ((m : Member B Y) → HasPlayed gives (run_by bodies releases p) eager_jobs p m → P m.seat) → Played us → P op → seats ≡ seats_in us ++ op ∷ []
      → (k : ℕ) (s : SeatFacts) → get_elem? seats k ≡ some s → P s
  all_seats P us op seats f played last is k s at =
      at_both P (seats_in us) (op ∷ [])
      (each_seat P us (All-weaker (λ (u : Worker B Y). All (HasPlayed gives (run_by bodies releases p) eager_jobs p) u.members.items) (λ (u : Worker B Y). All (λ (m : Member B Y). P m.seat) u.members.items)
      (λ u all. All-weaker (HasPlayed gives (run_by bodies releases p) eager_jobs p) (λ (m : Member B Y). P m.seat) f u.members.items all) us played))
      (at_one P op last) k s (subst (λ (l : List SeatFacts). get_elem? l k ≡ some s) is at)

  -- All that is known of a plant's workers, its operator's seat and all its seats when they have run.
  pub record Left (first : ℕ) (us : List (Worker B Y)) (op : SeatFacts) (seats : List SeatFacts) : Type 0 where
    pub played : Played us
    pub seats_are : seats ≡ seats_in us ++ op ∷ []
    pub of : AreOf p seats
    pub run : HaveRun (run_by bodies releases p) eager_jobs p seats

  pub left : (first : ℕ) (ws us : List (Worker B Y)) (old op : SeatFacts) (seats : List SeatFacts)
      → ((tx : ℕ) → 0 < eager_jobs tx → ticks_of releases tx ≡ []) → length releases ≡ length p.set.txns → p.start ≡ length (plans_from 0 releases)
      → AreDealt gives bodies releases eager_jobs p.id (plans_from 0 releases) first 0 (teams ws)
      → Each (λ (w u : Worker B Y). Each (HasRun gives p) w.members.items u.members.items) ws us
      → old ≡ newcomer p.id (plans_from 0 releases) first None → Operated old op → seats ≡ seats_in us ++ op ∷ []
      → Left first us op seats
  left first ws us old op seats eager each start dealt ran old_is operated seats_are =
      let played = all_played gives bodies releases eager_jobs p first ws us dealt ran in
      let plant : op.plant ≡ p.id = operated.plant ∙ ap (λ (s : SeatFacts). s.plant) old_is in
      let tx_none : op.tx ≡ None = operated.tx ∙ ap (λ (s : SeatFacts). s.tx) old_is in
      let mine_none : op.mine ≡ [] = operated.mine ∙ ap (λ (s : SeatFacts). s.mine) old_is in
      let seen : Begins (plans (run_by bodies releases p)) op.seen = subst (λ (l : List Entry). Begins l op.seen) (ap (λ (s : SeatFacts). s.seen) old_is) operated.seen in
      let of = all_seats (IsOf p) us op seats (λ m h. h.of) played (plant, λ tx is. absurd (no_tx tx (sym tx_none ∙ is))) seats_are in
      let last : IsSeatRun (run_by bodies releases p) eager_jobs op = record {
        began = seen;
        rising = no_places op.mine (length (plans (run_by bodies releases p))) (length op.seen) mine_none (long (plans (run_by bodies releases p)) op.seen seen);
        asked = λ tx is. absurd (no_tx tx (sym tx_none ∙ is));
        planned = λ tx is. absurd (no_tx tx (sym tx_none ∙ is));
        operator = λ e. mine_none;
      } in
      let runs = all_seats (IsSeatRun (run_by bodies releases p) eager_jobs) us op seats (λ m h. h.run) played last seats_are in
      let once : (tx : ℕ) → tx < length p.set.txns → total (seat_at tx) seats ≡ 1 = λ tx lt.
      let sum = ap (total (seat_at tx)) seats_are in
      let parts = total-append (seat_at tx) (seats_in us) (op ∷ []) in
      let none_here = ap (sits_at tx) tx_none in
      let counted = seats_total tx us in
      let same = same_counts gives p tx ws us ran in
      let one = dealt.once tx in
      let here : below tx (length releases) ≡ 1 = below_in tx (length releases) (omega (arith, lt, each)) in
      let none : below tx 0 ≡ 0 = grind (arith, nat_tests) in
      omega (arith, sum, parts, none_here, counted, same, one, here, none) in
      record {
        played = played;
        seats_are = seats_are;
        of = of;
        run = record {
          set_is = refl;
          start_is = start;
          own_seats = are_seats p.set seats once (λ k s at tx is. (of k s at).1 tx is);
          each = runs;
          eager = eager;
        };
      } where
        long : (xs ys : List Entry) → Begins xs ys → length xs ≤ length ys
        long xs ys b = omega (arith, ap (λ (l : List Entry). length l) b.1, length-append xs b.0)

        no_places : (mine : List (ℕ × Entry)) (a b : ℕ) → mine ≡ [] → a ≤ b → AreRising a b mine
        no_places mine a b none le = subst (AreRising a b) (sym none) le

        below_in : (n m : ℕ) → n < m → below n m ≡ 1
        below_in n m lt = grind (arith, nat_tests)

  module _ (first : ℕ) (us : List (Worker B Y)) (op : SeatFacts) (seats : List SeatFacts) (l : Left first us op seats) where
    -- where all jobs of all members have ended
    pub all_done : op.tx ≡ None → All (λ (u : Worker B Y). All (IsDone p) u.members.items) us → (k : ℕ) (s : SeatFacts) → get_elem? seats k ≡ some s → IsDoneSeat (run_by bodies releases p) eager_jobs s
    all_done none done k s at =
        at_both (IsDoneSeat (run_by bodies releases p) eager_jobs) (seats_in us) (op ∷ [])
        (each_seat (IsDoneSeat (run_by bodies releases p) eager_jobs) us (λ i d lt j e less. done_seat (slice_index_or (slice_index_or us i d).members.items j e) (l.played i d lt j e less) (done i d lt j e less)))
        (at_one (IsDoneSeat (run_by bodies releases p) eager_jobs) op (λ tx is. absurd (no_tx tx (sym none ∙ is))))
        k s (subst (λ (x : List SeatFacts). get_elem? x k ≡ some s) l.seats_are at)
      where
        done_seat : (m : Member B Y) → HasPlayed gives (run_by bodies releases p) eager_jobs p m → IsDone p m → IsDoneSeat (run_by bodies releases p) eager_jobs m.seat
        done_seat m h d tx is =
            let at : h.tx ≡ tx.0 = ap (λ (o : Option TxId). (the_tx tx o).0) (sym h.sits ∙ is) in
            let jobs : m.jobs ≡ jobs_at eager_jobs releases tx.0 = h.jobs ∙ ap (jobs_at eager_jobs releases) at in
            let all = all_jobs (eager_jobs tx.0) (ticks_of releases tx.0) (l.run.eager tx.0) in
            omega (arith, d tx is, jobs, all)

    -- a run that ended by itself was stopped by the out
    only_stopped : (stands : B → List Entry → Type 0) (set : B → Set) (room firsts : B → ℕ) (kept : B → List Entry) (b : B) → NoRefusal stands set room firsts kept → NeverUnplanned Y stands set room firsts kept
        → Closed stands set room firsts kept p b seats → IsObedient (run_by bodies releases p) → ArePlannable (run_by bodies releases p) eager_jobs
        → (s : RunStop) → StopIs gives p us s → s ≡ Stopped
    only_stopped stands set room firsts kept b law planned closed obeys few Stopped stop = refl
    only_stopped stands set room firsts kept b law planned closed obeys few (NoPlan tx e) stop =
        let met = stop.met in let m = met.1 in
        let all = member_at (λ (u : Worker B Y). All (HasPlayed gives (run_by bodies releases p) eager_jobs p) u.members.items) us stop.place stop.worker l.played stop.at in
        let h = member_at (HasPlayed gives (run_by bodies releases p) eager_jobs p) stop.worker.members.items met.0 m all met.2 in
        let at : h.tx ≡ tx.0 = ap (λ (o : Option TxId). (the_tx tx o).0) (sym h.sits ∙ met.3.own) in
        let jobs : m.jobs ≡ eager_jobs h.tx = own_jobs_eager (eager_jobs h.tx) (length (ticks_of releases h.tx)) m.jobs h.jobs (sym h.eager ∙ met.3.is_eager) in
        let here = in_front (seats_in us) (op ∷ []) m.seat (in_teams us stop.place stop.worker met.0 m stop.at met.2) in
        absurd (planned (run_by bodies releases p) eager_jobs p b seats closed l.run few here.0 m tx e
        (subst (λ (x : List SeatFacts). get_elem? x here.0 ≡ some m.seat) (sym l.seats_are) here.1) h.of h.planned (jobs ∙ ap eager_jobs at) met.3)
    only_stopped stands set room firsts kept b law planned closed obeys few (Refused job r) stop =
        let met = stop.met in let m = met.1 in let ref = met.3 in
        let all = member_at (λ (u : Worker B Y). All (HasPlayed gives (run_by bodies releases p) eager_jobs p) u.members.items) us stop.place stop.worker l.played stop.at in
        let h = member_at (HasPlayed gives (run_by bodies releases p) eager_jobs p) stop.worker.members.items met.0 m all met.2 in
        let at : h.tx ≡ job.tx.0 = ap (λ (o : Option TxId). (the_tx job.tx o).0) (sym h.sits ∙ ref.own) in
        let body : gives m.task.body ≡ (run_by bodies releases p).bodies job.tx.0 = h.gives_is ∙ ap (run_by bodies releases p).bodies at in
        let here = in_front (seats_in us) (op ∷ []) m.seat (in_teams us stop.place stop.worker met.0 m stop.at met.2) in
        let held : ℕ = length m.seat.seen - m.seat.base in
        absurd (law (run_by bodies releases p) eager_jobs p b seats closed l.run obeys here.0 m.seat job r held p.room
        (subst (λ (x : List SeatFacts). get_elem? x here.0 ≡ some m.seat) (sym l.seats_are) here.1) ref.own
        (ref.answer ∙ ap (λ (f : Body). step_answer p.set m.seat.seen held p.room job (f job.serial (own_outcomes m.seat.mine job))) body)
        ref.refusal)

    -- and so it says what the out got then
    pub out_stopped : (stands : B → List Entry → Type 0) (set : B → Set) (room firsts : B → ℕ) (kept : B → List Entry) (b : B) → NoRefusal stands set room firsts kept → NeverUnplanned Y stands set room firsts kept
        → Closed stands set room firsts kept p b seats → (z : Set) → p.set ≡ z → IsObedient (workload z bodies releases) → ArePlannable (workload z bodies releases) eager_jobs
        → (r : Result (Unit {0}) RunStop) (s : RunStop) → r ≡ Err s → IfErr r (λ x. StopIs gives p us x) → (P Q : Type 0) → IfStopped r P Q → P
    out_stopped stands set room firsts kept b law planned closed z set_is obeys few r s r_is stop P Q got =
        let only = only_stopped stands set room firsts kept b law planned closed (subst (λ (x : Set). IsObedient (workload x bodies releases)) (sym set_is) obeys)
        (subst (λ (x : Set). ArePlannable (workload x bodies releases) eager_jobs) (sym set_is) few) s (subst (λ (x : Result (Unit {0}) RunStop). IfErr x (λ y. StopIs gives p us y)) r_is stop) in
        subst (λ (x : Result (Unit {0}) RunStop). IfStopped x P Q) (r_is ∙ ap Err only) got

-- what the out got

-- the part that was drained, and what the board keeps
pub drained_parts : (before rest kept0 seen history kept : List Entry) (first d : ℕ) → history ≡ before ++ rest → kept0 ≡ drop first before → first ≤ length before
    → Begins seen history → first ≤ d → d ≤ length seen → kept ≡ drop d history → kept0 ++ rest ≡ part seen first d ++ kept
drained_parts before rest kept0 seen history kept first d is kept0_is low b le within kept_is =
    let all : kept0 ++ rest ≡ drop first history = ap (λ (x : List Entry). x ++ rest) kept0_is ∙ (sym (drop-append-le first before rest low) ∙ ap (drop first) (sym is)) in
    let same : part seen first d ≡ part history first d =
    sym (append-nil (part seen first d)) ∙ (ap (λ (x : List Entry). part seen first d ++ x) (sym (part_none history d)) ∙ part_join seen history first d d b le (omega arith) within) in
    let up : first + (d - first) ≡ d = omega (arith, le) in
    let back : drop (d - first) (drop first history) ≡ kept = drop-drop (d - first) first history ∙ (ap (λ (n : ℕ). drop n history) up ∙ sym kept_is) in
    all ∙ (sym (take-append-drop (d - first) (drop first history)) ∙ (ap (λ (x : List Entry). take (d - first) (drop first history) ++ x) back ∙ ap (λ (x : List Entry). x ++ kept) (sym same)))

pub has_worked : {O : Type 0} (w : Workload) (eager_jobs : ℕ → ℕ) (stands : List Entry → Type 0) (got : O → List Entry → Type 0) (o q : O) (kept0 kept seen history : List Entry) (first d : ℕ)
    → IsRunOf w eager_jobs history → stands history → kept0 ≡ drop first (plans w) → first ≤ length (plans w)
    → Begins seen history → first ≤ d → d ≤ length seen → kept ≡ drop d history → GotMore got o q (part seen first d)
    → HasWorked w eager_jobs stands (got o) (got q) kept0 kept
has_worked w eager_jobs stands got o q kept0 kept seen history first d run stood kept0_is low b le within kept_is more = record {
  rest = run.so_far.rest;
  run = subst (IsRunOf w eager_jobs) run.so_far.begins run;
  stood = subst stands run.so_far.begins stood;
  handed = record {
    passed = part seen first d;
    parts = drained_parts (plans w) run.so_far.rest kept0 seen history kept first d run.so_far.begins kept0_is low b le within kept_is;
    grown = more;
  };
}

pub was_cut : {O : Type 0} (w : Workload) (eager_jobs : ℕ → ℕ) (got lost : O → List Entry → Type 0) (o q : O) (kept0 kept history : List Entry) (first : ℕ) (s t : SeatFacts)
    → IsRunSoFar w eager_jobs history → kept0 ≡ drop first (plans w) → first ≤ length (plans w)
    → Begins t.seen history → s.drained ≡ first → t.drained ≤ length t.seen → kept ≡ drop t.drained history → CollectedTo got lost s t o q
    → WasCut w eager_jobs (got o) (got q) (lost q) kept0
was_cut w eager_jobs got lost o q kept0 kept history first s t u kept0_is low b s_is within kept_is c =
    let from = c.from in let to = c.within in
    let le : first ≤ t.drained = omega (arith, from, to, s_is) in
    let joined : part t.seen first c.to ++ part t.seen c.to t.drained ≡ part t.seen first t.drained = part_join t.seen t.seen first c.to t.drained (whole t.seen) (omega (arith, from, s_is)) to (omega (arith, to, within)) in
    record {
      rest = u.rest;
      so_far = subst (IsRunSoFar w eager_jobs) u.begins u;
      cut = record {
        passed = part t.seen first c.to;
        piece = part t.seen c.to t.drained;
        left = kept;
        parts = drained_parts (plans w) u.rest kept0 t.seen history kept first t.drained u.begins kept0_is low b le within kept_is ∙ ap (λ (x : List Entry). x ++ kept) (sym joined);
        grown = λ l g. subst (λ (n : ℕ). got q (l ++ part t.seen n c.to)) s_is (c.got_is l g);
        is_lost = c.lost_is;
      };
    }

-- what the out may get while workers run
pub may_drain : {O : Type 0} (w : Workload) (got good : O → List Entry → Type 0) (o : O) (kept0 : List Entry) (first : ℕ) (s : SeatFacts)
    → kept0 ≡ drop first (plans w) → first ≤ length (plans w) → s.seen ≡ plans w → s.drained ≡ first → CanGoOn w (got o) (good o) kept0 → MayDrain (IsLegal w.set) got good s o
may_drain w got good o kept0 first s kept0_is low seen drained can h to legal b =
    let begins : Begins (plans w) h = subst (λ (l : List Entry). Begins l h) seen b in
    let r = can begins.0 (subst (IsLegal w.set) begins.1 legal) (to - first) in
    let all : kept0 ++ begins.0 ≡ drop first h = ap (λ (x : List Entry). x ++ begins.0) kept0_is ∙ (sym (drop-append-le first (plans w) begins.0 low) ∙ ap (drop first) (sym begins.1)) in (
      r.begun,
      r.is_got,
      subst (λ (n : ℕ). good o (r.begun ++ part h n to)) (sym drained) (subst (λ (x : List Entry). good o (r.begun ++ take (to - first) x)) all r.is_good),
    )

-- From the start of a plant to its closing.

-- the operator's seat of a new plant, and the others
pub opened : (id : TableId) (past : List Entry) (first n m : ℕ) (seats0 seats1 : List SeatFacts) (r : Option SeatFacts) (op : SeatFacts) → n ≡ m
    → seats0 ≡ newcomers id past first n ++ newcomer id past first None ∷ [] → r ≡ Some op → seats0 ≡ seats1 ++ option_to_list r
    → (seats1 ≡ newcomers id past first m) × (op ≡ newcomer id past first None)
opened id past first n m seats0 seats1 r op same is some_is popped =
    let parts = snoc_same seats1 (newcomers id past first n) op (newcomer id past first None) (sym (popped_items seats0 seats1 r op some_is popped) ∙ is) in
    (parts.0 ∙ ap (newcomers id past first) same, parts.1)

pub newcomers_long : (id : TableId) (past : List Entry) (first n : ℕ) → length (newcomers id past first n) ≡ n
newcomers_long id past first zero = refl
newcomers_long id past first (suc n) = omega (arith, length-append (newcomers id past first n) (newcomer id past first (Some (tx_of n)) ∷ []), newcomers_long id past first n)

pub all_may_run : {B Y : Type 0} (gives : Y → ℕ → List Outcome → Op) (bodies : List Body) (releases : List (List ℕ)) (eager_jobs : ℕ → ℕ) (p : PlantFacts) (past : List Entry) (first : ℕ) (ws : List (Worker B Y))
    → length releases ≡ length p.set.txns → AreDealt gives bodies releases eager_jobs p.id past first 0 (teams ws)
    → All (λ (w : Worker B Y). All (MayRun p) w.members.items) ws
all_may_run gives bodies releases eager_jobs p past first ws each a =
    all_teams (MayRun p) ws (All-weaker (All (IsDealt gives bodies releases eager_jobs p.id past first)) (All (MayRun p))
    (λ l all. All-weaker (IsDealt gives bodies releases eager_jobs p.id past first) (MayRun p) (λ m d. may_run gives bodies releases eager_jobs p past first m each d) l all) (teams ws) a.each)

pub settled : {B Y : Type 0} (gives : Y → ℕ → List Outcome → Op) (bodies : List Body) (releases : List (List ℕ)) (eager_jobs : ℕ → ℕ) (p : PlantFacts) (set : Set) (first : ℕ)
    (seats0 seats1 : List SeatFacts) (r : Option SeatFacts) (op op' : SeatFacts) (ws now us ended : List (Worker B Y))
    → ((tx : ℕ) → 0 < eager_jobs tx → ticks_of releases tx ≡ []) → p.set ≡ set → p.start ≡ length (plans_from 0 releases) → length releases ≡ length set.txns
    → seats0 ≡ newcomers p.id (plans_from 0 releases) first (length set.txns) ++ newcomer p.id (plans_from 0 releases) first None ∷ []
    → r ≡ Some op → seats0 ≡ seats1 ++ option_to_list r
    → ((id : TableId) (past : List Entry) (n : ℕ) → seats1 ≡ newcomers id past n (length releases) → AreDealt gives bodies releases eager_jobs id past n 0 (teams ws))
    → now ≡ ws → Each (λ (w u : Worker B Y). Each (HasRun gives p) w.members.items u.members.items) now us → ended ≡ us → Operated op op'
    → Left gives bodies releases eager_jobs p first us op' (seats_in ended ++ op' ∷ [])
settled gives bodies releases eager_jobs p set first seats0 seats1 r op op' ws now us ended eager set_is start each is some_is popped dealt now_is ran ended_is operated =
    let o = opened p.id (plans_from 0 releases) first (length set.txns) (length releases) seats0 seats1 r op (sym each) is some_is popped in
    left gives bodies releases eager_jobs p first ws us op op' (seats_in ended ++ op' ∷ []) eager (each ∙ ap (λ (z : Set). length z.txns) (sym set_is)) start (dealt p.id (plans_from 0 releases) first o.0)
    (subst (λ (l : List (Worker _ _)). Each (λ (w u : Worker _ _). Each (HasRun gives p) w.members.items u.members.items) l us) now_is ran) o.1 operated
    (ap (λ (l : List (Worker _ _)). seats_in l ++ op' ∷ []) ended_is)

-- what a closed plant says of its operator's seat
pub record Ends {Z : Type 0} (firsts : Z → ℕ) (kept : Z → List Entry) (b : Z) (history : List Entry) (first : ℕ) (old op : SeatFacts) : Type 0 where
  pub begins : Begins op.seen history
  pub drained_is : old.drained ≡ first
  pub low : first ≤ op.drained
  pub within : op.drained ≤ length op.seen
  pub kept_is : kept b ≡ drop op.drained history

pub ends : {B Y Z : Type 0} (gives : Y → ℕ → List Outcome → Op) (bodies : List Body) (releases : List (List ℕ)) (eager_jobs : ℕ → ℕ) (p : PlantFacts) (first : ℕ) (us : List (Worker B Y)) (old op : SeatFacts) (seats : List SeatFacts)
    (stands : Z → List Entry → Type 0) (set : Z → Set) (room firsts : Z → ℕ) (kept : Z → List Entry) (b : Z)
    → Left gives bodies releases eager_jobs p first us op seats → (c : Closed stands set room firsts kept p b seats)
    → old ≡ newcomer p.id (plans_from 0 releases) first None → Operated old op → first ≤ length (plans_from 0 releases)
    → (old.drained ≤ length old.seen → op.drained ≤ length op.seen)
    → Ends firsts kept b c.history first old op
ends gives bodies releases eager_jobs p first us old op seats stands set room firsts kept b l c old_is operated low within =
    let here = in_back (seats_in us) (op ∷ []) op (0, refl) in
    let at : get_elem? seats here.0 ≡ some op = subst (λ (x : List SeatFacts). get_elem? x here.0 ≡ some op) (sym l.seats_are) here.1 in
    let tx_none : op.tx ≡ None = operated.tx ∙ ap (λ (s : SeatFacts). s.tx) old_is in
    let drained = ap (λ (s : SeatFacts). s.drained) old_is in
    let seen = ap (λ (s : SeatFacts). length s.seen) old_is in
    let up = operated.more in
    record {
      begins = (c.each here.0 op at).0;
      drained_is = drained;
      low = omega (arith, up, drained);
      within = within (omega (arith, drained, seen, low));
      kept_is = c.legal.rest ∙ ap (λ (n : ℕ). drop n c.history) (sym (c.drained here.0 op at tx_none));
    }
