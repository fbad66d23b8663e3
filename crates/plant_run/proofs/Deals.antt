-- Members dealt out one after another.
use Rattle.std.proofs.Common.{◌≡◌, ℕ, zero, suc, ◌+◌, ◌%◌, ◌<◌, ◌≤◌, if◌then◌else◌, nat_eq, nat_lt, List, [], ◌∷◌, ◌++◌, length, map, set, take, get_or, slice_index_or, Some, Vec, Global, vec_len, vec_capacity, All, refl, sym, ap, subst, ◌∙◌, arith}
use Rattle.std.proofs.lemmas.List.{length-set, get_or-set_same, get_or-set_other, map-set, take_more}
use Rattle.std.proofs.Math.Seq.{take-length}
use Rattle.std.proofs.lemmas.Bool.Decides.{nat_tests}
use Rattle.std.proofs.lemmas.List.Elements.{All-set, All-push}
use mathlib.Core.Logic.{dite}
use native.Mathlib.Decide.{ℕ_discrete}
use Rattle.rt_base.specs.declared.operation.Op.{Op}
use Rattle.rt_base.specs.declared.operation.Op.TheVariants.{Compute}
use Rattle.rt_base.specs.declared.operation.Outcome.{Outcome}
use Rattle.step_journal.specs.declared.entry.Entry.{Entry}
use Rattle.turn_cell.specs.Turn.{below, total}
use Rattle.turn_cell.proofs.Sums.{total-append, below_next}
use Rattle.shared_plant.specs.Seats.{TableId, SeatFacts, newcomer, newcomers, tx_of}
use Rattle.law_histories.specs.Sim.{Body}
use Rattle.sim_run.proofs.Calls.{mapped_at}
use Rattle.txn_threads.specs.declared.member.Member.{Member}
use Rattle.plant_run.specs.Deals.{sits_at, members_at, share, jobs_at, HavePlaces, IsDealt, AreDealt}

total_set : {X : Type 0} (f : X → ℕ) (xs : List X) (i : ℕ) (y d : X) → i < length xs → total f (set xs i y) + f (get_or xs i d) ≡ total f xs + f y
total_set f [] i y d lt = absurd (omega arith)
total_set f (x ∷ xs) zero y d lt = omega arith
total_set f (x ∷ xs) (suc i) y d lt = omega (arith, total_set f xs i y d (omega arith))

abbrev pub Row : Type 0 → Type 0 → Type 0
Row B Y = Vec (Member B Y) Global

module _ {B Y : Type 0} where
  abbrev pub rows : List (Row B Y) → List (List (Member B Y))
  rows lists = map (λ (v : Row B Y). v.items) lists

  row_set : (lists : List (Row B Y)) (at : ℕ) (list : Row B Y) → rows (set lists at list) ≡ set (rows lists) at list.items
  row_set lists at list = map-set (λ (v : Row B Y). v.items) lists at list

  row_at : (lists : List (Row B Y)) (at : ℕ) (list : Row B Y) → at < length lists → list ≡ slice_index_or lists at list → get_or (rows lists) at list.items ≡ list.items
  row_at lists at list lt is = mapped_at (λ (v : Row B Y). v.items) lists at list list.items lt ∙ ap (λ (v : Row B Y). v.items) (sym is)

  rows_long : (lists : List (Row B Y)) → length (rows lists) ≡ length lists
  rows_long [] = refl
  rows_long (x ∷ xs) = ap suc (rows_long xs)

  -- a number of each row, where one row gets one more member
  row_counts : (f : List (Member B Y) → ℕ) (n : ℕ) (lists : List (Row B Y)) (at : ℕ) (list list' : Row B Y) → at < length lists → list ≡ slice_index_or lists at list
      → f list'.items ≡ f list.items + n → total f (rows (set lists at list')) ≡ total f (rows lists) + n
  row_counts f n lists at list list' lt is more =
      let long = rows_long lists in
      let t = total_set f (rows lists) at list'.items list.items (omega arith) in
      let here = ap f (row_at lists at list lt is) in
      let there = ap (total f) (row_set lists at list') in
      omega (arith, t, here, there, more)

  module _ (gives : Y → ℕ → List Outcome → Op) (bodies : List Body) (releases : List (List ℕ)) (eager_jobs : ℕ → ℕ) (id : TableId) (past : List Entry) (first : ℕ) where
    abbrev Is : Member B Y → Type 0
    Is = IsDealt gives bodies releases eager_jobs id past first

    pub none_dealt : (lists : List (Row B Y)) → All (λ (l : Row B Y). l.items ≡ []) lists → AreDealt gives bodies releases eager_jobs id past first (length releases) (rows lists)
    none_dealt lists empty = record {
      each = none_each lists empty;
      once = λ tx. omega (arith, none_count (members_at tx) refl lists empty);
      count = omega (arith, none_count (λ (l : List (Member B Y)). length l) refl lists empty);
    } where
      none_count : (f : List (Member B Y) → ℕ) → f [] ≡ 0 → (lists : List (Row B Y)) → All (λ (l : Row B Y). l.items ≡ []) lists → total f (rows lists) ≡ 0
      none_count f nil [] empty = refl
      none_count f nil (x ∷ xs) empty =
          let here = ap f (empty 0 x (omega arith)) in
          let rest = none_count f nil xs (λ i d lt. empty (suc i) d (omega arith)) in
          omega (arith, here, nil, rest)

      none_each : (lists : List (Row B Y)) → All (λ (l : Row B Y). l.items ≡ []) lists → All (All Is) (rows lists)
      none_each [] empty i d lt = absurd (omega arith)
      none_each (x ∷ xs) empty zero d lt = λ j e less. absurd (omega (arith, less, ap (λ (l : List (Member B Y)). length l) (empty 0 x (omega arith))))
      none_each (x ∷ xs) empty (suc i) d lt = none_each xs (λ j e less. empty (suc j) e (omega arith)) i d (omega arith)

    -- one more member
    pub dealt_more : (left tx at : ℕ) (lists : List (Row B Y)) (list list' : Row B Y) (m : Member B Y) → left ≡ tx + 1 → at < length lists → list ≡ slice_index_or lists at list
        → list'.items ≡ list.items ++ m ∷ [] → Is m → m.seat ≡ newcomer id past first (Some (tx_of tx))
        → AreDealt gives bodies releases eager_jobs id past first left (rows lists) → AreDealt gives bodies releases eager_jobs id past first tx (rows (set lists at list'))
    dealt_more left tx at lists list list' m left_is lt is more dealt seat a = record {
      each =
          let was : All Is list.items = subst (All Is) (row_at lists at list lt is) (a.each at list.items (omega (arith, rows_long lists))) in
          let now : All Is list'.items = subst (All Is) (sym more) (All-push Is list.items m was dealt) in
          subst (All (All Is)) (sym (row_set lists at list')) (All-set (All Is) (rows lists) at list'.items now a.each);
      once = λ t.
          let own : sits_at t m.seat.tx ≡ (if nat_eq t tx then 1 else 0) = ap (λ (s : SeatFacts). sits_at t s.tx) seat in
          let one : members_at t list'.items ≡ members_at t list.items + (if nat_eq t tx then 1 else 0) =
          ap (members_at t) more ∙ omega (arith, total-append (λ (x : Member B Y). sits_at t x.seat.tx) list.items (m ∷ []), own) in
          let sum = row_counts (members_at t) (if nat_eq t tx then 1 else 0) lists at list list' lt is one in
          let next = below_next t tx in
          let is_left = ap (below t) left_is in
          omega (arith, sum, next, is_left, a.once t);
      count =
          let one : length list'.items ≡ length list.items + 1 = ap (λ (l : List (Member B Y)). length l) more ∙ length_snoc list.items m in
          let sum = row_counts (λ (l : List (Member B Y)). length l) 1 lists at list list' lt is one in
          omega (arith, sum, a.count, left_is);
    } where
      length_snoc : (l : List (Member B Y)) (x : Member B Y) → length (l ++ x ∷ []) ≡ length l + 1
      length_snoc [] x = refl
      length_snoc (y ∷ l) x = omega (arith, length_snoc l x)

  -- the list that gets one more has one more place
  pub place_left : (left tx at : ℕ) (lists : List (Row B Y)) (d : Row B Y) → left ≡ tx + 1 → at ≡ tx % length lists → at < length lists → HavePlaces left lists
      → vec_len (slice_index_or lists at d) + share (length lists) at tx < vec_capacity (slice_index_or lists at d)
  place_left left tx at lists d left_is is lt places =
      let was = places at d lt in
      let step : share (length lists) at left ≡ share (length lists) at tx + 1 =
      ap (share (length lists) at) (left_is ∙ next tx) ∙ ap (λ (b : ℕ). share (length lists) at tx + b) (itself (tx % length lists) at is) in
      omega (arith, was, step)
    where
      next : (n : ℕ) → n + 1 ≡ suc n
      next n = omega arith

      itself : (a b : ℕ) → b ≡ a → ◌≡◌ {A = ℕ} (if nat_eq a b then 1 else 0) 1
      itself a b e = grind (arith, nat_tests)

  pub places_more : (left tx at : ℕ) (lists : List (Row B Y)) (list list' : Row B Y) → left ≡ tx + 1 → at ≡ tx % length lists → at < length lists → list ≡ slice_index_or lists at list
      → vec_len list' ≡ vec_len list + 1 → vec_capacity list' ≡ vec_capacity list → HavePlaces left lists → HavePlaces tx (set lists at list')
  places_more left tx at lists list list' left_is is lt here longer same places j d less =
      let long = length-set lists at list' in
      let count = ap (λ (n : ℕ). share n j tx) long in
      dite (ℕ_discrete j at)
      (λ e.
      let low = place_left left tx at lists list left_is is lt places in
      let there : slice_index_or (set lists at list') j d ≡ list' = ap (λ (k : ℕ). slice_index_or (set lists at list') k d) e ∙ get_or-set_same lists at list' d lt in
      let a = ap (λ (v : Row B Y). vec_len v) there in let b = ap (λ (v : Row B Y). vec_capacity v) there in
      let c = ap (λ (v : Row B Y). vec_len v) here in let f = ap (λ (v : Row B Y). vec_capacity v) here in
      let h = ap (λ (k : ℕ). share (length lists) k tx) e in
      omega (arith, low, a, b, c, f, h, count, longer, same))
      (λ ne.
      let there = get_or-set_other lists at j list' d ne in
      let a = ap (λ (v : Row B Y). vec_len v) there in let b = ap (λ (v : Row B Y). vec_capacity v) there in
      let was = places j d (omega (arith, less, long)) in
      let fewer : share (length lists) j tx ≤ share (length lists) j left = subst (λ (k : ℕ). share (length lists) j tx ≤ share (length lists) j k) (sym (left_is ∙ next tx)) (omega arith) in
      omega (arith, was, a, b, count, fewer))
    where
      next : (n : ℕ) → n + 1 ≡ suc n
      next n = omega arith

-- the last of the new seats
pub snoc_same : {X : Type 0} (xs ys : List X) (x y : X) → xs ++ x ∷ [] ≡ ys ++ y ∷ [] → (xs ≡ ys) × (x ≡ y)
snoc_same [] [] x y e = let same : x ≡ y = cc in (refl, same)
snoc_same [] (z ∷ []) x y e = absurd cc
snoc_same [] (z ∷ w ∷ ys) x y e = absurd cc
snoc_same (z ∷ []) [] x y e = absurd cc
snoc_same (z ∷ w ∷ xs) [] x y e = absurd cc
snoc_same (z ∷ xs) (w ∷ ys) x y e =
    let head : z ≡ w = cc in let tail : xs ++ x ∷ [] ≡ ys ++ y ∷ [] = cc in
    let rest = snoc_same xs ys x y tail in
    (ap (λ (v : _). v ∷ xs) head ∙ ap (λ l. w ∷ l) rest.0, rest.1)

pub last_seat : (id : TableId) (past : List Entry) (first left tx : ℕ) (seats seats' : List SeatFacts) (s : SeatFacts) → left ≡ tx + 1
    → seats ≡ newcomers id past first left → seats ≡ seats' ++ s ∷ [] → (seats' ≡ newcomers id past first tx) × (s ≡ newcomer id past first (Some (tx_of tx)))
last_seat id past first left tx seats seats' s left_is is e =
    let next : left ≡ suc tx = left_is ∙ omega arith in
    snoc_same seats' (newcomers id past first tx) s (newcomer id past first (Some (tx_of tx))) (sym e ∙ (is ∙ ap (newcomers id past first) next))

-- the bodies that are left

pub all_bodies : {X : Type 0} (xs : List X) (n : ℕ) → length xs ≡ n → xs ≡ take n xs
all_bodies xs n is = sym (ap (λ (k : ℕ). take k xs) (sym is) ∙ take-length xs)

-- the last of them taken
pub bodies_more : {X : Type 0} (all old new : List X) (x : X) (left tx : ℕ) → left ≡ tx + 1 → tx < length all → old ≡ take left all → old ≡ new ++ x ∷ []
    → (new ≡ take tx all) × (x ≡ get_or all tx x)
bodies_more all old new x left tx left_is lt is e =
    let parts : take left all ≡ take tx all ++ get_or all tx x ∷ [] = ap (λ (k : ℕ). take k all) left_is ∙ take_more all tx x lt in
    snoc_same new (take tx all) x (get_or all tx x) (sym e ∙ (is ∙ parts))

pub is_dealt : {B Y : Type 0} (gives : Y → ℕ → List Outcome → Op) (bodies : List Y) (releases : List (List ℕ)) (eager_jobs : ℕ → ℕ) (id : TableId) (past : List Entry) (first tx : ℕ) (m : Member B Y) (body : Y)
    → tx < length releases → tx < length bodies → body ≡ get_or bodies tx body → m.seat ≡ newcomer id past first (Some (tx_of tx)) → gives m.task.body ≡ gives body
    → m.jobs ≡ jobs_at eager_jobs releases tx → m.eager ≡ nat_lt 0 (eager_jobs tx)
    → IsDealt gives (map gives bodies) releases eager_jobs id past first m
is_dealt gives bodies releases eager_jobs id past first tx m body within some is seat gives_is jobs eager = record {
  tx = tx;
  within = within;
  seat = seat;
  gives_is = gives_is ∙ (ap gives is ∙ sym (mapped_at gives bodies tx body (λ serial outcomes. Compute) some));
  jobs = jobs;
  eager = eager;
}
