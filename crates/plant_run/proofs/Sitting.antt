-- The seats of a plant, gathered from its workers.
use Rattle.std.proofs.Common.{◌≡◌, ℕ, zero, suc, ◌<◌, ◌++◌, if◌then◌else◌, nat_eq, List, [], ◌∷◌, length, slice_get, Option, None, Some, All, refl, sym, ap, subst, ◌∙◌, ⊎_elim, arith, length-append}
use Rattle.std.proofs.lemmas.Bool.Decides.{nat_tests}
use Rattle.std.proofs.lemmas.List.Elements.{All-head, All-tail}
use mathlib.Core.Logic.{dite}
use native.Mathlib.Decide.{ℕ_discrete}
use mathlib.Core.Option.{some, some-injective, some-ne-none}
use lib.ListN.{get_elem?}
use Rattle.rt_base.specs.declared.ids.TxId.{TxId}
use Rattle.txn_set.specs.Set.{Set}
use Rattle.turn_cell.specs.Turn.{total}
use Rattle.turn_cell.proofs.Sums.{total-append, terms_le}
use Rattle.turn_cell.proofs.Lists.{at_append, at_after, at_longer2}
use Rattle.shared_plant.specs.Seats.{SeatFacts, tx_of}
use Rattle.txn_threads.specs.declared.member.Member.{Member}
use Rattle.txn_threads.specs.declared.member.Worker.{Worker}
use Rattle.law_runs.specs.Seats.{AreSeats}
use Rattle.plant_run.specs.Deals.{sits_at, members_at, seats_of, seats_in}
use Rattle.plant_run.proofs.Crews.{teams}

abbrev pub seat_at : ℕ → SeatFacts → ℕ
seat_at tx s = sits_at tx s.tx

-- what holds of each seat

pub at_none : {X : Type 0} (P : X → Type 0) (k : ℕ) (x : X) → get_elem? [] k ≡ some x → P x
at_none P k x e = absurd (some-ne-none x (sym e))

pub at_one : {X : Type 0} (P : X → Type 0) (y : X) → P y → (k : ℕ) (x : X) → get_elem? (y ∷ []) k ≡ some x → P x
at_one P y h zero x e = subst P (some-injective y x e) h
at_one P y h (suc k) x e = at_none P k x e

pub at_both : {X : Type 0} (P : X → Type 0) (xs ys : List X) → ((k : ℕ) (x : X) → get_elem? xs k ≡ some x → P x) → ((k : ℕ) (x : X) → get_elem? ys k ≡ some x → P x)
    → (k : ℕ) (x : X) → get_elem? (xs ++ ys) k ≡ some x → P x
at_both P xs ys f h k x e = ⊎_elim (f k x) (λ t. h t.0 x t.1) (at_append xs ys k x e)

abbrev pub Among : List SeatFacts → SeatFacts → Type 0
Among seats s = (k : ℕ) × (get_elem? seats k ≡ some s)

pub in_front : (l m : List SeatFacts) (s : SeatFacts) → Among l s → Among (l ++ m) s
in_front l m s a = (a.0, at_longer2 l m a.0 s a.1)

pub in_back : (l m : List SeatFacts) (s : SeatFacts) → Among m s → Among (l ++ m) s
in_back l m s a = at_after l m a.0 s a.1

module _ {B Y : Type 0} where
  seats_have : (P : SeatFacts → Type 0) (ms : List (Member B Y)) → All (λ (m : Member B Y). P m.seat) ms → (k : ℕ) (s : SeatFacts) → get_elem? (seats_of ms) k ≡ some s → P s
  seats_have P [] all = at_none P
  seats_have P (m ∷ ms) all = at_both P (seats_of ms) (m.seat ∷ []) (seats_have P ms (All-tail (λ (n : Member B Y). P n.seat) m ms all)) (at_one P m.seat (All-head (λ (n : Member B Y). P n.seat) m ms all))

  pub each_seat : (P : SeatFacts → Type 0) (ws : List (Worker B Y)) → All (λ (w : Worker B Y). All (λ (m : Member B Y). P m.seat) w.members.items) ws → (k : ℕ) (s : SeatFacts) → get_elem? (seats_in ws) k ≡ some s → P s
  each_seat P [] all = at_none P
  each_seat P (w ∷ ws) all = at_both P (seats_in ws) (seats_of w.members.items)
      (each_seat P ws (All-tail (λ (u : Worker B Y). All (λ (m : Member B Y). P m.seat) u.members.items) w ws all))
      (seats_have P w.members.items (All-head (λ (u : Worker B Y). All (λ (m : Member B Y). P m.seat) u.members.items) w ws all))

  -- a member's seat is one of them

  in_seats : (ms : List (Member B Y)) (j : ℕ) (m : Member B Y) → slice_get ms j ≡ Some m → Among (seats_of ms) m.seat
  in_seats [] j m e = absurd cc
  in_seats (x ∷ ms) zero m e = let same : x ≡ m = cc in in_back (seats_of ms) (x.seat ∷ []) m.seat (0, ap (λ (n : Member B Y). some n.seat) same)
  in_seats (x ∷ ms) (suc j) m e = in_front (seats_of ms) (x.seat ∷ []) m.seat (in_seats ms j m e)

  pub in_teams : (ws : List (Worker B Y)) (i : ℕ) (w : Worker B Y) (j : ℕ) (m : Member B Y) → slice_get ws i ≡ Some w → slice_get w.members.items j ≡ Some m → Among (seats_in ws) m.seat
  in_teams [] i w j m e f = absurd cc
  in_teams (x ∷ ws) zero w j m e f = let same : x ≡ w = cc in in_back (seats_in ws) (seats_of x.members.items) m.seat (in_seats x.members.items j m (subst (λ (u : Worker B Y). slice_get u.members.items j ≡ Some m) (sym same) f))
  in_teams (x ∷ ws) (suc i) w j m e f = in_front (seats_in ws) (seats_of x.members.items) m.seat (in_teams ws i w j m e f)

  -- how many there are

  seats_count : (f : SeatFacts → ℕ) (ms : List (Member B Y)) → total f (seats_of ms) ≡ total (λ (m : Member B Y). f m.seat) ms
  seats_count f [] = refl
  seats_count f (m ∷ ms) = omega (arith, total-append f (seats_of ms) (m.seat ∷ []), seats_count f ms)

  pub seats_total : (tx : ℕ) (ws : List (Worker B Y)) → total (seat_at tx) (seats_in ws) ≡ total (members_at tx) (teams ws)
  seats_total tx [] = refl
  seats_total tx (w ∷ ws) = omega (arith, total-append (seat_at tx) (seats_in ws) (seats_of w.members.items), seats_count (seat_at tx) w.members.items, seats_total tx ws)

  seats_long : (ms : List (Member B Y)) → length (seats_of ms) ≡ length ms
  seats_long [] = refl
  seats_long (m ∷ ms) = omega (arith, length-append (seats_of ms) (m.seat ∷ []), seats_long ms)

  pub seats_number : (ws : List (Worker B Y)) → length (seats_in ws) ≡ total (λ (l : List (Member B Y)). length l) (teams ws)
  seats_number [] = refl
  seats_number (w ∷ ws) = omega (arith, length-append (seats_in ws) (seats_of w.members.items), seats_long w.members.items, seats_number ws)

-- where each transaction has one seat

total_some : {X : Type 0} (f : X → ℕ) (xs : List X) → 0 < total f xs → (k : ℕ) × (x : X) × (get_elem? xs k ≡ some x) × (0 < f x)
total_some f [] lt = absurd (omega (arith, lt))
total_some f (x ∷ xs) lt = dite (ℕ_discrete (f x) 0)
    (λ none. let r = total_some f xs (omega (arith, lt, none)) in (suc r.0, r.1, r.2, r.3))
    (λ some_here. (0, x, refl, omega (arith, some_here)))

sits_own : (tx : TxId) (o : Option TxId) → o ≡ Some tx → sits_at tx.0 o ≡ 1
sits_own tx o e = ap (sits_at tx.0) e ∙ same tx.0 where
  same : (n : ℕ) → ◌≡◌ {A = ℕ} (if nat_eq n n then 1 else 0) 1
  same n = grind (arith, nat_tests)

sits_is : (tx : ℕ) (o : Option TxId) → 0 < sits_at tx o → o ≡ Some (tx_of tx)
sits_is tx None lt = absurd (omega (arith, lt))
sits_is tx (Some t) lt = let same : tx ≡ t.0 = grind (arith, nat_tests) in ap (λ (n : ℕ). Some (tx_of n)) (sym same)

pub are_seats : (set : Set) (seats : List SeatFacts) → ((tx : ℕ) → tx < length set.txns → total (seat_at tx) seats ≡ 1)
    → ((k : ℕ) (s : SeatFacts) → get_elem? seats k ≡ some s → (tx : TxId) → s.tx ≡ Some tx → tx.0 < length set.txns) → AreSeats set seats
are_seats set seats once within = record {
  one = λ k l s t tx es et os ot.
      dite (ℕ_discrete k l) (λ e. e)
      (λ ne. absurd (
      let two = terms_le (seat_at tx.0) seats l k t s ne et es in
      let a = sits_own tx s.tx os in let b = sits_own tx t.tx ot in
      let one = once tx.0 (within k s es tx os) in
      omega (arith, two, a, b, one)));
  each = λ tx lt.
      let r = total_some (seat_at tx) seats (let one = once tx lt in omega (arith, one)) in
      (r.0, r.1, r.2, sits_is tx r.1.tx r.3);
}
