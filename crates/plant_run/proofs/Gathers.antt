-- Seats of members, the last first.
use Rattle.std.proofs.Common.{◌≡◌, ℕ, ◌+◌, List, [], ◌∷◌, ◌++◌, length, vec_len, Vec, Global, Option, Some, refl, sym, ap, ◌∙◌, subst, arith, rules, append_assoc, append-nil}
use Rattle.std.specs.Option.{option_to_list}
use Rattle.std.specs.Vec.{with_items}
use Rattle.std.proofs.lemmas.List.{with_items_is}
use Rattle.turn_cell.specs.Turn.{total}
use Rattle.turn_cell.proofs.Sums.{total-append}
use Rattle.txn_threads.specs.declared.member.Member.{Member}
use Rattle.txn_threads.specs.declared.member.Worker.{Worker}
use Rattle.shared_plant.specs.Seats.{SeatFacts}
use Rattle.plant_run.specs.Deals.{team_of, seats_of, seats_in}

seats_snoc : {B Y : Type 0} (ms : List (Member B Y)) (m : Member B Y) → seats_of (ms ++ m ∷ []) ≡ m.seat ∷ seats_of ms
seats_snoc [] m = refl
seats_snoc (x ∷ ms) m = ap (λ (l : List SeatFacts). l ++ x.seat ∷ []) (seats_snoc ms m)

teams_snoc : {B Y : Type 0} (ws : List (Worker B Y)) (w : Worker B Y) → seats_in (ws ++ w ∷ []) ≡ seats_of (team_of w) ++ seats_in ws
teams_snoc [] w = sym (append-nil (seats_of (team_of w)))
teams_snoc (x ∷ ws) w = ap (λ (l : List SeatFacts). l ++ seats_of (team_of x)) (teams_snoc ws w) ∙ append_assoc (seats_of (team_of w)) (seats_in ws) (seats_of (team_of x))

-- one more member gone
pub left_more : {B Y : Type 0} (all seats seats' : List SeatFacts) (ms ms' : List (Member B Y)) (m : Member B Y)
    → all ≡ seats ++ seats_of ms → ms ≡ ms' ++ m ∷ [] → seats' ≡ seats ++ m.seat ∷ [] → all ≡ seats' ++ seats_of ms'
left_more all seats seats' ms ms' m is e more =
    is ∙ (ap (λ l. seats ++ seats_of l) e ∙ (ap (λ l. seats ++ l) (seats_snoc ms' m)
    ∙ (sym (append_assoc seats (m.seat ∷ []) (seats_of ms')) ∙ ap (λ l. l ++ seats_of ms') (sym more))))

-- one more worker gone
pub gone_more : {B Y : Type 0} (all seats seats' : List SeatFacts) (ws ws' : List (Worker B Y)) (w : Worker B Y)
    → all ≡ seats ++ seats_in ws → ws ≡ ws' ++ w ∷ [] → seats' ≡ seats ++ seats_of (team_of w) → all ≡ seats' ++ seats_in ws'
gone_more all seats seats' ws ws' w is e more =
    is ∙ (ap (λ l. seats ++ seats_in l) e ∙ (ap (λ l. seats ++ l) (teams_snoc ws' w)
    ∙ (sym (append_assoc seats (seats_of (team_of w)) (seats_in ws')) ∙ ap (λ l. l ++ seats_in ws') (sym more))))

-- the last element of a list taken
pub popped_one : {X : Type 0} (o : Option X) (x : X) (a b : ℕ) → o ≡ Some x → a + length (option_to_list o) ≡ b → a + 1 ≡ b
popped_one o x a b e h = subst (λ (p : Option _). a + length (option_to_list p) ≡ b) e h

pub popped_items : {X : Type 0} (old new : List X) (o : Option X) (x : X) → o ≡ Some x → old ≡ new ++ option_to_list o → old ≡ new ++ x ∷ []
popped_items old new o x e h = h ∙ ap (λ p. new ++ option_to_list p) e

pub team_counts : {B Y : Type 0} (ws ws' : List (Worker B Y)) (w : Worker B Y) → ws ≡ ws' ++ w ∷ []
    → total (λ (u : Worker B Y). length (team_of u)) ws ≡ total (λ (u : Worker B Y). length (team_of u)) ws' + length (team_of w)
team_counts ws ws' w e =
    let f = λ (u : Worker _ _). length (team_of u) in
    ap (total f) e ∙ omega (arith, total-append f ws' (w ∷ []))

-- workers that were changed in their place
pub workers_are : {X : Type 0} (v : Vec X Global) (now us : List X) → now ≡ v.items → length us ≡ length now → (with_items v us).items ≡ us
workers_are v now us is long = let all : vec_len v ≡ length v.items = search rules in with_items_is v us (long ∙ (ap (λ (l : List _). length l) is ∙ sym all))
