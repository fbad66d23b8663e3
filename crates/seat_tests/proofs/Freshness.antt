-- Seats that have made no call, one by one and in a list, and members with such seats.
use Rattle.std.proofs.Common.{◌≡◌, ℕ, zero, suc, List, [], ◌∷◌, ◌++◌, None, Some, All, refl, sym, ap, ◌∙◌, subst, ⊎_elim, arith}
use Rattle.std.proofs.lemmas.List.Elements.{All-append}
use mathlib.Core.Option.{some, some-ne-none}
use lib.ListN.{get_elem?}
use Rattle.turn_cell.proofs.Lists.{at_longer2, at_snoc_place, popped_last}
use Rattle.step_journal.specs.declared.entry.Entry.{Entry}
use Rattle.shared_plant.specs.Seats.{PlantFacts, SeatFacts, TableId, IsOf, AreOf, newcomer, newcomers, tx_of}
use Rattle.rt_base.specs.declared.ids.TxId.{TxId}
use Rattle.txn_threads.specs.declared.member.Member.{Member}
use Rattle.txn_threads.specs.Scripts.{own_outcomes, job_of}
use Rattle.txn_threads.specs.Runs.{MayRun}
use Rattle.seat_tests.specs.Fresh.{IsFresh, AreFresh}

some_fresh : (id : TableId) (past : List Entry) (first n k : ℕ) (s : SeatFacts) → get_elem? (newcomers id past first n) k ≡ some s → s.mine ≡ []
some_fresh id past first zero k s e = absurd (some-ne-none s (sym e))
some_fresh id past first (suc n) k s e = ⊎_elim (λ t. some_fresh id past first n k s t.1) (λ t. subst (λ (x : SeatFacts). x.mine ≡ []) t.1 refl)
    (at_snoc_place (newcomers id past first n) (newcomer id past first (Some (tx_of n))) s k e)

pub all_fresh : (p : PlantFacts) (id : TableId) (past : List Entry) (first n : ℕ) (seats : List SeatFacts) → seats ≡ newcomers id past first n ++ newcomer id past first None ∷ [] → AreOf p seats → AreFresh p seats
all_fresh p id past first n seats is of k s e = (
  of k s e,
  ⊎_elim (λ t. some_fresh id past first n k s t.1) (λ t. subst (λ (x : SeatFacts). x.mine ≡ []) t.1 refl)
      (at_snoc_place (newcomers id past first n) (newcomer id past first None) s k (subst (λ (l : List SeatFacts). get_elem? l k ≡ some s) is e)),
)

pub fresh_last : (p : PlantFacts) (old seats : List SeatFacts) (seat : SeatFacts) → AreFresh p old → old ≡ seats ++ seat ∷ [] → IsFresh p seat × AreFresh p seats
fresh_last p old seats seat all is =
    let of = subst (AreFresh p) is all in (of _ seat (popped_last (seats ++ seat ∷ []) seats seat refl), λ k s e. of k s (at_longer2 seats (seat ∷ []) k s e))

-- all of a list with one more

all_one : {X : Type 0} (P : X → Type 0) (x : X) → P x → All P (x ∷ [])
all_one P x p zero d less = p
all_one P x p (suc i) d less = absurd (omega (arith, less))

pub all_with : {X : Type 0} (P : X → Type 0) (xs new : List X) (x : X) → All P xs → P x → new ≡ xs ++ x ∷ [] → All P new
all_with P xs new x all one is = subst (All P) (sym is) (All-append P xs (x ∷ []) all (all_one P x one))

-- members that may run

pub may_run : {B Y : Type 0} (p : PlantFacts) (s : SeatFacts) (tx : TxId) (m : Member B Y) → IsFresh p s → s.tx ≡ Some tx → m.seat ≡ s → MayRun p m
may_run p s tx m fresh is same = record {
  of = subst (IsOf p) (sym same) fresh.0;
  has = (tx, ap (λ (x : SeatFacts). x.tx) same ∙ is);
  fresh = λ t e serial. ap (λ (l : List (ℕ × Entry)). own_outcomes l (job_of t serial)) (ap (λ (x : SeatFacts). x.mine) same ∙ fresh.1);
}
