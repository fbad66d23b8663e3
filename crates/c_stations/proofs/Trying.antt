-- A try that had the turn, and what a seat keeps.
use Rattle.std.proofs.Common.{◌≡◌, ℕ, List, Option, refl, sym, ap, subst, ◌∙◌, inl, arith}
use Rattle.rt_base.specs.declared.ids.TxId.{TxId}
use Rattle.step_journal.specs.declared.entry.Entry.{Entry}
use Rattle.txn_set.specs.Set.{Set, IsCompiled}
use Rattle.set_admission.specs.Bounds.{MeetsAdmission}
use Rattle.set_admission.proofs.Kept.{keeps_bounds}
use Rattle.shared_plant.specs.Seats.{PlantFacts, SeatFacts, IsOf}
use Rattle.shared_plant.specs.Answers.{Answered}
use Rattle.c_stations.specs.Seats.{SeatSeen, seen_of, HasPlaces, IsStation}
use Rattle.c_stations.specs.Tries.{Tries, HadItsTurn}

pub still_of : (p : PlantFacts) (old new : SeatFacts) → new.plant ≡ old.plant → new.tx ≡ old.tx → IsOf p old → IsOf p new
still_of p old new plant tx is = (plant ∙ is.0, λ t e. is.1 t (sym tx ∙ e))

-- a seat whose plant and transaction are as they were is what it was
pub still_station : (p : PlantFacts) (old new : SeatFacts) (others : List SeatFacts) (spare : List Entry) (places txns items : ℕ)
    → IsStation p old others spare places txns items → new.plant ≡ old.plant → new.tx ≡ old.tx → IsStation p new others spare places txns items
still_station p old new others spare places txns items h plant tx = record {
  is_of = still_of p old new plant tx h.is_of;
  compiled = h.compiled;
  meets = h.meets;
  others_are = h.others_are;
  few = h.few;
  empty = h.empty;
  has_places = subst (λ (t : Option TxId). HasPlaces t places) (sym tx) h.has_places;
  txns_are = h.txns_are;
  items_are = h.items_are;
}

module _ {F : List Entry → ℕ → Type 0} {O : List Entry → Option Entry} where
  pub turned_station : (set : Set) (p : PlantFacts) (old new : SeatFacts) (others : List SeatFacts) (spare : List Entry) (places txns items : ℕ)
      → IsStation p old others spare places txns items → Answered set F O old new → IsStation p new others spare places txns items
  turned_station set p old new others spare places txns items h a =
      still_station p old new others spare places txns items h (ap (λ (s : SeatFacts). s.plant) a.after) (ap (λ (s : SeatFacts). s.tx) a.after)

  pub had_turn : (p : PlantFacts) (old new : SeatFacts) (left : ℕ) → IsCompiled p.set → MeetsAdmission p.set → Answered p.set F O old new
      → HadItsTurn F O (seen_of p old left) (seen_of p new left)
  had_turn p old new left compiled meets a = record { same = refl; answered = a; bounds = keeps_bounds p.set new.seen compiled meets a.legal }

module _ {K : Type 0} {S : SeatSeen → SeatSeen → Type 0} where
  pub tells : (r : ℕ) (old new : SeatSeen) → r ≡ 0 → S old new → Tries r 0 K S old new
  tells r old new e said = record {
    refused = λ some. absurd (some e);
    tried = λ _. inl refl;
    busy = λ _ no. absurd (omega (arith, no));
    told = λ _ _. said;
  }
