-- Seats that are handed out, the last one first, and the operator's, from which they come.
use Rattle.std.proofs.Common.{◌≡◌, ℕ, zero, suc, ◌+◌, ◌<◌, ◌≤◌, List, [], ◌∷◌, ◌++◌, length, length-append, Option, None, Some, true≢false, refl, sym, ap, subst, ◌∙◌, arith}
use Rattle.rt_base.specs.declared.ids.TxId.{TxId}
use Rattle.step_journal.specs.declared.entry.Entry.{Entry}
use Rattle.txn_set.specs.Set.{Set, IsCompiled}
use Rattle.set_admission.specs.Bounds.{MeetsAdmission}
use Rattle.std.specs.Option.{option_to_list}
use Rattle.shared_plant.specs.Seats.{PlantFacts, SeatFacts, IsOf, is_operator, newcomer, newcomers, tx_of}
use Rattle.c_stations.specs.Seats.{SeatSeen, seen_of, HasPlaces, IsStation, HandsOut}
use Rattle.turn_cell.specs.Seats.{TableId}
use Rattle.shared_plant.proofs.Starting.{popped}

one_more : (rest was : List SeatFacts) (o : Option SeatFacts) (s : SeatFacts) → was ≡ rest ++ option_to_list o → o ≡ Some s → was ≡ rest ++ s ∷ []
one_more rest was o s e is = e ∙ ap (λ p. rest ++ option_to_list p) is

pub longer : (rest was : List SeatFacts) (o : Option SeatFacts) (s : SeatFacts) → was ≡ rest ++ option_to_list o → o ≡ Some s → length was ≡ length rest + 1
longer rest was o s e is = ap length (one_more rest was o s e is) ∙ length-append rest (s ∷ [])

-- the seat that was taken off is that of the transaction whose number is how many are left
pub handed : (id : TableId) (rest was : List SeatFacts) (o : Option SeatFacts) (s : SeatFacts) → was ≡ rest ++ option_to_list o → o ≡ Some s → was ≡ newcomers id [] 0 (length was)
    → (rest ≡ newcomers id [] 0 (length rest)) × (s ≡ newcomer id [] 0 (Some (tx_of (length rest))))
handed id rest was o s e is all =
    let one : length rest + 1 ≡ suc (length rest) = omega arith in
    popped was rest (newcomers id [] 0 (length rest)) o s (newcomer id [] 0 (Some (tx_of (length rest)))) e is (all ∙ ap (newcomers id [] 0) (longer rest was o s e is ∙ one))

-- the seat that is left of its others stays what it was
pub rest_station : (p : PlantFacts) (s x : SeatFacts) (rest was : List SeatFacts) (o : Option SeatFacts) (spare : List Entry) (places txns items : ℕ)
    → IsStation p s was spare places txns items → was ≡ rest ++ option_to_list o → o ≡ Some x → IsStation p s rest spare places txns items
rest_station p s x rest was o spare places txns items h e is =
    let more : length was ≡ length rest + 1 = longer rest was o x e is in let all : length was ≤ length p.set.txns = h.few in record {
      is_of = h.is_of;
      compiled = h.compiled;
      meets = h.meets;
      others_are = (handed p.id rest was o x e is h.others_are).0;
      few = omega arith;
      empty = h.empty;
      has_places = h.has_places;
      txns_are = h.txns_are;
      items_are = h.items_are;
    }

-- it is a newcomer of a transaction of the set
pub is_newcomer : (p : PlantFacts) (s x : SeatFacts) (rest was : List SeatFacts) (o : Option SeatFacts) (spare : List Entry) (places txns items : ℕ)
    → IsStation p s was spare places txns items → was ≡ rest ++ option_to_list o → o ≡ Some x → (tx : TxId) × (x ≡ newcomer p.id [] 0 (Some tx)) × (tx.0 < length p.set.txns)
is_newcomer p s x rest was o spare places txns items h e is =
    let more : length was ≡ length rest + 1 = longer rest was o x e is in let all : length was ≤ length p.set.txns = h.few in
    (tx_of (length rest), (handed p.id rest was o x e is h.others_are).1, omega arith)

pub hands_out : (p : PlantFacts) (s x : SeatFacts) (rest was : List SeatFacts) (o : Option SeatFacts) (l m tx : ℕ) (old given : SeatSeen)
    → seen_of p s l ≡ old → l ≡ length was → m ≡ length rest → tx ≡ m → given ≡ seen_of p x 0 → was ≡ rest ++ option_to_list o → o ≡ Some x → was ≡ newcomers p.id [] 0 (length was)
    → HandsOut old (seen_of p s m) tx given
hands_out p s x rest was o l m tx old given view l_is m_is tx_is given_is e is all =
    let more : length was ≡ length rest + 1 = longer rest was o x e is in let place : length rest ≡ tx = sym m_is ∙ sym tx_is in
    subst (λ (z : SeatSeen). HandsOut z (seen_of p s m) tx given) view (record {
      last = omega arith;
      rest = ap (seen_of p s) (sym tx_is);
      seat = given_is ∙ ap (λ (z : SeatFacts). seen_of p z 0) ((handed p.id rest was o x e is all).1 ∙ ap (λ (k : ℕ). newcomer p.id [] 0 (Some (tx_of k))) place);
    })

newcomers_long : (id : TableId) (n : ℕ) → length (newcomers id [] 0 n) ≡ n
newcomers_long id zero = refl
newcomers_long id (suc n) = length-append (newcomers id [] 0 n) (newcomer id [] 0 (Some (tx_of n)) ∷ []) ∙ omega (arith, newcomers_long id n)

-- the operator's seat of a plant p that was started over this set, and stands behind q
pub first_station : (set : Set) (p q : PlantFacts) (all rest : List SeatFacts) (o : Option SeatFacts) (s : SeatFacts) (first : ℕ) (spare : List Entry) (places txns items : ℕ)
    → q ≡ p → p.set ≡ set → first ≡ 0 → all ≡ newcomers p.id [] first (length set.txns) ++ newcomer p.id [] first None ∷ [] → all ≡ rest ++ option_to_list o → o ≡ Some s
    → IsCompiled set → MeetsAdmission set → spare ≡ [] → places ≡ 64 → txns ≡ length set.txns → items ≡ length set.items
    → IsStation q s rest spare places txns items × (s ≡ newcomer q.id [] 0 None) × (length rest ≡ length q.set.txns)
first_station set p q all rest o s first spare places txns items same over none seats e is compiled meets empty room txns_is items_is =
    let n : ℕ = length set.txns in
    let at : all ≡ newcomers p.id [] 0 n ++ newcomer p.id [] 0 None ∷ [] = seats ∙ ap (λ (k : ℕ). newcomers p.id [] k n ++ newcomer p.id [] k None ∷ []) none in
    let two = popped all rest (newcomers p.id [] 0 n) o s (newcomer p.id [] 0 None) e is at in
    let long : length rest ≡ n = ap length two.0 ∙ newcomers_long p.id n in
    let many : length p.set.txns ≡ n = ap (λ (z : Set). length z.txns) over in
    let tx_is : s.tx ≡ None = ap (λ (t : SeatFacts). t.tx) two.1 in
    let of : IsOf p s = (ap (λ (t : SeatFacts). t.plant) two.1, λ tx h. absurd (true≢false (ap is_operator (sym tx_is ∙ h)))) in
    let station : IsStation p s rest spare places txns items = record {
      is_of = of;
      compiled = subst IsCompiled (sym over) compiled;
      meets = subst MeetsAdmission (sym over) meets;
      others_are = two.0 ∙ ap (newcomers p.id [] 0) (sym long);
      few = omega arith;
      empty = empty;
      has_places = subst (λ (t : Option TxId). HasPlaces t places) (sym tx_is) room;
      txns_are = txns_is ∙ sym many;
      items_are = items_is ∙ sym (ap (λ (z : Set). length z.items) over);
    } in
    subst (λ (z : PlantFacts). IsStation z s rest spare places txns items × (s ≡ newcomer z.id [] 0 None) × (length rest ≡ length z.set.txns)) (sym same) (station, two.1, long ∙ sym many)
