-- The least tick of a list, by what is in it.
use Rattle.std.proofs.Common.{◌≡◌, ℕ, zero, suc, ◌<◌, ◌≤◌, min, List, [], ◌∷◌, length, get_or, Option, None, Some, refl, ap, ◌∙◌, arith}
use Rattle.std.specs.List.{All, Contains}
use Rattle.std.specs.List.Sorted.{IsPermutation}
use Rattle.std.proofs.lemmas.List.Elements.{All-head, All-tail}
use Rattle.std.proofs.lemmas.List.Sorted.{IsPermutation-sym, length_permutation, All-permutation, Contains-permutation}
use Rattle.rt_base.specs.declared.release.Release.{Release}
use Rattle.release_calendar.specs.Agenda.{earlier, least_tick}

abbrev AtLeast : ℕ → Option ℕ → Type 0
AtLeast t None = Unit {0}
AtLeast t (Some u) = t ≤ u

abbrev AllFrom : ℕ → List Release → Type 0
AllFrom t planned = All (λ r. t ≤ r.tick) planned

earlier_from : (t u : ℕ) (o : Option ℕ) → t ≤ u → AtLeast t o → t ≤ earlier u o
earlier_from t u None h k = h
earlier_from t u (Some v) h k = omega (arith, h, k)

least_from : (t : ℕ) (planned : List Release) → AllFrom t planned → AtLeast t (least_tick planned)
least_from t [] a = tt
least_from t (r ∷ rest) a = earlier_from t r.tick (least_tick rest) (All-head (λ (s : Release). t ≤ s.tick) r rest a) (least_from t rest (All-tail (λ (s : Release). t ≤ s.tick) r rest a))

earlier_is : (t u : ℕ) (o : Option ℕ) → u ≡ t → AtLeast t o → earlier u o ≡ t
earlier_is t u None h k = h
earlier_is t u (Some v) h k = omega (arith, h, k)

-- a tick that is in the list and at most each of its ticks is the least
least_is : (t : ℕ) (planned : List Release) (k : ℕ) (d : Release) → AllFrom t planned → k < length planned → (get_or planned k d).tick ≡ t → least_tick planned ≡ Some t
least_is t [] k d a lt e = absurd (omega arith)
least_is t (r ∷ rest) zero d a lt e = ap Some (earlier_is t r.tick (least_tick rest) e (least_from t rest (All-tail (λ (s : Release). t ≤ s.tick) r rest a)))
least_is t (r ∷ rest) (suc k) d a lt e =
    let rest_is : least_tick rest ≡ Some t = least_is t rest k d (All-tail (λ (s : Release). t ≤ s.tick) r rest a) (omega arith) e in
    let head : t ≤ r.tick = All-head (λ (s : Release). t ≤ s.tick) r rest a in
    ap (λ (o : Option ℕ). Some (earlier r.tick o)) rest_is ∙ ap Some (let m : min r.tick t ≡ t = omega (arith, head) in m)

-- of each order of the list
pub least_in : (planned order : List Release) (r : Release) → IsPermutation planned order → All (λ s. r.tick ≤ s.tick) order → Contains order r → least_tick planned ≡ Some r.tick
least_in planned order r p a h =
    let back : IsPermutation order planned = IsPermutation-sym planned order p in
    let here : Contains planned r = Contains-permutation order planned r back h in
    least_is r.tick planned here.0 r (All-permutation (λ (s : Release). r.tick ≤ s.tick) order planned back a) here.1 (ap (λ (s : Release). s.tick) here.2)

pub none_in : (planned order : List Release) → IsPermutation planned order → length order ≡ 0 → least_tick planned ≡ None
none_in [] order p e = refl
none_in (r ∷ rest) order p e = absurd (omega (arith, length_permutation (r ∷ rest) order p))
