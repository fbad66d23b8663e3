-- The first updater without a deadline: there is one exactly where not all have deadlines.
use Rattle.std.proofs.Common.{◌≡◌, ◌≢◌, ℕ, zero, suc, ◌+◌, ◌<◌, ◌≤◌, Bool, true, false, List, length, Option, Some, None, is_some, is_none, refl, ap, subst, ⊎_elim, arith}
use Rattle.std.specs.List.{list_all, filter, range_with_len}
use Rattle.std.specs.Option.{option_map}
use Rattle.std.proofs.lemmas.Bool.{cases_lt, cases_Bool, and_parts, and_from, false_from_ne_true}
use Rattle.std.proofs.lemmas.List.{length-map}
use Rattle.response_test.specs.Response.{least_from}
use Rattle.response_test.proofs.Least.{least_from-found, least_from-none, least_from-fails}
use Rattle.txn_set.specs.Set.{Set}
use Rattle.set_admission.proofs.Admitted.{map-none}
use Rattle.update_rates.specs.declared.updaters.Updater.{Updater}
use Rattle.update_rates.specs.declared.error.RateError.TheVariants.{TooTight}
use Rattle.update_rates.specs.Updaters.{updater_of, updaters}
use Rattle.update_rates.specs.Rates.{is_earlier, earlier_than, place_of, deadline}
use Rattle.update_rates.specs.Refusal.{is_tight, last_load, too_tight}
use Rattle.update_rates.specs.Laws.{PeriodsAreGreatest, TightUnlessKept}
use Rattle.update_rates.proofs.Places.{one-earlier, place-less, place-inside}
use Rattle.update_rates.proofs.Greatest.{deadline-is, keeps-one, at-most}

-- a test of the earlier updaters
range-all : (p q : ℕ → Bool) (a n : ℕ) → ((h : ℕ) → a ≤ h → h < a + n → p h ≡ true → q h ≡ true) → list_all q (filter p (range_with_len a n)) ≡ true
range-all p q a zero each = refl
range-all p q a (suc n) each =
    let rest = range-all p q (a + 1) n (λ h low high. each h (omega arith) (omega arith)) in
    ⊎_elim
    (λ (yes : p a ≡ true). let here : q a ≡ true = each a (omega arith) (omega arith) yes in rw yes (and_from (q a) (list_all q (filter p (range_with_len (a + 1) n))) here rest))
    (λ (no : p a ≡ false). rw no rest)
    (cases_Bool (p a))

all-range : (p q : ℕ → Bool) (a n : ℕ) → list_all q (filter p (range_with_len a n)) ≡ true → (h : ℕ) → a ≤ h → h < a + n → p h ≡ true → q h ≡ true
all-range p q a zero all h low high in' = absurd (omega arith)
all-range p q a (suc n) all h low high in' =
    ⊎_elim
    (λ (passes : p a ≡ true).
    let both = and_parts (q a) (list_all q (filter p (range_with_len (a + 1) n))) (rw passes at all) in
    ⊎_elim
    (λ (later : a < h). all-range p q (a + 1) n both.1 h (omega arith) (omega arith) in')
    (λ (le : h ≤ a). let here : a ≡ h = omega arith in subst (λ (i : ℕ). q i ≡ true) here both.0)
    (cases_lt a h))
    (λ (fails : p a ≡ false).
    ⊎_elim
    (λ (later : a < h). all-range p q (a + 1) n (rw fails at all) h (omega arith) (omega arith) in')
    (λ (le : h ≤ a). let here : h ≡ a = omega arith in let passes = ap p here in absurd cc)
    (cases_lt a h))
    (cases_Bool (p a))

none-is : {A : Type 0} (o : Option A) → is_none o ≡ true → o ≡ None
none-is None e = refl
none-is (Some x) e = absurd cc

is-none : {A : Type 0} (o : Option A) → o ≡ None → is_none o ≡ true
is-none o e = rw e refl

no-none : {A : Type 0} (o : Option A) → is_some o ≡ true → o ≡ None → ⊥
no-none o e none = let absent : is_some o ≡ false = rw none refl in cc

there : {A : Type 0} (o : Option A) → (o ≡ None → ⊥) → is_some o ≡ true
there None h = absurd (h refl)
there (Some x) h = refl

some-of : {A : Type 0} (o : Option A) → (o ≡ None → ⊥) → (x : A) × (o ≡ Some x)
some-of None h = absurd (h refl)
some-of (Some x) h = (x, refl)

-- an updater without a deadline, where each earlier one has one
pub record IsTight (us : List Updater) (tx : ℕ) : Type 0 where
  pub none : deadline us tx ≡ None
  pub earlier : (h : ℕ) → h < length us → is_earlier us h tx ≡ true → deadline us h ≡ None → ⊥

pub tight-is : (us : List Updater) (tx : ℕ) → is_tight us tx ≡ true → IsTight us tx
tight-is us tx e =
    let both = and_parts (is_none (deadline us tx)) (list_all (λ h. is_some (deadline us h)) (earlier_than us tx)) e in
    record {
      none = none-is (deadline us tx) both.0;
      earlier = λ h inside first. no-none (deadline us h) (all-range (λ g. is_earlier us g tx) (λ g. is_some (deadline us g)) 0 (length us) both.1 h (omega arith) (omega arith) first);
    }

pub is-tight : (us : List Updater) (tx : ℕ) → IsTight us tx → is_tight us tx ≡ true
is-tight us tx t =
    and_from (is_none (deadline us tx)) (list_all (λ h. is_some (deadline us h)) (earlier_than us tx)) (is-none (deadline us tx) t.none)
    (range-all (λ g. is_earlier us g tx) (λ g. is_some (deadline us g)) 0 (length us) (λ h low high first. there (deadline us h) (t.earlier h (omega arith) first)))

-- there is one such updater at most
one-tight : (us : List Updater) (v tx : ℕ) → v < length us → tx < length us → IsTight us tx → v ≢ tx → is_tight us v ≡ false
one-tight us v tx in-v in-tx t other =
    false_from_ne_true (is_tight us v)
    (λ e.
    let u = tight-is us v e in
    ⊎_elim
    (λ (first : is_earlier us v tx ≡ true). t.earlier v in-v first u.none)
    (λ (last : is_earlier us tx v ≡ true). u.earlier tx in-tx last t.none)
    (one-earlier us v tx other))

pub too_tight-is : (us : List Updater) (tx : ℕ) → tx < length us → IsTight us tx → too_tight us ≡ Some (TooTight (record { 0 = tx }) (last_load us tx))
too_tight-is us tx inside t =
    ap (option_map (λ i. TooTight (record { 0 = i }) (last_load us i)))
    (least_from-found (is_tight us) 0 (length us) tx (omega arith) (omega arith)
    (λ v low less. one-tight us v tx (omega arith) inside t (λ same. omega (arith, same, less)))
    (is-tight us tx t))

pub too_tight-none : (us : List Updater) → ((tx : ℕ) → tx < length us → deadline us tx ≡ None → ⊥) → too_tight us ≡ None
too_tight-none us each =
    ap (option_map (λ i. TooTight (record { 0 = i }) (last_load us i)))
    (least_from-none (is_tight us) 0 (length us)
    (λ v low high. false_from_ne_true (is_tight us v) (λ e. each v (omega arith) (tight-is us v e).none)))

-- where no updater is the first without a deadline, each has one
each-below : (us : List Updater) → ((tx : ℕ) → tx < length us → is_tight us tx ≡ false) → (n tx : ℕ) → tx < length us → place_of us tx < n → deadline us tx ≡ None → ⊥
each-below us fine zero tx inside less e = absurd (omega arith)
each-below us fine (suc n) tx inside less e =
    let t : IsTight us tx = record {
      none = e;
      earlier = λ h in-h first. each-below us fine n h in-h (omega (arith, less, place-less us h tx in-h first));
    } in
    let yes = is-tight us tx t in
    let no = fine tx inside in
    cc

pub each-found : (us : List Updater) → too_tight us ≡ None → (tx : ℕ) → tx < length us → (d : ℕ) × (deadline us tx ≡ Some d)
each-found us none tx inside =
    let search = map-none (λ i. TooTight (record { 0 = i }) (last_load us i)) (least_from (is_tight us) 0 (length us)) none in
    some-of (deadline us tx)
    (each-below us (λ v in-v. least_from-fails (is_tight us) 0 (length us) search v (omega arith) (omega arith)) (length us) tx inside (place-inside us tx inside))

-- the laws

count-same : (set : Set) → length (updaters set) ≡ length set.txns
count-same set = length-map set.txns (updater_of set.items)

pub periods-are-greatest : PeriodsAreGreatest
periods-are-greatest set none = record {
  keep = λ tx inside.
      let in-us : tx < length (updaters set) = omega (arith, count-same set) in
      let (d, found) = each-found (updaters set) none tx in-us in
      keeps-one (updaters set) tx d (deadline-is (updaters set) tx d in-us found);
  greatest = λ others keeps tx inside.
      (at-most (updaters set) others (λ h in-h. keeps h (omega (arith, count-same set, in-h))) tx (omega (arith, count-same set, inside))).at_most;
}

pub tight-unless-kept : TightUnlessKept
tight-unless-kept set some others keeps =
    some
    (too_tight-none (updaters set)
    (λ tx inside e.
    let is = at-most (updaters set) others (λ h in-h. keeps h (omega (arith, count-same set, in-h))) tx inside in
    let found = is.found in
    cc))
