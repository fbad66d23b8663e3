-- One more element of an array.
use Rattle.std.proofs.Common.{◌≡◌, ℕ, suc, ◌+◌, ◌<◌, ◌≤◌, List, [], ◌∷◌, ◌++◌, length, get_or, drop, Option, Result, Ok, Err, sym, ap, ◌∙◌, add-one, drop-cons}
use Rattle.std.proofs.Math.ListN.{drop_of_length-le}
use Rattle.serde_json.specs.Data.{Data}
use Rattle.serde_json.specs.View.{view, items_view}
use Rattle.serde_json.specs.declared.value.Value.{Value}
use Rattle.scenario_forms.specs.declared.error.Place.{Place}
use Rattle.scenario_forms.specs.declared.error.FormError.{FormError}
use Rattle.scenario_forms.specs.declared.error.FormError.TheVariants.{BadField, OutOfMemory}
use Rattle.scenario_forms.specs.Reading.{◌>>=◌, Fails, needed, fold_at, form_step}

-- what fails goes on failing
pub fails_with : {A B : Type 0} (e : FormError) (r : Result A FormError) (f : A → Result B FormError) → Fails e r
    → Fails e (r >>= f)
fails_with {A = A} OutOfMemory r f h = tt
fails_with {A = A} (BadField place) r f h = ap (λ (s : Result A FormError). s >>= f) h

pub fails_along : {B : Type 0} (e : FormError) (r s : Result B FormError) → r ≡ s → Fails e r → Fails e s
fails_along OutOfMemory r s same h = tt
fails_along (BadField place) r s same h = sym same ∙ h

module _ {A : Type 0} (step : A → Data → Result A FormError) where
  one_more : (acc : A) (i : ℕ) (vs : List Value) (v : Value) → i < length vs → v ≡ get_or vs i v →
      fold_at step acc (items_view (drop i vs)) ≡ (step acc (view v) >>= λ a. fold_at step a
      (items_view (drop (i + 1) vs)))
  unfolding fold_at
  one_more acc i vs v lt is = rw (add-one, drop-cons vs i v)
      (ap (λ (w : Value). step acc (view w) >>= λ a. fold_at step a (items_view (drop (suc i) vs))) (sym is))

  pub goes_on : (acc acc' : A) (i : ℕ) (vs : List Value) (v : Value) (total : Result A FormError) → i < length vs
      → v ≡ get_or vs i v
      → step acc (view v) ≡ Ok acc' → fold_at step acc (items_view (drop i vs)) ≡ total
      → fold_at step acc' (items_view (drop (i + 1) vs)) ≡ total
  goes_on acc acc' i vs v total lt is read so_far = sym (one_more acc i vs v lt is
      ∙ ap (λ (r : Result A FormError). r >>= λ a. fold_at step a (items_view (drop (i + 1) vs))) read) ∙ so_far

  pub goes_on_to : (acc acc' reached : A) (i : ℕ) (vs : List Value) (v : Value) (total : Result A FormError)
      → i < length vs → v ≡ get_or vs i v
      → step acc (view v) ≡ Ok acc' → reached ≡ acc' → fold_at step acc (items_view (drop i vs)) ≡ total
      → fold_at step reached (items_view (drop (i + 1) vs)) ≡ total
  goes_on_to acc acc' reached i vs v total lt is read same so_far =
      ap (λ (a : A). fold_at step a (items_view (drop (i + 1) vs))) same
      ∙ goes_on acc acc' i vs v total lt is read so_far

  pub ends : (e : FormError) (acc : A) (i : ℕ) (vs : List Value) (v : Value) (total : Result A FormError)
      → i < length vs → v ≡ get_or vs i v
      → Fails e (step acc (view v)) → fold_at step acc (items_view (drop i vs)) ≡ total → Fails e total
  ends e acc i vs v total lt is failed so_far = fails_along e _ _ (sym (one_more acc i vs v lt is)
      ∙ so_far) (fails_with e _ _ failed)

  pub is_done : (acc : A) (i : ℕ) (vs : List Value) (total : Result A FormError) → length vs ≤ i
      → fold_at step acc (items_view (drop i vs)) ≡ total → total ≡ Ok acc
  unfolding fold_at
  is_done acc i vs total le so_far = sym so_far ∙ ap (λ (w : List Value). fold_at step acc (items_view w))
      (drop_of_length-le vs le)

pub fails_from : {A : Type 0} (e : FormError) (r : Result A FormError) → Err e ≡ r → Fails e r
fails_from OutOfMemory r h = tt
fails_from (BadField place) r h = sym h

-- the same by forms
module _ {A : Type 0} (place : ℕ → Place) (form : Data → Option A) where
  same_read : (n k : ℕ) (d : Data) (p : Place) (o : Option A) → n ≡ k → p ≡ place n → o ≡ form d
      → needed (place k) (form d) ≡ needed p o
  same_read n k d p o count at is = ap (λ (j : ℕ). needed (place j) (form d)) (sym count)
      ∙ ap (λ (q : Place). needed q (form d)) (sym at) ∙ ap (needed p) (sym is)

  pub form_goes_on : (acc : List A) (n i : ℕ) (vs : List Value) (v : Value) (x : A) (p : Place) (o : Option A)
      (total : Result (List A) FormError) → i < length vs → v ≡ get_or vs i v → n ≡ length acc
      → p ≡ place n → o ≡ form (view v) → needed p o ≡ Ok x
      → fold_at (form_step place form) acc (items_view (drop i vs)) ≡ total
      → fold_at (form_step place form) (acc ++ x ∷ []) (items_view (drop (i + 1) vs)) ≡ total
  form_goes_on acc n i vs v x p o total lt is count at formed read so_far =
      goes_on (form_step place form) acc _ i vs v total lt is
      (ap (λ (r : Result A FormError). r >>= λ y. Ok (acc ++ y ∷ []))
      (same_read n (length acc) (view v) p o count at formed ∙ read)) so_far

  pub form_ends : (e : FormError) (acc : List A) (n i : ℕ) (vs : List Value) (v : Value) (p : Place) (o : Option A)
      (total : Result (List A) FormError) → i < length vs → v ≡ get_or vs i v → n ≡ length acc
      → p ≡ place n → o ≡ form (view v) → Fails e (needed p o)
      → fold_at (form_step place form) acc (items_view (drop i vs)) ≡ total → Fails e total
  form_ends e acc n i vs v p o total lt is count at formed failed so_far =
      ends (form_step place form) e acc i vs v total lt is
      (fails_with e _ _ (fails_along e _ _ (sym (same_read n (length acc) (view v) p o count at formed)) failed))
      so_far
