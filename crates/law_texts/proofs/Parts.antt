-- Members and arrays that are read as they were written.
use Rattle.std.proofs.Common.{◌≡◌, ℕ, ◌≤◌, ◌^◌, ℤ, pos, negsuc, FitsSigned, List, [], ◌∷◌, ◌++◌, length, map, Bool, cond, ◌&&◌, Option, Some, None, option_and_then, Result, Ok, refl, sym, ap, ◌∙◌, arith}
use Rattle.std.specs.Int.{w64}
use Rattle.std.specs.List.{All}
use Rattle.std.specs.Prelude.{nat_le}
use Rattle.std.proofs.lemmas.Bool.{lt-ltb, le-leb}
use Rattle.std.proofs.lemmas.List.{append_assoc, append-nil}
use Rattle.serde_json.specs.Data.{Data}
use Rattle.serde_json.specs.Find.{get, as_i64, of_integer}
use Rattle.serde_json.specs.View.{items_of}
use Rattle.scenario_forms.specs.declared.error.Place.{Place}
use Rattle.scenario_forms.specs.declared.error.FormError.{FormError}
use Rattle.scenario_forms.specs.Reading.{◌>>=◌, needed, optional, member_at, member_or, fold_at, form_step, all_at}
use Rattle.scenario_forms.specs.Fields as fields
use Rattle.scenario_writer.specs.Canonical as canonical
pub use Rattle.scenario_writer.proofs.Merging.{head, tail}

-- a part of a do block that is read
pub then : {A B : Type 0} (r : Result A FormError) (x : A) (f : A → Result B FormError) → r ≡ Ok x → (r >>= f) ≡ f x
then r x f is = ap (λ (q : Result _ FormError). q >>= f) is

pub found_member : {A : Type 0} (place : Place) (form : Data → Option A) (name : List ℕ) (d x : Data) (y : A)
    → get name d ≡ Some x
    → form x ≡ Some y → member_at place form name d ≡ Ok y
unfolding member_at
found_member {A = A} place form name d x y found is =
    ap (λ (o : Option Data). needed place (option_and_then form o)) found ∙ ap (needed place) is

pub found_or : {A : Type 0} (default : A) (place : Place) (form : Data → Option A) (name : List ℕ) (d x : Data) (y : A)
    → get name d ≡ Some x → form x ≡ Some y → member_or default place form name d ≡ Ok y
unfolding member_or
found_or {A = A} default place form name d x y found is =
    ap (λ (o : Option Data). optional default place form o) found ∙ ap (needed place) is

pub absent_or : {A : Type 0} (default : A) (place : Place) (form : Data → Option A) (name : List ℕ) (d : Data)
    → get name d ≡ None → member_or default place form name d ≡ Ok default
unfolding member_or
absent_or {A = A} default place form name d absent = ap (λ (o : Option Data). optional default place form o) absent

pub unfold_step : {A : Type 0} (step : A → Data → Result A FormError) (acc acc' : A) (d : Data) (ds : List Data)
    (total : Result A FormError) → step acc d ≡ Ok acc' → fold_at step acc' (items_of ds) ≡ total
    → fold_at step acc (items_of (d ∷ ds)) ≡ total
unfolding fold_at
unfold_step step acc acc' d ds total is rest = then _ acc' (λ a. fold_at step a (items_of ds)) is ∙ rest

pub unfold_end : {A : Type 0} (step : A → Data → Result A FormError) (acc : A) → fold_at step acc (items_of []) ≡ Ok acc
unfolding fold_at
unfold_end step acc = refl

module _ {X A : Type 0} (place : ℕ → Place) (form : Data → Option A) (f : X → Data) (g : X → A) where
  forms_from : (xs : List X) (acc : List A) → All (λ x. form (f x) ≡ Some (g x)) xs
      → fold_at (form_step place form) acc (items_of (map f xs)) ≡ Ok (acc ++ map g xs)
  forms_from [] acc h = unfold_end (form_step place form) acc ∙ ap Ok (sym (append-nil acc))
  forms_from (x ∷ xs) acc h =
      let here : form (f x) ≡ Some (g x) = head (λ y. form (f y) ≡ Some (g y)) x xs h in
      let rest : All (λ y. form (f y) ≡ Some (g y)) xs = tail (λ y. form (f y) ≡ Some (g y)) x xs h in
      unfold_step (form_step place form) acc (acc ++ g x ∷ []) (f x) (map f xs) (Ok (acc ++ map g (x ∷ xs)))
      (ap (λ (o : Option A). needed (place (length acc)) o >>= λ y. Ok (acc ++ y ∷ [])) here)
      (forms_from xs (acc ++ g x ∷ []) rest ∙ ap Ok (append_assoc acc (g x ∷ []) (map g xs)))

  pub forms_back : (xs : List X) → All (λ x. form (f x) ≡ Some (g x)) xs
      → all_at place form (items_of (map f xs)) ≡ Ok (map g xs)
  forms_back xs h = forms_from xs [] h

pub whole_back : (low high n : ℕ) → low ≤ n → n ≤ high → fields.whole low high (canonical.whole n) ≡ Some n
whole_back low high n above below =
    ap (λ (b : Bool). cond b (Some n) None) (ap (λ (b : Bool). b && nat_le n high) (le-leb low n above)
    ∙ le-leb n high below)

pub integer_back : (z : ℤ) → FitsSigned w64 z → as_i64 (of_integer z) ≡ Some z
integer_back (pos n) fits = ap (λ (b : Bool). cond b (Some (pos n)) None) (lt-ltb n (2 ^ 63) (omega arith))
integer_back (negsuc n) fits = refl
