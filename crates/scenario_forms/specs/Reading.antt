-- Reading in order, with the first fault that is met.
use Rattle.std.specs.Prelude.{◌≡◌, ℕ, length, List, [], ◌∷◌, ◌++◌, Option, Some, None, Result, Ok, Err, if◌then◌else◌, option_and_then}
use Rattle.std.specs.Str.{is_utf8}
use Rattle.serde_json.specs.Data.{Data, Items, no_items, item}
use Rattle.serde_json.specs.Read.{read}
use Rattle.serde_json.specs.Find.{get, as_array}
use Rattle.scenario_forms.specs.declared.error.Place.{Place}
use Rattle.scenario_forms.specs.declared.error.FormError.{FormError}
use Rattle.scenario_forms.specs.declared.error.FormError.TheVariants.{BadField, OutOfMemory}

infixl 10 ◌>>=◌
abbrev pub ◌>>=◌ : {A B : Type 0} → Result A FormError → (A → Result B FormError) → Result B FormError
(Ok x) >>= f = f x
(Err e) >>= f = Err e

-- What a function returned is what reading gives, unless memory ran out.
abbrev pub Fails : {A : Type 0} → FormError → Result A FormError → Type 0
Fails OutOfMemory read = Unit {0}
Fails e read = read ≡ Err e

abbrev pub Gives : {A : Type 0} → Result A FormError → Result A FormError → Type 0
Gives (Ok x) read = read ≡ Ok x
Gives (Err e) read = Fails e read

-- The same, where what it returned is seen by view.
abbrev pub GivesBy : {A B : Type 0} → (A → B) → Result A FormError → Result B FormError → Type 0
GivesBy view (Ok x) read = read ≡ Ok (view x)
GivesBy view (Err e) read = Fails e read

-- what is there, or the place where it is missing or not of its form
abbrev pub needed : {A : Type 0} → Place → Option A → Result A FormError
needed place None = Err (BadField place)
needed place (Some x) = Ok x

-- a default where there is no member, or what the member is
abbrev pub optional : {A : Type 0} → A → Place → (Data → Option A) → Option Data → Result A FormError
optional default place form None = Ok default
optional default place form (Some d) = needed place (form d)

-- a required member
unfoldable pub member_at : {A : Type 0} → Place → (Data → Option A) → List ℕ → Data → Result A FormError
member_at place form name d = needed place (option_and_then form (get name d))

-- a member that may be absent
unfoldable pub member_or : {A : Type 0} → A → Place → (Data → Option A) → List ℕ → Data → Result A FormError
member_or default place form name d = optional default place form (get name d)

abbrev pub array_at : Place → List ℕ → Data → Result Items FormError
array_at place name d = member_or no_items place as_array name d

-- the elements one after another
unfoldable pub fold_at : {A : Type 0} → (A → Data → Result A FormError) → A → Items → Result A FormError
fold_at step acc no_items = Ok acc
fold_at step acc (item d ds) = step acc d >>= λ a. fold_at step a ds

-- one more element, by its form
abbrev pub form_step : {A : Type 0} → (ℕ → Place) → (Data → Option A)
    → List A → Data → Result (List A) FormError
form_step place form acc d = needed (place (length acc)) (form d) >>= λ x. Ok (acc ++ x ∷ [])

abbrev pub all_at : {A : Type 0} → (ℕ → Place) → (Data → Option A) → Items → Result (List A) FormError
all_at place form ds = fold_at (form_step place form) [] ds

-- the value of a JSON text
abbrev pub data_of : List ℕ → Option Data
data_of bytes = if is_utf8 bytes then read bytes else None
