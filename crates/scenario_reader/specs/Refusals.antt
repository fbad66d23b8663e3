-- Judging in order, with the first refusal that is met.
use Rattle.std.specs.Prelude.{◌≡◌, ℕ, nat_lt, if◌then◌else◌, Option, Some, None, Result, Ok, Err}
use Rattle.scenario_forms.specs.declared.error.TextError.{TextError}
use Rattle.scenario_forms.specs.declared.error.TextError.TheVariants as texts
use Rattle.scenario_forms.specs.declared.error.FormError.{FormError}
use Rattle.scenario_forms.specs.declared.error.FormError.TheVariants as forms
use Rattle.scenario_reader.specs.declared.error.ScenarioError.{ScenarioError}
use Rattle.scenario_reader.specs.declared.error.ScenarioError.TheVariants.{NotJson, BadField, OutOfMemory}

infixl 10 ◌>>=◌
abbrev pub ◌>>=◌ : {A B : Type 0} → Result A ScenarioError → (A → Result B ScenarioError) → Result B ScenarioError
(Ok x) >>= f = f x
(Err e) >>= f = Err e

-- What a function returned is what judging gives, unless memory ran out.
abbrev pub Fails : {A : Type 0} → ScenarioError → Result A ScenarioError → Type 0
Fails OutOfMemory judged = Unit {0}
Fails e judged = judged ≡ Err e

abbrev pub Gives : {A : Type 0} → Result A ScenarioError → Result A ScenarioError → Type 0
Gives (Ok x) judged = judged ≡ Ok x
Gives (Err e) judged = Fails e judged

-- The same, where what it returned is seen by view.
abbrev pub GivesBy : {A B : Type 0} → (A → B) → Result A ScenarioError → Result B ScenarioError → Type 0
GivesBy view (Ok x) judged = judged ≡ Ok (view x)
GivesBy view (Err e) judged = Fails e judged

-- no refusal, or the one that there is
abbrev pub pass : Option ScenarioError → Result (Unit {0}) ScenarioError
pass None = Ok tt
pass (Some e) = Err e

-- a refusal where a number is above the most that may be
abbrev pub above : ℕ → (ℕ → ScenarioError) → ℕ → Option ScenarioError
above most error n = if nat_lt most n then Some (error n) else None

-- a refusal of a text
abbrev pub error_of_text : TextError → ScenarioError
error_of_text texts.NotJson = NotJson
error_of_text texts.OutOfMemory = OutOfMemory

-- a refusal of a form
abbrev pub error_of : FormError → ScenarioError
error_of (forms.BadField place) = BadField place
error_of forms.OutOfMemory = OutOfMemory

abbrev pub formed : {A : Type 0} → Result A FormError → Result A ScenarioError
formed (Ok f) = Ok f
formed (Err e) = Err (error_of e)
