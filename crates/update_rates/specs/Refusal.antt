-- When declarations get no rates, as one total function: none where they get them.
use Rattle.std.specs.Prelude.{◌≡◌, ℕ, Bool, ◌&&◌, List, length, Option, Some, is_some, is_none}
use Rattle.std.specs.List.{list_all}
use Rattle.std.specs.Option.{option_map}
use Rattle.item_model.specs.Work.{first_of_both}
use Rattle.txn_set.specs.Set.{Set, txn_of}
use Rattle.txn_compiler.specs.declared.error.CompileError.{CompileError}
use Rattle.txn_compiler.specs.declared.error.CompileError.TheVariants as compile_error
use Rattle.txn_compiler.specs.Refusal.{compile_refusal}
use Rattle.response_test.specs.Response.{least_from}
use Rattle.update_rates.specs.declared.error.RateError.{RateError}
use Rattle.update_rates.specs.declared.error.RateError.TheVariants.{Compile, NotAnUpdater, TooTight, OutOfMemory}
use Rattle.update_rates.specs.declared.updaters.Updater.{Updater}
use Rattle.update_rates.specs.Updaters.{updater_validity, updaters}
use Rattle.update_rates.specs.Rates.{earlier_than, load, cap, deadline, period}
use Rattle.update_rates.specs.RatedSet.{plain_set}

-- the first in list order that is no updater
abbrev pub is_other : Set → ℕ → Bool
is_other set tx = is_none (updater_validity set.items (txn_of set tx))

abbrev pub not_an_updater : Set → Option RateError
not_an_updater set =
    option_map (λ tx. NotAnUpdater (record { 0 = tx })) (least_from (is_other set) 0 (length set.txns))

-- the first in the order of the updaters without a deadline: each earlier one has one
abbrev pub is_tight : List Updater → ℕ → Bool
is_tight us tx = is_none (deadline us tx) && list_all (λ h. is_some (deadline us h)) (earlier_than us tx)

-- its load within its cap
abbrev pub last_load : List Updater → ℕ → ℕ
last_load us tx = load us (period us) tx (cap us tx)

abbrev pub too_tight : List Updater → Option RateError
too_tight us =
    option_map (λ tx. TooTight (record { 0 = tx }) (last_load us tx)) (least_from (is_tight us) 0 (length us))

-- the declarations do not compile whatever the rates, else one is no updater, else one has no deadline
unfoldable pub rate_refusal : Set → Option RateError
rate_refusal set =
    first_of_both (option_map Compile (compile_refusal (plain_set set)))
    (first_of_both (not_an_updater set) (too_tight (updaters set)))

-- an error is the refusal that was found; want of memory says nothing
abbrev pub Refuses : Option RateError → RateError → Type 0
Refuses found OutOfMemory = Unit {0}
Refuses found (Compile error) = found ≡ Some (Compile error)
Refuses found (NotAnUpdater tx) = found ≡ Some (NotAnUpdater tx)
Refuses found (TooTight tx demand) = found ≡ Some (TooTight tx demand)

-- the error of a compilation: want of memory is that of the rates
abbrev pub of_compile : CompileError → RateError
of_compile compile_error.OutOfMemory = OutOfMemory
of_compile error = Compile error
