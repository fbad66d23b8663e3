-- What calls that hand entries to an out leave of it, and of the list that they go through.
use Rattle.std.specs.Prelude.{◌≡◌, [], List, Result, IfOk, Vec, vec_capacity}
use Rattle.std.specs.Global.{Global}
use Rattle.step_journal.specs.declared.entry.Entry.{Entry}

-- what it could take it can still take
abbrev pub StaysGood : {O : Type 0} → (good : O → List Entry → Type 0) → O → O → Type 0
StaysGood good o q = (history : List Entry) → good o history → good q history

-- where the call did what it is for, the out lost none
abbrev pub LosesNone : {O T E : Type 0} → (lost : O → List Entry → Type 0) → O → Result T E → Type 0
LosesNone lost q result = IfOk result (λ _. lost q [])

-- the list is empty, and has the places that it had
abbrev pub IsEmptied : {X : Type 0} → Vec X Global → Vec X Global → Type 0
IsEmptied was is = (is.items ≡ []) × (vec_capacity is ≡ vec_capacity was)
