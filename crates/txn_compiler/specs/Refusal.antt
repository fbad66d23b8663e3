-- When a set of declarations is refused: each rule with the first place that breaks it, and the first rule that is broken.
use Rattle.std.specs.Prelude.{◌≡◌, ℕ, suc, ◌^◌, ◌==◌, nat_lt, nat_le, Bool, not, ◌&&◌, ◌||◌, if◌then◌else◌, List, [], ◌∷◌, length, Option, None, Some}
use Rattle.std.specs.List.{list_all, position_or_len}
use Rattle.std.specs.Option.{option_map}
use Rattle.rt_base.specs.declared.ids.ItemId.{ItemId}
use Rattle.rt_base.specs.declared.ids.TogetherDecl.{TogetherDecl}
use Rattle.item_model.specs.declared.decl.ItemDecl.{ItemDecl}
use Rattle.item_model.specs.Kinds.{is_dated}
use Rattle.item_model.specs.Work.{first_of_both}
use Rattle.txn_set.specs.declared.decl.TxnDecl.{TxnDecl}
use Rattle.txn_set.specs.Set.{Set}
use Rattle.txn_compiler.specs.declared.error.Which.{Which}
use Rattle.txn_compiler.specs.declared.error.Which.TheVariants.{Prio, Steps, Period, Deadline, Offset, Quiet}
use Rattle.txn_compiler.specs.declared.error.CompileError.{CompileError}
use Rattle.txn_compiler.specs.declared.error.CompileError.TheVariants.{TooManyItems, TooManyTxns, SamePrio, BadTimes, NoWriter, TwoWriters, CyclicDerivation, OutOfMemory, TooManySets, BadTogether}
use Rattle.txn_compiler.specs.Graph.{writers_of, reaches}

-- a refusal where its condition holds
abbrev pub given : {A : Type 0} → Bool → A → Option A
given b a = if b then Some a else None

-- the first that is there
abbrev pub first_some : {A : Type 0} → List (Option A) → Option A
first_some [] = None
first_some (o ∷ os) = first_of_both o (first_some os)

-- the first refusal that an element of a list gives, each told its place, where the list begins at this place
abbrev pub first_refusal : {A : Type 0} → (ℕ → A → Option CompileError) → ℕ → List A → Option CompileError
first_refusal refuses place [] = None
first_refusal refuses place (x ∷ xs) = first_of_both (refuses place x) (first_refusal refuses (suc place) xs)

-- distinct priorities: the first transaction in list order that has the priority of an earlier one, and the first that has it

abbrev pub first_with : List TxnDecl → ℕ → ℕ
first_with txns prio = position_or_len (λ t. t.prio == prio) txns

abbrev pub same_prio_at : List TxnDecl → ℕ → TxnDecl → Option CompileError
same_prio_at txns tx txn = given (nat_lt (first_with txns txn.prio) tx) (SamePrio (record { 0 = first_with txns txn.prio }) (record { 0 = tx }))

abbrev pub same_prio : List TxnDecl → Option CompileError
same_prio txns = first_refusal (same_prio_at txns) 0 txns

-- the time ranges: the first transaction in list order with a number out of its range, and the first such number

abbrev pub is_within : ℕ → ℕ → ℕ → Bool
is_within low n high = nat_le low n && nat_le n high

abbrev pub bad_time : TxnDecl → Option Which
bad_time txn =
    first_some (
    given (not (is_within 1 txn.prio 1000)) Prio ∷
    given (not (is_within 1 txn.steps 10000)) Steps ∷
    given (not (is_within 1 txn.period (2 ^ 30))) Period ∷
    given (not (is_within 1 txn.deadline txn.period)) Deadline ∷
    given (not (nat_le txn.offset txn.period)) Offset ∷
    given (not (nat_lt txn.quiet txn.steps)) Quiet ∷ []
    )

abbrev pub bad_times_at : ℕ → TxnDecl → Option CompileError
bad_times_at tx txn = option_map (λ which. BadTimes (record { 0 = tx }) which) (bad_time txn)

abbrev pub bad_times : List TxnDecl → Option CompileError
bad_times txns = first_refusal bad_times_at 0 txns

-- the single-writer rule: the first sensor or derived item that nobody may write, and the first that two may write, with its
-- first two writers in list order

abbrev pub no_writer_of : ℕ → List ℕ → Option CompileError
no_writer_of item [] = Some (NoWriter (record { 0 = item }))
no_writer_of item (a ∷ others) = None

abbrev pub two_writers_of : ℕ → List ℕ → Option CompileError
two_writers_of item [] = None
two_writers_of item (a ∷ []) = None
two_writers_of item (a ∷ b ∷ others) = Some (TwoWriters (record { 0 = item }) (record { 0 = a }) (record { 0 = b }))

abbrev pub no_writer_at : List ItemDecl → List TxnDecl → ℕ → Option CompileError
no_writer_at items txns item = if is_dated items item then no_writer_of item (writers_of txns item) else None

abbrev pub two_writers_at : List ItemDecl → List TxnDecl → ℕ → Option CompileError
two_writers_at items txns item = if is_dated items item then two_writers_of item (writers_of txns item) else None

abbrev pub no_writer : List ItemDecl → List TxnDecl → Option CompileError
no_writer items txns = first_refusal (λ item decl. no_writer_at items txns item) 0 items

abbrev pub two_writers : List ItemDecl → List TxnDecl → Option CompileError
two_writers items txns = first_refusal (λ item decl. two_writers_at items txns item) 0 items

-- acyclic derivation: the first item that reaches itself

abbrev pub cyclic_at : List ItemDecl → List TxnDecl → ℕ → Option CompileError
cyclic_at items txns item = given (reaches items txns item item) (CyclicDerivation (record { 0 = item }))

abbrev pub cyclic_derivation : List ItemDecl → List TxnDecl → Option CompileError
cyclic_derivation items txns = first_refusal (λ item decl. cyclic_at items txns item) 0 items

-- relative sets have two or more items, sensor or derived ones: the first in list order that has not
abbrev pub is_bad_group : List ItemDecl → List ItemId → Bool
is_bad_group items group = nat_lt (length group) 2 || not (list_all (λ i. is_dated items i.0) group)

abbrev pub bad_together_at : List ItemDecl → ℕ → TogetherDecl → Option CompileError
bad_together_at items place group = given (is_bad_group items group.items) (BadTogether place)

abbrev pub bad_together : List ItemDecl → List TogetherDecl → Option CompileError
bad_together items together = first_refusal (bad_together_at items) 0 together

abbrev pub too_many_items : List ItemDecl → Option CompileError
too_many_items items = given (nat_lt 256 (length items)) (TooManyItems (length items))

abbrev pub too_many_txns : List TxnDecl → Option CompileError
too_many_txns txns = given (nat_lt 64 (length txns)) (TooManyTxns (length txns))

abbrev pub too_many_sets : List TogetherDecl → Option CompileError
too_many_sets together = given (nat_lt 64 (length together)) (TooManySets (length together))

-- the refusal of a set, if there is one: by the first rule that it breaks
unfoldable pub compile_refusal : Set → Option CompileError
compile_refusal set =
    first_some (
    too_many_items set.items ∷
    too_many_txns set.txns ∷
    same_prio set.txns ∷
    bad_times set.txns ∷
    no_writer set.items set.txns ∷
    two_writers set.items set.txns ∷
    cyclic_derivation set.items set.txns ∷
    too_many_sets set.together ∷
    bad_together set.items set.together ∷ []
    )

-- an error is the refusal that was found; want of memory says nothing
abbrev pub Refuses : Option CompileError → CompileError → Type 0
Refuses found OutOfMemory = Unit {0}
Refuses found (TooManyItems count) = found ≡ Some (TooManyItems count)
Refuses found (TooManyTxns count) = found ≡ Some (TooManyTxns count)
Refuses found (SamePrio a b) = found ≡ Some (SamePrio a b)
Refuses found (BadTimes tx which) = found ≡ Some (BadTimes tx which)
Refuses found (NoWriter item) = found ≡ Some (NoWriter item)
Refuses found (TwoWriters item a b) = found ≡ Some (TwoWriters item a b)
Refuses found (CyclicDerivation item) = found ≡ Some (CyclicDerivation item)
Refuses found (TooManySets count) = found ≡ Some (TooManySets count)
Refuses found (BadTogether place) = found ≡ Some (BadTogether place)
