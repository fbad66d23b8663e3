-- The first refusal of a list, place by place.
use Rattle.std.proofs.Common.{◌≡◌, ℕ, zero, suc, pos, ◌+◌, ◌<◌, List, [], ◌∷◌, length, get_or, drop, Option, None, Some, refl, sym, subst, ◌∙◌, arith, add-one, add-zero, zero-add, drop-cons, true}
use Rattle.item_model.specs.declared.decl.ItemDecl.{ItemDecl}
use Rattle.item_model.specs.declared.decl.ItemKind.{ItemKind}
use Rattle.item_model.specs.declared.decl.ItemKind.TheVariants.{Sensor, Derived, State}
use Rattle.item_model.specs.Kinds.{is_dated, is_derived, is_derived_decl, is_derived_kind, validity_of_kind}
use Rattle.txn_set.specs.declared.decl.TxnDecl.{TxnDecl}
use Rattle.txn_compiler.specs.Graph.{writers_of}
use Rattle.txn_compiler.specs.Tables.{IsSingle}
use Rattle.txn_compiler.proofs.Derivation.{dated-inside}
use Rattle.std.specs.Prelude.{is_some, slice_get}
use Rattle.std.specs.Option.{option_and_then}
use Rattle.item_model.specs.Work.{first_of_both}
use Rattle.txn_compiler.specs.declared.error.CompileError.{CompileError}
use Rattle.txn_compiler.specs.Refusal.{first_refusal, no_writer, two_writers, no_writer_at, two_writers_at, no_writer_of, two_writers_of}

pub no_item : ItemDecl
no_item = record { kind = State; initial = pos 0 }

-- the refusals of the items' places, seen from a place on
abbrev pub refusal_from : (ℕ → Option CompileError) → ℕ → List ItemDecl → Option CompileError
refusal_from refuses at items = first_refusal (λ item decl. refuses item) at (drop at items)

split : (refuses : ℕ → Option CompileError) (at : ℕ) (items : List ItemDecl) → at < length items → refusal_from refuses at items ≡ first_of_both (refuses at) (refusal_from refuses (at + 1) items)
split refuses at items inside = rw (drop-cons items at no_item inside, add-one) refl

pub refused-here : (refuses : ℕ → Option CompileError) (at : ℕ) (items : List ItemDecl) (found : Option CompileError) (error : CompileError) → at < length items → Some error ≡ refuses at → found ≡ refusal_from refuses at items → Some error ≡ found
refused-here refuses at items found error inside here before = sym (before ∙ (split refuses at items inside ∙ rw (← here) refl))

pub refused-later : (refuses : ℕ → Option CompileError) (at : ℕ) (items : List ItemDecl) (found : Option CompileError) → at < length items → refuses at ≡ None → found ≡ refusal_from refuses at items → found ≡ refusal_from refuses (at + 1) items
refused-later refuses at items found inside none before = before ∙ (split refuses at items inside ∙ rw none refl)

pub of-both-none : {A : Type 0} (o p : Option A) → first_of_both o p ≡ None → (o ≡ None) × (p ≡ None)
of-both-none None p h = (refl, h)
of-both-none (Some a) p h = absurd (cc)

pub none-each : {A : Type 0} (refuses : ℕ → A → Option CompileError) (place : ℕ) (xs : List A) → first_refusal refuses place xs ≡ None → (k : ℕ) (d : A) → k < length xs → refuses (place + k) (get_or xs k d) ≡ None
none-each refuses place [] h k d inside = absurd (omega arith)
none-each refuses place (x ∷ xs) h zero d inside = rw add-zero (of-both-none (refuses place x) (first_refusal refuses (suc place) xs) h).0
none-each {A} refuses place (x ∷ xs) h (suc k) d inside =
    let rest = none-each refuses (suc place) xs (of-both-none (refuses place x) (first_refusal refuses (suc place) xs) h).1 k d (omega arith) in
    let shift : suc place + k ≡ place + suc k = omega arith in
    subst (λ (n : ℕ). refuses n (get_or xs k d) ≡ None) shift rest

pub none-all : {A : Type 0} (refuses : ℕ → A → Option CompileError) (place : ℕ) (xs : List A) → ((k : ℕ) (d : A) → k < length xs → refuses (place + k) (get_or xs k d) ≡ None) → first_refusal refuses place xs ≡ None
none-all refuses place [] each = refl
none-all refuses place (x ∷ xs) each =
    let head : refuses place x ≡ None = rw add-zero at (each 0 x (omega arith)) in
    rw head
    (none-all refuses (suc place) xs
    (λ k d inside.
    let shift : place + suc k ≡ suc place + k = omega arith in
    subst (λ (n : ℕ). refuses n (get_or xs k d) ≡ None) shift (each (suc k) d (omega arith))))

-- where nothing is refused, a sensor or derived item has one writer

one-of : (item : ℕ) (writers : List ℕ) → no_writer_of item writers ≡ None → two_writers_of item writers ≡ None → (a : ℕ) × (writers ≡ a ∷ [])
one-of item [] h g = absurd (cc)
one-of item (a ∷ []) h g = (a, refl)
one-of item (a ∷ b ∷ others) h g = absurd (cc)

pub one-writer-of-dated : (items : List ItemDecl) (txns : List TxnDecl) (item : ℕ) → no_writer items txns ≡ None → two_writers items txns ≡ None → is_dated items item ≡ true → (a : ℕ) × (writers_of txns item ≡ a ∷ [])
one-writer-of-dated items txns item written alone dated =
    let inside = dated-inside items item dated in
    let one : no_writer_at items txns item ≡ None = rw zero-add at (none-each (λ i d. no_writer_at items txns i) 0 items written item no_item inside) in
    let two : two_writers_at items txns item ≡ None = rw zero-add at (none-each (λ i d. two_writers_at items txns i) 0 items alone item no_item inside) in
    one-of item (writers_of txns item) (rw dated at one) (rw dated at two)

derived-dated-kind : (k : ItemKind) → is_derived_kind k ≡ true → is_some (validity_of_kind k) ≡ true
derived-dated-kind (Sensor validity) h = absurd (cc)
derived-dated-kind (Derived validity) h = refl
derived-dated-kind State h = absurd (cc)

derived-dated-decl : (o : Option ItemDecl) → is_derived_decl o ≡ true → is_some (option_and_then (λ d. validity_of_kind d.kind) o) ≡ true
derived-dated-decl None h = absurd (cc)
derived-dated-decl (Some d) h = derived-dated-kind d.kind h

pub derived-dated : (items : List ItemDecl) (item : ℕ) → is_derived items item ≡ true → is_dated items item ≡ true
derived-dated items item h = derived-dated-decl (slice_get items item) h

pub one-writer-of : (items : List ItemDecl) (txns : List TxnDecl) (item : ℕ) → IsSingle items txns → is_derived items item ≡ true → (a : ℕ) × (writers_of txns item ≡ a ∷ [])
one-writer-of items txns item single derived = one-writer-of-dated items txns item single.written single.alone (derived-dated items item derived)
