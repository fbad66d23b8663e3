-- What a row of the table of writers says of the writers of its item.
use Rattle.std.proofs.Common.{◌≡◌, ℕ, List, [], ◌∷◌, None, Some, refl}
use Rattle.rt_base.specs.declared.ids.TxId.{TxId}
use Rattle.txn_compiler.specs.declared.error.CompileError.TheVariants.{NoWriter, TwoWriters}
use Rattle.txn_compiler.specs.Tables.{first_two}
use Rattle.txn_compiler.specs.Refusal.{no_writer_of, two_writers_of}

pub no_writer_none : (item : ℕ) (writers : List ℕ) → (first_two writers).first ≡ None → no_writer_of item writers ≡ Some (NoWriter (record { 0 = item }))
no_writer_none item [] h = refl
no_writer_none item (a ∷ []) h = cc
no_writer_none item (a ∷ b ∷ others) h = cc

pub no_writer_some : (item : ℕ) (writers : List ℕ) (a : TxId) → (first_two writers).first ≡ Some a → no_writer_of item writers ≡ None
no_writer_some item [] a h = cc
no_writer_some item (x ∷ []) a h = refl
no_writer_some item (x ∷ y ∷ others) a h = refl

pub two_writers_none : (item : ℕ) (writers : List ℕ) → (first_two writers).second ≡ None → two_writers_of item writers ≡ None
two_writers_none item [] h = refl
two_writers_none item (x ∷ []) h = refl
two_writers_none item (x ∷ y ∷ others) h = cc

pub two_writers_some : (item : ℕ) (writers : List ℕ) (a b : TxId) → (first_two writers).first ≡ Some a → (first_two writers).second ≡ Some b → two_writers_of item writers ≡ Some (TwoWriters (record { 0 = item }) a b)
two_writers_some item [] a b h g = cc
two_writers_some item (x ∷ []) a b h g = cc
two_writers_some item (x ∷ y ∷ others) a b h g = cc
