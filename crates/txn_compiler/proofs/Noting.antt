-- The table of writers, transaction by transaction.
use Rattle.std.proofs.Common.{◌≡◌, ℕ, suc, ◌+◌, ◌<◌, ◌≤◌, Bool, true, false, cond, List, [], ◌∷◌, length, get_or, drop, None, Some, refl, sym, subst, ◌∙◌, arith, add-one, drop-cons}
use Rattle.std.proofs.Math.ListN.{drop_of_length-le}
use Rattle.std.specs.List.{All}
use Rattle.std.proofs.lemmas.List.Elements.{All-get_or}
use Rattle.rt_base.specs.declared.ids.TxId.{TxId}
use Rattle.rt_base.specs.declared.ids.ItemId.{ItemId}
use Rattle.txn_set.specs.declared.decl.TxnDecl.{TxnDecl}
use Rattle.txn_set.specs.Set.{may_write, names_item}
use Rattle.txn_compiler.specs.declared.writing.Writers.{Writers}
use Rattle.txn_compiler.specs.Graph.{writers_from, writers_of}
use Rattle.txn_compiler.specs.Tables.{IsList, AreTxnsOver, AreWriters, ChangesNamed, first_two, with_writer}

abbrev pub nobody : Writers
nobody = record { first = None; second = None }

-- a row with further writers
abbrev pub more_writers : Writers → List ℕ → Writers
more_writers row [] = row
more_writers row (a ∷ others) = more_writers (with_writer (record { 0 = a }) row) others

-- the rows so far, with the writers from a place on, have the writers of all
pub record IsNotedTo (count : ℕ) (txns : List TxnDecl) (at : ℕ) (table : List Writers) : Type 0 where
  pub one_each : length table ≡ count
  pub each : (item : ℕ) (d : Writers) → item < count → more_writers (get_or table item d) (writers_from item at (drop at txns)) ≡ first_two (writers_of txns item)

full : (a b : TxId) (others : List ℕ) → more_writers (record { first = Some a; second = Some b }) others ≡ record { first = Some a; second = Some b }
full a b [] = refl
full a b (x ∷ others) = full a b others

from-nobody : (writers : List ℕ) → more_writers nobody writers ≡ first_two writers
from-nobody [] = refl
from-nobody (a ∷ []) = refl
from-nobody (a ∷ b ∷ others) = full (record { 0 = a }) (record { 0 = b }) others

one-more : (b : Bool) (row : Writers) (at : ℕ) (others : List ℕ) → more_writers row (cond b (at ∷ others) others) ≡ more_writers (cond b (with_writer (record { 0 = at }) row) row) others
one-more true row at others = refl
one-more false row at others = refl

pub noted-none : (txns : List TxnDecl) (table : List Writers) → All (λ row. row ≡ nobody) table → IsNotedTo (length table) txns 0 table
noted-none txns table all = record {
  one_each = refl;
  each = λ item d below. rw (all item d below) (from-nobody (writers_of txns item));
}

pub noted-more : (count : ℕ) (txns : List TxnDecl) (at : ℕ) (d : TxnDecl) (writes : List ItemId) (old new : List Writers) → at < length txns → writes ≡ (get_or txns at d).writes → ChangesNamed (with_writer (record { 0 = at })) writes old new → length new ≡ length old → IsNotedTo count txns at old → IsNotedTo count txns (at + 1) new
noted-more count txns at d writes old new inside is changes same noted = record {
  one_each = same ∙ noted.one_each;
  each =
      λ item e below.
      let row : get_or new item e ≡ cond (names_item writes item) (with_writer (record { 0 = at }) (get_or old item e)) (get_or old item e) = changes.each item e (omega (arith, noted.one_each)) in
      let rest : drop at txns ≡ get_or txns at d ∷ drop (suc at) txns = drop-cons txns at d inside in
      let before : more_writers (get_or old item e) (writers_from item at (get_or txns at d ∷ drop (suc at) txns)) ≡ first_two (writers_of txns item) =
      subst (λ (l : List TxnDecl). more_writers (get_or old item e) (writers_from item at l) ≡ first_two (writers_of txns item)) rest (noted.each item e below)
      in
      rw (row, is, add-one) (sym (one-more (may_write (get_or txns at d) item) (get_or old item e) at (writers_from item (suc at) (drop (suc at) txns))) ∙ before);
}

pub noted-all : (count : ℕ) (txns : List TxnDecl) (at : ℕ) (table : List Writers) → length txns ≤ at → IsNotedTo count txns at table → AreWriters txns table
noted-all count txns at table past noted = record {
  each =
      λ item d below.
      subst (λ (l : List TxnDecl). more_writers (get_or table item d) (writers_from item at l) ≡ first_two (writers_of txns item)) (drop_of_length-le txns past)
      (noted.each item d (omega (arith, noted.one_each)));
}

pub list-at : (count : ℕ) (txns : List TxnDecl) (at : ℕ) (d : TxnDecl) (writes : List ItemId) (n : ℕ) → AreTxnsOver count txns → at < length txns → writes ≡ (get_or txns at d).writes → n ≡ count → IsList n writes
list-at count txns at d writes n lists inside is same = rw (is, same) (All-get_or (λ t. IsList count t.writes) txns at d inside lists.writes)
