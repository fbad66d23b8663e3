-- The writers of an item in list order, and what it means that there is one.
use Rattle.std.proofs.Common.{◌≡◌, ℕ, zero, suc, ◌+◌, ◌-◌, ◌<◌, ◌≤◌, Bool, true, false, ◌&&◌, ⊎_elim, List, [], ◌∷◌, length, get_or, drop, Some, refl, sym, ap, subst, ◌∙◌, arith, get_or-drop}
use Rattle.std.specs.List.{All, list_any}
use Rattle.std.proofs.lemmas.Bool.{cases_lt, cases_Bool, both_ways, and_parts, and_from}
use Rattle.std.proofs.lemmas.List.{get_or_default}
use Rattle.std.proofs.lemmas.List.Folds.{Any-from_list_any, list_any_at}
use Rattle.txn_set.specs.declared.decl.TxnDecl.{TxnDecl}
use Rattle.txn_set.specs.Set.{no_txn, may_read, may_write}
use Rattle.rt_base.specs.declared.ids.TxId.{TxId}
use Rattle.rt_base.specs.declared.ids.ItemId.{ItemId}
use Rattle.item_model.specs.declared.decl.ItemDecl.{ItemDecl}
use Rattle.item_model.specs.Kinds.{is_derived}
use Rattle.txn_compiler.specs.Tables.{first_two, writer_reads, AreTxnsOver, IsList}
use Rattle.std.proofs.lemmas.List.Elements.{All-get_or}
use Rattle.txn_compiler.specs.Graph.{writers_from, writers_of}

cons-parts : (a b : ℕ) (xs ys : List ℕ) → a ∷ xs ≡ b ∷ ys → (a ≡ b) × (xs ≡ ys)
cons-parts a b xs ys h = (cc, cc)

-- the first writer, that those before it do not write, and the further writers
pub record IsFirst (item place : ℕ) (txns : List TxnDecl) (a : ℕ) (rest : List ℕ) (k : ℕ) : Type 0 where
  pub at : a ≡ place + k
  pub inside : k < length txns
  pub writes : may_write (get_or txns k no_txn) item ≡ true
  pub before : (j : ℕ) → j < k → may_write (get_or txns j no_txn) item ≡ false
  pub others : rest ≡ writers_from item (suc a) (drop (suc k) txns)

pub first-writer : (item place : ℕ) (txns : List TxnDecl) (a : ℕ) (rest : List ℕ) → writers_from item place txns ≡ a ∷ rest → (k : ℕ) × IsFirst item place txns a rest k
first-writer item place [] a rest h = absurd (cc)
first-writer item place (t ∷ ts) a rest h =
    ⊎_elim
    (λ (writes : may_write t item ≡ true).
    let here : place ∷ writers_from item (suc place) ts ≡ a ∷ rest = rw writes at h in
    let parts = cons-parts place a (writers_from item (suc place) ts) rest here in (
      0,
      record {
        at = omega (arith, parts.0);
        inside = omega arith;
        writes = writes;
        before = λ j less. absurd (omega arith);
        others = sym parts.1 ∙ ap (λ (n : ℕ). writers_from item (suc n) ts) parts.0;
      },
    ))
    (λ (not' : may_write t item ≡ false).
    let later : writers_from item (suc place) ts ≡ a ∷ rest = rw not' at h in
    let (k, first) = first-writer item (suc place) ts a rest later in (
      suc k,
      record {
        at = omega (arith, first.at);
        inside = omega (arith, first.inside);
        writes = first.writes;
        before = λ j less. before-cons k not' first.before j less;
        others = first.others;
      },
    ))
    (cases_Bool (may_write t item))
  where
    before-cons : (k : ℕ) → may_write t item ≡ false → ((j : ℕ) → j < k → may_write (get_or ts j no_txn) item ≡ false) → (j : ℕ) → j < suc k → may_write (get_or (t ∷ ts) j no_txn) item ≡ false
    before-cons k h b zero less = h
    before-cons k h b (suc j) less = b j (omega arith)

pub nobody-writes : (item place : ℕ) (txns : List TxnDecl) → writers_from item place txns ≡ [] → (j : ℕ) → may_write (get_or txns j no_txn) item ≡ false
nobody-writes item place [] h j = refl
nobody-writes item place (t ∷ ts) h j =
    ⊎_elim
    (λ (writes : may_write t item ≡ true). let here : place ∷ writers_from item (suc place) ts ≡ [] = rw writes at h in absurd (cc))
    (λ (not' : may_write t item ≡ false). at j not' (nobody-writes item (suc place) ts (rw not' at h)))
    (cases_Bool (may_write t item))
  where
    at : (j : ℕ) → may_write t item ≡ false → ((j : ℕ) → may_write (get_or ts j no_txn) item ≡ false) → may_write (get_or (t ∷ ts) j no_txn) item ≡ false
    at zero h rest = h
    at (suc j) h rest = rest j

-- the one writer of an item
pub record IsOne (txns : List TxnDecl) (item a : ℕ) : Type 0 where
  pub inside : a < length txns
  pub writes : may_write (get_or txns a no_txn) item ≡ true
  pub alone : (j : ℕ) → may_write (get_or txns j no_txn) item ≡ true → j ≡ a

pub one-writer : (txns : List TxnDecl) (item a : ℕ) → writers_of txns item ≡ a ∷ [] → IsOne txns item a
one-writer txns item a h =
    let (k, first) = first-writer item 0 txns a [] h in
    let same : a ≡ k = omega (arith, first.at) in
    record {
      inside = omega (arith, same, first.inside);
      writes = rw same first.writes;
      alone =
          λ j writes.
          ⊎_elim
          (λ (less : j < k). absurd (both_ways (may_write (get_or txns j no_txn) item) (first.before j less) writes))
          (λ (le : k ≤ j).
          ⊎_elim
          (λ (more : k < j).
          let after : may_write (get_or (drop (suc k) txns) (j - suc k) no_txn) item ≡ false = nobody-writes item (suc a) (drop (suc k) txns) (sym first.others) (j - suc k) in
          let place : suc k + (j - suc k) ≡ j = omega arith in
          absurd (both_ways (may_write (get_or txns j no_txn) item) (rw (get_or-drop (suc k) txns (j - suc k) no_txn, place) at after) writes))
          (λ (ge : j ≤ k). omega (arith, same))
          (cases_lt k j))
          (cases_lt j k);
    }

pub same-test : (a b : Bool) → (a ≡ true → b ≡ true) → (b ≡ true → a ≡ true) → a ≡ b
same-test true true f g = refl
same-test true false f g = sym (f refl)
same-test false true f g = g refl
same-test false false f g = refl

-- where an item has one writer, some transaction writes it and reads another exactly where that one reads it
pub reads-of-one : (txns : List TxnDecl) (item a to : ℕ) → IsOne txns item a → list_any (λ t. may_write t item && may_read t to) txns ≡ may_read (get_or txns a no_txn) to
reads-of-one txns item a to one =
    same-test (list_any (λ t. may_write t item && may_read t to) txns) (may_read (get_or txns a no_txn) to)
    (λ some.
    let (k, txn, inside, is, at) = Any-from_list_any (λ t. may_write t item && may_read t to) txns some in
    let here : get_or txns k no_txn ≡ txn = get_or_default txns k no_txn txn inside ∙ is in
    let both = and_parts (may_write (get_or txns k no_txn) item) (may_read (get_or txns k no_txn) to) (rw here at) in
    subst (λ (j : ℕ). may_read (get_or txns j no_txn) to ≡ true) (one.alone k both.0) both.1)
    (λ reads.
    list_any_at (λ t. may_write t item && may_read t to) txns a no_txn one.inside
    (and_from (may_write (get_or txns a no_txn) item) (may_read (get_or txns a no_txn) to) one.writes reads))

-- the first writer of a row
pub first-of : (writers : List ℕ) (a : TxId) → (first_two writers).first ≡ Some a → (others : List ℕ) × (writers ≡ a.0 ∷ others)
first-of [] a h = absurd (cc)
first-of (x ∷ []) a h = let e : record { 0 = x } ≡ a = cc in ([], ap (λ (t : TxId). t.0 ∷ []) e)
first-of (x ∷ y ∷ others) a h = let e : record { 0 = x } ≡ a = cc in (y ∷ others, ap (λ (t : TxId). t.0 ∷ y ∷ others) e)

pub first-inside : (txns : List TxnDecl) (item : ℕ) (a : TxId) → (first_two (writers_of txns item)).first ≡ Some a → a.0 < length txns
first-inside txns item a h =
    let (others, is) = first-of (writers_of txns item) a h in
    let (k, first) = first-writer item 0 txns a.0 others is in
    omega (arith, first.at, first.inside)

-- what the writer of a derived item reads
pub reads-is : (items : List ItemDecl) (txns : List TxnDecl) (item : ℕ) (a : TxId) (d : TxnDecl) → is_derived items item ≡ true → (first_two (writers_of txns item)).first ≡ Some a → (get_or txns a.0 d).reads ≡ writer_reads items txns item
reads-is items txns item a d derived h =
    let inside = first-inside txns item a h in
    let (others, is) = first-of (writers_of txns item) a h in
    rw (derived, is) (ap (λ (t : TxnDecl). t.reads) (get_or_default txns a.0 d no_txn inside))

-- the reads of a transaction are items of the set
pub reads-inside : (count : ℕ) (txns : List TxnDecl) (a : ℕ) (d : TxnDecl) → AreTxnsOver count txns → a < length txns → All (λ i. i.0 < count) (get_or txns a d).reads
reads-inside count txns a d lists inside = (All-get_or (λ t. IsList count t.reads) txns a d inside lists.reads).in_range

-- the same of the lists as the code reads them
pub reads-code : (items seen : List ItemDecl) (txns read : List TxnDecl) (item : ℕ) (a : TxId) (d : TxnDecl) (parents : List ItemId) → seen ≡ items → read ≡ txns → is_derived seen item ≡ true → (first_two (writers_of txns item)).first ≡ Some a → parents ≡ (get_or read a.0 d).reads → parents ≡ writer_reads items txns item
reads-code items seen txns read item a d parents same equal derived h is =
    is ∙ (ap (λ (l : List TxnDecl). (get_or l a.0 d).reads) equal ∙ reads-is items txns item a d (rw same at derived) h)

pub inside-code : (count : ℕ) (txns read : List TxnDecl) (item : ℕ) (a : TxId) (d : TxnDecl) (parents : List ItemId) → read ≡ txns → AreTxnsOver count txns → (first_two (writers_of txns item)).first ≡ Some a → parents ≡ (get_or read a.0 d).reads → All (λ i. i.0 < count) parents
inside-code count txns read item a d parents equal lists h is =
    subst (λ (l : List ItemId). All (λ i. i.0 < count) l) (sym (is ∙ ap (λ (l : List TxnDecl). (get_or l a.0 d).reads) equal))
    (reads-inside count txns a.0 d lists (first-inside txns item a h))
