-- The age bounds of a set are those of its rows, and its rows are good.
use Rattle.std.proofs.Common.{◌≡◌, ℕ, zero, suc, ◌+◌, ◌^◌, ◌<◌, ◌≤◌, Bool, true, false, eqb, cond, List, [], ◌∷◌, map, length, get_or, refl, sym, ◌∙◌, ap, subst, ⊎_elim, arith}
use Rattle.std.specs.List.{All, Contains, filter}
use Rattle.std.proofs.lemmas.Bool.{cases_lt, cases_Bool, eq-eqb}
use Rattle.std.proofs.lemmas.List.{get_or_past}
use Rattle.std.proofs.lemmas.List.FromFn.{get_or-map-range_with_len, length-map-range_with_len}
use Rattle.std.proofs.lemmas.List.Folds.{list_any_at}
use Rattle.std.proofs.lemmas.List.Elements.{All-get_or, All-from_get_or, All-head, All-tail, All-map, All-filter, All-contains, All-weaker, filter_passes}
use Rattle.rt_base.specs.declared.ids.ItemId.{ItemId}
use Rattle.item_model.specs.Kinds.{is_dated, is_derived}
use Rattle.txn_set.specs.declared.decl.TxnDecl.{TxnDecl}
use Rattle.txn_set.specs.Set.{Set, txn_of, no_txn, may_read, may_write, HasGoodTimes, IsCompiled, DependsOn}
use Rattle.txn_set.specs.Set.{Walk as SetWalk}
use Rattle.txn_set.specs.Ceilings.{greatest}
use Rattle.law_histories.proofs.Installs.{dated_in_range}
use Rattle.law_times.specs.Ages.{first_writer, writer_of, age_by}
use Rattle.age_bounds.specs.declared.AgeRow.{AgeRow}
use Rattle.age_bounds.specs.Age as rows
use Rattle.age_bounds.proofs.Levels.{age_of-rule}
use Rattle.set_admission.specs.Bounds.{response_of, age_of, AreResponsesOf, AreAgesOf}
use Rattle.set_admission.specs.Rows.{dated_reads, age_row, age_rows}
use Rattle.set_admission.proofs.Found.{response_of-le, response_of-some}

pub length-age_rows : (set : Set) → length (age_rows set) ≡ length set.items
length-age_rows set = length-map-range_with_len (age_row set) 0 (length set.items)

row-is : (set : Set) (i : ℕ) (d : AgeRow) → i < length set.items → get_or (age_rows set) i d ≡ age_row set i
row-is set i d inside = get_or-map-range_with_len (age_row set) 0 (length set.items) i i d inside (omega arith)

-- the writer

first-at : (t : TxnDecl) (ts : List TxnDecl) (item : ℕ) (b : Bool) → may_write t item ≡ b → (first_writer ts item < length ts → may_write (get_or ts (first_writer ts item) no_txn) item ≡ true)
    → cond b 0 (suc (first_writer ts item)) < suc (length ts) → may_write (get_or (t ∷ ts) (cond b 0 (suc (first_writer ts item))) no_txn) item ≡ true
first-at t ts item true e rest less = e
first-at t ts item false e rest less = rest (omega arith)

first-passes : (ts : List TxnDecl) (item : ℕ) → first_writer ts item < length ts → may_write (get_or ts (first_writer ts item) no_txn) item ≡ true
first-passes [] item inside = absurd (omega arith)
first-passes (t ∷ ts) item inside = first-at t ts item (may_write t item) refl (first-passes ts item) inside

past-is : (set : Set) (tx : ℕ) → length set.txns ≤ tx → txn_of set tx ≡ no_txn
past-is set tx past = get_or_past set.txns tx no_txn past

-- what the writer reads

read-own : (set : Set) (txn : TxnDecl) → All (λ m. may_read txn m ≡ true) (dated_reads set txn)
read-own set txn =
    All-map (λ m. may_read txn m ≡ true) (λ (i : ItemId). i.0) (filter (λ i. is_dated set.items i.0) txn.reads)
    (All-filter (λ i. is_dated set.items i.0) (λ i. may_read txn i.0 ≡ true) txn.reads
    (λ k d inside. list_any_at (λ i. eqb i.0 (get_or txn.reads k d).0) txn.reads k d inside (eq-eqb _ _ refl)))

all-dated : (set : Set) (txn : TxnDecl) → All (λ m. is_dated set.items m ≡ true) (dated_reads set txn)
all-dated set txn =
    All-map (λ m. is_dated set.items m ≡ true) (λ (i : ItemId). i.0) (filter (λ i. is_dated set.items i.0) txn.reads)
    (filter_passes (λ i. is_dated set.items i.0) txn.reads)

reads-inside : (set : Set) (txn : TxnDecl) → All (λ m. m < length set.items) (dated_reads set txn)
reads-inside set txn = All-weaker (λ m. is_dated set.items m ≡ true) (λ m. m < length set.items) (λ m dated. dated_in_range set m dated) (dated_reads set txn) (all-dated set txn)

none-reads : (m : ℕ) → may_read no_txn m ≡ true → ⊥
none-reads m h = cc

writer-writes : (set : Set) (item m : ℕ) → Contains (dated_reads set (txn_of set (writer_of set item))) m → may_write (txn_of set (writer_of set item)) item ≡ true
writer-writes set item m h =
    ⊎_elim
    (λ (inside : writer_of set item < length set.txns). first-passes set.txns item inside)
    (λ (past : length set.txns ≤ writer_of set item).
    let none = past-is set (writer_of set item) past in
    let reads = All-contains (λ k. may_read (txn_of set (writer_of set item)) k ≡ true) (dated_reads set (txn_of set (writer_of set item))) m (read-own set (txn_of set (writer_of set item))) h in
    absurd (none-reads m (subst (λ (t : TxnDecl). may_read t m ≡ true) none reads)))
    (cases_lt (writer_of set item) (length set.txns))

depends : (set : Set) (item m : ℕ) → is_derived set.items item ≡ true → Contains (dated_reads set (txn_of set (writer_of set item))) m → DependsOn set item m
depends set item m derived h = record {
  derived = derived;
  dated = All-contains (λ k. is_dated set.items k ≡ true) (dated_reads set (txn_of set (writer_of set item))) m (all-dated set (txn_of set (writer_of set item))) h;
  writer = writer_of set item;
  writes = writer-writes set item m h;
  reads = All-contains (λ k. may_read (txn_of set (writer_of set item)) k ≡ true) (dated_reads set (txn_of set (writer_of set item))) m (read-own set (txn_of set (writer_of set item))) h;
}

-- a walk along the rows is a walk along the items

parents-depend : (set : Set) (item m : ℕ) → Contains (rows.parents_of (age_row set item)) m → DependsOn set item m
parents-depend set item m h =
    ⊎_elim
    (λ (derived : is_derived set.items item ≡ true). depends set item m derived (rw derived at h))
    (λ (other : is_derived set.items item ≡ false). let (k, inside, is) = rw other at h in absurd (omega arith))
    (cases_Bool (is_derived set.items item))

no-parent : (m : ℕ) → Contains (rows.parents_of rows.no_row) m → ⊥
no-parent m (k, inside, is) = absurd (omega arith)

row-depends : (set : Set) (from mid : ℕ) → Contains (rows.parents_of (rows.row_at (age_rows set) from)) mid → DependsOn set from mid
row-depends set from mid step =
    ⊎_elim
    (λ (inside : from < length set.items). parents-depend set from mid (subst (λ (r : AgeRow). Contains (rows.parents_of r) mid) (row-is set from rows.no_row inside) step))
    (λ (past : length set.items ≤ from).
    let none : rows.row_at (age_rows set) from ≡ rows.no_row = get_or_past (age_rows set) from rows.no_row (omega (arith, length-age_rows set)) in
    absurd (no-parent mid (subst (λ (r : AgeRow). Contains (rows.parents_of r) mid) none step)))
    (cases_lt from (length set.items))

set-walk : (set : Set) (from to n : ℕ) → rows.Walk (age_rows set) from to n → SetWalk set from to n
set-walk set from to zero same = same
set-walk set from to (suc n) (mid, step, rest) = (mid, row-depends set from mid step, set-walk set mid to n rest)

-- the bases are small

base-le : (set : Set) → IsCompiled set → (tx : ℕ) → (txn_of set tx).period + response_of set tx ≤ 2 ^ 31
base-le set ok tx =
    ⊎_elim
    (λ (inside : tx < length set.txns).
    let good = All-get_or HasGoodTimes set.txns tx no_txn inside ok.times in
    omega (arith, response_of-le set tx, good.period.1, good.deadline.1))
    (λ (past : length set.txns ≤ tx). omega (arith, response_of-le set tx, ap (λ (t : TxnDecl). t.deadline) (past-is set tx past), ap (λ (t : TxnDecl). t.period) (past-is set tx past)))
    (cases_lt tx (length set.txns))

parents-inside : (set : Set) (item : ℕ) → All (λ m. m < length set.items) (rows.parents_of (age_row set item))
parents-inside set item =
    ⊎_elim
    (λ (derived : is_derived set.items item ≡ true). rw derived (reads-inside set (txn_of set (writer_of set item))))
    (λ (other : is_derived set.items item ≡ false). rw other (λ k d inside. absurd (omega arith)))
    (cases_Bool (is_derived set.items item))

pub rows-good : (set : Set) → IsCompiled set → rows.AreGoodRows (age_rows set)
rows-good set ok = record {
  few = omega (arith, length-age_rows set, ok.few_items);
  bases = All-from_get_or (λ r. r.base ≤ 2 ^ 31) (age_rows set) rows.no_row (λ i inside. base-at i (omega (arith, length-age_rows set)));
  parents = All-from_get_or (λ r. All (λ p. p < length (age_rows set)) (rows.parents_of r)) (age_rows set) rows.no_row (λ i inside. parents-at i (omega (arith, length-age_rows set)));
  acyclic = λ i n walk. ok.acyclic i n (set-walk set i i (suc n) walk);
}
  where
    base-at : (i : ℕ) → i < length set.items → (get_or (age_rows set) i rows.no_row).base ≤ 2 ^ 31
    base-at i inside = subst (λ (r : AgeRow). r.base ≤ 2 ^ 31) (sym (row-is set i rows.no_row inside)) (base-le set ok (writer_of set i))

    parents-at : (i : ℕ) → i < length set.items → All (λ p. p < length (age_rows set)) (rows.parents_of (get_or (age_rows set) i rows.no_row))
    parents-at i inside =
        subst (λ (r : AgeRow). All (λ p. p < length (age_rows set)) (rows.parents_of r)) (sym (row-is set i rows.no_row inside))
        (subst (λ (n : ℕ). All (λ p. p < n) (rows.parents_of (age_row set i))) (sym (length-age_rows set)) (parents-inside set i))

-- the ages are those of the rows

map-two : (f g : ℕ → ℕ) (n : ℕ) → ((m : ℕ) → m < n → f m ≡ g m) → (xs : List ItemId) → All (λ m. m < n) (map (λ i. i.0) xs) → map f (map (λ i. i.0) xs) ≡ map (λ i. g i.0) xs
map-two f g n same [] all = refl
map-two f g n same (x ∷ xs) all =
    let first = same x.0 (All-head (λ m. m < n) x.0 (map (λ i. i.0) xs) all) in
    let rest = map-two f g n same xs (All-tail (λ m. m < n) x.0 (map (λ i. i.0) xs) all) in
    cc

same-row : (set : Set) (f g : ℕ → ℕ) → ((m : ℕ) → m < length set.items → f m ≡ g m) → (item : ℕ) →
    greatest (map f (rows.parents_of (age_row set item))) ≡
    cond (is_derived set.items item) (greatest (map (λ i. g i.0) (filter (λ i. is_dated set.items i.0) (txn_of set (writer_of set item)).reads))) 0
same-row set f g same item =
    ⊎_elim
    (λ (derived : is_derived set.items item ≡ true).
    rw derived (ap greatest (map-two f g (length set.items) same (filter (λ i. is_dated set.items i.0) (txn_of set (writer_of set item)).reads) (reads-inside set (txn_of set (writer_of set item))))))
    (λ (other : is_derived set.items item ≡ false). rw other refl)
    (cases_Bool (is_derived set.items item))

same-greatest : (xs : List ℕ) → rows.greatest xs ≡ greatest xs
same-greatest [] = refl
same-greatest (x ∷ xs) = rw (same-greatest xs) refl

same-within : (set : Set) (n i : ℕ) → i < length set.items → rows.age_within (age_rows set) n i ≡ age_by set (response_of set) n i
same-within set zero i inside = refl
same-within set (suc n) i inside =
    let row = row-is set i rows.no_row inside in
    let parents = same-row set (rows.age_within (age_rows set) n) (age_by set (response_of set) n) (same-within set n) i in
    ap (λ (r : AgeRow). r.base + rows.greatest (map (rows.age_within (age_rows set) n) (rows.parents_of r))) row ∙
    ap (λ (m : ℕ). (txn_of set (writer_of set i)).period + response_of set (writer_of set i) + m)
    (same-greatest (map (rows.age_within (age_rows set) n) (rows.parents_of (age_row set i))) ∙ parents)

one-more : (set : Set) → IsCompiled set → (i : ℕ) → i < length set.items → rows.age_of (age_rows set) i ≡ rows.age_within (age_rows set) (suc (length (age_rows set))) i
unfolding rows.age_of
one-more set ok i inside = age_of-rule (age_rows set) (rows-good set ok) i (omega (arith, length-age_rows set))

pub same-age : (set : Set) → IsCompiled set → (i : ℕ) → i < length set.items → rows.age_of (age_rows set) i ≡ age_of set i
unfolding age_of
same-age set ok i inside = one-more set ok i inside ∙ (ap (λ (n : ℕ). rows.age_within (age_rows set) (suc n) i) (length-age_rows set) ∙ same-within set (suc (length set.items)) i inside)

pub ages-of : (set : Set) → IsCompiled set → (answers : List ℕ) → rows.AreAges (age_rows set) answers → AreAgesOf set answers
ages-of set ok answers h = record {
  one_each = h.one_each ∙ length-age_rows set;
  each = λ i inside. h.each i (omega (arith, length-age_rows set)) ∙ same-age set ok i inside;
}

-- what the code needs

pub turn-le : (set : Set) → IsCompiled set → (responses : List ℕ) → AreResponsesOf set responses → (tx : ℕ) → tx < length set.txns → (txn_of set tx).period + get_or responses tx 0 ≤ 2 ^ 31
turn-le set ok responses found tx inside = omega (arith, base-le set ok tx, response_of-some set tx (get_or responses tx 0) (found.each tx inside))

past-base : (set : Set) (tx : ℕ) → length set.txns ≤ tx → 0 ≡ (txn_of set tx).period + response_of set tx
past-base set tx past =
    let none : txn_of set tx ≡ no_txn = past-is set tx past in
    omega (arith, response_of-le set tx, ap (λ (t : TxnDecl). t.deadline) none, ap (λ (t : TxnDecl). t.period) none)

past-parents : (set : Set) (tx : ℕ) → length set.txns ≤ tx → [] ≡ dated_reads set (txn_of set tx)
past-parents set tx past = ap (λ (t : TxnDecl). dated_reads set t) (sym (past-is set tx past))

pub row-past : (set : Set) (item writer : ℕ) (derived : Bool) (parents : List ℕ) → derived ≡ is_derived set.items item → writer ≡ writer_of set item → length set.txns ≤ writer → parents ≡ [] → record { derived = derived; base = 0; parents = parents } ≡ age_row set item
row-past set item writer derived parents d w past none =
    let base : 0 ≡ (txn_of set (writer_of set item)).period + response_of set (writer_of set item) = past-base set (writer_of set item) (omega arith) in
    let reads : [] ≡ dated_reads set (txn_of set (writer_of set item)) = past-parents set (writer_of set item) (omega arith) in
    cc
