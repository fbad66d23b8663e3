-- Nothing refuses a set exactly where the admission rule holds.
use Rattle.std.proofs.Common.{◌≡◌, ℕ, zero, suc, ◌+◌, ◌<◌, ◌≤◌, Bool, true, false, eqb, leb, inl, inr, List, [], ◌∷◌, map, length, get_or, Option, None, Some, refl, sym, ◌∙◌, ap, subst, ⊎_elim, arith}
use Rattle.std.specs.Prelude.{IsTrue, if◌then◌else◌}
use Rattle.std.specs.List.{All, find, filter}
use Rattle.std.specs.Option.{option_map}
use Rattle.std.proofs.lemmas.Bool.{cases_lt, cases_Bool, ltb-false, le-ltb, le-leb, lt-leb, eqb-true, eq-eqb}
use Rattle.std.proofs.lemmas.List.{get_or_default, get_or_past}
use Rattle.std.proofs.lemmas.List.Elements.{All-head, All-tail, All-cons, All-nil, All-weaker, All-filter}
use Rattle.rt_base.specs.declared.ids.TxId.{TxId}
use Rattle.rt_base.specs.declared.ids.ItemId.{ItemId}
use Rattle.rt_base.specs.declared.ids.TogetherDecl.{TogetherDecl}
use Rattle.item_model.specs.Kinds.{validity_of, is_dated}
use Rattle.item_model.specs.Work.{is_above, first_of_both}
use Rattle.txn_set.specs.declared.decl.TxnDecl.{TxnDecl}
use Rattle.txn_set.specs.Set.{Set, IsCompiled, txn_of, no_txn, may_read}
use Rattle.txn_set.specs.Ceilings.{greatest}
use Rattle.law_histories.proofs.Members.{In}
use Rattle.law_histories.proofs.Lists.{any_in, in_any}
use Rattle.law_times.specs.Response.{IsResponse, response}
use Rattle.law_times.specs.Ages.{IsAgeBound, IsAdmitted, age_bound}
use Rattle.law_times.proofs.Levels.{age_bounds}
use Rattle.law_times.proofs.WithinAge.{dated_derived_at as some-dated}
use Rattle.set_admission.specs.declared.error.AdmitError.{AdmitError}
use Rattle.set_admission.specs.declared.error.AdmitError.TheVariants.{TooOld, TooApart, OutOfMemory}
use Rattle.set_admission.specs.Bounds.{response_of, age_of, MeetsAdmission}
use Rattle.set_admission.specs.Admission.{falling, first_refusal, where_none, not_schedulable, is_too_old, too_old, too_apart, apart_from, apart_age, is_apart, read_together, greatest_age, refusal, Refuses}
use Rattle.set_admission.specs.Laws.{IsDecided}
use Rattle.set_admission.proofs.Falling.{tx_at, falling-inside, falling-has}
use Rattle.set_admission.proofs.Found.{found, response_of-some, response_of-is}
use Rattle.set_admission.proofs.Tables.{first-none}

pub both-none : {A : Type 0} (a b : Option A) → first_of_both a b ≡ None → (a ≡ None) × (b ≡ None)
both-none None b h = (refl, h)
both-none (Some x) b h = cc

both-are : {A : Type 0} (a b : Option A) → a ≡ None → b ≡ None → first_of_both a b ≡ None
both-are a b x y = rw (x, y) refl

each-place : (refuses : TxId → Option AdmitError) (txs : List TxId) → first_refusal refuses txs ≡ None → (k : ℕ) (d : TxId) → k < length txs → refuses (get_or txs k d) ≡ None
each-place refuses [] h k d below = absurd (omega arith)
each-place refuses (tx ∷ txs) h zero d below = (both-none (refuses tx) (first_refusal refuses txs) h).0
each-place refuses (tx ∷ txs) h (suc k) d below = each-place refuses txs (both-none (refuses tx) (first_refusal refuses txs) h).1 k d (omega arith)

each-tx : (set : Set) (refuses : TxId → Option AdmitError) → first_refusal refuses (falling set) ≡ None → (tx : ℕ) → tx < length set.txns → refuses (tx_at tx) ≡ None
each-tx set refuses h tx inside =
    let (k, below, e) = falling-has set tx inside in
    let here : get_or (falling set) k (tx_at tx) ≡ tx_at tx = get_or_default (falling set) k (tx_at tx) (tx_at tx) below ∙ e in
    subst (λ (t : TxId). refuses t ≡ None) here (each-place refuses (falling set) h k (tx_at tx) below)

from-each : (set : Set) (refuses : TxId → Option AdmitError) → ((tx : TxId) → tx.0 < length set.txns → refuses tx ≡ None) → first_refusal refuses (falling set) ≡ None
from-each set refuses none = first-none refuses (falling set) (λ k d below. none (get_or (falling set) k d) (falling-inside set k d below))

-- a transaction of the set, by what it reads

in_set : (set : Set) (tx item : ℕ) → may_read (txn_of set tx) item ≡ true → tx < length set.txns
in_set set tx item h =
    ⊎_elim
    (λ (inside : tx < length set.txns). inside)
    (λ (past : length set.txns ≤ tx). absurd (none-reads (subst (λ (t : TxnDecl). may_read t item ≡ true) (get_or_past set.txns tx no_txn past) h)))
    (cases_lt tx (length set.txns))
  where
    none-reads : may_read no_txn item ≡ true → ⊥
    none-reads e = cc

-- responses

some-there : (set : Set) (tx : ℕ) (o : Option ℕ) (e : AdmitError) → response set tx ≡ o → where_none o e ≡ None → IsResponse set tx (response_of set tx)
some-there set tx None e is h = cc
some-there set tx (Some w) e is h = response_of-is set tx w is

there-none : (o : Option ℕ) (w : ℕ) (e : AdmitError) → o ≡ Some w → where_none o e ≡ None
there-none o w e is = rw is refl

-- validities

pub map-none : {A B : Type 0} (f : A → B) (o : Option A) → option_map f o ≡ None → o ≡ None
map-none f None h = refl
map-none f (Some x) h = cc

pub none-map : {A B : Type 0} (f : A → B) (o : Option A) → o ≡ None → option_map f o ≡ None
none-map f o h = rw h refl

find-none : (p : ItemId → Bool) (xs : List ItemId) → find p xs ≡ None → (x : ItemId) → In x xs → p x ≡ false
find-none p [] h x none = absurd none
find-none p (y ∷ ys) h x here =
    ⊎_elim
    (λ (passes : p y ≡ true). absurd (not-some y (rw passes at h)))
    (λ (fails : p y ≡ false).
    ⊎_elim (λ (same : x ≡ y). ap p same ∙ fails) (λ (rest : In x ys). find-none p ys (rw fails at h) x rest) here)
    (cases_Bool (p y))
  where
    not-some : (z : ItemId) → Some z ≡ None → ⊥
    not-some z e = cc

none-find : (p : ItemId → Bool) (xs : List ItemId) → ((x : ItemId) → In x xs → p x ≡ false) → find p xs ≡ None
none-find p [] all = refl
none-find p (x ∷ xs) all = rw (all x (inl refl)) (none-find p xs (λ y i. all y (inr i)))

fresh-is : (age v : ℕ) (o : Option ℕ) → o ≡ Some v → is_above age o ≡ false → age ≤ v
fresh-is age v o e h = ltb-false v age (rw e at h)

is-fresh : (age : ℕ) (o : Option ℕ) → ((v : ℕ) → o ≡ Some v → age ≤ v) → is_above age o ≡ false
is-fresh age None h = refl
is-fresh age (Some v) h = le-ltb v age (h v refl)

-- intervals

near-is : (count age within : ℕ) → is_apart count age within ≡ false → 2 ≤ count → age ≤ within
near-is count age within h two =
    let enough : leb 2 count ≡ true = le-leb 2 count two in
    ltb-false within age (rw enough at h)

is-near : (count age within : ℕ) → (2 ≤ count → age ≤ within) → is_apart count age within ≡ false
is-near count age within near =
    ⊎_elim
    (λ (few : count < 2). rw (lt-leb 2 count few) refl)
    (λ (two : 2 ≤ count). rw (le-leb 2 count two, le-ltb within age (near two)) refl)
    (cases_lt count 2)

choose-none : (b : Bool) (n : ℕ) → (if b then Some n else None) ≡ None → b ≡ false
choose-none true n h = cc
choose-none false n h = refl

abbrev IsNear : Set → TxId → TogetherDecl → Type 0
IsNear set tx g = 2 ≤ length (read_together set tx g) → greatest_age set (read_together set tx g) ≤ g.within

apart-none : (set : Set) (tx : TxId) (place : ℕ) (groups : List TogetherDecl) → apart_from set tx place groups ≡ None → All (IsNear set tx) groups
apart-none set tx place [] h = All-nil (IsNear set tx)
apart-none set tx place (g ∷ gs) h =
    let both = both-none (option_map (λ age. TooApart tx place age) (apart_age set tx g)) (apart_from set tx (suc place) gs) h in
    let head : apart_age set tx g ≡ None = map-none (λ age. TooApart tx place age) (apart_age set tx g) both.0 in
    let near = choose-none (is_apart (length (read_together set tx g)) (greatest_age set (read_together set tx g)) g.within) (greatest_age set (read_together set tx g)) head in
    All-cons (IsNear set tx) g gs (near-is (length (read_together set tx g)) (greatest_age set (read_together set tx g)) g.within near) (apart-none set tx (suc place) gs both.1)

none-apart : (set : Set) (tx : TxId) (place : ℕ) (groups : List TogetherDecl) → All (IsNear set tx) groups → apart_from set tx place groups ≡ None
none-apart set tx place [] all = refl
none-apart set tx place (g ∷ gs) all =
    let near = is-near (length (read_together set tx g)) (greatest_age set (read_together set tx g)) g.within (All-head (IsNear set tx) g gs all) in
    let head : apart_age set tx g ≡ None = rw near refl in
    both-are _ _ (none-map (λ age. TooApart tx place age) (apart_age set tx g) head) (none-apart set tx (suc place) gs (All-tail (IsNear set tx) g gs all))

none-read : (items : List ItemId) → filter (λ i. may_read no_txn i.0) items ≡ []
none-read [] = refl
none-read (i ∷ is) = none-read is

past-near : (set : Set) (tx : ℕ) (g : TogetherDecl) → length set.txns ≤ tx → IsNear set (tx_at tx) g
past-near set tx g past two =
    let none : txn_of set tx ≡ no_txn = get_or_past set.txns tx no_txn past in
    let empty : filter (λ i. may_read (txn_of set tx) i.0) g.items ≡ [] = ap (λ (t : TxnDecl). filter (λ i. may_read t i.0) g.items) none ∙ none-read g.items in
    absurd (omega (arith, ap length empty, two))

-- the rule by the bounds that are found

unrefused-meets : (set : Set) → refusal set ≡ None → MeetsAdmission set
unfolding refusal age_of
unrefused-meets set h =
    let first = both-none (first_refusal (not_schedulable set) (falling set)) _ h in
    let rest = both-none (first_refusal (too_old set) (falling set)) (first_refusal (too_apart set) (falling set)) first.1 in
    record {
      responses = λ tx inside. some-there set tx (response set tx) _ refl (each-tx set (not_schedulable set) first.0 tx inside);
      ages = record {
        valid = λ tx item v reads is.
            let r = any_in (λ (i : ItemId). eqb i.0 item) (txn_of set tx).reads reads in
            let same : (r.0).0 ≡ item = eqb-true _ _ r.2 in
            let old = map-none (λ i. TooOld (tx_at tx) i (age_of set i.0)) _ (each-tx set (too_old set) rest.0 tx (in_set set tx item reads)) in
            let fine = find-none (is_too_old set) (txn_of set tx).reads old r.0 r.1 in
            subst (λ (k : ℕ). age_of set k ≤ v) same (fresh-is (age_of set (r.0).0) v (validity_of set.items (r.0).0) (ap (validity_of set.items) same ∙ is) fine);
        within = λ tx.
            ⊎_elim
            (λ (inside : tx < length set.txns). apart-none set (tx_at tx) 0 set.together (each-tx set (too_apart set) rest.1 tx inside))
            (λ (past : length set.txns ≤ tx). λ k d below. past-near set tx (get_or set.together k d) past)
            (cases_lt tx (length set.txns));
      };
    }

meets-unrefused : (set : Set) → MeetsAdmission set → refusal set ≡ None
unfolding refusal age_of
meets-unrefused set h =
    both-are _ _
    (from-each set (not_schedulable set) (λ tx inside. there-none (response set tx.0) (response_of set tx.0) _ (found set tx.0 (response_of set tx.0) (h.responses tx.0 inside))))
    (both-are _ _
    (from-each set (too_old set)
    (λ tx inside.
    none-map (λ i. TooOld tx i (age_of set i.0)) _
    (none-find (is_too_old set) (txn_of set tx.0).reads
    (λ i here. is-fresh (age_of set i.0) (validity_of set.items i.0) (λ v is. h.ages.valid tx.0 i.0 v (in_any (λ (k : ItemId). eqb k.0 i.0) i (txn_of set tx.0).reads here (eq-eqb i.0 i.0 refl)) is)))))
    (from-each set (too_apart set) (λ tx inside. none-apart set tx 0 set.together (h.ages.within tx.0))))

-- the rule by any responses: there is one response for each transaction, and so one age bound for each item

same-bounds : (set : Set) → IsCompiled set → (h : IsAdmitted set) → (item : ℕ) → is_dated set.items item ≡ true → age_bound set h.response item ≡ age_bound set (response_of set) item
same-bounds set ok h item dated = (age_bounds set (response_of set) ok).only (age_bound set h.response) by item dated
  where
    response-same : (tx : ℕ) → tx < length set.txns → h.response tx ≡ response_of set tx
    response-same tx inside = sym (response_of-some set tx (h.response tx) (found set tx (h.response tx) (h.responses tx inside)))

    by : IsAgeBound set (response_of set) (age_bound set h.response)
    by = record {
      sensor = λ i tx d n w. (age_bounds set h.response ok).bounds.sensor i tx d n w ∙ ap (λ (r : ℕ). (txn_of set tx).period + r) (response-same tx w.in_range);
      derived = λ i tx d w.
          (age_bounds set h.response ok).bounds.derived i tx d w ∙
          ap (λ (r : ℕ). (txn_of set tx).period + r + greatest (map (λ i. age_bound set h.response i.0) (filter (λ i. is_dated set.items i.0) (txn_of set tx).reads))) (response-same tx w.in_range);
    }

map-same : (f g : ℕ → ℕ) (xs : List ItemId) → All (λ i. f i.0 ≡ g i.0) xs → map (λ i. f i.0) xs ≡ map (λ i. g i.0) xs
map-same f g [] all = refl
map-same f g (x ∷ xs) all =
    let first = All-head (λ (i : ItemId). f i.0 ≡ g i.0) x xs all in
    let rest = map-same f g xs (All-tail (λ (i : ItemId). f i.0 ≡ g i.0) x xs all) in
    cc

admitted-meets : (set : Set) → IsCompiled set → IsAdmitted set → MeetsAdmission set
admitted-meets set ok h = record {
  responses = λ tx inside. response_of-is set tx (h.response tx) (found set tx (h.response tx) (h.responses tx inside));
  ages = record {
    valid = λ tx item v reads is. subst (λ (n : ℕ). n ≤ v) (same-bounds set ok h item (some-dated (validity_of set.items item) v is)) (h.ages.valid tx item v reads is);
    within = λ tx k d below. near tx (get_or set.together k d) (ok.together_dated k d below) (h.ages.within tx k d below);
  };
}
  where
    near : (tx : ℕ) (g : TogetherDecl) → All (λ i. IsTrue (is_dated set.items i.0)) g.items
        → (2 ≤ length (filter (λ i. may_read (txn_of set tx) i.0) g.items) → greatest (map (λ i. age_bound set h.response i.0) (filter (λ i. may_read (txn_of set tx) i.0) g.items)) ≤ g.within)
        → 2 ≤ length (filter (λ i. may_read (txn_of set tx) i.0) g.items) → greatest (map (λ i. age_bound set (response_of set) i.0) (filter (λ i. may_read (txn_of set tx) i.0) g.items)) ≤ g.within
    near tx g dated le two =
        let all = All-filter (λ (i : ItemId). may_read (txn_of set tx) i.0) (λ i. age_bound set h.response i.0 ≡ age_bound set (response_of set) i.0) g.items
        (All-weaker (λ (i : ItemId). IsTrue (is_dated set.items i.0)) (λ i. age_bound set h.response i.0 ≡ age_bound set (response_of set) i.0) (λ i d. same-bounds set ok h i.0 d) g.items dated) in
        subst (λ (xs : List ℕ). greatest xs ≤ g.within) (map-same (age_bound set h.response) (age_bound set (response_of set)) (filter (λ i. may_read (txn_of set tx) i.0) g.items) all) (le two)

meets-admitted : (set : Set) → MeetsAdmission set → IsAdmitted set
meets-admitted set h = record { response = response_of set; responses = h.responses; ages = h.ages }

pub decided : (set : Set) → IsCompiled set → IsDecided set
decided set ok = record {
  by_rule = (λ none. meets-admitted set (unrefused-meets set none), λ h. meets-unrefused set (admitted-meets set ok h));
  by_found = (unrefused-meets set, meets-unrefused set);
}

-- what the code's clauses need

pub admitted : (set : Set) → refusal set ≡ None → IsAdmitted set
admitted set none = meets-admitted set (unrefused-meets set none)

pub meets : (set : Set) → refusal set ≡ None → MeetsAdmission set
meets set none = unrefused-meets set none

refused-some : (found : Option AdmitError) (e : AdmitError) → Refuses found e → (e ≡ OutOfMemory → ⊥) → found ≡ Some e
refused-some found OutOfMemory is other = absurd (other refl)
refused-some found rest is other = is

pub refused : (set : Set) (e : AdmitError) → IsCompiled set → Refuses (refusal set) e → (e ≡ OutOfMemory → ⊥) → ¬ IsAdmitted set
refused set e ok is other h =
    let none : refusal set ≡ None = meets-unrefused set (admitted-meets set ok h) in
    let some : refusal set ≡ Some e = refused-some (refusal set) e is other in
    absurd (cc)
