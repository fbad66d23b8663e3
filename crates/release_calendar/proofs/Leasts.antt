-- The least of keys in rows, over a change of one of them.
use Rattle.std.proofs.Common.{◌≡◌, ◌≢◌, refl, ℕ, zero, suc, ◌+◌, ◌-◌, ◌*◌, ◌/◌, ◌<◌, ◌≤◌, min, List, [], ◌∷◌, length, get_or, set, replicate, ap, sym, ◌∙◌, subst, inl, inr, arith}
use Rattle.std.proofs.lemmas.Bool.{cases_eq, cases_lt}
use Rattle.std.proofs.lemmas.List.{get_or-set_same, get_or-set_other, get_or_default, set-get_or, length-set}
use Rattle.release_calendar.specs.Heads.{no_key, key_at, IsLeastOf, AreLeasts}

-- ---- the least of some

-- of one that is there
of_one : (keys : List ℕ) (at : ℕ) → at < length keys → IsLeastOf keys at 1 (get_or keys at 0)
of_one keys at lt =
    let here : key_at keys (at + 0) ≡ get_or keys at 0 = ap (key_at keys) (let e : at + 0 ≡ at = omega arith in e) ∙ get_or_default keys at no_key 0 lt in
    record {
      below = λ k one. (let same : at + 0 ≡ at + k = omega (arith, one) in subst (λ (n : ℕ). get_or keys at 0 ≤ key_at keys n) same (omega (arith, here)));
      among = (0, omega arith, here);
    }

-- the least of two pieces
pub of_two : (keys : List ℕ) (from count middle more all a b least : ℕ) → middle ≡ from + count → all ≡ count + more → least ≡ min a b → IsLeastOf keys from count a → IsLeastOf keys middle more b → IsLeastOf keys from all least
of_two keys from count middle more all a b least e f m x y = record {
  below = λ k lt.
      elim (cases_lt k count) [
        | inl in' ↦ (let h : a ≤ key_at keys (from + k) = x.below k in' in omega (arith, h, m))
        | inr above ↦ (
            let h : b ≤ key_at keys (middle + (k - count)) = y.below (k - count) (omega (arith, above, lt, f)) in
            let same : middle + (k - count) ≡ from + k = omega (arith, above, e) in
            let g : b ≤ key_at keys (from + k) = subst (λ (n : ℕ). b ≤ key_at keys n) same h in
            omega (arith, g, m))
      ];
  among =
      elim (cases_lt b a) [
        | inl lower ↦ (
            let same : from + (count + y.among.0) ≡ middle + y.among.0 = omega (arith, e) in
            let is : key_at keys (middle + y.among.0) ≡ b = y.among.2 in
            (count + y.among.0, omega (arith, y.among.1, f), ap (key_at keys) same ∙ is ∙ (let q : b ≡ least = omega (arith, lower, m) in q)))
        | inr higher ↦ (x.among.0, omega (arith, x.among.1, f), x.among.2 ∙ (let q : a ≡ least = omega (arith, higher, m) in q))
      ];
}

pub of_eight : (keys : List ℕ) (from a b low c d high least : ℕ) → from + 8 ≤ length keys
    → a ≡ min (get_or keys from 0) (get_or keys (from + 1) 0) → b ≡ min (get_or keys (from + 2) 0) (get_or keys (from + 3) 0) → low ≡ min a b
    → c ≡ min (get_or keys (from + 4) 0) (get_or keys (from + 5) 0) → d ≡ min (get_or keys (from + 6) 0) (get_or keys (from + 7) 0) → high ≡ min c d → least ≡ min low high → IsLeastOf keys from 8 least
of_eight keys from a b low c d high least room ea eb elow ec ed ehigh eleast =
    let pair : (at v : ℕ) → at + 1 < length keys → v ≡ min (get_or keys at 0) (get_or keys (at + 1) 0) → IsLeastOf keys at 2 v = (λ at v lt e. of_two keys at 1 (at + 1) 1 2 (get_or keys at 0) (get_or keys (at + 1) 0) v refl refl e (of_one keys at (omega (arith, lt))) (of_one keys (at + 1) lt)) in
    let next : (i v : ℕ) → from + i + 1 < length keys → v ≡ min (get_or keys (from + i) 0) (get_or keys (from + (i + 1)) 0) → IsLeastOf keys (from + i) 2 v = (λ i v lt e. pair (from + i) v lt (subst (λ (n : ℕ). v ≡ min (get_or keys (from + i) 0) (get_or keys n 0)) (let q : from + (i + 1) ≡ from + i + 1 = omega arith in q) e)) in
    of_two keys from 4 (from + 4) 4 8 low high least refl refl eleast
    (of_two keys from 2 (from + 2) 2 4 a b low refl refl elow (pair from a (omega (arith, room)) ea) (next 2 b (omega (arith, room)) eb))
    (of_two keys (from + 4) 2 (from + 6) 2 4 c d high (omega arith) refl ehigh (next 4 c (omega (arith, room)) ec) (next 6 d (omega (arith, room)) ed))

-- a key elsewhere changes
least_same : (keys : List ℕ) (i v from count least : ℕ) → ((k : ℕ) → k < count → from + k ≢ i) → IsLeastOf keys from count least → IsLeastOf (set keys i v) from count least
least_same keys i v from count least apart is = record {
  below = λ k lt. subst (λ (n : ℕ). least ≤ n) (sym (get_or-set_other keys i (from + k) v no_key (apart k lt))) (is.below k lt);
  among = (is.among.0, is.among.1, get_or-set_other keys i (from + is.among.0) v no_key (apart is.among.0 is.among.1) ∙ is.among.2);
}

-- a key falls to another
pub lowered : (keys : List ℕ) (i j key from count least : ℕ) → i ≡ from + j → j < count → i < length keys → IsLeastOf keys from count least → IsLeastOf (set keys i (min (key_at keys i) key)) from count (min least key)
lowered keys i j key from count least e in' lt is =
    let old : least ≤ key_at keys (from + j) = is.below j in' in
    let here : key_at (set keys i (min (key_at keys i) key)) i ≡ min (key_at keys i) key = get_or-set_same keys i (min (key_at keys i) key) no_key lt in
    let at : (n : ℕ) → n ≡ i → key_at (set keys i (min (key_at keys i) key)) n ≡ min (key_at keys i) key = (λ n q. ap (key_at (set keys i (min (key_at keys i) key))) q ∙ here) in
    let low : least ≤ key_at keys i = subst (λ (n : ℕ). least ≤ key_at keys n) (sym e) old in
    record {
      below = λ k within.
          elim (cases_eq (from + k) i) [
            | inl q ↦ omega (arith, at (from + k) q, low)
            | inr ne ↦ (let old : least ≤ key_at keys (from + k) = is.below k within in omega (arith, old, get_or-set_other keys i (from + k) (min (key_at keys i) key) no_key ne))
          ];
      among =
          elim (cases_lt key least) [
            | inl lower ↦ (j, in', (let m : min (key_at keys i) key ≡ min least key = omega (arith, lower, low) in at (from + j) (sym e) ∙ m))
            | inr higher ↦ (
                let same : key_at keys (from + is.among.0) ≡ least = is.among.2 in (
                  is.among.0,
                  is.among.1,
                  elim (cases_eq (from + is.among.0) i) [
                    | inl q ↦ (let m : min (key_at keys i) key ≡ min least key = (let s : key_at keys i ≡ least = sym (ap (key_at keys) q) ∙ same in omega (arith, s)) in at (from + is.among.0) q ∙ m)
                    | inr ne ↦ (let m : least ≡ min least key = omega (arith, higher) in get_or-set_other keys i (from + is.among.0) (min (key_at keys i) key) no_key ne ∙ same ∙ m)
                  ],
                ))
          ];
    }

-- ---- the table

beyond : (keys : List ℕ) (k : ℕ) → length keys ≤ k → key_at keys k ≡ no_key
beyond [] k le = refl
beyond (t ∷ ts) zero le = absurd (omega (arith, le))
beyond (t ∷ ts) (suc k) le = beyond ts k (omega (arith, le))

pub all_none : (n k : ℕ) → key_at (replicate n no_key) k ≡ no_key
all_none zero k = refl
all_none (suc n) zero = refl
all_none (suc n) (suc k) = all_none n k

none_least : (n from count : ℕ) → 0 < count → IsLeastOf (replicate n no_key) from count no_key
none_least n from count some = record {
  below = λ k lt. omega (arith, all_none n (from + k));
  among = (0, some, all_none n (from + 0));
}

pub new_leasts : (keys leasts : List ℕ) (rows places eights : ℕ) → keys ≡ replicate places no_key → leasts ≡ replicate rows no_key → length keys ≡ 8 * length leasts → length leasts ≡ 8 * (eights + 1) → AreLeasts keys leasts no_key
new_leasts keys leasts rows places eights e f size whole = record {
  size = size;
  whole = (eights, whole);
  rows = λ row lt. subst (λ (xs : List ℕ). IsLeastOf xs (8 * row) 8 (key_at leasts row)) (sym e) (subst (λ (least : ℕ). IsLeastOf (replicate places no_key) (8 * row) 8 least) (sym (ap (λ (xs : List ℕ). key_at xs row) f ∙ all_none rows row)) (none_least places (8 * row) 8 (omega arith)));
  all = subst (λ (xs : List ℕ). IsLeastOf xs 0 (length leasts) no_key) (sym f) (none_least rows 0 (length leasts) (omega (arith, whole)));
}

-- one key changes, and the least of its row and of the rows
pub set_keeps : (keys leasts : List ℕ) (least tx key row low least' : ℕ) → row ≡ tx / 8 → AreLeasts keys leasts least → tx < length keys → IsLeastOf (set keys tx key) (8 * row) 8 low → IsLeastOf (set leasts row low) 0 (length leasts) least' → AreLeasts (set keys tx key) (set leasts row low) least'
set_keeps keys leasts least tx key row low least' e are lt here all =
    let long : length (set leasts row low) ≡ length leasts = length-set leasts row low in
    let known : row < length leasts = omega (arith, e, lt, are.size) in
    record {
      size = omega (arith, length-set keys tx key, long, are.size);
      whole = (are.whole.0, long ∙ are.whole.1);
      rows = λ r within.
          elim (cases_eq r row) [
            | inl q ↦ subst (λ (n : ℕ). IsLeastOf (set keys tx key) (8 * n) 8 (key_at (set leasts row low) n)) (sym q) (subst (λ (l : ℕ). IsLeastOf (set keys tx key) (8 * row) 8 l) (sym (get_or-set_same leasts row low no_key known)) here)
            | inr ne ↦ subst (λ (l : ℕ). IsLeastOf (set keys tx key) (8 * r) 8 l) (sym (get_or-set_other leasts row r low no_key ne)) (least_same keys tx key (8 * r) 8 (key_at leasts r) (λ k in' q. ne (omega (arith, in', q, e))) (are.rows r (omega (arith, within, long))))
          ];
      all = subst (λ (n : ℕ). IsLeastOf (set leasts row low) 0 n least') (sym long) all;
    }

-- where the least of its row stays as it was
pub set_keeps_row : (keys leasts : List ℕ) (least tx key row : ℕ) → row ≡ tx / 8 → AreLeasts keys leasts least → tx < length keys → IsLeastOf (set keys tx key) (8 * row) 8 (key_at leasts row) → AreLeasts (set keys tx key) leasts least
set_keeps_row keys leasts least tx key row e are lt here =
    subst (λ (xs : List ℕ). AreLeasts (set keys tx key) xs least) (set-get_or leasts row no_key)
    (set_keeps keys leasts least tx key row (key_at leasts row) least e are lt here (subst (λ (xs : List ℕ). IsLeastOf xs 0 (length leasts) least) (sym (set-get_or leasts row no_key)) are.all))

-- a key falls
pub put_keeps : (keys leasts : List ℕ) (least tx key row : ℕ) → row ≡ tx / 8 → AreLeasts keys leasts least → tx < length keys → key ≤ key_at keys tx → AreLeasts (set keys tx key) (set leasts row (min (key_at leasts row) key)) (min least key)
put_keeps keys leasts least tx key row e are lt falls =
    let known : row < length leasts = omega (arith, e, lt, are.size) in
    let low : min (key_at keys tx) key ≡ key = omega (arith, falls) in
    set_keeps keys leasts least tx key row (min (key_at leasts row) key) (min least key) e are lt
    (subst (λ (v : ℕ). IsLeastOf (set keys tx v) (8 * row) 8 (min (key_at leasts row) key)) low (lowered keys tx (tx - 8 * row) key (8 * row) 8 (key_at leasts row) (omega (arith, e)) (omega (arith, e)) lt (are.rows row known)))
    (lowered leasts row row key 0 (length leasts) least (omega arith) known known are.all)

-- ---- what it tells

from_zero : (keys : List ℕ) (k : ℕ) → key_at keys (0 + k) ≡ key_at keys k
from_zero keys k = (let e : 0 + k ≡ k = omega arith in ap (key_at keys) e)

top_of : (leasts : List ℕ) (least : ℕ) → IsLeastOf leasts 0 (length leasts) least → (k : ℕ) → k < length leasts → least ≤ key_at leasts k
top_of leasts least is k lt = subst (λ (n : ℕ). least ≤ n) (from_zero leasts k) (is.below k lt)

pub below_all : (keys leasts : List ℕ) (least : ℕ) → AreLeasts keys leasts least → least ≤ no_key → (tx : ℕ) → least ≤ key_at keys tx
below_all keys leasts least are fits tx =
    elim (cases_lt tx (length keys)) [
      | inl lt ↦ (
          let row : key_at leasts (tx / 8) ≤ key_at keys (8 * (tx / 8) + (tx - 8 * (tx / 8))) = (are.rows (tx / 8) (omega (arith, lt, are.size))).below (tx - 8 * (tx / 8)) (omega arith) in
          let same : 8 * (tx / 8) + (tx - 8 * (tx / 8)) ≡ tx = omega arith in
          let top : least ≤ key_at leasts (tx / 8) = top_of leasts least are.all (tx / 8) (omega (arith, lt, are.size)) in
          let here : key_at leasts (tx / 8) ≤ key_at keys tx = subst (λ (n : ℕ). key_at leasts (tx / 8) ≤ key_at keys n) same row in
          omega (arith, top, here))
      | inr out ↦ omega (arith, beyond keys tx out, fits)
    ]

pub among_all : (keys leasts : List ℕ) (least : ℕ) → AreLeasts keys leasts least → (tx : ℕ) × (key_at keys tx ≡ least)
among_all keys leasts least are =
    let top : key_at leasts are.all.among.0 ≡ least = sym (from_zero leasts are.all.among.0) ∙ are.all.among.2 in
    let row : IsLeastOf keys (8 * are.all.among.0) 8 (key_at leasts are.all.among.0) = are.rows are.all.among.0 are.all.among.1 in
    (8 * are.all.among.0 + row.among.0, row.among.2 ∙ top)
