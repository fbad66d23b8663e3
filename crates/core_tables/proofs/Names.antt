-- What a binary search over items in rising order tells.
use Rattle.std.proofs.Common.{◌≡◌, ◌≢◌, ℕ, zero, suc, ◌+◌, ◌<◌, ◌≤◌, ◌==◌, ◌||◌, Bool, true, false, List, [], ◌∷◌, length, Result, Ok, Err, get_or, refl, ap, sym, ◌∙◌, subst, inl, inr, arith}
use Rattle.std.proofs.lemmas.Bool.{cases_lt, cases_order, eq-eqb, ne_eqb}
use Rattle.std.proofs.lemmas.List.{get_or_past}
use Rattle.std.specs.Cmp.{ranks}
use Rattle.std.specs.Prelude.{is_ok}
use Rattle.std.specs.List.{AllPairs}
use Rattle.std.specs.List.Sorted.{IsBinarySearchResult}
use Rattle.std.specs.Ordering.{MatchOrdering, nat_cmp, ordering_index}
use Rattle.std.specs.declared.cmp.Ordering.{Ordering}
use Rattle.std.specs.declared.cmp.Ordering.TheVariants.{Less, Equal, Greater}
use Rattle.rt_base.specs.declared.ids.ItemId.{ItemId}
use Rattle.txn_set.specs.Set.{names_item}

abbrev pub by_item : ℕ → ItemId → Ordering
by_item n y = nat_cmp y.0 n

tells : (a n : ℕ) (o : Ordering) → nat_cmp a n ≡ o → MatchOrdering o (a < n) (a ≡ n) (n < a)
tells a n o e = subst (λ (p : Ordering). MatchOrdering p (a < n) (a ≡ n) (n < a)) e (ranks a n)

or_true : (a b : Bool) → b ≡ true → (a || b) ≡ true
or_true true b h = refl
or_true false b h = h

any_at : (items : List ItemId) (k n : ℕ) (d : ItemId) → k < length items → (get_or items k d).0 ≡ n → names_item items n ≡ true
any_at [] k n d lt e = absurd (omega arith)
any_at (x ∷ xs) zero n d lt e = ap (λ (b : Bool). b || names_item xs n) (eq-eqb x.0 n e)
any_at (x ∷ xs) (suc k) n d lt e = or_true (x.0 == n) (names_item xs n) (any_at xs k n d (omega arith) e)

none_at : (items : List ItemId) (n : ℕ) → ((k : ℕ) (d : ItemId) → k < length items → (get_or items k d).0 ≢ n) → names_item items n ≡ false
none_at [] n h = refl
none_at (x ∷ xs) n h = ap (λ (b : Bool). b || names_item xs n) (ne_eqb x.0 n (h 0 x (omega arith))) ∙ none_at xs n (λ k d lt. h (suc k) d (omega arith))

rises : (a b n : ℕ) → a ≤ b → ordering_index (nat_cmp a n) ≤ ordering_index (nat_cmp b n)
rises a b n le = at (nat_cmp a n) (nat_cmp b n) (ranks a n) (ranks b n) where
  at : (o p : Ordering) → MatchOrdering o (a < n) (a ≡ n) (n < a) → MatchOrdering p (b < n) (b ≡ n) (n < b) → ordering_index o ≤ ordering_index p
  at Less p x y = omega arith
  at Equal Less x y = absurd (omega (arith, x, y, le))
  at Equal Equal x y = omega arith
  at Equal Greater x y = omega arith
  at Greater Less x y = absurd (omega (arith, x, y, le))
  at Greater Equal x y = absurd (omega (arith, x, y, le))
  at Greater Greater x y = omega arith

pub named_by : (items : List ItemId) (n : ℕ) (r : Result ℕ ℕ) → AllPairs (λ a b. a.0 < b.0) items → IsBinarySearchResult (by_item n) items r → is_ok r ≡ names_item items n
named_by items n (Ok i) rising h =
    let at : (d : ItemId) → (get_or items i d).0 ≡ n = λ d. tells (get_or items i d).0 n Equal (h d) in
    let far : ItemId = record { 0 = n + 1 } in
    elim (cases_lt i (length items)) [
      | inl lt ↦ sym (any_at items i n far lt (at far))
      | inr ge ↦ absurd (let e : (get_or items i far).0 ≡ n + 1 = ap (λ (j : ItemId). j.0) (get_or_past items i far ge) in omega (arith, e, at far))
    ]
named_by items n (Err i) rising h =
    let parted = h (λ a b d le lt. elim (cases_order a b) [
      | inl e ↦ (let same : ordering_index (by_item n (get_or items a d)) ≡ ordering_index (by_item n (get_or items b d)) = ap (λ (k : ℕ). ordering_index (by_item n (get_or items k d))) e in omega (arith, same))
      | inr o ↦ elim o [
        | inl less ↦ (let up : (get_or items a d).0 < (get_or items b d).0 = rising a b d less lt in rises (get_or items a d).0 (get_or items b d).0 n (omega (arith, up)))
        | inr more ↦ absurd (omega (arith, le, more))
      ]
    ]) in
    sym (none_at items n (λ k d lt same. elim (cases_lt k i) [
      | inl below ↦ (let t : (get_or items k d).0 < n = tells (get_or items k d).0 n Less (parted.0 k d (omega arith) below) in omega (arith, t, same))
      | inr above ↦ (let t : n < (get_or items k d).0 = tells (get_or items k d).0 n Greater (parted.1 k d above lt) in omega (arith, t, same))
    ]))
