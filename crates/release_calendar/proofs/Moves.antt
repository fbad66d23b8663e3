-- Taking an element out of a list: what is left is the same in each order of the list.
use Rattle.std.proofs.Common.{◌≡◌, ℕ, suc, ◌+◌, ◌<◌, ◌==◌, ◌&&◌, Bool, true, false, cond, List, [], ◌∷◌, length, get_or, refl, ap, sym, ◌∙◌, arith}
use Rattle.std.proofs.lemmas.Bool.{eqb-true, eq-eqb, and_parts, and_from}
use Rattle.std.proofs.lemmas.List.Sorted.{IsPermutation-refl, IsPermutation-sym, IsPermutation-cons, IsPermutation-trans, IsPermutation-remove, sum_by-IsPermutation}
use Rattle.std.proofs.lemmas.List.Sums.{sum_by-cons}
use Rattle.std.specs.List.{remove, sum_by}
use Rattle.std.specs.List.Sorted.{IsPermutation}
use Rattle.rt_base.specs.declared.release.Release.{Release}
use Rattle.rt_base.proofs.Ranks.{one_if}
use Rattle.release_calendar.specs.Agenda.{same_release, without}

-- an equality by a test
record IsSame {X : Type 0} (same : X → X → Bool) : Type 0 where
  sound : (a b : X) → same a b ≡ true → a ≡ b
  itself : (a : X) → same a a ≡ true

-- the list without the first element that is r
abbrev less : {X : Type 0} → (X → X → Bool) → X → List X → List X
less same r [] = []
less same r (x ∷ xs) = cond (same r x) xs (x ∷ less same r xs)

module _ {X : Type 0} (same : X → X → Bool) (is : IsSame same) where
  -- how often an element stands in a list
  abbrev count : X → List X → ℕ
  count r xs = sum_by (λ s. one_if (same r s)) xs

  count_cons : (r s : X) (xs : List X) → count r (s ∷ xs) ≡ one_if (same r s) + count r xs
  count_cons r s xs = sum_by-cons (λ (t : X). one_if (same r t)) s xs

  count_itself : (r : X) (xs : List X) → count r (r ∷ xs) ≡ 1 + count r xs
  count_itself r xs = count_cons r r xs ∙ ap (λ (b : Bool). one_if b + count r xs) (is.itself r)

  found_at : (r s : X) (xs : List X) (b : Bool) → same r s ≡ b → 0 < one_if b + count r xs → (0 < count r xs → (i : ℕ) × (i < length xs) × (r ≡ get_or xs i r)) → (i : ℕ) × (i < suc (length xs)) × (r ≡ get_or (s ∷ xs) i r)
  found_at r s xs true e h rest = (0, omega arith, is.sound r s e)
  found_at r s xs false e h rest = let k : (i : ℕ) × (i < length xs) × (r ≡ get_or xs i r) = rest (omega arith) in (suc k.0, omega (arith, k.1), k.2)

  found : (r : X) (xs : List X) → 0 < count r xs → (i : ℕ) × (i < length xs) × (r ≡ get_or xs i r)
  found r [] h = absurd (omega arith)
  found r (s ∷ xs) h = found_at r s xs (same r s) refl (omega (arith, h, count_cons r s xs)) (found r xs)

  -- lists in which each element stands as often are one another in another order
  by_counts : (xs ys : List X) → ((r : X) → count r xs ≡ count r ys) → IsPermutation xs ys
  by_counts [] [] h = IsPermutation-refl []
  by_counts [] (y ∷ ys) h = absurd (omega (arith, h y, count_itself y ys))
  by_counts (x ∷ xs) ys h =
      let at : (i : ℕ) × (i < length ys) × (x ≡ get_or ys i x) = found x ys (omega (arith, h x, count_itself x xs)) in
      let out : IsPermutation ys (x ∷ remove ys at.0) = IsPermutation-remove ys at.0 x at.1 at.2 in
      let rest : (r : X) → count r xs ≡ count r (remove ys at.0) = (λ r. (let e : count r (x ∷ remove ys at.0) ≡ count r ys = sum_by-IsPermutation (λ s. one_if (same r s)) ys (x ∷ remove ys at.0) out in omega (arith, e, h r, count_cons r x xs, count_cons r x (remove ys at.0)))) in
      IsPermutation-trans (x ∷ xs) (x ∷ remove ys at.0) ys (IsPermutation-cons x xs (remove ys at.0) (by_counts xs (remove ys at.0) rest)) (IsPermutation-sym ys (x ∷ remove ys at.0) out)

  less_at : (r x s : X) (xs : List X) (b : Bool) → same r x ≡ b → 0 < one_if b + count r xs → (0 < count r xs → one_if (same s r) + count s (less same r xs) ≡ count s xs)
      → one_if (same s r) + count s (cond b xs (x ∷ less same r xs)) ≡ one_if (same s x) + count s xs
  less_at r x s xs true e h rest = ap (λ (q : X). one_if (same s q) + count s xs) (is.sound r x e)
  less_at r x s xs false e h rest = omega (arith, rest (omega arith), count_cons s x (less same r xs))

  one_less : (r s : X) (xs : List X) → 0 < count r xs → one_if (same s r) + count s (less same r xs) ≡ count s xs
  one_less r s [] h = absurd (omega arith)
  one_less r s (x ∷ xs) h = less_at r x s xs (same r x) refl (omega (arith, h, count_cons r x xs)) (one_less r s xs) ∙ sym (count_cons s x xs)

  -- what is left of a list without an element is what is left of each order of it
  left : (xs rest : List X) (r : X) → IsPermutation xs (r ∷ rest) → IsPermutation (less same r xs) rest
  left xs rest r p =
      let counts : (s : X) → count s (r ∷ rest) ≡ count s xs = (λ s. sum_by-IsPermutation (λ x. one_if (same s x)) xs (r ∷ rest) p) in
      let there : 0 < count r xs = omega (arith, counts r, count_itself r rest) in
      by_counts (less same r xs) rest (λ s. omega (arith, one_less r s xs there, counts s, count_cons s r rest))

pub same-true : (a b : Release) → same_release a b ≡ true → a ≡ b
same-true a b h =
    let parts : ((a.job.tx.0 == b.job.tx.0 && a.job.serial == b.job.serial) ≡ true) × ((a.tick == b.tick) ≡ true) = and_parts _ _ h in
    let job : ((a.job.tx.0 == b.job.tx.0) ≡ true) × ((a.job.serial == b.job.serial) ≡ true) = and_parts _ _ parts.0 in
    let tx : a.job.tx.0 ≡ b.job.tx.0 = eqb-true _ _ job.0 in
    let serial : a.job.serial ≡ b.job.serial = eqb-true _ _ job.1 in
    let tick : a.tick ≡ b.tick = eqb-true _ _ parts.1 in
    let q : record { job = record { tx = record { 0 = a.job.tx.0 }; serial = a.job.serial }; tick = a.tick } ≡ record { job = record { tx = record { 0 = b.job.tx.0 }; serial = b.job.serial }; tick = b.tick } = cc in q

pub same-itself : (a : Release) → same_release a a ≡ true
same-itself a = and_from _ _ (and_from _ _ (eq-eqb a.job.tx.0 a.job.tx.0 refl) (eq-eqb a.job.serial a.job.serial refl)) (eq-eqb a.tick a.tick refl)

releases_same : IsSame same_release
releases_same = record { sound = same-true; itself = same-itself }

without-less : (r : Release) (xs : List Release) → without r xs ≡ less same_release r xs
without-less r [] = refl
without-less r (x ∷ xs) = ap (λ (q : List Release). cond (same_release r x) xs (x ∷ q)) (without-less r xs)

-- what is left of a list without a release is what is left of each order of it
pub taken : (planned rest : List Release) (r : Release) → IsPermutation planned (r ∷ rest) → IsPermutation (without r planned) rest
taken planned rest r p = rw (without-less r planned) (left same_release releases_same planned rest r p)
