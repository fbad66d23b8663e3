-- A relation's transitive closure by growing bounds is what its walks reach.
use Rattle.std.proofs.Common.{◌≡◌, ℕ, zero, suc, ◌<◌, ◌≤◌, Bool, true, ◌&&◌, ◌⊎◌, inl, inr, ⊎_elim, refl, sym, subst, arith}
use Rattle.std.proofs.lemmas.Bool.{cases_lt, and_parts, and_from, or_cases, or_left, or_right}
use Rattle.txn_compiler.specs.Graph.{reaches_through}

-- a walk of n edges
abbrev pub Walks : (ℕ → ℕ → Bool) → ℕ → ℕ → ℕ → Type 0
Walks edge from to zero = from ≡ to
Walks edge from to (suc n) = (mid : ℕ) × (edge from mid ≡ true) × Walks edge mid to n

-- a walk of one or more edges
abbrev pub Reaches : (ℕ → ℕ → Bool) → ℕ → ℕ → Type 0
Reaches edge from to = (n : ℕ) × Walks edge from to (suc n)

-- a walk with n inner places, all below a bound
abbrev Through : (ℕ → ℕ → Bool) → ℕ → ℕ → ℕ → ℕ → Type 0
Through edge bound from to zero = edge from to ≡ true
Through edge bound from to (suc n) = (mid : ℕ) × (mid < bound) × (edge from mid ≡ true) × Through edge bound mid to n

abbrev GoesThrough : (ℕ → ℕ → Bool) → ℕ → ℕ → ℕ → Type 0
GoesThrough edge bound from to = (n : ℕ) × Through edge bound from to n

pub one-edge : (edge : ℕ → ℕ → Bool) (from to : ℕ) → edge from to ≡ true → Reaches edge from to
one-edge edge from to e = (0, (to, e, refl))

pub edge-first : (edge : ℕ → ℕ → Bool) (from mid to : ℕ) → edge from mid ≡ true → Reaches edge mid to → Reaches edge from to
edge-first edge from mid to e (n, walk) = (suc n, (mid, e, walk))

join : (edge : ℕ → ℕ → Bool) (from mid to n m : ℕ) → Walks edge from mid n → Walks edge mid to (suc m) → Reaches edge from to
join edge from mid to zero m same walk = (m, subst (λ (k : ℕ). Walks edge k to (suc m)) (sym same) walk)
join edge from mid to (suc n) m (next, e, rest) walk = edge-first edge from next to e (join edge next mid to n m rest walk)

pub reaches-on : (edge : ℕ → ℕ → Bool) (from mid to : ℕ) → Reaches edge from mid → Reaches edge mid to → Reaches edge from to
reaches-on edge from mid to (n, walk) (m, on) = join edge from mid to (suc n) m walk on

pub through-walks : (edge : ℕ → ℕ → Bool) (bound from to : ℕ) → reaches_through edge bound from to ≡ true → Reaches edge from to
through-walks edge zero from to h = one-edge edge from to h
through-walks edge (suc bound) from to h =
    ⊎_elim
    (λ (less : reaches_through edge bound from to ≡ true). through-walks edge bound from to less)
    (λ (both : (reaches_through edge bound from bound && reaches_through edge bound bound to) ≡ true).
    let parts = and_parts (reaches_through edge bound from bound) (reaches_through edge bound bound to) both in
    reaches-on edge from bound to (through-walks edge bound from bound parts.0) (through-walks edge bound bound to parts.1))
    (or_cases (reaches_through edge bound from to) (reaches_through edge bound from bound && reaches_through edge bound bound to) h)

-- a walk below the next bound is one below this bound, or two that meet there
split : (edge : ℕ → ℕ → Bool) (bound n from to : ℕ) → Through edge (suc bound) from to n → GoesThrough edge bound from to ⊎ (GoesThrough edge bound from bound × GoesThrough edge bound bound to)
split edge bound zero from to h = inl (0, h)
split edge bound (suc n) from to (mid, below, e, rest) =
    ⊎_elim
    (λ (less : mid < bound).
    ⊎_elim
    (λ (one : GoesThrough edge bound mid to). let (m, walk) = one in inl (suc m, (mid, less, e, walk)))
    (λ (two : GoesThrough edge bound mid bound × GoesThrough edge bound bound to).
    let ((m, walk), on) = two in inr ((suc m, (mid, less, e, walk)), on))
    (split edge bound n mid to rest))
    (λ (le : bound ≤ mid).
    let same : mid ≡ bound = omega arith in
    let first : edge from bound ≡ true = subst (λ (k : ℕ). edge from k ≡ true) same e in
    ⊎_elim
    (λ (one : GoesThrough edge bound mid to). inr ((0, first), subst (λ (k : ℕ). GoesThrough edge bound k to) same one))
    (λ (two : GoesThrough edge bound mid bound × GoesThrough edge bound bound to). inr ((0, first), two.1))
    (split edge bound n mid to rest))
    (cases_lt mid bound)

through-complete : (edge : ℕ → ℕ → Bool) (bound from to n : ℕ) → Through edge bound from to n → reaches_through edge bound from to ≡ true
through-complete edge zero from to zero h = h
through-complete edge zero from to (suc n) (mid, below, e, rest) = absurd (omega arith)
through-complete edge (suc bound) from to n h =
    ⊎_elim
    (λ (one : GoesThrough edge bound from to).
    let (m, walk) = one in
    or_left (reaches_through edge bound from to) (reaches_through edge bound from bound && reaches_through edge bound bound to)
    (through-complete edge bound from to m walk))
    (λ (two : GoesThrough edge bound from bound × GoesThrough edge bound bound to).
    let ((m, walk), (k, on)) = two in
    or_right (reaches_through edge bound from to) (reaches_through edge bound from bound && reaches_through edge bound bound to)
    (and_from (reaches_through edge bound from bound) (reaches_through edge bound bound to)
    (through-complete edge bound from bound m walk) (through-complete edge bound bound to k on)))
    (split edge bound n from to h)

walks-through : (edge : ℕ → ℕ → Bool) (bound : ℕ) → ((a b : ℕ) → edge a b ≡ true → a < bound) → (n from to : ℕ) → Walks edge from to (suc n) → Through edge bound from to n
walks-through edge bound inside zero from to (mid, e, same) = subst (λ (k : ℕ). edge from k ≡ true) same e
walks-through edge bound inside (suc n) from to (mid, e, (next, f, rest)) =
    (mid, inside mid next f, e, walks-through edge bound inside n mid to (next, f, rest))

-- a walk of edges that begin below the bound is found
pub walks-found : (edge : ℕ → ℕ → Bool) (bound : ℕ) → ((a b : ℕ) → edge a b ≡ true → a < bound) → (from to : ℕ) → Reaches edge from to → reaches_through edge bound from to ≡ true
walks-found edge bound inside from to (n, walk) = through-complete edge bound from to n (walks-through edge bound inside n from to walk)

-- a set that has the first steps of a walk and each step from its members has the walk's end
pub closed-has : (edge : ℕ → ℕ → Bool) (has : ℕ → Bool) (start : ℕ) → ((b : ℕ) → edge start b ≡ true → has b ≡ true) → ((a b : ℕ) → has a ≡ true → edge a b ≡ true → has b ≡ true) → (to : ℕ) → Reaches edge start to → has to ≡ true
closed-has edge has start first closed to (n, (mid, e, rest)) = on n mid (first mid e) rest
  where
    on : (m from : ℕ) → has from ≡ true → Walks edge from to m → has to ≡ true
    on zero from h same = subst (λ (k : ℕ). has k ≡ true) same h
    on (suc m) from h (next, f, more) = on m next (closed from next h f) more
