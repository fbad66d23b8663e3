-- A transaction that keeps its limit right above the lowest ones is put there, and the others go up by one.
use Rattle.std.proofs.Common.{◌≡◌, ◌≢◌, ℕ, zero, suc, ◌-◌, ◌<◌, ◌≤◌, ◌⊎◌, inl, inr, max, Bool, true, false, cond, ◌==◌, length, refl, sym, ◌∙◌, ap, subst, arith}
use Rattle.std.proofs.lemmas.Bool.{cases_eq, cases_order, cases_Bool, eq-eqb, ne_eqb}
use Rattle.txn_set.specs.Set.{Set, IsCompiled}
use Rattle.law_times.specs.Assigned.{with_prios, IsAssignment, RespondsWithin, Keeps}
use Rattle.law_times.specs.Pass.{trial}
use Rattle.law_times.specs.Laws.{StandsAlike, GoesAbove, AreLowest, KeepsWithNext, Exchange}
use Rattle.law_times.proofs.Moving.{less-within, alike-within, less-demand}

-- the greatest priority of the lowest ones

top : (ℕ → Bool) → (ℕ → ℕ) → ℕ → ℕ
top placed p zero = 0
top placed p (suc n) = max (cond (placed n) (p n) 0) (top placed p n)

top-has : (placed : ℕ → Bool) (p : ℕ → ℕ) (n a : ℕ) → a < n → placed a ≡ true → p a ≤ top placed p n
unfolding top
top-has placed p zero a less e = absurd (omega (arith, less))
top-has placed p (suc n) a less e = elim (cases_eq n a) [
  | inl same ↦ (let here : cond (placed n) (p n) 0 ≡ p a = rw same (rw e refl) in omega (arith, here))
  | inr ne ↦ (let rest = top-has placed p n a (omega arith) e in omega (arith, rest))
]

part-le : (b : Bool) (v x : ℕ) → (b ≡ true → v ≤ x) → cond b v 0 ≤ x
part-le true v x h = h refl
part-le false v x h = omega arith

top-le : (placed : ℕ → Bool) (p : ℕ → ℕ) (n x : ℕ) → ((a : ℕ) → a < n → placed a ≡ true → p a ≤ x) → top placed p n ≤ x
unfolding top
top-le placed p zero x h = omega arith
top-le placed p (suc n) x h =
    let here = part-le (placed n) (p n) x (h n (omega arith)) in
    let rest = top-le placed p n x (λ a less. h a (omega (arith, less))) in
    omega (arith, here, rest)

-- the new priorities

abbrev moved : (ℕ → Bool) → (ℕ → ℕ) → (tx most : ℕ) → ℕ → ℕ
moved placed p tx most t = cond (placed t) (p t) (cond (t == tx) (suc most) (suc (p t)))

-- a transaction is one of the lowest ones, the one that is moved, or one of the others
pub data Kind (placed : ℕ → Bool) (tx t : ℕ) : Type 0 where
  Lowest : placed t ≡ true → Kind placed tx t
  Own : t ≡ tx → Kind placed tx t
  Other : placed t ≡ false → t ≢ tx → Kind placed tx t

pub kind : (placed : ℕ → Bool) (tx t : ℕ) → Kind placed tx t
kind placed tx t = elim (cases_Bool (placed t)) [
  | inl e ↦ Lowest e
  | inr unso ↦ elim (cases_eq t tx) [ inl e ↦ Own e | inr ne ↦ Other unso ne ]
]

pub trial-lowest : (placed : ℕ → Bool) (tx t : ℕ) → placed t ≡ true → trial placed tx t ≡ 1
trial-lowest placed tx t e = rw e refl

pub trial-own : (placed : ℕ → Bool) (tx : ℕ) → placed tx ≡ false → trial placed tx tx ≡ 2
trial-own placed tx e = rw (e, eq-eqb tx tx refl) refl

pub trial-other : (placed : ℕ → Bool) (tx t : ℕ) → placed t ≡ false → t ≢ tx → trial placed tx t ≡ 3
trial-other placed tx t e ne = rw (e, ne_eqb t tx ne) refl

module _ (set : Set) (limits : ℕ → ℕ) (placed : ℕ → Bool) (p : ℕ → ℕ) (tx : ℕ) (ok : IsCompiled set) (is : IsAssignment set p) (keeps : Keeps set limits p) (lowest : AreLowest set placed p) (inside : tx < length set.txns)
    (free : placed tx ≡ false) (passes : RespondsWithin (with_prios (trial placed tx) set) tx (limits tx)) where
  most : ℕ
  most = top placed p (length set.txns)

  low-le : (a : ℕ) → a < length set.txns → placed a ≡ true → p a ≤ most
  unfolding most
  low-le a less e = top-has placed p (length set.txns) a less e

  high-gt : (t : ℕ) → t < length set.txns → placed t ≡ false → most < p t
  unfolding most
  high-gt t less e =
      let few = top-le placed p (length set.txns) (p t - 1) (λ a inside-a so. let below = lowest a t inside-a less so e in omega (arith, below)) in
      let some = is.some t less in
      omega (arith, few, some)

  abbrev q : ℕ → ℕ
  q = moved placed p tx most

  q-lowest : (t : ℕ) → placed t ≡ true → q t ≡ p t
  q-lowest t e = rw e refl

  q-own : q tx ≡ suc most
  q-own = rw (free, eq-eqb tx tx refl) refl

  q-other : (t : ℕ) → placed t ≡ false → t ≢ tx → q t ≡ suc (p t)
  q-other t e ne = rw (e, ne_eqb t tx ne) refl

  -- what is known of the numbers of a transaction
  abbrev IsLow : ℕ → Type 0
  IsLow t = (q t ≡ p t) × (p t ≤ most) × (trial placed tx t ≡ 1)

  abbrev IsOwn : ℕ → Type 0
  IsOwn t = (t ≡ tx) × (q t ≡ suc most) × (p t ≡ p tx) × (trial placed tx t ≡ 2)

  abbrev IsHigh : ℕ → Type 0
  IsHigh t = (t ≢ tx) × (q t ≡ suc (p t)) × (most < p t) × (trial placed tx t ≡ 3)

  kinds : (t : ℕ) → t < length set.txns → IsLow t ⊎ (IsOwn t ⊎ IsHigh t)
  kinds t less = elim (kind placed tx t) [
    | Lowest e ↦ inl (q-lowest t e, low-le t less e, trial-lowest placed tx t e)
    | Own e ↦ inr (inl (e, ap q e ∙ q-own, ap p e, ap (trial placed tx) e ∙ trial-own placed tx free))
    | Other e ne ↦ inr (inr (ne, q-other t e ne, high-gt t less e, trial-other placed tx t e ne))
  ]

  some-q : (t : ℕ) → t < length set.txns → 1 ≤ q t
  some-q t less = elim (kinds t less) [
    | inl l ↦ omega (arith, l.0, is.some t less)
    | inr r ↦ elim r [ inl o ↦ omega (arith, o.1) | inr h ↦ omega (arith, h.1) ]
  ]

  distinct-q : (a b : ℕ) → a < length set.txns → b < length set.txns → q a ≡ q b → a ≡ b
  distinct-q a b in-a in-b e = elim (kinds a in-a) [
    | inl l ↦ elim (kinds b in-b) [
      | inl m ↦ is.distinct a b in-a in-b (omega (arith, l.0, m.0, e))
      | inr r ↦ elim r [ inl o ↦ absurd (omega (arith, l.0, l.1, o.1, e)) | inr h ↦ absurd (omega (arith, l.0, l.1, h.1, h.2, e)) ]
    ]
    | inr s ↦ elim s [
      | inl n ↦ elim (kinds b in-b) [
        | inl m ↦ absurd (omega (arith, n.1, m.0, m.1, e))
        | inr r ↦ elim r [ inl o ↦ n.0 ∙ sym o.0 | inr h ↦ absurd (omega (arith, n.1, h.1, h.2, e)) ]
      ]
      | inr g ↦ elim (kinds b in-b) [
        | inl m ↦ absurd (omega (arith, g.1, g.2, m.0, m.1, e))
        | inr r ↦ elim r [ inl o ↦ absurd (omega (arith, g.1, g.2, o.1, e)) | inr h ↦ is.distinct a b in-a in-b (omega (arith, g.1, h.1, e)) ]
      ]
    ]
  ]

  -- the one that is moved
  alike-own : StandsAlike set (trial placed tx) q tx
  alike-own = record {
    above = λ t less. elim (kinds t less) [
      | inl l ↦ (λ high. omega (arith, own, l.2, high), λ high. omega (arith, q-own, l.0, l.1, high))
      | inr r ↦ elim r [
        | inl o ↦ (λ high. omega (arith, own, o.3, high), λ high. omega (arith, q-own, o.1, high))
        | inr h ↦ (λ high. omega (arith, q-own, h.1, h.2), λ high. omega (arith, own, h.3))
      ]
    ];
    below = λ t less. elim (kinds t less) [
      | inl l ↦ (λ low. omega (arith, q-own, l.0, l.1), λ low. omega (arith, own, l.2))
      | inr r ↦ elim r [
        | inl o ↦ (λ low. omega (arith, own, o.3, low), λ low. omega (arith, q-own, o.1, low))
        | inr h ↦ (λ low. omega (arith, own, h.3, low), λ low. omega (arith, q-own, h.1, h.2, low))
      ]
    ];
  }
    where
      own : trial placed tx tx ≡ 2
      own = trial-own placed tx free

  keeps-own : RespondsWithin (with_prios q set) tx (limits tx)
  keeps-own =
      let own = trial-own placed tx free in
      alike-within set (trial placed tx) q tx (limits tx) inside (omega (arith, own)) (some-q tx inside) alike-own passes

  -- one of the lowest
  alike-low : (t : ℕ) → IsLow t → StandsAlike set p q t
  alike-low t l = record {
    above = λ u less. elim (kinds u less) [
      | inl m ↦ (λ high. omega (arith, l.0, m.0, high), λ high. omega (arith, l.0, m.0, high))
      | inr r ↦ elim r [
        | inl o ↦ (λ high. omega (arith, l.0, l.1, o.1), λ high. omega (arith, l.1, o.2, high-gt tx inside free))
        | inr h ↦ (λ high. omega (arith, l.0, l.1, h.1, h.2), λ high. omega (arith, l.1, h.2))
      ]
    ];
    below = λ u less. elim (kinds u less) [
      | inl m ↦ (λ low. omega (arith, l.0, m.0, low), λ low. omega (arith, l.0, m.0, low))
      | inr r ↦ elim r [
        | inl o ↦ (λ low. omega (arith, l.1, o.2, high-gt tx inside free, low), λ low. omega (arith, l.0, l.1, o.1, low))
        | inr h ↦ (λ low. omega (arith, l.1, h.2, low), λ low. omega (arith, l.0, l.1, h.1, h.2, low))
      ]
    ];
  }

  -- one of the others that was above the moved one already
  alike-high : (t : ℕ) → IsHigh t → p tx < p t → StandsAlike set p q t
  alike-high t g over = record {
    above = λ u less. elim (kinds u less) [
      | inl m ↦ (λ high. omega (arith, g.2, m.1, high), λ high. omega (arith, g.1, g.2, m.0, m.1, high))
      | inr r ↦ elim r [
        | inl o ↦ (λ high. omega (arith, over, o.2, high), λ high. omega (arith, g.1, g.2, o.1, high))
        | inr h ↦ (λ high. omega (arith, g.1, h.1, high), λ high. omega (arith, g.1, h.1, high))
      ]
    ];
    below = λ u less. elim (kinds u less) [
      | inl m ↦ (λ low. omega (arith, g.1, g.2, m.0, m.1), λ low. omega (arith, g.2, m.1))
      | inr r ↦ elim r [
        | inl o ↦ (λ low. omega (arith, g.1, g.2, o.1), λ low. omega (arith, over, o.2))
        | inr h ↦ (λ low. omega (arith, g.1, h.1, low), λ low. omega (arith, g.1, h.1, low))
      ]
    ];
  }

  -- one that was below it
  goes-above : (t : ℕ) → IsHigh t → p t < p tx → GoesAbove set p q t tx
  goes-above t g under = record {
    in_range = inside;
    before = under;
    after = omega (arith, g.1, g.2, q-own);
    above = λ u less ne. elim (kinds u less) [
      | inl m ↦ (λ high. omega (arith, g.2, m.1, high), λ high. omega (arith, g.1, g.2, m.0, m.1, high))
      | inr r ↦ elim r [
        | inl o ↦ absurd (ne o.0)
        | inr h ↦ (λ high. omega (arith, g.1, h.1, high), λ high. omega (arith, g.1, h.1, high))
      ]
    ];
    below = λ u less ne. elim (kinds u less) [
      | inl m ↦ (λ low. omega (arith, g.1, g.2, m.0, m.1), λ low. omega (arith, g.2, m.1))
      | inr r ↦ elim r [
        | inl o ↦ absurd (ne o.0)
        | inr h ↦ (λ low. omega (arith, g.1, h.1, low), λ low. omega (arith, g.1, h.1, low))
      ]
    ];
  }

  keeps-low : (t : ℕ) → t < length set.txns → IsLow t → RespondsWithin (with_prios q set) t (limits t)
  keeps-low t less l = alike-within set p q t (limits t) less (is.some t less) (some-q t less) (alike-low t l) (keeps t less)

  keeps-high : (t : ℕ) → t < length set.txns → IsHigh t → RespondsWithin (with_prios q set) t (limits t)
  keeps-high t less g = elim (cases_order (p tx) (p t)) [
    | inl same ↦ absurd (g.0 (sym (is.distinct tx t inside less same)))
    | inr o ↦ elim o [
      | inl over ↦ alike-within set p q t (limits t) less (is.some t less) (some-q t less) (alike-high t g over) (keeps t less)
      | inr under ↦ less-within set p q t (limits t) less (less-demand set p q t tx ok less (is.some t less) (some-q t less) (goes-above t g under)) (keeps t less)
    ]
  ]

  keeps-q : Keeps set limits q
  keeps-q t less = elim (kinds t less) [
    | inl l ↦ keeps-low t less l
    | inr r ↦ elim r [
      | inl o ↦ subst (λ (k : ℕ). RespondsWithin (with_prios q set) k (limits k)) (sym o.0) keeps-own
      | inr h ↦ keeps-high t less h
    ]
  ]

  next-q : (t : ℕ) → t < length set.txns → placed t ≡ false → t ≢ tx → q tx < q t
  next-q t less e ne = omega (arith, q-own, q-other t e ne, high-gt t less e)

  lowest-q : AreLowest set placed q
  lowest-q a b in-a in-b low high =
      elim (kinds b in-b) [
        | inl m ↦ absurd (omega (arith, m.1, high-gt b in-b high))
        | inr r ↦ elim r [
          | inl o ↦ omega (arith, q-lowest a low, low-le a in-a low, o.1)
          | inr h ↦ omega (arith, q-lowest a low, low-le a in-a low, h.1, h.2)
        ]
      ]

  exchanged : KeepsWithNext set limits placed tx
  exchanged = record {
    prios = q;
    is = record { some = some-q; distinct = distinct-q };
    keeps = keeps-q;
    lowest = lowest-q;
    next = next-q;
  }

pub exchange : Exchange
exchange set limits placed p tx ok is keeps lowest inside free passes = exchanged set limits placed p tx ok is keeps lowest inside free passes
