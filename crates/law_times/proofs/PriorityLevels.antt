-- What the pass has given up to a level.
use Rattle.std.proofs.Common.{◌≡◌, ◌≢◌, ℕ, zero, suc, ◌+◌, ◌<◌, ◌≤◌, ◌⊎◌, inl, inr, Bool, true, false, cond, not, ◌==◌, List, length, get_or, set as put, replicate, Option, None, Some, refl, sym, ◌∙◌, ap, subst, arith}
use Rattle.std.proofs.lemmas.Bool.{cases_eq, cases_lt, lt-ltb, le-ltb, ltb-true, ltb-false, leb-true, le-leb, and_parts, and_from, not-true, ne_eqb, false≢true}
use Rattle.std.proofs.lemmas.List.{length-set, length-replicate, get_or-set_same, get_or-set_other, get_or-replicate, get_or_past, get_or_default}
use Rattle.std.proofs.lemmas.List.Sums.{sum_by-cons, sum_by-set, get_or-le-sum_by, sum_by-le}
use Rattle.std.specs.Prelude.{IsSome}
use Rattle.txn_set.specs.Set.{Set}
use Rattle.law_times.specs.Response.{response}
use Rattle.law_times.proofs.Demand.{response_found, response_none}
use Rattle.response_test.proofs.Least.{least_from-is}
use Rattle.law_times.specs.Assigned.{with_prios, RespondsWithin}
use Rattle.law_times.specs.Pass.{trial, prio_at, is_placed, is_within, passes, first_passing, left, with_level, pass_to, AreGiven}
use Rattle.law_times.specs.Laws.{StandsAlike}
use Rattle.law_times.proofs.Moving.{alike-within}
use Rattle.law_times.proofs.Exchanging.{Lowest, Own, Other, kind, trial-lowest, trial-own, trial-other}

-- the test, and what it tells

within-responds : (set : Set) (tx most : ℕ) (o : Option ℕ) → response set tx ≡ o → is_within o most ≡ true → RespondsWithin set tx most
within-responds set tx most None e so = absurd (false≢true so)
within-responds set tx most (Some r) e so = record { response = r; is = response_found set tx r e; within = leb-true _ _ so }

responds-within : (set : Set) (tx most : ℕ) → RespondsWithin set tx most → (o : Option ℕ) → response set tx ≡ o → is_within o most ≡ true
responds-within set tx most h None e = absurd (response_none set tx e h.response h.is.holds)
responds-within set tx most h (Some r) e =
    let least = (response_found set tx r e).least h.response h.is.holds in
    le-leb r most (omega (arith, least, h.within))

pub record HasPassed (set : Set) (limits : ℕ → ℕ) (prios : List ℕ) (tx : ℕ) : Type 0 where
  pub free : is_placed prios tx ≡ false
  pub within : RespondsWithin (with_prios (trial (is_placed prios) tx) set) tx (limits tx)

pub has-passed : (set : Set) (limits : ℕ → ℕ) (prios : List ℕ) (tx : ℕ) → passes set limits prios tx ≡ true → HasPassed set limits prios tx
unfolding passes
has-passed set limits prios tx e =
    let parts = and_parts (not (is_placed prios tx)) (is_within (response (with_prios (trial (is_placed prios) tx) set) tx) (limits tx)) e in
    record {
      free = not-true (is_placed prios tx) parts.0;
      within = within-responds (with_prios (trial (is_placed prios) tx) set) tx (limits tx) (response (with_prios (trial (is_placed prios) tx) set) tx) refl parts.1;
    }

not-from : (b : Bool) → b ≡ false → not b ≡ true
not-from true e = sym e
not-from false e = refl

pub passes-if : (set : Set) (limits : ℕ → ℕ) (prios : List ℕ) (tx : ℕ) → HasPassed set limits prios tx → passes set limits prios tx ≡ true
unfolding passes
passes-if set limits prios tx h =
    and_from (not (is_placed prios tx)) (is_within (response (with_prios (trial (is_placed prios) tx) set) tx) (limits tx)) (not-from (is_placed prios tx) h.free)
    (responds-within (with_prios (trial (is_placed prios) tx) set) tx (limits tx) h.within (response (with_prios (trial (is_placed prios) tx) set) tx) refl)

-- how many have no priority yet

abbrev is_free : ℕ → ℕ
is_free v = cond (v == 0) 1 0

free-some : (v : ℕ) → 1 ≤ v → is_free v ≡ 0
free-some v some = rw (ne_eqb v 0 (λ e. omega (arith, e, some))) refl

free-none : (v : ℕ) → is_free v ≤ 0 → 1 ≤ v
free-none zero e = absurd (omega (arith, e))
free-none (suc v) e = omega arith

free-replicate : (n : ℕ) → left (replicate n 0) ≡ n
free-replicate zero = refl
free-replicate (suc n) = let more = sum_by-cons is_free 0 (replicate n 0) in omega (arith, more, free-replicate n)

free-put : (prios : List ℕ) (tx level : ℕ) → tx < length prios → prio_at prios tx ≡ 0 → 1 ≤ level → left (put prios tx level) + 1 ≡ left prios
free-put prios tx level inside none some =
    let moved = sum_by-set is_free prios tx level 0 inside in
    let before : is_free (get_or prios tx 0) ≡ 1 = ap is_free none in
    omega (arith, moved, before, free-some level some)

pub free-all : (prios : List ℕ) → ((tx : ℕ) → tx < length prios → 1 ≤ prio_at prios tx) → left prios ≡ 0
free-all prios all =
    let few = sum_by-le is_free 0 prios (λ k d less.
    let at = get_or_default prios k d 0 less in
    let none = free-some (get_or prios k 0) (all k less) in
    let same : is_free (get_or prios k d) ≡ is_free (get_or prios k 0) = ap is_free at in
    omega (arith, same, none)) in
    omega (arith, few)

pub none-free : (prios : List ℕ) → left prios ≡ 0 → (tx : ℕ) → tx < length prios → 1 ≤ prio_at prios tx
none-free prios none tx inside = free-none (prio_at prios tx) (omega (arith, get_or-le-sum_by is_free prios tx 0 inside, none))

-- what is given up to a level

pub ranked : ℕ → List ℕ → ℕ → ℕ
ranked above prios t = cond (is_placed prios t) (prio_at prios t) above

pub ranked-placed : (above : ℕ) (prios : List ℕ) (t : ℕ) → 1 ≤ prio_at prios t → ranked above prios t ≡ prio_at prios t
unfolding ranked
ranked-placed above prios t some = rw (lt-ltb 0 (prio_at prios t) some) refl

pub ranked-free : (above : ℕ) (prios : List ℕ) (t : ℕ) → prio_at prios t ≡ 0 → ranked above prios t ≡ above
unfolding ranked
ranked-free above prios t none = rw (le-ltb 0 (prio_at prios t) (omega (arith, none))) refl

pub record IsGivenTo (set : Set) (limits : ℕ → ℕ) (level : ℕ) (prios : List ℕ) : Type 0 where
  pub one_each : length prios ≡ length set.txns
  pub few : (tx : ℕ) → prio_at prios tx ≤ level
  pub distinct : (a b : ℕ) → a < length set.txns → b < length set.txns → 1 ≤ prio_at prios a → prio_at prios a ≡ prio_at prios b → a ≡ b
  pub remain : left prios + level ≡ length set.txns
  pub keeps : (tx : ℕ) → tx < length set.txns → 1 ≤ prio_at prios tx → RespondsWithin (with_prios (ranked (suc level) prios) set) tx (limits tx)

pub none-at : (n tx : ℕ) → prio_at (replicate n 0) tx ≡ 0
none-at n tx = elim (cases_lt tx n) [
  | inl inside ↦ get_or-replicate {A = ℕ} n tx 0 0 inside
  | inr past ↦ get_or_past {X = ℕ} (replicate n 0) tx 0 (let size : length (replicate {A = ℕ} n 0) ≡ n = length-replicate {A = ℕ} n 0 in omega (arith, past, size))
]

given-none : (set : Set) (limits : ℕ → ℕ) → IsGivenTo set limits 0 (replicate (length set.txns) 0)
given-none set limits = record {
  one_each = length-replicate (length set.txns) 0;
  few = λ tx. omega (arith, none-at (length set.txns) tx);
  distinct = λ a b in-a in-b some e. absurd (omega (arith, some, none-at (length set.txns) a));
  remain = omega (arith, free-replicate (length set.txns));
  keeps = λ tx inside some. absurd (omega (arith, some, none-at (length set.txns) tx));
}

pub free-is : (prios : List ℕ) (tx : ℕ) → is_placed prios tx ≡ false → prio_at prios tx ≡ 0
free-is prios tx e = omega (arith, ltb-false 0 (prio_at prios tx) e)

pub placed-is : (prios : List ℕ) (tx : ℕ) → is_placed prios tx ≡ true → 1 ≤ prio_at prios tx
placed-is prios tx e = omega (arith, ltb-true 0 (prio_at prios tx) e)

pub placed-if : (prios : List ℕ) (tx : ℕ) → 1 ≤ prio_at prios tx → is_placed prios tx ≡ true
placed-if prios tx some = lt-ltb 0 (prio_at prios tx) some

pub free-if : (prios : List ℕ) (tx : ℕ) → prio_at prios tx ≡ 0 → is_placed prios tx ≡ false
free-if prios tx none = le-ltb 0 (prio_at prios tx) (omega (arith, none))

-- one more level is given

module _ (set : Set) (limits : ℕ → ℕ) (level : ℕ) (prios : List ℕ) (i : ℕ) (given : IsGivenTo set limits level prios) (inside : i < length set.txns) (passed : HasPassed set limits prios i) where
  abbrev next : List ℕ
  next = put prios i (suc level)

  own : prio_at next i ≡ suc level
  own = get_or-set_same prios i (suc level) 0 (omega (arith, inside, given.one_each))

  others : (t : ℕ) → t ≢ i → prio_at next t ≡ prio_at prios t
  others t ne = get_or-set_other prios i t (suc level) 0 ne

  free-own : prio_at prios i ≡ 0
  free-own = free-is prios i passed.free

  few-next : (tx : ℕ) → prio_at next tx ≤ suc level
  few-next tx = elim (cases_eq tx i) [
    | inl e ↦ omega (arith, ap (prio_at next) e, own)
    | inr ne ↦ omega (arith, others tx ne, given.few tx)
  ]

  distinct-next : (a b : ℕ) → a < length set.txns → b < length set.txns → 1 ≤ prio_at next a → prio_at next a ≡ prio_at next b → a ≡ b
  distinct-next a b in-a in-b some e = elim (cases_eq a i) [
    | inl is-a ↦ elim (cases_eq b i) [
      | inl is-b ↦ is-a ∙ sym is-b
      | inr ne ↦ absurd (omega (arith, ap (prio_at next) is-a, own, others b ne, given.few b, e))
    ]
    | inr ne ↦ elim (cases_eq b i) [
      | inl is-b ↦ absurd (omega (arith, ap (prio_at next) is-b, own, others a ne, given.few a, e))
      | inr ne-b ↦ given.distinct a b in-a in-b (omega (arith, others a ne, some)) (omega (arith, others a ne, others b ne-b, e))
    ]
  ]

  ranked-own : ranked (suc (suc level)) next i ≡ suc level
  ranked-own = ranked-placed (suc (suc level)) next i (omega (arith, own)) ∙ own

  -- what is known of the numbers of a transaction, before and after
  abbrev IsOld : ℕ → Type 0
  IsOld t = (1 ≤ prio_at prios t) × (ranked (suc level) prios t ≡ prio_at prios t) × (ranked (suc (suc level)) next t ≡ prio_at prios t) × (trial (is_placed prios) i t ≡ 1)

  abbrev IsNew : ℕ → Type 0
  IsNew t = (t ≡ i) × (ranked (suc level) prios t ≡ suc level) × (ranked (suc (suc level)) next t ≡ suc level) × (trial (is_placed prios) i t ≡ 2)

  abbrev IsLeft : ℕ → Type 0
  IsLeft t = (t ≢ i) × (ranked (suc level) prios t ≡ suc level) × (ranked (suc (suc level)) next t ≡ suc (suc level)) × (trial (is_placed prios) i t ≡ 3)

  old-is : (t : ℕ) → is_placed prios t ≡ true → IsOld t
  old-is t e =
      let some = placed-is prios t e in
      let ne : t ≢ i = (λ same. omega (arith, some, ap (prio_at prios) same, free-own)) in
      let after = others t ne in
      (some, ranked-placed (suc level) prios t some, ranked-placed (suc (suc level)) next t (omega (arith, after, some)) ∙ after, trial-lowest (is_placed prios) i t e)

  new-is : (t : ℕ) → t ≡ i → IsNew t
  new-is t e = (e, ap (ranked (suc level) prios) e ∙ ranked-free (suc level) prios i free-own, ap (ranked (suc (suc level)) next) e ∙ ranked-own, ap (trial (is_placed prios) i) e ∙ trial-own (is_placed prios) i passed.free)

  left-is : (t : ℕ) → is_placed prios t ≡ false → t ≢ i → IsLeft t
  left-is t e ne =
      let none = free-is prios t e in
      (ne, ranked-free (suc level) prios t none, ranked-free (suc (suc level)) next t (others t ne ∙ none), trial-other (is_placed prios) i t e ne)

  kinds : (t : ℕ) → IsOld t ⊎ (IsNew t ⊎ IsLeft t)
  kinds t = elim (kind (is_placed prios) i t) [
    | Lowest e ↦ inl (old-is t e)
    | Own e ↦ inr (inl (new-is t e))
    | Other e ne ↦ inr (inr (left-is t e ne))
  ]

  alike-new : StandsAlike set (trial (is_placed prios) i) (ranked (suc (suc level)) next) i
  alike-new = record {
    above = λ t less. elim (kinds t) [
      | inl o ↦ (λ high. omega (arith, tried, o.3, high), λ high. omega (arith, ranked-own, o.2, given.few t, high))
      | inr r ↦ elim r [
        | inl n ↦ (λ high. omega (arith, tried, n.3, high), λ high. omega (arith, ranked-own, n.2, high))
        | inr l ↦ (λ high. omega (arith, ranked-own, l.2), λ high. omega (arith, tried, l.3))
      ]
    ];
    below = λ t less. elim (kinds t) [
      | inl o ↦ (λ low. omega (arith, ranked-own, o.2, given.few t), λ low. omega (arith, tried, o.3))
      | inr r ↦ elim r [
        | inl n ↦ (λ low. omega (arith, tried, n.3, low), λ low. omega (arith, ranked-own, n.2, low))
        | inr l ↦ (λ low. omega (arith, tried, l.3, low), λ low. omega (arith, ranked-own, l.2, low))
      ]
    ];
  }
    where
      tried : trial (is_placed prios) i i ≡ 2
      tried = trial-own (is_placed prios) i passed.free

  alike-old : (tx : ℕ) → IsOld tx → StandsAlike set (ranked (suc level) prios) (ranked (suc (suc level)) next) tx
  alike-old tx old = record {
    above = λ t less. elim (kinds t) [
      | inl o ↦ (λ high. omega (arith, old.1, old.2, o.1, o.2, high), λ high. omega (arith, old.1, old.2, o.1, o.2, high))
      | inr r ↦ elim r [
        | inl n ↦ (λ high. omega (arith, old.2, n.2, given.few tx), λ high. omega (arith, old.1, n.1, given.few tx))
        | inr l ↦ (λ high. omega (arith, old.2, l.2, given.few tx), λ high. omega (arith, old.1, l.1, given.few tx))
      ]
    ];
    below = λ t less. elim (kinds t) [
      | inl o ↦ (λ low. omega (arith, old.1, old.2, o.1, o.2, low), λ low. omega (arith, old.1, old.2, o.1, o.2, low))
      | inr r ↦ elim r [
        | inl n ↦ (λ low. omega (arith, old.1, n.1, given.few tx, low), λ low. omega (arith, old.2, n.2, given.few tx, low))
        | inr l ↦ (λ low. omega (arith, old.1, l.1, given.few tx, low), λ low. omega (arith, old.2, l.2, given.few tx, low))
      ]
    ];
  }

  keeps-next : (tx : ℕ) → tx < length set.txns → 1 ≤ prio_at next tx → RespondsWithin (with_prios (ranked (suc (suc level)) next) set) tx (limits tx)
  keeps-next tx less some = elim (kinds tx) [
    | inl o ↦ alike-within set (ranked (suc level) prios) (ranked (suc (suc level)) next) tx (limits tx) less (omega (arith, o.0, o.1)) (omega (arith, o.0, o.2)) (alike-old tx o) (given.keeps tx less o.0)
    | inr r ↦ elim r [
      | inl n ↦ subst (λ (k : ℕ). RespondsWithin (with_prios (ranked (suc (suc level)) next) set) k (limits k)) (sym n.0) keeps-new
      | inr l ↦ absurd (l.0 (left-none l))
    ]
  ]
    where
      keeps-new : RespondsWithin (with_prios (ranked (suc (suc level)) next) set) i (limits i)
      keeps-new =
          let tried = trial-own (is_placed prios) i passed.free in
          alike-within set (trial (is_placed prios) i) (ranked (suc (suc level)) next) i (limits i) inside (omega (arith, tried)) (omega (arith, ranked-own)) alike-new passed.within

      left-none : IsLeft tx → tx ≡ i
      left-none l =
          let is = ranked-placed (suc (suc level)) next tx some in
          absurd (omega (arith, is, l.2, few-next tx))

  pub given-next : IsGivenTo set limits (suc level) next
  given-next = record {
    one_each = length-set prios i (suc level) ∙ given.one_each;
    few = few-next;
    distinct = distinct-next;
    remain = omega (arith, free-put prios i (suc level) (omega (arith, inside, given.one_each)) free-own (omega arith), given.remain);
    keeps = keeps-next;
  }

-- the pass

pub passing-is : (set : Set) (limits : ℕ → ℕ) (prios : List ℕ) (i : ℕ) → first_passing set limits prios ≡ Some i → (i < length set.txns) × HasPassed set limits prios i
passing-is set limits prios i e =
    let found = least_from-is (passes set limits prios) 0 (length set.txns) i e in
    (omega (arith, found.high), has-passed set limits prios i found.passes)

given-at : (set : Set) (limits : ℕ → ℕ) (level : ℕ) (prios : List ℕ) (o : Option ℕ) → first_passing set limits prios ≡ o → IsSome o → IsGivenTo set limits level prios → IsGivenTo set limits (suc level) (with_level prios (suc level) o)
given-at set limits level prios None e some given = absurd (false≢true some)
given-at set limits level prios (Some i) e some given =
    let found = passing-is set limits prios i e in
    given-next set limits level prios i given found.0 found.1

pub given-to : (set : Set) (limits : ℕ → ℕ) (level : ℕ) → AreGiven set limits level → IsGivenTo set limits level (pass_to set limits level)
given-to set limits zero all = given-none set limits
given-to set limits (suc level) all =
    given-at set limits level (pass_to set limits level) (first_passing set limits (pass_to set limits level)) refl (all level (omega arith))
    (given-to set limits level (λ below less. all below (omega arith)))
