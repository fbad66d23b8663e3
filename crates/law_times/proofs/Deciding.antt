-- The pass decides whether any assignment keeps the limits.
use Rattle.std.proofs.Common.{◌≡◌, ◌≢◌, ℕ, zero, suc, ◌<◌, ◌≤◌, ◌⊎◌, inl, inr, Bool, true, false, List, length, set as put, replicate, Option, None, Some, refl, sym, ◌∙◌, ap, arith}
use Rattle.std.proofs.lemmas.Bool.{cases_eq, cases_lt, cases_Bool, cases_order, false≢true}
use Rattle.std.proofs.lemmas.List.{get_or-set_same, get_or-set_other}
use Rattle.std.specs.Prelude.{IsSome}
use Rattle.txn_set.specs.Set.{Set, IsCompiled}
use Rattle.response_test.proofs.Least.{least_from-fails}
use Rattle.law_times.specs.Assigned.{IsAssignment, Keeps}
use Rattle.law_times.specs.Pass.{trial, prio_at, is_placed, passes, first_passing, with_level, pass_to, pass, AreGiven, IsStuck}
use Rattle.law_times.specs.Laws.{StandsAlike, AreLowest, IsSolved, NoneKeeps, PassDecides}
use Rattle.law_times.proofs.Moving.{alike-within}
use Rattle.law_times.proofs.Exchanging.{Lowest, Own, Other, kind, trial-lowest, trial-own, trial-other, exchange}
use Rattle.law_times.proofs.PriorityLevels.{HasPassed, passes-if, free-all, none-free, ranked, ranked-placed, IsGivenTo, none-at, free-is, placed-is, placed-if, free-if, passing-is, given-to}

-- all levels are given

pub solved : (set : Set) (limits : ℕ → ℕ) → AreGiven set limits (length set.txns) → IsSolved set limits (pass set limits)
solved set limits all = record {
  one_each = given.one_each;
  few = λ tx inside. given.few tx;
  is = record { some = some; distinct = λ a b in-a in-b e. given.distinct a b in-a in-b (some a in-a) e };
  keeps = λ tx inside.
      let same = ranked-at tx inside in
      let from = some tx inside in
      alike-within set (ranked (suc (length set.txns)) (pass set limits)) (prio_at (pass set limits)) tx (limits tx) inside (omega (arith, same, from)) from (alike tx inside) (given.keeps tx inside from);
}
  where
    given : IsGivenTo set limits (length set.txns) (pass set limits)
    given = given-to set limits (length set.txns) all

    some : (tx : ℕ) → tx < length set.txns → 1 ≤ prio_at (pass set limits) tx
    some tx inside = none-free (pass set limits) (omega (arith, given.remain)) tx (omega (arith, inside, given.one_each))

    ranked-at : (tx : ℕ) → tx < length set.txns → ranked (suc (length set.txns)) (pass set limits) tx ≡ prio_at (pass set limits) tx
    ranked-at tx inside = ranked-placed (suc (length set.txns)) (pass set limits) tx (some tx inside)

    alike : (tx : ℕ) → tx < length set.txns → StandsAlike set (ranked (suc (length set.txns)) (pass set limits)) (prio_at (pass set limits)) tx
    alike tx inside = record {
      above = λ t less. (λ high. omega (arith, ranked-at tx inside, ranked-at t less, high), λ high. omega (arith, ranked-at tx inside, ranked-at t less, high));
      below = λ t less. (λ low. omega (arith, ranked-at tx inside, ranked-at t less, low), λ low. omega (arith, ranked-at tx inside, ranked-at t less, low));
    }

-- what is given so far stands in the way of no assignment

record StillKept (set : Set) (limits : ℕ → ℕ) (placed : ℕ → Bool) : Type 0 where
  pub prios : ℕ → ℕ
  pub is : IsAssignment set prios
  pub keeps : Keeps set limits prios
  pub lowest : AreLowest set placed prios

module _ (set : Set) (limits : ℕ → ℕ) (ok : IsCompiled set) where
  kept-next : (level : ℕ) (prios : List ℕ) (i : ℕ) → IsGivenTo set limits level prios → i < length set.txns → HasPassed set limits prios i → StillKept set limits (is_placed prios) → StillKept set limits (is_placed (put prios i (suc level)))
  kept-next level prios i given inside passed kept =
      let next = exchange set limits (is_placed prios) kept.prios i ok kept.is kept.keeps kept.lowest inside passed.free passed.within in
      record {
        prios = next.prios;
        is = next.is;
        keeps = next.keeps;
        lowest = λ a b in-a in-b low high.
            let ne : b ≢ i = (λ same. placed-now b same high) in
            let free-b : is_placed prios b ≡ false = free-if prios b (omega (arith, get_or-set_other prios i b (suc level) 0 ne, free-is (put prios i (suc level)) b high)) in
            elim (cases_eq a i) [
              | inl same ↦ (let above = next.next b in-b free-b ne in omega (arith, ap next.prios same, above))
              | inr other ↦ next.lowest a b in-a in-b (placed-if prios a (omega (arith, get_or-set_other prios i a (suc level) 0 other, placed-is (put prios i (suc level)) a low))) free-b
            ];
      }
    where
      placed-now : (b : ℕ) → b ≡ i → is_placed (put prios i (suc level)) b ≡ false → ⊥
      placed-now b same high =
          let none = free-is (put prios i (suc level)) b high in
          let here = get_or-set_same prios i (suc level) 0 (omega (arith, inside, given.one_each)) in
          omega (arith, none, here, ap (prio_at (put prios i (suc level))) same)

  kept-at : (level : ℕ) (prios : List ℕ) (o : Option ℕ) → first_passing set limits prios ≡ o → IsSome o → IsGivenTo set limits level prios → StillKept set limits (is_placed prios) → StillKept set limits (is_placed (with_level prios (suc level) o))
  kept-at level prios None e some given kept = absurd (false≢true some)
  kept-at level prios (Some i) e some given kept =
      let found = passing-is set limits prios i e in
      kept-next level prios i given found.0 found.1 kept

  kept-to : (prios : ℕ → ℕ) → IsAssignment set prios → Keeps set limits prios → (level : ℕ) → AreGiven set limits level → StillKept set limits (is_placed (pass_to set limits level))
  kept-to prios is keeps zero all = record {
    prios = prios;
    is = is;
    keeps = keeps;
    lowest = λ a b in-a in-b low high. absurd (omega (arith, placed-is (replicate (length set.txns) 0) a low, none-at (length set.txns) a));
  }
  kept-to prios is keeps (suc level) all =
      let before : AreGiven set limits level = (λ below less. all below (omega arith)) in
      kept-at level (pass_to set limits level) (first_passing set limits (pass_to set limits level)) refl (all level (omega arith))
      (given-to set limits level before) (kept-to prios is keeps level before)

-- the lowest of those that have no priority yet

record IsLeast (placed : ℕ → Bool) (p : ℕ → ℕ) (n x : ℕ) : Type 0 where
  pub in_range : x < n
  pub free : placed x ≡ false
  pub least : (b : ℕ) → b < n → placed b ≡ false → p x ≤ p b

abbrev AllPlaced : (ℕ → Bool) → ℕ → Type 0
AllPlaced placed n = (b : ℕ) → b < n → placed b ≡ true

both : (b : Bool) → b ≡ true → b ≡ false → ⊥
both b so unso = false≢true (sym unso ∙ so)

least-next : (placed : ℕ → Bool) (p : ℕ → ℕ) (n : ℕ) → AllPlaced placed n ⊎ ((x : ℕ) × IsLeast placed p n x) → (placed n ≡ true) ⊎ (placed n ≡ false) → AllPlaced placed (suc n) ⊎ ((x : ℕ) × IsLeast placed p (suc n) x)
least-next placed p n (inl all) (inl so) = inl (λ b less. elim (cases_eq b n) [ inl e ↦ ap placed e ∙ so | inr ne ↦ all b (omega arith) ])
least-next placed p n (inl all) (inr unso) = inr (
  n,
  record {
    in_range = omega arith;
    free = unso;
    least = λ b less free. elim (cases_eq b n) [ inl e ↦ (let same : p b ≡ p n = ap p e in omega (arith, same)) | inr ne ↦ absurd (both (placed b) (all b (omega arith)) free) ];
  },
)
least-next placed p n (inr (x, h)) (inl so) = inr (
  x,
  record {
    in_range = omega (arith, h.in_range);
    free = h.free;
    least = λ b less free. elim (cases_eq b n) [ inl e ↦ absurd (both (placed n) so (sym (ap placed e) ∙ free)) | inr ne ↦ h.least b (omega arith) free ];
  },
)
least-next placed p n (inr (x, h)) (inr unso) = elim (cases_lt (p n) (p x)) [
  | inl low ↦ inr (
    n,
    record {
      in_range = omega arith;
      free = unso;
      least = λ b less free. elim (cases_eq b n) [ inl e ↦ (let same : p b ≡ p n = ap p e in omega (arith, same)) | inr ne ↦ (let rest = h.least b (omega arith) free in omega (arith, rest, low)) ];
    },
  )
  | inr high ↦ inr (
    x,
    record {
      in_range = omega (arith, h.in_range);
      free = h.free;
      least = λ b less free. elim (cases_eq b n) [ inl e ↦ (let same : p b ≡ p n = ap p e in omega (arith, same, high)) | inr ne ↦ h.least b (omega arith) free ];
    },
  )
]

least-free : (placed : ℕ → Bool) (p : ℕ → ℕ) (n : ℕ) → AllPlaced placed n ⊎ ((x : ℕ) × IsLeast placed p n x)
least-free placed p zero = inl (λ b less. absurd (omega arith))
least-free placed p (suc n) = least-next placed p n (least-free placed p n) (cases_Bool (placed n))

-- none passes

lowest-passes : (set : Set) (limits : ℕ → ℕ) (prios : List ℕ) (kept : StillKept set limits (is_placed prios)) (x : ℕ) → IsLeast (is_placed prios) kept.prios (length set.txns) x → passes set limits prios x ≡ true
lowest-passes set limits prios kept x low =
    passes-if set limits prios x (record {
      free = low.free;
      within =
          alike-within set kept.prios (trial (is_placed prios) x) x (limits x) low.in_range (kept.is.some x low.in_range) (omega (arith, own)) alike (kept.keeps x low.in_range);
    })
  where
    own : trial (is_placed prios) x x ≡ 2
    own = trial-own (is_placed prios) x low.free

    over : (t : ℕ) → t < length set.txns → is_placed prios t ≡ false → t ≢ x → kept.prios x < kept.prios t
    over t less e ne = elim (cases_order (kept.prios x) (kept.prios t)) [
      | inl same ↦ absurd (ne (sym (kept.is.distinct x t low.in_range less same)))
      | inr o ↦ elim o [ inl lt ↦ lt | inr gt ↦ absurd (omega (arith, low.least t less e, gt)) ]
    ]

    alike : StandsAlike set kept.prios (trial (is_placed prios) x) x
    alike = record {
      above = λ t less. elim (kind (is_placed prios) x t) [
        | Lowest e ↦ (let one = trial-lowest (is_placed prios) x t e in (λ high. omega (arith, kept.lowest t x less low.in_range e low.free, high), λ high. omega (arith, own, one, high)))
        | Own e ↦ (let same : kept.prios t ≡ kept.prios x = ap kept.prios e in let two : trial (is_placed prios) x t ≡ trial (is_placed prios) x x = ap (trial (is_placed prios) x) e in (λ high. omega (arith, same, high), λ high. omega (arith, two, high)))
        | Other e ne ↦ (let three = trial-other (is_placed prios) x t e ne in (λ high. omega (arith, own, three), λ high. over t less e ne))
      ];
      below = λ t less. elim (kind (is_placed prios) x t) [
        | Lowest e ↦ (let one = trial-lowest (is_placed prios) x t e in (λ lower. omega (arith, own, one), λ lower. kept.lowest t x less low.in_range e low.free))
        | Own e ↦ (let same : kept.prios t ≡ kept.prios x = ap kept.prios e in let two : trial (is_placed prios) x t ≡ trial (is_placed prios) x x = ap (trial (is_placed prios) x) e in (λ lower. omega (arith, same, lower), λ lower. omega (arith, two, lower)))
        | Other e ne ↦ (let three = trial-other (is_placed prios) x t e ne in (λ lower. omega (arith, over t less e ne, lower), λ lower. omega (arith, own, three, lower)))
      ];
    }

pub stuck : (set : Set) (limits : ℕ → ℕ) (below : ℕ) → IsCompiled set → IsStuck set limits below → NoneKeeps set limits
stuck set limits below ok h prios is keeps =
    let given = given-to set limits below h.given in
    let kept = kept-to set limits ok prios is keeps below h.given in
    elim (least-free (is_placed (pass_to set limits below)) kept.prios (length set.txns)) [
      | inl all ↦
          (let none = free-all (pass_to set limits below) (λ tx inside. placed-is (pass_to set limits below) tx (all tx (omega (arith, inside, given.one_each)))) in
          omega (arith, none, given.remain, h.in_range))
      | inr found ↦
          both (passes set limits (pass_to set limits below) found.0) (lowest-passes set limits (pass_to set limits below) kept found.0 found.1)
          (least_from-fails (passes set limits (pass_to set limits below)) 0 (length set.txns) h.none found.0 (omega arith) (omega (arith, found.1.in_range)))
    ]

pub pass-decides : PassDecides
pass-decides set limits ok = record { solved = solved set limits; stuck = λ below h. stuck set limits below ok h }
