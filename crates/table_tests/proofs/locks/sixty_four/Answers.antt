use Rattle.std.proofs.Common.{◌≡◌, ℕ, ◌+◌, ◌<◌, List, [], ◌∷◌, ◌++◌, length, get_or, ap, sym, subst, ◌∙◌, arith, length-append}
use Rattle.std.proofs.Math.Seq.{get_or-append_seam}
use Rattle.std.proofs.lemmas.List.{get_or_append_left}
use mathlib.Core.Logic.{dite}
use native.Mathlib.Decide.{ℕ_discrete}
use Rattle.table_tests.proofs.locks.sixty_four.Goals as goal

-- the numbers from 1 on, and one more
longer : (xs ys : List ℕ) (n : ℕ) → length xs ≡ n → ys ≡ xs ++ (n + 1) ∷ [] → length ys ≡ n + 1
longer xs ys n size is = omega (arith, size, ap (λ (l : List ℕ). length l) is, length-append xs ((n + 1) ∷ []))

counted : (xs ys : List ℕ) (n : ℕ) → length xs ≡ n → ((i : ℕ) → i < n → get_or xs i 0 ≡ i + 1) → ys ≡ xs ++ (n + 1) ∷ [] → (i : ℕ) → i < n + 1 → get_or ys i 0 ≡ i + 1
counted xs ys n size each is i low =
    ap (λ (l : List ℕ). get_or l i 0) is
    ∙ dite (ℕ_discrete i n)
    (λ e. subst (λ (k : ℕ). get_or (xs ++ (n + 1) ∷ []) k 0 ≡ k + 1) (size ∙ sym e) (get_or-append_seam xs (n + 1) [] 0 ∙ ap (λ (k : ℕ). k + 1) (sym size)))
    (λ ne. get_or_append_left xs ((n + 1) ∷ []) 0 i (omega (arith, low, ne, size)) ∙ each i (omega (arith, low, ne)))

pub loop-tx-preserved : goal.loop-tx-preserved
loop-tx-preserved c = let i = c.loop-tx.invariant in record {
  size = longer c.loop-tx.prios.items c.push.new.self.items c.loop-tx.tx i.size c.in_ok-push.ensures.items;
  prios = counted c.loop-tx.prios.items c.push.new.self.items c.loop-tx.tx i.size i.prios c.in_ok-push.ensures.items;
}
