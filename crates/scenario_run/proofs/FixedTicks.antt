-- The fixed ticks of a transaction, one after another.
use Rattle.std.proofs.Common.{◌≡◌, ℕ, ◌+◌, List, [], ◌∷◌, ◌++◌, map, sym, ap₂, ◌∙◌, arith}
use Rattle.std.specs.List.{range_with_len}
use Rattle.std.proofs.lemmas.List.FromFn.{map-range_with_len_more}
use Rattle.txn_set.specs.declared.decl.TxnDecl.{TxnDecl}
use Rattle.txn_set.specs.Set.{periodic_release}

-- one tick more
pub next_tick : (t : TxnDecl) (k tick : ℕ) (ticks ticks' : List ℕ) → tick ≡ periodic_release t k → ticks' ≡ ticks ++ tick ∷ [] → ticks ≡ map (λ j. periodic_release t j) (range_with_len 0 k)
    → ticks' ≡ map (λ j. periodic_release t j) (range_with_len 0 (k + 1))
next_tick t k tick ticks ticks' is new so_far =
    new ∙ ap₂ (λ (l : List ℕ) (n : ℕ). l ++ n ∷ []) so_far is ∙ sym (map-range_with_len_more (λ j. periodic_release t j) 0 k k (omega arith))
