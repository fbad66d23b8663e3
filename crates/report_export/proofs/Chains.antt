-- Pieces that were added one after another.
use Rattle.std.proofs.Common.{◌≡◌, List, ℕ, ◌++◌, ap, ◌∙◌, append_assoc}

-- a text, what was added to it, and what was added then
pub joined : (old mid new x y : List ℕ) → new ≡ mid ++ y → mid ≡ old ++ x → new ≡ old ++ (x ++ y)
joined old mid new x y is so = is ∙ ap (λ (t : List ℕ). t ++ y) so ∙ append_assoc old x y

-- the same where the text that is begun with is another's
pub begun : (old mid new x : List ℕ) → new ≡ mid ++ x → mid ≡ old → new ≡ old ++ x
begun old mid new x is so = is ∙ ap (λ (t : List ℕ). t ++ x) so
