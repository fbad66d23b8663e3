-- Numbers and texts, one by one.
use Rattle.std.proofs.Common.{◌≡◌, ℕ, ◌*◌, ◌≤◌, List, ◌++◌, ap, ◌∙◌, append_assoc}
use Rattle.std.proofs.lemmas.Nat.{mul-le}

-- so many ticks of this width
pub wide : (ticks width : ℕ) → ticks ≤ 10000 → width ≤ 20 → ticks * width ≤ 200000
wide ticks width few narrow = mul-le ticks width 10000 20 few narrow

-- a list, what was added to it, and what was added then
pub joined : {A : Type 0} (old mid new x y : List A) → new ≡ mid ++ y → mid ≡ old ++ x → new ≡ old ++ (x ++ y)
joined old mid new x y is so = is ∙ ap (λ t. t ++ y) so ∙ append_assoc old x y
