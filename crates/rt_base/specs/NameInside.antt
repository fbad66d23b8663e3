-- A name gives its fields back.
use Rattle.std.proofs.Common.{◌≡◌, ℕ, ◌-◌, List, ◌++◌, length, take, replicate, sym, ap, ◌∙◌, arith}
use Rattle.std.proofs.lemmas.List.{take-append-drop, length-take}
use Rattle.rt_base.specs.Names.{padded, IsPadded}
use Rattle.rt_base.specs.declared.name.Name.TheInside.{Inside}

same_len : (len : ℕ) (bytes : List ℕ) → IsPadded len bytes → length (take len bytes) ≡ len
same_len len bytes h = omega (arith, length-take len bytes, h.all, h.fits)

same_bytes : (len : ℕ) (bytes : List ℕ) → IsPadded len bytes → padded (take len bytes) ≡ bytes
same_bytes len bytes h =
    ap (λ (n : ℕ). take len bytes ++ replicate (32 - n) 0) (same_len len bytes h)
    ∙ ap (λ (rest : List ℕ). take len bytes ++ rest) (sym h.zeros)
    ∙ take-append-drop len bytes

abbrev made : List ℕ → ℕ → Inside
made b n = record { bytes = b; len = n }

pub same_inside : (n : Inside) → IsPadded n.len n.bytes → record { bytes = padded (take n.len n.bytes); len = length (take n.len n.bytes) } ≡ n
same_inside n h =
    ap (λ (b : List ℕ). made b (length (take n.len n.bytes))) (same_bytes n.len n.bytes h) ∙ ap (λ (k : ℕ). made n.bytes k) (same_len n.len n.bytes h)
