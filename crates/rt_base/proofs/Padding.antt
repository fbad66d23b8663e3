-- A name in 32 bytes.
use Rattle.std.proofs.Common.{◌≡◌, ℕ, ◌≤◌, Bool, true, false, ◌&&◌, ltb, List, [], ◌∷◌, ◌++◌, length, drop, replicate, refl, sym, subst, ◌∙◌, arith, length-append, length-drop}
use Rattle.std.proofs.lemmas.List.{take_at, drop_at, drop-replicate, length-replicate}
use Rattle.std.proofs.lemmas.Bool.{ltb-true}
use Rattle.std.specs.List.{list_all}
use Rattle.rt_base.specs.Names.{is_letter, is_name_byte, is_name, IsPadded}

pub both : (a b : Bool) → (a && b) ≡ true → (a ≡ true) × (b ≡ true)
both true b e = (refl, e)
both false b e = absurd cc

is_short : (bs : List ℕ) → is_name bs ≡ true → length bs ≤ 32
is_short [] e = absurd cc
is_short (b ∷ bs) e =
    let parts = both (is_letter b && ltb (length bs) 32) (list_all is_name_byte bs) e in
    let short = both (is_letter b) (ltb (length bs) 32) parts.0 in
    omega (arith, ltb-true _ _ short.1)

padded_name : (bs : List ℕ) → is_name bs ≡ true → IsPadded (length bs) (bs ++ drop (length bs) (replicate 32 0))
padded_name bs name =
    let fits = is_short bs name in
    let zeros : List ℕ = replicate 32 0 in
    let all : length (bs ++ drop (length bs) (replicate 32 0)) ≡ 32 = omega (arith, length-append bs (drop (length bs) zeros), length-drop {A = ℕ} (length bs) zeros, length-replicate {A = ℕ} 32 0) in
    record {
      all = all;
      fits = fits;
      name = rw (take_at bs (drop (length bs) (replicate 32 0)) (length bs) refl) name;
      zeros = drop_at bs (drop (length bs) (replicate 32 0)) (length bs) refl ∙ drop-replicate (length bs) 32 0;
    }

pub new_is_padded : (bs front : List ℕ) → is_name bs ≡ true → front ≡ bs → IsPadded (length bs) (front ++ drop (length bs) (replicate 32 0))
new_is_padded bs front name same = subst (λ (f : List ℕ). IsPadded (length bs) (f ++ drop (length bs) (replicate 32 0))) (sym same) (padded_name bs name)
