-- What is found in each, one by one.
use Rattle.std.proofs.Common.{◌≡◌, ℕ, ◌+◌, ◌<◌, ◌≤◌, List, ◌++◌, length, get_or, drop, Option, None, Some, refl, sym, ap, ◌∙◌, add-one, drop-cons, append_assoc, append-nil}
use Rattle.std.proofs.Math.ListN.{drop_of_length-le}
use Rattle.std.specs.List.{cons_option, filter_map}
use Rattle.std.specs.Option.{option_to_list}

begins : {U : Type 0} (o : Option U) (rest : List U) → option_to_list o ++ rest ≡ cons_option o rest
begins None rest = refl
begins (Some one) rest = refl

module _ {T U : Type 0} (found : T → Option U) (before out : List U) (list : List T) (i : ℕ) where
  -- one more
  pub next_found : (new : List U) (one : T) (what : Option U) → i < length list → one ≡ get_or list i one → what ≡ found one
      → new ≡ out ++ option_to_list what → out ++ filter_map found (drop i list) ≡ before → new ++ filter_map found (drop (i + 1) list) ≡ before
  next_found new one what lt at is more so_far =
      let rest : List U = filter_map found (drop (i + 1) list) in
      let here : filter_map found (drop i list) ≡ cons_option what rest = rw (drop-cons list i one, add-one i, ← at, is) refl in
      ap (λ (n : List U). n ++ rest) more
      ∙ (append_assoc out (option_to_list what) rest ∙ (ap (λ (l : List U). out ++ l) (begins what rest ∙ sym here) ∙ so_far))

  -- no more
  pub all_found : length list ≤ i → out ++ filter_map found (drop i list) ≡ before → out ≡ before
  all_found le so_far = sym (append-nil out) ∙ (ap (λ (l : List T). out ++ filter_map found l) (sym (drop_of_length-le list le)) ∙ so_far)
