-- Words that are parts, as the walk of clap sees them.
use Rattle.std.proofs.Common.{◌≡◌, ◌∙◌, ℕ, ◌<◌, ◌==◌, Bool, true, false, List, [], ◌∷◌, ◌++◌, map, length, take, drop, Option, Some, None, refl, sym, ap, ap₂, subst, codes, true≢false, arith, if◌then◌else◌, decimal}
use Rattle.std.specs.Prelude.{◌&&◌, is_some, option_and_then, option_map}
use Rattle.std.specs.List.{list_all}
use Rattle.std.specs.Str.{bytes_eq}
use Rattle.std.proofs.lemmas.Slice.Eq.{bytes_eq-Decides}
use Rattle.std.proofs.lemmas.Bool.{ne_eqb}
use Rattle.std.proofs.lemmas.List.{take-append-drop}
use Rattle.std.proofs.lemmas.Fmt.{decimal_nonempty}
use Rattle.line_fields.specs.Cuts.{Lacks}
use Rattle.line_fields.specs.Numbers.{unsigned_of}
use Rattle.line_fields.proofs.CutLaws.{none_some}
use Rattle.line_fields.proofs.NumberLaws.{decimal_lacks, unsigned_takes, no_minus}
use Rattle.rt_base.proofs.Padding.{both as both_true}
use Rattle.command_words.specs.Commands.{Text, Part, trial, workers, workers_are, number, number_of, number_part, option_part, part_of, parts_of, up_to_most, workers_part}
use Rattle.command_words.specs.Asking.{is_part}
use Rattle.command_words.proofs.Walks.{IsPlainWord, text_of}
use Rattle.command_words.proofs.Leaves.{AreRight, IsRight, Piece, flag, joined, numeral, option_word, part, token}

-- a word that does not begin with a minus
pub plain_word : (b : ℕ) (bs : Text) → (b == 45) ≡ false → IsPlainWord (b ∷ bs)
plain_word b bs e = (rw e refl, rw e refl, rw e refl)

lacking : (word : Text) → 0 < length word → Lacks 45 word → IsPlainWord word
lacking [] some lacks = absurd (omega arith)
lacking (b ∷ bs) some lacks = plain_word b bs (ne_eqb b 45 (lacks 0 (omega arith)))

-- a number is no flag
pub plain_number : (word : Text) (k : ℕ) → number_of word ≡ Some k → IsPlainWord word
plain_number word k e = go (unsigned_of word) refl e
  where
    go : (o : Option ℕ) → unsigned_of word ≡ o → option_and_then up_to_most o ≡ Some k → IsPlainWord word
    go None at is = absurd (none_some k is)
    go (Some n) at is =
        let t = unsigned_takes word n at in
        subst IsPlainWord t.1 (lacking (decimal n) (decimal_nonempty n t.0) (decimal_lacks 45 n no_minus t.0))

record From (x : Option Part) (word : Text) : Type 0 where
  piece : Piece
  is : word ≡ text_of (token piece)
  part_is : x ≡ Some (part piece)
  right : IsRight piece

moved : (x y : Option Part) (word : Text) → x ≡ y → From y word → From x word
moved x y word e f = record { piece = f.piece; is = f.is; part_is = e ∙ f.part_is; right = f.right }

same : (a b : Text) → bytes_eq a b ≡ true → a ≡ b
same a b e = (bytes_eq-Decides a b).0 e

abbrev counted : Option ℕ → Option Part
counted o = option_map (λ n. workers_are n) o

abbrev numbered : Option ℕ → Option Part
numbered o = option_map (λ n. number n) o

number_at : (word : Text) (o : Option ℕ) → number_of word ≡ o → is_some (numbered o) ≡ true → From (numbered o) word
number_at word None at known = absurd (true≢false (sym known))
number_at word (Some k) at known = record { piece = numeral word k; is = refl; part_is = refl; right = (at, plain_number word k at) }

joined_at : (word : Text) → bytes_eq (take 10 word) (codes "--workers=") ≡ true → (o : Option ℕ) → number_of (drop 10 word) ≡ o → is_some (counted o) ≡ true → From (counted o) word
joined_at word begins None at known = absurd (true≢false (sym known))
joined_at word begins (Some k) at known = record {
  piece = joined (drop 10 word) k;
  is = sym (take-append-drop 10 word) ∙ ap (λ t. t ++ drop 10 word) (same (take 10 word) (codes "--workers=") begins);
  part_is = refl;
  right = at;
}

workers_at : (word : Text) (b : Bool) → bytes_eq (take 10 word) (codes "--workers=") ≡ b → is_some (workers_part word) ≡ true → From (workers_part word) word
workers_at word true at known =
    let is : workers_part word ≡ counted (number_of (drop 10 word)) = ap (λ (b : Bool). if b then counted (number_of (drop 10 word)) else number_part word) at in
    moved _ _ word is (joined_at word at (number_of (drop 10 word)) refl (subst (λ x. is_some x ≡ true) is known))
workers_at word false at known =
    let is : workers_part word ≡ number_part word = ap (λ (b : Bool). if b then counted (number_of (drop 10 word)) else number_part word) at in
    moved _ _ word is (number_at word (number_of word) refl (subst (λ x. is_some x ≡ true) is known))

option_at : (word : Text) (b : Bool) → bytes_eq word (codes "--workers") ≡ b → is_some (option_part word) ≡ true → From (option_part word) word
option_at word true at known = record { piece = option_word; is = same word (codes "--workers") at; part_is = ap (λ (b : Bool). if b then Some workers else workers_part word) at; right = tt }
option_at word false at known =
    let is : option_part word ≡ workers_part word = ap (λ (b : Bool). if b then Some workers else workers_part word) at in
    moved _ _ word is (workers_at word (bytes_eq (take 10 word) (codes "--workers=")) refl (subst (λ x. is_some x ≡ true) is known))

trial_at : (word : Text) (b : Bool) → bytes_eq word (codes "--trial") ≡ b → is_some (part_of word) ≡ true → From (part_of word) word
trial_at word true at known = record { piece = flag; is = same word (codes "--trial") at; part_is = ap (λ (b : Bool). if b then Some trial else option_part word) at; right = tt }
trial_at word false at known =
    let is : part_of word ≡ option_part word = ap (λ (b : Bool). if b then Some trial else option_part word) at in
    moved _ _ word is (option_at word (bytes_eq word (codes "--workers")) refl (subst (λ x. is_some x ≡ true) is known))

-- words all of which are parts
pub record Pieces (words : List Text) : Type 0 where
  pub pieces : List Piece
  pub are : words ≡ map text_of (map token pieces)
  pub parts : parts_of words ≡ Some (map part pieces)
  pub right : AreRight pieces

abbrev both_parts : Option Part → Option (List Part) → Option (List Part)
both_parts x xs = option_and_then (λ p. option_map (λ ps. p ∷ ps) xs) x

pub pieces_of : (words : List Text) → list_all is_part words ≡ true → Pieces words
pieces_of [] all = record { pieces = []; are = refl; parts = refl; right = tt }
pieces_of (word ∷ words) all =
    let both = both_true (is_part word) (list_all is_part words) all in
    let f = trial_at word (bytes_eq word (codes "--trial")) refl both.0 in
    let rest = pieces_of words both.1 in
    record {
      pieces = f.piece ∷ rest.pieces;
      are = ap₂ (λ w ws. w ∷ ws) f.is rest.are;
      parts = ap₂ both_parts f.part_is rest.parts;
      right = (f.right, rest.right);
    }

no_part : (x : Option Part) (xs : Option (List Part)) → is_some x ≡ false → both_parts x xs ≡ None
no_part None xs e = refl
no_part (Some p) xs e = absurd (true≢false e)

none_after : (x : Option Part) → both_parts x None ≡ None
none_after None = refl
none_after (Some p) = refl

-- where one is none there are no parts
pub no_parts : (words : List Text) → list_all is_part words ≡ false → parts_of words ≡ None
no_parts [] all = absurd (true≢false all)
no_parts (word ∷ words) all = go (is_part word) refl all (no_parts words)
  where
    go : (b : Bool) → is_part word ≡ b → (b && list_all is_part words) ≡ false → (list_all is_part words ≡ false → parts_of words ≡ None) → parts_of (word ∷ words) ≡ None
    go true at rest none = ap (both_parts (part_of word)) (none rest) ∙ none_after (part_of word)
    go false at rest none = no_part (part_of word) (parts_of words) at
