-- A cut gives the first piece.
use Rattle.std.proofs.Common.{◌≡◌, ℕ, suc, ◌+◌, ◌<◌, true, false, nat_eq, List, [], ◌∷◌, ◌++◌, length, take, drop, get_or, Option, Some, None, option_map, refl, ap, ◌∙◌, arith, length-append}
use Rattle.std.specs.Prelude.{position}
use Rattle.std.specs.List.{position_or_len}
use Rattle.std.proofs.lemmas.List.Sums.{fails_before_first}
use Rattle.std.proofs.lemmas.Bool.{ne_eqb, eq-eqb}
use Rattle.line_fields.specs.Cuts.{cut_at, Lacks}
use Rattle.line_fields.proofs.CutLaws.{cut_takes, cut_lacks, none_found}
use Rattle.report_text.specs.Pieces.{pieces}

abbrev Parts : Type 0
Parts = List (List ℕ) × List ℕ

pub pieces_cut : (byte : ℕ) (f rest : List ℕ) → Lacks byte f
    → pieces byte (f ++ byte ∷ rest) ≡ (f ∷ (pieces byte rest).0, (pieces byte rest).1)
pieces_cut byte [] rest lacks = let same : nat_eq byte byte ≡ true = eq-eqb byte byte refl in rw same refl
pieces_cut byte (b ∷ f) rest lacks =
    let differs : nat_eq b byte ≡ false = ne_eqb b byte (lacks 0 (omega arith)) in
    let below : pieces byte (f ++ byte ∷ rest) ≡ (f ∷ (pieces byte rest).0, (pieces byte rest).1) = pieces_cut byte f rest (λ i h. lacks (suc i) (omega arith)) in
    rw (differs, below) refl

pub pieces_last : (byte : ℕ) (bs : List ℕ) → Lacks byte bs → pieces byte bs ≡ ([], bs)
pieces_last byte [] lacks = refl
pieces_last byte (b ∷ bs) lacks =
    let differs : nat_eq b byte ≡ false = ne_eqb b byte (lacks 0 (omega arith)) in
    let below : pieces byte bs ≡ ([], bs) = pieces_last byte bs (λ i h. lacks (suc i) (omega arith)) in
    rw (differs, below) refl

pub first_piece : (byte : ℕ) (bs f rest : List ℕ) → cut_at byte bs ≡ Some (f, rest)
    → pieces byte bs ≡ (f ∷ (pieces byte rest).0, (pieces byte rest).1)
first_piece byte bs f rest e =
    ap (pieces byte) (cut_takes byte bs f rest e) ∙ pieces_cut byte f rest (cut_lacks byte bs f rest e)

unmapped : {A B : Type 0} (f : A → B) (o : Option A) → option_map f o ≡ None → o ≡ None
unmapped f None e = refl
unmapped f (Some x) e = absurd cc

pub last_piece : (byte : ℕ) (bs : List ℕ) → cut_at byte bs ≡ None → pieces byte bs ≡ ([], bs)
last_piece byte bs e =
    let none : position (λ b. nat_eq b byte) bs ≡ None = unmapped (λ (p : ℕ). (take p bs, drop (p + 1) bs)) (position (λ b. nat_eq b byte) bs) e in
    let all : length bs ≡ position_or_len (λ b. nat_eq b byte) bs = none_found (λ b. nat_eq b byte) bs none in
    pieces_last byte bs (λ i lt same. let no_byte : nat_eq (get_or bs i 0) byte ≡ false = fails_before_first (λ b. nat_eq b byte) bs i 0 (omega arith) in absurd (cc (no_byte, eq-eqb (get_or bs i 0) byte same)))

pub shorter : (byte : ℕ) (bs f rest : List ℕ) → cut_at byte bs ≡ Some (f, rest) → length rest < length bs
shorter byte bs f rest e =
    let same = cut_takes byte bs f rest e in let all : length bs ≡ length (f ++ byte ∷ rest) = ap length same in omega (arith, all, length-append f (byte ∷ rest))
