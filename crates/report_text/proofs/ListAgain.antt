-- A list of items is read back.
use Rattle.std.proofs.Common.{◌≡◌, ℕ, suc, ◌+◌, ◌<◌, ◌≤◌, Bool, true, false, ◌&&◌, leb, List, [], ◌∷◌, ◌++◌, map, length, get_or, Some, refl, sym, ap, subst, ◌∙◌, arith, codes, append_assoc, append-nil}
use Rattle.std.specs.Str.{bytes_eq}
use Rattle.std.specs.List.{All, AllPairs, list_all}
use Rattle.std.proofs.lemmas.Bool.{le-leb}
use Rattle.std.proofs.lemmas.Slice.Eq.{bytes_eq-Decides}
use Rattle.rt_base.specs.declared.ids.ItemId.{ItemId}
use Rattle.rt_base.specs.declared.name.Names.{Names}
use Rattle.rt_base.specs.Names.{is_letter, is_name, is_name_byte, AreNames}
use Rattle.line_fields.specs.Cuts.{Lacks}
use Rattle.journal_text.specs.Ids.{index_of}
use Rattle.line_fields.proofs.CutLaws.{lacks_append}
use Rattle.journal_text.proofs.IdLaws.{index_again, name_lacks}
use Rattle.rt_base.proofs.Padding.{both as both_true}
use Rattle.report_text.specs.Pieces.{pieces, all_pieces}
use Rattle.report_text.specs.Head.{rising, list_of}
use Rattle.report_text.proofs.PieceLaws.{pieces_cut, pieces_last}
use Rattle.report_text.proofs.ListLaws.{begins}
use Rattle.report_text.specs.Rows.{numbered}
use Rattle.report_text.specs.Texts.{item_name, more_name, list_text}

abbrev Known : Names → List ItemId → Type 0
Known names ids = All (λ i. i.0 < length names.items) ids

tail_known : (names : Names) (i : ItemId) (is : List ItemId) → Known names (i ∷ is) → Known names is
tail_known names i is known = λ k d lt. known (suc k) d (omega arith)

head_known : (names : Names) (i : ItemId) (is : List ItemId) → Known names (i ∷ is) → i.0 < length names.items
head_known names i is known = known 0 i (omega arith)

-- a byte that no name has
name_at_lacks : (names : Names) (byte : ℕ) (i : ItemId) → AreNames names.items → is_name_byte byte ≡ false
    → i.0 < length names.items → Lacks byte (item_name names i)
name_at_lacks names byte i good other lt = name_lacks byte other (item_name names i) (good.plain i.0 lt)

-- ---- the pieces between commas

pieces_of_list : (names : Names) (k : ℕ) (w : List ℕ) (is : List ItemId) → AreNames names.items → Known names is
    → Lacks 44 w → all_pieces 44 (w ++ numbered (more_name names) k is) ≡ w ∷ map (item_name names) is
pieces_of_list names k w [] good known lacks =
    ap (all_pieces 44) (append-nil w) ∙ ap (λ (p : List (List ℕ) × List ℕ). p.0 ++ p.1 ∷ []) (pieces_last 44 w lacks)
pieces_of_list names k w (i ∷ is) good known lacks =
    let more : List ℕ = numbered (more_name names) (k + 1) is in
    let cut : pieces 44 (w ++ 44 ∷ (item_name names i ++ more)) ≡ (w ∷ (pieces 44 (item_name names i ++ more)).0, (pieces 44 (item_name names i ++ more)).1) =
    pieces_cut 44 w (item_name names i ++ more) lacks in
    let below : all_pieces 44 (item_name names i ++ more) ≡ item_name names i ∷ map (item_name names) is =
    pieces_of_list names (k + 1) (item_name names i) is good (tail_known names i is known)
    (name_at_lacks names 44 i good refl (head_known names i is known)) in
    ap (λ (p : List (List ℕ) × List ℕ). p.0 ++ p.1 ∷ []) cut ∙ ap (λ (ps : List (List ℕ)). w ∷ ps) below

-- ---- rising items

abbrev Rises : ℕ → List ItemId → Type 0
Rises least [] = Unit {0}
Rises least (i ∷ is) = (least ≤ i.0) × Rises (i.0 + 1) is

rises_of : (least : ℕ) (is : List ItemId) → ((k : ℕ) (d : ItemId) → k < length is → least ≤ (get_or is k d).0)
    → AllPairs (λ a b. a.0 < b.0) is → Rises least is
rises_of least [] low pairs = tt
rises_of least (i ∷ is) low pairs = (
  low 0 i (omega arith),
  rises_of (i.0 + 1) is (λ k d lt. omega (arith, pairs 0 (suc k) d (omega arith) (omega arith)))
      (λ j k d less lt. pairs (suc j) (suc k) d (omega arith) (omega arith)),
)

rising_again : (names : Names) (least : ℕ) (ids is : List ItemId) → AreNames names.items → Known names is
    → Rises least is
    → rising names.items least ids (map (item_name names) is) ≡ Some (ids ++ is)
rising_again names least ids [] good known rises = ap (λ (l : List ItemId). Some l) (sym (append-nil ids))
rising_again names least ids (i ∷ is) good known rises =
    let at : index_of names.items (item_name names i) ≡ Some i.0 = index_again names.items i.0 good (head_known names i is known) in
    let test : leb least i.0 ≡ true = le-leb least i.0 rises.0 in
    let below : rising names.items (i.0 + 1) (ids ++ i ∷ []) (map (item_name names) is) ≡ Some ((ids ++ i ∷ []) ++ is) =
    rising_again names (i.0 + 1) (ids ++ i ∷ []) is good (tail_known names i is known) rises.1 in
    rw (at, test) (below ∙ ap (λ (l : List ItemId). Some l) (append_assoc ids (i ∷ []) is))

-- ---- whole lists

no_dash : (b : ℕ) (bs rest : List ℕ) → is_name (b ∷ bs) ≡ true → (test : Bool)
    → bytes_eq ((b ∷ bs) ++ rest) (codes "-") ≡ test
    → test ≡ false
no_dash b bs rest plain false e = refl
no_dash b bs rest plain true e =
    let same : b ∷ (bs ++ rest) ≡ codes "-" = (bytes_eq-Decides (b ∷ (bs ++ rest)) (codes "-")).0 e in
    let first : b ≡ 45 = ap (λ (l : List ℕ). get_or l 0 0) same in
    let t = both_true (is_letter b && leb (suc (length bs)) 32) (list_all is_name_byte bs) plain in
    let l = both_true (is_letter b) (leb (suc (length bs)) 32) t.0 in
    let no : is_letter 45 ≡ true = subst (λ (c : ℕ). is_letter c ≡ true) first l.0 in absurd cc

not_dash : (name rest : List ℕ) → is_name name ≡ true → bytes_eq (name ++ rest) (codes "-") ≡ false
not_dash [] rest plain = absurd cc
not_dash (b ∷ bs) rest plain = no_dash b bs rest plain (bytes_eq ((b ∷ bs) ++ rest) (codes "-")) refl

pub list_again : (names : Names) (ids : List ItemId) → AreNames names.items → Known names ids
    → AllPairs (λ a b. a.0 < b.0) ids → list_of names.items (list_text names ids) ≡ Some ids
unfolding list_of
list_again names [] good known pairs = refl
list_again names (i ∷ is) good known pairs =
    let more : List ℕ = numbered (more_name names) 1 is in
    let lt : i.0 < length names.items = head_known names i is known in
    sym (begins names.items (item_name names i ++ more) (not_dash (item_name names i) more (good.plain i.0 lt)))
    ∙ ap (rising names.items 0 []) (pieces_of_list names 1 (item_name names i) is good (tail_known names i is known)
    (name_at_lacks names 44 i good refl lt))
    ∙ rising_again names 0 [] (i ∷ is) good known (rises_of 0 (i ∷ is) (λ k d lt. omega arith) pairs)

-- ---- bytes that a list lacks

more_lacks : (names : Names) (byte k : ℕ) (is : List ItemId) → AreNames names.items → Known names is
    → is_name_byte byte ≡ false → Lacks byte (codes ",") → Lacks byte (numbered (more_name names) k is)
more_lacks names byte k [] good known other comma = λ i lt. absurd (omega arith)
more_lacks names byte k (i ∷ is) good known other comma =
    lacks_append byte (codes "," ++ item_name names i) (numbered (more_name names) (k + 1) is)
    (lacks_append byte (codes ",") (item_name names i) comma
    (name_at_lacks names byte i good other (head_known names i is known)))
    (more_lacks names byte (k + 1) is good (tail_known names i is known) other comma)

pub list_lacks : (names : Names) (byte : ℕ) (ids : List ItemId) → AreNames names.items → Known names ids
    → is_name_byte byte ≡ false → Lacks byte (codes ",") → Lacks byte (codes "-") → Lacks byte (list_text names ids)
list_lacks names byte [] good known other comma dash = dash
list_lacks names byte (i ∷ is) good known other comma dash =
    lacks_append byte (item_name names i) (numbered (more_name names) 1 is)
    (name_at_lacks names byte i good other (head_known names i is known))
    (more_lacks names byte 1 is good (tail_known names i is known) other comma)
