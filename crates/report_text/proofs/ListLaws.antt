-- One more item of a list.
use Rattle.std.proofs.Common.{◌≡◌, ℕ, ◌+◌, ◌<◌, ◌≤◌, true, false, leb, List, [], ◌∷◌, ◌++◌, Option, Some, None, refl, sym, ap, ◌∙◌, codes}
use Rattle.std.specs.Str.{bytes_eq}
use Rattle.std.proofs.lemmas.Bool.{le-leb, lt-leb}
use Rattle.rt_base.specs.declared.ids.ItemId.{ItemId}
use Rattle.line_fields.specs.Cuts.{cut_at}
use Rattle.journal_text.specs.Ids.{index_of}
use Rattle.report_text.specs.Pieces.{all_pieces}
use Rattle.report_text.specs.Head.{rising, list_of}
use Rattle.report_text.proofs.PieceLaws.{first_piece, last_piece}

abbrev Ids : Type 0
Ids = Option (List ItemId)

pub begins : (items : List (List ℕ)) (w : List ℕ) → bytes_eq w (codes "-") ≡ false
    → rising items 0 [] (all_pieces 44 w) ≡ list_of items w
unfolding list_of
begins items w e = rw e refl

step_cut : (items : List (List ℕ)) (least : ℕ) (ids : List ItemId) (bs f rest : List ℕ) → cut_at 44 bs ≡ Some (f, rest)
    → rising items least ids (all_pieces 44 bs) ≡ rising items least ids (f ∷ all_pieces 44 rest)
step_cut items least ids bs f rest e =
    ap (λ (p : List (List ℕ) × List ℕ). rising items least ids (p.0 ++ p.1 ∷ [])) (first_piece 44 bs f rest e)

step_last : (items : List (List ℕ)) (least : ℕ) (ids : List ItemId) (bs : List ℕ) → cut_at 44 bs ≡ None
    → rising items least ids (all_pieces 44 bs) ≡ rising items least ids (bs ∷ [])
step_last items least ids bs e =
    ap (λ (p : List (List ℕ) × List ℕ). rising items least ids (p.0 ++ p.1 ∷ [])) (last_piece 44 bs e)

taken : (items : List (List ℕ)) (least i : ℕ) (ids : List ItemId) (w : List ℕ) (ws : List (List ℕ))
    → Some i ≡ index_of items w → least ≤ i
    → rising items least ids (w ∷ ws) ≡ rising items (i + 1) (ids ++ record { 0 = i } ∷ []) ws
taken items least i ids w ws at le = let test : leb least i ≡ true = le-leb least i le in rw (sym at, test) refl

unknown : (items : List (List ℕ)) (least : ℕ) (ids : List ItemId) (w : List ℕ) (ws : List (List ℕ))
    → None ≡ index_of items w → rising items least ids (w ∷ ws) ≡ None
unknown items least ids w ws at = rw (sym at) refl

falling : (items : List (List ℕ)) (least i : ℕ) (ids : List ItemId) (w : List ℕ) (ws : List (List ℕ))
    → Some i ≡ index_of items w → i < least → rising items least ids (w ∷ ws) ≡ None
falling items least i ids w ws at lt = let test : leb least i ≡ false = lt-leb least i lt in rw (sym at, test) refl

-- ---- in the loop

pub goes_on : (items : List (List ℕ)) (least i : ℕ) (ids : List ItemId) (bs f rest : List ℕ) (total : Ids)
    → Some (f, rest) ≡ cut_at 44 bs → Some i ≡ index_of items f → least ≤ i
    → rising items least ids (all_pieces 44 bs) ≡ total
    → rising items (i + 1) (ids ++ record { 0 = i } ∷ []) (all_pieces 44 rest) ≡ total
goes_on items least i ids bs f rest total cut at le so_far =
    sym (taken items least i ids f (all_pieces 44 rest) at le) ∙ sym (step_cut items least ids bs f rest (sym cut))
    ∙ so_far

pub unknown_inside : (items : List (List ℕ)) (least : ℕ) (ids : List ItemId) (bs f rest : List ℕ) (total : Ids)
    → Some (f, rest) ≡ cut_at 44 bs → None ≡ index_of items f → rising items least ids (all_pieces 44 bs) ≡ total
    → None ≡ total
unknown_inside items least ids bs f rest total cut at so_far =
    sym (unknown items least ids f (all_pieces 44 rest) at) ∙ sym (step_cut items least ids bs f rest (sym cut))
    ∙ so_far

pub falls_inside : (items : List (List ℕ)) (least i : ℕ) (ids : List ItemId) (bs f rest : List ℕ) (total : Ids)
    → Some (f, rest) ≡ cut_at 44 bs → Some i ≡ index_of items f → i < least
    → rising items least ids (all_pieces 44 bs) ≡ total → None ≡ total
falls_inside items least i ids bs f rest total cut at lt so_far =
    sym (falling items least i ids f (all_pieces 44 rest) at lt) ∙ sym (step_cut items least ids bs f rest (sym cut))
    ∙ so_far

pub unknown_last : (items : List (List ℕ)) (least : ℕ) (ids : List ItemId) (bs : List ℕ) (total : Ids)
    → None ≡ cut_at 44 bs → None ≡ index_of items bs → rising items least ids (all_pieces 44 bs) ≡ total → None ≡ total
unknown_last items least ids bs total cut at so_far =
    sym (unknown items least ids bs [] at) ∙ sym (step_last items least ids bs (sym cut)) ∙ so_far

pub falls_last : (items : List (List ℕ)) (least i : ℕ) (ids : List ItemId) (bs : List ℕ) (total : Ids)
    → None ≡ cut_at 44 bs → Some i ≡ index_of items bs → i < least → rising items least ids (all_pieces 44 bs) ≡ total
    → None ≡ total
falls_last items least i ids bs total cut at lt so_far =
    sym (falling items least i ids bs [] at lt) ∙ sym (step_last items least ids bs (sym cut)) ∙ so_far

pub ends : (items : List (List ℕ)) (least i : ℕ) (ids : List ItemId) (bs : List ℕ) (total : Ids) → None ≡ cut_at 44 bs
    → Some i ≡ index_of items bs → least ≤ i → rising items least ids (all_pieces 44 bs) ≡ total
    → Some (ids ++ record { 0 = i } ∷ []) ≡ total
ends items least i ids bs total cut at le so_far =
    sym (taken items least i ids bs [] at le) ∙ sym (step_last items least ids bs (sym cut)) ∙ so_far
