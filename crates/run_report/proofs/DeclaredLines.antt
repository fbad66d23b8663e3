-- The declarations are whole lines.
use Rattle.std.proofs.Common.{◌≡◌, ℕ, ◌+◌, ◌<◌, ◌^◌, Bool, true, false, List, [], ◌∷◌, ◌++◌, length, get_or, refl, ap, subst, ◌∙◌, arith, append_assoc, append-nil, codes}
use Rattle.rt_base.specs.declared.name.Names.{Names}
use Rattle.rt_base.specs.declared.ids.TogetherDecl.{TogetherDecl}
use Rattle.txn_set.specs.Set.{Set, AreItemsOf, no_txn}
use Rattle.line_fields.specs.Cuts.{field, Lacks}
use Rattle.line_fields.proofs.CutLaws.{lacks_test, lacks_append}
use Rattle.report_text.specs.Rows.{numbered}
use Rattle.report_text.specs.Texts.{list_text, item_line, txn_line, together_line, first_line, mode_line, is_second, declarations}
use Rattle.report_text.specs.Laws.{HasLines}
use Rattle.report_text.proofs.RowLaws.{no_item}
use Rattle.report_text.proofs.LineAgain.{set_rest, mode_word}
use Rattle.report_text.proofs.HeadAgain.{item_body, item_ends, item_lacks, txn_body, txn_ends, txn_lacks, set_body, set_ends, no_set, field_lacks, number_lacks, named_list_lacks, mode_ends, mode_lacks, version}
use Rattle.report_text.specs.Document.{lines_of, is_second as is_second_text}
use Rattle.report_text.proofs.Counted.{Text}
use Rattle.run_report.proofs.Lines.{IsLine, cut_line, AreLines, no_lines, line_more, lines_then, numbered_lines, each_at}

first_is : (second : Bool) → IsLine (first_line second) (version second)
first_is true = record { ends = λ rest. refl; lacks = lacks_test 10 (codes "rtdb report 2") refl }
first_is false = record { ends = λ rest. refl; lacks = lacks_test 10 (codes "rtdb report 1") refl }

mode_is : (admitted : Bool) → IsLine (mode_line admitted) (codes "mode" ++ field (mode_word admitted))
mode_is admitted = record { ends = mode_ends admitted; lacks = mode_lacks admitted }

one_line : (text body : List ℕ) → IsLine text body → AreLines 1 text
one_line text body line = subst (AreLines 1) (append-nil text) (line_more text body 0 [] line no_lines)

set_lacks : (names : Names) (set : Set) (k : ℕ) (group : TogetherDecl) → HasLines names set → group.within < 2 ^ 64
    → AreItemsOf set group.items → Lacks 10 (set_body names k group)
set_lacks names set k group h fits are =
    lacks_append 10 (codes "together") (set_rest group.within (list_text names group.items)) (lacks_test 10 (codes "together") refl)
    (number_lacks group.within (field (list_text names group.items)) fits
    (field_lacks (list_text names group.items) (named_list_lacks names set group.items h are)))

module _ (names : Names) (set : Set) (h : HasLines names set) where
  items_are : AreLines (length set.items) (numbered (item_line names) 0 set.items)
  items_are =
      numbered_lines (item_line names) (item_body names) 0 set.items
      (each_at (λ k x. IsLine (item_line names k x) (item_body names k x)) set.items no_item
      (λ k lt. record {
        ends = item_ends names k (get_or set.items k no_item);
        lacks = item_lacks names k (get_or set.items k no_item) (h.item_names.plain k (omega (arith, lt, h.one_each.items))) (h.items k no_item lt);
      }))

  txns_are : (second : Bool) → AreLines (length set.txns) (numbered (txn_line second names) 0 set.txns)
  txns_are second =
      numbered_lines (txn_line second names) (txn_body second names) 0 set.txns
      (each_at (λ k x. IsLine (txn_line second names k x) (txn_body second names k x)) set.txns no_txn
      (λ k lt. record {
        ends = txn_ends second names k (get_or set.txns k no_txn);
        lacks = txn_lacks second names set k (get_or set.txns k no_txn) h (h.txn_names.plain k (omega (arith, lt, h.one_each.txns))) (h.txns k no_txn lt) (h.reads k no_txn lt) (h.writes k no_txn lt);
      }))

  sets_are : AreLines (length set.together) (numbered (together_line names) 0 set.together)
  sets_are =
      numbered_lines (together_line names) (set_body names) 0 set.together
      (each_at (λ k x. IsLine (together_line names k x) (set_body names k x)) set.together no_set
      (λ k lt. record {
        ends = set_ends names k (get_or set.together k no_set);
        lacks = set_lacks names set k (get_or set.together k no_set) h (h.within k no_set lt) (h.together k no_set lt);
      }))

  pub declared_lines : (admitted : Bool)
      → AreLines (2 + (length set.items + (length set.txns + length set.together))) (declarations names set admitted)
  declared_lines admitted =
      let second : Bool = is_second set in
      let n : ℕ = length set.items in
      let m : ℕ = length set.txns in
      let g : ℕ = length set.together in
      let count : 1 + (n + (m + (g + 1))) ≡ 2 + (n + (m + g)) = omega arith in
      subst (λ (k : ℕ). AreLines k (declarations names set admitted)) count
      (lines_then 1 (n + (m + (g + 1))) (first_line second) (numbered (item_line names) 0 set.items ++ (numbered (txn_line second names) 0 set.txns ++ (numbered (together_line names) 0 set.together ++ mode_line admitted))) (one_line (first_line second) (version second) (first_is second))
      (lines_then n (m + (g + 1)) (numbered (item_line names) 0 set.items) (numbered (txn_line second names) 0 set.txns ++ (numbered (together_line names) 0 set.together ++ mode_line admitted)) items_are
      (lines_then m (g + 1) (numbered (txn_line second names) 0 set.txns) (numbered (together_line names) 0 set.together ++ mode_line admitted) (txns_are second)
      (lines_then g 1 (numbered (together_line names) 0 set.together) (mode_line admitted) sets_are
      (one_line (mode_line admitted) (codes "mode" ++ field (mode_word admitted)) (mode_is admitted))))))

-- ---- the version

second_first : (second : Bool) (lines : List (List ℕ)) → is_second_text (version second ∷ lines) ≡ second
second_first true lines = refl
second_first false lines = refl

-- the first line tells whether it is the second version
pub second_told : (names : Names) (set : Set) (admitted : Bool) (rest : List ℕ)
    → is_second_text (lines_of (declarations names set admitted ++ rest)).0 ≡ is_second set
second_told names set admitted rest =
    let second : Bool = is_second set in
    let more : List ℕ = numbered (item_line names) 0 set.items ++ (numbered (txn_line second names) 0 set.txns ++ (numbered (together_line names) 0 set.together ++ mode_line admitted)) in
    ap (λ (t : List ℕ). is_second_text (lines_of t).0) (append_assoc (first_line second) more rest)
    ∙ ap (λ (t : Text). is_second_text t.0) (cut_line (first_line second) (version second) (more ++ rest) (first_is second))
    ∙ second_first second (lines_of (more ++ rest)).0
