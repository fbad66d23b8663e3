-- The lists of tables lie within the set, where each of the numbers does.
use Rattle.std.proofs.Common.{◌≡◌, ℕ, ◌<◌, List, map, take, drop, length, sym, subst}
use Rattle.std.proofs.lemmas.List.{length-map}
use Rattle.std.proofs.lemmas.List.Elements.{All-take, All-drop, All-map}
use Rattle.std.specs.List.{All}
use Rattle.rt_base.specs.declared.ids.ItemId.{ItemId}
use Rattle.item_model.specs.declared.decl.ItemDecl.{ItemDecl}
use Rattle.txn_compiler.specs.Kept.{IsInRange, set_of}
use Rattle.rt_base.specs.declared.ids.TogetherDecl.{TogetherDecl}
use Rattle.txn_set.specs.declared.decl.TxnDecl.{TxnDecl}
use Rattle.c_forms.specs.declared.tables.ItemRow.{ItemRow}
use Rattle.c_forms.specs.declared.tables.TxnRow.{TxnRow}
use Rattle.c_forms.specs.declared.tables.TogetherRow.{TogetherRow}
use Rattle.c_forms.specs.Rows.{ids_at, item_of_row, txn_of_row, together_of_row}

pub ids-below : (n : ℕ) (ids : List ℕ) (at count : ℕ) → All (λ i. i < n) ids → All (λ (i : ItemId). i.0 < n) (ids_at ids at count)
ids-below n ids at count h =
    let named : ℕ → ItemId = λ i. record { 0 = i } in let P : ℕ → Type 0 = λ i. i < n in let Q : ItemId → Type 0 = λ i. i.0 < n in
    All-map Q named (take count (drop at ids)) (All-take P count (drop at ids) (All-drop P at ids h))

pub in_range : (items : List ItemRow) (txns : List TxnRow) (together : List TogetherRow) (ids : List ℕ) → All (λ i. i < length (map item_of_row items)) ids
    → IsInRange (set_of (map item_of_row items) (map (txn_of_row ids) txns) (map (together_of_row ids) together))
in_range items txns together ids h = let n = length (map item_of_row items) in record {
  reads = All-map (λ (t : TxnDecl). All (λ i. i.0 < n) t.reads) (txn_of_row ids) txns (λ k d lt. ids-below n ids _ _ h);
  writes = All-map (λ (t : TxnDecl). All (λ i. i.0 < n) t.writes) (txn_of_row ids) txns (λ k d lt. ids-below n ids _ _ h);
  together = All-map (λ (g : TogetherDecl). All (λ i. i.0 < n) g.items) (together_of_row ids) together (λ k d lt. ids-below n ids _ _ h);
}

pub compiles : (items : List ItemDecl) (txns : List TxnDecl) (together : List TogetherDecl) (rows : List ItemRow) (txn_rows : List TxnRow) (together_rows : List TogetherRow) (ids : List ℕ)
    → items ≡ map item_of_row rows → txns ≡ map (txn_of_row ids) txn_rows → together ≡ map (together_of_row ids) together_rows → All (λ i. i < length rows) ids → IsInRange (set_of items txns together)
compiles items txns together rows txn_rows together_rows ids e f g h =
    let named : All (λ i. i < length (map item_of_row rows)) ids = subst (λ (n : ℕ). All (λ i. i < n) ids) (sym (length-map rows item_of_row)) h in
    subst (λ (xs : List ItemDecl). IsInRange (set_of xs txns together)) (sym e) (subst (λ (ys : List TxnDecl). IsInRange (set_of (map item_of_row rows) ys together)) (sym f)
    (subst (λ (zs : List TogetherDecl). IsInRange (set_of (map item_of_row rows) (map (txn_of_row ids) txn_rows) zs)) (sym g) (in_range rows txn_rows together_rows ids named)))
