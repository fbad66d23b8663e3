use Rattle.std.proofs.Common.{◌≡◌, ◌<◌, ℕ, true, ◌&&◌, ltb, List, length, get_or, sym, ◌∙◌}
use Rattle.std.specs.List.{All, list_all}
use Rattle.std.proofs.lemmas.Bool.{and_parts, ltb-true}
use Rattle.std.proofs.lemmas.List.Sums.{AllPass-from_list_all}
use Rattle.rt_base.specs.declared.ids.ItemId.{ItemId}
use Rattle.rt_base.specs.declared.ids.TogetherDecl.{TogetherDecl}
use Rattle.item_model.specs.declared.decl.ItemDecl.{ItemDecl}
use Rattle.txn_set.specs.declared.decl.TxnDecl.{TxnDecl}
use Rattle.txn_compiler.specs.Kept.{IsInRange}
use Rattle.test_sets.proofs.range.are_in_range.Goals as goal

below : (count : ℕ) (items : List ItemId) → list_all (λ i. ltb i.0 count) items ≡ true → All (λ i. i.0 < count) items
below count items h = λ k d inside. ltb-true (get_or items k d).0 count (AllPass-from_list_all (λ i. ltb i.0 count) items h k d inside)

in-range : (items : List ItemDecl) (txns : List TxnDecl) (together : List TogetherDecl) → list_all (λ t. list_all (λ i. ltb i.0 (length items)) t.reads && list_all (λ i. ltb i.0 (length items)) t.writes) txns ≡ true → list_all (λ g. list_all (λ i. ltb i.0 (length items)) g.items) together ≡ true → IsInRange (record { items = items; txns = txns; together = together })
in-range items txns together one two =
    let each = AllPass-from_list_all (λ t. list_all (λ i. ltb i.0 (length items)) t.reads && list_all (λ i. ltb i.0 (length items)) t.writes) txns one in
    let both = λ (k : ℕ) (d : TxnDecl) (inside : k < length txns). and_parts (list_all (λ i. ltb i.0 (length items)) (get_or txns k d).reads) (list_all (λ i. ltb i.0 (length items)) (get_or txns k d).writes) (each k d inside) in
    record {
      reads = λ k d inside. below (length items) (get_or txns k d).reads (both k d inside).0;
      writes = λ k d inside. below (length items) (get_or txns k d).writes (both k d inside).1;
      together = λ k d inside. below (length items) (get_or together k d).items (AllPass-from_list_all (λ g. list_all (λ i. ltb i.0 (length items)) g.items) together two k d inside);
    }

pub returns-then-txns_below : goal.returns-then-txns_below
returns-then-txns_below c = λ h.
    in-range c.args.items.now c.args.txns.now c.args.together.now
    (sym c.txns_below.ensures ∙ c.if-txns_below.true) (sym c.groups_below.ensures ∙ h)
