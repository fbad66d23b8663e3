-- The refusal of declarations by the groups of rules that are judged together, over the lists that are kept.
use Rattle.std.proofs.Common.{◌≡◌, ℕ, List, [], ◌∷◌, map, length, get_or, Option, None, Some, refl, sym, ap, subst, ◌∙◌}
use Rattle.std.proofs.lemmas.List.{length-map}
use Rattle.std.proofs.lemmas.List.Elements.{All-map}
use Rattle.std.proofs.lemmas.Option.{slice_get_within, get_or_from_slice_get}
use Rattle.rt_base.specs.declared.ids.ItemId.{ItemId}
use Rattle.rt_base.specs.declared.ids.TogetherDecl.{TogetherDecl}
use Rattle.item_model.specs.declared.decl.ItemDecl.{ItemDecl}
use Rattle.item_model.specs.Work.{first_of_both}
use Rattle.txn_set.specs.declared.decl.TxnDecl.{TxnDecl}
use Rattle.txn_set.specs.declared.decl.Ceilings.{Ceilings}
use Rattle.txn_set.specs.Set.{Set, IsCompiled, AreItemsOf}
use Rattle.txn_set.specs.Ceilings.{IsCeilingsOf, write_ceiling, absolute_ceiling}
use Rattle.txn_compiler.specs.declared.error.CompileError.{CompileError}
use Rattle.txn_compiler.specs.Refusal.{first_some, too_many_items, too_many_txns, same_prio, bad_times, no_writer, two_writers, cyclic_derivation, too_many_sets, bad_together, compile_refusal, Refuses}
use Rattle.txn_compiler.specs.Kept.{kept, kept_txn, kept_group, AreLists}
use Rattle.txn_compiler.specs.Tables.{IsList, AreTxnsOver, AreCeilings, txns_refusal}
use Rattle.txn_compiler.proofs.Keeping.{kept-list}
use Rattle.txn_compiler.proofs.Verdict.{two-groups, three-groups, refuses-some, refuses-first, compiled-from, passed-from}

abbrev pub sizes : List ItemDecl → List TxnDecl → Option CompileError
sizes items txns = first_some (too_many_items items ∷ too_many_txns txns ∷ [])

abbrev pub numbers : List TxnDecl → Option CompileError
numbers txns = first_some (same_prio txns ∷ bad_times txns ∷ [])

abbrev pub graph : List ItemDecl → List TxnDecl → Option CompileError
graph items txns = first_some (no_writer items txns ∷ two_writers items txns ∷ cyclic_derivation items txns ∷ [])

by-groups : (items : List ItemDecl) (txns : List TxnDecl) → txns_refusal items txns ≡ first_of_both (sizes items txns) (first_of_both (numbers txns) (graph items txns))
by-groups items txns =
    three-groups (too_many_items items) (too_many_txns txns) (same_prio txns) (bad_times txns) (no_writer items txns) (two_writers items txns) (cyclic_derivation items txns)

grouped : (set : Set) → compile_refusal set ≡ first_of_both (txns_refusal set.items set.txns) (first_of_both (too_many_sets set.together) (bad_together set.items set.together))
unfolding compile_refusal
grouped set =
    two-groups (too_many_items set.items) (too_many_txns set.txns) (same_prio set.txns) (bad_times set.txns) (no_writer set.items set.txns) (two_writers set.items set.txns) (cyclic_derivation set.items set.txns)
    (too_many_sets set.together) (bad_together set.items set.together)

-- what is judged of the sizes is the same of the lists that are kept
same-sizes : (items : List ItemDecl) (txns : List TxnDecl) (f : TxnDecl → TxnDecl) → sizes items (map f txns) ≡ sizes items txns
same-sizes items txns f = rw (length-map txns f) refl

same-sets : (together : List TogetherDecl) (f : TogetherDecl → TogetherDecl) → too_many_sets (map f together) ≡ too_many_sets together
same-sets together f = rw (length-map together f) refl

-- the refusal of kept transactions, group by group

pub refused-size : (items : List ItemDecl) (txns : List TxnDecl) (f : TxnDecl → TxnDecl) (e : CompileError) → Some e ≡ sizes items txns → Refuses (txns_refusal items (map f txns)) e
refused-size items txns f e h =
    let here : sizes items (map f txns) ≡ Some e = same-sizes items txns f ∙ sym h in
    refuses-some (txns_refusal items (map f txns)) e (by-groups items (map f txns) ∙ rw here refl)

pub refused-number : (items : List ItemDecl) (txns : List TxnDecl) (f : TxnDecl → TxnDecl) (e : CompileError) → sizes items txns ≡ None → Some e ≡ numbers (map f txns) → Refuses (txns_refusal items (map f txns)) e
refused-number items txns f e size h =
    let none : sizes items (map f txns) ≡ None = same-sizes items txns f ∙ size in
    let here : numbers (map f txns) ≡ Some e = sym h in
    refuses-some (txns_refusal items (map f txns)) e (by-groups items (map f txns) ∙ rw (none, here) refl)

pub txns-judged : (items : List ItemDecl) (txns : List TxnDecl) (f : TxnDecl → TxnDecl) (found : Option CompileError) → sizes items txns ≡ None → numbers (map f txns) ≡ None → found ≡ graph items (map f txns) → found ≡ txns_refusal items (map f txns)
txns-judged items txns f found size number h =
    let none : sizes items (map f txns) ≡ None = same-sizes items txns f ∙ size in
    let here : graph items (map f txns) ≡ found = sym h in
    sym (by-groups items (map f txns) ∙ rw (none, number, here) refl)

-- the refusal of a set by those of its transactions and of its relative sets

pub refused-txns : (set : Set) (e : CompileError) → Refuses (txns_refusal set.items (kept set).txns) e → Refuses (compile_refusal (kept set)) e
refused-txns set e h =
    subst (λ (o : Option CompileError). Refuses o e) (sym (grouped (kept set)))
    (refuses-first (txns_refusal set.items (kept set).txns) (first_of_both (too_many_sets (kept set).together) (bad_together set.items (kept set).together)) e h)

pub refused-sets : (set : Set) (e : CompileError) → txns_refusal set.items (kept set).txns ≡ None → Some e ≡ too_many_sets set.together → Refuses (compile_refusal (kept set)) e
refused-sets set e txns h =
    let here : too_many_sets (kept set).together ≡ Some e = same-sets set.together (kept_group (length set.items)) ∙ sym h in
    refuses-some (compile_refusal (kept set)) e (grouped (kept set) ∙ rw (txns, here) refl)

pub set-judged : (set : Set) (found : Option CompileError) → txns_refusal set.items (kept set).txns ≡ None → too_many_sets set.together ≡ None → found ≡ bad_together set.items (kept set).together → found ≡ compile_refusal (kept set)
set-judged set found txns sets h =
    let few : too_many_sets (kept set).together ≡ None = same-sets set.together (kept_group (length set.items)) ∙ sets in
    let here : bad_together set.items (kept set).together ≡ found = sym h in
    sym (grouped (kept set) ∙ rw (txns, few, here) refl)

pub refused-found : (set : Set) (e : CompileError) → Some e ≡ compile_refusal (kept set) → Refuses (compile_refusal (kept set)) e
refused-found set e h = refuses-some (compile_refusal (kept set)) e (sym h)

pub refused-graph : (items : List ItemDecl) (txns : List TxnDecl) (e : CompileError) → Some e ≡ txns_refusal items txns → Refuses (txns_refusal items txns) e
refused-graph items txns e h = refuses-some (txns_refusal items txns) e (sym h)

-- the kept lists as the code reads them
pub txns-are : (items : List ItemDecl) (txns seen now : List TxnDecl) (count : ℕ) → count ≡ length items → seen ≡ txns → now ≡ map (kept_txn count) seen → now ≡ map (kept_txn (length items)) txns
txns-are items txns seen now count n same is = is ∙ rw (n, same) refl

pub groups-are : (items : List ItemDecl) (together seen now : List TogetherDecl) (count : ℕ) → count ≡ length items → seen ≡ together → now ≡ map (kept_group count) seen → now ≡ map (kept_group (length items)) together
groups-are items together seen now count n same is = is ∙ rw (n, same) refl

-- the lists that are kept rise and are in range

pub kept-over : (count : ℕ) (txns : List TxnDecl) → AreTxnsOver count (map (kept_txn count) txns)
kept-over count txns = record {
  reads = All-map (λ t. IsList count t.reads) (kept_txn count) txns (λ k d inside. kept-list count (get_or txns k d).reads);
  writes = All-map (λ t. IsList count t.writes) (kept_txn count) txns (λ k d inside. kept-list count (get_or txns k d).writes);
}

items-of : (set : Set) (items : List ItemId) → IsList (length set.items) items → AreItemsOf set items
items-of set items h = record { rising = h.rising; in_range = h.in_range }

pub kept-lists : (set : Set) → AreLists (kept set)
kept-lists set = record {
  reads = All-map (λ t. AreItemsOf (kept set) t.reads) (kept_txn (length set.items)) set.txns (λ k d inside. items-of (kept set) _ (kept-list (length set.items) (get_or set.txns k d).reads));
  writes = All-map (λ t. AreItemsOf (kept set) t.writes) (kept_txn (length set.items)) set.txns (λ k d inside. items-of (kept set) _ (kept-list (length set.items) (get_or set.txns k d).writes));
  together = All-map (λ g. AreItemsOf (kept set) g.items) (kept_group (length set.items)) set.together (λ k d inside. items-of (kept set) _ (kept-list (length set.items) (get_or set.together k d).items));
}

pub compiled : (set : Set) → compile_refusal (kept set) ≡ None → IsCompiled (kept set)
compiled set h = compiled-from (kept set) (kept-lists set) (passed-from (kept set) h)

pub ceilings-of : (set : Set) (table : List Ceilings) → length table ≡ length set.items → AreCeilings set.txns table → IsCeilingsOf set table
unfolding write_ceiling absolute_ceiling
ceilings-of set table one_each are = (
  one_each,
  λ item row is.
      let inside = slice_get_within table item row is in
      let here = get_or_from_slice_get table item row row is in (
        ap (λ (r : Ceilings). r.write) (sym here) ∙ are.write item row inside,
        ap (λ (r : Ceilings). r.absolute) (sym here) ∙ are.absolute item row inside,
      ),
)

-- the parts of a kept set
pub same-set : (set : Set) (items : List ItemDecl) (txns : List TxnDecl) (together : List TogetherDecl) → items ≡ set.items → txns ≡ (kept set).txns → together ≡ (kept set).together → record { items = items; txns = txns; together = together } ≡ kept set
same-set set items txns together i t g = rw (i, t, g) refl
