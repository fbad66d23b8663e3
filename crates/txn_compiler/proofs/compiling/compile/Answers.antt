use Rattle.std.proofs.Common.{◌≡◌, None, Some, map, length, sym, ◌∙◌, ap, subst}
use Rattle.std.proofs.lemmas.Result.{err_from_is_err_and}
use Rattle.txn_set.specs.Set.{IsCompiled}
use Rattle.txn_compiler.specs.Refusal.{too_many_sets, compile_refusal}
use Rattle.txn_compiler.specs.Kept.{kept, kept_group}
use Rattle.txn_compiler.specs.Tables.{Declared}
use Rattle.txn_compiler.proofs.Grouped.{groups-are, refused-txns, refused-sets, refused-found, set-judged, same-set, compiled, ceilings-of}
use Rattle.txn_compiler.proofs.compiling.compile.Goals as goal

pub returns-in_err-graph-clause-refused : goal.returns-in_err-graph-clause-refused
returns-in_err-graph-clause-refused c =
    let p = err_from_is_err_and c.from_residual.result c.from_residual.ensures.1 in
    rw (p.1, p.2) (refused-txns (record { items = c.args.items.items; txns = c.args.txns.items; together = c.args.together.items }) c.in_err-graph.field-0.0 c.in_err-graph.ensures.refused)

pub returns-in-Some-clause-refused : goal.returns-in-Some-clause-refused
returns-in-Some-clause-refused c = refused-sets (record { items = c.args.items.items; txns = c.args.txns.items; together = c.args.together.items }) c.in-Some.error c.in_ok-graph.ensures.passed (rw c.deref.ensures.value at c.in-Some.ensures)

pub returns-in-Some-bad_together-clause-refused : goal.returns-in-Some-bad_together-clause-refused
returns-in-Some-bad_together-clause-refused c =
    let items : c.in_ok-graph.graph.items ≡ c.args.items.items = ap (λ (d : Declared). d.items) c.in_ok-graph.ensures.graph in
    let sets : too_many_sets c.args.together.items ≡ None = rw c.deref.ensures.value at (sym c.too_many_sets.ensures ∙ c.in_default.is) in
    let groups : c.in_ok-together.together.items ≡ map (kept_group (length c.args.items.items)) c.args.together.items =
    groups-are c.args.items.items c.args.together.items c.deref-2.result.now c.in_ok-together.together.items _ (ap length (c.items-count.ensures.value ∙ items)) c.deref-2.ensures.value c.in_ok-together.ensures
    in
    refused-found (record { items = c.args.items.items; txns = c.args.txns.items; together = c.args.together.items }) c.in-Some-bad_together.error
    (set-judged (record { items = c.args.items.items; txns = c.args.txns.items; together = c.args.together.items }) (Some c.in-Some-bad_together.error) c.in_ok-graph.ensures.passed sets (rw (c.items.ensures.value, items, c.deref-3.ensures.value, groups) at c.in-Some-bad_together.ensures))

pub of-requires-clause-compiled : goal.of-requires-clause-compiled
of-requires-clause-compiled c =
    let items : c.in_ok-graph.graph.items ≡ c.args.items.items = ap (λ (d : Declared). d.items) c.in_ok-graph.ensures.graph in
    let sets : too_many_sets c.args.together.items ≡ None = rw c.deref.ensures.value at (sym c.too_many_sets.ensures ∙ c.in_default.is) in
    let groups : c.in_ok-together.together.items ≡ map (kept_group (length c.args.items.items)) c.args.together.items =
    groups-are c.args.items.items c.args.together.items c.deref-2.result.now c.in_ok-together.together.items _ (ap length (c.items-count.ensures.value ∙ items)) c.deref-2.ensures.value c.in_ok-together.ensures
    in
    let none : compile_refusal (kept (record { items = c.args.items.items; txns = c.args.txns.items; together = c.args.together.items })) ≡ None =
    sym
    (set-judged (record { items = c.args.items.items; txns = c.args.txns.items; together = c.args.together.items }) None c.in_ok-graph.ensures.passed sets
    (rw (c.items.ensures.value, items, c.deref-3.ensures.value, groups) at (sym c.in_default-bad_together.is ∙ c.bad_together.ensures)))
    in
    let same : record { items = c.into_parts-items.result.0.items; txns = c.into_parts-items.result.1.items; together = c.in_ok-together.together.items } ≡ kept (record { items = c.args.items.items; txns = c.args.txns.items; together = c.args.together.items }) =
    same-set (record { items = c.args.items.items; txns = c.args.txns.items; together = c.args.together.items }) c.into_parts-items.result.0.items c.into_parts-items.result.1.items c.in_ok-together.together.items (c.into_parts-items.ensures.items ∙ items)
    (c.into_parts-items.ensures.txns ∙ ap (λ (d : Declared). d.txns) c.in_ok-graph.ensures.graph) groups
    in
    subst IsCompiled (sym same) (compiled (record { items = c.args.items.items; txns = c.args.txns.items; together = c.args.together.items }) none)

pub of-requires-clause-ceilings : goal.of-requires-clause-ceilings
of-requires-clause-ceilings c =
    ceilings-of (record { items = c.into_parts-items.result.0.items; txns = c.into_parts-items.result.1.items; together = c.in_ok-together.together.items }) c.in_ok-ceilings.ceilings.items
    (c.in_ok-ceilings.ensures.one_each ∙ ap length (c.items-count.ensures.value ∙ sym c.into_parts-items.ensures.items)) (rw c.deref-4.ensures.value at c.in_ok-ceilings.ensures.each)

pub returns-clause-passed : goal.returns-clause-passed
returns-clause-passed c =
    let items : c.in_ok-graph.graph.items ≡ c.args.items.items = ap (λ (d : Declared). d.items) c.in_ok-graph.ensures.graph in
    let sets : too_many_sets c.args.together.items ≡ None = rw c.deref.ensures.value at (sym c.too_many_sets.ensures ∙ c.in_default.is) in
    let groups : c.in_ok-together.together.items ≡ map (kept_group (length c.args.items.items)) c.args.together.items =
    groups-are c.args.items.items c.args.together.items c.deref-2.result.now c.in_ok-together.together.items _ (ap length (c.items-count.ensures.value ∙ items)) c.deref-2.ensures.value c.in_ok-together.ensures
    in
    let none : compile_refusal (kept (record { items = c.args.items.items; txns = c.args.txns.items; together = c.args.together.items })) ≡ None =
    sym
    (set-judged (record { items = c.args.items.items; txns = c.args.txns.items; together = c.args.together.items }) None c.in_ok-graph.ensures.passed sets
    (rw (c.items.ensures.value, items, c.deref-3.ensures.value, groups) at (sym c.in_default-bad_together.is ∙ c.bad_together.ensures)))
    in
    let same : record { items = c.into_parts-items.result.0.items; txns = c.into_parts-items.result.1.items; together = c.in_ok-together.together.items } ≡ kept (record { items = c.args.items.items; txns = c.args.txns.items; together = c.args.together.items }) =
    same-set (record { items = c.args.items.items; txns = c.args.txns.items; together = c.args.together.items }) c.into_parts-items.result.0.items c.into_parts-items.result.1.items c.in_ok-together.together.items (c.into_parts-items.ensures.items ∙ items)
    (c.into_parts-items.ensures.txns ∙ ap (λ (d : Declared). d.txns) c.in_ok-graph.ensures.graph) groups
    in
    ap compile_refusal (c.of.ensures ∙ same) ∙ none
