use Rattle.std.proofs.Common.{◌≡◌, None, Some, map, length, sym, ◌∙◌, ap, rules}
use Rattle.txn_compiler.specs.Kept.{kept_txn}
use Rattle.txn_compiler.specs.Tables.{Declared}
use Rattle.txn_compiler.proofs.Grouped.{sizes, numbers, txns-are, refused-size, refused-number, refused-graph, txns-judged, kept-over}
use Rattle.txn_compiler.proofs.compiling.judged_graph.Goals as goal

pub returns-in-Some-clause-refused : goal.returns-in-Some-clause-refused
returns-in-Some-clause-refused c =
    refused-size c.args.items.items c.args.txns.items (kept_txn (length c.args.items.items)) c.in-Some.error (rw (c.deref.ensures.value, c.deref-2.ensures.value) at c.in-Some.ensures)

pub returns-in-Some-bad_numbers-clause-refused : goal.returns-in-Some-bad_numbers-clause-refused
returns-in-Some-bad_numbers-clause-refused c =
    let size : sizes c.args.items.items c.args.txns.items ≡ None = rw (c.deref.ensures.value, c.deref-2.ensures.value) at (sym c.bad_sizes.ensures ∙ c.in_default.is) in
    let txns : c.in_ok-txns.txns.items ≡ map (kept_txn (length c.args.items.items)) c.args.txns.items = txns-are _ _ c.deref-3.result.now _ _ (search rules) c.deref-3.ensures.value c.in_ok-txns.ensures in
    refused-number c.args.items.items c.args.txns.items (kept_txn (length c.args.items.items)) c.in-Some-bad_numbers.error size (rw (c.deref-4.ensures.value, txns) at c.in-Some-bad_numbers.ensures)

pub new-requires-clause-lists : goal.new-requires-clause-lists
new-requires-clause-lists c =
    let txns : c.in_ok-txns.txns.items ≡ map (kept_txn (length c.args.items.items)) c.args.txns.items = txns-are _ _ c.deref-3.result.now _ _ (search rules) c.deref-3.ensures.value c.in_ok-txns.ensures in
    rw txns (kept-over (length c.args.items.items) c.args.txns.items)

pub returns-in-Some-2-clause-refused : goal.returns-in-Some-2-clause-refused
returns-in-Some-2-clause-refused c =
    let size : sizes c.args.items.items c.args.txns.items ≡ None = rw (c.deref.ensures.value, c.deref-2.ensures.value) at (sym c.bad_sizes.ensures ∙ c.in_default.is) in
    let txns : c.in_ok-txns.txns.items ≡ map (kept_txn (length c.args.items.items)) c.args.txns.items = txns-are _ _ c.deref-3.result.now _ _ (search rules) c.deref-3.ensures.value c.in_ok-txns.ensures in
    let number : numbers (map (kept_txn (length c.args.items.items)) c.args.txns.items) ≡ None = rw (c.deref-4.ensures.value, txns) at (sym c.bad_numbers.ensures ∙ c.in_default-bad_numbers.is) in
    let items : c.in_ok-graph.graph.items ≡ c.args.items.items = ap (λ (d : Declared). d.items) c.in_ok-graph.ensures in
    let over : c.in_ok-graph.graph.txns ≡ map (kept_txn (length c.args.items.items)) c.args.txns.items = ap (λ (d : Declared). d.txns) c.in_ok-graph.ensures ∙ txns in
    refused-graph c.args.items.items (map (kept_txn (length c.args.items.items)) c.args.txns.items) c.in-Some-2.error
    (txns-judged c.args.items.items c.args.txns.items (kept_txn (length c.args.items.items)) (Some c.in-Some-2.error) size number
    (rw (items, over) at (sym c.in-Some-2.is ∙ c.in_ok-error.ensures)))

pub returns-clause-passed : goal.returns-clause-passed
returns-clause-passed c =
    let size : sizes c.args.items.items c.args.txns.items ≡ None = rw (c.deref.ensures.value, c.deref-2.ensures.value) at (sym c.bad_sizes.ensures ∙ c.in_default.is) in
    let txns : c.in_ok-txns.txns.items ≡ map (kept_txn (length c.args.items.items)) c.args.txns.items = txns-are _ _ c.deref-3.result.now _ _ (search rules) c.deref-3.ensures.value c.in_ok-txns.ensures in
    let number : numbers (map (kept_txn (length c.args.items.items)) c.args.txns.items) ≡ None = rw (c.deref-4.ensures.value, txns) at (sym c.bad_numbers.ensures ∙ c.in_default-bad_numbers.is) in
    let items : c.in_ok-graph.graph.items ≡ c.args.items.items = ap (λ (d : Declared). d.items) c.in_ok-graph.ensures in
    let over : c.in_ok-graph.graph.txns ≡ map (kept_txn (length c.args.items.items)) c.args.txns.items = ap (λ (d : Declared). d.txns) c.in_ok-graph.ensures ∙ txns in
    sym (txns-judged c.args.items.items c.args.txns.items (kept_txn (length c.args.items.items)) None size number
    (rw (items, over) at (sym c.in_default-2.is ∙ c.in_ok-error.ensures)))
