use Rattle.std.proofs.Common.{◌≡◌, length, ap, ℕ, [], sym, subst, ◌∙◌}
use Rattle.txn_compiler.specs.Tables.{AreTxnsOver, AreWriters, first_two}
use Rattle.txn_compiler.proofs.Named.{all-alike, as-many, in-place}
use Rattle.txn_compiler.proofs.writing.writers_by_item.Goals as goal

pub note_all-requires-clause-lists : goal.note_all-requires-clause-lists
note_all-requires-clause-lists c =
    subst (λ (n : ℕ). AreTxnsOver n c.args.txns.now) (sym (as-many _ c.args.count (first_two []) (c.deref_mut.ensures.value ∙ c.in_ok-table.ensures.items_if_clones_equal (λ y same. same)))) c.requires.lists

pub note_all-requires-clause-nobody : goal.note_all-requires-clause-nobody
note_all-requires-clause-nobody c = all-alike _ c.args.count (first_two []) (c.deref_mut.ensures.value ∙ c.in_ok-table.ensures.items_if_clones_equal (λ y same. same))

pub returns-clause-one_each : goal.returns-clause-one_each
returns-clause-one_each c =
    let size : length c.note_all.new.table ≡ c.in_ok-table.table.len = c.note_all.auto.table ∙ c.deref_mut.ensures.len in
    ap length (in-place c.in_ok-table.table.len c.note_all.new.table _ (sym size)) ∙ (size ∙ c.in_ok-table.ensures.len)

pub returns-clause-each : goal.returns-clause-each
returns-clause-each c =
    let size : length c.note_all.new.table ≡ c.in_ok-table.table.len = c.note_all.auto.table ∙ c.deref_mut.ensures.len in
    subst (AreWriters c.args.txns.now) (sym (in-place c.in_ok-table.table.len c.note_all.new.table _ (sym size))) c.note_all.ensures
