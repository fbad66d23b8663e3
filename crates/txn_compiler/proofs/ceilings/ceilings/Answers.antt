use Rattle.std.proofs.Common.{◌≡◌, length, ap, ℕ, sym, subst, ◌∙◌}
use Rattle.txn_compiler.specs.Tables.{AreTxnsOver, AreCeilings, no_ceilings}
use Rattle.txn_compiler.proofs.Named.{all-alike, as-many, in-place}
use Rattle.txn_compiler.proofs.ceilings.ceilings.Goals as goal

pub raise_all-requires-clause-lists : goal.raise_all-requires-clause-lists
raise_all-requires-clause-lists c =
    subst (λ (n : ℕ). AreTxnsOver n c.args.txns.now) (sym (as-many _ c.args.count no_ceilings (c.deref_mut.ensures.value ∙ c.in_ok-table.ensures.items_if_clones_equal (λ y same. same)))) c.requires

pub raise_all-requires-clause-none : goal.raise_all-requires-clause-none
raise_all-requires-clause-none c = all-alike _ c.args.count no_ceilings (c.deref_mut.ensures.value ∙ c.in_ok-table.ensures.items_if_clones_equal (λ y same. same))

pub returns-clause-one_each : goal.returns-clause-one_each
returns-clause-one_each c =
    let size : length c.raise_all.new.table ≡ c.in_ok-table.table.len = c.raise_all.auto.table ∙ c.deref_mut.ensures.len in
    ap length (in-place c.in_ok-table.table.len c.raise_all.new.table _ (sym size)) ∙ (size ∙ c.in_ok-table.ensures.len)

pub returns-clause-each : goal.returns-clause-each
returns-clause-each c =
    let size : length c.raise_all.new.table ≡ c.in_ok-table.table.len = c.raise_all.auto.table ∙ c.deref_mut.ensures.len in
    subst (AreCeilings c.args.txns.now) (sym (in-place c.in_ok-table.table.len c.raise_all.new.table _ (sym size))) c.raise_all.ensures
