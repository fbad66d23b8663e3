use Rattle.std.proofs.Common.{◌≡◌, length, Some, sym, ◌∙◌, ap}
use Rattle.txn_compiler.specs.declared.writing.Writers.{Writers}
use Rattle.txn_compiler.specs.Graph.{writers_of}
use Rattle.txn_compiler.specs.Tables.{first_two}
use Rattle.txn_compiler.proofs.Single.{first-inside, reads-code, inside-code}
use Rattle.txn_compiler.proofs.graph.Graph.parents.Goals as goal

pub bounds-txns-writer : goal.bounds-txns-writer
bounds-txns-writer c =
    let first : (first_two (writers_of c.args.self.now.txns c.args.place)).first ≡ Some c.in-Some.writer = ap (λ (w : Writers). w.first) (sym c.writers_at.ensures) ∙ c.in-Some.is in
    rw c.txns-txns.ensures.value (first-inside c.args.self.now.txns c.args.place c.in-Some.writer first)

pub returns-in-Some-clause-reads : goal.returns-in-Some-clause-reads
returns-in-Some-clause-reads c =
    reads-code c.args.self.now.items c.items.result.now c.args.self.now.txns c.txns-txns.result.now c.args.place c.in-Some.writer _ _ c.items.ensures.value c.txns-txns.ensures.value
    (sym c.is_derived.ensures ∙ c.if-not-is_derived.false) (ap (λ (w : Writers). w.first) (sym c.writers_at.ensures) ∙ c.in-Some.is) c.as_slice.ensures

pub returns-in-Some-clause-in_range : goal.returns-in-Some-clause-in_range
returns-in-Some-clause-in_range c =
    inside-code (length c.args.self.now.items) c.args.self.now.txns c.txns-txns.result.now c.args.place c.in-Some.writer _ _ c.txns-txns.ensures.value c.txns-txns.ensures.lists
    (ap (λ (w : Writers). w.first) (sym c.writers_at.ensures) ∙ c.in-Some.is) c.as_slice.ensures
