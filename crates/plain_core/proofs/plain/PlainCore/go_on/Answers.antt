use Rattle.std.proofs.Common.{ap, ◌∙◌, arith, ℕ, List, ◌++◌, ◌∷◌, []}
use Rattle.txn_set.specs.declared.decl.TxnDecl.{TxnDecl}
use Rattle.step_journal.specs.declared.entry.Entry.TheVariants.{Idle}
use Rattle.plain_core.specs.Arrivals.{arrived_tables}
use Rattle.plain_core.proofs.Stood.{fit_core}
use Rattle.plain_core.proofs.Idles.{advances, went_on, still_core, tallies_fit}
use Rattle.plain_core.proofs.plain.PlainCore.go_on.Goals as goal

pub arrive-requires-clause-rows : goal.arrive-requires-clause-rows
arrive-requires-clause-rows c = omega (arith, (fit_core _ c.self.invariant).rows, c.self.invariant.stands.is_history.compiled.few_txns)

pub arrive-requires-clause-few : goal.arrive-requires-clause-few
arrive-requires-clause-few c = λ n. omega (arith, tallies_fit _ c.self.invariant n)

pub invariant_of-self : goal.invariant_of-self
invariant_of-self c =
    let to = c.args.to in
    let a = advances _ _ to c.self.view_is c.requires in
    still_core _ _ _ _ to c.self.view_is (c.push.ensures ∙ ap (λ (n : ℕ). record { room = c.self.inside.journal.room; first = c.self.inside.journal.first; kept = c.self.inside.journal.kept ++ Idle n to ∷ [] }) c.now-from.ensures) (c.arrive.ensures ∙ ap (λ (t : List TxnDecl). arrived_tables t to c.self.inside.tables) c.txns.ensures) a.none a.next a.roomy c.self.invariant

pub returns-clause-after : goal.returns-clause-after
returns-clause-after c =
    let to = c.args.to in
    let a = advances _ _ to c.self.view_is c.requires in
    went_on _ _ _ _ to c.self.view_is (c.push.ensures ∙ ap (λ (n : ℕ). record { room = c.self.inside.journal.room; first = c.self.inside.journal.first; kept = c.self.inside.journal.kept ++ Idle n to ∷ [] }) c.now-from.ensures) (c.arrive.ensures ∙ ap (λ (t : List TxnDecl). arrived_tables t to c.self.inside.tables) c.txns.ensures) a.none a.next a.roomy
