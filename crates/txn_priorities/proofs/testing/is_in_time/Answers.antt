use Rattle.std.proofs.Common.{ℕ, ap, ◌∙◌, is_some, Option}
use Rattle.txn_set.specs.declared.decl.TxnDecl.{TxnDecl}
use Rattle.txn_priorities.proofs.Limited.{limit-few}
use Rattle.txn_priorities.proofs.Tested.{window-passes}
use Rattle.txn_priorities.proofs.testing.is_in_time.Goals as goal

pub is_held-requires-clause-small : goal.is_held-requires-clause-small
is_held-requires-clause-small g c = limit-few c.args.level.set.now c.args.tx c.args.most c.requires.compiled c.requires.tx c.requires.most

pub least_window-found-requires-clause-most : goal.least_window-found-requires-clause-most
least_window-found-requires-clause-most g c = limit-few c.args.level.set.now c.args.tx c.args.most c.requires.compiled c.requires.tx c.requires.most

pub returns-clause-passes : goal.returns-clause-passes
returns-clause-passes g c =
    c.is_some.ensures ∙ (ap (λ (o : Option ℕ). is_some o) c.least_window-found.ensures.window
    ∙ window-passes c.args.level.set.now c.args.level.prios.now c.args.tx c.requires.tx c.requires.free c.in_ok-loads.loads _ c.args.most c.args.level.blocking c.in_ok-loads.ensures
    (ap (λ (t : TxnDecl). t.steps) c.txn.ensures) c.requires.blocking c.requires.most)
