use Rattle.std.proofs.Common.{[]}
use Rattle.std.proofs.lemmas.List.Elements.{All-push}
use Rattle.step_script.specs.Scripts.{IsTold}
use Rattle.scenario_reader.proofs.made.TxnParts.add.Goals as goal

pub returns-clause-begun : goal.returns-clause-begun
returns-clause-begun c = λ before.
    rw c.in_ok-push-2.ensures.items
    (All-push (λ s. IsTold s 0 []) c.args.self.now.scripts.items c.in_ok-script.script before
    c.in_ok-script.ensures.begun)
