use Rattle.std.proofs.Common.{◌∙◌, subst, sym}
use Rattle.txn_set.specs.Set.{IsCompiled}
use Rattle.step_script.specs.Shown.{Shown, set_of}
use Rattle.step_script.specs.Scenarios.{IsScenario}
use Rattle.scenario_writer.proofs.GeneratedSet.{generated_is, generated_compiles}
use Rattle.scenario_writer.proofs.Each.{made}
use Rattle.scenario_writer.proofs.generate.generated.Goals as goal

pub returns-clause-made : goal.returns-clause-made
returns-clause-made c = made c.args.n _ _ _ _ _ _ _ _ c.in_ok-names.ensures.items c.in_ok-names.ensures.txns
    c.in_ok-items.ensures.items c.in_ok-items.ensures.txns (c.of.ensures ∙ c.new.ensures.items)
    c.in_ok-scripts.ensures.scripts c.in_ok-scripts.ensures.releases c.room.ensures

pub returns-clause-scenario : goal.returns-clause-scenario
returns-clause-scenario c = subst IsScenario (sym (returns-clause-made c))
    (generated_is c.args.n c.requires.one c.requires.few)

pub returns-clause-compiles : goal.returns-clause-compiles
returns-clause-compiles c = subst (λ (s : Shown). IsCompiled (set_of s)) (sym (returns-clause-made c))
    (generated_compiles c.args.n c.requires.one c.requires.few)
