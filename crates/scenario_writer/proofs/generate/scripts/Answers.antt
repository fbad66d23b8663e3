use Rattle.std.proofs.Common.{◌∷◌, ◌++◌, [], List, sym, ap, ◌∙◌}
use Rattle.std.proofs.lemmas.List.{map-append}
use Rattle.std.proofs.lemmas.List.Elements.{All-append}
use Rattle.step_script.specs.Scripts.{Program, program_of, IsTold}
use Rattle.scenario_writer.specs.Generated.{each, program}
use Rattle.scenario_writer.proofs.Each.{each_more}
use Rattle.scenario_writer.proofs.Loops.{only}
use Rattle.scenario_writer.proofs.generate.scripts.Goals as goal

pub loop-i-preserved : goal.loop-i-preserved
loop-i-preserved c = rw (c.in_ok-push.ensures.items) (
  map-append program_of c.loop-i.scripts.items (c.in_ok-script.field-0 ∷ [])
      ∙ ap (λ (ps : List Program). ps ++ program_of c.in_ok-script.field-0 ∷ []) c.loop-i.invariant.0
      ∙ ap (λ (p : Program). each (program c.args.n) c.loop-i.i ++ p ∷ []) c.in_ok-script.ensures.made
      ∙ sym (each_more (program c.args.n) c.loop-i.i),
  All-append (λ s. IsTold s 0 []) c.loop-i.scripts.items (c.in_ok-script.field-0 ∷ []) c.loop-i.invariant.1
      (only (λ s. IsTold s 0 []) c.in_ok-script.field-0 c.in_ok-script.ensures.begun),
)
