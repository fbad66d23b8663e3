use Rattle.std.proofs.Common.{◌||◌, Bool, sym, ap, subst, ◌∙◌}
use Rattle.scenario_check.specs.Findings.{Adds}
use Rattle.scenario_check.proofs.Adding.{both_more}
use Rattle.scenario_check.proofs.faults.Page.put_faults.Goals as goal
use Rattle.scenario_check.proofs.faults.Page.put_faults.Goals.{then-is_told, else-is_told}

pub loop-fault-preserved : goal.loop-fault-preserved
loop-fault-preserved c =
    let before = c.args.self.now.out.items in
    let after = c.put_fault.new.self.out.items in
    let more : Adds (c.loop-fault.is_told || c.in_ok-is_it.is_it) c.args.refusal before after =
    both_more c.loop-fault.is_told c.in_ok-is_it.is_it c.args.refusal before c.loop-fault.self.out.items after c.loop-fault.invariant c.in_ok-is_it.ensures in
    elim c.if-is_told.branch [
      | then-is_told w ↦
          subst (λ (b : Bool). Adds b c.args.refusal before after) (ap (λ (b : Bool). b || c.in_ok-is_it.is_it) w.if-is_told.true ∙ (sym w.if-is_told.true ∙ sym w.is_told-is)) more
      | else-is_told w ↦
          subst (λ (b : Bool). Adds b c.args.refusal before after) (ap (λ (b : Bool). b || c.in_ok-is_it.is_it) w.if-is_told.false ∙ sym w.is_told-is) more
    ]
