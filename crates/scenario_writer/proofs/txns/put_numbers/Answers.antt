use Rattle.std.proofs.Common.{[], ◌∷◌, codes, rules}
use Rattle.std.proofs.lemmas.Result.{on_ok_weaker}
use Rattle.scenario_writer.specs.Canonical.{whole}
use Rattle.scenario_writer.specs.Sent.{SendsFields, field}
use Rattle.scenario_writer.proofs.Sending.{then_fields}
use Rattle.scenario_writer.proofs.txns.put_numbers.Goals as goal

pub returns : goal.returns
returns c =
    let priority : SendsFields (field (codes "priority") (whole c.args.decl.now.prio) ∷ []) c.put_whole-2.new.out
    c.put_whole-3.new.out = search rules in
    on_ok_weaker c.put_quiet.result (λ e.
    then_fields (_ ∷ []) _ _ _ _ c.in_ok-put_whole.ensures
    (then_fields (_ ∷ []) _ _ _ _ c.in_ok-put_whole-2.ensures
    (then_fields (_ ∷ []) _ _ _ _ priority e))) c.put_quiet.ensures
