use Rattle.std.proofs.Common.{refl}
use Rattle.std.proofs.lemmas.Result.{on_ok_weaker}
use Rattle.scenario_check.specs.declared.found.Finding.{Finding}
use Rattle.scenario_check.proofs.Adding.{empty_names, line_put}
use Rattle.scenario_check.proofs.faults.Page.put.Goals as goal

pub returns : goal.returns
returns c =
    let none = empty_names c.no_names-names.result c.no_names-names.ensures.0 c.no_names-names.ensures.1 in
    let finding : Finding = record {
      at = c.args.at;
      line = c.moved-self.result.line;
      column = c.moved-self.result.column;
      what = c.args.what;
      token = c.args.token;
      reason = c.args.reason;
    } in
    on_ok_weaker c.put_line.result (λ put. line_put c.no_names-names.result finding c.args.what c.args.self.now.out.items c.put_line.new.out.items none refl put)
    c.put_line.ensures
