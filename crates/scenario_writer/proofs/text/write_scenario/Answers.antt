use Rattle.std.proofs.Common.{◌≤◌, ◌∙◌, arith}
use Rattle.serde_json.specs.Data.{depth}
use Rattle.step_script.specs.Shown.{shown}
use Rattle.scenario_writer.specs.Canonical.{canonical}
use Rattle.scenario_writer.proofs.Plain.{canonical_plain}
use Rattle.scenario_writer.proofs.Sending.{text_sent, read_sent}
use Rattle.scenario_writer.proofs.text.write_scenario.Goals as goal

pub returns-clause-text : goal.returns-clause-text
returns-clause-text c = text_sent (canonical (shown c.args.scenario.now)) c.new-out.result c.root.new.out
    c.into_inner.result.items (c.new-out.ensures.before ∙ c.in_ok-with_capacity.ensures.items) c.new-out.ensures.tokens
    c.in_ok-root.ensures.data c.into_inner.ensures.items

pub returns-clause-reads_back : goal.returns-clause-reads_back
returns-clause-reads_back c =
    let p = canonical_plain (shown c.args.scenario.now) c.requires in
    let low : depth (canonical (shown c.args.scenario.now)) ≤ 69 = p.low in
    read_sent (canonical (shown c.args.scenario.now)) c.new-out.result c.root.new.out c.into_inner.result.items
    (c.new-out.ensures.before ∙ c.in_ok-with_capacity.ensures.items) c.new-out.ensures.tokens c.in_ok-root.ensures.data
    c.into_inner.ensures.items c.into_inner.ensures.reads_back (omega arith)
