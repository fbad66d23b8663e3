use Rattle.std.proofs.Common.{[], ◌∷◌, decimal, rules}
use Rattle.json.specs.Token.{number}
use Rattle.scenario_writer.specs.Sent.{Adds}
use Rattle.scenario_writer.proofs.Sending.{whole_sent}
use Rattle.scenario_writer.proofs.object.whole.Goals as goal

pub returns : goal.returns
returns c =
    let h : Adds (number (decimal c.args.n) ∷ []) c.args.out.now c.u64.new.self = search rules in
    whole_sent c.args.n c.args.out.now c.u64.new.self c.ranges.n.fits h
