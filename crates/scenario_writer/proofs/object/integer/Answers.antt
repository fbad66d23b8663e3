use Rattle.std.proofs.Common.{[], ◌∷◌, to_z-of_z, rules}
use Rattle.std.specs.Fmt.{signed_decimal}
use Rattle.json.specs.Token.{number}
use Rattle.scenario_writer.specs.Sent.{Adds}
use Rattle.scenario_writer.proofs.Sending.{integer_sent}
use Rattle.scenario_writer.proofs.object.integer.Goals as goal

pub returns-clause-data : goal.returns-clause-data
returns-clause-data c =
    let h : Adds (number (signed_decimal c.args.n) ∷ []) c.args.out.now c.i64.new.self = search (rules, to_z-of_z c.ranges.n) in
    integer_sent c.args.n c.args.out.now c.i64.new.self c.ranges.n h
