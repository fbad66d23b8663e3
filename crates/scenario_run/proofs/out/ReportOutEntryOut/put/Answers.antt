use Rattle.std.proofs.Common.{rules, ◌<◌, ◌≤◌, ◌+◌, ◌^◌, length, arith}
use Rattle.job_rows.specs.Upkeep.{planned_jobs}
use Rattle.scenario_run.specs.ReportOuts.{OutSeen, IsGoing, seen}
use Rattle.scenario_run.proofs.Taking.{going, few_next, bytes_fit, continues, taken_on, cut_taken, cut_lost, over_lost}
use Rattle.scenario_run.proofs.out.ReportOutEntryOut.put.Goals as goal

pub returns-then-planned-places_left-clause-lost : goal.returns-then-planned-places_left-clause-lost
returns-then-planned-places_left-clause-lost g c =
    let out : OutSeen = seen c.args.self.now.standing c.args.self.now.names.now c.args.self.now.writer c.args.self.now.lines.items c.args.self.now.bytes (g.K.Sink.taken c.args.self.now.sink.now) in
    let was : IsGoing g.T.Reported.begun out c.requires.fine.0 = going g.T.Reported.begun out c.args.entries.now c.requires.fine.0 c.requires.nothing_lost c.requires.fine.1.1 c.requires.fine.2 in
    let over : c.places_left.result < planned_jobs c.args.entries.now = omega (arith, c.if-planned-places_left.true, c.planned.ensures) in
    over_lost g.T.Reported.begun out c.args.entries.now c.requires.fine.0 c.places_left.result was c.places_left.ensures over

pub add_lines-requires-clause-next : goal.add_lines-requires-clause-next
add_lines-requires-clause-next g c =
    let out : OutSeen = seen c.args.self.now.standing c.args.self.now.names.now c.args.self.now.writer c.args.self.now.lines.items c.args.self.now.bytes (g.K.Sink.taken c.args.self.now.sink.now) in
    let was : IsGoing g.T.Reported.begun out c.requires.fine.0 = going g.T.Reported.begun out c.args.entries.now c.requires.fine.0 c.requires.nothing_lost c.requires.fine.1.1 c.requires.fine.2 in
    let few : planned_jobs c.args.entries.now ≤ c.places_left.result = omega (arith, c.if-planned-places_left.false, c.planned.ensures) in
    continues g.T.Reported.begun out c.args.entries.now c.requires.fine.0 c.places_left.result was c.requires.fine.2 c.places_left.ensures few

pub add_lines-requires-clause-empty : goal.add_lines-requires-clause-empty
add_lines-requires-clause-empty g c =
    let out : OutSeen = seen c.args.self.now.standing c.args.self.now.names.now c.args.self.now.writer c.args.self.now.lines.items c.args.self.now.bytes (g.K.Sink.taken c.args.self.now.sink.now) in
    let was : IsGoing g.T.Reported.begun out c.requires.fine.0 = going g.T.Reported.begun out c.args.entries.now c.requires.fine.0 c.requires.nothing_lost c.requires.fine.1.1 c.requires.fine.2 in
    was.sent

pub add_lines-requires-clause-few : goal.add_lines-requires-clause-few
add_lines-requires-clause-few g c =
    let out : OutSeen = seen c.args.self.now.standing c.args.self.now.names.now c.args.self.now.writer c.args.self.now.lines.items c.args.self.now.bytes (g.K.Sink.taken c.args.self.now.sink.now) in
    let was : IsGoing g.T.Reported.begun out c.requires.fine.0 = going g.T.Reported.begun out c.args.entries.now c.requires.fine.0 c.requires.nothing_lost c.requires.fine.1.1 c.requires.fine.2 in
    few_next g.T.Reported.begun out c.args.entries.now c.requires.fine.0 was c.requires.fine.2

pub overflow_add-self : goal.overflow_add-self
overflow_add-self g c =
    let out : OutSeen = seen c.args.self.now.standing c.args.self.now.names.now c.args.self.now.writer c.args.self.now.lines.items c.args.self.now.bytes (g.K.Sink.taken c.args.self.now.sink.now) in
    let was : IsGoing g.T.Reported.begun out c.requires.fine.0 = going g.T.Reported.begun out c.args.entries.now c.requires.fine.0 c.requires.nothing_lost c.requires.fine.1.1 c.requires.fine.2 in
    let fits : c.args.self.now.bytes + c.in-Ok.bytes < 2 ^ 64 = bytes_fit g.T.Reported.begun out c.args.entries.now c.requires.fine.0 c.in-Ok.bytes was c.requires.fine.2 c.in-Ok.ensures.bytes.1 in
    search (rules, fits)

pub returns-in-Ok-clause-taken : goal.returns-in-Ok-clause-taken
returns-in-Ok-clause-taken g c =
    let out : OutSeen = seen c.args.self.now.standing c.args.self.now.names.now c.args.self.now.writer c.args.self.now.lines.items c.args.self.now.bytes (g.K.Sink.taken c.args.self.now.sink.now) in
    let few : planned_jobs c.args.entries.now ≤ c.places_left.result = omega (arith, c.if-planned-places_left.false, c.planned.ensures) in
    λ history h. (
      h.0,
      taken_on g.T.Reported.begun out c.args.entries.now c.add_lines.new.writer c.add_lines.new.lines.items c.in-Ok.bytes (g.K.Sink.taken c.add_lines.new.sink) c.places_left.result
          c.requires.nothing_lost c.add_lines.ensures.places c.in-Ok.ensures.follows c.in-Ok.ensures.all.0 c.in-Ok.ensures.all.1 c.places_left.ensures few
          c.in-Ok.ensures.bytes.0 c.in-Ok.ensures.bytes.1 history h.1,
    )

pub returns-in-Err-clause-kept : goal.returns-in-Err-clause-kept
returns-in-Err-clause-kept g c =
    let out : OutSeen = seen c.args.self.now.standing c.args.self.now.names.now c.args.self.now.writer c.args.self.now.lines.items c.args.self.now.bytes (g.K.Sink.taken c.args.self.now.sink.now) in
    λ history h. (
      h.0,
      cut_taken g.T.Reported.begun out c.args.entries.now c.add_lines.new.writer c.add_lines.new.lines.items (g.K.Sink.taken c.add_lines.new.sink) c.in-Err.ensures.front.0 c.in-Err.ensures.front.1
          c.requires.nothing_lost history h.1,
    )

pub returns-in-Err-clause-lost : goal.returns-in-Err-clause-lost
returns-in-Err-clause-lost g c =
    let out : OutSeen = seen c.args.self.now.standing c.args.self.now.names.now c.args.self.now.writer c.args.self.now.lines.items c.args.self.now.bytes (g.K.Sink.taken c.args.self.now.sink.now) in
    let was : IsGoing g.T.Reported.begun out c.requires.fine.0 = going g.T.Reported.begun out c.args.entries.now c.requires.fine.0 c.requires.nothing_lost c.requires.fine.1.1 c.requires.fine.2 in
    let some : 0 < length c.args.entries.now = search rules in
    cut_lost g.T.Reported.begun out c.args.entries.now c.add_lines.new.writer c.add_lines.new.lines.items (g.K.Sink.taken c.add_lines.new.sink) c.in-Err.ensures.front.0 c.in-Err.ensures.front.1
    c.requires.fine.0 was some
