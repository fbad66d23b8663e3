use Rattle.std.proofs.Common.{◌-◌, ◌≤◌, length, vec_capacity}
use Rattle.scenario_run.proofs.Texts.{HasCome, AreCounted}
use Rattle.scenario_run.proofs.lines.add_lines.Given as goal

abbrev pub invariant-loop-done : goal.invariant-loop-done
invariant-loop-done g l =
    HasCome l.names l.initial.writer l.writer l.entries l.done (g.K.Sink.taken l.initial.sink) (g.K.Sink.taken l.sink) l.lines.items
    × (vec_capacity l.initial.lines ≤ vec_capacity l.lines)
    × (g.K.Sink.faults l.initial.sink ≤ g.K.Sink.faults l.sink)
    × AreCounted l.names l.entries l.done l.bytes
    × (l.done ≤ length l.entries)

abbrev pub decreases-loop-done : goal.decreases-loop-done
decreases-loop-done g l = length l.entries - l.done
