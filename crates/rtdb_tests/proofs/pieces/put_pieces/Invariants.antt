use Rattle.std.proofs.Common.{◌-◌, ◌≤◌, List, [], take, length}
use Rattle.step_journal.specs.declared.entry.Entry.{Entry as Noted}
use Rattle.rtdb_tests.proofs.pieces.put_pieces.Given as goal

abbrev pub invariant-loop-done : goal.invariant-loop-done
invariant-loop-done g l = record {
  within : l.done ≤ length l.entries;
  none_lost : g.O.EntryOut.lost l.out [];
  so_far : g.O.EntryOut.got l.out (take l.done l.entries);
  same : (history : List Noted) → g.O.EntryOut.good l.initial.out history → g.O.EntryOut.good l.out history;
}

abbrev pub decreases-loop-done : goal.decreases-loop-done
decreases-loop-done g l = length l.entries - l.done
