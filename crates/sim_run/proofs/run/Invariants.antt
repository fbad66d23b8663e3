use Rattle.std.proofs.Common.{◌≡◌, ◌+◌, ◌-◌, ◌≤◌, List, [], map, length}
use Rattle.step_journal.specs.declared.entry.Entry.{Entry}
use Rattle.law_histories.specs.Counting.{room_of_jobs}
use Rattle.sim_run.specs.Workloads.{workload, ticks_of}
use Rattle.sim_run.specs.Handed.{IsReady}
use Rattle.sim_run.proofs.Whole.{OnWay}
use Rattle.sim_run.proofs.run.Given as goal

abbrev pub invariant-loop-board : goal.invariant-loop-board
invariant-loop-board g l =
    let w = workload (g.B.Board.set l.fn.board) (map g.Y.Body.gives l.fn.bodies) l.releases in
    record {
      way : OnWay w (g.B.Board.stands l.board) g.Y.Body.stands (g.O.EntryOut.got l.fn.out) (g.O.EntryOut.got l.out) l.bodies l.serials (g.B.Board.kept l.board);
      none_lost : g.O.EntryOut.lost l.out [];
      ready : IsReady (length (g.B.Board.kept l.board)) (g.B.Board.room l.board);
      later : g.O.EntryOut.stops l.fn.out ≤ g.O.EntryOut.stops l.out;
      good : (history : List Entry) → g.O.EntryOut.good l.fn.out history → g.O.EntryOut.good l.out history;
      fixed : (g.B.Board.set l.board ≡ g.B.Board.set l.fn.board) × (g.B.Board.room l.board ≡ g.B.Board.room l.fn.board);
      same : map g.Y.Body.gives l.bodies ≡ map g.Y.Body.gives l.fn.bodies;
    }

abbrev pub decreases-loop-board : goal.decreases-loop-board
decreases-loop-board g l =
    room_of_jobs (g.B.Board.set l.fn.board).txns (λ n. length (ticks_of l.releases n)) - (g.B.Board.first l.board + length (g.B.Board.kept l.board))
