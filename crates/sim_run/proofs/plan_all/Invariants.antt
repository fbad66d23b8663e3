use Rattle.std.proofs.Common.{◌≡◌, ◌≤◌, [], ◌++◌, List, drop, length}
use Rattle.step_journal.specs.declared.entry.Entry.{Entry}
use Rattle.law_histories.specs.Sim.{plans_from}
use Rattle.sim_run.specs.Handed.{IsHanded, IsReady}
use Rattle.sim_run.proofs.Handing.{Goes}
use Rattle.sim_run.proofs.plan_all.Given as goal

abbrev pub invariant-loop-tx : goal.invariant-loop-tx
invariant-loop-tx g l =
    let rest = plans_from l.tx (drop l.tx l.releases) in
    record {
      handed : IsHanded (g.O.EntryOut.got l.fn.out) (g.O.EntryOut.got l.out) (g.B.Board.kept l.fn.board ++ plans_from 0 l.releases) (g.B.Board.kept l.board ++ rest);
      none_lost : g.O.EntryOut.lost l.out [];
      stands : (history : List Entry) → g.B.Board.stands l.fn.board history → Goes (g.B.Board.stands l.board) rest (history ++ plans_from 0 l.releases);
      ready : IsReady (length (g.B.Board.kept l.board)) (g.B.Board.room l.board);
      later : g.O.EntryOut.stops l.fn.out ≤ g.O.EntryOut.stops l.out;
      good : (history : List Entry) → g.O.EntryOut.good l.fn.out history → g.O.EntryOut.good l.out history;
      fixed : (g.B.Board.set l.board ≡ g.B.Board.set l.fn.board) × (g.B.Board.room l.board ≡ g.B.Board.room l.fn.board);
    }
