use Rattle.std.proofs.Common.{◌≡◌, ◌<◌, length, take}
use Rattle.serial_replay.proofs.again.again.Given as goal

abbrev pub invariant-loop-i : goal.invariant-loop-i
invariant-loop-i g l = record {
  stands : g.B.Board.stands l.board (take l.i l.entries);
  set : g.B.Board.set l.board ≡ g.B.Board.set l.fn.board;
  room : g.B.Board.room l.board ≡ g.B.Board.room l.fn.board;
  kept : length (g.B.Board.kept l.board) < g.B.Board.room l.board;
}
