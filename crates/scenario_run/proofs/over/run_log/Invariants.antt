use Rattle.std.specs.Prelude.{Some}
use Rattle.scenario_run.proofs.over.run_log.Given as goal

abbrev pub ghosts-run_out : goal.ghosts-run_out
ghosts-run_out g a = record {
  begun = record {
    names = a.out.now.names.now;
    set = g.B.Board.set a.runner.now.board;
    there = a.out.now.there.items;
    room = a.out.now.room;
    disk = Some a.out.now.log.disk;
  };
}
