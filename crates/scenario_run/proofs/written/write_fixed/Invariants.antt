use Rattle.scenario_run.proofs.written.write_fixed.Given as goal

abbrev pub ghosts-run_lines : goal.ghosts-run_lines
ghosts-run_lines g a = record {
  begun = record {
    sink = a.out.now.sink.ghost_name;
    front = g.K.Sink.taken a.out.now.sink.now;
    names = a.out.now.names.now;
    set = g.B.Board.set a.run.board;
    room = a.out.now.writer.room;
  };
}
