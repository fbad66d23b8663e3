use Rattle.std.proofs.Common.{Some}
use Rattle.rtdb_tests.proofs.pieces.put_worked.Given as goal

abbrev pub ghosts-put_all : goal.ghosts-put_all
ghosts-put_all a = record {
  begun = record {
    sink = a.out.now.sink.ghost_name;
    front = Some a.out.now.sink.now.taken;
    names = a.out.now.names.now;
    set = a.set.now;
    room = a.out.now.writer.room;
  };
}
