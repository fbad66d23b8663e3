use Rattle.std.proofs.lemmas.Result.{IfOk-weaker}
use Rattle.sim_run.proofs.Handing.{all_handed, refused}
use Rattle.sim_run.proofs.hand_on.Goals as goal

pub returns-clause-passed : goal.returns-clause-passed
returns-clause-passed g c =
    IfOk-weaker c.put-handed.result _ _ (λ u h. all_handed (g.O.EntryOut.got c.args.out.now) (g.O.EntryOut.got c.put-handed.new.self) c.entries.result.now (g.B.Board.kept c.args.board.now) c.entries.ensures h) c.put-handed.ensures.taken

pub returns-clause-stopped : goal.returns-clause-stopped
returns-clause-stopped g c =
    refused c.put-handed.result (g.O.EntryOut.got c.args.out.now) (g.O.EntryOut.got c.put-handed.new.self) (g.O.EntryOut.lost c.put-handed.new.self) c.entries.result.now (g.B.Board.kept c.args.board.now) c.entries.ensures c.put-handed.ensures.kept c.put-handed.ensures.lost
