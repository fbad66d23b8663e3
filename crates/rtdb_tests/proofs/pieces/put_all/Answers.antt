use Rattle.std.proofs.Common.{ap, subst}
use Rattle.txn_set.specs.Set.{Set}
use Rattle.job_rows.specs.Upkeep.{Follows}
use Rattle.scenario_run.specs.ReportOuts.{Begun, OutSeen, seen}
use Rattle.scenario_run.proofs.Taking.{opens}
use Rattle.scenario_run.proofs.Pieces.{fronts_legal, all_going, both_ok}
use Rattle.rtdb_tests.proofs.pieces.put_all.Goals as goal

pub put_pieces-requires-clause-nothing : goal.put_pieces-requires-clause-nothing
put_pieces-requires-clause-nothing g c =
    opens g.T.Reported.begun _ _ _ c.requires.begun c.requires.going c.requires.bytes c.requires.empty c.requires.named c.requires.follows

pub put_pieces-requires-clause-good : goal.put_pieces-requires-clause-good
put_pieces-requires-clause-good g c =
    fronts_legal g.T.Reported.begun _ c.args.entries.now (ap (λ (b : Begun). b.set) c.requires.begun) c.requires.legal

pub returns-clause-follows : goal.returns-clause-follows
returns-clause-follows g c =
    let q = c.put_pieces.new.out in
    let out : OutSeen = seen q.standing q.names.now q.writer q.lines.items q.bytes (g.K.Sink.taken q.sink.now) in
    both_ok c.put_pieces.result
    (λ lost has. subst (λ (s : Set). Follows s q.writer c.args.entries.now) (ap (λ (b : Begun). b.set) c.requires.begun)
    (all_going g.T.Reported.begun out _ c.args.entries.now (ap (λ (b : Begun). b.set) c.requires.begun) c.requires.legal lost has.1).follows)
    c.put_pieces.ensures.none_lost c.put_pieces.ensures.all
