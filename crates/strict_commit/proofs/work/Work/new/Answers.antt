use Rattle.std.proofs.Common.{arith}
use Rattle.strict_commit.proofs.Fews.{places_new}
use Rattle.strict_commit.proofs.work.Work.new.Goals as goal

pub invariant_of-result : goal.invariant_of-result
invariant_of-result c =
    rw (c.in_ok-read_notes.ensures.items, c.in_ok-write_notes.ensures.items) (places_new _ _ _ _ (omega (arith, c.in_ok-read_notes.ensures.exact, c.len.ensures, c.args.reads.ok)) (omega (arith, c.in_ok-write_notes.ensures.exact, c.len-2.ensures, c.args.writes.ok)) c.requires.reads c.requires.writes)
