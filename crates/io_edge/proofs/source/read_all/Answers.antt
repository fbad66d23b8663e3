use Rattle.std.proofs.Common.{◌++◌, take, arith, length-append}
use Rattle.io_edge.proofs.Known.{consumes_then}
use Rattle.io_edge.proofs.source.read_all.Goals as goal

-- the piece was taken, and passed the limit
pub returns-then-count-limit-clause-bytes : goal.returns-then-count-limit-clause-bytes
returns-then-count-limit-clause-bytes g c =
    let before = c.loop-count.bytes.items in
    let piece = take c.in-Ok.count c.take.new.into in
    record {
      bytes = before ++ piece;
      consumed = consumes_then _ _ _ _ _ c.loop-count.invariant.so_far c.in-Ok.ensures.bytes.0;
      many = omega (arith, length-append before piece, c.in-Ok.ensures.bound.1, c.len.ensures, c.if-count-limit.true);
    }

-- the piece was taken, and had no room
pub returns-then-is_err-clause-bytes : goal.returns-then-is_err-clause-bytes
returns-then-is_err-clause-bytes g c =
    let before = c.loop-count.bytes.items in
    let piece = take c.in-Ok.count c.take.new.into in
    record {
      bytes = before ++ piece;
      consumed = consumes_then _ _ _ _ _ c.loop-count.invariant.so_far c.in-Ok.ensures.bytes.0;
      many = omega (
        arith,
        length-append before piece,
        c.in-Ok.ensures.bound.1,
        c.len.ensures,
        c.if-count-limit.false,
        c.loop-count.invariant.within,
      );
    }
