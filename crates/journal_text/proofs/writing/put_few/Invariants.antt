use Rattle.std.proofs.Common.{◌≡◌, ◌+◌, ◌≤◌, ◌++◌, length, vec_len, vec_capacity}
use Rattle.journal_text.proofs.writing.put_few.Given as goal

abbrev pub invariant-loop-left : goal.invariant-loop-left
invariant-loop-left l = record {
  items : l.into.items ++ l.left ≡ l.fn.into.items ++ l.bytes;
  len : vec_len l.into + length l.left ≡ vec_len l.fn.into + length l.bytes;
  room : vec_capacity l.fn.into ≤ vec_capacity l.into;
}

abbrev pub decreases-loop-left : goal.decreases-loop-left
decreases-loop-left l = length l.left
