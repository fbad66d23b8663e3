use Rattle.std.proofs.Common.{◌≡◌, ◌+◌, ◌≤◌, ◌++◌, take, vec_len, vec_capacity}
use Rattle.journal_text.proofs.writing.put.Given as goal

abbrev pub invariant-loop-i : goal.invariant-loop-i
invariant-loop-i l = record {
  items : l.into.items ≡ l.fn.into.items ++ take l.i l.bytes;
  len : vec_len l.into ≡ vec_len l.fn.into + l.i;
  room : vec_capacity l.fn.into ≤ vec_capacity l.into;
}
