use Rattle.std.proofs.Common.{◌≡◌, ◌+◌, ◌*◌, ◌≤◌, ◌++◌, take, vec_len, vec_capacity}
use Rattle.std.specs.List.{All}
use Rattle.journal_text.specs.Next.{IsOwn}
use Rattle.journal_text.specs.Lines.{HasLine, whole_lines}
use Rattle.journal_text.proofs.entry_writing.write_entries.Given as goal

abbrev pub invariant-loop-i : goal.invariant-loop-i
invariant-loop-i l = record {
  items : l.lines.items ≡ l.initial.lines.items ++ whole_lines l.names (take l.i l.entries);
  lines : All (HasLine l.names) (take l.i l.entries);
  len : vec_len l.lines ≤ vec_len l.initial.lines + 255 * l.i;
  room : vec_capacity l.initial.lines ≤ vec_capacity l.lines;
  own : IsOwn l.names l.likely;
}
