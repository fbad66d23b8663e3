use Rattle.std.proofs.Common.{append-nil, refl, sym, arith}
use Rattle.journal_text.proofs.LinesLaws.{lines_go, lines_end, all_more}
use Rattle.journal_text.proofs.entry_writing.write_entries.Goals as goal

pub loop-i-init : goal.loop-i-init
loop-i-init c = record {
  items = sym (append-nil c.replace-lines.result.items);
  lines = λ k d lt. absurd (omega (arith, lt));
  len = omega arith;
  room = omega arith;
  own = c.new-likely.ensures.own c.args.names.now;
}

pub loop-i-preserved-then-put_likely : goal.loop-i-preserved-then-put_likely
loop-i-preserved-then-put_likely c =
    let inv = c.loop-i.invariant in
    record {
      items =
          lines_go c.args.names.now c.args.entries.now c.loop-i.i _ c.replace-lines.result.items c.loop-i.lines.items c.put_likely.new.into.items
          c.loop-i-test.true inv.items (c.if-put_likely.ensures.items refl);
      lines = all_more c.args.names.now c.args.entries.now c.loop-i.i _ c.loop-i-test.true inv.lines (c.if-put_likely.ensures.line refl);
      len = omega (arith, inv.len, c.put_likely.ensures.len);
      room = omega (arith, inv.room, c.put_likely.ensures.room);
      own = c.put_likely.ensures.own;
    }

pub loop-i-preserved : goal.loop-i-preserved
loop-i-preserved c =
    let inv = c.loop-i.invariant in
    let same = c.if-put_likely.ensures.other refl in
    record {
      items =
          lines_end c.args.names.now c.args.entries.now c.loop-i.i _ c.replace-lines.result.items c.loop-i.lines.items c.put_likely.new.into.items
          c.put_entry.new.into.items c.push_reserved.new.self.items c.loop-i-test.true inv.items same.0 c.put_entry.ensures.items c.push_reserved.ensures.items;
      lines = all_more c.args.names.now c.args.entries.now c.loop-i.i _ c.loop-i-test.true inv.lines c.put_entry.ensures.line;
      len = omega (arith, inv.len, same.1, c.put_entry.ensures.len, c.push_reserved.ensures.len);
      room = omega (arith, inv.room, c.put_likely.ensures.room, c.put_entry.ensures.room, c.push_reserved.ensures.capacity);
      own = c.put_entry.ensures.own;
    }
