use Rattle.std.proofs.Common.{◌≡◌, ◌+◌, ◌-◌, ◌≤◌, [], length, IfSome, vec_len, ◌^◌}
use Rattle.std.specs.List.{AllByRecursion}
use Rattle.durable_journal.specs.Log.{Fits}
use Rattle.durable_journal.specs.Texts.{texts_from}
use Rattle.durable_journal.specs.Opened.{Passes}
use Rattle.durable_journal.proofs.scan.read_entries.Given as goal

abbrev pub invariant-loop-entries : goal.invariant-loop-entries
invariant-loop-entries g l =
    let d = g.D.Disk in
    record {
      within : vec_len l.entries ≤ l.room;
      few : vec_len l.entries ≤ 2 ^ 47;
      fit : AllByRecursion (Fits l.names) l.entries.items;
      so_far : IfSome (d.seen l.fn.disk) (λ file. texts_from l.names (length l.entries.items + 1) (l.room - length l.entries.items) l.entries.items file ≡ texts_from l.names 1 l.room [] file);
      passes : Passes d.seen d.may_leave d.moment d.left_since l.fn.disk l.disk;
      later : d.faults l.fn.disk ≤ d.faults l.disk;
    }

abbrev pub decreases-loop-entries : goal.decreases-loop-entries
decreases-loop-entries g l = l.room - vec_len l.entries
