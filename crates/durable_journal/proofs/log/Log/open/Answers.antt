use Rattle.std.proofs.Common.{◌+◌, ◌≡◌, arith, sym, subst}
use Rattle.std.specs.Prelude.{IfSome}
use Rattle.durable_disk.specs.Standing.{RecordsSeen}
use Rattle.durable_journal.specs.Log.{Stood}
use Rattle.durable_journal.specs.Opened.{Touches, with_gate}
use Rattle.durable_journal.proofs.Opening.{open_stands}
use Rattle.durable_journal.proofs.Ending.{touches_err, touches_ok, length_same}
use Rattle.durable_journal.proofs.log.Log.open.Goals as goal

pub returns-clause-stands : goal.returns-clause-stands
returns-clause-stands g c =
    let d = g.D.Disk in
    let scan = c.in-Ok-scan_disk in
    let law = c.found_as_read.ensures in
    let judged = c.in-Ok-judge.ensures.good in
    subst (λ (log : RecordsSeen _). Stood c.args.names.now c.args.set.now (d.seen log.disk) (d.may_leave log.disk) log.count log.stopped c.in-Ok-judge.entries.items) (sym c.over-records.ensures)
    (open_stands c.lines_both_ways.ensures law.found law.wide law.closed c.args.names.now c.requires.names.0 c.requires.names.1 c.args.set.now c.args.room
    d.seen d.may_leave c.scan_disk.new.disk c.close_end.new.disk (d.seen c.args.disk) (c.len.result + 1) scan.found.1 scan.found.0.items c.in-Ok-judge.entries.items
    scan.ensures.passes.same scan.ensures.settled scan.ensures.scanned scan.ensures.read.fit judged.0 judged.1 judged.2 (omega (arith, c.len.ensures)) c.close_end.ensures.told
    (λ ends. (c.close_end.ensures.same ends).1) c.in-Ok-close_end.ensures.closed)

pub returns-in_default-close_end-clause-touched_err : goal.returns-in_default-close_end-clause-touched_err
returns-in_default-close_end-clause-touched_err g c =
    let d = g.D.Disk in
    let names = c.args.names.now in
    let scan = c.in-Ok-scan_disk in
    let judged = c.in-Ok-judge.ensures.good in
    touches_err names (c.lines_both_ways.ensures names c.requires.names.0 c.requires.names.1) c.found_as_read.ensures.wide c.args.set.now c.args.room
    d.seen d.may_leave d.moment d.left_since c.args.disk c.scan_disk.new.disk c.close_end.new.disk scan.ensures.passes scan.ensures.settled scan.found.1 scan.found.0.items judged.1
    (c.len.result + 1) (omega (arith, c.len.ensures, length_same c.in-Ok-judge.entries.items scan.found.0.items judged.0)) (λ ends. (c.close_end.ensures.same ends).1) c.close_end.ensures.within scan.ensures.scanned

pub returns-clause-touched : goal.returns-clause-touched
returns-clause-touched g c =
    let d = g.D.Disk in
    let names = c.args.names.now in
    let scan = c.in-Ok-scan_disk in
    let judged = c.in-Ok-judge.ensures.good in
    subst (λ (log : RecordsSeen _). IfSome (d.seen c.args.disk) (λ file. Touches d.seen d.may_leave d.moment d.left_since names c.args.set.now c.args.room file (λ now. now ≡ with_gate file) c.args.disk log.disk)) (sym c.over-records.ensures)
    (touches_ok names (c.lines_both_ways.ensures names c.requires.names.0 c.requires.names.1) c.found_as_read.ensures.wide c.args.set.now c.args.room
    d.seen d.may_leave d.moment d.left_since c.args.disk c.scan_disk.new.disk c.close_end.new.disk scan.ensures.passes scan.ensures.settled scan.found.1 scan.found.0.items judged.1
    (c.len.result + 1) (omega (arith, c.len.ensures, length_same c.in-Ok-judge.entries.items scan.found.0.items judged.0)) (λ ends. (c.close_end.ensures.same ends).1) c.close_end.ensures.within c.in-Ok-close_end.ensures.closed scan.ensures.scanned)
