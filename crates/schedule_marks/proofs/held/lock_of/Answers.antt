use Rattle.std.proofs.Common.{◌≡◌, Some, inl, inr}
use Rattle.step_journal.specs.declared.entry.Entry.TheVariants.{Step}
use Rattle.schedule_marks.specs.Marks.{lock_by}
use Rattle.schedule_marks.proofs.Along.{none_taken, one_taken}
use Rattle.schedule_marks.proofs.held.lock_of.Goals.{then-not-meets-via-then-not-meets, then-not-meets-via-else-not-meets+then-is_shown}
use Rattle.schedule_marks.proofs.held.lock_of.Goals as goal

pub returns-then-not-meets : goal.returns-then-not-meets
returns-then-not-meets c =
    let s = c.in-Step in
    let t = c.in-Some in
    let entry_is : c.args.entry.now ≡ Step s.job s.op s.outcome s.over s.tick = cc (s.is) in
    let taken : lock_by s.op s.outcome ≡ Some (t.item, t.is_write) = cc (t.ensures) in
    let end = c.until_of-end.result in
    none_taken c.args.set.now c.args.window.part c.args.window.stop c.args.rows.now c.args.before.now c.args.after.now c.args.entry.now s.job s.op s.outcome s.over s.tick end t.item t.is_write entry_is taken (cc (c.until_of-end.ensures))
    (elim c.then-not-meets.branch [
      | then-not-meets-via-then-not-meets w ↦ inl (cc (c.meets.ensures, w.if-not-meets.true))
      | then-not-meets-via-else-not-meets+then-is_shown w ↦ inr (cc (w.is_shown.ensures, w.if-is_shown.true))
    ])

pub returns-else-is_shown : goal.returns-else-is_shown
returns-else-is_shown c =
    let s = c.in-Step in
    let t = c.in-Some in
    let entry_is : c.args.entry.now ≡ Step s.job s.op s.outcome s.over s.tick = cc (s.is) in
    let taken : lock_by s.op s.outcome ≡ Some (t.item, t.is_write) = cc (t.ensures) in
    let end = c.until_of-end.result in
    one_taken c.args.set.now c.args.window.part c.args.window.stop c.args.rows.now c.args.before.now c.args.after.now c.args.entry.now s.job s.op s.outcome s.over s.tick end t.item t.is_write entry_is taken (cc (c.until_of-end.ensures))
    c.held_until-to.result c.lock_mark.result (cc (c.is_shown.ensures, c.if-is_shown.false)) (cc (c.held_until-to.ensures)) (cc (c.lock_mark.ensures))
