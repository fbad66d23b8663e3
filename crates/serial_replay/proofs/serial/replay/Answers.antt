use Rattle.std.proofs.Common.{◌∙◌, List}
use Rattle.rt_base.specs.declared.ids.JobId.{JobId}
use Rattle.step_journal.specs.declared.entry.Entry.{Entry}
use Rattle.law_histories.specs.Protocol.{DelayedByOne}
use Rattle.txn_set.specs.Set.{Set}
use Rattle.serial_replay.proofs.Replayed.{rows_low}
use Rattle.serial_replay.proofs.serial.replay.Goals as goal

pub returns-clause-ok : goal.returns-clause-ok
returns-clause-ok c =
    let set : Set = c.args.set.now in
    let entries : List Entry = c.args.entries.now in
    let ok = c.is_compiled.ensures in
    let legal = c.in_ok-items.ensures.legal in
    let serial = c.serial_replies.ensures set entries ok legal in
    let jobs = c.in_ok-jobs.ensures in
    let one : (job : JobId) → DelayedByOne c.args.set.now c.args.entries.now job = λ job. c.one_delay.ensures set entries job ok legal in
    record {
      legal = legal;
      items_are = c.in_ok-items.ensures.items ∙ serial.items;
      jobs_are = jobs;
      serial = serial;
      pending = λ job row here. c.pending_replies.ensures set entries job row ok legal here;
      delays = rows_low set entries c.in_ok-jobs.jobs jobs one;
      one_delay = one;
      fresh = λ admitted steady. c.freshness.ensures set entries ok admitted legal steady;
    }
