use Rattle.std.proofs.Common.{◌≡◌, ◌<◌, ℕ, List, map, length, true, sym, ap, subst, ◌∙◌, arith}
use Rattle.std.proofs.lemmas.Result.{IfOk-weaker}
use Rattle.law_histories.specs.Sim.{Workload}
use Rattle.sim_run.specs.Workloads.{workload}
use Rattle.run_report.specs.Report.{report_of}
use Rattle.txn_set.specs.Set.{Set}
use Rattle.step_journal.specs.declared.entry.Entry.{Entry}
use Rattle.step_journal.specs.History.{state_of}
use Rattle.io_edge.specs.Causes.{Rose}
use Rattle.scenario_run.specs.Ran.{HaltedBy}
use Rattle.command_replies.specs.declared.reply.Reply.{Reply}
use Rattle.command_replies.proofs.Replying.{taken, refused_by}
use Rattle.scenario_run.proofs.JournalBegun.{short, set_is_w, journaled, journaled_halted, journaled_named, halted_not_ok}
use Rattle.scenario_run.proofs.Kept.{kept_refused, kept_run_over}
use Rattle.scenario_run.proofs.journaled.run_over.Goals as goal

pub unopened-reply-requires-clause-places : goal.unopened-reply-requires-clause-places
unopened-reply-requires-clause-places g c = λ history sim. short c.requires.begun.0 _ _ c.requires.begun.1 history sim

pub returns-in-Err-clause-reply : goal.returns-in-Err-clause-reply
returns-in-Err-clause-reply g c = λ s b.
    let refused = rw c.set-declared.ensures at c.in-Err.ensures.refused in
    IfOk-weaker c.unopened-reply.result _ _
    (λ (r : Reply) h. journaled_named s _ _ b (g.D.Disk.seen c.args.disk) c.in-Err.error r.status r.text.items c.requires.ready.accepted c.requires.ready.obedient refused h)
    c.unopened-reply.ensures.reply

pub run_log-ran-requires-clause-places : goal.run_log-ran-requires-clause-places
run_log-ran-requires-clause-places g c = λ history sim.
    let less : length history < c.args.begun.room = short c.requires.begun.0 _ _ c.requires.begun.1 history sim in
    omega (arith, less)

pub returns-in-Ok-text-clause-reply : goal.returns-in-Ok-text-clause-reply
returns-in-Ok-text-clause-reply g c = λ s b.
    let names = c.args.begun.names in
    let kept = taken _ _ _ c.in-Ok-ran.is c.run_log-ran.ensures.kept in
    let found = rw c.set-declared.ensures at c.in-Ok.ensures.found in
    journaled s _ _ b (g.D.Disk.seen c.args.disk) c.in-Ok.found.1.items c.in-Ok-ran.history.items _ _ kept.sim kept.begins found (
      c.written.ensures.0,
      c.written.ensures.1 ∙ (c.in-Ok-text.ensures
          ∙ (ap (λ (q : Set). report_of names q true c.deref.result.now) c.set-declared.ensures ∙ ap (report_of names c.args.begun.set true) c.deref.ensures.value)),
    )

pub report_with_items-text-requires-clause-last : goal.report_with_items-text-requires-clause-last
report_with_items-text-requires-clause-last g c =
    let set : Set = c.set-declared.result.now in
    let history : List Entry = c.in-Ok-ran.history.items in
    let kept = taken _ _ _ c.in-Ok-ran.is c.run_log-ran.ensures.kept in
    let own : g.B.Board.set c.run_log-ran.new.runner.board ≡ set =
    c.run_log-ran.ensures.set ∙ (sym (set_is_w c.requires.begun.0 _ _ c.requires.begun.1) ∙ sym c.set-declared.ensures) in
    c.into_items-items.ensures history kept.stood
    ∙ (ap (λ (q : Set). (state_of q history).items) own ∙ ap (λ (l : List Entry). (state_of set l).items) (sym c.deref.ensures.value))

pub returns-in-Err-ran-clause-reply : goal.returns-in-Err-ran-clause-reply
returns-in-Err-ran-clause-reply g c = λ s b.
    let there = c.in-Ok.found.1.items in
    let halt = c.in-Err-ran.halt in
    let by = refused_by _ halt _ c.in-Err-ran.is c.run_log-ran.ensures.halted in
    let found = rw c.set-declared.ensures at c.in-Ok.ensures.found in
    IfOk-weaker c.halted.result _ _
    (λ (r : Reply) h. journaled_halted s _ _ b (g.D.Disk.seen c.args.disk) there _ _ halt r.status r.text.items by found h)
    c.halted.ensures.reply

pub returns-in-Err-ran-clause-holds : goal.returns-in-Err-ran-clause-holds
returns-in-Err-ran-clause-holds g c = λ s b.
    IfOk-weaker c.halted.result _ _ (λ (r : Reply) h. λ ok. absurd (halted_not_ok c.in-Err-ran.halt r.status r.text.items h ok)) c.halted.ensures.reply

pub returns-in-Err-ran-clause-fault : goal.returns-in-Err-ran-clause-fault
returns-in-Err-ran-clause-fault g c = λ is.
    let w : Workload = workload (g.B.Board.set c.args.runner.board) (map g.Y.Body.gives c.args.runner.bodies.items) c.args.runner.ticks.items in
    let before : ℕ = g.D.Disk.faults c.in-Ok.found.0.disk in
    let now : ℕ = g.D.Disk.faults c.run_log-ran.result.1 in
    let by : HaltedBy w c.in-Ok.found.1.items before now c.in-Err-ran.halt = refused_by _ _ _ c.in-Err-ran.is c.run_log-ran.ensures.halted in
    let rose : Rose before now = subst (HaltedBy w c.in-Ok.found.1.items before now) (c.halted.ensures.fault is) by in
    omega (arith, rose, c.in-Ok.ensures.later)

pub returns-in-Err-clause-left : goal.returns-in-Err-clause-left
returns-in-Err-clause-left g c = λ s b.
    let d = g.D.Disk in
    let made = rw c.set-declared.ensures at c.in-Err.ensures.made_err in
    kept_refused d.seen d.may_leave d.moment d.left_since s _ _ b c.in-Err.error c.args.disk c.in-Err.disk made

pub returns-in-Ok-text-clause-left : goal.returns-in-Ok-text-clause-left
returns-in-Ok-text-clause-left g c = λ s b.
    let d = g.D.Disk in
    let new = c.run_log-ran.result.1 in
    let found = rw c.set-declared.ensures at c.in-Ok.ensures.found in
    let made = rw c.set-declared.ensures at c.in-Ok.ensures.made in
    kept_run_over d.seen d.may_leave d.moment d.left_since s _ _ b c.in-Ok.found.1.items c.run_log-ran.result.0 c.args.disk c.in-Ok.found.0.disk new
    (λ f t le left. g.met.D.Disk.counts_now new t f le left) (g.met.D.Disk.seen_may_stay new) c.in-Ok.ensures.told.0 found made c.run_log-ran.ensures.left

pub returns-in-Err-text-clause-left : goal.returns-in-Err-text-clause-left
returns-in-Err-text-clause-left g c = λ s b.
    let d = g.D.Disk in
    let new = c.run_log-ran.result.1 in
    let found = rw c.set-declared.ensures at c.in-Ok.ensures.found in
    let made = rw c.set-declared.ensures at c.in-Ok.ensures.made in
    kept_run_over d.seen d.may_leave d.moment d.left_since s _ _ b c.in-Ok.found.1.items c.run_log-ran.result.0 c.args.disk c.in-Ok.found.0.disk new
    (λ f t le left. g.met.D.Disk.counts_now new t f le left) (g.met.D.Disk.seen_may_stay new) c.in-Ok.ensures.told.0 found made c.run_log-ran.ensures.left

pub returns-in-Err-ran-clause-left : goal.returns-in-Err-ran-clause-left
returns-in-Err-ran-clause-left g c = λ s b.
    let d = g.D.Disk in
    let new = c.run_log-ran.result.1 in
    let found = rw c.set-declared.ensures at c.in-Ok.ensures.found in
    let made = rw c.set-declared.ensures at c.in-Ok.ensures.made in
    kept_run_over d.seen d.may_leave d.moment d.left_since s _ _ b c.in-Ok.found.1.items c.run_log-ran.result.0 c.args.disk c.in-Ok.found.0.disk new
    (λ f t le left. g.met.D.Disk.counts_now new t f le left) (g.met.D.Disk.seen_may_stay new) c.in-Ok.ensures.told.0 found made c.run_log-ran.ensures.left
