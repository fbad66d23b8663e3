use Rattle.std.proofs.Common.{◌≡◌, inl, inr, ⊎_elim, [], List, map, Some, sym, ap, subst, ◌∙◌}
use Rattle.rt_base.specs.declared.name.Names.{Names}
use Rattle.step_journal.specs.declared.entry.Entry.{Entry}
use Rattle.law_histories.specs.Sim.{Workload}
use Rattle.sim_run.specs.Workloads.{workload}
use Rattle.scenario_run.specs.Ran.{IsKept}
use Rattle.txn_set.specs.Set.{Set}
use Rattle.durable_disk.specs.Standing.{RecordsSeen}
use Rattle.scenario_run.specs.Outs.{IsGoing}
use Rattle.scenario_run.proofs.Outs.{kept_run, going_first, whole_left, behind_left, fault_left, other_left, moved_run, some_is}
use Rattle.scenario_run.proofs.over.run_log.Goals as goal

pub returns-in-None-clause-kept : goal.returns-in-None-clause-kept
returns-in-None-clause-kept g c =
    let d = g.D.Disk in
    let w : Workload = workload (g.B.Board.set c.args.runner.now.board) (map g.Y.Body.gives c.args.runner.now.bodies.items) c.args.runner.now.ticks.items in
    let stands : List Entry → Type 0 = g.B.Board.stands c.run_out-ran.new.runner.board in
    let new = c.run_out-ran.new.out in
    let disk = c.into_disk-disk.result in
    let got = c.in-Ok.ensures.got in
    let kept : IsKept w stands c.new-out.result.names.now (d.seen disk) (d.may_leave disk) new.there.items new.kept.items =
    kept_run d.seen d.may_leave d.moment d.left_since c.new-out.result.log.disk w stands c.new-out.result.names.now new.log new.there.items new.kept.items got (c.in-None.ensures.first got.going.agrees)
    (g.met.D.Disk.seen_may_stay new.log.disk) c.after_crash-2.ensures disk c.into_disk-disk.ensures in
    subst (λ (n : Names). IsKept w stands n (d.seen disk) (d.may_leave disk) c.args.found.1.items new.kept.items) c.new-out.ensures.names
    (subst (λ (l : List Entry). IsKept w stands c.new-out.result.names.now (d.seen disk) (d.may_leave disk) l new.kept.items) (c.run_out-ran.ensures.there ∙ c.new-out.ensures.there) kept)

pub run_out-ran-requires-clause-going : goal.run_out-ran-requires-clause-going
run_out-ran-requires-clause-going g c =
    let d = g.D.Disk in
    let log = c.args.found.0 in
    let first = c.new-out.result in
    let here = going_first d.seen d.may_leave d.moment d.left_since c.args.names.now c.args.set.now log c.args.found.1.items c.requires.names c.requires.one_each c.requires.goes c.requires.stands
    (g.met.D.Disk.only_now log.disk) c.after_crash.ensures in
    subst (λ (n : Names). IsGoing d.seen d.may_leave d.moment d.left_since n first.set.now (Some first.log.disk) first.log first.there.items []) (sym c.new-out.ensures.names)
    (subst (λ (q : Set). IsGoing d.seen d.may_leave d.moment d.left_since c.args.names.now q (Some first.log.disk) first.log first.there.items []) (sym c.new-out.ensures.set)
    (subst (λ (l : RecordsSeen _). IsGoing d.seen d.may_leave d.moment d.left_since c.args.names.now c.args.set.now (Some l.disk) l first.there.items []) (sym c.new-out.ensures.log)
    (subst (λ (t : List Entry). IsGoing d.seen d.may_leave d.moment d.left_since c.args.names.now c.args.set.now (Some log.disk) log t []) (sym c.new-out.ensures.there) here)))

pub returns-in-None-clause-left : goal.returns-in-None-clause-left
returns-in-None-clause-left g c =
    let d = g.D.Disk in
    let w : Workload = workload (g.B.Board.set c.args.runner.now.board) (map g.Y.Body.gives c.args.runner.now.bodies.items) c.args.runner.now.ticks.items in
    let stands : List Entry → Type 0 = g.B.Board.stands c.run_out-ran.new.runner.board in
    let new = c.run_out-ran.new.out in
    let first = c.new-out.result in
    let disk = c.into_disk-disk.result in
    let there_is : new.there.items ≡ c.args.found.1.items = c.run_out-ran.ensures.there ∙ c.new-out.ensures.there in
    let names_are : first.names.now ≡ c.args.names.now = c.new-out.ensures.names in
    let log_is = c.new-out.ensures.log in
    let got = c.in-Ok.ensures.got in
    let here = whole_left d.seen d.may_leave d.moment d.left_since w stands first.names.now first.log.disk new.log new.there.items new.kept.items got (c.in-None.ensures.first got.going.agrees) in
    moved_run d.seen d.may_leave d.moment d.left_since w c.args.names.now first.names.now c.args.found.0.disk first.log.disk disk new.log.disk c.args.found.1.items new.there.items names_are (ap (λ (l : RecordsSeen _). l.disk) log_is) c.into_disk-disk.ensures there_is here

pub returns-in-Ok-clause-left : goal.returns-in-Ok-clause-left
returns-in-Ok-clause-left g c =
    let d = g.D.Disk in
    let w : Workload = workload (g.B.Board.set c.args.runner.now.board) (map g.Y.Body.gives c.args.runner.now.bodies.items) c.args.runner.now.ticks.items in
    let stands : List Entry → Type 0 = g.B.Board.stands c.run_out-ran.new.runner.board in
    let new = c.run_out-ran.new.out in
    let first = c.new-out.result in
    let disk = c.into_disk-disk.result in
    let there_is : new.there.items ≡ c.args.found.1.items = c.run_out-ran.ensures.there ∙ c.new-out.ensures.there in
    let names_are : first.names.now ≡ c.args.names.now = c.new-out.ensures.names in
    let log_is = c.new-out.ensures.log in
    c.into_disk-disk.ensures ∙ (behind_left d.seen d.may_leave d.moment d.left_since w stands first.names.now first.log.disk new.log new.there.items new.kept.items c.in-Ok.ensures.got (c.left_over-behind.ensures.behind (some_is c.left_over-behind.result c.in-Some.number c.in-Some.is)) ∙ ap (λ (l : RecordsSeen _). l.disk) log_is)

pub returns-in-None-at-clause-left : goal.returns-in-None-at-clause-left
returns-in-None-at-clause-left g c =
    let d = g.D.Disk in
    let w : Workload = workload (g.B.Board.set c.args.runner.now.board) (map g.Y.Body.gives c.args.runner.now.bodies.items) c.args.runner.now.ticks.items in
    let stands : List Entry → Type 0 = g.B.Board.stands c.run_out-ran.new.runner.board in
    let new = c.run_out-ran.new.out in
    let first = c.new-out.result in
    let disk = c.into_disk-disk.result in
    let there_is : new.there.items ≡ c.args.found.1.items = c.run_out-ran.ensures.there ∙ c.new-out.ensures.there in
    let names_are : first.names.now ≡ c.args.names.now = c.new-out.ensures.names in
    let log_is = c.new-out.ensures.log in
    let disk_is = ap (λ (l : RecordsSeen _). l.disk) log_is in
    ⊎_elim
    (λ same. inl (c.into_disk-disk.ensures ∙ (same ∙ disk_is)))
    (λ here. inr (moved_run d.seen d.may_leave d.moment d.left_since w c.args.names.now first.names.now c.args.found.0.disk first.log.disk disk new.log.disk c.args.found.1.items new.there.items names_are disk_is c.into_disk-disk.ensures there_is here))
    (fault_left d.seen d.may_leave d.moment d.left_since w first.names.now first.log.disk new.log new.standing new.there.items new.kept.items c.in-Err.ensures.halted (c.stopped_at-at.ensures.fault c.in-None-at.is))

pub returns-clause-left : goal.returns-clause-left
returns-clause-left g c =
    let d = g.D.Disk in
    let w : Workload = workload (g.B.Board.set c.args.runner.now.board) (map g.Y.Body.gives c.args.runner.now.bodies.items) c.args.runner.now.ticks.items in
    let stands : List Entry → Type 0 = g.B.Board.stands c.run_out-ran.new.runner.board in
    let new = c.run_out-ran.new.out in
    let first = c.new-out.result in
    let disk = c.into_disk-disk.result in
    let there_is : new.there.items ≡ c.args.found.1.items = c.run_out-ran.ensures.there ∙ c.new-out.ensures.there in
    let names_are : first.names.now ≡ c.args.names.now = c.new-out.ensures.names in
    let log_is = c.new-out.ensures.log in
    c.into_disk-disk.ensures
    ∙ (other_left d.seen d.may_leave d.moment d.left_since w first.names.now first.log.disk new.log new.standing new.there.items new.kept.items c.in-Err.ensures.halted
    (c.stopped_at-at.ensures.stopped (some_is c.stopped_at-at.result c.in-Some-at.number c.in-Some-at.is)) ∙ ap (λ (l : RecordsSeen _). l.disk) log_is)
