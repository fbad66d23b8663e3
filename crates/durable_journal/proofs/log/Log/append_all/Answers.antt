use Rattle.std.proofs.Common.{◌≡◌, ◌+◌, ◌++◌, ◌∙◌, List, ℕ, length, get_or, arith, ap, sym, subst, length-append}
use Rattle.std.proofs.lemmas.List.{get_or-append_right}
use Rattle.step_journal.specs.declared.entry.Entry.{Entry}
use Rattle.journal_text.specs.Lines.{IsWritable}
use Rattle.durable_disk.specs.Records.{HasFirst, Reads}
use Rattle.durable_disk.specs.Standing.{Stands}
use Rattle.durable_disk.proofs.Calls.{at_rest, each_told}
use Rattle.durable_journal.specs.Format.{bodies_of, entry_bodies}
use Rattle.durable_journal.specs.Log.{HasSome, IsLeft}
use Rattle.durable_journal.proofs.Crash.{is_left, weaken}
use Rattle.durable_journal.proofs.Runs.{some_none, started, run_on}
use Rattle.durable_journal.proofs.Pieces.{bodies_append, fit_append, length-bodies, none_opens, nothing_staged, on_ok_going, some_opens}
use Rattle.durable_journal.proofs.log.Log.append_all.Goals as goal

pub stage_all-requires-clause-writable : goal.stage_all-requires-clause-writable
stage_all-requires-clause-writable g c k e within =
    let names = c.args.names.now in
    let es = c.args.entries.now in
    let given = c.requires.legal in
    let front : List Entry = given.0 in
    let all = c.legal_has_lines.ensures names c.args.set.now (front ++ es) c.requires.same c.is_compiled.ensures given.2 in
    let here : get_or (front ++ es) (length front + k) e ≡ get_or es k e =
    get_or-append_right front es (length front) (length front + k) e (omega arith) (omega arith) ∙ ap (λ (i : ℕ). get_or es i e) (omega arith) in
    subst (λ x. IsWritable names x) here (all (length front + k) e (omega (arith, within, length-append front es)))

pub returns-in_err-stage_all-clause-any_moment : goal.returns-in_err-stage_all-clause-any_moment
returns-in_err-stage_all-clause-any_moment g c before legal goes s told =
    let d = g.D.Disk in
    let names = c.args.names.now in
    let set = c.args.set.now in
    let old = c.args.self.now in
    let es = c.args.entries.now in
    let bodies = bodies_of names before in
    let rest = at_rest (d.seen old.disk) (d.may_leave old.disk) old.count old.stopped bodies goes s.records in
    weaken d.moment d.left_since old.disk c.stage_all.new.self.disk (λ f. Reads f bodies) (HasSome names set before es)
    (c.stage_all.ensures.any_moment bodies rest.0 (nothing_staged (d.seen old.disk) (d.may_leave old.disk) bodies rest.1) told)
    (λ image r. none_opens c.lines_both_ways.ensures c.found_as_read.ensures.found names c.requires.names.0 c.requires.names.1 set before es s.fit legal image r)

pub returns-clause-any_moment : goal.returns-clause-any_moment
returns-clause-any_moment g c before legal goes s told =
    let d = g.D.Disk in
    let names = c.args.names.now in
    let set = c.args.set.now in
    let old = c.args.self.now in
    let mid = c.stage_all.new.self in
    let es = c.args.entries.now in
    let bodies = bodies_of names before in
    let more = entry_bodies names es in
    let rest = at_rest (d.seen old.disk) (d.may_leave old.disk) old.count old.stopped bodies goes s.records in
    let staging = nothing_staged (d.seen old.disk) (d.may_leave old.disk) bodies rest.1 in
    let first = weaken d.moment d.left_since old.disk mid.disk (λ f. Reads f bodies) (HasSome names set before es)
    (c.stage_all.ensures.any_moment bodies rest.0 staging told)
    (λ image r. none_opens c.lines_both_ways.ensures c.found_as_read.ensures.found names c.requires.names.0 c.requires.names.1 set before es s.fit legal image r) in
    run_on d.moment d.left_since old.disk mid.disk c.open_all.new.self.disk (HasSome names set before es) (HasFirst bodies more) first
    (c.open_all.ensures.any_moment bodies more (c.stage_all.ensures.count ∙ rest.0) (omega (arith, length-bodies names es)) (c.in_ok-stage_all.ensures.staged bodies rest.0 staging) (c.stage_all.ensures.faults.told.0 told))
    (λ image some. some_opens c.lines_both_ways.ensures c.found_as_read.ensures.found names c.requires.names.0 c.requires.names.1 set before es s.fit legal image c.in_ok-stage_all.ensures.fit some)

pub returns-clause-stands : goal.returns-clause-stands
returns-clause-stands g c =
    let d = g.D.Disk in
    let names = c.args.names.now in
    let old = c.args.self.now in
    let mid = c.stage_all.new.self in
    let new = c.open_all.new.self in
    let es = c.args.entries.now in
    on_ok_going c.open_all.result mid.stopped c.open_all.ensures.halts.stopped c.open_all.ensures.stands c.open_all.ensures.count (λ going stands count before legal s.
    let bodies = bodies_of names before in
    let more = entry_bodies names es in
    let rest = at_rest (d.seen old.disk) (d.may_leave old.disk) old.count old.stopped bodies (sym c.in_ok-stage_all.ensures.same ∙ going) s.records in
    let staging = nothing_staged (d.seen old.disk) (d.may_leave old.disk) bodies rest.1 in
    record {
      legal = legal;
      fit = fit_append names before es s.fit c.in_ok-stage_all.ensures.fit;
      headed = omega (arith, s.headed, count, c.stage_all.ensures.count);
      records = subst (λ (l : List (List ℕ)). Stands (d.seen new.disk) (d.may_leave new.disk) new.count new.stopped l) (bodies_append names before es)
          (stands bodies more (c.stage_all.ensures.count ∙ rest.0) (omega (arith, length-bodies names es)) (c.in_ok-stage_all.ensures.staged bodies rest.0 staging));
    })

pub returns-then-is_empty-clause-any_moment : goal.returns-then-is_empty-clause-any_moment
returns-then-is_empty-clause-any_moment g c before legal goes s told =
    let d = g.D.Disk in
    let names = c.args.names.now in
    let set = c.args.set.now in
    let log = c.args.self.now in
    started d.moment d.left_since log.disk (HasSome names set before c.args.entries.now) (d.may_leave log.disk) (g.met.D.Disk.only_now log.disk)
    (λ image left. some_none names set before c.args.entries.now log.stopped image goes
    (each_told (d.seen log.disk) (d.may_leave log.disk) (IsLeft names set log.stopped before) told
    (is_left c.lines_both_ways.ensures c.found_as_read.ensures.found names c.requires.names.0 c.requires.names.1 set (d.seen log.disk) (d.may_leave log.disk) log.count log.stopped before s) image left))
