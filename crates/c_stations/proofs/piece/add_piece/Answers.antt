use Rattle.std.proofs.Common.{◌∙◌, List, ℕ, arith, subst}
use Rattle.durable_disk.specs.Records.{HasFirst, Reads}
use Rattle.durable_disk.specs.Standing.{Stands}
use Rattle.durable_disk.proofs.Calls.{at_rest}
use Rattle.durable_journal.specs.Format.{bodies_of, entry_bodies}
use Rattle.durable_journal.specs.Log.{HasSome}
use Rattle.durable_journal.proofs.Crash.{weaken}
use Rattle.durable_journal.proofs.Runs.{run_on}
use Rattle.durable_journal.proofs.Pieces.{bodies_append, fit_append, length-bodies, none_opens, nothing_staged, some_opens}
use Rattle.c_stations.proofs.Staged.{on_ok}
use Rattle.c_stations.proofs.piece.add_piece.Goals as goal

pub returns-in_err-stage_all-clause-any_moment : goal.returns-in_err-stage_all-clause-any_moment
returns-in_err-stage_all-clause-any_moment g c set before legal s told =
    let d = g.D.Disk in
    let names = c.args.names.now in
    let old = c.args.records.now in
    let es = c.args.entries.now in
    let bodies = bodies_of names before in
    let rest = at_rest (d.seen old.disk) (d.may_leave old.disk) old.count old.stopped bodies c.requires.goes s.records in
    weaken d.moment d.left_since old.disk c.stage_all.new.records.disk (λ f. Reads f bodies) (HasSome names set before es)
    (c.stage_all.ensures.any_moment bodies rest.0 (nothing_staged (d.seen old.disk) (d.may_leave old.disk) bodies rest.1) told)
    (λ image r. none_opens c.lines_both_ways.ensures c.found_as_read.ensures.found names c.requires.names.0 c.requires.names.1 set before es s.fit legal image r)

pub returns-clause-any_moment : goal.returns-clause-any_moment
returns-clause-any_moment g c set before legal s told =
    let d = g.D.Disk in
    let names = c.args.names.now in
    let old = c.args.records.now in
    let mid = c.stage_all.new.records in
    let es = c.args.entries.now in
    let bodies = bodies_of names before in
    let more = entry_bodies names es in
    let rest = at_rest (d.seen old.disk) (d.may_leave old.disk) old.count old.stopped bodies c.requires.goes s.records in
    let staging = nothing_staged (d.seen old.disk) (d.may_leave old.disk) bodies rest.1 in
    let first = weaken d.moment d.left_since old.disk mid.disk (λ f. Reads f bodies) (HasSome names set before es)
    (c.stage_all.ensures.any_moment bodies rest.0 staging told)
    (λ image r. none_opens c.lines_both_ways.ensures c.found_as_read.ensures.found names c.requires.names.0 c.requires.names.1 set before es s.fit legal image r) in
    run_on d.moment d.left_since old.disk mid.disk c.open_staged.new.self.disk (HasSome names set before es) (HasFirst bodies more) first
    (c.open_staged.ensures.any_moment bodies more (c.stage_all.ensures.count ∙ rest.0) (omega (arith, length-bodies names es)) (c.in_ok-stage_all.ensures.staged bodies rest.0 staging) (c.stage_all.ensures.told.0 told))
    (λ image some. some_opens c.lines_both_ways.ensures c.found_as_read.ensures.found names c.requires.names.0 c.requires.names.1 set before es s.fit legal image c.in_ok-stage_all.ensures.fit some)

pub returns-clause-stands : goal.returns-clause-stands
returns-clause-stands g c =
    let d = g.D.Disk in
    let names = c.args.names.now in
    let old = c.args.records.now in
    let mid = c.stage_all.new.records in
    let new = c.open_staged.new.self in
    let es = c.args.entries.now in
    on_ok c.open_staged.result c.open_staged.ensures.stands c.open_staged.ensures.count (λ stands count set before legal s.
    let bodies = bodies_of names before in
    let more = entry_bodies names es in
    let rest = at_rest (d.seen old.disk) (d.may_leave old.disk) old.count old.stopped bodies c.requires.goes s.records in
    let staging = nothing_staged (d.seen old.disk) (d.may_leave old.disk) bodies rest.1 in
    record {
      legal = legal;
      fit = fit_append names before es s.fit c.in_ok-stage_all.ensures.fit;
      headed = omega (arith, s.headed, count, c.stage_all.ensures.count);
      records = subst (λ (l : List (List ℕ)). Stands (d.seen new.disk) (d.may_leave new.disk) new.count new.stopped l) (bodies_append names before es)
          (stands bodies more (c.stage_all.ensures.count ∙ rest.0) (omega (arith, length-bodies names es)) (c.in_ok-stage_all.ensures.staged bodies rest.0 staging));
    })
