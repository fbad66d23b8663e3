use Rattle.std.proofs.Common.{◌<◌, ◌++◌, length, take, arith, sym, subst}
use Rattle.std.proofs.lemmas.List.{take_more, append-nil}
use Rattle.durable_journal.specs.Log.{StandsFor}
use Rattle.durable_tests.proofs.Each.{grown, legal_next}
use Rattle.durable_tests.proofs.base.append_each.Goals as goal

pub loop-entry-init : goal.loop-entry-init
loop-entry-init g c =
    let d = g.D.Disk in
    subst (λ l. StandsFor d.seen d.may_leave c.args.names.now c.args.set.now c.args.log.now l) (sym (append-nil c.args.found.now)) c.requires.stands

pub append-requires-clause-legal : goal.append-requires-clause-legal
append-requires-clause-legal g c =
    let es = c.args.rest.now in
    let i = c.loop-entry.entry-index in
    let within : i < length es = omega (arith, c.loop-entry-test.true) in
    (c.args.found.now ++ take i es, c.loop-entry.invariant, legal_next c.args.set.now c.args.found.now es i _ (take_more es i _ within) c.requires.legal)

pub loop-entry-preserved : goal.loop-entry-preserved
loop-entry-preserved g c =
    let d = g.D.Disk in
    let set = c.args.set.now in
    let es = c.args.rest.now in
    let before = c.args.found.now in
    let i = c.loop-entry.entry-index in
    let within : i < length es = omega (arith, c.loop-entry-test.true) in
    subst (λ l. StandsFor d.seen d.may_leave c.args.names.now set c.append.new.self l) (grown set before es i _ (take_more es i _ within))
    (c.in_ok-append.ensures.stands tt (before ++ take i es) (legal_next set before es i _ (take_more es i _ within) c.requires.legal) c.loop-entry.invariant)
