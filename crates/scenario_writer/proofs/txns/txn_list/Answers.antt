use Rattle.std.proofs.Common.{◌<◌, length, map, ap, arith}
use Rattle.std.proofs.lemmas.List.{length-map}
use Rattle.std.proofs.lemmas.Result.{on_ok_weaker}
use Rattle.step_script.specs.Scripts.{program_of}
use Rattle.scenario_writer.specs.Canonical.{txn_data}
use Rattle.scenario_writer.specs.Integers.{ProgramHasIntegers}
use Rattle.scenario_writer.proofs.Loops.{begun, one_more, done, more_hold, all_hold}
use Rattle.scenario_writer.proofs.Ranges.{reads_at, writes_at, good_at, short_at, within, next_written, none_written}
use Rattle.scenario_writer.proofs.txns.txn_list.Goals as goal

pub bounds-txn_names-i : goal.bounds-txn_names-i
bounds-txn_names-i c = omega (arith, c.requires.named, c.loop-i-test.true)

pub bounds-scripts-i : goal.bounds-scripts-i
bounds-scripts-i c = within _ _ _ _ _ c.requires c.loop-i.i c.loop-i-test.true

pub bounds-releases-i : goal.bounds-releases-i
bounds-releases-i c = omega (arith, c.requires.released, c.loop-i-test.true)

pub loop-i-init : goal.loop-i-init
loop-i-init c = record { begun = begun _ _ _ c.in_ok-begin_array.ensures; fits = λ k d lt. absurd (omega arith) }

pub txn-requires-clause-reads : goal.txn-requires-clause-reads
txn-requires-clause-reads c = reads_at _ _ _ _ _ c.requires c.loop-i.i c.index-decls-i.result c.loop-i-test.true
    c.index-decls-i.is

pub txn-requires-clause-writes : goal.txn-requires-clause-writes
txn-requires-clause-writes c = writes_at _ _ _ _ _ c.requires c.loop-i.i c.index-decls-i.result c.loop-i-test.true
    c.index-decls-i.is

pub txn-requires-clause-good : goal.txn-requires-clause-good
txn-requires-clause-good c = good_at _ _ _ _ _ c.requires c.loop-i.i c.index-scripts-i.result c.loop-i-test.true
    c.index-scripts-i.is

pub txn-requires-clause-short : goal.txn-requires-clause-short
txn-requires-clause-short c = short_at _ _ _ _ _ c.requires c.loop-i.i c.index-scripts-i.result c.loop-i-test.true
    c.index-scripts-i.is

pub loop-i-preserved : goal.loop-i-preserved
loop-i-preserved c =
    let a : c.loop-i.i < length c.args.txns.names.now = omega (arith, c.requires.named, c.loop-i-test.true) in
    let b : c.loop-i.i < length c.args.txns.scripts.now = within _ _ _ _ _ c.requires c.loop-i.i c.loop-i-test.true in
    let d : c.loop-i.i < length c.args.txns.releases.now = omega (arith, c.requires.released, c.loop-i-test.true) in
    record {
      begun = one_more _ _ _ _ _ _ _ (ap (map (txn_data c.args.second c.args.names.now))
          (next_written _ _ _ _ c.loop-i.i c.index-txn_names-i.result c.index-decls-i.result c.index-scripts-i.result
          c.index-releases-i.result a c.loop-i-test.true b d c.index-txn_names-i.is c.index-decls-i.is
          c.index-scripts-i.is c.index-releases-i.is)) c.loop-i.invariant.begun c.in_ok-txn.ensures.data;
      fits = more_hold (λ s. ProgramHasIntegers (program_of s)) _ c.loop-i.i c.index-scripts-i.result b
          c.index-scripts-i.is c.loop-i.invariant.fits c.in_ok-txn.ensures.fits;
    }

pub returns-clause-data : goal.returns-clause-data
returns-clause-data c = on_ok_weaker c.end_array.result (done _ _ _ _ _ (ap (map
    (txn_data c.args.second c.args.names.now)) (none_written _ _ _ _ c.loop-i.i
    (omega (arith, c.requires.named, c.loop-i-test.false)))) c.loop-i.invariant.begun) c.end_array.ensures

pub returns-clause-fits : goal.returns-clause-fits
returns-clause-fits c = on_ok_weaker c.end_array.result (λ e. all_hold (λ s. ProgramHasIntegers (program_of s))
    c.args.txns.scripts.now c.loop-i.i
    (omega (arith, length-map c.args.txns.scripts.now program_of, c.requires.scripted, c.loop-i-test.false))
    c.loop-i.invariant.fits) c.end_array.ensures
