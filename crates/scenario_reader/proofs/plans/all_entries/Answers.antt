use Rattle.std.proofs.Common.{◌≡◌, ℕ, ◌≤◌, ap, ◌∙◌, arith}
use Rattle.step_script.specs.Releases.{jobs_of, entries_of}
use Rattle.scenario_reader.proofs.Counting.{few_at, entries_few, entries_more}
use Rattle.scenario_reader.proofs.plans.all_entries.Goals as goal

pub entries-total-requires-clause-jobs : goal.entries-total-requires-clause-jobs
entries-total-requires-clause-jobs c =
    let few : jobs_of c.index-releases-tx.result ≤ 65536 =
    few_at c.args.releases.now c.loop-tx.tx c.index-releases-tx.result
    (omega (arith, c.requires.each, c.loop-tx-test.true)) c.index-releases-tx.is c.requires.few in
    omega (arith, c.jobs.ensures)

pub overflow_add-total : goal.overflow_add-total
overflow_add-total c =
    let entries : c.entries-total.result ≡ entries_of (jobs_of c.index-releases-tx.result)
    c.index-txns-tx.result.steps =
    c.entries-total.ensures ∙ ap (λ (n : ℕ). entries_of n c.index-txns-tx.result.steps) c.jobs.ensures in
    omega (
      arith,
      entries,
      entries_few c.args.txns.now c.args.releases.now c.requires.times,
      c.requires.few,
      c.loop-tx.invariant,
      entries_more c.args.txns.now c.args.releases.now c.loop-tx.tx c.index-txns-tx.result c.index-releases-tx.result
          c.loop-tx-test.true (omega (arith, c.requires.each, c.loop-tx-test.true)) c.index-txns-tx.is
          c.index-releases-tx.is,
    )

pub returns-clause-fits : goal.returns-clause-fits
returns-clause-fits c = omega (
  arith,
  entries_few c.args.txns.now c.args.releases.now c.requires.times,
  c.requires.few,
  c.loop-tx.invariant,
)
