use Rattle.std.proofs.Common.{ap, ◌∙◌, arith}
use Rattle.txn_set.specs.declared.decl.TxnDecl.{TxnDecl}
use Rattle.txn_set.specs.Set.{Set}
use Rattle.law_histories.proofs.Calendar.{times_at}
use Rattle.law_histories.proofs.DelayAll.{legal_delay}
use Rattle.serial_replay.proofs.Spans.{released, early_from, low_now, low_release, delay_told, nobody_delays}
use Rattle.serial_replay.proofs.one_job.delay.Goals as goal

pub txn-requires : goal.txn-requires
txn-requires c = (released c.args.set.now c.args.entries.now c.args.job c.is_compiled.ensures c.requires.legal c.requires.released).in_set

pub overflow_add-from : goal.overflow_add-from
overflow_add-from c =
    let set : Set = c.args.set.now in
    let lt = (released set c.args.entries.now c.args.job c.is_compiled.ensures c.requires.legal c.requires.released).in_set in
    let times = times_at set c.args.job.tx.0 c.is_compiled.ensures lt in
    omega (arith, low_release set c.args.entries.now c.args.job c.is_compiled.ensures c.requires.legal, c.release_of-from.ensures, ap (λ (t : TxnDecl). t.deadline) c.txn.ensures, times.deadline, times.period)

pub end_of-to-requires : goal.end_of-to-requires
end_of-to-requires c =
    early_from _ c.args.entries.now (low_now c.args.set.now c.args.entries.now c.is_compiled.ensures c.requires.legal)
    (legal_delay c.args.set.now c.args.entries.now c.is_compiled.ensures c.requires.legal).past

pub returns-clause-delay : goal.returns-clause-delay
returns-clause-delay c =
    c.between.ensures
    ∙ delay_told c.args.set.now c.args.entries.now c.args.job _ c.txn.result.now.deadline _ (released c.args.set.now c.args.entries.now c.args.job c.is_compiled.ensures c.requires.legal c.requires.released)
    c.release_of-from.ensures (ap (λ (t : TxnDecl). t.deadline) c.txn.ensures) c.end_of-to.ensures

pub returns-clause-nobody : goal.returns-clause-nobody
returns-clause-nobody c = nobody_delays _ _ c.between.ensures
