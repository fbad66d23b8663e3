use Rattle.std.proofs.Common.{◌∙◌, inl, inr, sym, ap, arith}
use Rattle.std.specs.Option.{option_map}
use Rattle.core_tables.specs.declared.head.Head.{Head}
use Rattle.core_tables.proofs.Dues.{rank_low}
use Rattle.core_tables.proofs.ranks.running_job.Goals as goal

pub running_tx-requires-clause-ranks : goal.running_tx-requires-clause-ranks
running_tx-requires-clause-ranks c rank has = omega (arith, rank_low c.args.heads.now c.args.waits.now.order c.args.ranks rank c.requires.ranks has, c.requires.prios)

pub returns-in_err-tx : goal.returns-in_err-tx
returns-in_err-tx c = inl (record { nobody = c.in_err-tx.ensures.running; is = c.from_residual.ensures })

pub returns-in_err-head : goal.returns-in_err-head
returns-in_err-head c =
    inr (record {
      tx = c.in_ok-tx.tx;
      dispatched = c.in_ok-tx.ensures.running;
      is = c.from_residual-in_err-head.ensures ∙ ap (option_map (λ (h : Head). h.job)) (sym c.in_err-head.was);
    })

pub returns : goal.returns
returns c = inr (record { tx = c.in_ok-tx.tx; dispatched = c.in_ok-tx.ensures.running; is = ap (option_map (λ (h : Head). h.job)) (sym c.in_ok-head.was) })
