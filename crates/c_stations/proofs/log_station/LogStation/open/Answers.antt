use Rattle.std.proofs.Common.{arith, sym, subst}
use Rattle.rt_base.specs.Names.{AreNames}
use Rattle.rt_base.specs.declared.name.Names.{Names}
use Rattle.c_stations.proofs.Settled.{none_or_some}
use Rattle.c_stations.proofs.log_station.LogStation.open.Goals as goal

pub invariant_of-result : goal.invariant_of-result
invariant_of-result c =
    let o = c.in-Ok-open_file.ensures.opened in
    let same = c.into_names.ensures in (
      subst (λ (n : Names). AreNames n.items) (sym same) o.declares.item_names,
      subst (λ (n : Names). AreNames n.txns) (sym same) o.declares.txn_names,
      c.in-Ok.ensures.0,
      c.in-Ok.ensures.1,
      omega (arith, o.count_is),
      o.small,
      none_or_some c.in-Ok-open_file.opened.1.queue.calls,
    )
