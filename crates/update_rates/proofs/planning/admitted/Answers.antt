use Rattle.update_rates.specs.Updaters.{updaters}
use Rattle.update_rates.proofs.Chosen.{none-tight}
use Rattle.update_rates.proofs.Admitting.{IsRatable, set-admitted}
use Rattle.update_rates.proofs.planning.admitted.Goals as goal

pub admit_memory-requires : goal.admit_memory-requires
admit_memory-requires c =
    let ok : IsRatable c.args.set.now = record { compiled = c.is_compiled.ensures; updaters_all = c.requires.updaters; none_tight = none-tight (updaters c.args.set.now) c.args.rates.now c.requires.rates } in
    set-admitted c.args.set.now ok _ _ c.in_ok-rated.ensures c.in-Err.ensures.refused
