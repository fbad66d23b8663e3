use Rattle.std.proofs.Common.{◌∙◌}
use Rattle.update_rates.specs.Updaters.{updaters}
use Rattle.update_rates.proofs.Chosen.{none-tight}
use Rattle.update_rates.proofs.Admitting.{IsRatable, set-in-range, set-kept, set-unrefused}
use Rattle.update_rates.proofs.Planned.{set-is}
use Rattle.update_rates.proofs.planning.compiled.Goals as goal

pub compile-requires : goal.compile-requires
compile-requires c =
    let ok : IsRatable c.args.set.now = record { compiled = c.is_compiled.ensures; updaters_all = c.requires.updaters; none_tight = none-tight (updaters c.args.set.now) c.args.rates.now c.requires.rates } in
    set-in-range c.args.set.now ok _
    (set-is c.args.set.now c.in_ok-items.items.items c.in_ok-txns.txns.items c.in_ok-together.together.items (c.in_ok-items.ensures.items ∙ c.items.ensures) c.in_ok-txns.ensures
    (c.in_ok-together.ensures ∙ c.together.ensures))

pub compile_memory-requires : goal.compile_memory-requires
compile_memory-requires c =
    let ok : IsRatable c.args.set.now = record { compiled = c.is_compiled.ensures; updaters_all = c.requires.updaters; none_tight = none-tight (updaters c.args.set.now) c.args.rates.now c.requires.rates } in
    set-unrefused c.args.set.now ok _ _
    (set-is c.args.set.now c.in_ok-items.items.items c.in_ok-txns.txns.items c.in_ok-together.together.items (c.in_ok-items.ensures.items ∙ c.items.ensures) c.in_ok-txns.ensures
    (c.in_ok-together.ensures ∙ c.together.ensures))
    c.in-Err.ensures.refused

pub returns-in-Ok : goal.returns-in-Ok
returns-in-Ok c =
    let ok : IsRatable c.args.set.now = record { compiled = c.is_compiled.ensures; updaters_all = c.requires.updaters; none_tight = none-tight (updaters c.args.set.now) c.args.rates.now c.requires.rates } in
    set-kept c.args.set.now ok _ _ c.in-Ok.ensures.set
    (set-is c.args.set.now c.in_ok-items.items.items c.in_ok-txns.txns.items c.in_ok-together.together.items (c.in_ok-items.ensures.items ∙ c.items.ensures) c.in_ok-txns.ensures
    (c.in_ok-together.ensures ∙ c.together.ensures))
