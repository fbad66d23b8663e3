use Rattle.std.proofs.Common.{◌≡◌, ◌∙◌, length, replicate, refl, rules}
use Rattle.std.proofs.lemmas.Simd.{splat_is_map}
use Rattle.rt_base.specs.declared.release.Plans.{Plans}
use Rattle.plain_core.proofs.openings.opening_plans.Goals as goal

pub returns : goal.returns
returns c =
    let none : Plans = record { number = 0; last = 0 } in
    let filled : c.resize.new.self.items ≡ replicate (length c.args.txns.now) none = search rules in
    filled ∙ splat_is_map c.args.txns.now _ none refl
