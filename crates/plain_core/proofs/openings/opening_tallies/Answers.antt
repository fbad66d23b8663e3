use Rattle.std.proofs.Common.{◌≡◌, ◌∙◌, length, replicate, refl, rules}
use Rattle.std.proofs.lemmas.Simd.{splat_is_map}
use Rattle.plain_core.specs.TablesSeen.{no_tally}
use Rattle.plain_core.proofs.openings.opening_tallies.Goals as goal

pub returns : goal.returns
returns c =
    let filled : c.resize.new.self.items ≡ replicate (length c.args.txns.now) no_tally = search rules in
    filled ∙ splat_is_map c.args.txns.now _ no_tally refl
