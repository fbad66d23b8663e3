use Rattle.std.proofs.Common.{ℕ, ◌<◌, ap, sym, subst, ◌∙◌}
use Rattle.txn_set.specs.Set.{periodic_release}
use Rattle.step_script.specs.Releases.{jobs_of, release_at}
use Rattle.step_script.specs.declared.releases.Releases.{Releases}
use Rattle.step_script.proofs.Counts.{periodic}
use Rattle.step_script.proofs.releases.Releases.tick.Goals as goal

pub returns-in-Jobs : goal.returns-in-Jobs
returns-in-Jobs c =
    let below : c.args.index < c.in-Jobs.field-0 =
    subst (λ (r : Releases). c.args.index < jobs_of r) c.in-Jobs.is c.requires.in_range in
    c.periodic_release.ensures ∙ ap (λ (k : ℕ). periodic_release c.args.txn.now k) c.from.ensures
    ∙ sym (periodic c.args.txn.now c.in-Jobs.field-0 c.args.index below)
    ∙ ap (λ (r : Releases). release_at c.args.txn.now r c.args.index) (sym c.in-Jobs.is)
