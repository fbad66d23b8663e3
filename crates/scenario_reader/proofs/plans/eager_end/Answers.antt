use Rattle.std.proofs.Common.{ℕ, ◌≤◌, ◌^◌, List, map, sym, ap, subst, ◌∙◌, arith}
use Rattle.txn_set.specs.declared.decl.TxnDecl.{TxnDecl}
use Rattle.txn_set.specs.Ceilings.{greatest}
use Rattle.step_script.specs.declared.releases.Releases.{Releases}
use Rattle.step_script.specs.Releases.{fixed_ticks}
use Rattle.scenario_reader.proofs.Counting.{fixed_near, product_below}
use Rattle.scenario_reader.proofs.plans.eager_end.Goals as goal

pub overflow_add-result : goal.overflow_add-result
overflow_add-result c =
    let last : c.last_of_all.result ≤ 2 ^ 40 =
    subst (λ (n : ℕ). n ≤ 2 ^ 40)
    (sym (c.last_of_all.ensures
    ∙ ap (λ (ts : List TxnDecl). greatest (map greatest (fixed_ticks ts c.as_slice-releases.result.now)))
    c.as_slice-txns.ensures
    ∙ ap (λ (rs : List Releases). greatest (map greatest (fixed_ticks c.args.scenario.now.txns rs)))
    c.as_slice-releases.ensures))
    (fixed_near 0 c.args.scenario.now.txns c.args.scenario.now.releases c.requires.planned) in
    omega (
      arith,
      last,
      product_below c.eager_jobs.result c.longest_period.result c.eager_jobs.ensures.few
          c.longest_period.ensures.fits,
    )
