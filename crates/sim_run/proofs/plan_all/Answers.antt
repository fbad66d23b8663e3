use Rattle.std.proofs.Common.{◌+◌, ◌++◌, map, refl, sym, ◌∙◌, arith}
use Rattle.step_journal.specs.declared.entry.Entry.TheVariants.{Planned}
use Rattle.sim_run.proofs.Planning.{all_go_on, all_left, next_handed}
use Rattle.sim_run.proofs.Handing.{handed_on, cut_on, take_less, take_rest, on_err}
use Rattle.sim_run.proofs.plan_all.Goals as goal

pub plan_each-requires-clause-legal : goal.plan_each-requires-clause-legal
plan_each-requires-clause-legal g c =
    let i = c.loop-tx.invariant in let here = i.stands c.requires.legal.0 c.requires.legal.1 in
    (here.history, here.stood, all_go_on _ _ c.args.releases.now c.loop-tx.tx _ _ here.history _ c.loop-tx-test.true here.parts i.fixed.0 c.requires.legal.2 (c.as_slice.ensures ∙ c.index-releases-tx.is))

pub plan_each-requires-clause-good : goal.plan_each-requires-clause-good
plan_each-requires-clause-good g c = let i = c.loop-tx.invariant in take_less _ _ _ _ _ refl (take_rest _ _ _ _ _ _ i.good (next_handed c.args.releases.now c.loop-tx.tx _ _ _ c.loop-tx-test.true (c.as_slice.ensures ∙ c.index-releases-tx.is) i.handed) c.requires.good)

pub returns-in_err-plan_each-clause-stopped : goal.returns-in_err-plan_each-clause-stopped
returns-in_err-plan_each-clause-stopped g c =
    let i = c.loop-tx.invariant in
    on_err c.from_residual.result _ (cut_on _ _ _ _ _ _ _ (next_handed c.args.releases.now c.loop-tx.tx _ _ _ c.loop-tx-test.true (c.as_slice.ensures ∙ c.index-releases-tx.is) i.handed) c.in_err-plan_each.ensures.stopped)

pub loop-tx-preserved : goal.loop-tx-preserved
loop-tx-preserved g c =
    let i = c.loop-tx.invariant in let n = c.loop-tx.tx in
    record {
      handed = handed_on _ _ _ _ _ _ _ (next_handed c.args.releases.now c.loop-tx.tx _ _ _ c.loop-tx-test.true (c.as_slice.ensures ∙ c.index-releases-tx.is) i.handed) c.in_ok-plan_each.ensures.passed;
      none_lost = c.in_ok-plan_each.ensures.none_lost;
      stands = λ history h.
          let at = i.stands history h in
          record {
            history = at.history ++ map (Planned (record { 0 = n })) c.as_slice.result.now;
            stood = c.in_ok-plan_each.ensures.stands at.history at.stood;
            parts = sym (all_left c.args.releases.now n (n + 1) _ c.as_slice.result.now at.history c.loop-tx-test.true (omega arith) (c.as_slice.ensures ∙ c.index-releases-tx.is)) ∙ at.parts;
          };
      ready = record {
        few = c.in_ok-plan_each.ensures.few;
        more = omega (arith, i.ready.more, c.plan_each.ensures.fixed.1);
      };
      later = omega (arith, i.later, c.plan_each.ensures.cause.later);
      good = λ history h. c.plan_each.ensures.good history (i.good history h);
      fixed = (c.plan_each.ensures.fixed.0 ∙ i.fixed.0, c.plan_each.ensures.fixed.1 ∙ i.fixed.1);
    }
