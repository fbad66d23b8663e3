use Rattle.std.proofs.Common.{refl, ap, ◌∙◌, arith}
use Rattle.txn_set.specs.declared.decl.TxnDecl.{TxnDecl}
use Rattle.txn_set.specs.Set.{Set, txn_of}
use Rattle.scale_margin.proofs.SlackFound.{between_first, half_small, between_last, is_slack}
use Rattle.scale_margin.proofs.slack_halving.slack.Goals as goal

pub loop-bit-init : goal.loop-bit-init
loop-bit-init g c =
    let own = ap (λ (t : TxnDecl). t.steps) (c.txn.ensures ∙ ap (λ (s : Set). txn_of s c.args.tx.0) c.set-set.ensures) in
    record {
      found = between_first c.args.set.now c.args.tx.0 _ c.is_admitted.ensures.compiled c.is_admitted.ensures.admitted c.requires own own refl;
      looks = omega arith;
    }

pub narrowed-requires-clause-half : goal.narrowed-requires-clause-half
narrowed-requires-clause-half g c = half_small c.loop-bit.bit c.loop-bit-test.true c.loop-bit.auto.bit

pub returns-clause-slack : goal.returns-clause-slack
returns-clause-slack g c =
    is_slack c.args.set.now c.args.tx.0 c.is_admitted.ensures.compiled c.requires c.loop-bit.found
    (between_last c.args.set.now c.args.tx.0 c.loop-bit.bit c.loop-bit.found c.loop-bit-test.false c.loop-bit.invariant.found)
