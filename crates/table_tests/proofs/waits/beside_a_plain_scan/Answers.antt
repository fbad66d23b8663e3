use Rattle.std.proofs.Common.{◌≡◌, ℕ, ◌<◌, length, ap, sym, subst, ◌∙◌}
use Rattle.table_tests.proofs.waits.beside_a_plain_scan.Goals as goal

pub some-requires : goal.some-requires
some-requires g c = ap length c.change.ensures.prios ∙ c.loop-call.invariant.size

pub asked-told-requires-clause-tx : goal.asked-told-requires-clause-tx
asked-told-requires-clause-tx g c =
    let size : length c.change.new.waits.prios ≡ 5 = ap length c.change.ensures.prios ∙ c.loop-call.invariant.size in
    subst (λ (n : ℕ). c.loop-t.t < n) (sym size) c.loop-t-test.true

pub asked-told-requires-clause-ranks : goal.asked-told-requires-clause-ranks
asked-told-requires-clause-ranks g c = λ rank has.
    let size : length c.change.new.waits.prios ≡ 5 = ap length c.change.ensures.prios ∙ c.loop-call.invariant.size in
    subst (λ (n : ℕ). rank < n) (sym size) (c.some.ensures rank has)

pub loop-call-preserved : goal.loop-call-preserved
loop-call-preserved g c = record { size = ap length c.change.ensures.prios ∙ c.loop-call.invariant.size; beyond = c.change.ensures.beyond }
