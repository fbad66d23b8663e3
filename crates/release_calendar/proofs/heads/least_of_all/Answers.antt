use Rattle.std.proofs.Common.{◌≡◌, ℕ, ◌+◌, ◌*◌, length, subst, arith}
use Rattle.release_calendar.specs.Heads.{IsLeastOf}
use Rattle.release_calendar.proofs.Leasts.{of_two}
use Rattle.release_calendar.proofs.heads.least_of_all.Goals as goal

pub loop-row-preserved : goal.loop-row-preserved
loop-row-preserved c =
    of_two c.args.keys.now 0 (8 * c.loop-row.row) (8 * c.loop-row.row) 8 (8 * (c.loop-row.row + 1)) c.loop-row.least c.least_of.result c.lower-least.result (omega arith) (omega arith) c.lower-least.ensures
    c.loop-row.invariant c.least_of.ensures

pub returns : goal.returns
returns c =
    let all : 8 * c.loop-row.row ≡ length c.args.keys.now = omega (arith, c.requires.rows.1, c.loop-row-test.false, c.loop-row.auto.row-end) in
    subst (λ (n : ℕ). IsLeastOf c.args.keys.now 0 n c.loop-row.least) all c.loop-row.invariant
