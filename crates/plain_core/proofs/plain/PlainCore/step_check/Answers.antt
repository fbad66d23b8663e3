use Rattle.std.proofs.Common.{ap, ◌∙◌, arith, length, List}
use Rattle.plain_core.specs.declared.tally.Tally.{Tally}
use Rattle.plain_core.specs.TablesSeen.{tally_of}
use Rattle.plain_core.proofs.Stood.{fit_core, set_size}
use Rattle.plain_core.proofs.Idles.{tallies_fit}
use Rattle.plain_core.proofs.plain.PlainCore.step_check.Goals as goal

pub turn-requires-clause-slot : goal.turn-requires-clause-slot
turn-requires-clause-slot c = omega (arith, (fit_core _ c.self.invariant).rows, set_size _ _ c.self.view_is)

pub turn-requires-clause-now : goal.turn-requires-clause-now
turn-requires-clause-now c = omega (arith, (fit_core _ c.self.invariant).clock)

pub turn-requires-clause-used : goal.turn-requires-clause-used
turn-requires-clause-used c = λ n row h. omega (arith, (fit_core _ c.self.invariant).used n row h)

pub tally_at-requires : goal.tally_at-requires
tally_at-requires c = omega (arith, (fit_core _ c.self.invariant).tallies, set_size _ _ c.self.view_is, ap length c.tallies.ensures)

pub no_job-requires : goal.no_job-requires
no_job-requires c =
    omega (arith, tallies_fit _ c.self.invariant c.args.job.tx.0, ap (λ (t : Tally). t.number) (c.tally_at.ensures ∙ ap (λ (l : List Tally). tally_of l c.args.job.tx.0) c.tallies.ensures))
