use Rattle.std.proofs.Common.{ap, ◌∙◌, arith, length, List}
use Rattle.plain_core.specs.TablesSeen.{tally_of}
use Rattle.plain_core.specs.Seen.{PlainIs}
use Rattle.plain_core.proofs.Stood.{fit_core, set_size}
use Rattle.plain_core.proofs.board_impl.PlainCoreBoard.ended.Goals as goal
use Rattle.plain_core.proofs.Idles.{tallies_fit}
use Rattle.plain_core.proofs.Tallies.{tally_says}
use Rattle.plain_core.specs.declared.tally.Tally.{Tally}

pub tally_at-requires : goal.tally_at-requires
tally_at-requires c = omega (arith, (fit_core _ c.self.invariant).tallies, set_size _ _ c.self.view_is, ap length c.tallies.ensures)

pub returns : goal.returns
returns c = λ history h. ap (λ (t : Tally). t.number) (c.tally_at.ensures ∙ (ap (λ l. tally_of l c.args.tx.0) (c.tallies.ensures ∙ ap (λ (p : PlainIs). p.tables.tallies) c.self.view_is) ∙ tally_says _ history c.args.tx.0 h c.requires))

pub overflow_cast-result : goal.overflow_cast-result
overflow_cast-result c = omega (arith, tallies_fit _ c.self.invariant c.args.tx.0, ap (λ (t : Tally). t.number) (c.tally_at.ensures ∙ ap (λ (l : List Tally). tally_of l c.args.tx.0) c.tallies.ensures))
