use Rattle.std.proofs.Common.{ap, ◌∙◌, List, Option}
use Rattle.step_journal.specs.State.{Row}
use Rattle.plain_core.specs.TablesSeen.{TablesSeen}
use Rattle.plain_core.specs.Seen.{PlainIs}
use Rattle.plain_core.specs.Rules.{running_by}
use Rattle.plain_core.proofs.Runs.{running_is}
use Rattle.plain_core.proofs.board_impl.PlainCoreBoard.running.Goals as goal

pub returns : goal.returns
returns c = λ history h.
    c.running.ensures
    ∙ (ap (λ t. running_by t c.slots.result.now) c.txns.ensures
    ∙ (ap (λ (r : List (Option Row)). running_by c.self.inside.set.txns r) c.slots.ensures
    ∙ (ap (λ (p : PlainIs). running_by p.set.txns p.tables.state.rows) c.self.view_is
    ∙ (ap (λ (t : TablesSeen). running_by c.args.self.now.set.txns t.state.rows) h.is_state
    ∙ running_is c.args.self.now.set _))))
