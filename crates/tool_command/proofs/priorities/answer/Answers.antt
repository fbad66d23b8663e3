use Rattle.std.proofs.Common.{◌≡◌, sym, subst, ◌∙◌}
use Rattle.law_times.specs.Pass.{pass}
use Rattle.law_times.specs.Laws.{IsSolved}
use Rattle.txn_priorities.specs.Limits.{limit}
use Rattle.command_replies.proofs.Replying.{taken}
use Rattle.tool_command.specs.Priorities.{GivenReply, Assigning}
use Rattle.tool_command.proofs.Assigning.{if_ok, solves}
use Rattle.tool_command.proofs.priorities.answer.Goals as goal

pub returns-in-Ok : goal.returns-in-Ok
returns-in-Ok c =
    let names = c.args.names.now in
    let set = c.args.set.now in
    let prios = c.deref.result.now in
    let found = c.in_ok-prios.ensures in
    if_ok c.given.result (λ r. GivenReply names set prios r.status r.text.items) (λ r. Assigning names set r.status r.text.items)
    (λ r h.
    solves names set prios r.status r.text.items (c.deref.ensures.value ∙ taken _ _ (λ p. p.items ≡ pass set (limit set)) c.in-Ok.is found.pass)
    (subst (λ l. IsSolved set (limit set) l) (sym c.deref.ensures.value) (taken _ _ (λ p. IsSolved set (limit set) p.items) c.in-Ok.is found.solved)) h)
    c.given.ensures
