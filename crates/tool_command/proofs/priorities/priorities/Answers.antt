use Rattle.std.proofs.Common.{subst}
use Rattle.rt_base.specs.declared.name.Names.{Names}
use Rattle.txn_set.specs.Set.{Set}
use Rattle.step_script.specs.Shown.{Shown, shown, set_of}
use Rattle.command_replies.specs.Accepted.{IsCompiledOf}
use Rattle.command_replies.proofs.Compiles.{names_set}
use Rattle.command_replies.proofs.Replying.{taken, compiled_reply}
use Rattle.tool_command.specs.Priorities.{Assigning, PriorityReply}
use Rattle.tool_command.proofs.Assigning.{if_ok}
use Rattle.tool_command.proofs.priorities.priorities.Goals as goal

pub answer-reply-requires : goal.answer-reply-requires
answer-reply-requires c =
    let s : Shown = shown c.args.scenario in
    let is : IsCompiledOf s c.in-Ok.accepted = taken _ _ _ c.in-Ok.is c.in_ok-accepted.ensures.accepted in
    names_set s _ _ c.requires is.parts.names_are is.parts.set_is

pub returns-in-Ok : goal.returns-in-Ok
returns-in-Ok c =
    let s : Shown = shown c.args.scenario in
    let is : IsCompiledOf s c.in-Ok.accepted = taken _ _ _ c.in-Ok.is c.in_ok-accepted.ensures.accepted in
    if_ok c.answer-reply.result (λ r. Assigning c.in-Ok.accepted.names c.in-Ok.accepted.set r.status r.text.items) (λ r. PriorityReply s r.status r.text.items)
    (λ r h.
    compiled_reply _ s r.status r.text.items is.compiles
    (subst (λ (n : Names). Assigning n (set_of s) r.status r.text.items) is.parts.names_are
    (subst (λ (t : Set). Assigning c.in-Ok.accepted.names t r.status r.text.items) is.parts.set_is h)))
    c.answer-reply.ensures
