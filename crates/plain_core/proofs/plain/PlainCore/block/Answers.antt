use Rattle.std.proofs.Common.{ap, ◌∙◌, arith, ℕ, ◌++◌, ◌∷◌, []}
use Rattle.step_journal.specs.declared.entry.Entry.TheVariants.{Blocked}
use Rattle.plain_core.proofs.Stood.{set_size}
use Rattle.plain_core.proofs.Blocks.{block_keeps, block_after}
use Rattle.plain_core.proofs.plain.PlainCore.block.Goals as goal

pub invariant_of-self : goal.invariant_of-self
invariant_of-self c =
    let job = c.args.job in
    let op = c.args.op in
    let by = c.args.by in
    let ceiling = c.args.ceiling in
    block_keeps _ _ _ _ job by op ceiling c.self.view_is
    (c.push.ensures ∙ ap (λ (n : ℕ). record { room = c.self.inside.journal.room; first = c.self.inside.journal.first; kept = c.self.inside.journal.kept ++ Blocked job op by ceiling n ∷ [] }) c.now-tick.ensures)
    c.wait.ensures (omega (arith, set_size _ _ c.self.view_is)) c.requires.refused c.self.invariant

pub returns-clause-after : goal.returns-clause-after
returns-clause-after c =
    let job = c.args.job in
    let op = c.args.op in
    let by = c.args.by in
    let ceiling = c.args.ceiling in
    block_after _ _ _ _ job by op ceiling c.self.view_is
    (c.push.ensures ∙ ap (λ (n : ℕ). record { room = c.self.inside.journal.room; first = c.self.inside.journal.first; kept = c.self.inside.journal.kept ++ Blocked job op by ceiling n ∷ [] }) c.now-tick.ensures)
    c.wait.ensures (omega (arith, set_size _ _ c.self.view_is)) c.requires.refused
