use Rattle.std.proofs.Common.{arith, sym, ap, ◌∙◌}
use Rattle.io_edge.proofs.Known.{copied_rest, nothing_left}
use Rattle.io_edge.proofs.memory.MemSourceSource.take.Goals as goal

pub returns-clause-bytes : goal.returns-clause-bytes
returns-clause-bytes c =
    let left = ap (λ s. s.left) c.self.view_is in
    let copied = rw c.deref-2.ensures.value at c.copy_front-count.ensures.copied in
    let count = rw c.deref-2.ensures.value at c.copy_front-count.ensures.count in (
      sym left ∙ copied_rest _ _ _ _ copied,
      λ none some. nothing_left _ _ _ _ count none (omega (arith, some, c.copy_front-count.auto.into)),
    )
