use Rattle.std.proofs.Common.{◌+◌, ◌++◌, List, ℕ, take, ap, ◌∙◌, arith}
use Rattle.journal_text.proofs.NextLaws.{own_line, take_past}
use Rattle.journal_text.proofs.next_step.NextStep.put.Goals as goal

pub returns-clause-line : goal.returns-clause-line
returns-clause-line c told names own =
    let n = c.args.self.now in
    let is = c.is_of.ensures c.if-not-is_of.false in
    c.truncate.ensures.items
    ∙ (ap (λ (l : List ℕ). take (c.len.result + n.len) l) c.put.ensures.items
    ∙ (take_past c.args.into.now.items n.line (c.len.result + n.len) n.len (omega (arith, c.len.ensures))
    ∙ ap (λ (l : List ℕ). c.args.into.now.items ++ l) (own_line names n c.args.job c.args.tick own is.0 is.1 is.2)))
