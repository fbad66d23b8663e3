use Rattle.std.proofs.Common.{◌≡◌, ◌+◌, ◌++◌, List, ℕ, length, take, codes, ap, refl, ◌∙◌, arith, rules}
use Rattle.journal_text.specs.declared.next_step.NextStep.{NextStep}
use Rattle.journal_text.proofs.NextLaws.{noted, noted_own}
use Rattle.journal_text.proofs.next_step.NextStep.note.Goals as goal

pub returns-clause-own : goal.returns-clause-own
returns-clause-own c names is =
    let n : NextStep = record { line = c.put_at-3.new.line; len = 4 + length c.args.fields.now + 9; job = c.args.job; tick = c.args.tick } in
    let line : take n.len n.line ≡ (codes "step" ++ c.args.fields.now) ++ codes " compute\n" =
    c.put_at-3.ensures
    ∙ ap (λ (l : List ℕ). l ++ codes " compute\n") (c.put_at-2.ensures ∙ ap (λ (l : List ℕ). l ++ c.args.fields.now) c.put_at.ensures) in
    c.go_on.ensures.own names (noted_own names n c.args.fields.now refl (omega (arith, c.if-fields-gt48.false)) line is (search rules))

pub returns-clause-next : goal.returns-clause-next
returns-clause-next c names word is job blank end =
    let n : NextStep = record { line = c.put_at-3.new.line; len = 4 + length c.args.fields.now + 9; job = c.args.job; tick = c.args.tick } in
    let line : take n.len n.line ≡ (codes "step" ++ c.args.fields.now) ++ codes " compute\n" =
    c.put_at-3.ensures
    ∙ ap (λ (l : List ℕ). l ++ codes " compute\n") (c.put_at-2.ensures ∙ ap (λ (l : List ℕ). l ++ c.args.fields.now) c.put_at.ensures) in
    c.go_on.ensures.next names
    (noted names n c.args.fields.now word refl (omega (arith, c.if-fields-gt48.false)) line is job blank end (search rules))
