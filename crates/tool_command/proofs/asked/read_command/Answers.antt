use Rattle.std.proofs.Common.{◌≡◌, ◌∙◌, true, false, ap, inl, inr, rules}
use Rattle.clap.specs.Values.{kind_of}
use Rattle.tool_command.specs.Asking.{is_askable, said}
use Rattle.tool_command.proofs.Words.{refused, told, unasked}
use Rattle.tool_command.proofs.asked.read_command.Goals as goal

pub returns-then-not-is_askable : goal.returns-then-not-is_askable
returns-then-not-is_askable c =
    let asked : is_askable c.args.words.now ≡ false = search rules in
    unasked c.args.words.now asked

pub returns-in-Ok : goal.returns-in-Ok
returns-in-Ok c =
    let asked : is_askable c.args.words.now ≡ true = search rules in
    c.told.ensures ∙ (ap said c.in-Ok.ensures.found ∙ told c.args.words.now asked c.in-Ok.ensures.kinds)

pub returns : goal.returns
returns c =
    let asked : is_askable c.args.words.now ≡ true = search rules in
    elim c.in-Err.ensures.kinds [
      | inl memory ↦ absurd (c.in_default.not-OutOfMemory (c.kind.ensures ∙ memory))
      | inr among ↦ refused c.args.words.now (kind_of c.in-Err.error) asked among
    ]
