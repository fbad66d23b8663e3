use Rattle.std.proofs.Common.{◌≡◌, ◌∙◌, sym, arith}
use Rattle.std.proofs.lemmas.List.{take_all}
use Rattle.std.proofs.lemmas.Slice.Eq.{bytes_eq-Decides}
use Rattle.line_fields.proofs.cuts.is_word.Goals as goal

pub returns : goal.returns
returns c =
    let same : c.args.word.now ≡ c.args.want.now = sym (take_all c.loop-i.i c.args.word.now (omega (arith, c.loop-i-test.false, c.if-word-want.false))) ∙ (c.loop-i.invariant ∙ take_all c.loop-i.i c.args.want.now c.loop-i-test.false) in
    sym ((bytes_eq-Decides c.args.word.now c.args.want.now).1 same)
