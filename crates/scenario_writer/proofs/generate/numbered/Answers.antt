use Rattle.std.proofs.Common.{◌≡◌, ◌≤◌, ◌∷◌, length, decimal, ap, ◌∙◌, arith, rules}
use Rattle.rt_base.specs.Names.{name_of}
use Rattle.scenario_writer.proofs.Each.{is_numbered, two_digits, led}
use Rattle.scenario_writer.proofs.generate.numbered.Goals as goal

pub slice_bounds-text-end : goal.slice_bounds-text-end
slice_bounds-text-end c =
    let text : c.as_bytes-digits.result.now ≡ decimal c.args.i = c.as_bytes-digits.ensures.value ∙ c.format.ensures.text in
    let short : length c.as_bytes-digits.result.now ≤ 2 = rw text (two_digits c.args.i c.requires.small) in
    search (rules, short, arith)

pub unreachable-requires : goal.unreachable-requires
unreachable-requires c =
    let text : c.as_bytes-digits.result.now ≡ decimal c.args.i = c.as_bytes-digits.ensures.value ∙ c.format.ensures.text in
    let made : c.new.result ≡ name_of (c.args.letter ∷ decimal c.args.i) = c.new.ensures ∙ ap name_of (led c.args.letter _ _ _
    c.copy_from_slice.ensures.after text) in
    let h = is_numbered c.args.letter c.args.i c.requires.letter c.requires.small in search (rules, h, made)

pub returns : goal.returns
returns c =
    let text : c.as_bytes-digits.result.now ≡ decimal c.args.i = c.as_bytes-digits.ensures.value ∙ c.format.ensures.text in
    let made : c.new.result ≡ name_of (c.args.letter ∷ decimal c.args.i) = c.new.ensures ∙ ap name_of (led c.args.letter _ _ _
    c.copy_from_slice.ensures.after text) in
    let h = is_numbered c.args.letter c.args.i c.requires.letter c.requires.small in search (rules, h, made)
