use Rattle.std.proofs.Common.{◌≡◌, ◌+◌, ◌-◌, ℕ, length, take, drop, sym, ap, ◌∙◌, arith}
use Rattle.std.specs.Str.{bytes_eq}
use Rattle.line_fields.proofs.CutLaws.{too_short, no_blank, other_front}
use Rattle.line_fields.proofs.cuts.begins.Goals.{then-bytes-end-via-then-bytes-end, then-bytes-end-via-else-bytes-end+then-bytes-ne32}
use Rattle.line_fields.proofs.cuts.begins.Goals as goal

pub returns-then-bytes-end : goal.returns-then-bytes-end
returns-then-bytes-end c = λ _. elim c.then-bytes-end.branch [
  | then-bytes-end-via-then-bytes-end w ↦ too_short c.args.want.now c.args.bytes.now (omega (arith, w.if-bytes-end.true))
  | then-bytes-end-via-else-bytes-end+then-bytes-ne32 w ↦ no_blank c.args.want.now c.args.bytes.now w.if-bytes-ne32.true
]

pub returns : goal.returns
returns c = λ e.
    let size : length c.args.want.now + 1 - 1 ≡ length c.args.want.now = omega arith in
    let found : bytes_eq (take (length c.args.want.now) (drop 1 c.args.bytes.now)) c.args.want.now ≡ c.is_word.result =
    ap (λ (n : ℕ). bytes_eq (take n (drop 1 c.args.bytes.now)) c.args.want.now) (sym size) ∙ sym c.is_word.ensures in
    other_front c.args.want.now c.args.bytes.now (found ∙ e)
