use Rattle.std.proofs.Common.{ℤ, w64, Some, ap, ◌∙◌}
use Rattle.std.proofs.lemmas.Int.{to_z_pos}
use Rattle.line_fields.proofs.FrontLaws.{signed_found}
use Rattle.line_fields.proofs.numbers.next_signed.Goals as goal

pub returns-then-n : goal.returns-then-n
returns-then-n c =
    ap (λ (z : ℤ). Some (z, c.in-Some.rest.now)) (to_z_pos w64 c.in-Some.n c.if-n.true)
    ∙ signed_found c.args.bytes.now c.in-Some.n c.in-Some.rest.now c.if-n.true c.in-Some.ensures.written c.in-Some.ensures.ends
