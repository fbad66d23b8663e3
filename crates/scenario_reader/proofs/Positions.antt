-- Positions of operations.
use Rattle.std.proofs.Common.{◌≡◌, ℕ, ◌+◌, ltb, List, [], ◌∷◌, map, length, not, cond, Option, Some, None, refl, sym, ap, ◌∙◌}
use Rattle.std.specs.List.{position, position_or_len}
use Rattle.std.proofs.lemmas.List.{length-map}
use Rattle.scenario_forms.specs.declared.ops.ReadOp.{ReadOp}
use Rattle.scenario_forms.specs.Ops.{op_view}
use Rattle.scenario_reader.specs.Unknown.{is_unknown_op, is_unknown_read}

same_place : (ops : List ReadOp) → position_or_len is_unknown_read ops ≡ position_or_len is_unknown_op (map op_view ops)
same_place [] = refl
same_place (op ∷ ops) = ap (λ (n : ℕ). cond (not (not op.known)) (1 + n) 0) (same_place ops)

pub position_ops : (ops : List ReadOp) → position is_unknown_read ops ≡ position is_unknown_op (map op_view ops)
position_ops ops =
    ap (λ (n : ℕ). cond (ltb n (length ops)) (Some n) None) (same_place ops)
    ∙ ap (λ (k : ℕ). cond (ltb (position_or_len is_unknown_op (map op_view ops)) k)
    (Some (position_or_len is_unknown_op (map op_view ops))) None) (sym (length-map ops op_view))
