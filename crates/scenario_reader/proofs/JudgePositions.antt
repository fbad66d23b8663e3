-- The place of the first script that is too long.
use Rattle.std.proofs.Common.{◌≡◌, ℕ, suc, ◌+◌, ltb, List, [], ◌∷◌, map, length, not, cond, Option, Some, None, refl, sym, ap, ◌∙◌}
use Rattle.std.specs.List.{position, position_or_len}
use Rattle.std.proofs.lemmas.List.{length-map}
use Rattle.step_script.specs.declared.script.Script.{Script}
use Rattle.step_script.specs.Scripts.{program_of}
use Rattle.step_script.specs.Bodies.{is_long}
use Rattle.scenario_reader.specs.Walks.{is_long_made}

same_place : (scripts : List Script)
    → position_or_len is_long_made scripts ≡ position_or_len is_long (map program_of scripts)
same_place [] = refl
same_place (s ∷ scripts) = ap (λ (n : ℕ). cond (not (is_long_made s)) (1 + n) 0) (same_place scripts)

pub position_long : (scripts : List Script)
    → position is_long_made scripts ≡ position is_long (map program_of scripts)
position_long scripts =
    ap (λ (n : ℕ). cond (ltb n (length scripts)) (Some n) None) (same_place scripts)
    ∙ ap (λ (k : ℕ). cond (ltb (position_or_len is_long (map program_of scripts)) k)
    (Some (position_or_len is_long (map program_of scripts))) None) (sym (length-map scripts program_of))
