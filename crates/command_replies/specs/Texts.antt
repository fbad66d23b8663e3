-- The line of a refusal.
use Rattle.std.specs.Prelude.{ℕ, List, ◌++◌, codes}

abbrev pub refused_line : List ℕ → List ℕ
refused_line cause = codes "refused " ++ cause ++ codes "\n"
