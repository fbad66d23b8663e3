use Rattle.std.proofs.Common.{List, ℕ, ◌++◌, ◌∙◌, ap, length, drop, replicate}
use Rattle.std.proofs.lemmas.List.{drop-replicate}
use Rattle.c_stations.proofs.body.filled.Goals as goal

pub returns : goal.returns
returns c =
    let zero : ℕ = 0 in
    let line = c.args.line.now in
    ap (λ (l : List ℕ). l ++ drop (length line) (replicate 254 zero)) c.copy_from_slice.ensures.after
    ∙ ap (λ (l : List ℕ). line ++ l) (drop-replicate (length line) 254 zero)
