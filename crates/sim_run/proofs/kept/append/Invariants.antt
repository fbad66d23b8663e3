use Rattle.std.proofs.Common.{◌≡◌, ◌+◌, ◌++◌, take, vec_len, vec_capacity}
use Rattle.sim_run.proofs.kept.append.Given as goal

abbrev pub invariant-loop-i : goal.invariant-loop-i
invariant-loop-i l =
    (l.into.items ≡ l.initial.into.items ++ take l.i l.entries)
    × (vec_len l.into ≡ vec_len l.initial.into + l.i)
    × (vec_capacity l.into ≡ vec_capacity l.initial.into)
