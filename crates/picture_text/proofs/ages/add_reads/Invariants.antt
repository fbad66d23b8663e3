use Rattle.std.proofs.Common.{◌≡◌, ◌++◌, drop}
use Rattle.std.specs.List.{flat_map}
use Rattle.picture_text.specs.Ages.{read_text}
use Rattle.picture_text.proofs.ages.add_reads.Given as goal

abbrev pub invariant-loop-read : goal.invariant-loop-read
invariant-loop-read l =
    l.into.items ++ flat_map (read_text l.set l.view) (drop l.read-index l.reads) ≡ l.fn.into.items ++ flat_map (read_text l.set l.view) l.reads
