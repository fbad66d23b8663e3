use Rattle.std.proofs.Common.{◌≡◌, drop}
use Rattle.item_model.specs.Work.{of_reads, first_apart}
use Rattle.item_model.proofs.verdict.first_apart.Given as goal

abbrev pub invariant-loop-group : goal.invariant-loop-group
invariant-loop-group l = first_apart (of_reads l.reads) l.together ≡ first_apart (of_reads l.reads) (drop l.group-index l.together)
