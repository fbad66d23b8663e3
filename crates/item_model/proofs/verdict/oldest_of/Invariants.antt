use Rattle.std.proofs.Common.{◌≡◌, drop}
use Rattle.item_model.specs.Work.{of_reads, oldest, reads_of}
use Rattle.item_model.proofs.verdict.oldest_of.Given as goal

abbrev pub invariant-loop-i : goal.invariant-loop-i
invariant-loop-i l = l.best ≡ oldest (reads_of (of_reads l.reads) (drop l.i l.items))
