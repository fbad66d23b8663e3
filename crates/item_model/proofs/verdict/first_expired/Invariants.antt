use Rattle.std.proofs.Common.{◌≡◌, drop}
use Rattle.std.specs.List.{find}
use Rattle.item_model.specs.Work.{of_reads, is_expired, reads_of}
use Rattle.item_model.proofs.verdict.first_expired.Given as goal

abbrev pub invariant-loop-item : goal.invariant-loop-item
invariant-loop-item l =
    find (is_expired l.decls l.tick) (reads_of (of_reads l.reads) l.items) ≡ find (is_expired l.decls l.tick) (reads_of (of_reads l.reads) (drop l.item-index l.items))
