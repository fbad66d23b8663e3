use Rattle.std.proofs.Common.{◌≡◌, drop}
use Rattle.std.specs.List.{fold}
use Rattle.item_model.specs.Work.{of_notes, write_installed}
use Rattle.item_model.proofs.install.install_writes.Given as goal

abbrev pub invariant-loop-write : goal.invariant-loop-write
invariant-loop-write l =
    fold (write_installed l.decls (of_notes l.reads l.writes) l.release) l.items (drop l.write-index l.writes)
    ≡ fold (write_installed l.decls (of_notes l.reads l.writes) l.release) l.initial.items l.writes
