use Rattle.std.proofs.Common.{◌≡◌, map, take}
use Rattle.item_model.specs.Kinds.{initial_of}
use Rattle.item_model.proofs.items.Items.new.Given as goal

abbrev pub invariant-loop-decl : goal.invariant-loop-decl
invariant-loop-decl l = l.items.items ≡ map initial_of (take l.decl-index l.decls)
