use Rattle.std.proofs.Common.{◌≡◌, drop}
use Rattle.strict_commit.specs.Jobs.{unwritten_of}
use Rattle.strict_commit.proofs.work.Work.first_unwritten.Given as goal

abbrev pub invariant-loop-item : goal.invariant-loop-item
invariant-loop-item l = unwritten_of l.decls l.self.may_write l.self.work ≡ unwritten_of l.decls (drop l.item-index l.item-items) l.self.work
