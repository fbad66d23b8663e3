-- The refusals of an operation, by the running job's head and work.
use Rattle.std.specs.Prelude.{ℕ, ◌-◌, nat_lt, if◌then◌else◌}
use Rattle.txn_set.specs.declared.decl.TxnDecl.{TxnDecl}
use Rattle.rt_base.specs.declared.operation.Op.{Op}
use Rattle.rt_base.specs.declared.operation.Op.TheVariants.{Read, Write, Commit}
use Rattle.txn_set.specs.Set.{Set, may_read, may_write}
use Rattle.item_model.specs.Work.{Work}
use Rattle.board.specs.declared.replies.StepReply.{StepReply}
use Rattle.board.specs.declared.replies.StepReply.TheVariants as reply
use Rattle.board.specs.Answers.{unwritten, unwritten_or}

abbrev pub early_by : ℕ → ℕ → StepReply → StepReply
early_by quiet used rest = if nat_lt used quiet then reply.TooEarly (quiet - used) else rest

-- as `checked`, of a declaration and what the job has done
abbrev pub checked_by : Set → TxnDecl → ℕ → Work → Op → StepReply → StepReply
checked_by set txn used work (Read item) rest = if may_read txn item.0 then early_by txn.quiet used rest else reply.Undeclared item
checked_by set txn used work (Write item value) rest = if may_write txn item.0 then early_by txn.quiet used rest else reply.Undeclared item
checked_by set txn used work Commit rest = unwritten_or (unwritten set txn.writes work) rest
checked_by set txn used work other rest = rest
