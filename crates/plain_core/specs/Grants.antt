-- The answer to a granted step of a slot's job, and how the step ends the job.
use Rattle.std.specs.Prelude.{ℕ, ◌+◌, ◌==◌, List, Option, None, Some}
use Rattle.rt_base.specs.declared.ids.JobId.{JobId}
use Rattle.rt_base.specs.declared.operation.Op.{Op}
use Rattle.rt_base.specs.declared.operation.End.{End}
use Rattle.item_model.specs.declared.stored.Stored.{Stored}
use Rattle.item_model.specs.Work.{Work, outcome_of}
use Rattle.txn_set.specs.declared.decl.TxnDecl.{TxnDecl}
use Rattle.txn_set.specs.Set.{Set, txn_of}
use Rattle.step_journal.specs.State.{Row, row_of}
use Rattle.board.specs.Over.{over_of}
use Rattle.board.specs.declared.replies.StepReply.{StepReply}
use Rattle.board.specs.declared.replies.StepReply.TheVariants as reply
use Rattle.plain_core.specs.Slots.{head_of}
use Rattle.plain_core.specs.TablesSeen.{TablesSeen}
use Rattle.plain_core.specs.Effects.{end_here, stepped_tables, settled_by}
use Rattle.plain_core.specs.declared.slot.Head.{Head}

-- the end by the step's effect alone
abbrev pub own_end_by : Set → TxnDecl → ℕ → Head → Work → Op → Option End
own_end_by set txn now head work op = end_here set.items set.together txn work (head.used + 1) (now + 1) op

abbrev pub granted_by : Set → TxnDecl → List Stored → ℕ → Head → Work → Op → StepReply
granted_by set txn items now head work op =
    reply.Done (outcome_of items work op) (over_of (own_end_by set txn now head work op) (head.release + txn.deadline == now + 1))

abbrev pub slot_end_by : Set → ℕ → JobId → Op → Option Row → Option End
slot_end_by set now job op None = None
slot_end_by set now job op (Some row) = own_end_by set (txn_of set job.tx.0) now (head_of row) row.work op

-- the tables after the effect of a granted step
abbrev pub effect_by : Set → JobId → Op → TablesSeen → TablesSeen
effect_by set job op t =
    settled_by set.items (stepped_tables t job op) job (slot_end_by set t.state.now job op (row_of t.state.rows job.tx.0))
