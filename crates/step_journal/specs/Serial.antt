-- The ended jobs of a history run alone, one after another in order of ending. No lock, priority or wait occurs here.
use Rattle.std.specs.Prelude.{◌≡◌, if◌then◌else◌, List, [], ◌∷◌, map, Option, None, Some}
use Rattle.std.specs.List.{filter_map}
use Rattle.rt_base.specs.declared.ids.JobId.{JobId}
use Rattle.rt_base.specs.declared.operation.Op.{Op}
use Rattle.rt_base.specs.declared.operation.Outcome.{Outcome}
use Rattle.step_journal.specs.declared.entry.Entry.{Entry}
use Rattle.step_journal.specs.declared.entry.Entry.TheVariants.{Step}
use Rattle.txn_set.specs.Set.{Set}
use Rattle.item_model.specs.Work.{Work, no_work, outcome_of, work_after, items_after}
use Rattle.item_model.specs.declared.stored.Stored.{Stored}
use Rattle.step_journal.specs.State.{opening, same_job}
use Rattle.step_journal.specs.declared.entry.EndedJob.{EndedJob}
use Rattle.step_journal.specs.History.{state_of}

-- the operation and the outcome of an entry, where it is a step of this job
abbrev pub op_in : JobId → Entry → Option Op
op_in job (Step by op outcome over tick) = if same_job by job then Some op else None
op_in job other = None

abbrev pub outcome_in : JobId → Entry → Option Outcome
outcome_in job (Step by op outcome over tick) = if same_job by job then Some outcome else None
outcome_in job other = None

abbrev pub ops_of : List Entry → JobId → List Op
ops_of entries job = filter_map (op_in job) entries

abbrev pub outcomes_of : List Entry → JobId → List Outcome
outcomes_of entries job = filter_map (outcome_in job) entries

-- alone: a job's operations without interruption on a list of items
abbrev pub work_alone : List Stored → Work → List Op → Work
work_alone items work [] = work
work_alone items work (op ∷ ops) = work_alone items (work_after items work op) ops

abbrev pub outcomes_alone : List Stored → Work → List Op → List Outcome
outcomes_alone items work [] = []
outcomes_alone items work (op ∷ ops) = outcome_of items work op ∷ outcomes_alone items (work_after items work op) ops

-- the items after an ended job ran alone
abbrev pub items_alone : Set → List Stored → EndedJob → List Op → List Stored
items_alone set items e ops = items_after set.items (work_alone items no_work ops) e.release e.end items

-- the serial run of the ended jobs: the outcomes of each, and the last items
abbrev pub serial_outcomes : Set → List Entry → List Stored → List EndedJob → List (List Outcome)
serial_outcomes set entries items [] = []
serial_outcomes set entries items (e ∷ es) =
    outcomes_alone items no_work (ops_of entries e.job)
    ∷ serial_outcomes set entries (items_alone set items e (ops_of entries e.job)) es

abbrev pub serial_items : Set → List Entry → List Stored → List EndedJob → List Stored
serial_items set entries items [] = items
serial_items set entries items (e ∷ es) = serial_items set entries (items_alone set items e (ops_of entries e.job)) es

-- the outcomes and the items of a history are those of its ended jobs run alone in order of ending
pub record IsSerial (set : Set) (entries : List Entry) : Type 0 where
  pub outcomes : map (λ e. outcomes_of entries e.job) (state_of set entries).ended ≡ serial_outcomes set entries (opening set).items (state_of set entries).ended
  pub items : (state_of set entries).items ≡ serial_items set entries (opening set).items (state_of set entries).ended
