-- What `priorities` writes: the priorities that the pass gives, and what `admit` writes of the set with these; or the level at which
-- none passes, with what is asked there.
use Rattle.std.specs.Prelude.{◌≡◌, ◌⊎◌, ℕ, suc, List, ◌++◌, codes}
use Rattle.rt_base.specs.declared.name.Names.{Names}
use Rattle.txn_set.specs.Set.{Set}
use Rattle.txn_compiler.specs.Refusal.{compile_refusal}
use Rattle.set_admission.specs.Admission.{refusal}
use Rattle.step_script.specs.Shown.{Shown, set_of}
use Rattle.law_times.specs.Assigned.{with_prios}
use Rattle.law_times.specs.Pass.{prio_at, pass, pass_to, IsStuck}
use Rattle.law_times.specs.Laws.{IsSolved, NoneKeeps}
use Rattle.txn_priorities.specs.declared.refusal.Unplaced.{Unplaced}
use Rattle.txn_priorities.specs.Limits.{limit}
use Rattle.txn_priorities.specs.Answers.{unplaced}
use Rattle.run_report.specs.Bounds.{admitted_of}
use Rattle.report_text.specs.Rows.{numbered}
use Rattle.refusal_lines.specs.Causes.{number, txn}
use Rattle.io_edge.specs.declared.status.Status.{Status}
use Rattle.io_edge.specs.declared.status.Status.TheVariants as statuses
use Rattle.command_replies.specs.Texts.{refused_line}
use Rattle.command_replies.specs.Replies.{Reply, Written, Compiling, Admitting}

abbrev pub prio_line : Names → ℕ → ℕ → List ℕ
prio_line names tx prio = codes "prio" ++ txn names (record { 0 = tx }) ++ number prio ++ codes "\n"

-- a line for each transaction, in list order
abbrev pub prio_lines : Names → List ℕ → List ℕ
prio_lines names prios = numbered (prio_line names) 0 prios

-- a transaction that is left, with its limit and its demand within it
abbrev pub unplaced_line : Names → Unplaced → List ℕ
unplaced_line names row = codes "unplaced" ++ txn names row.tx ++ number row.limit ++ number row.demand ++ codes "\n"

abbrev pub unplaced_lines : Names → List Unplaced → List ℕ
unplaced_lines names rows = numbered (λ place. unplaced_line names) 0 rows

-- the level at which none passes, counted from 1
abbrev pub level_cause : ℕ → List ℕ
level_cause level = codes "NoPriorities" ++ number level

-- what `admit` writes of a set
abbrev pub Admission : Names → Set → Reply
Admission names set = Admitting (Written (admitted_of names set)) names (refusal set)

-- lines, and behind them a reply
abbrev pub Behind : List ℕ → Reply → Reply
Behind lines goes status text = (rest : List ℕ) × (text ≡ lines ++ rest) × goes status rest

-- priorities by their lines, and the set with these
abbrev pub GivenReply : Names → Set → List ℕ → Reply
GivenReply names set prios = Behind (prio_lines names prios) (Admission names (with_prios (prio_at prios) set))

-- the priorities of the pass, which keep the limits
pub record Solves (names : Names) (set : Set) (status : Status) (text : List ℕ) : Type 0 where
  pub solved : IsSolved set (limit set) (pass set (limit set))
  pub reply : GivenReply names set (pass set (limit set)) status text

-- no assignment keeps the limits
pub record Sticks (names : Names) (set : Set) (status : Status) (text : List ℕ) : Type 0 where
  pub none : NoneKeeps set (limit set)
  pub below : ℕ
  pub stuck : IsStuck set (limit set) below
  pub refused : status ≡ statuses.Refused
  pub lines :
      text ≡ refused_line (level_cause (suc below)) ++ unplaced_lines names (unplaced set (pass_to set (limit set) below))

abbrev pub Assigning : Names → Set → Reply
Assigning names set status text = Solves names set status text ⊎ Sticks names set status text

-- a set that does not compile is refused as `admit` refuses it
abbrev pub PriorityReply : Shown → Reply
PriorityReply s = Compiling (Assigning s.names (set_of s)) s.names (compile_refusal (set_of s))
