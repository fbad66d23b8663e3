-- What `slack` writes: up to how many steps each transaction alone may grow and what bars one more, and how far the validity
-- of each item may fall that somebody reads.
use Rattle.std.specs.Prelude.{ℕ, ◌+◌, List, [], ◌++◌, codes, Option, Some, None}
use Rattle.rt_base.specs.declared.name.Names.{Names}
use Rattle.txn_set.specs.Set.{Set, txn_of}
use Rattle.txn_compiler.specs.Refusal.{compile_refusal}
use Rattle.set_admission.specs.declared.error.AdmitError.{AdmitError}
use Rattle.set_admission.specs.Admission.{refusal}
use Rattle.step_script.specs.Shown.{Shown, set_of}
use Rattle.scale_margin.specs.declared.limits.Slack.{Slack}
use Rattle.scale_margin.specs.declared.limits.Spare.{Spare}
use Rattle.scale_margin.specs.Steps.{barrier_within}
use Rattle.scale_margin.specs.Slacks.{most_steps}
use Rattle.scale_margin.specs.Spares.{spare_of}
use Rattle.report_text.specs.Rows.{numbered}
use Rattle.refusal_lines.specs.Causes.{word, number, txn, item, admit_cause}
use Rattle.command_replies.specs.Replies.{Reply, Written, Compiling, Admitting}

abbrev pub barrier_text : Names → Option AdmitError → List ℕ
barrier_text names None = codes "-"
barrier_text names (Some error) = admit_cause names error

-- a transaction with its steps and the most of them, and what bars one more
abbrev pub slack_line : Names → ℕ → Slack → List ℕ
slack_line names tx slack = codes "slack" ++ txn names (record { 0 = tx }) ++ number slack.steps ++ number slack.most ++ codes "\n"

abbrev pub barrier_line : Names → ℕ → Slack → List ℕ
barrier_line names tx slack = codes "barrier" ++ txn names (record { 0 = tx }) ++ word (barrier_text names slack.barrier) ++ codes "\n"

abbrev pub slack_lines : Names → ℕ → Slack → List ℕ
slack_lines names tx slack = slack_line names tx slack ++ barrier_line names tx slack

-- an item with its validity and its age bound
abbrev pub spare_line : Names → ℕ → Option Spare → List ℕ
spare_line names i None = []
spare_line names i (Some spare) = codes "spare" ++ item names (record { 0 = i }) ++ number spare.validity ++ number spare.age ++ codes "\n"

-- the slack of a transaction
abbrev pub slack_at : Set → ℕ → Slack
slack_at set tx = record { steps = (txn_of set tx).steps; most = most_steps set tx; barrier = barrier_within set tx (most_steps set tx + 1) }

abbrev pub slacks_of : Names → Set → List ℕ
slacks_of names set = numbered (λ tx t. slack_lines names tx (slack_at set tx)) 0 set.txns

abbrev pub spares_of : Names → Set → List ℕ
spares_of names set = numbered (λ i d. spare_line names i (spare_of set i)) 0 set.items

-- the transactions in list order, and then the items
abbrev pub slack_text : Names → Set → List ℕ
slack_text names set = slacks_of names set ++ spares_of names set

-- a set that is not admitted is refused as `admit` refuses it
abbrev pub SlackReply : Shown → Reply
SlackReply s =
    Compiling (Admitting (Written (slack_text s.names (set_of s))) s.names (refusal (set_of s))) s.names
    (compile_refusal (set_of s))
