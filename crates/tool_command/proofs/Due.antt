-- An input has one reply, and its status is the one that is due.
use Rattle.std.proofs.Common.{◌≡◌, inl, inr, ℕ, true, List, Option, None, Some, refl, sym, ap, ◌∙◌}
use Rattle.rt_base.specs.declared.name.Names.{Names}
use Rattle.txn_set.specs.Set.{Set}
use Rattle.law_times.specs.Assigned.{with_prios}
use Rattle.law_times.specs.Pass.{prio_at, pass}
use Rattle.txn_priorities.specs.Limits.{limit}
use Rattle.run_report.specs.Bounds.{admitted_of}
use Rattle.txn_compiler.specs.Refusal.{compile_refusal}
use Rattle.set_admission.specs.Admission.{refusal}
use Rattle.step_script.specs.Shown.{Shown, set_of}
use Rattle.scenario_reader.specs.Reading.{data_of, scenario_in}
use Rattle.io_edge.specs.declared.status.Status.{Status}
use Rattle.command_replies.specs.Replies.{Reply, Written, Admitting}
use Rattle.command_replies.specs.Scenarios.{names_in}
use Rattle.command_replies.proofs.Plain.{IsPlain, is_told, fixed, written, compiling, admitting, reading, report, told_due}
use Rattle.scenario_check.specs.declared.found.Refusal.{Refusal}
use Rattle.scenario_check.specs.Findings.{CheckReply, status_of as checked_status}
use Rattle.tool_command.specs.declared.command.ToolCommand.{ToolCommand}
use Rattle.tool_command.specs.declared.command.ToolCommand.TheVariants.{Slack, Priorities, Summary, Json, Table, Check}
use Rattle.tool_command.specs.Slacks.{slack_text, SlackReply}
use Rattle.tool_command.specs.Priorities.{prio_lines, Admission, Behind, Assigning, PriorityReply}
use Rattle.tool_command.specs.Reports.{SummaryReply, JsonReply, TableReply}
use Rattle.tool_command.specs.Answers.{limit_of, Goes, IsAnswer, IsDue}

slack_plain : (s : Shown) → IsPlain (SlackReply s)
slack_plain s =
    let text = slack_text s.names (set_of s) in
    compiling (Admitting (Written text) s.names (refusal (set_of s))) s.names (compile_refusal (set_of s)) (admitting (Written text) s.names (refusal (set_of s)) (written text))

-- priorities keep the limits, or none do

behind : (lines : List ℕ) (goes : Reply) → IsPlain goes → IsPlain (Behind lines goes)
behind lines goes plain = record { told = λ status text h. plain.told status h.0 h.2; one = λ a b x y h i. plain.one a b h.0 i.0 h.2 i.2 }

given : (names : Names) (set : Set) → IsPlain (Behind (prio_lines names (pass set (limit set))) (Admission names (with_prios (prio_at (pass set (limit set))) set)))
given names set =
    let new = with_prios (prio_at (pass set (limit set))) set in
    behind (prio_lines names (pass set (limit set))) (Admission names new) (admitting (Written (admitted_of names new)) names (refusal new) (written (admitted_of names new)))

assigning : (names : Names) (set : Set) → IsPlain (Assigning names set)
assigning names set = record { told = told; one = one }
  where
    told : (status : Status) (text : List ℕ) → Assigning names set status text → is_told status ≡ true
    told status text (inl h) = (given names set).told status text h.reply
    told status text (inr h) = ap is_told h.refused

    one : (a b : Status) (x y : List ℕ) → Assigning names set a x → Assigning names set b y → a ≡ b
    one a b x y (inl p) (inl q) = (given names set).one a b x y p.reply q.reply
    one a b x y (inl p) (inr q) = absurd (q.none (prio_at (pass set (limit set))) p.solved.is p.solved.keeps)
    one a b x y (inr p) (inl q) = absurd (p.none (prio_at (pass set (limit set))) q.solved.is q.solved.keeps)
    one a b x y (inr p) (inr q) = p.refused ∙ sym q.refused

priority_plain : (s : Shown) → IsPlain (PriorityReply s)
priority_plain s = compiling (Assigning s.names (set_of s)) s.names (compile_refusal (set_of s)) (assigning s.names (set_of s))

checked : (o : Option Refusal) → is_told (checked_status o) ≡ true
checked None = refl
checked (Some refusal) = refl

pub plain : (command : ToolCommand) (input : List ℕ) → IsPlain (Goes command input)
plain Slack input = reading SlackReply (names_in (data_of input)) (scenario_in (data_of input)) slack_plain
plain Priorities input = reading PriorityReply (names_in (data_of input)) (scenario_in (data_of input)) priority_plain
plain Summary input = report SummaryReply input (λ r s t h. h.0)
plain Json input = report JsonReply input (λ r s t h. h.0)
plain Table input = report TableReply input (λ r s t h. h.0)
plain (Check trial) input = fixed (CheckReply trial input) _ (checked _) (λ status text h. h.answered)

pub is_due : (command : Option ToolCommand) (old new : Option (List ℕ)) (due : Status) → IsDue command old due → (status : Status) (text : List ℕ) → IsAnswer command old new status text
    → status ≡ due
is_due None old new due is status text a = a.reply.0 ∙ sym is
is_due (Some command) None new due is status text a = absurd is
is_due (Some command) (Some told) new due is status text a = told_due (Goes command) (limit_of command) told new status due text is.0 (plain command) a is.1
