-- What the program answers, and what it does to its source and its sink.
use Rattle.std.specs.Prelude.{◌≡◌, ℕ, List, length, nat_lt, codes, Option, Some, None}
use Rattle.scenario_reader.specs.Reading.{data_of}
use Rattle.io_edge.specs.declared.status.Status.{Status}
use Rattle.io_edge.specs.declared.status.Status.TheVariants as statuses
use Rattle.command_replies.specs.Replies.{Reply}
use Rattle.command_replies.specs.Taken.{scenario_limit, report_limit, TakesAll, TakesNone, InputReply}
use Rattle.command_replies.specs.Scenarios.{DataReply}
use Rattle.command_replies.specs.Reports.{ReportReply}
use Rattle.command_replies.specs.Answers.{Judged, AnswersBy}
use Rattle.tool_command.specs.declared.command.ToolCommand.{ToolCommand}
use Rattle.tool_command.specs.declared.command.ToolCommand.TheVariants.{Slack, Priorities, Summary, Json, Table, Check}
use Rattle.scenario_check.specs.Findings.{CheckReply}
use Rattle.tool_command.specs.Slacks.{SlackReply}
use Rattle.tool_command.specs.Priorities.{PriorityReply}
use Rattle.tool_command.specs.Reports.{SummaryReply, JsonReply, TableReply}

abbrev pub usage_text : List ℕ
usage_text = codes "usage: rtdb-tool slack | priorities | summary | json | table | check [--trial]\n"

-- the most bytes of what a command reads
abbrev pub limit_of : ToolCommand → ℕ
limit_of Slack = scenario_limit
limit_of Priorities = scenario_limit
limit_of Summary = report_limit
limit_of Json = report_limit
limit_of Table = report_limit
limit_of (Check trial) = scenario_limit

-- the answer to an input that is not too long
abbrev pub Goes : ToolCommand → List ℕ → Reply
Goes Slack input = DataReply SlackReply (data_of input)
Goes Priorities input = DataReply PriorityReply (data_of input)
Goes Summary input = ReportReply SummaryReply input
Goes Json input = ReportReply JsonReply input
Goes Table input = ReportReply TableReply input
Goes (Check trial) input = CheckReply trial input

-- without a command nothing is taken
abbrev pub Takes : Option ToolCommand → Option (List ℕ) → Option (List ℕ) → List ℕ → Type 0
Takes None old new input = TakesNone old new input
Takes (Some command) old new input = TakesAll (limit_of command) old new input

abbrev pub Replies : Option ToolCommand → List ℕ → Reply
Replies None input status text = (status ≡ statuses.Usage) × (text ≡ usage_text)
Replies (Some command) input status text = InputReply (Goes command input) (nat_lt (limit_of command) (length input)) status text

abbrev pub IsAnswer : Option ToolCommand → Option (List ℕ) → Option (List ℕ) → Reply
IsAnswer command old new = Judged (Takes command old new) (Replies command)

-- what was done to a source and a sink, and the status that was answered
abbrev pub Answers : Option ToolCommand → Option (List ℕ) → Option (List ℕ) → Option (List ℕ) → Option (List ℕ) → Status → Type 0
Answers command old new taken taken' status = AnswersBy (IsAnswer command old new) taken taken' status

-- which status is due, where no call fails and memory does not run out: Usage without a command, else that of the reply to
-- the input which the source tells, if it tells one
abbrev pub IsDue : Option ToolCommand → Option (List ℕ) → Status → Type 0
IsDue None told status = status ≡ statuses.Usage
IsDue (Some command) None status = ⊥
IsDue (Some command) (Some input) status = (text : List ℕ) × Replies (Some command) input status text
