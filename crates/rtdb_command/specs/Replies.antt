-- The status and the text that words and an input have, whatever fails.
use Rattle.std.specs.Prelude.{◌≡◌, ℕ, List, ◌++◌, length, codes, nat_lt, Option, Some, None}
use Rattle.serde_json.specs.Written.{compact_text}
use Rattle.scenario_writer.specs.Canonical.{canonical}
use Rattle.scenario_writer.specs.Generated.{generated_of}
use Rattle.command_words.specs.declared.command.Command.{Command}
use Rattle.command_words.specs.declared.command.Command.TheVariants.{Plain, Run, Load}
use Rattle.command_words.specs.declared.command.PlainCommand.TheVariants.{Ceilings, Admit, Replay, Gen, Rates, Margin}
use Rattle.io_edge.specs.declared.status.Status.TheVariants as statuses
use Rattle.command_replies.specs.Replies.{Reply, Written, CeilingsReply, AdmitReply, VerdictReply}
use Rattle.command_replies.specs.Analysis.{RatesReply, MarginReply}
use Rattle.command_replies.specs.Taken.{report_limit, InputReply}
use Rattle.command_replies.specs.Scenarios.{AskedReply}
use Rattle.scenario_run.specs.Replies.{RunReply, LoadReply}

-- the answer to the bytes of a report
abbrev pub JudgedReply : List ℕ → Reply
JudgedReply input = InputReply (VerdictReply input) (nat_lt report_limit (length input))

-- the generated scenario, and a line end
abbrev pub generated_text : ℕ → List ℕ
generated_text n = compact_text (canonical (generated_of n)) ++ codes "\n"

abbrev pub usage_text : List ℕ
usage_text = codes "usage: rtdb ceilings | admit | run [--trial] [--workers N] | replay | gen N | load N [--workers K] | rates | margin | journal PATH\n"

-- The number of workers changes no reply.
abbrev pub Replies : Option Command → List ℕ → Reply
Replies None input status text = (status ≡ statuses.Usage) × (text ≡ usage_text)
Replies (Some (Plain Ceilings)) input status text = AskedReply CeilingsReply input status text
Replies (Some (Plain Admit)) input status text = AskedReply AdmitReply input status text
Replies (Some (Plain Replay)) input status text = JudgedReply input status text
Replies (Some (Plain (Gen n))) input status text = Written (generated_text n) status text
Replies (Some (Plain Rates)) input status text = AskedReply RatesReply input status text
Replies (Some (Plain Margin)) input status text = AskedReply MarginReply input status text
Replies (Some (Run trial workers)) input status text = AskedReply (RunReply trial) input status text
Replies (Some (Load n workers)) input status text = LoadReply n status text
