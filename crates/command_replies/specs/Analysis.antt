-- The status and the text of `rates` and of `margin`.
use Rattle.std.specs.Prelude.{◌+◌, Option, Some, None}
use Rattle.rt_base.specs.declared.name.Names.{Names}
use Rattle.txn_set.specs.Set.{Set}
use Rattle.txn_compiler.specs.Refusal.{compile_refusal}
use Rattle.step_script.specs.Shown.{Shown, set_of}
use Rattle.update_rates.specs.declared.error.RateError.{RateError}
use Rattle.update_rates.specs.RatedSet.{rated_set}
use Rattle.update_rates.specs.Refusal.{rate_refusal}
use Rattle.scale_margin.specs.declared.barrier.Margin.{Margin}
use Rattle.scale_margin.specs.Margins.{percent_of, barrier_within}
use Rattle.refusal_lines.specs.Lines.{rates_of, rate_cause, margin_of}
use Rattle.command_replies.specs.Replies.{Reply, Written, Refused, Compiling}

-- the declarations have rates, or the line of the first cause why they have none
abbrev pub Rating : Reply → Names → Option RateError → Reply
Rating goes names None status text = goes status text
Rating goes names (Some e) status text = Refused (rate_cause names e) status text

abbrev pub RatesReply : Shown → Reply
RatesReply s = Rating (Written (rates_of s.names (rated_set (set_of s)))) s.names (rate_refusal (set_of s))

-- the percentages up to which a set is accepted, and what bars the next
abbrev pub margin_at : Set → Margin
margin_at set = record { percent = percent_of set; barrier = barrier_within set (percent_of set + 1) }

abbrev pub MarginReply : Shown → Reply
MarginReply s = Compiling (Written (margin_of s.names (margin_at (set_of s)))) s.names (compile_refusal (set_of s))
