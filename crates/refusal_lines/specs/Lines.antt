-- The lines of the rates of updaters, of why there are none, and of the margin of a set.
use Rattle.std.specs.Prelude.{ℕ, List, [], ◌++◌, codes, Option, Some, None}
use Rattle.rt_base.specs.declared.name.Names.{Names}
use Rattle.txn_set.specs.declared.decl.TxnDecl.{TxnDecl}
use Rattle.txn_set.specs.Set.{Set}
use Rattle.report_text.specs.Rows.{numbered}
use Rattle.refusal_lines.specs.Causes.{word, number, txn, compile_cause, admit_cause}
use Rattle.update_rates.specs.declared.error.RateError.{RateError}
use Rattle.update_rates.specs.declared.error.RateError.TheVariants as rating
use Rattle.scale_margin.specs.declared.barrier.Barrier.{Barrier}
use Rattle.scale_margin.specs.declared.barrier.Barrier.TheVariants as barriers
use Rattle.scale_margin.specs.declared.barrier.Margin.{Margin}

-- a transaction with its priority, period and deadline
abbrev pub rate_line : Names → ℕ → TxnDecl → List ℕ
rate_line names tx decl =
    codes "rate" ++ txn names (record { 0 = tx }) ++ number decl.prio ++ number decl.period ++ number decl.deadline ++ codes "\n"

-- these in list order, and that the set is admitted
abbrev pub rates_of : Names → Set → List ℕ
rates_of names set = numbered (rate_line names) 0 set.txns ++ codes "admitted\n"

abbrev pub rate_cause : Names → RateError → List ℕ
rate_cause names (rating.Compile e) = compile_cause names e
rate_cause names (rating.NotAnUpdater tx) = codes "NotAnUpdater" ++ txn names tx
rate_cause names (rating.TooTight tx demand) = codes "TooTight" ++ txn names tx ++ number demand
rate_cause names rating.OutOfMemory = []

abbrev pub barrier_cause : Names → Barrier → List ℕ
barrier_cause names (barriers.Compile e) = compile_cause names e
barrier_cause names (barriers.Admit e) = admit_cause names e

abbrev pub barrier_text : Names → Option Barrier → List ℕ
barrier_text names None = codes "-"
barrier_text names (Some barrier) = barrier_cause names barrier

-- the percentage, and what bars the next
abbrev pub margin_of : Names → Margin → List ℕ
margin_of names margin =
    codes "margin" ++ number margin.percent ++ codes "\n" ++ codes "barrier" ++ word (barrier_text names margin.barrier) ++ codes "\n"
