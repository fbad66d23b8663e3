-- The lines of findings.
use Rattle.std.specs.Prelude.{ℕ, List, [], ◌∷◌, ◌++◌, codes, decimal}
use Rattle.rt_base.specs.declared.name.Names.{Names}
use Rattle.refusal_lines.specs.Causes.{scenario_cause, compile_cause, admit_cause, item, txn}
use Rattle.scenario_check.specs.declared.kinds.Warning.{Warning}
use Rattle.scenario_check.specs.declared.kinds.Warning.TheVariants.{NoScript, NoEnd, LongScript, UnreadLast, NotPeriodic, NeverReleased, Unread, Unused}
use Rattle.scenario_check.specs.declared.found.Finding.{Finding}
use Rattle.scenario_check.specs.declared.found.Refusal.{Refusal}
use Rattle.scenario_check.specs.declared.found.Refusal.TheVariants.{Scenario, Compile, Admit}
use Rattle.scenario_check.specs.declared.found.What.{What}
use Rattle.scenario_check.specs.declared.found.What.TheVariants.{Refused, Repeated, Warned}

-- the words of `run`
abbrev pub refusal_words : Names → Refusal → List ℕ
refusal_words names (Scenario e) = scenario_cause names e
refusal_words names (Compile e) = compile_cause names e
refusal_words names (Admit e) = admit_cause names e

abbrev pub warning_words : Names → Warning → List ℕ
warning_words names (NoScript tx) = codes "NoScript" ++ txn names tx
warning_words names (NoEnd tx) = codes "NoEnd" ++ txn names tx
warning_words names (LongScript tx) = codes "LongScript" ++ txn names tx
warning_words names (UnreadLast tx op i) = codes "UnreadLast" ++ txn names tx ++ item names i
warning_words names (NotPeriodic tx) = codes "NotPeriodic" ++ txn names tx
warning_words names (NeverReleased tx) = codes "NeverReleased" ++ txn names tx
warning_words names (Unread i) = codes "Unread" ++ item names i
warning_words names (Unused i) = codes "Unused" ++ item names i

abbrev pub what_words : Names → What → List ℕ
what_words names (Refused refusal) = refusal_words names refusal
what_words names Repeated = codes "warning Repeated"
what_words names (Warned warning) = codes "warning " ++ warning_words names warning

abbrev pub line_of : Names → Finding → List ℕ
line_of names f =
    decimal f.line ++ codes ":" ++ decimal f.column ++ codes ": " ++ what_words names f.what ++ codes ": "
    ++ f.token.now ++ f.reason.now ++ codes "\n"

abbrev pub lines_of : Names → List Finding → List ℕ
lines_of names [] = []
lines_of names (f ∷ fs) = line_of names f ++ lines_of names fs
