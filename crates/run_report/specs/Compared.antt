-- A document and a report, line by line.
use Rattle.std.specs.Prelude.{ℕ, ◌+◌, true, false, List, [], ◌∷◌, Option, Some, None, slice_get}
use Rattle.std.specs.Str.{bytes_eq}
use Rattle.rt_base.specs.declared.name.Names.{Names}
use Rattle.line_fields.specs.Cuts.{◌>>=◌}
use Rattle.report_text.specs.Forms.{final_form}
use Rattle.run_report.specs.declared.verdict.Verdict.{Verdict}
use Rattle.run_report.specs.declared.verdict.Verdict.TheVariants.{Legal, WrongLine, WrongItem}

-- the item of a line `final ITEM VALUE STAMP`
unfoldable pub final_name : Names → List ℕ → Option (List ℕ)
final_name names line = final_form names line >>= λ item. slice_get names.items item.0

-- line n differs; both have the last value of one item, or not
abbrev pub wrong_by : ℕ → Option (List ℕ) → Option (List ℕ) → Verdict
wrong_by n None other = WrongLine n
wrong_by n (Some item) None = WrongLine n
wrong_by n (Some item) (Some other) = elim (bytes_eq item other) [ true ↦ WrongItem item | false ↦ WrongLine n ]

abbrev pub wrong : Names → ℕ → List ℕ → List ℕ → Verdict
wrong names n document report = wrong_by n (final_name names document) (final_name names report)

-- the first line, from n on, that differs, or that one of the two does not have
abbrev pub compared : Names → ℕ → List (List ℕ) → List (List ℕ) → Verdict
compared names n [] [] = Legal
compared names n [] (report ∷ reports) = WrongLine n
compared names n (document ∷ documents) [] = WrongLine n
compared names n (document ∷ documents) (report ∷ reports) =
    elim (bytes_eq document report) [ true ↦ compared names (n + 1) documents reports | false ↦ wrong names n document report ]
