use Rattle.std.proofs.Common.{ℕ, List, ap, subst, sym, ◌∙◌, ◌++◌}
use Rattle.std.specs.List.{All}
use Rattle.step_journal.specs.declared.entry.Entry.{Entry}
use Rattle.journal_text.specs.Lines.{HasLine}
use Rattle.report_text.specs.Forms.{entry_form}
use Rattle.report_text.specs.Document.{front, lines_of}
use Rattle.report_text.proofs.FirstLaws.{front_lines}
use Rattle.report_text.proofs.document.front_from.Goals as goal

pub returns-clause-lines : goal.returns-clause-lines
returns-clause-lines c =
    let lines : List (List ℕ) = (lines_of c.to_entries-first.result.0.now).0 in
    let form = entry_form c.args.kind.second c.args.head.names in
    subst (All (HasLine c.args.head.names))
    (sym (c.of.ensures ∙ (c.in-Ok.ensures.entries ∙ ap (λ (l : List Entry). l ++ front form lines) c.new-entries.ensures.items)))
    (front_lines c.args.kind.second c.args.head.names lines)
