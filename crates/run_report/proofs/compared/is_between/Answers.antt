use Rattle.std.proofs.Common.{◌-◌, ◌∙◌, sym, length}
use Rattle.std.proofs.lemmas.Slice.Eq.{bytes_eq-Decides}
use Rattle.line_fields.proofs.CutLaws.{rest_of}
use Rattle.run_report.proofs.compared.is_between.Goals as goal

pub returns-then-same-clause-closing : goal.returns-then-same-clause-closing
returns-then-same-clause-closing c same =
    sym (rest_of (length c.args.document.now - c.args.after) c.args.document.now)
    ∙ (bytes_eq-Decides _ _).0 (sym c.same-then-same.ensures ∙ same)
