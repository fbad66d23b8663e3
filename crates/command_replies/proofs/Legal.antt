-- A report that is not legal.
use Rattle.std.proofs.Common.{◌≡◌, ℕ, false, List, refl, ap, ◌∙◌}
use Rattle.run_report.specs.declared.verdict.Verdict.{Verdict}
use Rattle.run_report.specs.declared.verdict.Verdict.TheVariants.{Legal}
use Rattle.run_report.specs.Verdict.{names_of}
use Rattle.run_report.specs.Judged.{is_legal, IsOther}
use Rattle.io_edge.specs.declared.status.Status.{Status}
use Rattle.command_replies.specs.Verdicts.{status_of, verdict_text}
use Rattle.command_replies.specs.Reports.{is_ok, IsNotLegal}

-- a verdict other than Legal has another status than Ok
not_ok : (v : Verdict) → is_legal v ≡ false → is_ok (status_of v) ≡ false
not_ok Legal e = absurd cc
not_ok v e = refl

pub not_legal : (input : List ℕ) (v : Verdict) (status : Status) (text : List ℕ) → IsOther input v → status ≡ status_of v
    → text ≡ verdict_text (names_of input) v → IsNotLegal input status text
not_legal input v status text h s t = record {
  other = ap is_ok s ∙ not_ok v h.other;
  verdict = (v, h.verdict, s, t);
}
