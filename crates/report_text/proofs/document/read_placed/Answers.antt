use Rattle.std.proofs.Common.{sym, subst}
use Rattle.std.proofs.lemmas.Result.{IfOk-weaker}
use Rattle.report_text.specs.IsHead.{IsHead}
use Rattle.report_text.specs.Placed.{document_in}
use Rattle.report_text.proofs.Reading.{head_refused, head_read}
use Rattle.report_text.proofs.document.read_placed.Goals as goal

pub returns-in-Err-clause-document : goal.returns-in-Err-clause-document
returns-in-Err-clause-document c = rw c.fault.ensures (head_refused c.args.bytes.now c.in-Err.error c.in-Err.ensures.head)

pub returns-in-Ok-clause-document : goal.returns-in-Ok-clause-document
returns-in-Ok-clause-document c = head_read c.args.bytes.now c.in-Ok.head (document_in c.after_head.result) c.in-Ok.ensures.head c.after_head.ensures.document

pub returns-in-Ok-clause-good : goal.returns-in-Ok-clause-good
returns-in-Ok-clause-good c =
    IfOk-weaker c.after_head.result _ _ (λ p h. subst IsHead (sym h) c.in-Ok.ensures.good) c.after_head.ensures.head
