use Rattle.report_text.proofs.Reading.{head_refused}
use Rattle.report_text.proofs.document.read_front.Goals as goal

pub returns-in-Err-clause-error : goal.returns-in-Err-clause-error
returns-in-Err-clause-error c = rw c.fault.ensures (head_refused c.args.bytes.now c.in-Err.error c.in-Err.ensures.head)
