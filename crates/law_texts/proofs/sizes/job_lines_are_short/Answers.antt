use Rattle.law_texts.proofs.ReportLaw.{jobs_nearly_short, jobs_short}
use Rattle.law_texts.proofs.sizes.job_lines_are_short.Goals as goal

pub returns-clause-any : goal.returns-clause-any
returns-clause-any c = jobs_nearly_short

pub returns-clause-few : goal.returns-clause-few
returns-clause-few c = jobs_short
