use Rattle.law_texts.proofs.Drawn.{drawn_jobs_are_pending, no_job_later}
use Rattle.law_texts.proofs.pictures.drawn_jobs_are_pending.Goals as goal

pub returns-clause-held : goal.returns-clause-held
returns-clause-held c = drawn_jobs_are_pending

pub returns-clause-later : goal.returns-clause-later
returns-clause-later c = no_job_later
