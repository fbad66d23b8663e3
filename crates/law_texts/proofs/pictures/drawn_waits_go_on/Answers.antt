use Rattle.law_texts.proofs.Drawn.{drawn_waits_go_on, no_wait_later}
use Rattle.law_texts.proofs.pictures.drawn_waits_go_on.Goals as goal

pub returns-clause-held : goal.returns-clause-held
returns-clause-held c = drawn_waits_go_on

pub returns-clause-later : goal.returns-clause-later
returns-clause-later c = no_wait_later
