use Rattle.law_texts.proofs.Drawn.{drawn_locks_are_held, no_lock_later}
use Rattle.law_texts.proofs.pictures.drawn_locks_are_held.Goals as goal

pub returns-clause-held : goal.returns-clause-held
returns-clause-held c = drawn_locks_are_held

pub returns-clause-later : goal.returns-clause-later
returns-clause-later c = no_lock_later
