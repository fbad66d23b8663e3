use Rattle.law_texts.proofs.Shown.{each_tick}
use Rattle.law_texts.proofs.Drawn.{drawn_ceilings_are_held, nothing_later}
use Rattle.law_texts.proofs.pictures.drawn_ceilings_are_held.Goals as goal

pub returns-clause-each : goal.returns-clause-each
returns-clause-each c = each_tick

pub returns-clause-held : goal.returns-clause-held
returns-clause-held c = drawn_ceilings_are_held

pub returns-clause-later : goal.returns-clause-later
returns-clause-later c = nothing_later
