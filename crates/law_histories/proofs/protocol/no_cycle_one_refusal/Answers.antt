use Rattle.law_histories.proofs.Never.{never_stuck, refused_once}
use Rattle.law_histories.proofs.protocol.no_cycle_one_refusal.Goals as goal

pub returns-clause-never_stuck : goal.returns-clause-never_stuck
returns-clause-never_stuck c = never_stuck

pub returns-clause-refused_once : goal.returns-clause-refused_once
returns-clause-refused_once c = refused_once
