use Rattle.law_times.proofs.DeadlinesAll.{in_time, in_response, none_late}
use Rattle.law_times.proofs.responses.deadlines.Goals as goal

pub returns-clause-in_time : goal.returns-clause-in_time
returns-clause-in_time c = in_response

pub returns-clause-in_window : goal.returns-clause-in_window
returns-clause-in_window c = in_time

pub returns-clause-none_late : goal.returns-clause-none_late
returns-clause-none_late c = none_late
