use Rattle.law_times.proofs.Demand.{response_found, response_none, response_reached}
use Rattle.law_times.proofs.responses.response.Goals as goal

pub returns-clause-found : goal.returns-clause-found
returns-clause-found c set tx = record { some = response_found set tx; none = response_none set tx }

pub returns-clause-reached : goal.returns-clause-reached
returns-clause-reached c = response_reached
