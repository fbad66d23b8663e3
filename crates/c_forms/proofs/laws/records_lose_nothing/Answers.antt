use Rattle.c_forms.proofs.Back.{jobs_back, ends_back, steps_back, plans_back, next_plans_back, idles_back, entries_back, operations_named, refusals_back, items_have_rows}
use Rattle.c_forms.proofs.laws.records_lose_nothing.Goals as goal

pub returns : goal.returns
returns c = record { jobs = jobs_back; ends = ends_back; answers = record { steps = steps_back; plans = plans_back; next_plans = next_plans_back; idles = idles_back }; entries = entries_back; operations = operations_named; refusals = refusals_back; items = items_have_rows }
