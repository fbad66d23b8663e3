use Rattle.std.proofs.Common.{◌∙◌}
use Rattle.core_tests.proofs.replays.write_replayed.Goals as goal

pub are_told-told-requires-clause-legal : goal.are_told-told-requires-clause-legal
are_told-told-requires-clause-legal c = c.in-Ok.ensures.ok.legal

pub are_told-told-requires-clause-rows : goal.are_told-told-requires-clause-rows
are_told-told-requires-clause-rows c = c.as_slice.ensures ∙ c.in-Ok.ensures.ok.jobs_are
