use Rattle.std.specs.List.{All}
use Rattle.response_test.specs.Response.{HasGoodRanges}
use Rattle.core_tests.proofs.responses.rows.Given as goal

abbrev pub invariant-loop-words : goal.invariant-loop-words
invariant-loop-words l = All HasGoodRanges l.rows.items
