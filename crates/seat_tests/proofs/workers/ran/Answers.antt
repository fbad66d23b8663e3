use Rattle.std.proofs.Common.{[]}
use Rattle.seat_tests.proofs.workers.ran.Goals as goal

pub run_all-answer-requires-clause-good : goal.run_all-answer-requires-clause-good
run_all-answer-requires-clause-good g c κs within = λ h to legal begins. ([], tt, tt)
