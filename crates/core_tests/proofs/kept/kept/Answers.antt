use Rattle.std.proofs.Common.{rules, ◌≡◌, ◌+◌, ◌≤◌, [], length}
use Rattle.sim_run.proofs.Taking.{second_fits}
use Rattle.core_tests.proofs.kept.kept.Goals as goal

pub put-second-requires-clause-fine : goal.put-second-requires-clause-fine
put-second-requires-clause-fine c =
    let none : c.in_ok-out.out.kept ≡ [] = search rules in
    let fits : length c.as_slice.result.now + length c.as_slice-2.result.now ≤ c.in_ok-out.out.room = search rules in
    second_fits c.put-first.result c.in_ok-out.out.kept c.put-first.new.self.kept c.as_slice.result.now c.as_slice-2.result.now c.in_ok-out.out.room c.put-first.new.self.room
    c.put-first.ensures.taken c.put-first.ensures.cause c.put-first.ensures.same none fits
