use Rattle.age_bounds.proofs.Rungs.{good_rungs}
use Rattle.core_tests.proofs.ladders.ladder_ages.Goals as goal

pub ages-requires : goal.ages-requires
ages-requires c = rw c.deref.ensures.value (good_rungs _ c.in_ok-rows.ensures)
