use Rattle.std.proofs.Common.{◌≡◌, ap, ◌∙◌, arith}
use Rattle.run_report.specs.Judged.{set_in, is_admitted}
use Rattle.scenario_run.specs.declared.begun.Begun.{Begun}
use Rattle.scenario_run.specs.Begun.{HasBegun}
use Rattle.scenario_run.proofs.Started.{can_run}
use Rattle.lock_core.specs.Seen.{CoreSeen}
use Rattle.lock_core.specs.Stands.{Stands}
use Rattle.scenario_run.proofs.begun.begun_on_core.Goals as goal

pub returns-in-Ok-new : goal.returns-in-Ok-new
returns-in-Ok-new c =
    let room : c.in-Ok-new.board.journal.room ≡ 4096 = ap (λ j. j.room) c.in-Ok-new.ensures.ok.1 in
    let begun : Begun CoreSeen = record { board = c.in-Ok-new.board; bodies = c.in-Ok.parts.0; report = c.in-Ok.parts.1 } in
    let h : HasBegun Stands (λ (b : CoreSeen). b.set) (λ (b : CoreSeen). b.journal.room) c.args.names.now (is_admitted c.args.set) (set_in c.args.set) c.args.tasks begun =
    record {
      board = c.in-Ok-new.ensures.ok.2;
      set_is = c.in-Ok-new.ensures.ok.0 ∙ c.into_set.ensures;
      more = omega (arith, room);
      parts = c.in-Ok.ensures;
    } in
    record { begun = h; ready = can_run _ _ _ _ _ _ _ _ c.requires.tasks.declares h c.requires.tasks.room }
