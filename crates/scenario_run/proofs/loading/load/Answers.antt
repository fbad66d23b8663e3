use Rattle.std.proofs.Common.{◌≡◌, ◌≤◌, ◌+◌, ℕ, Option, None, length, map, refl, sym, ap, subst}
use Rattle.txn_compiler.specs.declared.error.CompileError.{CompileError}
use Rattle.law_histories.specs.Counting.{room_of_jobs}
use Rattle.sim_run.specs.Workloads.{ticks_of}
use Rattle.step_script.specs.Shown.{Shown, shown, set_of}
use Rattle.step_script.specs.Releases.{fixed_ticks, eager_of}
use Rattle.txn_compiler.specs.Refusal.{compile_refusal}
use Rattle.plant_run.specs.Runs.{eager_jobs_at}
use Rattle.command_replies.specs.Accepted.{IsCompiledOf}
use Rattle.command_replies.specs.Replies.{Compiling, Never}
use Rattle.command_replies.proofs.Replying.{taken, refused_by}
use Rattle.scenario_run.specs.Runs.{Declares}
use Rattle.scenario_run.proofs.Ready.{room_is}
use Rattle.scenario_run.proofs.Summaries.{not_refused, summary_as, load_text, generated_eager_jobs}
use Rattle.scenario_run.proofs.loading.load.Goals as goal

pub unreachable-requires : goal.unreachable-requires
unreachable-requires g c =
    let s : Shown = shown c.in_ok-generated.field-0 in
    let told = refused_by _ _ _ c.in-Err.is c.in_ok-names.ensures.refused in
    let passes : compile_refusal (set_of s) ≡ None = not_refused s c.in_ok-generated.ensures.scenario c.in_ok-generated.ensures.compiles in
    subst (λ (o : Option CompileError). Compiling Never s.names o c.in-Err.field-0.status c.in-Err.field-0.text.items) passes told

pub loaded-requires-clause-tasks : goal.loaded-requires-clause-tasks
loaded-requires-clause-tasks g c κs within =
    let s : Shown = shown c.in_ok-generated.field-0 in
    let is : IsCompiledOf s c.in-Ok.field-0 = taken _ _ _ c.in-Ok.is c.in_ok-names.ensures.accepted in
    record { scenario = s; is = c.in_ok-generated.ensures.scenario; set_is = is.parts.set_is; programs_are = is.parts.programs_are; releases_are = is.parts.releases_are }

pub loaded-requires-clause-fixed : goal.loaded-requires-clause-fixed
loaded-requires-clause-fixed g c κs within = λ tx.
    let s : Shown = shown c.in_ok-generated.field-0 in
    let is : IsCompiledOf s c.in-Ok.field-0 = taken _ _ _ c.in-Ok.is c.in_ok-names.ensures.accepted in
    generated_eager_jobs c.args.n s (map eager_of c.in-Ok.field-0.tasks.releases) c.in_ok-generated.ensures.made (ap (map eager_of) is.parts.releases_are) tx

pub loaded-requires-clause-entries : goal.loaded-requires-clause-entries
loaded-requires-clause-entries g c κs within =
    let s : Shown = shown c.in_ok-generated.field-0 in
    let set = c.in-Ok.field-0.set in
    let tasks = c.in-Ok.field-0.tasks in
    let is : IsCompiledOf s c.in-Ok.field-0 = taken _ _ _ c.in-Ok.is c.in_ok-names.ensures.accepted in
    let d : Declares set tasks.scripts tasks.releases =
    record { scenario = s; is = c.in_ok-generated.ensures.scenario; set_is = is.parts.set_is; programs_are = is.parts.programs_are; releases_are = is.parts.releases_are } in
    subst (λ (room : ℕ). room_of_jobs set.txns (λ tx. length (ticks_of (fixed_ticks set.txns tasks.releases) tx) + eager_jobs_at (map eager_of tasks.releases) tx) ≤ room) (sym is.parts.room_is)
    (room_is set tasks.scripts tasks.releases d tasks.scripts (fixed_ticks set.txns tasks.releases) (map eager_of tasks.releases) refl refl refl)

pub returns : goal.returns
returns g c =
    let s : Shown = shown c.in_ok-generated.field-0 in
    let set = c.in-Ok.field-0.set in
    let tasks = c.in-Ok.field-0.tasks in
    let text = c.in_ok-loaded-in-Ok.field-0.items in
    let is : IsCompiledOf s c.in-Ok.field-0 = taken _ _ _ c.in-Ok.is c.in_ok-names.ensures.accepted in
    let d : Declares set tasks.scripts tasks.releases =
    record { scenario = s; is = c.in_ok-generated.ensures.scenario; set_is = is.parts.set_is; programs_are = is.parts.programs_are; releases_are = is.parts.releases_are } in (
      c.written.ensures.0,
      load_text c.args.n s text c.written.result.text.items c.in_ok-generated.ensures.scenario c.in_ok-generated.ensures.made c.written.ensures.1
          (summary_as set tasks.scripts tasks.releases d tasks.scripts (fixed_ticks set.txns tasks.releases) text refl refl c.in_ok-loaded-in-Ok.ensures),
    )
