-- What is left of a scenario that is not refused.
use Rattle.std.specs.Prelude.{◌≡◌, map, None}
use Rattle.rt_base.specs.declared.name.Names.{Names}
use Rattle.txn_set.specs.Set.{Set}
use Rattle.txn_compiler.specs.Refusal.{compile_refusal}
use Rattle.set_admission.specs.Admission.{refusal}
use Rattle.step_script.specs.Scripts.{program_of}
use Rattle.step_script.specs.Shown.{Shown, set_of}
use Rattle.command_replies.specs.declared.accepted.Accepted.{Accepted}
use Rattle.command_replies.specs.declared.accepted.Tasks.{Tasks}

-- the names, the set and the tasks are the scenario's
pub record IsOf (s : Shown) (names : Names) (set : Set) (tasks : Tasks) : Type 0 where
  pub names_are : names ≡ s.names
  pub set_is : set ≡ set_of s
  pub programs_are : map program_of tasks.scripts ≡ s.programs
  pub releases_are : tasks.releases ≡ s.releases
  pub room_is : tasks.room ≡ s.room

-- and the set compiles
pub record IsCompiledOf (s : Shown) (a : Accepted Set) : Type 0 where
  pub parts : IsOf s a.names a.set a.tasks
  pub compiles : compile_refusal (set_of s) ≡ None

-- besides, it is admitted
pub record IsAdmittedOf (s : Shown) (a : Accepted Set) : Type 0 where
  pub parts : IsOf s a.names a.set a.tasks
  pub compiles : compile_refusal (set_of s) ≡ None
  pub admits : refusal (set_of s) ≡ None
