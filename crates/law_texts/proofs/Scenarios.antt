-- What is read of a text is a scenario that nothing refuses.
use Rattle.std.proofs.Common.{◌≡◌, ℕ, ◌^◌, Option, Some, None, Result, Ok, refl, subst}
use Rattle.std.specs.Prelude.{IfOk, option_map}
use Rattle.serde_json.specs.Data.{Data}
use Rattle.step_script.specs.Shown.{Shown}
use Rattle.step_script.specs.Releases.{total_jobs, bad_release, room_of, eager_end}
use Rattle.step_script.specs.Bodies.{bad_script, long_script}
use Rattle.step_script.specs.Scenarios.{IsScenario}
use Rattle.scenario_forms.specs.Root.{Formed, forms_at}
use Rattle.scenario_reader.specs.declared.error.ScenarioError.{ScenarioError}
use Rattle.scenario_reader.specs.declared.error.ScenarioError.TheVariants.{TooManyJobs, RoomTooLarge, EagerTooFar, UnknownName}
use Rattle.scenario_reader.specs.Refusals.{◌>>=◌, pass, above, formed}
use Rattle.scenario_reader.specs.Unknown.{unknown_name}
use Rattle.scenario_reader.specs.Made.{made_of, with_room}
use Rattle.scenario_reader.specs.Judged.{judged, judged_scripts, judged_jobs, script_error, long_error, release_error}
use Rattle.scenario_reader.specs.Reading.{data_of, scenario_from, scenario_of, scenario_in}
use Rattle.scenario_reader.proofs.Making.{map_none, good_scripts}
use Rattle.scenario_reader.proofs.Meets.{IsJudged, meets, passes, at_most, formed_ok}
use Rattle.law_texts.specs.Texts.{ReadIsScenario}
use Rattle.law_texts.proofs.Integers.{thus}

-- Where nothing is refused.

both_pass : (a b : Option ScenarioError) (u : Unit {0}) → (pass a >>= λ v. pass b) ≡ Ok u → (a ≡ None) × (b ≡ None)
both_pass None b u is = (refl, passes b u is)
both_pass (Some e) b u is = absurd cc

-- what is judged well
judged_well : (s : Shown) → IfOk (judged s) (IsJudged s)
unfolding judged judged_scripts judged_jobs
judged_well s =
    thus (IsJudged s) (judged_scripts s) (λ u. judged_jobs s) (λ u scripts.
    let both = both_pass (option_map script_error (bad_script s)) (option_map long_error (long_script s)) u scripts in
    thus (IsJudged s) (pass (above 65536 TooManyJobs (total_jobs s.releases))) _ (λ v few.
    thus (IsJudged s) (pass (option_map release_error (bad_release s))) _ (λ w planned.
    thus (IsJudged s) (pass (above (2 ^ 20) RoomTooLarge (room_of s))) _ (λ x small.
    thus (IsJudged s) (pass (above (2 ^ 40) EagerTooFar (eager_end s))) _ (λ y near. record {
      good_scripts = map_none script_error (bad_script s) both.0;
      short_scripts = map_none long_error (long_script s) both.1;
      few_jobs = at_most 65536 (total_jobs s.releases) TooManyJobs v few;
      planned = map_none release_error (bad_release s) (passes (option_map release_error (bad_release s)) w planned);
      needed = refl;
      small_room = at_most (2 ^ 20) (room_of s) RoomTooLarge x small;
      eager = at_most (2 ^ 40) (eager_end s) EagerTooFar y near;
    })))))

-- The whole.

from_forms : (d : Data) (f : Formed) → forms_at d ≡ Ok f → IfOk (scenario_from f) IsScenario
unfolding scenario_from
from_forms d f is =
    thus IsScenario (pass (option_map UnknownName (unknown_name f))) _ (λ u known.
    thus IsScenario (judged (made_of f)) (λ room. Ok (with_room room (made_of f))) (λ room well.
    meets d f room is (map_none UnknownName (unknown_name f) (passes (option_map UnknownName (unknown_name f)) u known))
    (subst (λ (r : Result ℕ ScenarioError). IfOk r (IsJudged (made_of f))) well (judged_well (made_of f)))))

of_data : (d : Data) → IfOk (scenario_of d) IsScenario
unfolding scenario_of
of_data d =
    thus IsScenario (formed (forms_at d)) scenario_from (λ f is. from_forms d f (formed_ok (forms_at d) f is))

in_data : (o : Option Data) → IfOk (scenario_in o) IsScenario
in_data None = tt
in_data (Some d) = of_data d

pub read_is_scenario : ReadIsScenario
read_is_scenario bytes s is =
    subst (λ (r : Result Shown ScenarioError). IfOk r IsScenario) is (in_data (data_of bytes))
