-- What a scenario that is read meets.
use Rattle.std.proofs.Common.{◌≡◌, ℕ, ◌+◌, ◌^◌, ◌<◌, ◌≤◌, Bool, true, false, cond, ltb, List, [], ◌∷◌, map, length, get_or, Option, Some, None, Result, Ok, Err, refl, sym, ap, subst, ◌∙◌, arith, zero-add}
use Rattle.std.specs.Prelude.{IfOk, option_map}
use Rattle.std.specs.List.{All, AllPairs, filter, range_with_len}
use Rattle.std.proofs.lemmas.Bool.{ltb-false}
use Rattle.std.proofs.lemmas.List.{length-map, get_or-map}
use Rattle.std.proofs.lemmas.List.Elements.{All-map, All-filter}
use Rattle.std.proofs.lemmas.List.Kept.{AllPairs-filter}
use Rattle.std.proofs.lemmas.List.FromFn.{get_or-range_with_len, length-range_with_len}
use Rattle.serde_json.specs.Data.{Data}
use Rattle.rt_base.specs.declared.ids.ItemId.{ItemId}
use Rattle.txn_set.specs.Set.{Set, AreItemsOf}
use Rattle.step_script.specs.declared.whole.Scenario.{Scenario}
use Rattle.step_script.specs.Shown.{Shown, shown, set_of}
use Rattle.step_script.specs.Releases.{total_jobs, bad_release, room_of, eager_end}
use Rattle.step_script.specs.Bodies.{bad_script, long_script}
use Rattle.step_script.specs.Scenarios.{IsScenario}
use Rattle.scenario_forms.specs.declared.error.FormError.{FormError}
use Rattle.scenario_forms.specs.Fields.{item_id}
use Rattle.scenario_forms.specs.Txns.{Txn}
use Rattle.scenario_forms.specs.Sets.{Together}
use Rattle.scenario_forms.specs.Root.{Formed, forms_at}
use Rattle.scenario_reader.specs.declared.error.ScenarioError.{ScenarioError}
use Rattle.scenario_reader.specs.declared.error.ScenarioError.TheVariants.{TooManyJobs, RoomTooLarge, EagerTooFar, UnknownName}
use Rattle.scenario_reader.specs.Refusals.{◌>>=◌, GivesBy, pass, above, formed}
use Rattle.scenario_reader.specs.Unknown.{unknown_name}
use Rattle.scenario_reader.specs.Made.{is_named, in_item_order, decl_of, group_of, made_of, with_room}
use Rattle.scenario_reader.specs.Judged.{judged, judged_scripts, judged_jobs, script_error, long_error, release_error}
use Rattle.scenario_reader.specs.Reading.{scenario_from, scenario_of, scenario_in}
use Rattle.scenario_reader.proofs.Tables.{are_names, forms_have}
use Rattle.scenario_reader.proofs.Making.{map_none, good_scripts, programs_over, text_times}
use Rattle.scenario_reader.proofs.Ranges.{AreGood, forms_are_good}

-- Where judging goes well.

then_ok : {A B : Type 0} (r : Result A ScenarioError) (f : A → Result B ScenarioError) (b : B) → (r >>= f) ≡ Ok b
    → (a : A) × ((r ≡ Ok a) × (f a ≡ Ok b))
then_ok (Ok a) f b is = (a, (refl, is))
then_ok (Err e) f b is = absurd cc

pub passes : (o : Option ScenarioError) (u : Unit {0}) → pass o ≡ Ok u → o ≡ None
passes None u is = refl
passes (Some e) u is = absurd cc

pub at_most_by : (most n : ℕ) (error : ℕ → ScenarioError) (b : Bool) → ltb most n ≡ b
    → cond b (Some (error n)) None ≡ None → n ≤ most
at_most_by most n error true is none = absurd cc
at_most_by most n error false is none = ltb-false most n is

pub at_most : (most n : ℕ) (error : ℕ → ScenarioError) (u : Unit {0}) → pass (above most error n) ≡ Ok u → n ≤ most
at_most most n error u is = at_most_by most n error (ltb most n) refl (passes (above most error n) u is)

-- what is judged well
pub record IsJudged (s : Shown) (room : ℕ) : Type 0 where
  pub good_scripts : bad_script s ≡ None
  pub short_scripts : long_script s ≡ None
  pub few_jobs : total_jobs s.releases ≤ 65536
  pub planned : bad_release s ≡ None
  pub needed : room ≡ room_of s
  pub small_room : room_of s ≤ 2 ^ 20
  pub eager : eager_end s ≤ 2 ^ 40

ok_is : {A : Type 0} (a b : A) → ◌≡◌ {A = Result A ScenarioError} (Ok a) (Ok b) → a ≡ b
ok_is a b is = cc

abbrev after_small : Shown → Unit {0} → Result ℕ ScenarioError
after_small s u = pass (above (2 ^ 40) EagerTooFar (eager_end s)) >>= λ v. Ok (room_of s)

abbrev after_planned : Shown → Unit {0} → Result ℕ ScenarioError
after_planned s u = pass (above (2 ^ 20) RoomTooLarge (room_of s)) >>= after_small s

abbrev after_few : Shown → Unit {0} → Result ℕ ScenarioError
after_few s u = pass (option_map release_error (bad_release s)) >>= after_planned s

judged_well : (s : Shown) (room : ℕ) → judged s ≡ Ok room → IsJudged s room
unfolding judged judged_scripts judged_jobs
judged_well s room is =
    let scripts = then_ok (judged_scripts s) (λ u. judged_jobs s) room is in
    let bad = then_ok (pass (option_map script_error (bad_script s)))
    (λ u. pass (option_map long_error (long_script s))) scripts.0 scripts.1.0 in
    let few = then_ok (pass (above 65536 TooManyJobs (total_jobs s.releases))) (after_few s) room scripts.1.1 in
    let planned = then_ok (pass (option_map release_error (bad_release s))) (after_planned s) room few.1.1 in
    let small = then_ok (pass (above (2 ^ 20) RoomTooLarge (room_of s))) (after_small s) room planned.1.1 in
    let near = then_ok (pass (above (2 ^ 40) EagerTooFar (eager_end s))) (λ u. Ok (room_of s)) room small.1.1 in
    record {
      good_scripts = map_none script_error (bad_script s) (passes _ bad.0 bad.1.0);
      short_scripts = map_none long_error (long_script s) (passes _ scripts.0 bad.1.1);
      few_jobs = at_most 65536 (total_jobs s.releases) TooManyJobs few.0 few.1.0;
      planned = map_none release_error (bad_release s) (passes _ planned.0 planned.1.0);
      needed = sym (ok_is (room_of s) room near.1.1);
      small_room = at_most (2 ^ 20) (room_of s) RoomTooLarge small.0 small.1.0;
      eager = at_most (2 ^ 40) (eager_end s) EagerTooFar near.0 near.1.0;
    }

-- Lists in item order.

order_rises : (items : ℕ) (names : List (Option ItemId)) → AllPairs (λ a b. a < b)
    (filter (is_named names) (range_with_len 0 items))
order_rises items names =
    AllPairs-filter (λ a b. a < b) (is_named names) (range_with_len 0 items)
    (λ i j d lt less.
    omega (
      arith,
      length-range_with_len 0 items,
      get_or-range_with_len 0 items i d (omega (arith, length-range_with_len 0 items)),
      get_or-range_with_len 0 items j d (omega (arith, length-range_with_len 0 items)),
    ))

order_below : (items : ℕ) (names : List (Option ItemId)) → All (λ i. i < items)
    (filter (is_named names) (range_with_len 0 items))
order_below items names =
    All-filter (is_named names) (λ i. i < items) (range_with_len 0 items)
    (λ k d lt. omega (
      arith,
      length-range_with_len 0 items,
      get_or-range_with_len 0 items k d (omega (arith, length-range_with_len 0 items)),
    ))

ids_rise : (ns : List ℕ) → AllPairs (λ a b. a < b) ns → AllPairs (λ a b. a.0 < b.0) (map item_id ns)
ids_rise ns h i j d lt less =
    let count = length-map ns item_id in
    let first = ap (λ (x : ItemId). x.0) (get_or-map item_id ns i d.0 d (omega (arith, count))) in
    let second = ap (λ (x : ItemId). x.0) (get_or-map item_id ns j d.0 d (omega (arith, count))) in
    omega (arith, first, second, h i j d.0 lt (omega (arith, count)))

pub in_order : (set : Set) (names : List (Option ItemId)) → AreItemsOf set (in_item_order (length set.items) names)
in_order set names = record {
  rising = ids_rise (filter (is_named names) (range_with_len 0 (length set.items)))
      (order_rises (length set.items) names);
  in_range = All-map (λ i. i.0 < length set.items) item_id
      (filter (is_named names) (range_with_len 0 (length set.items))) (order_below (length set.items) names);
}

-- The whole.

pub meets : (d : Data) (f : Formed) (room : ℕ) → forms_at d ≡ Ok f → unknown_name f ≡ None → IsJudged (made_of f) room
    → IsScenario (with_room room (made_of f))
meets d f room is known judged =
    let tables = forms_have d f is in
    let good = forms_are_good d f is in
    record {
      item_names = are_names _ _ tables.0;
      txn_names = are_names _ _ tables.1;
      named_items = tables.0.all;
      named_txns = tables.1.all ∙ sym (length-map f.txns.txns (decl_of (length f.items.decls)));
      scripted = length-map f.txns.txns _ ∙ sym (length-map f.txns.txns (decl_of (length f.items.decls)));
      released = length-map f.txns.txns _ ∙ sym (length-map f.txns.txns (decl_of (length f.items.decls)));
      reads = All-map (λ t. AreItemsOf (set_of (made_of f)) t.reads) (decl_of (length f.items.decls)) f.txns.txns
          (λ k t lt. in_order (set_of (made_of f)) (get_or f.txns.txns k t).reads);
      writes = All-map (λ t. AreItemsOf (set_of (made_of f)) t.writes) (decl_of (length f.items.decls)) f.txns.txns
          (λ k t lt. in_order (set_of (made_of f)) (get_or f.txns.txns k t).writes);
      together = All-map (λ g. AreItemsOf (set_of (made_of f)) g.items) (group_of (length f.items.decls)) f.sets
          (λ k g lt. in_order (set_of (made_of f)) (get_or f.sets k g).items);
      validities = good.validities;
      times = text_times (length f.items.decls) f.txns.txns good.txns;
      within = All-map (λ g. g.within ≤ 2 ^ 40) (group_of (length f.items.decls)) f.sets good.within;
      programs = programs_over (length f.items.decls) f.txns.txns (good_scripts f good.txns known) good.txns;
      good_scripts = judged.good_scripts;
      short_scripts = judged.short_scripts;
      few_jobs = judged.few_jobs;
      planned = judged.planned;
      room = judged.needed;
      small_room = subst (λ (k : ℕ). k ≤ 2 ^ 20) (sym judged.needed) judged.small_room;
      eager = judged.eager;
    }

pub formed_ok : (r : Result Formed FormError) (f : Formed) → formed r ≡ Ok f → r ≡ Ok f
formed_ok (Ok g) f is = ap Ok cc
formed_ok (Err e) f is = absurd cc

abbrev after_known : Formed → Unit {0} → Result Shown ScenarioError
after_known f u = judged (made_of f) >>= λ room. Ok (with_room room (made_of f))

from_forms : (d : Data) (f : Formed) (s : Shown) → forms_at d ≡ Ok f → scenario_from f ≡ Ok s → IsScenario s
unfolding scenario_from
from_forms d f s forms is =
    let known = then_ok (pass (option_map UnknownName (unknown_name f))) (after_known f) s is in
    let room = then_ok (judged (made_of f)) (λ room. Ok (with_room room (made_of f))) s known.1.1 in
    subst IsScenario (ok_is (with_room room.0 (made_of f)) s room.1.1)
    (meets d f room.0 forms (map_none UnknownName (unknown_name f) (passes _ known.0 known.1.0))
    (judged_well (made_of f) room.0 room.1.0))

is_scenario : (d : Data) (s : Shown) → scenario_of d ≡ Ok s → IsScenario s
unfolding scenario_of
is_scenario d s is =
    let f = then_ok (formed (forms_at d)) scenario_from s is in
    from_forms d f.0 s (formed_ok (forms_at d) f.0 f.1.0) f.1.1

from_data : (o : Option Data) (s : Shown) → scenario_in o ≡ Ok s → IsScenario s
from_data None s is = absurd cc
from_data (Some d) s is = is_scenario d s is

pub read_well : (r : Result Scenario ScenarioError) (o : Option Data) → GivesBy shown r (scenario_in o)
    → IfOk r (λ s. IsScenario (shown s))
read_well (Ok s) o is = from_data o (shown s) is
read_well (Err e) o is = tt
