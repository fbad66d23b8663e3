-- Reading the canonical data of a scenario gives the scenario, with each run of computes as one.
use Rattle.std.proofs.Common.{◌≡◌, ℕ, zero, suc, ◌+◌, ◌<◌, ◌≤◌, ◌^◌, List, [], ◌∷◌, length, map, Bool, false, not, cond, Option, Some, None, option_map, Result, Ok, refl, sym, ap, ◌∙◌, arith}
use Rattle.std.specs.List.{All, AllPairs, position, position_or_len}
use Rattle.std.proofs.lemmas.Bool.{le-ltb}
use Rattle.std.proofs.lemmas.Str.{is_utf8-from_IsUtf8}
use Rattle.std.specs.Str.{IsUtf8}
use Rattle.serde_json.specs.Read.{read}
use Rattle.rt_base.specs.declared.ids.ItemId.{ItemId}
use Rattle.rt_base.specs.declared.ids.TogetherDecl.{TogetherDecl}
use Rattle.rt_base.specs.declared.release.PlanRefused.{PlanRefused}
use Rattle.item_model.specs.declared.decl.ItemDecl.{ItemDecl}
use Rattle.txn_set.specs.declared.decl.TxnDecl.{TxnDecl}
use Rattle.step_script.specs.Scripts.{Operation, Program}
use Rattle.step_script.specs.declared.releases.Releases.{Releases}
use Rattle.step_script.specs.Shown.{Shown}
use Rattle.step_script.specs.Releases.{total_jobs, bad_release, room_of, eager_end}
use Rattle.step_script.specs.Bodies.{bad_script, long_script}
use Rattle.step_script.specs.Scenarios.{IsScenario}
use Rattle.scenario_forms.specs.declared.error.Place.{Place}
use Rattle.scenario_forms.specs.declared.error.FormError.{FormError}
use Rattle.scenario_forms.specs.Root.{Formed}
use Rattle.scenario_reader.specs.declared.error.ScenarioError.{ScenarioError}
use Rattle.scenario_reader.specs.declared.error.ScenarioError.TheVariants.{UnknownName, TooManyJobs, RoomTooLarge, EagerTooFar}
use Rattle.scenario_reader.specs.Refusals.{◌>>=◌, pass, above, formed}
use Rattle.scenario_reader.specs.Unknown.{is_unknown, is_unknown_op, unknown_in, unknown_from, unknown_set_from, unknown_name}
use Rattle.scenario_reader.specs.Made.{in_item_order, decl_of, group_of, ops_of, program_from, made_of, with_room}
use Rattle.scenario_reader.specs.Judged.{script_error, long_error, release_error, judged_scripts, judged_jobs, judged}
use Rattle.scenario_reader.specs.Reading.{scenario_from, scenario_of, scenario_in, data_of}
use Rattle.scenario_writer.specs.Canonical.{Written, written, is_second, canonical, merged_ops, merged_program, merged}
use Rattle.scenario_writer.specs.Integers.{HasIntegers}
use Rattle.law_texts.specs.ReadBack.{read_txn, read_set, all_written, read_forms, known_op}
use Rattle.law_texts.proofs.Order.{in_order}
use Rattle.law_texts.proofs.Texts.{names_written, canonical_forms}
use Rattle.law_texts.proofs.MergedScenario.{merged_is}

-- No name is unknown.

all_pass : {A : Type 0} (p : A → Bool) (xs : List A) → All (λ x. p x ≡ false) xs → position_or_len p xs ≡ length xs
all_pass p [] h = refl
all_pass p (x ∷ xs) h =
    let here : p x ≡ false = h 0 x (omega arith) in
    ap (λ (b : Bool). cond (not b) (1 + position_or_len p xs) 0) here
    ∙ (let e : position_or_len p xs ≡ length xs = all_pass p xs (λ k d lt. h (suc k) d (omega arith)) in omega arith)

none_passes : {A : Type 0} (p : A → Bool) (xs : List A) → All (λ x. p x ≡ false) xs → position p xs ≡ None
none_passes p xs h = ap (λ (b : Bool). cond b (Some (position_or_len p xs)) None)
    (le-ltb (position_or_len p xs) (length xs) (let e : position_or_len p xs ≡ length xs = all_pass p xs h in omega
    arith))

all_known : (ids : List ItemId) → All (λ x. is_unknown x ≡ false) (map Some ids)
all_known [] k d lt = absurd (omega arith)
all_known (i ∷ ids) zero d lt = refl
all_known (i ∷ ids) (suc k) d lt = all_known ids k d (omega arith)

all_known_ops : (ops : List Operation) → All (λ x. is_unknown_op x ≡ false) (map known_op ops)
all_known_ops [] k d lt = absurd (omega arith)
all_known_ops (op ∷ ops) zero d lt = refl
all_known_ops (op ∷ ops) (suc k) d lt = all_known_ops ops k d (omega arith)

none_unknown : (ids : List ItemId) → position is_unknown (map Some ids) ≡ None
none_unknown ids = none_passes is_unknown (map Some ids) (all_known ids)

none_unknown_op : (ops : List Operation) → position is_unknown_op (map known_op ops) ≡ None
none_unknown_op ops = none_passes is_unknown_op (map known_op ops) (all_known_ops ops)

none_in : (i : ℕ) (w : Written) → unknown_in i (read_txn w) ≡ None
none_in i w = rw (
  none_unknown w.decl.reads,
  none_unknown w.decl.writes,
  none_unknown_op
      (merged_ops w.program.ops),
) refl

none_from : (i : ℕ) (ws : List Written) → unknown_from i (map read_txn ws) ≡ None
none_from i [] = refl
none_from i (w ∷ ws) = rw (none_in i w, none_from (i + 1) ws) refl

none_set_from : (i : ℕ) (gs : List TogetherDecl) → unknown_set_from i (map read_set gs) ≡ None
none_set_from i [] = refl
none_set_from i (g ∷ gs) = rw (none_unknown g.items, none_set_from (i + 1) gs) refl

-- What is made of the forms.

same_ops : (ops : List Operation) → ops_of (map known_op ops) ≡ ops
same_ops [] = refl
same_ops (op ∷ ops) = ap (λ (os : List Operation). op ∷ os) (same_ops ops)

abbrev with_items : TxnDecl → List ItemId → List ItemId → TxnDecl
with_items t reads writes = record t { reads = reads; writes = writes }

abbrev InOrder : ℕ → List ItemId → Type 0
InOrder n ids = AllPairs (λ x y. x.0 < y.0) ids × All (λ i. i.0 < n) ids

same_decl : (n : ℕ) (w : Written) → InOrder n w.decl.reads → InOrder n w.decl.writes → decl_of n (read_txn w) ≡ w.decl
same_decl n w h g =
    ap (λ (ids : List ItemId). with_items w.decl ids (in_item_order n (map Some w.decl.writes)))
    (in_order n w.decl.reads h.0 h.1)
    ∙ ap (λ (ids : List ItemId). with_items w.decl w.decl.reads ids) (in_order n w.decl.writes g.0 g.1)

made_txns : (n : ℕ) (ns : List (List ℕ)) (ts : List TxnDecl) (ps : List Program) (rs : List Releases)
    → length ns ≡ length ts
    → length ps ≡ length ts → length rs ≡ length ts → All (λ t. InOrder n t.reads × InOrder n t.writes) ts
    → map (decl_of n) (map read_txn (written ns ts ps rs)) ≡ ts
made_txns n [] [] ps rs a b c h = refl
made_txns n [] (t ∷ ts) ps rs a b c h = absurd (omega arith)
made_txns n (m ∷ ns) [] ps rs a b c h = absurd (omega arith)
made_txns n (m ∷ ns) (t ∷ ts) [] rs a b c h = absurd (omega arith)
made_txns n (m ∷ ns) (t ∷ ts) (p ∷ ps) [] a b c h = absurd (omega arith)
made_txns n (m ∷ ns) (t ∷ ts) (p ∷ ps) (r ∷ rs) a b c h =
    let here : InOrder n t.reads × InOrder n t.writes = h 0 t (omega arith) in
    ap (λ (u : TxnDecl). u ∷ map (decl_of n) (map read_txn (written ns ts ps rs)))
    (same_decl n (record { name = m; decl = t; program = p; releases = r }) here.0 here.1)
    ∙ ap (λ (us : List TxnDecl). t ∷ us) (made_txns n ns ts ps rs (omega arith) (omega arith) (omega arith)
    (λ k d lt. h (suc k) d (omega arith)))

same_program : (n : ℕ) (w : Written) → w.program.items ≡ n → program_from n (read_txn w) ≡ merged_program w.program
same_program n w over =
    ap (λ (os : List Operation). record { ops = os; samples = w.program.samples; items = n }) (same_ops
    (merged_ops w.program.ops))
    ∙ ap (λ (k : ℕ). record { ops = merged_ops w.program.ops; samples = w.program.samples; items = k }) (sym over)

made_programs : (n : ℕ) (ns : List (List ℕ)) (ts : List TxnDecl) (ps : List Program) (rs : List Releases)
    → length ns ≡ length ts
    → length ps ≡ length ts → length rs ≡ length ts → All (λ p. p.items ≡ n) ps
    → map (program_from n) (map read_txn (written ns ts ps rs)) ≡ map merged_program ps
made_programs n [] ts [] rs a b c h = refl
made_programs n [] ts (p ∷ ps) rs a b c h = absurd (omega arith)
made_programs n (m ∷ ns) [] ps rs a b c h = absurd (omega arith)
made_programs n (m ∷ ns) (t ∷ ts) [] rs a b c h = absurd (omega arith)
made_programs n (m ∷ ns) (t ∷ ts) (p ∷ ps) [] a b c h = absurd (omega arith)
made_programs n (m ∷ ns) (t ∷ ts) (p ∷ ps) (r ∷ rs) a b c h =
    let here : p.items ≡ n = h 0 p (omega arith) in
    ap (λ (q : Program). q ∷ map (program_from n) (map read_txn (written ns ts ps rs)))
    (same_program n (record { name = m; decl = t; program = p; releases = r }) here)
    ∙ ap (λ (qs : List Program). merged_program p ∷ qs) (made_programs n ns ts ps rs (omega arith) (omega arith)
    (omega arith)
    (λ k d lt. h (suc k) d (omega arith)))

made_releases : (ns : List (List ℕ)) (ts : List TxnDecl) (ps : List Program) (rs : List Releases)
    → length ns ≡ length ts
    → length ps ≡ length ts → length rs ≡ length ts → map (λ t. t.releases) (map read_txn (written ns ts ps rs)) ≡ rs
made_releases [] ts ps [] a b c = refl
made_releases [] ts ps (r ∷ rs) a b c = absurd (omega arith)
made_releases (m ∷ ns) [] ps rs a b c = absurd (omega arith)
made_releases (m ∷ ns) (t ∷ ts) [] rs a b c = absurd (omega arith)
made_releases (m ∷ ns) (t ∷ ts) (p ∷ ps) [] a b c = absurd (omega arith)
made_releases (m ∷ ns) (t ∷ ts) (p ∷ ps) (r ∷ rs) a b c =
    ap (λ (qs : List Releases). r ∷ qs) (made_releases ns ts ps rs (omega arith) (omega arith) (omega arith))

made_sets : (n : ℕ) (gs : List TogetherDecl) → All (λ g. InOrder n g.items) gs → map (group_of n) (map read_set gs) ≡ gs
made_sets n [] h = refl
made_sets n (g ∷ gs) h =
    let here : InOrder n g.items = h 0 g (omega arith) in
    ap (λ (ids : List ItemId). record { items = ids; within = g.within } ∷ map (group_of n) (map read_set gs))
    (in_order n g.items here.0 here.1)
    ∙ ap (λ (us : List TogetherDecl). g ∷ us) (made_sets n gs (λ k d lt. h (suc k) d (omega arith)))

abbrev shown_of : List (List ℕ) → List (List ℕ) → List ItemDecl → List TxnDecl → List TogetherDecl → List Program →
    List Releases
    → Shown
shown_of ns ms ds ts gs ps rs = record {
  names = record { items = ns; txns = ms };
  items = ds;
  txns = ts;
  together = gs;
  programs = ps;
  releases = rs;
  room = 0;
}

thens : {A B : Type 0} (r : Result A ScenarioError) (x : A) (f : A → Result B ScenarioError) → r ≡ Ok x
    → (r >>= f) ≡ f x
thens r x f is = ap (λ (q : Result _ ScenarioError). q >>= f) is

passes_low : (most n : ℕ) (error : ℕ → ScenarioError) → n ≤ most → pass (above most error n) ≡ Ok tt
passes_low most n error low = ap (λ (b : Bool). pass (cond b (Some (error n)) None)) (le-ltb most n low)

module _ (s : Shown) (h : IsScenario s) where
  made_back : made_of (read_forms (is_second s) s) ≡ with_room 0 (merged s)
  made_back =
      ap (λ (ms : List (List ℕ)). shown_of s.names.items ms s.items
      (map (decl_of (length s.items)) (map read_txn (all_written s))) (map (group_of (length s.items))
      (map read_set s.together))
      (map (program_from (length s.items)) (map read_txn (all_written s))) (map (λ t. t.releases) (map read_txn
      (all_written s))))
      (names_written s.names.txns s.txns s.programs s.releases h.named_txns h.scripted h.released)
      ∙ ap (λ (ts : List TxnDecl). shown_of s.names.items s.names.txns s.items ts
      (map (group_of (length s.items)) (map read_set s.together)) (map (program_from (length s.items)) (map read_txn
      (all_written s)))
      (map (λ t. t.releases) (map read_txn (all_written s))))
      (made_txns (length s.items) s.names.txns s.txns s.programs s.releases h.named_txns h.scripted h.released
      (λ k d lt. (
        ((h.reads k d lt).rising, (h.reads k d lt).in_range),
        (
          (h.writes k d lt).rising,
          (h.writes k d lt).in_range,
        ),
      )))
      ∙ ap (λ (gs : List TogetherDecl). shown_of s.names.items s.names.txns s.items s.txns gs
      (map (program_from (length s.items)) (map read_txn (all_written s))) (map (λ t. t.releases) (map read_txn
      (all_written s))))
      (made_sets (length s.items) s.together (λ k d lt. ((h.together k d lt).rising, (h.together k d lt).in_range)))
      ∙ ap (λ (ps : List Program). shown_of s.names.items s.names.txns s.items s.txns s.together ps
      (map (λ t. t.releases) (map read_txn (all_written s))))
      (made_programs (length s.items) s.names.txns s.txns s.programs s.releases h.named_txns h.scripted h.released
      (λ k d lt. (h.programs k d lt).over))
      ∙ ap (λ (rs : List Releases). shown_of s.names.items s.names.txns s.items s.txns s.together
      (map merged_program s.programs) rs)
      (made_releases s.names.txns s.txns s.programs s.releases h.named_txns h.scripted h.released)

  unknown_none : unknown_name (read_forms (is_second s) s) ≡ None
  unknown_none = rw (none_from 0 (all_written s), none_set_from 0 s.together) refl

  judged_well : judged (with_room 0 (merged s)) ≡ Ok (room_of s)
  unfolding judged judged_scripts judged_jobs
  judged_well =
      let m : IsScenario (merged s) = merged_is s h in
      let low_room : room_of s ≤ 2 ^ 20 = (let e : s.room ≡ room_of s = h.room in let r : s.room ≤ 2 ^ 20 =
      h.small_room in omega arith) in
      ap (λ (r : Result (Unit {0}) ScenarioError). r >>= λ scripts. judged_jobs (with_room 0 (merged s)))
      (thens (pass (option_map script_error (bad_script (merged s)))) tt (λ good. pass (option_map long_error
      (long_script (merged s))))
      (ap (λ (o : Option (ℕ × ℕ)). pass (option_map script_error o)) m.good_scripts)
      ∙ ap (λ (o : Option ℕ). pass (option_map long_error o)) m.short_scripts)
      ∙ thens (pass (above 65536 TooManyJobs (total_jobs s.releases))) tt _ (passes_low 65536
      (total_jobs s.releases) TooManyJobs h.few_jobs)
      ∙ thens (pass (option_map release_error (bad_release s))) tt _
      (ap (λ (o : Option (ℕ × ℕ × PlanRefused)). pass (option_map release_error o)) h.planned)
      ∙ thens (pass (above (2 ^ 20) RoomTooLarge (room_of s))) tt _ (passes_low (2 ^ 20)
      (room_of s) RoomTooLarge low_room)
      ∙ thens (pass (above (2 ^ 40) EagerTooFar (eager_end s))) tt _ (passes_low (2 ^ 40)
      (eager_end s) EagerTooFar h.eager)

  from_forms : scenario_from (read_forms (is_second s) s) ≡ Ok (merged s)
  unfolding scenario_from
  from_forms =
      thens (pass (option_map UnknownName (unknown_name (read_forms (is_second s) s)))) tt _
      (ap (λ (o : Option Place). pass (option_map UnknownName o)) unknown_none)
      ∙ ap (λ (made : Shown). judged made >>= λ room. Ok (with_room room made)) made_back
      ∙ thens (judged (with_room 0 (merged s))) (room_of s) (λ room. Ok (with_room room (with_room 0
      (merged s)))) judged_well
      ∙ ap (λ (room : ℕ). Ok (with_room room (merged s))) (sym h.room)

  pub read_back : HasIntegers s → scenario_of (canonical s) ≡ Ok (merged s)
  unfolding scenario_of
  read_back g = ap (λ (r : Result Formed FormError). formed r >>= scenario_from) (canonical_forms s h g) ∙ from_forms

pub text_read_back : (s : Shown) (bytes : List ℕ) → IsScenario s → HasIntegers s → IsUtf8 bytes
    → read bytes ≡ Some (canonical s) → scenario_in (data_of bytes) ≡ Ok (merged s)
text_read_back s bytes h g text is =
    ap (λ (b : Bool). scenario_in (cond b (read bytes) None)) (is_utf8-from_IsUtf8 bytes text)
    ∙ ap scenario_in is ∙ read_back s h g
