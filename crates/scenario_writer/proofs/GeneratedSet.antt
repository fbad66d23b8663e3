-- A generated scenario is one, and its set compiles.
use Rattle.std.proofs.Common.{◌≡◌, ◌≢◌, ℕ, zero, suc, ◌+◌, ◌-◌, ◌<◌, ◌≤◌, ◌^◌, ◌*◌, ◌%◌, List, [], ◌∷◌, ◌++◌, length, get_or, Bool, true, false, ◌||◌, cond, ◌⊎◌, inl, inr, Option, Some, None, IsTrue, refl, sym, ap, subst, ◌∙◌, arith}
use Rattle.std.specs.Prelude.{◌==◌, slice_get, is_some}
use Rattle.std.specs.Option.{option_and_then}
use Rattle.std.specs.List.{All, AllPairs, list_any}
use Rattle.std.proofs.lemmas.Bool.{or_cases, or_left, eqb-true, eq-eqb, cases_lt, cases_order, false≢true, eqb-false}
use Rattle.std.proofs.lemmas.List.{get_or_past}
use Rattle.std.proofs.lemmas.Option.{slice_get-get_or, slice_get_cases}
use Rattle.step_script.specs.Bodies.{steps_of}
use Rattle.step_script.specs.Releases.{total_jobs, entries_in}
use Rattle.rt_base.specs.declared.ids.ItemId.{ItemId}
use Rattle.item_model.specs.declared.decl.ItemDecl.{ItemDecl}
use Rattle.item_model.specs.declared.decl.ItemKind.TheVariants.{Sensor, Derived}
use Rattle.item_model.specs.Kinds.{is_dated, is_derived, is_derived_decl, is_derived_kind, validity_of_kind}
use Rattle.txn_set.specs.declared.decl.TxnDecl.{TxnDecl}
use Rattle.txn_set.specs.Set.{Set, txn_of, no_txn, may_read, may_write, HasGoodTimes, AreItemsOf, IsTheWriter, Walk, IsCompiled}
use Rattle.step_script.specs.Scripts.{Program}
use Rattle.step_script.specs.Shown.{set_of}
use Rattle.step_script.specs.Scenarios.{HasValidity, HasTextTimes, IsProgramOver, IsScenario}
use Rattle.scenario_writer.specs.Generated.{each, item_id, is_even, period_of, dated_name, dated_item, state_item, txn_name, txn_decl, program, releases_each, generated_of}
use Rattle.scenario_writer.proofs.GeneratedNames.{at_each, length_each, length_with, before_last, at_last, item_names, txn_names}
use Rattle.scenario_writer.proofs.GeneratedReleases.{planned, jobs_in_all, no_eager, room, low_last}
use Rattle.scenario_writer.proofs.GeneratedScripts.{reads_below, writes_below, good_scripts, steps, none_long, is_program}

-- a fact of each element
pub all_each : {A : Type 0} (P : A → Type 0) (f : ℕ → A) (n : ℕ) → ((i : ℕ) → i < n → P (f i)) → All P (each f n)
all_each P f n h k d lt =
    let within : k < n = (let e : length (each f n) ≡ n = length_each f n in omega arith) in
    subst P (sym (at_each f n k d within)) (h k within)

below_or_last : {A : Type 0} (f : ℕ → A) (n i : ℕ) (x : A) → i < length (each f n ++ x ∷ []) → (i < n) ⊎ (i ≡ n)
below_or_last f n i x lt = let e : length (each f n ++ x ∷ []) ≡ n + 1 = length_with f n x in
    elim (cases_lt i n) [ inl less ↦ inl less | inr more ↦ inr (omega arith) ]

with_at : {A : Type 0} (P : A → Type 0) (f : ℕ → A) (n : ℕ) (x : A) → ((i : ℕ) → i < n → P (f i)) → P x
    → (k : ℕ) (d : A)
    → (k < n) ⊎ (k ≡ n) → P (get_or (each f n ++ x ∷ []) k d)
with_at P f n x h p k d (inl lt) = subst P (sym (before_last f n k x d lt)) (h k lt)
with_at P f n x h p k d (inr e) = subst P (sym (ap (λ (i : ℕ). get_or (each f n ++ x ∷ []) i d) e ∙ at_last f n x d)) p

pub all_with : {A : Type 0} (P : A → Type 0) (f : ℕ → A) (n : ℕ) (x : A) → ((i : ℕ) → i < n → P (f i)) → P x
    → All P (each f n ++ x ∷ [])
all_with P f n x h p k d lt = with_at P f n x h p k d (below_or_last f n k x lt)

valid_if : (b : Bool) (n : ℕ) → n ≤ 64 → HasValidity (cond b (Sensor (4 * period_of n)) (Derived (4 * period_of n)))
valid_if true n few = (omega arith, omega arith)
valid_if false n few = (omega arith, omega arith)

text_times : (n i : ℕ) → n ≤ 64 → i < n → HasTextTimes (txn_decl n i)
text_times n i few lt = record {
  prio = omega arith;
  period = omega arith;
  offset = omega arith;
  deadline = omega arith;
  steps = omega arith;
  quiet = omega arith;
}

good_times : (n i : ℕ) → n ≤ 64 → i < n → HasGoodTimes (txn_decl n i)
good_times n i few lt = record {
  prio = (omega arith, omega arith);
  steps = (omega arith, omega arith);
  period = (omega arith, omega arith);
  deadline = (omega arith, omega arith);
  offset = omega arith;
  quiet = omega arith;
}

eager_low : (g e p : ℕ) → e ≡ 0 → g ≤ 2 ^ 40 → g + e * p ≤ 2 ^ 40
eager_low g e p none low = subst (λ (k : ℕ). g + k * p ≤ 2 ^ 40) (sym none) (omega arith)

-- what a transaction may write and read
writes_own_if : (b : Bool) (n i : ℕ) → list_any (λ k. k.0 == i) (cond b (item_id i ∷ [])
    (item_id i ∷ item_id n ∷ [])) ≡ true
writes_own_if true n i = or_left _ _ (eq-eqb i i refl)
writes_own_if false n i = or_left _ _ (eq-eqb i i refl)

writes_two : (n i item : ℕ) → item < n → ((i == item) ≡ true) ⊎ (((n == item) || false) ≡ true) → i ≡ item
writes_two n i item lt (inl e) = eqb-true i item e
writes_two n i item lt (inr e) = elim (or_cases (n == item) false e)
    [ inl f ↦ absurd (let g : n ≡ item = eqb-true n item f in omega arith) | inr f ↦ absurd (false≢true f) ]

writes_one : (i item : ℕ) → ((i == item) ≡ true) ⊎ (false ≡ true) → i ≡ item
writes_one i item (inl e) = eqb-true i item e
writes_one i item (inr e) = absurd (false≢true e)

writes_only_if : (b : Bool) (n i item : ℕ) → item < n
    → list_any (λ k. k.0 == item) (cond b (item_id i ∷ []) (item_id i ∷ item_id n ∷ [])) ≡ true → i ≡ item
writes_only_if true n i item lt h = writes_one i item (or_cases (i == item) false h)
writes_only_if false n i item lt h = writes_two n i item lt (or_cases (i == item) ((n == item) || false) h)

before_odd : (i item : ℕ) → (i % 2 ≡ 0 → ⊥) → i - 1 ≡ item → item % 2 ≡ 0
before_odd i item odd e = omega arith

reads_only_if : (b : Bool) (i item : ℕ) → is_even i ≡ b → list_any (λ k. k.0 == item) (cond b [] (item_id
    (i - 1) ∷ [])) ≡ true
    → (item ≡ i - 1) × (is_even item ≡ true)
reads_only_if true i item e h = absurd (false≢true h)
reads_only_if false i item e h = elim (or_cases ((i - 1) == item) false h) [
  | inl f ↦ (let g : i - 1 ≡ item = eqb-true (i - 1) item f in
      let odd : i % 2 ≡ 0 → ⊥ = eqb-false (i % 2) 0 e in (sym g, eq-eqb (item % 2) 0 (before_odd i item odd g)))
  | inr f ↦ absurd (false≢true f)
]

sensor_if : (b : Bool) (v : ℕ) → b ≡ true → is_derived_kind (cond b (Sensor v) (Derived v)) ≡ false
sensor_if true v h = refl
sensor_if false v h = absurd (false≢true h)

module _ (n : ℕ) (one : 1 ≤ n) (few : n ≤ 64) where
  abbrev pub items : List ItemDecl
  items = each (dated_item n) n ++ state_item ∷ []

  abbrev pub txns : List TxnDecl
  txns = each (txn_decl n) n

  abbrev pub set : Set
  set = record { items = items; txns = txns; together = [] }

  pub many : length items ≡ n + 1
  many = length_with (dated_item n) n state_item

  are_items : (ids : List ItemId) → AllPairs (λ a b. a.0 < b.0) ids → All (λ i. i.0 < n + 1) ids → AreItemsOf set ids
  are_items ids rising below = record {
    rising = rising;
    in_range = subst (λ (m : ℕ). All (λ i. i.0 < m) ids) (sym many) below;
  }

  reads : All (λ t. AreItemsOf set t.reads) txns
  reads = all_each (λ t. AreItemsOf set t.reads) (txn_decl n) n
      (λ i lt. let h = reads_below n i lt in are_items (txn_decl n i).reads h.0 h.1)

  writes : All (λ t. AreItemsOf set t.writes) txns
  writes = all_each (λ t. AreItemsOf set t.writes) (txn_decl n) n
      (λ i lt. let h = writes_below n i lt in are_items (txn_decl n i).writes h.0 h.1)

  programs : All (IsProgramOver (length items)) (each (program n) n)
  programs = subst (λ (m : ℕ). All (IsProgramOver m) (each (program n) n)) (sym many)
      (all_each (IsProgramOver (n + 1)) (program n) n (λ i lt. is_program n i lt))

  short : (k : ℕ) (d : Program) → k < length (each (program n) n)
      → steps_of (get_or (each (program n) n) k d).ops ≤ 10000
  short k d lt = all_each (λ p. steps_of p.ops ≤ 10000) (program n) n
      (λ i l. let e : steps_of (program n i).ops ≡ 4 = steps n i in omega arith) k d lt

  pub generated_is : IsScenario (generated_of n)
  unfolding generated_of
  generated_is = record {
    item_names = item_names n few;
    txn_names = txn_names n few;
    named_items = length_with dated_name n _ ∙ sym many;
    named_txns = length_each txn_name n ∙ sym (length_each (txn_decl n) n);
    scripted = length_each (program n) n ∙ sym (length_each (txn_decl n) n);
    released = length_each releases_each n ∙ sym (length_each (txn_decl n) n);
    reads = reads;
    writes = writes;
    together = λ k d lt. absurd (omega arith);
    validities = all_with (λ d. HasValidity d.kind) (dated_item n) n state_item (λ i lt. valid_if (is_even i) n few) tt;
    times = all_each HasTextTimes (txn_decl n) n (λ i lt. text_times n i few lt);
    within = λ k d lt. absurd (omega arith);
    programs = programs;
    good_scripts = good_scripts n items;
    short_scripts = none_long (each (program n) n) short;
    few_jobs = (let e : total_jobs (each releases_each n) ≡ n * 256 = jobs_in_all n in omega arith);
    planned = planned n few;
    room = (let e : entries_in (each (txn_decl n) n) (each releases_each n) ≡ n * (256 + 256 *
        (4 + 2)) = room n in omega arith);
    small_room = omega arith;
    eager = eager_low _ _ _ (no_eager n) (low_last n few);
  }

  -- The set compiles.

  prios : AllPairs (λ a b. a.prio ≢ b.prio) txns
  prios i j d less lt =
      let within : j < n = (let e : length txns ≡ n = length_each (txn_decl n) n in omega arith) in
      let p : (get_or txns i d).prio ≡ n - i = ap (λ (t : TxnDecl). t.prio) (at_each (txn_decl n) n i d
      (omega arith)) in
      let q : (get_or txns j d).prio ≡ n - j = ap (λ (t : TxnDecl). t.prio) (at_each (txn_decl n) n j d within) in
      λ e. absurd (omega arith)

  pub txn_at : (tx : ℕ) → tx < n → txn_of set tx ≡ txn_decl n tx
  txn_at tx lt = at_each (txn_decl n) n tx no_txn lt

  pub txn_past : (tx : ℕ) → n ≤ tx → txn_of set tx ≡ no_txn
  txn_past tx le = get_or_past txns tx no_txn (let e : length txns ≡ n = length_each (txn_decl n) n in omega arith)

  pub item_got : (i : ℕ) → i < n → slice_get items i ≡ Some (dated_item n i)
  item_got i lt = slice_get-get_or items i state_item (let e : length items ≡ n + 1 = many in omega arith)
      ∙ ap Some (before_last (dated_item n) n i state_item state_item lt)

  last_got : slice_get items n ≡ Some state_item
  last_got = slice_get-get_or items n state_item (let e : length items ≡ n + 1 = many in omega arith)
      ∙ ap Some (at_last (dated_item n) n state_item state_item)

  none_got : (i : ℕ) → n < i → slice_get items i ≡ None
  none_got i lt = elim ((slice_get_cases items i).1) [
    | inl h ↦ absurd (let e : length items ≡ n + 1 = many in let l : i < length items = h.1 in omega arith)
    | inr h
        ↦ h.1
  ]

  undated : (o : Option ItemDecl) (i : ℕ) → slice_get items i ≡ o
      → is_some (option_and_then (λ d. validity_of_kind d.kind) o) ≡ false
      → is_dated items i ≡ false
  undated o i e f = ap (λ (q : Option ItemDecl). is_some (option_and_then (λ d. validity_of_kind d.kind) q)) e ∙ f

  pub dated_below : (i : ℕ) → is_dated items i ≡ true → i < n
  dated_below i h = elim (cases_order i n) [
    | inl same ↦ absurd (false≢true (sym (undated (Some state_item) i (ap (slice_get items) same ∙ last_got) refl) ∙ h))
    | inr other ↦ elim other [
      | inl less ↦ less
      | inr more ↦ absurd (false≢true (sym (undated None i
          (none_got i more) refl) ∙ h))
    ]
  ]

  may_write_own : (i : ℕ) → i < n → IsTrue (may_write (txn_of set i) i)
  may_write_own i lt = ap (λ (t : TxnDecl). may_write t i) (txn_at i lt) ∙ writes_own_if (is_even i) n i

  writer_is : (item other : ℕ) → item < n → IsTrue (may_write (txn_of set other) item) → other ≡ item
  writer_is item other lt h = elim (cases_lt other n) [
    | inl less ↦ writes_only_if (is_even other) n other item lt (sym (ap (λ (t : TxnDecl). may_write t item)
        (txn_at other less)) ∙ h)
    | inr more ↦ absurd (false≢true (sym (ap (λ (t : TxnDecl). may_write t item) (txn_past other more)) ∙ h))
  ]

  written_once : (item : ℕ) → IsTrue (is_dated items item) → (tx : ℕ) × IsTheWriter set item tx
  written_once item h =
      let lt : item < n = dated_below item h in (
        item,
        record {
          in_range = (let e : length txns ≡ n = length_each (txn_decl n) n in omega arith);
          writes = may_write_own item lt;
          alone = λ other w. writer_is item other lt w;
        },
      )

  parent_at : (tx item : ℕ) → tx < n → (item ≡ tx - 1) × (is_even item ≡ true) → is_derived items item ≡ false
  parent_at tx item less h = ap is_derived_decl (item_got item (let e : item ≡ tx - 1 = h.0 in omega arith))
      ∙ sensor_if (is_even item) (4 * period_of n) h.1

  -- a parent is a sensor item
  pub parent_is : (tx item : ℕ) → IsTrue (may_read (txn_of set tx) item) → is_derived items item ≡ false
  parent_is tx item h = elim (cases_lt tx n) [
    | inl less ↦ parent_at tx item less
        (reads_only_if (is_even tx) tx item refl (sym (ap (λ (t : TxnDecl). may_read t item) (txn_at tx less)) ∙ h))
    | inr more ↦ absurd (false≢true (sym (ap (λ (t : TxnDecl). may_read t item) (txn_past tx more)) ∙ h))
  ]

  walk_ends : (k from to : ℕ) → Walk set from to (suc k) → is_derived items to ≡ false
  walk_ends zero from to w = ap (is_derived items) (sym w.2) ∙ parent_is w.1.writer w.0 w.1.reads
  walk_ends (suc k) from to w = walk_ends k w.0 to w.2

  no_cycle : (item k : ℕ) → ¬ Walk set item item (suc k)
  no_cycle item k w = false≢true (sym (walk_ends k item item w) ∙ w.1.derived)

  pub generated_compiles : IsCompiled (set_of (generated_of n))
  unfolding generated_of
  generated_compiles = record {
    few_items = (let e : length items ≡ n + 1 = many in omega arith);
    few_txns = (let e : length txns ≡ n = length_each (txn_decl n) n in omega arith);
    few_together = omega arith;
    times = all_each HasGoodTimes (txn_decl n) n (λ i lt. good_times n i few lt);
    prios = prios;
    reads = reads;
    writes = writes;
    written = written_once;
    acyclic = no_cycle;
    together = λ k d lt. absurd (omega arith);
    together_size = λ k d lt. absurd (omega arith);
    together_dated = λ k d lt. absurd (omega arith);
  }
