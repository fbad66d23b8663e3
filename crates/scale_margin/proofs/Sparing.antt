-- A set in which an item has another validity has the same responses and age bounds.
use Rattle.std.proofs.Common.{◌≡◌, ℕ, zero, suc, ◌+◌, ◌<◌, ◌≤◌, Bool, true, false, cond, ◌||◌, List, [], ◌∷◌, map, length, get_or, set, Option, Some, is_some, refl, sym, ◌∙◌, ap, ap₂, subst, ⊎_elim, arith}
use Rattle.std.proofs.Math.Path.{fun_ext}
use Rattle.std.proofs.lemmas.Bool.{cases_lt, cases_Bool}
use Rattle.std.proofs.lemmas.List.{length-set}
use Rattle.std.specs.Prelude.{IsTrue}
use Rattle.std.specs.List.{filter}
use Rattle.std.specs.Option.{unwrap_or}
use Rattle.rt_base.specs.declared.ids.ItemId.{ItemId}
use Rattle.item_model.specs.declared.decl.ItemDecl.{ItemDecl}
use Rattle.item_model.specs.declared.decl.ItemKind.{ItemKind}
use Rattle.item_model.specs.declared.decl.ItemKind.TheVariants.{Sensor, State}
use Rattle.item_model.specs.Kinds.{validity_of_kind, is_derived_kind, validity_of, is_dated, is_derived}
use Rattle.txn_set.specs.declared.decl.TxnDecl.{TxnDecl}
use Rattle.txn_set.specs.Set.{Set, no_txn, txn_of, may_read, AreItemsOf, IsTheWriter, DependsOn, Walk, IsCompiled}
use Rattle.txn_set.specs.Ceilings.{greatest, write_ceiling, absolute_ceiling, blocking}
use Rattle.law_times.specs.Response.{demand, first_window, response, HoldsDemand, IsResponse}
use Rattle.law_times.specs.Ages.{greatest_read, writer_of, age_by, age_bound, IsAdmittedBy, IsAdmitted}
use Rattle.set_admission.specs.Bounds.{response_of, age_of, MeetsAdmission}
use Rattle.set_admission.proofs.Admitted.{decided}
use Rattle.scale_margin.specs.Spares.{kind_with, no_item, item_with, with_validity, is_read}
use Rattle.scale_margin.specs.SlackLaws.{IsSpare, SpareIsLeast}

-- the items with another validity

derived_kind : (k : ItemKind) (n : ℕ) → is_derived_kind (kind_with k n) ≡ is_derived_kind k
derived_kind (Sensor v) n = refl
derived_kind other n = refl

dated_kind : (k : ItemKind) (n : ℕ) → is_some (validity_of_kind (kind_with k n)) ≡ is_some (validity_of_kind k)
dated_kind (Sensor v) n = refl
dated_kind other n = refl

given_kind : (k : ItemKind) (n own : ℕ) → validity_of_kind k ≡ Some own → validity_of_kind (kind_with k n) ≡ Some n
given_kind State n own e = absurd cc
given_kind other n own e = refl

abbrev changed : List ItemDecl → ℕ → ℕ → List ItemDecl
changed ds item n = set ds item (item_with (get_or ds item no_item) n)

derived_same : (ds : List ItemDecl) (item n i : ℕ) → is_derived (changed ds item n) i ≡ is_derived ds i
derived_same [] item n i = refl
derived_same (d ∷ ds) zero n zero = derived_kind d.kind n
derived_same (d ∷ ds) zero n (suc i) = refl
derived_same (d ∷ ds) (suc item) n zero = refl
derived_same (d ∷ ds) (suc item) n (suc i) = derived_same ds item n i

dated_same : (ds : List ItemDecl) (item n i : ℕ) → is_dated (changed ds item n) i ≡ is_dated ds i
dated_same [] item n i = refl
dated_same (d ∷ ds) zero n zero = dated_kind d.kind n
dated_same (d ∷ ds) zero n (suc i) = refl
dated_same (d ∷ ds) (suc item) n zero = refl
dated_same (d ∷ ds) (suc item) n (suc i) = dated_same ds item n i

validity_here : (ds : List ItemDecl) (item n own : ℕ) → validity_of ds item ≡ Some own → validity_of (changed ds item n) item ≡ Some n
validity_here [] item n own e = absurd cc
validity_here (d ∷ ds) zero n own e = given_kind d.kind n own e
validity_here (d ∷ ds) (suc item) n own e = validity_here ds item n own e

validity_there : (ds : List ItemDecl) (item n i : ℕ) → (i ≡ item → ⊥) → validity_of (changed ds item n) i ≡ validity_of ds i
validity_there [] item n i other = refl
validity_there (d ∷ ds) zero n zero other = absurd (other refl)
validity_there (d ∷ ds) zero n (suc i) other = refl
validity_there (d ∷ ds) (suc item) n zero other = refl
validity_there (d ∷ ds) (suc item) n (suc i) other = validity_there ds item n i (λ e. other (ap suc e))

-- a set of the same transactions, over items of the same kinds

module _ (s : Set) (items : List ItemDecl) (long : length items ≡ length s.items) (dated : (i : ℕ) → is_dated items i ≡ is_dated s.items i) (derived : (i : ℕ) → is_derived items i ≡ is_derived s.items i) where
  abbrev other : Set
  other = record s { items = items }

  items_same : (xs : List ItemId) → AreItemsOf s xs → AreItemsOf other xs
  items_same xs h = record { rising = h.rising; in_range = λ i d below. omega (arith, h.in_range i d below, long) }

  to_dated : (i : ℕ) → IsTrue (is_dated s.items i) → IsTrue (is_dated items i)
  to_dated i h = dated i ∙ h

  from_dated : (i : ℕ) → IsTrue (is_dated items i) → IsTrue (is_dated s.items i)
  from_dated i h = sym (dated i) ∙ h

  writer_same : (item tx : ℕ) → IsTheWriter s item tx → IsTheWriter other item tx
  writer_same item tx w = record { in_range = w.in_range; writes = w.writes; alone = w.alone }

  depends_same : (item parent : ℕ) → DependsOn other item parent → DependsOn s item parent
  depends_same item parent d = record {
    derived = sym (derived item) ∙ d.derived;
    dated = from_dated parent d.dated;
    writer = d.writer;
    writes = d.writes;
    reads = d.reads;
  }

  walk_same : (n from to : ℕ) → Walk other from to n → Walk s from to n
  walk_same zero from to e = e
  walk_same (suc n) from to w = (w.0, depends_same from w.0 w.1, walk_same n w.0 to w.2)

  pub compiled_other : IsCompiled s → IsCompiled other
  compiled_other ok = record {
    few_items = omega (arith, ok.few_items, long);
    few_txns = ok.few_txns;
    few_together = ok.few_together;
    times = ok.times;
    prios = ok.prios;
    reads = λ i d below. items_same (get_or s.txns i d).reads (ok.reads i d below);
    writes = λ i d below. items_same (get_or s.txns i d).writes (ok.writes i d below);
    written = λ item is. let w = ok.written item (from_dated item is) in (w.0, writer_same item w.0 w.1);
    acyclic = λ item n walk. ok.acyclic item n (walk_same (suc n) item item walk);
    together = λ i d below. items_same (get_or s.together i d).items (ok.together i d below);
    together_size = ok.together_size;
    together_dated = λ i d below j e inside. to_dated _ (ok.together_dated i d below j e inside);
  }

  -- responses

  demand_same : (tx w : ℕ) → demand other tx w ≡ demand s tx w
  unfolding demand blocking write_ceiling absolute_ceiling
  demand_same tx w = refl

  window_same : (tx w n : ℕ) → first_window other tx w n ≡ first_window s tx w n
  window_same tx w zero = refl
  window_same tx w (suc n) = rw (demand_same tx w, window_same tx (w + 1) n) refl

  response_same : (tx : ℕ) → response other tx ≡ response s tx
  unfolding response
  response_same tx = window_same tx 1 (txn_of s tx).deadline

  pub responses_same : response_of other ≡ response_of s
  responses_same = fun_ext (λ tx. ap (λ (o : Option ℕ). unwrap_or o 0) (response_same tx))

  holds_to : (tx r : ℕ) → HoldsDemand s tx r → HoldsDemand other tx r
  holds_to tx r h = record { positive = h.positive; in_deadline = h.in_deadline; enough = omega (arith, h.enough, demand_same tx r) }

  holds_from : (tx r : ℕ) → HoldsDemand other tx r → HoldsDemand s tx r
  holds_from tx r h = record { positive = h.positive; in_deadline = h.in_deadline; enough = omega (arith, h.enough, demand_same tx r) }

  is_response : (tx r : ℕ) → IsResponse s tx r → IsResponse other tx r
  is_response tx r h = record { holds = holds_to tx r h.holds; least = λ w holds. h.least w (holds_from tx w holds) }

  -- age bounds

  read_same : (bound : ℕ → ℕ) (tx : ℕ) → greatest_read other bound tx ≡ greatest_read s bound tx
  read_same bound tx = ap (λ (d : ℕ → Bool). greatest (map (λ i. bound i.0) (filter (λ i. d i.0) (txn_of s tx).reads))) (fun_ext dated)

  age_same : (r : ℕ → ℕ) (n item : ℕ) → age_by other r n item ≡ age_by s r n item
  age_same r zero item = refl
  age_same r (suc n) item =
      let below : age_by other r n ≡ age_by s r n = fun_ext (age_same r n) in
      let reads = read_same (age_by other r n) (writer_of s item) ∙ ap (λ (f : ℕ → ℕ). greatest_read s f (writer_of s item)) below in
      ap₂ (λ (b : Bool) (g : ℕ). (txn_of s (writer_of s item)).period + r (writer_of s item) + cond b g 0) (derived item) reads

  pub bounds_same : age_bound other (response_of other) ≡ age_bound s (response_of s)
  bounds_same =
      ap (λ (r : ℕ → ℕ). age_bound other r) responses_same
      ∙ fun_ext (λ item. ap (λ (n : ℕ). age_by other (response_of s) (suc n) item) long ∙ age_same (response_of s) (suc (length s.items)) item)

  pub responses_other : MeetsAdmission s → (tx : ℕ) → tx < length s.txns → IsResponse other tx (response_of other tx)
  responses_other meets tx inside =
      subst (λ (r : ℕ → ℕ). IsResponse other tx (r tx)) (sym responses_same) (is_response tx (response_of s tx) (meets.responses tx inside))

-- who reads an item

reader_of : (item : ℕ) (ts : List TxnDecl) → is_read ts item ≡ true → (tx : ℕ) × IsTrue (may_read (get_or ts tx no_txn) item)
reader_of item [] h = absurd cc
reader_of item (t ∷ ts) h =
    ⊎_elim (λ (yes : may_read t item ≡ true). (0, yes))
    (λ (no : may_read t item ≡ false). let rest = reader_of item ts (sym (ap (λ (b : Bool). b || is_read ts item) no) ∙ h) in (suc rest.0, rest.1))
    (cases_Bool (may_read t item))

read_by : (item : ℕ) (ts : List TxnDecl) (tx : ℕ) → may_read (get_or ts tx no_txn) item ≡ true → is_read ts item ≡ true
read_by item [] tx h = h
read_by item (t ∷ ts) zero h = ap (λ (b : Bool). b || is_read ts item) h
read_by item (t ∷ ts) (suc tx) h = or_true (may_read t item) (is_read ts item) (read_by item ts tx h)
  where
    or_true : (a b : Bool) → b ≡ true → (a || b) ≡ true
    or_true true b e = refl
    or_true false b e = e

-- admission with another validity

module _ (s : Set) (item n own : ℕ) (ok : IsCompiled s) (has : validity_of s.items item ≡ Some own) where
  abbrev items' : List ItemDecl
  items' = changed s.items item n

  long : length items' ≡ length s.items
  long = length-set s.items item (item_with (get_or s.items item no_item) n)

  compiled : IsCompiled (with_validity s item n)
  compiled = compiled_other s items' long (dated_same s.items item n) (derived_same s.items item n) ok

  bounds : age_bound (with_validity s item n) (response_of (with_validity s item n)) ≡ age_bound s (response_of s)
  bounds = bounds_same s items' long (dated_same s.items item n) (derived_same s.items item n)

  needs : IsAdmitted (with_validity s item n) → IsTrue (is_read s.txns item) → age_of s item ≤ n
  unfolding age_of
  needs h read =
      let d = decided (with_validity s item n) compiled in
      let meets = d.by_found.0 (d.by_rule.1 h) in
      let reader = reader_of item s.txns read in
      let within = meets.ages.valid reader.0 item n reader.1 (validity_here s.items item n own has) in
      subst (λ (f : ℕ → ℕ). f item ≤ n) bounds within

  is_same : (v : ℕ) → Some n ≡ Some v → n ≡ v
  is_same v e = cc

  valid : MeetsAdmission s → (IsTrue (is_read s.txns item) → age_bound s (response_of s) item ≤ n) → (tx i v : ℕ) → IsTrue (may_read (txn_of s tx) i) → validity_of items' i ≡ Some v → age_bound s (response_of s) i ≤ v
  valid meets enough tx i v reads is =
      ⊎_elim
      (λ (less : i < item). there (λ e. omega (arith, less, e)))
      (λ (more : item ≤ i).
      ⊎_elim
      (λ (above : item < i). there (λ e. omega (arith, above, e)))
      (λ (most : i ≤ item). here (omega (arith, more, most)))
      (cases_lt item i))
      (cases_lt i item)
    where
      there : (i ≡ item → ⊥) → age_bound s (response_of s) i ≤ v
      there ne = meets.ages.valid tx i v reads (sym (validity_there s.items item n i ne) ∙ is)

      here : i ≡ item → age_bound s (response_of s) i ≤ v
      here e =
          let same : n ≡ v = is_same v (sym (validity_here s.items item n own has) ∙ (ap (validity_of items') (sym e) ∙ is)) in
          let age = enough (read_by item s.txns tx (subst (λ (k : ℕ). may_read (txn_of s tx) k ≡ true) e reads)) in
          subst (λ (k : ℕ). age_bound s (response_of s) k ≤ v) (sym e) (subst (λ (m : ℕ). age_bound s (response_of s) item ≤ m) same age)

  suffices : IsAdmitted s → (IsTrue (is_read s.txns item) → age_of s item ≤ n) → IsAdmitted (with_validity s item n)
  unfolding age_of
  suffices h enough =
      let d = decided s ok in
      let meets = d.by_found.0 (d.by_rule.1 h) in
      let by : IsAdmittedBy (with_validity s item n) (age_bound s (response_of s)) = record { valid = valid meets enough; within = meets.ages.within } in
      let found : MeetsAdmission (with_validity s item n) = record {
        responses = responses_other s items' long (dated_same s.items item n) (derived_same s.items item n) meets;
        ages = subst (λ (f : ℕ → ℕ). IsAdmittedBy (with_validity s item n) f) (sym bounds) by;
      } in
      let e = decided (with_validity s item n) compiled in
      e.by_rule.0 (e.by_found.1 found)

  pub spare : IsAdmitted s → IsSpare s item n
  spare h = record { compiled = compiled; admitted = (needs, suffices h) }

pub spare_is_least : SpareIsLeast
spare_is_least s item n own ok admitted has = spare s item n own ok has admitted
