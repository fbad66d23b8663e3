-- Updaters: what one reads and writes, and the first transaction that is none.
use Rattle.std.proofs.Common.{◌≡◌, ℕ, ◌<◌, ◌≤◌, true, false, List, [], ◌∷◌, length, get_or, Option, Some, None, is_some, is_none, slice_get, refl, ◌∙◌, ap, arith}
use Rattle.std.specs.Option.{option_map, option_and_then}
use Rattle.std.proofs.lemmas.List.{get_or_default, get_or-map, length-map}
use Rattle.rt_base.specs.declared.ids.ItemId.{ItemId}
use Rattle.item_model.specs.declared.decl.ItemDecl.{ItemDecl}
use Rattle.item_model.specs.declared.decl.ItemKind.{ItemKind}
use Rattle.item_model.specs.declared.decl.ItemKind.TheVariants.{Sensor, Derived, State}
use Rattle.item_model.specs.Kinds.{validity_of_kind, is_dated}
use Rattle.txn_set.specs.declared.decl.TxnDecl.{TxnDecl}
use Rattle.txn_set.specs.Set.{Set, no_txn, txn_of, IsCompiled}
use Rattle.response_test.specs.Response.{least_from}
use Rattle.response_test.proofs.Least.{least_from-found, least_from-none, least_from-fails}
use Rattle.set_admission.proofs.Admitted.{map-none}
use Rattle.update_rates.specs.declared.updaters.Updater.{Updater}
use Rattle.update_rates.specs.declared.error.RateError.TheVariants.{NotAnUpdater}
use Rattle.update_rates.specs.Updaters.{sensor_validity, lone_sensor, written_validity, updater_validity, updater_of, updaters}
use Rattle.update_rates.specs.Refusal.{is_other, not_an_updater}
use Rattle.update_rates.specs.Ranking.{HasFewSteps}

-- an updater reads nothing, and what it may write is one sensor item
pub record IsUpdater (items : List ItemDecl) (reads writes : List ItemId) : Type 0 where
  pub item : ItemId
  pub reads_none : reads ≡ []
  pub writes_one : writes ≡ item ∷ []
  pub dated : is_dated items item.0 ≡ true

sensor-dated : (k : ItemKind) (v : ℕ) → sensor_validity k ≡ Some v → is_some (validity_of_kind k) ≡ true
sensor-dated (Sensor validity) v e = refl
sensor-dated (Derived validity) v e = absurd cc
sensor-dated State v e = absurd cc

got-dated : (o : Option ItemDecl) (v : ℕ) → option_and_then (λ d. sensor_validity d.kind) o ≡ Some v → is_some (option_and_then (λ d. validity_of_kind d.kind) o) ≡ true
got-dated None v e = absurd cc
got-dated (Some d) v e = sensor-dated d.kind v e

lone-is : (items : List ItemDecl) (writes : List ItemId) (v : ℕ) → lone_sensor items writes ≡ Some v → IsUpdater items [] writes
lone-is items [] v e = absurd cc
lone-is items (i ∷ []) v e = record { item = i; reads_none = refl; writes_one = refl; dated = got-dated (slice_get items i.0) v e }
lone-is items (i ∷ j ∷ more) v e = absurd cc

updater-is : (items : List ItemDecl) (reads writes : List ItemId) (v : ℕ) → written_validity items reads writes ≡ Some v → IsUpdater items reads writes
updater-is items [] writes v e = lone-is items writes v e
updater-is items (i ∷ reads) writes v e = absurd cc

there-is : {A : Type 0} (o : Option A) → is_none o ≡ false → (x : A) × (o ≡ Some x)
there-is None e = absurd cc
there-is (Some x) e = (x, refl)

-- where none is the first that is no updater, each is one
pub updater-each : (set : Set) → not_an_updater set ≡ None → (tx : ℕ) → tx < length set.txns → IsUpdater set.items (txn_of set tx).reads (txn_of set tx).writes
updater-each set none tx inside =
    let search = map-none (λ i. NotAnUpdater (record { 0 = i })) (least_from (is_other set) 0 (length set.txns)) none in
    let one = there-is (updater_validity set.items (txn_of set tx)) (least_from-fails (is_other set) 0 (length set.txns) search tx (omega arith) (omega arith)) in
    updater-is set.items (txn_of set tx).reads (txn_of set tx).writes one.0 one.1

-- the code's search

pub other-is : (set : Set) (tx : ℕ) (txn : TxnDecl) (seen : List TxnDecl) (items : List ItemDecl) (found : Option ℕ) → seen ≡ set.txns → items ≡ set.items → tx < length seen → txn ≡ get_or seen tx txn → found ≡ updater_validity items txn → is_none found ≡ is_other set tx
other-is set tx txn seen items found same is inside at e =
    let txn-is : txn ≡ txn_of set tx = at ∙ get_or_default seen tx txn no_txn inside ∙ ap (λ (ts : List TxnDecl). get_or ts tx no_txn) same in
    ap is_none (e ∙ ap (λ (l : List ItemDecl). updater_validity l txn) is ∙ ap (λ (t : TxnDecl). updater_validity set.items t) txn-is)

pub other-found : (set : Set) (tx : ℕ) → tx < length set.txns → is_other set tx ≡ true → ((k : ℕ) → k < tx → is_other set k ≡ false) → not_an_updater set ≡ Some (NotAnUpdater (record { 0 = tx }))
other-found set tx inside here before =
    ap (option_map (λ i. NotAnUpdater (record { 0 = i })))
    (least_from-found (is_other set) 0 (length set.txns) tx (omega arith) (omega arith) (λ k low less. before k less) here)

pub others-none : (set : Set) (tx : ℕ) → length set.txns ≤ tx → ((k : ℕ) → k < tx → is_other set k ≡ false) → not_an_updater set ≡ None
others-none set tx past each =
    ap (option_map (λ i. NotAnUpdater (record { 0 = i })))
    (least_from-none (is_other set) 0 (length set.txns) (λ k low high. each k (omega arith)))

-- the steps of an updater

pub steps-at : (set : Set) (tx : ℕ) (d : Updater) → tx < length set.txns → (get_or (updaters set) tx d).steps ≡ (txn_of set tx).steps
steps-at set tx d inside = ap (λ (u : Updater). u.steps) (get_or-map (updater_of set.items) set.txns tx no_txn d inside)

pub steps-few : (set : Set) → IsCompiled set → (k : ℕ) (d : Updater) → k < length (updaters set) → HasFewSteps (get_or (updaters set) k d)
steps-few set c k d inside =
    let low : k < length set.txns = omega (arith, length-map set.txns (updater_of set.items), inside) in
    let is = steps-at set k d low in
    let times = (c.times k no_txn low).steps in
    record { some = omega (arith, is, times.0); few = omega (arith, is, times.1) }
