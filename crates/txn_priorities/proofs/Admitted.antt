-- A set that is admitted with whatever priorities keeps the limits; so if none do, it is admitted with none.
use Rattle.std.proofs.Common.{◌≡◌, inl, inr, ℕ, ◌<◌, true, false, List, length, get_or, Option, None, Some, is_some, refl, sym, ◌∙◌, ap, subst, arith}
use Rattle.std.proofs.lemmas.Bool.{cases_order}
use Rattle.std.specs.Prelude.{slice_get}
use Rattle.std.specs.Option.{option_and_then}
use Rattle.rt_base.specs.declared.ids.ItemId.{ItemId}
use Rattle.item_model.specs.declared.decl.ItemDecl.{ItemDecl}
use Rattle.item_model.specs.declared.decl.ItemKind.{ItemKind}
use Rattle.item_model.specs.declared.decl.ItemKind.TheVariants.{Sensor}
use Rattle.item_model.specs.Kinds.{validity_of_kind, is_derived_kind, is_derived_decl, validity_of, is_dated, is_derived}
use Rattle.txn_set.specs.declared.decl.TxnDecl.{TxnDecl}
use Rattle.txn_set.specs.Set.{Set, no_txn, txn_of, names_item, may_read, may_write, IsTheWriter, IsCompiled}
use Rattle.law_times.specs.Ages.{IsAdmitted}
use Rattle.law_times.proofs.Levels.{age_bounds}
use Rattle.law_times.specs.Assigned.{txns_with, with_prios, IsAssignment, RespondsWithin}
use Rattle.law_times.proofs.Moving.{with-length, with-at, deadline-with}
use Rattle.txn_priorities.specs.Limits.{kind_validity, sensor_validity, limit, IsInLimits}
use Rattle.txn_priorities.specs.Laws.{NoneIsAdmitted}
use Rattle.txn_priorities.proofs.Limited.{limits-are-exact}
use Rattle.txn_priorities.proofs.Unchanged.{reads-with, writes-with}

-- a sensor item is dated, and not derived

no-validity : (v : ℕ) → None ≡ Some v → ⊥
no-validity v e = cc

kind-validity : (k : ItemKind) (v : ℕ) → kind_validity k ≡ Some v → (validity_of_kind k ≡ Some v) × (is_derived_kind k ≡ false)
kind-validity (Sensor w) v e = (e, refl)
kind-validity other v e = absurd (no-validity v e)

decl-validity : (o : Option ItemDecl) (v : ℕ) → option_and_then (λ d. kind_validity d.kind) o ≡ Some v → (option_and_then (λ d. validity_of_kind d.kind) o ≡ Some v) × (is_derived_decl o ≡ false)
decl-validity None v e = absurd (no-validity v e)
decl-validity (Some d) v e = kind-validity d.kind v e

sensor-is : (items : List ItemDecl) (item v : ℕ) → sensor_validity items item ≡ Some v → (validity_of items item ≡ Some v) × (is_derived items item ≡ false)
sensor-is items item v e = decl-validity (slice_get items item) v e

dated-is : (items : List ItemDecl) (item v : ℕ) → validity_of items item ≡ Some v → is_dated items item ≡ true
dated-is items item v e = ap (λ (o : Option ℕ). is_some o) e

module _ (set : Set) (p : ℕ → ℕ) (ok : IsCompiled (with_prios p set)) (admitted : IsAdmitted (with_prios p set)) (tx : ℕ) (inside : tx < length set.txns) where
  size : length (txns_with p set.txns) ≡ length set.txns
  size = with-length p set.txns

  is-writer : (item v : ℕ) → may_write (txn_of set tx) item ≡ true → sensor_validity set.items item ≡ Some v → IsTheWriter (with_prios p set) item tx
  is-writer item v writes e =
      let found = ok.written item (dated-is set.items item v (sensor-is set.items item v e).0) in
      let mine : may_write (txn_of (with_prios p set) tx) item ≡ true = subst (λ (l : List ItemId). names_item l item ≡ true) (sym (writes-with p set.txns tx)) writes in
      let same : tx ≡ found.0 = found.1.alone tx mine in
      subst (λ (k : ℕ). IsTheWriter (with_prios p set) item k) (sym same) found.1

  period-is : (txn_of (with_prios p set) tx).period ≡ (txn_of set tx).period
  period-is = ap (λ (t : TxnDecl). t.period) (with-at p set.txns tx inside)

  in-limits : IsInLimits set tx (admitted.response tx)
  in-limits = record {
    deadline = omega (arith, (admitted.responses tx (omega (arith, inside, size))).holds.in_deadline, deadline-with set p tx inside);
    valid =
        λ item v reader writes e reads.
        let sensor = sensor-is set.items item v e in
        let bound = (age_bounds (with_prios p set) admitted.response ok).bounds.sensor item tx (dated-is set.items item v sensor.0) sensor.1 (is-writer item v writes e) in
        let seen : may_read (txn_of (with_prios p set) reader) item ≡ true = subst (λ (l : List ItemId). names_item l item ≡ true) (sym (reads-with p set.txns reader)) reads in
        let young = admitted.ages.valid reader item v seen sensor.0 in
        omega (arith, bound, young, period-is);
  }

  pub admitted-keeps : RespondsWithin (with_prios p set) tx (limit set tx)
  admitted-keeps =
      let is = admitted.responses tx (omega (arith, inside, size)) in
      record { response = admitted.response tx; is = is; within = (limits-are-exact set tx (admitted.response tx) is.holds.positive).1 in-limits }

-- the priorities of a compiled set are an assignment

assignment : (set : Set) (p : ℕ → ℕ) → IsCompiled (with_prios p set) → IsAssignment set p
assignment set p ok = record {
  some = λ tx inside. let times = ok.times tx no_txn (there tx inside) in omega (arith, times.prio.0, own tx inside);
  distinct = λ a b in-a in-b e. elim (cases_order a b) [
    | inl same ↦ same
    | inr (inl below) ↦ absurd (apart a b in-a in-b e below)
    | inr (inr above) ↦ absurd (apart b a in-b in-a (sym e) above)
  ];
}
  where
    there : (tx : ℕ) → tx < length set.txns → tx < length (txns_with p set.txns)
    there tx inside = omega (arith, inside, with-length p set.txns)

    own : (tx : ℕ) → tx < length set.txns → (get_or (txns_with p set.txns) tx no_txn).prio ≡ p tx
    own tx inside = ap (λ (t : TxnDecl). t.prio) (with-at p set.txns tx inside)

    apart : (a b : ℕ) → a < length set.txns → b < length set.txns → p a ≡ p b → a < b → ⊥
    apart a b in-a in-b e below = ok.prios a b no_txn below (there b in-b) (own a in-a ∙ e ∙ sym (own b in-b))

pub none-is-admitted : NoneIsAdmitted
none-is-admitted set p none ok admitted = none p (assignment set p ok) (λ tx inside. admitted-keeps set p ok admitted tx inside)
