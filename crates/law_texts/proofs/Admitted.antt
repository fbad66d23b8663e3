-- Each generated set is admitted.
use Rattle.std.proofs.Common.{◌≡◌, ℕ, zero, suc, ◌+◌, ◌-◌, ◌*◌, ◌<◌, ◌≤◌, List, [], ◌∷◌, length, map, Bool, true, false, cond, ◌⊎◌, inl, inr, Option, Some, None, IsTrue, refl, sym, ap, subst, ◌∙◌, arith}
use Rattle.std.specs.Prelude.{slice_get, is_some}
use Rattle.std.specs.Option.{option_and_then}
use Rattle.std.proofs.lemmas.Bool.{cases_lt}
use Rattle.item_model.specs.declared.decl.ItemDecl.{ItemDecl}
use Rattle.item_model.specs.declared.decl.ItemKind.{ItemKind}
use Rattle.item_model.specs.declared.decl.ItemKind.TheVariants.{Sensor, Derived}
use Rattle.item_model.specs.Kinds.{validity_of, validity_of_kind, is_dated, is_derived}
use Rattle.txn_set.specs.declared.decl.TxnDecl.{TxnDecl}
use Rattle.txn_set.specs.Set.{Set, txn_of, no_txn, may_read, IsCompiled}
use Rattle.law_times.specs.Response.{response, IsResponse, HoldsDemand}
use Rattle.law_times.proofs.Demand.{response_found, response_none}
use Rattle.law_times.specs.Ages.{age_by, age_bound, greatest_read, writer_of, IsAdmittedBy}
use Rattle.set_admission.specs.Admission.{refusal}
use Rattle.set_admission.specs.Bounds.{response_of, age_of, MeetsAdmission}
use Rattle.set_admission.proofs.Found.{response_of-is, response_of-le}
use Rattle.set_admission.proofs.Admitted.{decided}
use Rattle.step_script.specs.Shown.{set_of}
use Rattle.scenario_writer.specs.Generated.{is_even, period_of, dated_item, txn_decl, generated_of}
use Rattle.scenario_writer.proofs.GeneratedNames.{length_each}
use Rattle.scenario_writer.proofs.GeneratedSet as generated
use Rattle.law_texts.specs.Admission.{IsAdmittedAt, GeneratedAdmitted}
use Rattle.law_texts.proofs.Load.{plain_set, holds}

-- a window that holds its demand is found
found_in : (set : Set) (tx w : ℕ) → HoldsDemand set tx w → (o : Option ℕ) → response set tx ≡ o
    → IsResponse set tx (response_of set tx)
found_in set tx w h None e = absurd (response_none set tx e w h)
found_in set tx w h (Some r) e = response_of-is set tx r e

valid_if : (b : Bool) (v validity : ℕ) → validity_of_kind (cond b (Sensor v) (Derived v)) ≡ Some validity → validity ≡ v
valid_if true v validity e = cc
valid_if false v validity e = cc

plain_age : (b : Bool) (base more : ℕ) → b ≡ false → base + cond b more 0 ≡ base
plain_age true base more e = cc
plain_age false base more e = omega arith

module _ (n : ℕ) (one : 1 ≤ n) (few : n ≤ 64) where
  abbrev set : Set
  set = plain_set n

  has_response : (tx : ℕ) → tx < n → IsResponse set tx (response_of set tx)
  has_response tx lt = found_in set tx (4 * n + 3) (holds n tx one few lt) (response set tx) refl

  low_response : (tx : ℕ) → tx < n → response_of set tx ≤ 4 * n + 3
  low_response tx lt = (has_response tx lt).least (4 * n + 3) (holds n tx one few lt)

  no_response : (r : ℕ) → r ≤ 0 → r ≤ 4 * n + 3
  no_response r low = omega arith

  low_times : (tx : ℕ) → ((txn_of set tx).period ≤ period_of n) × (response_of set tx ≤ 4 * n + 3)
  low_times tx = elim (cases_lt tx n) [
    | inl less ↦ (
      subst (λ (t : TxnDecl). t.period ≤ period_of n) (sym (generated.txn_at n one few tx less)) (omega arith),
      low_response tx less,
    )
    | inr more ↦
        (let none : txn_of set tx ≡ no_txn = generated.txn_past n one few tx more in
        let low : response_of set tx ≤ (txn_of set tx).deadline = response_of-le set tx in (
          subst (λ (t : TxnDecl). t.period ≤ period_of n) (sym none) (omega arith),
          no_response (response_of set tx) (subst (λ (t : TxnDecl). response_of set tx ≤ t.deadline) none low),
        ))
  ]

  low_age : (item : ℕ) → is_derived (plain_set n).items item ≡ false
      → age_bound set (response_of set) item ≤ period_of n + (4 * n + 3)
  low_age item plain =
      let times = low_times (writer_of set item) in
      let a : (txn_of set (writer_of set item)).period ≤ period_of n = times.0 in
      let b : response_of set (writer_of set item) ≤ 4 * n + 3 = times.1 in
      let e : age_bound set (response_of set) item
      ≡ (txn_of set (writer_of set item)).period + response_of set (writer_of set item) =
      plain_age (is_derived (plain_set n).items item)
      ((txn_of set (writer_of set item)).period + response_of set (writer_of set item))
      (greatest_read set (age_by set (response_of set) (length (plain_set n).items)) (writer_of set item)) plain in
      omega arith

  is_validity : (item validity : ℕ) → item < n → validity_of (plain_set n).items item ≡ Some validity
      → validity ≡ 4 * period_of n
  is_validity item validity lt e = valid_if (is_even item) (4 * period_of n) validity
      (sym (ap (λ (o : Option ItemDecl). option_and_then (λ d. validity_of_kind d.kind) o)
      (generated.item_got n one few item lt)) ∙ e)

  dated : (item validity : ℕ) → validity_of (plain_set n).items item ≡ Some validity
      → is_dated (plain_set n).items item ≡ true
  dated item validity e = ap (λ (o : Option ℕ). is_some o) e

  admitted_by : IsAdmittedBy set (age_bound set (response_of set))
  admitted_by = record {
    valid = λ tx item validity reads e.
        let low : age_bound set (response_of set) item ≤ period_of n + (4 * n + 3) = low_age item
        (generated.parent_is n one few tx item reads) in
        let same : validity ≡ 4 * period_of n =
        is_validity item validity (generated.dated_below n one few item (dated item validity e)) e in
        omega arith;
    within = λ tx k d lt. absurd (omega arith);
  }

  meets : MeetsAdmission set
  meets = record {
    responses = λ tx lt. has_response tx (let e : length (plain_set n).txns ≡ n = length_each
        (txn_decl n) n in omega arith);
    ages = admitted_by;
  }

  compiled : IsCompiled set
  unfolding generated_of
  compiled = generated.generated_compiles n one few

  admitted_at : IsAdmittedAt n
  unfolding generated_of age_of
  admitted_at = record {
    admitted = (decided set compiled).by_found.1 meets;
    responses = low_response;
    ages = low_age;
  }

pub admitted : GeneratedAdmitted
admitted n one few = admitted_at n one few
