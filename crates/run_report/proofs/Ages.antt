-- The responses and the age bounds of a compiled set are low.
use Rattle.std.proofs.Common.{◌≡◌, ℕ, zero, suc, ◌*◌, ◌<◌, ◌≤◌, ◌^◌, cond, List, length, map, Option, Some, None, refl, arith}
use Rattle.std.specs.List.{filter}
use Rattle.std.specs.Option.{unwrap_or}
use Rattle.rt_base.specs.declared.ids.ItemId.{ItemId}
use Rattle.item_model.specs.Kinds.{is_dated, is_derived}
use Rattle.txn_set.specs.Set.{Set, IsCompiled, txn_of, no_txn}
use Rattle.txn_set.specs.declared.decl.TxnDecl.{TxnDecl}
use Rattle.law_times.specs.Response.{response}
use Rattle.law_times.specs.Deadlines.{ResponseIsFound}
use Rattle.law_times.specs.Ages.{greatest_read, writer_of, age_by}
use Rattle.set_admission.specs.Bounds.{response_of, age_of}
use Rattle.run_report.proofs.Every.{chosen, every_or, every_all, every_mapped, every_greatest}

-- ---- times

period_most : (set : Set) (tx : ℕ) → IsCompiled set → (txn_of set tx).period ≤ 2 ^ 30
period_most set tx ok =
    every_or (λ (t : TxnDecl). t.period ≤ 2 ^ 30) set.txns tx no_txn
    (every_all (λ (t : TxnDecl). t.period ≤ 2 ^ 30) set.txns (λ k d lt. (ok.times k d lt).period.1)) (omega arith)

pub deadline_most : (set : Set) (tx : ℕ) → IsCompiled set → (txn_of set tx).deadline ≤ 2 ^ 30
deadline_most set tx ok =
    every_or (λ (t : TxnDecl). t.deadline ≤ 2 ^ 30) set.txns tx no_txn
    (every_all (λ (t : TxnDecl). t.deadline ≤ 2 ^ 30) set.txns (λ k d lt. omega (arith, (ok.times k d lt).deadline.1, (ok.times k d lt).period.1))) (omega arith)

-- ---- responses

found_most : (set : Set) (tx : ℕ) (o : Option ℕ) → ResponseIsFound → IsCompiled set → response set tx ≡ o
    → unwrap_or o 0 ≤ 2 ^ 30
found_most set tx None found ok e = omega arith
found_most set tx (Some r) found ok e =
    omega (arith, ((found set tx).some r e).holds.in_deadline, deadline_most set tx ok)

response_most : (set : Set) (tx : ℕ) → ResponseIsFound → IsCompiled set → response_of set tx ≤ 2 ^ 30
response_most set tx found ok = found_most set tx (response set tx) found ok refl

pub response_fits : (set : Set) (tx : ℕ) → ResponseIsFound → IsCompiled set → response_of set tx < 2 ^ 64
response_fits set tx found ok = omega (arith, response_most set tx found ok)

-- ---- ages

read_most : (set : Set) (bound : ℕ → ℕ) (c tx : ℕ) → ((item : ℕ) → bound item ≤ c) → greatest_read set bound tx ≤ c
read_most set bound c tx h =
    let read : List ItemId = filter (λ i. is_dated set.items i.0) (txn_of set tx).reads in
    every_greatest c (map (λ i. bound i.0) read) (every_mapped (λ (n : ℕ). n ≤ c) (λ i. bound i.0) read (λ i here. h i.0))

age_most : (set : Set) (found : ResponseIsFound) (ok : IsCompiled set) (n item : ℕ)
    → age_by set (response_of set) n item ≤ 2147483648 * n
age_most set found ok zero item = omega arith
age_most set found ok (suc n) item =
    let tx : ℕ = writer_of set item in
    let read : ℕ = greatest_read set (age_by set (response_of set) n) tx in
    let low : read ≤ 2147483648 * n = read_most set (age_by set (response_of set) n) (2147483648 * n) tx (λ i. age_most set found ok n i) in
    let part : cond (is_derived set.items item) read 0 ≤ 2147483648 * n =
    chosen (λ (k : ℕ). k ≤ 2147483648 * n) (is_derived set.items item) read 0 low (omega arith) in
    omega (arith, period_most set tx ok, response_most set tx found ok, part)

pub age_fits : (set : Set) (item : ℕ) → ResponseIsFound → IsCompiled set → age_of set item < 2 ^ 64
unfolding age_of
age_fits set item found ok =
    omega (arith, age_most set found ok (suc (length set.items)) item, ok.few_items)
