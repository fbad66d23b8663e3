-- The lines of what is kept are those of a history.
use Rattle.std.proofs.Common.{◌≡◌, ℕ, ◌<◌, Bool, true, false, List, length, get_or, Option, Some, None, refl, sym, ap, ◌∙◌, arith}
use Rattle.std.specs.Prelude.{IsTrue, is_some, if◌then◌else◌}
use Rattle.std.specs.List.{All}
use Rattle.std.specs.Option.{unwrap_or}
use Rattle.rt_base.specs.declared.name.Names.{Names}
use Rattle.item_model.specs.declared.decl.ItemDecl.{ItemDecl}
use Rattle.item_model.specs.Kinds.{validity_of, is_dated}
use Rattle.txn_set.specs.Set.{Set, txn_of, no_txn}
use Rattle.txn_set.specs.Ceilings.{blocking}
use Rattle.law_times.specs.Response.{response}
use Rattle.set_admission.specs.Bounds.{response_of, age_of}
use Rattle.job_rows.specs.declared.row.JobRow.{JobRow}
use Rattle.report_text.specs.Texts.{NamesSet, KnownRow}
use Rattle.report_export.specs.declared.tally.Tally.{Tally}
use Rattle.report_export.specs.Worsts.{jobs_of}
use Rattle.report_export.specs.Texts.{bound_in, txn_lines}
use Rattle.report_export.specs.Tallies.{IsTally, tally_lines}

pub tally_told : (names : Names) (set : Set) (admitted : Bool) (rows : List JobRow) (tx : ℕ) (t : Tally)
    → IsTally t (jobs_of tx rows)
    → tally_lines names set admitted tx t ≡ txn_lines names set admitted rows tx (get_or set.txns tx no_txn)
tally_told names set admitted rows tx t h =
    rw (h.ended, h.ends 0, h.ends 1, h.ends 2, h.ends 3, h.ends 4, h.ends 5, h.pending, h.response, h.delay) refl

-- ---- bounds

pub response_told : (set own : Set) (tx r : ℕ) → own ≡ set → response own tx ≡ Some r
    → Some r ≡ bound_in true (response_of set tx)
response_told set own tx r same e =
    ap (λ (o : Option ℕ). Some (unwrap_or o 0)) (sym e ∙ ap (λ (s : Set). response s tx) same)

pub blocking_told : (set own : Set) (tx b : ℕ) → own ≡ set → b ≡ blocking own (txn_of own tx).prio
    → Some b ≡ bound_in true (blocking set (txn_of set tx).prio)
blocking_told set own tx b same e =
    ap (λ (n : ℕ). Some n) (e ∙ ap (λ (s : Set). blocking s (txn_of s tx).prio) same)

dated_age : (dated : Bool) (age : ℕ) → IsTrue dated → bound_in dated age ≡ Some age
dated_age true age t = refl
dated_age false age t = absurd cc

pub age_told : (set own : Set) (item : ℕ) (o : Option ℕ) → own ≡ set
    → o ≡ (if is_dated own.items item then Some (age_of own item) else None) → IsTrue (is_dated set.items item)
    → o ≡ bound_in true (age_of set item)
age_told set own item o same e dated =
    e ∙ (ap (λ (s : Set). bound_in (is_dated s.items item) (age_of s item)) same ∙ dated_age (is_dated set.items item) (age_of set item) dated)

-- an item with a validity is a sensor or derived item
pub has_validity : (items : List ItemDecl) (item validity : ℕ) (o : Option ℕ) → validity_of items item ≡ o → o ≡ Some validity
    → IsTrue (is_dated items item)
has_validity items item validity o a b = ap (λ (q : Option ℕ). is_some q) (a ∙ b)

-- ---- rows

-- the rows are of so many transactions
pub rows_in : (names : Names) (set : Set) (rows : List JobRow) (n : ℕ) → NamesSet names set → n ≡ length set.txns
    → All (KnownRow names) rows → All (λ row. row.job.tx.0 < n) rows
rows_in names set rows n one e all = λ k d lt. omega (arith, (all k d lt).job, one.txns, e)
