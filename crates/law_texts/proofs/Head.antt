-- How long the other parts of a report are: each of them is short beside the entries.
use Rattle.std.proofs.Common.{ℕ, suc, ◌+◌, ◌*◌, ◌<◌, ◌≤◌, ◌^◌, Bool, true, false, cond, List, [], ◌∷◌, ◌++◌, length, get_or, decimal, arith, codes, length-append}
use Rattle.std.specs.List.{All, AllPairs}
use Rattle.rt_base.specs.Names.{AreNames}
use Rattle.rt_base.specs.declared.ids.ItemId.{ItemId}
use Rattle.rt_base.specs.declared.ids.TogetherDecl.{TogetherDecl}
use Rattle.rt_base.specs.declared.name.Names.{Names}
use Rattle.item_model.specs.Kinds.{is_dated}
use Rattle.item_model.specs.declared.decl.ItemKind.{ItemKind}
use Rattle.item_model.specs.declared.decl.ItemKind.TheVariants.{Sensor, Derived, State}
use Rattle.item_model.specs.declared.decl.ItemDecl.{ItemDecl}
use Rattle.item_model.specs.declared.stored.Stored.{Stored}
use Rattle.txn_set.specs.declared.decl.TxnDecl.{TxnDecl}
use Rattle.txn_set.specs.Set.{Set, IsCompiled, AreItemsOf, HasGoodTimes}
use Rattle.txn_set.specs.Ceilings.{write_ceiling, absolute_ceiling, blocking}
use Rattle.law_times.specs.Deadlines.{ResponseIsFound}
use Rattle.set_admission.specs.Bounds.{response_of, age_of}
use Rattle.line_fields.specs.Cuts.{field}
use Rattle.journal_text.specs.Ids.{name_at}
use Rattle.journal_text.proofs.IdLaws.{signed_length, unsigned_length}
use Rattle.report_text.specs.Rows.{numbered}
use Rattle.report_text.specs.Texts.{item_name, more_name, list_text, kind_text, item_line, quiet_text, txn_line, together_line, is_second, first_line, mode_line, declarations, ceilings_line, ceilings_of, final_line, finals_text}
use Rattle.report_text.specs.Laws.{IsKind, IsItemDecl}
use Rattle.run_report.specs.Bounds.{bounds_line, ages_line}
use Rattle.run_report.specs.Report.{limits_text, opening_text}
use Rattle.run_report.proofs.Every.{Every, every_all}
use Rattle.run_report.proofs.Forms.{FitsStored}
use Rattle.run_report.proofs.Steps.{write_most, absolute_most}
use Rattle.run_report.proofs.Ages.{response_fits, age_fits}
use Rattle.law_texts.proofs.Lengths.{name_length, steps_length, numbered_length}
use Rattle.law_texts.proofs.JobLines.{blocking_most, every_weaker}

-- ---- lists of items

-- rising numbers below a bound, from some number on, are no more than there are
rising_few : (most from : ℕ) (ids : List ItemId) → from ≤ most → AllPairs (λ a b. a.0 < b.0) ids
    → ((k : ℕ) (d : ItemId) → k < length ids → (from ≤ (get_or ids k d).0) × ((get_or ids k d).0 < most))
    → from + length ids ≤ most
rising_few most from [] le rises inside = omega arith
rising_few most from (i ∷ is) le rises inside =
    let first = inside 0 i (omega arith) in
    omega (
      arith,
      first.0,
      rising_few most (i.0 + 1) is (omega (arith, first.1)) (λ j k d less lt. rises (suc j) (suc k) d (omega arith) (omega arith))
          (λ k d lt. (omega (arith, rises 0 (suc k) d (omega arith) (omega arith)), (inside (suc k) d (omega arith)).1)),
    )

few_items : (set : Set) (ids : List ItemId) → IsCompiled set → AreItemsOf set ids → length ids ≤ 256
few_items set ids ok are =
    let few : 0 + length ids ≤ length set.items =
    rising_few (length set.items) 0 ids (omega arith) are.rising (λ k d lt. (omega arith, are.in_range k d lt)) in
    omega (arith, few, ok.few_items)

more_length : (names : Names) (i : ℕ) (ids : List ItemId) → AreNames names.items
    → length (numbered (more_name names) i ids) ≤ 33 * length ids
more_length names i [] good = omega arith
more_length names i (id ∷ ids) good =
    omega (
      arith,
      length-append (more_name names i id) (numbered (more_name names) (i + 1) ids),
      length-append (codes ",") (item_name names id),
      name_length names.items id.0 good,
      more_length names (i + 1) ids good,
    )

list_length : (set : Set) (names : Names) (ids : List ItemId) → IsCompiled set → AreNames names.items → AreItemsOf set ids
    → length (list_text names ids) ≤ 8448
list_length set names [] ok good are = omega arith
list_length set names (id ∷ ids) ok good are =
    omega (
      arith,
      length-append (item_name names id) (numbered (more_name names) 1 ids),
      name_length names.items id.0 good,
      more_length names 1 ids good,
      few_items set (id ∷ ids) ok are,
    )

-- ---- declarations

kind_length : (kind : ItemKind) → IsKind kind → length (kind_text kind) ≤ 29
kind_length (Sensor validity) fits = simp length-append (omega (arith, unsigned_length validity fits))
kind_length (Derived validity) fits = simp length-append (omega (arith, unsigned_length validity fits))
kind_length State fits = omega arith

item_length : (names : Names) (decl : ItemDecl) (place : ℕ) → AreNames names.items → IsItemDecl decl
    → length (item_line names place decl) ≤ 88
item_length names decl place good fits =
    simp length-append (omega (
      arith,
      name_length names.items place good,
      kind_length decl.kind fits.kind,
      signed_length decl.initial fits.initial,
    ))

quiet_length : (second : Bool) (quiet : ℕ) → quiet < 2 ^ 64 → length (quiet_text second quiet) ≤ 27
quiet_length true quiet lt = simp length-append (omega (arith, unsigned_length quiet lt))
quiet_length false quiet lt = omega arith

-- what a transaction's line is written of
record IsTxn (set : Set) (t : TxnDecl) : Type 0 where
  pub times : HasGoodTimes t
  pub reads : AreItemsOf set t.reads
  pub writes : AreItemsOf set t.writes

txn_length : (set : Set) (names : Names) (second : Bool) (t : TxnDecl) (place : ℕ) → IsCompiled set → AreNames names.items
    → AreNames names.txns → IsTxn set t → length (txn_line second names place t) ≤ 20000
txn_length set names second t place ok items txns is =
    simp length-append (omega (
      arith,
      name_length names.txns place txns,
      unsigned_length t.prio (omega (arith, is.times.prio.1)),
      unsigned_length t.period (omega (arith, is.times.period.1)),
      unsigned_length t.offset (omega (arith, is.times.offset, is.times.period.1)),
      unsigned_length t.deadline (omega (arith, is.times.deadline.1, is.times.period.1)),
      unsigned_length t.steps (omega (arith, is.times.steps.1)),
      list_length set names t.reads ok items is.reads,
      list_length set names t.writes ok items is.writes,
      quiet_length second t.quiet (omega (arith, is.times.quiet, is.times.steps.1)),
    ))

-- what a relative set's line is written of
record IsGroup (set : Set) (g : TogetherDecl) : Type 0 where
  pub within : g.within < 2 ^ 64
  pub items : AreItemsOf set g.items

together_length : (set : Set) (names : Names) (g : TogetherDecl) (place : ℕ) → IsCompiled set → AreNames names.items
    → IsGroup set g → length (together_line names place g) ≤ 10000
together_length set names g place ok items is =
    simp length-append (omega (arith, unsigned_length g.within is.within, list_length set names g.items ok items is.items))

first_length : (second : Bool) → length (first_line second) ≤ 14
first_length true = omega arith
first_length false = omega arith

mode_length : (admitted : Bool) → length (mode_line admitted) ≤ 14
mode_length true = omega arith
mode_length false = omega arith

-- the numbers of a set that no rule bounds
pub record HasNumbers (set : Set) : Type 0 where
  pub items : All IsItemDecl set.items
  pub within : All (λ g. g.within < 2 ^ 64) set.together

module _ (names : Names) (set : Set) (items : AreNames names.items) (txns : AreNames names.txns) (ok : IsCompiled set) where
  items_length : All IsItemDecl set.items → length (numbered (item_line names) 0 set.items) ≤ 88 * length set.items
  items_length fit =
      numbered_length (item_line names) 88 0 set.items
      (every_weaker IsItemDecl (λ d. (k : ℕ) → length (item_line names k d) ≤ 88) set.items
      (λ d is k. item_length names d k items is) (every_all IsItemDecl set.items fit))

  txns_length : (second : Bool) → length (numbered (txn_line second names) 0 set.txns) ≤ 20000 * length set.txns
  txns_length second =
      numbered_length (txn_line second names) 20000 0 set.txns
      (every_weaker (IsTxn set) (λ t. (k : ℕ) → length (txn_line second names k t) ≤ 20000) set.txns
      (λ t is k. txn_length set names second t k ok items txns is)
      (every_all (IsTxn set) set.txns (λ k d lt. record { times = ok.times k d lt; reads = ok.reads k d lt; writes = ok.writes k d lt })))

  groups_length : All (λ g. g.within < 2 ^ 64) set.together
      → length (numbered (together_line names) 0 set.together) ≤ 10000 * length set.together
  groups_length fit =
      numbered_length (together_line names) 10000 0 set.together
      (every_weaker (IsGroup set) (λ g. (k : ℕ) → length (together_line names k g) ≤ 10000) set.together
      (λ g is k. together_length set names g k ok items is)
      (every_all (IsGroup set) set.together (λ k d lt. record { within = fit k d lt; items = ok.together k d lt })))

  declarations_length : (admitted : Bool) → HasNumbers set → length (declarations names set admitted) ≤ 2000000
  declarations_length admitted fit =
      simp length-append (omega (
        arith,
        first_length (is_second set),
        items_length fit.items,
        txns_length (is_second set),
        groups_length fit.within,
        mode_length admitted,
        ok.few_items,
        ok.few_txns,
        ok.few_together,
      ))

  -- ---- ceilings and bounds

  ceiling_length : (decl : ItemDecl) (place : ℕ) → length (ceilings_line names set place decl) ≤ 83
  ceiling_length decl place =
      simp length-append (omega (
        arith,
        name_length names.items place items,
        unsigned_length (write_ceiling set place) (omega (arith, write_most set place ok)),
        unsigned_length (absolute_ceiling set place) (omega (arith, absolute_most set place ok)),
      ))

  bound_length : (found : ResponseIsFound) (t : TxnDecl) (place : ℕ) → length (bounds_line names set place t) ≤ 81
  bound_length found t place =
      simp length-append (omega (
        arith,
        name_length names.txns place txns,
        steps_length (blocking set t.prio) (blocking_most set t.prio ok),
        unsigned_length (response_of set place) (response_fits set place found ok),
      ))

  age_length : (found : ResponseIsFound) (decl : ItemDecl) (place : ℕ) → length (ages_line names set place decl) ≤ 58
  age_length found decl place = at (is_dated set.items place) where
    at : (dated : Bool) → length (cond dated (codes "age" ++ (field (name_at names.items place) ++ (field (decimal (age_of set place)) ++ codes "\n"))) []) ≤ 58
    at true =
        simp length-append (omega (arith, name_length names.items place items, unsigned_length (age_of set place) (age_fits set place found ok)))
    at false = omega arith

  anywhere : {A : Type 0} (P : A → Type 0) (xs : List A) → ((x : A) → P x) → Every P xs
  anywhere P [] h = tt
  anywhere P (x ∷ xs) h = (h x, anywhere P xs h)

  ceilings_length : length (ceilings_of names set) ≤ 83 * length set.items
  ceilings_length =
      numbered_length (ceilings_line names set) 83 0 set.items
      (anywhere (λ d. (k : ℕ) → length (ceilings_line names set k d) ≤ 83) set.items (λ d k. ceiling_length d k))

  limits_length : (found : ResponseIsFound) (admitted : Bool)
      → length (limits_text admitted names set) ≤ 81 * length set.txns + 58 * length set.items
  limits_length found false = omega arith
  limits_length found true =
      omega (
        arith,
        length-append (numbered (bounds_line names set) 0 set.txns) (numbered (ages_line names set) 0 set.items),
        numbered_length (bounds_line names set) 81 0 set.txns (anywhere (λ t. (k : ℕ) → length (bounds_line names set k t) ≤ 81) set.txns (λ t k. bound_length found t k)),
        numbered_length (ages_line names set) 58 0 set.items (anywhere (λ d. (k : ℕ) → length (ages_line names set k d) ≤ 58) set.items (λ d k. age_length found d k)),
      )

  pub opening_length : (found : ResponseIsFound) (admitted : Bool) → HasNumbers set
      → length (opening_text names set admitted) ≤ 3000000
  opening_length found admitted fit =
      omega (
        arith,
        length-append (declarations names set admitted) (ceilings_of names set ++ limits_text admitted names set),
        length-append (ceilings_of names set) (limits_text admitted names set),
        declarations_length admitted fit,
        ceilings_length,
        limits_length found admitted,
        ok.few_items,
        ok.few_txns,
      )

  -- ---- last items

  final_length : (stored : Stored) (place : ℕ) → FitsStored stored → length (final_line names place stored) ≤ 81
  final_length stored place fits =
      simp length-append (omega (
        arith,
        name_length names.items place items,
        signed_length stored.value fits.value,
        unsigned_length stored.stamp fits.stamp,
      ))

  pub finals_length : (stored : List Stored) → Every FitsStored stored → length (finals_text names stored) ≤ 81 * length stored
  finals_length stored fit =
      numbered_length (final_line names) 81 0 stored
      (every_weaker FitsStored (λ d. (k : ℕ) → length (final_line names k d) ≤ 81) stored (λ d is k. final_length d k is) fit)
