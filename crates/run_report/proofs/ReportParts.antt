-- Each section of a report is read back.
use Rattle.std.proofs.Common.{◌≡◌, ℕ, ◌-◌, ◌<◌, ◌≤◌, ◌^◌, Bool, true, false, cond, ◌&&◌, List, [], ◌++◌, length, map, get_or, Option, Some, refl, ap, ◌∙◌, arith, codes, pos}
use Rattle.std.specs.List.{filter}
use Rattle.std.specs.Prelude.{option_map, nat_lt}
use Rattle.rt_base.specs.Names.{AreNames}
use Rattle.rt_base.specs.declared.ids.ItemId.{ItemId}
use Rattle.rt_base.specs.declared.name.Names.{Names}
use Rattle.item_model.specs.Kinds.{is_dated}
use Rattle.item_model.specs.declared.decl.ItemDecl.{ItemDecl}
use Rattle.item_model.specs.declared.stored.Stored.{Stored}
use Rattle.txn_set.specs.Set.{Set, IsCompiled, no_txn}
use Rattle.txn_set.specs.Ceilings.{write_ceiling, absolute_ceiling, may_block, blocking}
use Rattle.txn_set.specs.declared.decl.TxnDecl.{TxnDecl}
use Rattle.step_journal.specs.declared.entry.Entry.{Entry}
use Rattle.job_rows.specs.declared.row.JobRow.{JobRow}
use Rattle.line_fields.proofs.CutLaws.{lacks_test}
use Rattle.journal_text.specs.Lines.{entry_line, HasLine}
use Rattle.journal_text.proofs.EntryLaws.{entry_again}
use Rattle.report_text.specs.Rows.{numbered}
use Rattle.report_text.specs.Texts.{ceilings_line, ceilings_of, bound_line, age_line, entries_text, whole_entry_line, jobs_text, job_line, finals_text, final_line, is_second, NamesSet}
use Rattle.report_text.proofs.RowLaws.{no_item}
use Rattle.report_text.specs.declared.forms.Kind.{Kind}
use Rattle.report_text.specs.declared.forms.Section.TheVariants.{Ceilings, Bounds, Ages, Jobs, Finals}
use Rattle.report_text.specs.Forms.{bound_form, age_form, may_be, entry_form, section_form}
use Rattle.report_text.specs.Document.{lines_of, front}
use Rattle.run_report.proofs.Every.{Every, every_or, every_all, every_map, every_filter, every_greatest}
use Rattle.run_report.proofs.Lines.{each_at, each_every, IsRead, numbered_read}
use Rattle.run_report.proofs.Forms.{first_passes, ceiling_rest, ceiling_body, ceiling_again, ceiling_is_line, bound_rest, bound_body, bound_again, bound_is_line, age_rest, age_body, age_again, age_is_line, final_rest, final_body, final_again, final_is_line, FitsStored}
use Rattle.run_report.proofs.Jobs.{job_rest, job_body, job_line_again, job_is_line, FitsRow}
use Rattle.run_report.proofs.Entries.{entry_is_line, EntryWords, entry_passes}
use Rattle.run_report.proofs.Steps.{write_most, absolute_most}
use Rattle.run_report.proofs.Sections.{Word, IsSection, nothing_section, line_section, numbered_section, AreParts}

-- ---- blocking

blocking_most : (set : Set) (prio : ℕ) → IsCompiled set → blocking set prio ≤ 10000
unfolding blocking
blocking_most set prio ok =
    let low : Every (λ (t : TxnDecl). t.steps ≤ 10000) set.txns = every_all (λ (t : TxnDecl). t.steps ≤ 10000) set.txns (λ k d lt. (ok.times k d lt).steps.1) in
    let lower : List TxnDecl = filter (λ t. nat_lt t.prio prio && may_block set prio t) set.txns in
    every_greatest 10000 (map (λ t. t.steps - t.quiet - 1) lower)
    (every_map (λ (t : TxnDecl). t.steps ≤ 10000) (λ (n : ℕ). n ≤ 10000) (λ t. t.steps - t.quiet - 1) lower (λ t le. omega (arith, le))
    (every_filter (λ (t : TxnDecl). t.steps ≤ 10000) (λ t. nat_lt t.prio prio && may_block set prio t) set.txns low))

-- ---- one entry

-- the entry has a line of the version
pub record EntryOf (names : Names) (second : Bool) (e : Entry) : Type 0 where
  pub line : HasLine names e
  pub may : may_be second e ≡ true

entry_read : (names : Names) (second : Bool) (e : Entry) → AreNames names.items → AreNames names.txns
    → EntryOf names second e → entry_form second names (entry_line names e) ≡ Some e
unfolding entry_form
entry_read names second e items txns h = rw (entry_again names e items txns h.line, h.may) refl

-- ---- the sections

-- by the responses and the ages that are written
abbrev pub bounds_text : Names → Set → (ℕ → ℕ) → List ℕ
bounds_text names set response =
    numbered (λ tx decl. bound_line names tx (blocking set decl.prio) (response tx)) 0 set.txns

abbrev pub age_text : Names → Set → (ℕ → ℕ) → ℕ → ItemDecl → List ℕ
age_text names set age item decl = cond (is_dated set.items item) (age_line names item (age item)) []

abbrev pub ages_text : Names → Set → (ℕ → ℕ) → List ℕ
ages_text names set age = numbered (age_text names set age) 0 set.items

module _ (names : Names) (set : Set) (admitted : Bool) (items_good : AreNames names.items) (txns_good : AreNames names.txns) (one : NamesSet names set) (ok : IsCompiled set) where
  abbrev pub kind : Kind
  kind = record { second = is_second set; admitted = admitted }

  item_named : (k : ℕ) → k < length set.items → k < length names.items
  item_named k lt = omega (arith, lt, one.items)

  ceilings_section : IsSection (Word (codes "ceiling")) (section_form Ceilings kind names) (ceilings_of names set)
  unfolding section_form
  ceilings_section =
      numbered_section (Word (codes "ceiling")) (section_form Ceilings kind names) (ceilings_line names set) 0 set.items
      (each_at (λ k x. IsSection (Word (codes "ceiling")) (section_form Ceilings kind names) (ceilings_line names set k x)) set.items no_item
      (λ k lt.
      let write : write_ceiling set k < 2 ^ 32 = omega (arith, write_most set k ok) in
      let absolute : absolute_ceiling set k < 2 ^ 32 = omega (arith, absolute_most set k ok) in
      line_section (Word (codes "ceiling")) (section_form Ceilings kind names) (ceilings_line names set k (get_or set.items k no_item))
      (ceiling_body names k (write_ceiling set k) (absolute_ceiling set k)) tt
      (ceiling_is_line names k (write_ceiling set k) (absolute_ceiling set k) items_good (item_named k lt) write absolute)
      (ceiling_again names k (write_ceiling set k) (absolute_ceiling set k) items_good (item_named k lt) write absolute)
      (λ test passes. first_passes test (codes "ceiling") (ceiling_rest names k (write_ceiling set k) (absolute_ceiling set k)) (lacks_test 32 (codes "ceiling") refl) refl passes)))

  bounds_section : (response : ℕ → ℕ) → ((tx : ℕ) → response tx < 2 ^ 64) → admitted ≡ true
      → IsSection (Word (codes "bound")) (section_form Bounds kind names) (bounds_text names set response)
  unfolding section_form
  bounds_section response fits is =
      numbered_section (Word (codes "bound")) (section_form Bounds kind names) (λ tx decl. bound_line names tx (blocking set decl.prio) (response tx)) 0 set.txns
      (each_at (λ k x. IsSection (Word (codes "bound")) (section_form Bounds kind names) (bound_line names k (blocking set x.prio) (response k))) set.txns no_txn
      (λ k lt.
      let prio : ℕ = (get_or set.txns k no_txn).prio in
      let named : k < length names.txns = omega (arith, lt, one.txns) in
      let few : blocking set prio < 2 ^ 64 = omega (arith, blocking_most set prio ok) in
      line_section (Word (codes "bound")) (section_form Bounds kind names) (bound_line names k (blocking set prio) (response k))
      (bound_body names k (blocking set prio) (response k)) tt
      (bound_is_line names k (blocking set prio) (response k) txns_good named few (fits k))
      (ap (λ (b : Bool). bound_form b names (bound_body names k (blocking set prio) (response k))) is ∙ bound_again names k (blocking set prio) (response k) txns_good named few (fits k))
      (λ test passes. first_passes test (codes "bound") (bound_rest names k (blocking set prio) (response k)) (lacks_test 32 (codes "bound") refl) refl passes)))

  age_section : (age : ℕ → ℕ) → ((item : ℕ) → age item < 2 ^ 64) → admitted ≡ true → (k : ℕ) → k < length set.items → (dated : Bool)
      → IsSection (Word (codes "age")) (section_form Ages kind names) (cond dated (age_line names k (age k)) [])
  unfolding section_form
  age_section age fits is k lt true =
      line_section (Word (codes "age")) (section_form Ages kind names) (age_line names k (age k)) (age_body names k (age k)) tt
      (age_is_line names k (age k) items_good (item_named k lt) (fits k))
      (ap (λ (b : Bool). age_form b names (age_body names k (age k))) is ∙ age_again names k (age k) items_good (item_named k lt) (fits k))
      (λ test passes. first_passes test (codes "age") (age_rest names k (age k)) (lacks_test 32 (codes "age") refl) refl passes)
  age_section age fits is k lt false = nothing_section (Word (codes "age")) (section_form Ages kind names)

  ages_section : (age : ℕ → ℕ) → ((item : ℕ) → age item < 2 ^ 64) → admitted ≡ true
      → IsSection (Word (codes "age")) (section_form Ages kind names) (ages_text names set age)
  ages_section age fits is =
      numbered_section (Word (codes "age")) (section_form Ages kind names) (age_text names set age) 0 set.items
      (each_at (λ k x. IsSection (Word (codes "age")) (section_form Ages kind names) (age_text names set age k x)) set.items no_item
      (λ k lt. age_section age fits is k lt (is_dated set.items k)))

  entries_section : (entries : List Entry) → Every (EntryOf names (is_second set)) entries
      → IsSection EntryWords (entry_form (is_second set) names) (entries_text names entries)
  entries_section entries h =
      numbered_section EntryWords (entry_form (is_second set) names) (whole_entry_line names) 0 entries
      (each_every (EntryOf names (is_second set)) (λ k e. IsSection EntryWords (entry_form (is_second set) names) (whole_entry_line names k e)) 0 entries
      (λ k e is.
      line_section EntryWords (entry_form (is_second set) names) (whole_entry_line names k e) (entry_line names e) e
      (entry_is_line names k e items_good txns_good is.line) (entry_read names (is_second set) e items_good txns_good is)
      (λ test words. entry_passes names test e words)) h)

  entries_again : (entries : List Entry) (rest : List ℕ) → Every (EntryOf names (is_second set)) entries
      → front (entry_form (is_second set) names) (lines_of (entries_text names entries ++ rest)).0 ≡ entries ++ front (entry_form (is_second set) names) (lines_of rest).0
  entries_again entries rest h =
      numbered_read (entry_form (is_second set) names) (whole_entry_line names) 0 entries rest
      (each_every (EntryOf names (is_second set)) (λ k e. IsRead (entry_form (is_second set) names) (whole_entry_line names k e) e) 0 entries
      (λ k e is. record {
        body = entry_line names e;
        line = entry_is_line names k e items_good txns_good is.line;
        is = entry_read names (is_second set) e items_good txns_good is;
      }) h)

  jobs_section : (rows : List JobRow) → Every (FitsRow names (is_second set)) rows
      → IsSection (Word (codes "job")) (section_form Jobs kind names) (jobs_text names rows)
  unfolding section_form
  jobs_section rows h =
      numbered_section (Word (codes "job")) (section_form Jobs kind names) (job_line names) 0 rows
      (each_every (FitsRow names (is_second set)) (λ k row. IsSection (Word (codes "job")) (section_form Jobs kind names) (job_line names k row)) 0 rows
      (λ k row fits.
      line_section (Word (codes "job")) (section_form Jobs kind names) (job_line names k row) (job_body names k row) tt
      (job_is_line names (is_second set) k row items_good txns_good fits) (job_line_again names (is_second set) k row items_good txns_good fits)
      (λ test passes. first_passes test (codes "job") (job_rest names row) (lacks_test 32 (codes "job") refl) refl passes)) h)

  abbrev no_value : Stored
  no_value = record { value = pos 0; stamp = 0 }

  finals_section : (items : List Stored) → length items ≡ length set.items → Every FitsStored items
      → IsSection (Word (codes "final")) (section_form Finals kind names) (finals_text names items)
  unfolding section_form
  finals_section items count h =
      numbered_section (Word (codes "final")) (section_form Finals kind names) (final_line names) 0 items
      (each_at (λ k x. IsSection (Word (codes "final")) (section_form Finals kind names) (final_line names k x)) items no_value
      (λ k lt.
      let stored : Stored = get_or items k no_value in
      let named : k < length names.items = omega (arith, lt, count, one.items) in
      let fits : FitsStored stored = every_or FitsStored items k no_value h (record { value = omega arith; stamp = omega arith }) in
      line_section (Word (codes "final")) (section_form Finals kind names) (final_line names k stored) (final_body names k stored) tt
      (final_is_line names k stored items_good named fits)
      (ap (λ (o : Option ItemId). option_map (λ item. tt) o) (final_again names k stored items_good named fits))
      (λ test passes. first_passes test (codes "final") (final_rest names k stored) (lacks_test 32 (codes "final") refl) refl passes)))

  pub are_parts : (entries : List Entry) (rows : List JobRow) (items : List Stored) (response age : ℕ → ℕ)
      → Every (EntryOf names (is_second set)) entries → Every (FitsRow names (is_second set)) rows
      → length items ≡ length set.items → Every FitsStored items
      → ((tx : ℕ) → response tx < 2 ^ 64) → ((item : ℕ) → age item < 2 ^ 64)
      → AreParts kind names entries (ceilings_of names set) (bounds_text names set response) (ages_text names set age)
      (entries_text names entries) (jobs_text names rows) (finals_text names items)
  are_parts entries rows items response age told ended count last responses ages = record {
    ceilings = ceilings_section;
    bounds = bounds_section response responses;
    ages = ages_section age ages;
    entries = entries_section entries told;
    read = λ rest. entries_again entries rest told;
    jobs = jobs_section rows ended;
    finals = finals_section items count last;
  }
