-- A log that was opened stands for the entries that it handed out.
use Rattle.std.proofs.Common.{◌≡◌, ℕ, ◌+◌, false, List, [], length, Option, Some, None, IfSome, IsSome, ◌↔◌, refl, sym, ◌∙◌, subst, arith, ◌*◌, ◌∷◌, ap}
use Rattle.std.specs.List.{AllByRecursion}
use Rattle.std.proofs.lemmas.List.{length-map}
use Rattle.rt_base.specs.declared.name.Names.{Names}
use Rattle.rt_base.specs.Names.{AreNames}
use Rattle.txn_set.specs.Set.{Set}
use Rattle.step_journal.specs.declared.entry.Entry.{Entry}
use Rattle.step_journal.specs.History.{IsLegal}
use Rattle.journal_text.specs.Lines.{entry_line}
use Rattle.journal_text.specs.EntryLaws.{LinesBothWays}
use Rattle.durable_disk.specs.Images.{Written}
use Rattle.durable_disk.specs.Device.{Only}
use Rattle.durable_disk.specs.Records.{Reads}
use Rattle.durable_disk.specs.Laws.{FoundAsRead, WholeIsWide, ClosedAsRead}
use Rattle.durable_journal.specs.declared.scan.Stop.{Stop}
use Rattle.durable_journal.specs.declared.scan.Stop.TheVariants.{Ended, Unended}
use Rattle.durable_journal.specs.Format.{body_of, bodies_of}
use Rattle.durable_journal.specs.Texts.{ended, unended, texts_from}
use Rattle.durable_journal.specs.Log.{Fits, Stood}
use Rattle.durable_journal.specs.Opened.{Scanned, texts_by, ClosesAt, IsEnd}
use Rattle.durable_journal.proofs.Converse.{found_entries, found_unended}

-- a disk that did not tell does not begin to
none_after : (s t : Option (List ℕ)) → (IsSome t → IsSome s) → s ≡ None → t ≡ None
none_after s None back is = refl
none_after s (Some f) back is = absurd (let told : IsSome s = back refl in cc)

module _ (lines : LinesBothWays) (found : FoundAsRead) (wide : WholeIsWide) (closes : ClosedAsRead) (names : Names) (items : AreNames names.items) (txns : AreNames names.txns) (set : Set) (room : ℕ) where
  only_at : (file : List ℕ) (later : Option (List ℕ)) (outcomes : List ℕ → Type 0) → later ≡ Some file → Only later outcomes → (c : List ℕ) → outcomes c → c ≡ file
  only_at file later outcomes is only = let P : Option (List ℕ) → Type 0 = λ s. Only s outcomes in subst P is only

  -- a log whose records are read of the file
  made : (file : List ℕ) (outcomes : List ℕ → Type 0) (count : ℕ) (es : List Entry) → ((c : List ℕ) → outcomes c → c ≡ file) → Reads file (bodies_of names es) → AllByRecursion (Fits names) es → IsLegal set es → count ≡ length es + 1 → Stood names set (Some file) outcomes count false es
  made file outcomes count es only reads fit legal counts = record {
    legal = legal;
    fit = fit;
    headed = omega (arith, counts);
    records = (omega (arith, counts, length-map es (λ e. body_of (entry_line names e))), (reads, only));
  }

  module _ {D : Type 0} (seen : D → Option (List ℕ)) (may_leave : D → List ℕ → Type 0) (mid new : D) (count : ℕ) (stop : Stop) (entries es : List Entry)
      (only : Only (seen mid) (may_leave mid)) (handed : es ≡ entries) (legal : IsLegal set es) (counts : count ≡ length es + 1)
      (stays : (stop ≡ Unended → ⊥) → new ≡ mid) (shuts : stop ≡ Unended → ClosesAt (seen mid) (seen new) (may_leave new) count) (file : List ℕ) (same : seen mid ≡ Some file) (scanned : Scanned names room file stop entries) where
    at_end : stop ≡ Ended → Stood names set (seen new) (may_leave new) count false es
    at_end here =
        let texts : texts_from names 1 room [] file ≡ ended es = sym scanned.texts ∙ ap (λ s. texts_by s entries) here ∙ ap ended (sym handed) in
        let f = found_entries names (lines names items txns) wide file room es scanned.head texts in
        let told = subst (λ s. Stood names set s (may_leave mid) count false es) (sym same)
        (made file (may_leave mid) count es (only_at file (seen mid) (may_leave mid) same only) ((found file (bodies_of names es)).1 f.1) f.0 legal counts) in
        subst (λ d. Stood names set (seen d) (may_leave d) count false es) (sym (stays (λ un. let other : Ended ≡ Unended = sym here ∙ un in cc))) told

    at_missing : stop ≡ Unended → Stood names set (seen new) (may_leave new) count false es
    at_missing here =
        let texts : texts_from names 1 room [] file ≡ unended es = sym scanned.texts ∙ ap (λ s. texts_by s entries) here ∙ ap unended (sym handed) in
        let f = found_unended names (lines names items txns) wide file room es scanned.head texts in
        let Q : Option (List ℕ) → Type 0 = λ s. ClosesAt s (seen new) (may_leave new) count in
        let shut = subst Q same (shuts here) in
        let place : count ≡ length (bodies_of names es) = omega (arith, counts, length-map es (λ e. body_of (entry_line names e))) in
        let written = subst (λ (n : ℕ). Written (256 * n) (0 ∷ []) file shut.0) place shut.2 in
        subst (λ s. Stood names set s (may_leave new) count false es) (sym shut.1)
        (made shut.0 (may_leave new) count es shut.3 (closes file shut.0 (bodies_of names es) f.1 written) f.0 legal counts)

    by_stop : (s : Stop) → stop ≡ s → IsEnd s → Stood names set (seen new) (may_leave new) count false es
    by_stop Ended is end = at_end is
    by_stop Unended is end = at_missing is
    by_stop other is end = absurd end

  -- of a disk that does not tell
  made_untold : (outcomes : List ℕ → Type 0) (count : ℕ) (es : List Entry) → AllByRecursion (Fits names) es → IsLegal set es → count ≡ length es + 1 → Stood names set None outcomes count false es
  made_untold outcomes count es fit legal counts = record {
    legal = legal;
    fit = fit;
    headed = omega (arith, counts);
    records = (omega (arith, counts, length-map es (λ e. body_of (entry_line names e))), tt);
  }

  pub open_stands : {D : Type 0} (seen : D → Option (List ℕ)) (may_leave : D → List ℕ → Type 0) (mid new : D) (old : Option (List ℕ)) (count : ℕ) (stop : Stop) (entries es : List Entry)
      → seen mid ≡ old → Only (seen mid) (may_leave mid) → IfSome old (λ file. Scanned names room file stop entries) → AllByRecursion (Fits names) entries → es ≡ entries → IsLegal set entries → IsEnd stop → count ≡ length es + 1
      → (IsSome (seen mid) ↔ IsSome (seen new)) → ((stop ≡ Unended → ⊥) → new ≡ mid) → (stop ≡ Unended → ClosesAt (seen mid) (seen new) (may_leave new) count)
      → Stood names set (seen new) (may_leave new) count false es
  open_stands seen may_leave mid new None count stop entries es same only scanned fit handed legal end counts told stays shuts =
      subst (λ s. Stood names set s (may_leave new) count false es) (sym (none_after (seen mid) (seen new) told.1 same))
      (made_untold (may_leave new) count es (subst (λ l. AllByRecursion (Fits names) l) (sym handed) fit) (subst (λ l. IsLegal set l) (sym handed) legal) counts)
  open_stands seen may_leave mid new (Some file) count stop entries es same only scanned fit handed legal end counts told stays shuts =
      by_stop seen may_leave mid new count stop entries es only handed (subst (λ l. IsLegal set l) (sym handed) legal) counts stays shuts file same scanned stop refl end
