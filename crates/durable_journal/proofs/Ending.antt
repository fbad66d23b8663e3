-- Where a journal ends whose last gate is missing, and what is written there.
use Rattle.std.proofs.Common.{◌≡◌, ◌⊎◌, inl, inr, ⊎_elim, ℕ, ◌+◌, ◌*◌, ◌<◌, ◌≤◌, ◌==◌, Bool, true, false, cond, List, [], ◌∷◌, length, get_or, take, drop, Option, Some, None, IfSome, refl, sym, ◌∙◌, ap, subst, arith, length-drop}
use Rattle.std.proofs.lemmas.List.{length-take, length-map, ext_get_or, get_or_append_left, get_or_push, length_push}
use Rattle.std.proofs.lemmas.Bool.{cases_lt}
use Rattle.rt_base.specs.declared.name.Names.{Names}
use Rattle.txn_set.specs.Set.{Set}
use Rattle.step_journal.specs.declared.entry.Entry.{Entry}
use Rattle.step_journal.specs.History.{IsLegal}
use Rattle.journal_text.specs.Laws.{BothWays}
use Rattle.journal_text.specs.Lines.{entry_line, HasLine}
use Rattle.journal_text.specs.Reading.{entry_of}
use Rattle.durable_disk.specs.Images.{Written, Torn}
use Rattle.durable_disk.specs.Device.{LeavesOnly, Only, WritesWithin, BothTold}
use Rattle.durable_disk.specs.Records.{missing, closed, short, whole, slot_of, slot_at}
use Rattle.durable_disk.specs.Laws.{WholeIsWide}
use Rattle.durable_disk.proofs.Slots.{whole_is}
use Rattle.durable_journal.specs.Format.{body_of, bodies_of}
use Rattle.durable_journal.specs.declared.scan.Stop.{Stop}
use Rattle.durable_journal.specs.declared.scan.Stop.TheVariants.{Ended, Unended, Broken, More}
use Rattle.durable_journal.specs.Texts.{IsHeader, unended, texts_from}
use Rattle.durable_journal.specs.Opened.{Passes, Scanned, texts_by, Touches, IsUnended, HasByteMore, with_gate, ClosesAt}
use Rattle.durable_journal.proofs.Converse.{found_unended}
use Rattle.durable_journal.proofs.Runs.{run_on}
use Rattle.durable_journal.proofs.Crash.{weaken}

missing_by : (gate : ℕ) (rest : List ℕ) (b c : Bool) → cond b (cond c (whole rest) short) closed ≡ missing → length (gate ∷ rest) ≤ 0
missing_by gate rest true true is = absurd (cc)
missing_by gate rest true false is = absurd (cc)
missing_by gate rest false c is = absurd (cc)

missing_is : (bytes : List ℕ) → slot_of bytes ≡ missing → length bytes ≤ 0
missing_is [] is = omega arith
missing_is (gate ∷ rest) is = missing_by gate rest (gate == 1) (length rest == 255) is

-- a journal whose gate is missing in place k ends there
ends_at : (k : ℕ) (file body : List ℕ) → slot_at k file ≡ whole body → slot_at (k + 1) file ≡ missing → length file ≡ 256 * (k + 1)
ends_at k file body here next =
    let w = whole_is (take 256 (drop (256 * k) file)) body here in
    let none = missing_is (take 256 (drop (256 * (k + 1)) file)) next in
    omega (
      arith,
      ap length w.is,
      w.wide,
      none,
      length-take 256 (drop (256 * k) file),
      length-drop (256 * k) file,
      length-take 256 (drop (256 * (k + 1)) file),
      length-drop (256 * (k + 1)) file,
    )

pub unended_ends : (names : Names) → BothWays (HasLine names) (entry_line names) (entry_of names) → WholeIsWide → (file : List ℕ) (room : ℕ) (es : List Entry) → IsHeader (slot_at 0 file)
    → texts_from names 1 room [] file ≡ unended es → length file ≡ 256 * (length es + 1)
unended_ends names both wide file room es head texts =
    let f = found_unended names both wide file room es head texts in
    let n : length (bodies_of names es) ≡ length es + 1 = omega (arith, length-map es (λ e. body_of (entry_line names e))) in
    ends_at (length es) file _ (f.1 (length es) (omega (arith, n))) (ap (λ (k : ℕ). slot_at k file) (sym n) ∙ f.2)

-- a byte that is written at the end of a file stands behind it
pub written_end : (at : ℕ) (file new : List ℕ) → at ≡ length file → Written at (0 ∷ []) file new → new ≡ with_gate file
written_end at file new is w = ext_get_or 0 new (with_gate file) long each
  where
    long : length new ≡ length (with_gate file)
    long = omega (arith, w.end, is, length_push file 0)

    each : (i : ℕ) → i < length new → get_or new i 0 ≡ get_or (with_gate file) i 0
    each i within = ⊎_elim
        (λ low. w.others i low (inl (omega (arith, low, is))) ∙ sym (get_or_append_left file (0 ∷ []) 0 i low))
        (λ high.
        let here : i ≡ length file = omega (arith, high, within, w.end, is) in
        ap (λ (j : ℕ). get_or new j 0) (omega (arith, here, is)) ∙ w.range 0 (omega arith) ∙ sym (get_or_push file 0 0 i (sym here)))
        (cases_lt i (length file))

both_at : (P : List ℕ → List ℕ → Type 0) (file : List ℕ) (a b : Option (List ℕ)) → a ≡ Some file → BothTold P a b → IfSome b (P file)
both_at P file a None is both = tt
both_at P file a (Some g) is both = let at : BothTold P (Some file) (Some g) = subst (λ (s : Option (List ℕ)). BothTold P s (Some g)) is both in at

module _ (names : Names) (both : BothWays (HasLine names) (entry_line names) (entry_of names)) (wide : WholeIsWide) (set : Set) (room : ℕ)
    {D : Type 0} (seen : D → Option (List ℕ)) (may_leave : D → List ℕ → Type 0) (moment : D → ℕ) (left_since : D → ℕ → List ℕ → Type 0)
    (old mid new : D) (passes : Passes seen may_leave moment left_since old mid) (only : Only (seen mid) (may_leave mid)) (stop : Stop) (entries : List Entry) (legal : IsLegal set entries) (k : ℕ) (count : k ≡ length entries + 1)
    (stays : (stop ≡ Unended → ⊥) → new ≡ mid) (within : WritesWithin seen may_leave moment left_since (256 * k) 1 mid new) where
  ended_at : (file : List ℕ) → Scanned names room file stop entries → stop ≡ Unended → IsUnended names set room file × (length file ≡ 256 * k)
  ended_at file scanned is =
      let texts : texts_from names 1 room [] file ≡ unended entries = sym scanned.texts ∙ ap (λ s. texts_by s entries) is in
      let ends = unended_ends names both wide file room entries scanned.head texts in (
        record { entries = entries; head = scanned.head; texts = texts; legal = legal },
        omega (arith, ends, count),
      )

  told_mid : (file : List ℕ) → seen old ≡ Some file → seen mid ≡ Some file
  told_mid file told = passes.same ∙ told

  only_file : (file : List ℕ) → seen old ≡ Some file → (c : List ℕ) → may_leave mid c → c ≡ file
  only_file file told c left = let P : Option (List ℕ) → Type 0 = λ s. Only s (may_leave mid) in (let here : Only (Some file) (may_leave mid) = subst P (told_mid file told) only in here c left)

  closing : (file : List ℕ) → seen old ≡ Some file → length file ≡ 256 * k → LeavesOnly moment left_since old new (λ c. may_leave old c ⊎ HasByteMore file c)
  closing file told ends =
      run_on moment left_since old mid new (λ c. may_leave old c ⊎ HasByteMore file c) (λ c. (d : List ℕ) × may_leave mid d × Torn (256 * k) 1 d c)
      (weaken moment left_since old mid (may_leave old) (λ c. may_leave old c ⊎ HasByteMore file c) passes.moments (λ c left. inl left))
      within.moments
      (λ c some. inr (subst (λ (n : ℕ). Torn n 1 file c) (sym ends) (subst (λ (f : List ℕ). Torn (256 * k) 1 f c) (only_file file told some.0 some.1) some.2)))

  byte_more : (file : List ℕ) → seen old ≡ Some file → length file ≡ 256 * k → IfSome (seen new) (HasByteMore file)
  byte_more file told ends =
      both_at (λ a b. Torn (length file) 1 a b) file (seen mid) (seen new) (told_mid file told)
      (subst (λ (n : ℕ). BothTold (λ a b. Torn n 1 a b) (seen mid) (seen new)) (sym ends) within.reads)

  gate_more : (file : List ℕ) → seen old ≡ Some file → length file ≡ 256 * k → ClosesAt (seen mid) (seen new) (may_leave new) k → IfSome (seen new) (λ now. now ≡ with_gate file)
  gate_more file told ends closes =
      let Q : Option (List ℕ) → Type 0 = λ s. ClosesAt s (seen new) (may_leave new) k in
      let here : ClosesAt (Some file) (seen new) (may_leave new) k = subst Q (told_mid file told) closes in
      let R : Option (List ℕ) → Type 0 = λ s. IfSome s (λ now. now ≡ with_gate file) in
      subst R (sym here.1) (written_end (256 * k) file here.0 (sym ends) here.2)

  touches_by : (P : List ℕ → Type 0) (file : List ℕ) → seen old ≡ Some file → Scanned names room file stop entries → (stop ≡ Unended → length file ≡ 256 * k → IfSome (seen new) P) → (s : Stop) → stop ≡ s
      → Touches seen may_leave moment left_since names set room file P old new
  touches_by P file told scanned reads Ended is = inl (subst (λ (d : D). Passes seen may_leave moment left_since old d) (sym (stays (λ un. let other : Ended ≡ Unended = sym is ∙ un in cc))) passes)
  touches_by P file told scanned reads Broken is = inl (subst (λ (d : D). Passes seen may_leave moment left_since old d) (sym (stays (λ un. let other : Broken ≡ Unended = sym is ∙ un in cc))) passes)
  touches_by P file told scanned reads More is = inl (subst (λ (d : D). Passes seen may_leave moment left_since old d) (sym (stays (λ un. let other : More ≡ Unended = sym is ∙ un in cc))) passes)
  touches_by P file told scanned reads Unended is =
      let at = ended_at file scanned is in
      inr (record { was = at.0; reads = reads is at.1; moments = closing file told at.1 })

  if_told : (Q P : List ℕ → Type 0) (told : Option (List ℕ)) → ((file : List ℕ) → told ≡ Some file → Q file → P file) → IfSome told Q → IfSome told P
  if_told Q P None f h = tt
  if_told Q P (Some file) f h = f file refl h

  -- the gate was begun
  pub touches_err : IfSome (seen old) (λ file. Scanned names room file stop entries) → IfSome (seen old) (λ file. Touches seen may_leave moment left_since names set room file (HasByteMore file) old new)
  touches_err scanned =
      if_told (λ file. Scanned names room file stop entries) (λ file. Touches seen may_leave moment left_since names set room file (HasByteMore file) old new) (seen old)
      (λ file told sc. touches_by (HasByteMore file) file told sc (λ is ends. byte_more file told ends) stop refl) scanned

  -- the gate was written
  pub touches_ok : (stop ≡ Unended → ClosesAt (seen mid) (seen new) (may_leave new) k) → IfSome (seen old) (λ file. Scanned names room file stop entries)
      → IfSome (seen old) (λ file. Touches seen may_leave moment left_since names set room file (λ now. now ≡ with_gate file) old new)
  touches_ok closes scanned =
      if_told (λ file. Scanned names room file stop entries) (λ file. Touches seen may_leave moment left_since names set room file (λ now. now ≡ with_gate file) old new) (seen old)
      (λ file told sc. touches_by (λ now. now ≡ with_gate file) file told sc (λ is ends. gate_more file told ends (closes is)) stop refl) scanned

pub length_same : {A : Type 0} (xs ys : List A) → xs ≡ ys → length xs ≡ length ys
length_same xs ys is = ap length is
