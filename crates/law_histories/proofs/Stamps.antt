-- The least and the greatest stamp of some reads are those of any list with the same reads, so the stamp that a
-- commit gives follows from the entries.
use Rattle.std.proofs.Common.{◌≡◌, ◌⊎◌, ℕ, ◌<◌, ◌≤◌, Bool, true, false, cond, List, [], ◌∷◌, Option, None, Some, refl, ap, sym, ◌∙◌, subst, inl, inr, arith, le_antisymm}
use Rattle.std.proofs.lemmas.Bool.{ltb-true, ltb-false, eqb-true, or_cases, or_parts, and_parts}
use Rattle.std.specs.List.{filter}
use Rattle.std.specs.Option.{option_map_or}
use Rattle.txn_set.specs.Set.{Set}
use Rattle.item_model.specs.Kinds.{is_dated, is_derived}
use Rattle.item_model.specs.Work.{Work, is_older, older, oldest, is_newer, newer, newest, stamp_for}
use Rattle.item_model.specs.declared.stored.OutsideRead.{OutsideRead}
use Rattle.law_histories.proofs.Members.{In, in_filter, filter_in}

pub record IsOldest (rs : List OutsideRead) (r : OutsideRead) : Type 0 where
  pub here : In r rs
  pub least : (q : OutsideRead) → In q rs → r.stamp ≤ q.stamp

pub oldest_none : (rs : List OutsideRead) → oldest rs ≡ None → rs ≡ []
oldest_none [] e = refl
oldest_none (r ∷ rs) e = absurd cc

older_le : (s r : OutsideRead) → is_older s r ≡ true → s.stamp ≤ r.stamp
unfolding is_older
older_le s r e = elim (or_cases _ _ e) [ inl lt ↦ omega (arith, ltb-true s.stamp r.stamp lt) | inr q ↦ omega (arith, eqb-true s.stamp r.stamp (and_parts _ _ q).0) ]

not_older : (s r : OutsideRead) → is_older s r ≡ false → r.stamp ≤ s.stamp
unfolding is_older
not_older s r e = ltb-false s.stamp r.stamp (or_parts _ _ e).0

older_at : (rs : List OutsideRead) (r s x : OutsideRead) (b : Bool) → is_older s r ≡ b → IsOldest rs s → cond b s r ≡ x → IsOldest (r ∷ rs) x
older_at rs r s x true e h is = subst (IsOldest (r ∷ rs)) is (record {
  here = inr h.here;
  least = λ q i. elim i [ inl same ↦ (let le : s.stamp ≤ r.stamp = older_le s r e in omega (arith, ap (λ (k : OutsideRead). k.stamp) same)) | inr j ↦ h.least q j ];
})
older_at rs r s x false e h is = subst (IsOldest (r ∷ rs)) is (record {
  here = inl refl;
  least = λ q i. elim i [ inl same ↦ omega (arith, ap (λ (k : OutsideRead). k.stamp) same) | inr j ↦ (let le : r.stamp ≤ s.stamp = not_older s r e in omega (arith, h.least q j)) ];
})

oldest_at : (rs : List OutsideRead) (r x : OutsideRead) (o : Option OutsideRead) → oldest rs ≡ o → ((s : OutsideRead) → o ≡ Some s → IsOldest rs s) → Some (older r o) ≡ Some x → IsOldest (r ∷ rs) x
oldest_at rs r x None e h is =
    let same : r ≡ x = cc in
    let none : rs ≡ [] = oldest_none rs e in
    subst (λ (k : List OutsideRead). IsOldest (r ∷ k) x) (sym none) (record { here = inl (sym same); least = λ q i. elim i [ inl k ↦ omega (arith, ap (λ (k : OutsideRead). k.stamp) (k ∙ same)) | inr j ↦ absurd j ] })
oldest_at rs r x (Some s) e h is = let same : older r (Some s) ≡ x = cc in older_at rs r s x (is_older s r) refl (h s refl) same

pub oldest_is : (rs : List OutsideRead) (x : OutsideRead) → oldest rs ≡ Some x → IsOldest rs x
oldest_is [] x e = absurd cc
oldest_is (r ∷ rs) x e = oldest_at rs r x (oldest rs) refl (λ s is. oldest_is rs s is) e

-- the same of the greatest

pub record IsNewest (rs : List OutsideRead) (r : OutsideRead) : Type 0 where
  pub here : In r rs
  pub most : (q : OutsideRead) → In q rs → q.stamp ≤ r.stamp

pub newest_none : (rs : List OutsideRead) → newest rs ≡ None → rs ≡ []
newest_none [] e = refl
newest_none (r ∷ rs) e = absurd cc

newer_le : (s r : OutsideRead) → is_newer s r ≡ true → r.stamp ≤ s.stamp
unfolding is_newer
newer_le s r e = elim (or_cases _ _ e) [ inl lt ↦ omega (arith, ltb-true r.stamp s.stamp lt) | inr q ↦ omega (arith, eqb-true s.stamp r.stamp (and_parts _ _ q).0) ]

not_newer : (s r : OutsideRead) → is_newer s r ≡ false → s.stamp ≤ r.stamp
unfolding is_newer
not_newer s r e = ltb-false r.stamp s.stamp (or_parts _ _ e).0

newer_at : (rs : List OutsideRead) (r s x : OutsideRead) (b : Bool) → is_newer s r ≡ b → IsNewest rs s → cond b s r ≡ x → IsNewest (r ∷ rs) x
newer_at rs r s x true e h is = subst (IsNewest (r ∷ rs)) is (record {
  here = inr h.here;
  most = λ q i. elim i [ inl same ↦ (let le : r.stamp ≤ s.stamp = newer_le s r e in omega (arith, ap (λ (k : OutsideRead). k.stamp) same)) | inr j ↦ h.most q j ];
})
newer_at rs r s x false e h is = subst (IsNewest (r ∷ rs)) is (record {
  here = inl refl;
  most = λ q i. elim i [ inl same ↦ omega (arith, ap (λ (k : OutsideRead). k.stamp) same) | inr j ↦ (let le : s.stamp ≤ r.stamp = not_newer s r e in omega (arith, h.most q j)) ];
})

newest_at : (rs : List OutsideRead) (r x : OutsideRead) (o : Option OutsideRead) → newest rs ≡ o → ((s : OutsideRead) → o ≡ Some s → IsNewest rs s) → Some (newer r o) ≡ Some x → IsNewest (r ∷ rs) x
newest_at rs r x None e h is =
    let same : r ≡ x = cc in
    let none : rs ≡ [] = newest_none rs e in
    subst (λ (k : List OutsideRead). IsNewest (r ∷ k) x) (sym none) (record { here = inl (sym same); most = λ q i. elim i [ inl k ↦ omega (arith, ap (λ (k : OutsideRead). k.stamp) (k ∙ same)) | inr j ↦ absurd j ] })
newest_at rs r x (Some s) e h is = let same : newer r (Some s) ≡ x = cc in newer_at rs r s x (is_newer s r) refl (h s refl) same

pub newest_is : (rs : List OutsideRead) (x : OutsideRead) → newest rs ≡ Some x → IsNewest rs x
newest_is [] x e = absurd cc
newest_is (r ∷ rs) x e = newest_at rs r x (newest rs) refl (λ s is. newest_is rs s is) e

-- the stamp of a derived item

same_least : (rs qs : List OutsideRead) (d : ℕ) (o p : Option OutsideRead) → oldest rs ≡ o → oldest qs ≡ p → ((r : OutsideRead) → In r rs → In r qs) → ((r : OutsideRead) → In r qs → In r rs)
    → option_map_or (λ r. r.stamp) o d ≡ option_map_or (λ r. r.stamp) p d
same_least rs qs d None None e f to from = refl
same_least rs qs d None (Some p) e f to from = absurd (subst (λ (k : List OutsideRead). In p k) (oldest_none rs e) (from p (oldest_is qs p f).here))
same_least rs qs d (Some o) None e f to from = absurd (subst (λ (k : List OutsideRead). In o k) (oldest_none qs f) (to o (oldest_is rs o e).here))
same_least rs qs d (Some o) (Some p) e f to from =
    let a = oldest_is rs o e in
    let b = oldest_is qs p f in
    le_antisymm (a.least p (from p b.here)) (b.least o (to o a.here))

-- the stamp of a derived item is the least of the dated stamps that were read, whatever the order in which they are
-- listed
pub same_stamp : (set : Set) (w v : Work) (release item : ℕ) → ((r : OutsideRead) → In r w.reads → In r v.reads) → ((r : OutsideRead) → In r v.reads → In r w.reads) → stamp_for set.items w release item ≡ stamp_for set.items v release item
unfolding stamp_for
same_stamp set w v release item to from =
    let p : OutsideRead → Bool = λ r. is_dated set.items r.item.0 in
    ap (λ (n : ℕ). cond (is_derived set.items item) n release) (same_least (filter (λ r. is_dated set.items r.item.0) w.reads) (filter (λ r. is_dated set.items r.item.0) v.reads) release (oldest (filter (λ r. is_dated set.items r.item.0) w.reads)) (oldest (filter (λ r. is_dated set.items r.item.0) v.reads)) refl refl
    (λ r i. let f = filter_in (λ (k : OutsideRead). is_dated set.items k.item.0) r w.reads i in in_filter (λ (k : OutsideRead). is_dated set.items k.item.0) r v.reads (to r f.0) f.1)
    (λ r i. let f = filter_in (λ (k : OutsideRead). is_dated set.items k.item.0) r v.reads i in in_filter (λ (k : OutsideRead). is_dated set.items k.item.0) r w.reads (from r f.0) f.1))

-- the stamp is the release, or of a derived item a dated stamp that was read
pub record IsReadStamp (set : Set) (w : Work) (item stamp : ℕ) : Type 0 where
  pub derived : is_derived set.items item ≡ true
  pub read : OutsideRead
  pub here : In read w.reads
  pub dated : is_dated set.items read.item.0 ≡ true
  pub is : stamp ≡ read.stamp

stamp_at : (set : Set) (w : Work) (release item : ℕ) (b : Bool) (o : Option OutsideRead) → is_derived set.items item ≡ b → oldest (filter (λ r. is_dated set.items r.item.0) w.reads) ≡ o
    → (cond b (option_map_or (λ r. r.stamp) o release) release ≡ release) ⊎ IsReadStamp set w item (cond b (option_map_or (λ r. r.stamp) o release) release)
stamp_at set w release item false o e f = inl refl
stamp_at set w release item true None e f = inl refl
stamp_at set w release item true (Some r) e f =
    let i = filter_in (λ (k : OutsideRead). is_dated set.items k.item.0) r w.reads (oldest_is (filter (λ r. is_dated set.items r.item.0) w.reads) r f).here in
    inr (record { derived = e; read = r; here = i.0; dated = i.1; is = refl })

pub stamp_cases : (set : Set) (w : Work) (release item : ℕ) → (stamp_for set.items w release item ≡ release) ⊎ IsReadStamp set w item (stamp_for set.items w release item)
unfolding stamp_for
stamp_cases set w release item = stamp_at set w release item (is_derived set.items item) (oldest (filter (λ r. is_dated set.items r.item.0) w.reads)) refl refl
