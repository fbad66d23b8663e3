-- What a commit installs: a value for each sensor and derived item that its transaction declares, since it wrote them
-- all.
use Rattle.std.proofs.Common.{◌≡◌, ◌⊎◌, ℕ, zero, suc, ◌<◌, ◌==◌, Bool, true, false, not, ◌||◌, List, [], ◌∷◌, length, Option, refl, ap, sym, ◌∙◌, subst, inl, inr, arith, get_or-set_same, get_or-set_other}
use Rattle.std.proofs.lemmas.List.{length-set}
use Rattle.std.proofs.lemmas.Bool.{cases_eq, eqb-true}
use Rattle.std.specs.Prelude.{is_some, pos, slice_get}
use Rattle.std.specs.List.{fold}
use Rattle.std.specs.Option.{option_and_then}
use Rattle.rt_base.specs.declared.ids.ItemId.{ItemId}
use Rattle.item_model.specs.declared.decl.ItemDecl.{ItemDecl}
use Rattle.rt_base.specs.declared.operation.End.{End}
use Rattle.rt_base.specs.declared.operation.End.TheVariants as end
use Rattle.txn_set.specs.Set.{Set, names_item}
use Rattle.item_model.specs.Kinds.{validity_of_kind, is_dated}
use Rattle.item_model.specs.Work.{Work, stored_of, has_written, stamp_for, write_installed, items_after, is_complete}
use Rattle.item_model.specs.declared.stored.OwnWrite.{OwnWrite}
use Rattle.item_model.specs.declared.stored.Stored.{Stored}
use Rattle.law_histories.proofs.Members.{In}
use Rattle.law_histories.proofs.Holding.{find_in}
use Rattle.law_histories.proofs.Lists.{any_in, all_pass}

-- lists

some_in_range : {A B : Type 0} (f : A → Option B) (xs : List A) (n : ℕ) → is_some (option_and_then f (slice_get xs n)) ≡ true → n < length xs
some_in_range f [] n h = absurd cc
some_in_range f (x ∷ xs) zero h = omega arith
some_in_range f (x ∷ xs) (suc n) h = omega (arith, some_in_range f xs n h)

pub dated_in_range : (set : Set) (i : ℕ) → is_dated set.items i ≡ true → i < length set.items
dated_in_range set i h = some_in_range (λ (d : ItemDecl). validity_of_kind d.kind) set.items i h

-- the items after a job

pub installed_count : (set : Set) (w : Work) (release : ℕ) (ws : List OwnWrite) (items : List Stored) → length (fold (write_installed set.items w release) items ws) ≡ length items
installed_count set w release [] items = refl
installed_count set w release (v ∷ vs) items = installed_count set w release vs (write_installed set.items w release items v) ∙ length-set items v.item.0 (record { value = v.value; stamp = stamp_for set.items w release v.item.0 })

pub after_count : (set : Set) (w : Work) (release : ℕ) (e : End) (items : List Stored) → length (items_after set.items w release e items) ≡ length items
after_count set w release end.Committed items = installed_count set w release w.writes items
after_count set w release other items = refl

installed_stamp : (set : Set) (w : Work) (release : ℕ) (ws : List OwnWrite) (items : List Stored) (i : ℕ) → i < length items → ((stored_of items i).stamp ≡ stamp_for set.items w release i) ⊎ ((v : OwnWrite) × In v ws × (v.item.0 ≡ i))
    → (stored_of (fold (write_installed set.items w release) items ws) i).stamp ≡ stamp_for set.items w release i
installed_stamp set w release [] items i lt (inl h) = h
installed_stamp set w release [] items i lt (inr h) = absurd h.1
installed_stamp set w release (v ∷ vs) items i lt h =
    let new : Stored = record { value = v.value; stamp = stamp_for set.items w release v.item.0 } in
    let lt' : i < length (write_installed set.items w release items v) = omega (arith, length-set items v.item.0 (record { value = v.value; stamp = stamp_for set.items w release v.item.0 })) in
    installed_stamp set w release vs (write_installed set.items w release items v) i lt' (elim (cases_eq i v.item.0) [
      | inl same ↦ inl (subst (λ (k : ℕ). (stored_of (write_installed set.items w release items v) k).stamp ≡ stamp_for set.items w release k) (sym same)
          (ap (λ (q : Stored). q.stamp) (get_or-set_same items v.item.0 (record { value = v.value; stamp = stamp_for set.items w release v.item.0 }) (record { value = pos 0; stamp = 0 }) (subst (λ (k : ℕ). k < length items) same lt))))
      | inr ne ↦ elim h [
        | inl is ↦ inl (ap (λ (q : Stored). q.stamp) (get_or-set_other items v.item.0 i (record { value = v.value; stamp = stamp_for set.items w release v.item.0 }) (record { value = pos 0; stamp = 0 }) ne) ∙ is)
        | inr some ↦ elim some.1 [ inl e ↦ absurd (ne (sym some.2 ∙ ap (λ (q : OwnWrite). q.item.0) e)) | inr j ↦ inr (some.0, j, some.2) ]
      ]
    ])

pub written_stamp : (set : Set) (w : Work) (release : ℕ) (items : List Stored) (i : ℕ) → i < length items → has_written w i ≡ true → (stored_of (items_after set.items w release end.Committed items) i).stamp ≡ stamp_for set.items w release i
written_stamp set w release items i lt h =
    let f = find_in (λ (v : OwnWrite). v.item.0 == i) w.writes h in
    installed_stamp set w release w.writes items i lt (inr (f.0, f.1, eqb-true _ _ f.2))

-- a job that may commit has written each dated item that is its transaction's to write

complete_at : (d h : Bool) → (not d || h) ≡ true → d ≡ true → h ≡ true
complete_at true h e t = e
complete_at false h e t = absurd cc

pub complete_wrote : (set : Set) (writes : List ItemId) (w : Work) (i : ℕ) → is_complete set.items writes w ≡ true → names_item writes i ≡ true → is_dated set.items i ≡ true → has_written w i ≡ true
complete_wrote set writes w i complete named dated =
    let a = any_in (λ (k : ItemId). k.0 == i) writes named in
    let b : (not (is_dated set.items a.0.0) || has_written w a.0.0) ≡ true = all_pass (λ (k : ItemId). not (is_dated set.items k.0) || has_written w k.0) a.0 writes complete a.1 in
    let c : (not (is_dated set.items i) || has_written w i) ≡ true = subst (λ (k : ℕ). (not (is_dated set.items k) || has_written w k) ≡ true) (eqb-true _ _ a.2) b in
    complete_at (is_dated set.items i) (has_written w i) c dated
