-- No two jobs hold locks on one item of which one is a write lock: the item's ceiling is at least the priority of
-- each transaction that declares the access, and the invariant keeps the higher holder above the ceilings of the
-- lower one.
use Rattle.std.proofs.Common.{◌≡◌, ◌≢◌, ◌⊎◌, ℕ, zero, suc, ◌+◌, ◌<◌, ◌≤◌, ◌==◌, Bool, true, false, cond, ◌||◌, ℤ, List, [], ◌∷◌, length, Option, get_or, refl, ap, sym, ◌∙◌, inl, inr, arith}
use Rattle.std.proofs.lemmas.Bool.{cases_order, or_cases, or_left, or_right, and_parts, eqb-true}
use Rattle.std.specs.Prelude.{is_some}
use Rattle.std.specs.List.{find}
use Rattle.rt_base.specs.declared.ids.ItemId.{ItemId}
use Rattle.rt_base.specs.declared.ids.JobId.{JobId}
use Rattle.rt_base.specs.declared.operation.Op.{Op}
use Rattle.rt_base.specs.declared.operation.Op.TheVariants.{Read, Write}
use Rattle.txn_set.specs.Set.{Set, no_txn, txn_of, names_item, may_read, may_write}
use Rattle.txn_set.specs.Ceilings.{write_ceiling, absolute_ceiling}
use Rattle.item_model.specs.Work.{has_read, has_written, with_read, with_write, stored_of}
use Rattle.item_model.specs.declared.stored.OwnWrite.{OwnWrite}
use Rattle.item_model.specs.declared.stored.OutsideRead.{OutsideRead}
use Rattle.step_journal.specs.State.{State, Row, prio}
use Rattle.step_journal.specs.LockRule.{ceiling_of}
use Rattle.step_journal.specs.Step.{may_ask, row_after}
use Rattle.law_histories.proofs.Members.{In}
use Rattle.law_histories.proofs.Invariant.{IsPending, AreNamed, Protocol, in_range}
use Rattle.law_histories.proofs.Holding.{in_find, find_in, prio_le_write, prio_le_absolute, write_le, read_le, holds_some}

-- what a job read and wrote is declared
pub record IsDeclared (set : Set) (x : Row) : Type 0 where
  pub reads : (i : ℕ) → has_read x.work i ≡ true → may_read (txn_of set x.job.tx.0) i ≡ true
  pub writes : (i : ℕ) → has_written x.work i ≡ true → may_write (txn_of set x.job.tx.0) i ≡ true

pub in_get_or : {A : Type 0} (xs : List A) (n : ℕ) (d : A) → n < length xs → In (get_or xs n d) xs
in_get_or [] n d h = absurd (omega arith)
in_get_or (x ∷ xs) zero d h = inl refl
in_get_or (x ∷ xs) (suc n) d h = inr (in_get_or xs n d (omega arith))

-- the lower of two jobs cannot have touched what the higher one wrote, nor the other way round
lower_wrote : (set : Set) (rows : List (Option Row)) (refused : JobId → Bool) (x y : Row) (i : ℕ) → Protocol set rows refused → length rows ≤ length set.txns → IsPending rows x → IsPending rows y → prio set y < prio set x
    → IsDeclared set x → has_written y.work i ≡ true → (has_read x.work i || has_written x.work i) ≡ true → ⊥
lower_wrote set rows refused x y i inv count hx hy lt dx wy tx =
    let t : In (txn_of set x.job.tx.0) set.txns = in_get_or set.txns x.job.tx.0 no_txn (omega (arith, in_range rows _ x hx)) in
    let may : (may_read (txn_of set x.job.tx.0) i || may_write (txn_of set x.job.tx.0) i) ≡ true = elim (or_cases _ _ tx) [ inl r ↦ or_left _ _ (dx.reads i r) | inr w ↦ or_right _ _ (dx.writes i w) ] in
    let a : prio set x ≤ absolute_ceiling set i = prio_le_absolute set i (txn_of set x.job.tx.0) t may in
    let b : absolute_ceiling set i ≤ ceiling_of set y = write_le set y i wy in
    let c : ceiling_of set y < prio set x = inv.ordered x y hx hy (holds_some x.work i tx) lt in
    omega arith

lower_read : (set : Set) (rows : List (Option Row)) (refused : JobId → Bool) (x y : Row) (i : ℕ) → Protocol set rows refused → length rows ≤ length set.txns → IsPending rows x → IsPending rows y → prio set y < prio set x
    → IsDeclared set x → has_read y.work i ≡ true → has_written x.work i ≡ true → ⊥
lower_read set rows refused x y i inv count hx hy lt dx ry wx =
    let t : In (txn_of set x.job.tx.0) set.txns = in_get_or set.txns x.job.tx.0 no_txn (omega (arith, in_range rows _ x hx)) in
    let a : prio set x ≤ write_ceiling set i = prio_le_write set i (txn_of set x.job.tx.0) t (dx.writes i wx) in
    let b : write_ceiling set i ≤ ceiling_of set y = read_le set y i ry in
    let c : ceiling_of set y < prio set x = inv.ordered x y hx hy (holds_some x.work i (or_right _ _ wx)) lt in
    omega arith

pub conflict : (set : Set) (rows : List (Option Row)) (refused : JobId → Bool) (x y : Row) (i : ℕ) → AreNamed set rows → Protocol set rows refused → length rows ≤ length set.txns → IsPending rows x → IsPending rows y → x.job.tx.0 ≢ y.job.tx.0
    → IsDeclared set x → IsDeclared set y → has_written x.work i ≡ true → (has_read y.work i || has_written y.work i) ≡ true → ⊥
conflict set rows refused x y i named inv count hx hy ne dx dy wx ty =
    elim (cases_order (prio set x) (prio set y)) [
      | inl e ↦ ne (named.apart x y hx hy e)
      | inr o ↦ elim o [
        | inl lt ↦ lower_wrote set rows refused y x i inv count hy hx lt dy wx ty
        | inr gt ↦ elim (or_cases _ _ ty) [
          | inl r ↦ lower_read set rows refused x y i inv count hx hy gt dx r wx
          | inr w ↦ lower_wrote set rows refused x y i inv count hx hy gt dx w (or_right _ _ wx)
        ]
      ]
    ]

-- a granted operation touches what is declared

new_read_at : (rs : List OutsideRead) (r v : OutsideRead) (item : ItemId) (stamp : ℕ) (b : Bool) → In v (cond b (r ∷ rs) (r ∷ with_read rs item stamp)) → (In v (with_read rs item stamp) → In v rs ⊎ (v.item.0 ≡ item.0)) → ((v ≡ r) ⊎ In v rs) ⊎ (v.item.0 ≡ item.0)
new_read_at rs r v item stamp true h rest = inl h
new_read_at rs r v item stamp false (inl e) rest = inl (inl e)
new_read_at rs r v item stamp false (inr h) rest = elim (rest h) [ inl i ↦ inl (inr i) | inr e ↦ inr e ]

new_read : (rs : List OutsideRead) (v : OutsideRead) (item : ItemId) (stamp : ℕ) → In v (with_read rs item stamp) → In v rs ⊎ (v.item.0 ≡ item.0)
new_read [] v item stamp (inl e) = inr (ap (λ (r : OutsideRead). r.item.0) e)
new_read [] v item stamp (inr h) = absurd h
new_read (r ∷ rs) v item stamp h = new_read_at rs r v item stamp (r.item.0 == item.0) h (new_read rs v item stamp)

new_write_at : (ws : List OwnWrite) (w v : OwnWrite) (item : ItemId) (value : ℤ) (b : Bool) → In v (cond b (record { item = item; value = value } ∷ ws) (w ∷ with_write ws item value)) → (In v (with_write ws item value) → In v ws ⊎ (v.item.0 ≡ item.0)) → ((v ≡ w) ⊎ In v ws) ⊎ (v.item.0 ≡ item.0)
new_write_at ws w v item value true (inl e) rest = inr (ap (λ (r : OwnWrite). r.item.0) e)
new_write_at ws w v item value true (inr h) rest = inl (inr h)
new_write_at ws w v item value false (inl e) rest = inl (inl e)
new_write_at ws w v item value false (inr h) rest = elim (rest h) [ inl i ↦ inl (inr i) | inr e ↦ inr e ]

new_write : (ws : List OwnWrite) (v : OwnWrite) (item : ItemId) (value : ℤ) → In v (with_write ws item value) → In v ws ⊎ (v.item.0 ≡ item.0)
new_write [] v item value (inl e) = inr (ap (λ (r : OwnWrite). r.item.0) e)
new_write [] v item value (inr h) = absurd h
new_write (w ∷ ws) v item value h = new_write_at ws w v item value (w.item.0 == item.0) h (new_write ws v item value)

names_at : (xs : List ItemId) (i j : ℕ) → i ≡ j → names_item xs j ≡ true → names_item xs i ≡ true
names_at xs i j e h = ap (names_item xs) e ∙ h

read_declared : (set : Set) (x : Row) (item : ItemId) (stamp : ℕ) → IsDeclared set x → may_read (txn_of set x.job.tx.0) item.0 ≡ true → (i : ℕ) → is_some (find (λ (r : OutsideRead). r.item.0 == i) (with_read x.work.reads item stamp)) ≡ true → may_read (txn_of set x.job.tx.0) i ≡ true
read_declared set x item stamp d may i h =
    let r = find_in (λ (r : OutsideRead). r.item.0 == i) (with_read x.work.reads item stamp) h in
    elim (new_read x.work.reads r.0 item stamp r.1) [
      | inl old ↦ d.reads i (in_find (λ (r : OutsideRead). r.item.0 == i) r.0 x.work.reads old r.2)
      | inr e ↦ names_at _ i item.0 (sym (eqb-true _ _ r.2) ∙ e) may
    ]

write_declared : (set : Set) (x : Row) (item : ItemId) (value : ℤ) → IsDeclared set x → may_write (txn_of set x.job.tx.0) item.0 ≡ true → (i : ℕ) → is_some (find (λ (w : OwnWrite). w.item.0 == i) (with_write x.work.writes item value)) ≡ true → may_write (txn_of set x.job.tx.0) i ≡ true
write_declared set x item value d may i h =
    let r = find_in (λ (w : OwnWrite). w.item.0 == i) (with_write x.work.writes item value) h in
    elim (new_write x.work.writes r.0 item value r.1) [
      | inl old ↦ d.writes i (in_find (λ (w : OwnWrite). w.item.0 == i) r.0 x.work.writes old r.2)
      | inr e ↦ names_at _ i item.0 (sym (eqb-true _ _ r.2) ∙ e) may
    ]

read_row : (set : Set) (s : State) (x : Row) (item : ItemId) (b : Bool) → IsDeclared set x → may_read (txn_of set x.job.tx.0) item.0 ≡ true
    → IsDeclared set (record x { used = x.used + 1; work = cond b x.work (record x.work { reads = with_read x.work.reads item (stored_of s.items item.0).stamp }) })
read_row set s x item true d may = record { reads = d.reads; writes = d.writes }
read_row set s x item false d may = record { reads = λ i h. read_declared set x item (stored_of s.items item.0).stamp d may i h; writes = d.writes }

pub row_declared : (set : Set) (s : State) (x : Row) (op : Op) → IsDeclared set x → may_ask set x op ≡ true → IsDeclared set (row_after s x op)
row_declared set s x (Read item) d may = read_row set s x item (has_written x.work item.0) d (and_parts _ _ may).0
row_declared set s x (Write item value) d may = record { reads = d.reads; writes = λ i h. write_declared set x item value d (and_parts _ _ may).0 i h }
row_declared set s x other d may = record { reads = d.reads; writes = d.writes }
