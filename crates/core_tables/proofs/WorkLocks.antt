-- The locks that a job's work stands for, after an operation.
use Rattle.std.proofs.Common.{◌≡◌, ◌⊎◌, ℕ, ◌<◌, ◌==◌, Bool, true, false, cond, ◌&&◌, ◌||◌, ℤ, List, [], ◌∷◌, None, Some, refl, ap, sym, ◌∙◌, inl, inr, arith}
use Rattle.std.proofs.lemmas.Bool.{cases_eq, eq-eqb, ne_eqb, eqb-true, or_cases, or_left, or_right}
use Rattle.std.specs.Prelude.{is_some}
use Rattle.std.specs.List.{find}
use Rattle.rt_base.specs.declared.ids.ItemId.{ItemId}
use Rattle.rt_base.specs.declared.operation.Op.{Op}
use Rattle.rt_base.specs.declared.operation.Op.TheVariants.{Read, Write, Compute, Commit, Quit}
use Rattle.ceiling_table.specs.declared.LockKind.{LockKind}
use Rattle.ceiling_table.specs.declared.LockKind.TheVariants as kind
use Rattle.ceiling_table.specs.Held.{Locks, lock_at, with_read as and_read, HasItem}
use Rattle.item_model.specs.declared.stored.Stored.{Stored}
use Rattle.item_model.specs.declared.stored.OutsideRead.{OutsideRead}
use Rattle.item_model.specs.declared.stored.OwnWrite.{OwnWrite}
use Rattle.item_model.specs.Work.{Work, has_read, has_written, with_read, with_write, work_after, stored_of}
use Rattle.core_tables.specs.PendingTables.{work_lock, op_locked_at}

eqb_sym : (m n : ℕ) → (m == n) ≡ (n == m)
eqb_sym m n = elim (cases_eq m n) [ inl e ↦ eq-eqb m n e ∙ sym (eq-eqb n m (sym e)) | inr ne ↦ ne_eqb m n ne ∙ sym (ne_eqb n m (λ q. ne (sym q))) ]

-- what is found with one more read, and with one more write

read_found_at : (rs : List OutsideRead) (r : OutsideRead) (item : ItemId) (stamp i : ℕ) (b : Bool) → (r.item.0 == item.0) ≡ b
    → is_some (find (λ (q : OutsideRead). q.item.0 == i) (with_read rs item stamp)) ≡ ((item.0 == i) || is_some (find (λ (q : OutsideRead). q.item.0 == i) rs))
    → is_some (find (λ (q : OutsideRead). q.item.0 == i) (cond b (r ∷ rs) (r ∷ with_read rs item stamp))) ≡ ((item.0 == i) || is_some (find (λ (q : OutsideRead). q.item.0 == i) (r ∷ rs)))
read_found_at rs r item stamp i true e rest = at (item.0 == i) refl where
  at : (c : Bool) → (item.0 == i) ≡ c → is_some (find (λ (q : OutsideRead). q.item.0 == i) (r ∷ rs)) ≡ (c || is_some (find (λ (q : OutsideRead). q.item.0 == i) (r ∷ rs)))
  at false f = refl
  at true f =
      let t : (r.item.0 == i) ≡ true = eq-eqb _ _ (eqb-true _ _ e ∙ eqb-true _ _ f) in
      ap (λ (b : Bool). is_some (cond b (Some r) (find (λ (q : OutsideRead). q.item.0 == i) rs))) t
read_found_at rs r item stamp i false e rest = at (r.item.0 == i) where
  at : (c : Bool) → is_some (cond c (Some r) (find (λ (q : OutsideRead). q.item.0 == i) (with_read rs item stamp))) ≡ ((item.0 == i) || is_some (cond c (Some r) (find (λ (q : OutsideRead). q.item.0 == i) rs)))
  at true = or_true (item.0 == i) where
    or_true : (b : Bool) → true ≡ (b || true)
    or_true true = refl
    or_true false = refl
  at false = rest

read_found : (rs : List OutsideRead) (item : ItemId) (stamp i : ℕ) → is_some (find (λ (q : OutsideRead). q.item.0 == i) (with_read rs item stamp)) ≡ ((item.0 == i) || is_some (find (λ (q : OutsideRead). q.item.0 == i) rs))
read_found [] item stamp i = at (item.0 == i) where
  at : (b : Bool) → is_some {T = OutsideRead} (cond b (Some (record { item = item; stamp = stamp })) None) ≡ (b || false)
  at true = refl
  at false = refl
read_found (r ∷ rs) item stamp i = read_found_at rs r item stamp i (r.item.0 == item.0) refl (read_found rs item stamp i)

write_found_at : (ws : List OwnWrite) (w : OwnWrite) (item : ItemId) (value : ℤ) (i : ℕ) (b : Bool) → (w.item.0 == item.0) ≡ b
    → is_some (find (λ (q : OwnWrite). q.item.0 == i) (with_write ws item value)) ≡ ((item.0 == i) || is_some (find (λ (q : OwnWrite). q.item.0 == i) ws))
    → is_some (find (λ (q : OwnWrite). q.item.0 == i) (cond b (record { item = item; value = value } ∷ ws) (w ∷ with_write ws item value))) ≡ ((item.0 == i) || is_some (find (λ (q : OwnWrite). q.item.0 == i) (w ∷ ws)))
write_found_at ws w item value i true e rest =
    let same : (w.item.0 == i) ≡ (item.0 == i) = ap (λ (n : ℕ). n == i) (eqb-true _ _ e) in
    at (item.0 == i) ∙ ap (λ (c : Bool). (item.0 == i) || is_some (cond c (Some w) (find (λ (q : OwnWrite). q.item.0 == i) ws))) (sym same) where
      at : (c : Bool) → is_some (cond c (Some (record { item = item; value = value })) (find (λ (q : OwnWrite). q.item.0 == i) ws)) ≡ (c || is_some (cond c (Some w) (find (λ (q : OwnWrite). q.item.0 == i) ws)))
      at true = refl
      at false = refl
write_found_at ws w item value i false e rest = at (w.item.0 == i) where
  at : (c : Bool) → is_some (cond c (Some w) (find (λ (q : OwnWrite). q.item.0 == i) (with_write ws item value))) ≡ ((item.0 == i) || is_some (cond c (Some w) (find (λ (q : OwnWrite). q.item.0 == i) ws)))
  at true = or_true (item.0 == i) where
    or_true : (b : Bool) → true ≡ (b || true)
    or_true true = refl
    or_true false = refl
  at false = rest

write_found : (ws : List OwnWrite) (item : ItemId) (value : ℤ) (i : ℕ) → is_some (find (λ (q : OwnWrite). q.item.0 == i) (with_write ws item value)) ≡ ((item.0 == i) || is_some (find (λ (q : OwnWrite). q.item.0 == i) ws))
write_found [] item value i = at (item.0 == i) where
  at : (b : Bool) → is_some {T = OwnWrite} (cond b (Some (record { item = item; value = value })) None) ≡ (b || false)
  at true = refl
  at false = refl
write_found (w ∷ ws) item value i = write_found_at ws w item value i (w.item.0 == item.0) refl (write_found ws item value i)

-- the lock on an item after an operation of a lock before

abbrev pub lock_by : Bool → Bool → LockKind
lock_by w r = cond w kind.Write (cond r kind.Read kind.Free)

abbrev pub op_lock : Op → ℕ → LockKind → LockKind
op_lock (Read item) i k = cond (i == item.0) (and_read k) k
op_lock (Write item value) i k = cond (i == item.0) kind.Write k
op_lock other i k = k

read_more : (w r e : Bool) → lock_by w (e || r) ≡ cond e (and_read (lock_by w r)) (lock_by w r)
read_more true true true = refl
read_more true true false = refl
read_more true false true = refl
read_more true false false = refl
read_more false true true = refl
read_more false true false = refl
read_more false false true = refl
read_more false false false = refl

write_more : (w r e : Bool) → lock_by (e || w) r ≡ cond e kind.Write (lock_by w r)
write_more w r true = refl
write_more w r false = refl

read_lock : (items : List Stored) (work : Work) (item : ItemId) (i : ℕ) (b : Bool) → has_written work item.0 ≡ b
    → work_lock (cond b work (record work { reads = with_read work.reads item (stored_of items item.0).stamp })) i ≡ cond (i == item.0) (and_read (work_lock work i)) (work_lock work i)
read_lock items work item i true e = at (i == item.0) refl where
  at : (c : Bool) → (i == item.0) ≡ c → work_lock work i ≡ cond c (and_read (work_lock work i)) (work_lock work i)
  at false f = refl
  at true f =
      let w : has_written work i ≡ true = ap (has_written work) (eqb-true _ _ f) ∙ e in
      let l : work_lock work i ≡ kind.Write = ap (λ (b : Bool). lock_by b (has_read work i)) w in
      l ∙ sym (ap and_read l)
read_lock items work item i false e =
    ap (lock_by (has_written work i)) (read_found work.reads item (stored_of items item.0).stamp i ∙ ap (λ (b : Bool). b || has_read work i) (eqb_sym item.0 i))
    ∙ read_more (has_written work i) (has_read work i) (i == item.0)

pub lock_after : (items : List Stored) (work : Work) (op : Op) (i : ℕ) → work_lock (work_after items work op) i ≡ op_lock op i (work_lock work i)
lock_after items work (Read item) i = read_lock items work item i (has_written work item.0) refl
lock_after items work (Write item value) i =
    ap (λ (w : Bool). lock_by w (has_read work i)) (write_found work.writes item value i ∙ ap (λ (b : Bool). b || has_written work i) (eqb_sym item.0 i))
    ∙ write_more (has_written work i) (has_read work i) (i == item.0)
lock_after items work other i = refl

-- the table's change is that one, at the transaction
pub locked_here : (held : Locks) (tx : ℕ) (op : Op) (i : ℕ) → op_locked_at held tx op tx i ≡ op_lock op i (lock_at held tx i)
locked_here held tx (Read item) i = ap (λ (t : Bool). cond (t && (i == item.0)) (and_read (lock_at held tx i)) (lock_at held tx i)) (eq-eqb tx tx refl)
locked_here held tx (Write item value) i = ap (λ (t : Bool). cond (t && (i == item.0)) kind.Write (lock_at held tx i)) (eq-eqb tx tx refl)
locked_here held tx other i = refl

pub locked_there : (held : Locks) (tx : ℕ) (op : Op) (k i : ℕ) → (k == tx) ≡ false → op_locked_at held tx op k i ≡ lock_at held k i
locked_there held tx (Read item) k i e = ap (λ (t : Bool). cond (t && (i == item.0)) (and_read (lock_at held k i)) (lock_at held k i)) e
locked_there held tx (Write item value) k i e = ap (λ (t : Bool). cond (t && (i == item.0)) kind.Write (lock_at held k i)) e
locked_there held tx other k i e = refl

-- what was touched after an operation was touched before, or is its item

abbrev pub IsItemOf : Op → ℕ → Type 0
IsItemOf (Read item) i = item.0 ≡ i
IsItemOf (Write item value) i = item.0 ≡ i
IsItemOf Compute i = ⊥
IsItemOf Commit i = ⊥
IsItemOf Quit i = ⊥

read_touched : (items : List Stored) (work : Work) (item : ItemId) (i : ℕ) (b : Bool)
    → (has_read (cond b work (record work { reads = with_read work.reads item (stored_of items item.0).stamp })) i || has_written (cond b work (record work { reads = with_read work.reads item (stored_of items item.0).stamp })) i) ≡ true
    → ((has_read work i || has_written work i) ≡ true) ⊎ (item.0 ≡ i)
read_touched items work item i true h = inl h
read_touched items work item i false h =
    elim (or_cases _ _ h) [
      | inl r ↦ elim (or_cases _ _ (sym (read_found work.reads item (stored_of items item.0).stamp i) ∙ r)) [ inl e ↦ inr (eqb-true _ _ e) | inr old ↦ inl (or_left _ _ old) ]
      | inr w ↦ inl (or_right _ _ w)
    ]

pub touched_after : (items : List Stored) (work : Work) (op : Op) (i : ℕ) → (has_read (work_after items work op) i || has_written (work_after items work op) i) ≡ true → ((has_read work i || has_written work i) ≡ true) ⊎ IsItemOf op i
touched_after items work (Read item) i h = read_touched items work item i (has_written work item.0) h
touched_after items work (Write item value) i h =
    elim (or_cases (has_read work i) (is_some (find (λ (q : OwnWrite). q.item.0 == i) (with_write work.writes item value))) h) [
      | inl r ↦ inl (or_left (has_read work i) (has_written work i) r)
      | inr w ↦ elim (or_cases (item.0 == i) (has_written work i) (sym (write_found work.writes item value i) ∙ w)) [ inl e ↦ inr (eqb-true _ _ e) | inr old ↦ inl (or_right (has_read work i) (has_written work i) old) ]
    ]
touched_after items work other i h = inl h

pub item_low : (count : ℕ) (op : Op) (i : ℕ) → HasItem count op → IsItemOf op i → i < count
item_low count (Read item) i h e = omega (arith, h, e)
item_low count (Write item value) i h e = omega (arith, h, e)
item_low count other i h e = absurd e
