-- What the locks of a job are, how an operation changes them, and what the lock rule's answer says: by cases over the
-- operations and over the topmost row.
use Rattle.std.proofs.Common.{◌≡◌, ◌⊎◌, ℕ, ◌<◌, ◌≤◌, ◌==◌, Bool, true, false, cond, not, ◌||◌, ℤ, List, [], ◌∷◌, ◌++◌, map, Option, None, Some, refl, ap, sym, ◌∙◌, subst, inl, inr, arith}
use Rattle.std.proofs.lemmas.Bool.{eqb-true, eq-eqb, or_cases, not-true, not_from_false, or_left, or_right, ltb-true}
use Rattle.std.specs.Prelude.{nat_lt, is_some}
use Rattle.std.specs.List.{filter, find}
use Rattle.std.specs.Option.{option_map, option_and_then}
use Rattle.rt_base.specs.declared.ids.ItemId.{ItemId}
use Rattle.txn_set.specs.declared.decl.TxnDecl.{TxnDecl}
use Rattle.rt_base.specs.declared.operation.Op.{Op}
use Rattle.rt_base.specs.declared.operation.Op.TheVariants.{Read, Write}
use Rattle.txn_set.specs.Set.{Set, may_read, may_write}
use Rattle.txn_set.specs.Ceilings.{greatest, write_ceiling, absolute_ceiling}
use Rattle.item_model.specs.Work.{Work, has_read, has_written, with_read, with_write, work_after, stored_of}
use Rattle.item_model.specs.declared.stored.OwnWrite.{OwnWrite}
use Rattle.item_model.specs.declared.stored.OutsideRead.{OutsideRead}
use Rattle.item_model.specs.declared.stored.Stored.{Stored}
use Rattle.step_journal.specs.State.{State, Row, prio}
use Rattle.step_journal.specs.LockRule.{Lock, locks, lock_ceiling, ceiling_of, system_ceiling, needs_lock, refusal, others, Above}
use Rattle.rt_base.specs.LockRule.{blocker, unless_below, topmost}
use Rattle.step_journal.specs.Step.{given, lock_refusal, row_after}
use Rattle.law_histories.proofs.Topmost.{IsTopmost, topmost_is, topmost_none}
use Rattle.law_histories.proofs.Members.{In, in_filter, filter_in, le_greatest}
use Rattle.law_histories.proofs.Invariant.{is_any}
use Rattle.law_histories.proofs.Events.{IsGranted}

-- lists

pub in_map : {A B : Type 0} (f : A → B) (x : A) (xs : List A) → In x xs → In (f x) (map f xs)
in_map f x [] h = absurd h
in_map f x (y ∷ ys) (inl e) = inl (ap f e)
in_map f x (y ∷ ys) (inr h) = inr (in_map f x ys h)

pub map_in : {A B : Type 0} (f : A → B) (y : B) (xs : List A) → In y (map f xs) → (x : A) × In x xs × (y ≡ f x)
map_in f y [] h = absurd h
map_in f y (x ∷ xs) (inl e) = (x, inl refl, e)
map_in f y (x ∷ xs) (inr h) = let r = map_in f y xs h in (r.0, inr r.1, r.2)

pub in_left : {A : Type 0} (x : A) (xs ys : List A) → In x xs → In x (xs ++ ys)
in_left x [] ys h = absurd h
in_left x (z ∷ xs) ys (inl e) = inl e
in_left x (z ∷ xs) ys (inr h) = inr (in_left x xs ys h)

pub in_right : {A : Type 0} (x : A) (xs ys : List A) → In x ys → In x (xs ++ ys)
in_right x [] ys h = h
in_right x (z ∷ xs) ys h = inr (in_right x xs ys h)

pub append_in : {A : Type 0} (x : A) (xs ys : List A) → In x (xs ++ ys) → In x xs ⊎ In x ys
append_in x [] ys h = inr h
append_in x (z ∷ xs) ys (inl e) = inl (inl e)
append_in x (z ∷ xs) ys (inr h) = elim (append_in x xs ys h) [ inl a ↦ inl (inr a) | inr b ↦ inr b ]

found_at : {A : Type 0} (p : A → Bool) (x y : A) (ys : List A) (b : Bool) → p y ≡ b → p x ≡ true → (x ≡ y) ⊎ In x ys → (In x ys → is_some (find p ys) ≡ true) → is_some (cond b (Some y) (find p ys)) ≡ true
found_at p x y ys true e t h rest = refl
found_at p x y ys false e t (inl same) rest = absurd (cc (ap p same))
found_at p x y ys false e t (inr h) rest = rest h

pub in_find : {A : Type 0} (p : A → Bool) (x : A) (xs : List A) → In x xs → p x ≡ true → is_some (find p xs) ≡ true
in_find p x [] h t = absurd h
in_find p x (y ∷ ys) h t = found_at p x y ys (p y) refl t h (λ r. in_find p x ys r t)

find_at : {A : Type 0} (p : A → Bool) (y : A) (ys : List A) (b : Bool) → p y ≡ b → (is_some (find p ys) ≡ true → (x : A) × In x ys × (p x ≡ true)) → is_some (cond b (Some y) (find p ys)) ≡ true → (x : A) × ((x ≡ y) ⊎ In x ys) × (p x ≡ true)
find_at p y ys true e rest h = (y, inl refl, e)
find_at p y ys false e rest h = let r = rest h in (r.0, inr r.1, r.2)

pub find_in : {A : Type 0} (p : A → Bool) (xs : List A) → is_some (find p xs) ≡ true → (x : A) × In x xs × (p x ≡ true)
find_in p [] h = absurd cc
find_in p (y ∷ ys) h = find_at p y ys (p y) refl (find_in p ys) h

pub greatest_least : {A : Type 0} (f : A → ℕ) (xs : List A) (c : ℕ) → ((x : A) → In x xs → f x ≤ c) → greatest (map f xs) ≤ c
greatest_least f [] c h = omega arith
greatest_least f (y ∷ ys) c h = let a : f y ≤ c = h y (inl refl) in let b : greatest (map f ys) ≤ c = greatest_least f ys c (λ x i. h x (inr i)) in omega arith

any_in : (l : Lock) (ls : List Lock) → In l ls → is_any ls ≡ true
any_in l [] h = absurd h
any_in l (k ∷ ks) h = refl

-- the locks of a job's work

abbrev write_lock : ℕ → Lock
write_lock i = record { item = i; is_write = true }

abbrev read_lock : ℕ → Lock
read_lock i = record { item = i; is_write = false }

pub write_held : (work : Work) (i : ℕ) → has_written work i ≡ true → In (write_lock i) (locks work)
write_held work i h =
    let w = find_in (λ (w : OwnWrite). w.item.0 == i) work.writes h in
    let e : w.0.item.0 ≡ i = eqb-true _ _ w.2 in
    in_left _ _ _ (subst (λ (n : ℕ). In (write_lock n) (map (λ v. write_lock v.item.0) work.writes)) e (in_map (λ (v : OwnWrite). write_lock v.item.0) w.0 work.writes w.1))

pub read_held : (work : Work) (i : ℕ) → has_read work i ≡ true → has_written work i ≡ false → In (read_lock i) (locks work)
read_held work i h n =
    let r = find_in (λ (r : OutsideRead). r.item.0 == i) work.reads h in
    let e : r.0.item.0 ≡ i = eqb-true _ _ r.2 in
    let free : not (has_written work r.0.item.0) ≡ true = not_from_false _ (ap (λ (k : ℕ). has_written work k) e ∙ n) in
    in_right _ (map (λ v. write_lock v.item.0) work.writes) _
    (subst (λ (n : ℕ). In (read_lock n) (map (λ q. read_lock q.item.0) (filter (λ q. not (has_written work q.item.0)) work.reads))) e
    (in_map (λ (q : OutsideRead). read_lock q.item.0) r.0 _ (in_filter (λ (q : OutsideRead). not (has_written work q.item.0)) r.0 work.reads r.1 free)))

-- a lock is on an item that was written, or on one that was read and not written
pub locks_tell : (work : Work) (l : Lock) → In l (locks work) → ((l ≡ write_lock l.item) × (has_written work l.item ≡ true)) ⊎ ((l ≡ read_lock l.item) × (has_read work l.item ≡ true) × (has_written work l.item ≡ false))
locks_tell work l h =
    elim (append_in l (map (λ v. write_lock v.item.0) work.writes) (map (λ q. read_lock q.item.0) (filter (λ q. not (has_written work q.item.0)) work.reads)) h) [
      | inl a ↦ (let w = map_in (λ (v : OwnWrite). write_lock v.item.0) l work.writes a in
          let i : l.item ≡ w.0.item.0 = ap (λ (k : Lock). k.item) w.2 in
          inl (w.2 ∙ ap write_lock (sym i), in_find (λ (v : OwnWrite). v.item.0 == l.item) w.0 work.writes w.1 (eq-eqb _ _ (sym i))))
      | inr b ↦ (let r = map_in (λ (q : OutsideRead). read_lock q.item.0) l (filter (λ q. not (has_written work q.item.0)) work.reads) b in
          let f = filter_in (λ (q : OutsideRead). not (has_written work q.item.0)) r.0 work.reads r.1 in
          let i : l.item ≡ r.0.item.0 = ap (λ (k : Lock). k.item) r.2 in
          inr (r.2 ∙ ap read_lock (sym i), in_find (λ (q : OutsideRead). q.item.0 == l.item) r.0 work.reads f.0 (eq-eqb _ _ (sym i)), ap (λ (k : ℕ). has_written work k) i ∙ not-true _ f.1))
    ]

-- what an operation keeps

write_kept_at : (ws : List OwnWrite) (w v : OwnWrite) (item : ItemId) (value : ℤ) (i : ℕ) (b : Bool) → (w.item.0 == item.0) ≡ b → ((v ≡ w) ⊎ In v ws) → v.item.0 ≡ i → (In v ws → (u : OwnWrite) × In u (with_write ws item value) × (u.item.0 ≡ i))
    → (u : OwnWrite) × In u (cond b (record { item = item; value = value } ∷ ws) (w ∷ with_write ws item value)) × (u.item.0 ≡ i)
write_kept_at ws w v item value i true e (inl same) at rest = (record { item = item; value = value }, inl refl, sym (eqb-true _ _ e) ∙ (ap (λ (u : OwnWrite). u.item.0) (sym same) ∙ at))
write_kept_at ws w v item value i true e (inr h) at rest = (v, inr h, at)
write_kept_at ws w v item value i false e (inl same) at rest = (v, inl same, at)
write_kept_at ws w v item value i false e (inr h) at rest = let r = rest h in (r.0, inr r.1, r.2)

write_kept : (ws : List OwnWrite) (v : OwnWrite) (item : ItemId) (value : ℤ) (i : ℕ) → In v ws → v.item.0 ≡ i → (u : OwnWrite) × In u (with_write ws item value) × (u.item.0 ≡ i)
write_kept [] v item value i h at = absurd h
write_kept (w ∷ ws) v item value i h at = write_kept_at ws w v item value i (w.item.0 == item.0) refl h at (λ r. write_kept ws v item value i r at)

written_kept : (ws : List OwnWrite) (item : ItemId) (value : ℤ) (i : ℕ) → is_some (find (λ (w : OwnWrite). w.item.0 == i) ws) ≡ true → is_some (find (λ (w : OwnWrite). w.item.0 == i) (with_write ws item value)) ≡ true
written_kept ws item value i h =
    let w = find_in (λ (w : OwnWrite). w.item.0 == i) ws h in
    let u = write_kept ws w.0 item value i w.1 (eqb-true _ _ w.2) in
    in_find (λ (w : OwnWrite). w.item.0 == i) u.0 (with_write ws item value) u.1 (eq-eqb _ _ u.2)

read_kept_at : (rs : List OutsideRead) (r v : OutsideRead) (item : ItemId) (stamp : ℕ) (b : Bool) → ((v ≡ r) ⊎ In v rs) → (In v rs → In v (with_read rs item stamp)) → In v (cond b (r ∷ rs) (r ∷ with_read rs item stamp))
read_kept_at rs r v item stamp true h rest = h
read_kept_at rs r v item stamp false (inl e) rest = inl e
read_kept_at rs r v item stamp false (inr h) rest = inr (rest h)

read_kept : (rs : List OutsideRead) (v : OutsideRead) (item : ItemId) (stamp : ℕ) → In v rs → In v (with_read rs item stamp)
read_kept [] v item stamp h = absurd h
read_kept (r ∷ rs) v item stamp h = read_kept_at rs r v item stamp (r.item.0 == item.0) h (read_kept rs v item stamp)

reads_kept : (rs : List OutsideRead) (item : ItemId) (stamp i : ℕ) → is_some (find (λ (r : OutsideRead). r.item.0 == i) rs) ≡ true → is_some (find (λ (r : OutsideRead). r.item.0 == i) (with_read rs item stamp)) ≡ true
reads_kept rs item stamp i h =
    let r = find_in (λ (r : OutsideRead). r.item.0 == i) rs h in
    in_find (λ (r : OutsideRead). r.item.0 == i) r.0 (with_read rs item stamp) (read_kept rs r.0 item stamp r.1) r.2

-- what was read or written stays so
pub record Grows (old new : Work) : Type 0 where
  pub reads : (i : ℕ) → has_read old i ≡ true → has_read new i ≡ true
  pub writes : (i : ℕ) → has_written old i ≡ true → has_written new i ≡ true

read_grows : (items : List Stored) (work : Work) (item : ItemId) (b : Bool) → Grows work (cond b work (record work { reads = with_read work.reads item (stored_of items item.0).stamp }))
read_grows items work item true = record { reads = λ i h. h; writes = λ i h. h }
read_grows items work item false = record { reads = λ i h. reads_kept work.reads item (stored_of items item.0).stamp i h; writes = λ i h. h }

pub work_grows : (items : List Stored) (work : Work) (op : Op) → Grows work (work_after items work op)
work_grows items work (Read item) = read_grows items work item (has_written work item.0)
work_grows items work (Write item value) = record { reads = λ i h. h; writes = λ i h. written_kept work.writes item value i h }
work_grows items work other = record { reads = λ i h. h; writes = λ i h. h }

-- ceilings

pub prio_le_write : (set : Set) (item : ℕ) (t : TxnDecl) → In t set.txns → may_write t item ≡ true → t.prio ≤ write_ceiling set item
unfolding write_ceiling
prio_le_write set item t h w = le_greatest (λ (u : TxnDecl). u.prio) t (filter (λ u. may_write u item) set.txns) (in_filter (λ (u : TxnDecl). may_write u item) t set.txns h w)

pub prio_le_absolute : (set : Set) (item : ℕ) (t : TxnDecl) → In t set.txns → (may_read t item || may_write t item) ≡ true → t.prio ≤ absolute_ceiling set item
unfolding absolute_ceiling
prio_le_absolute set item t h w = le_greatest (λ (u : TxnDecl). u.prio) t (filter (λ u. may_read u item || may_write u item) set.txns) (in_filter (λ (u : TxnDecl). may_read u item || may_write u item) t set.txns h w)

pub write_le_absolute : (set : Set) (item : ℕ) → write_ceiling set item ≤ absolute_ceiling set item
unfolding write_ceiling
write_le_absolute set item =
    greatest_least (λ (t : TxnDecl). t.prio) (filter (λ t. may_write t item) set.txns) (absolute_ceiling set item)
    (λ t h. let f = filter_in (λ (u : TxnDecl). may_write u item) t set.txns h in prio_le_absolute set item t f.0 (or_right _ _ f.1))

pub lock_le : (set : Set) (row : Row) (l : Lock) → In l (locks row.work) → lock_ceiling set l ≤ ceiling_of set row
unfolding ceiling_of
lock_le set row l h = le_greatest (lock_ceiling set) l (locks row.work) h

pub write_le : (set : Set) (row : Row) (i : ℕ) → has_written row.work i ≡ true → absolute_ceiling set i ≤ ceiling_of set row
write_le set row i h = lock_le set row (write_lock i) (write_held row.work i h)

read_le_at : (set : Set) (row : Row) (i : ℕ) (b : Bool) → has_written row.work i ≡ b → has_read row.work i ≡ true → write_ceiling set i ≤ ceiling_of set row
read_le_at set row i true e h = omega (arith, write_le set row i e, write_le_absolute set i)
read_le_at set row i false e h = lock_le set row (read_lock i) (read_held row.work i h e)

pub read_le : (set : Set) (row : Row) (i : ℕ) → has_read row.work i ≡ true → write_ceiling set i ≤ ceiling_of set row
read_le set row i h = read_le_at set row i (has_written row.work i) refl h

pub ceiling_grows : (set : Set) (x x' : Row) → Grows x.work x'.work → ceiling_of set x ≤ ceiling_of set x'
unfolding ceiling_of
ceiling_grows set x x' g =
    greatest_least (lock_ceiling set) (locks x.work) (ceiling_of set x') (λ l h.
    elim (locks_tell x.work l h) [
      | inl w ↦ (let e : lock_ceiling set l ≡ absolute_ceiling set l.item = ap (lock_ceiling set) w.0 in omega (arith, e, write_le set x' l.item (g.writes l.item w.1)))
      | inr r ↦ (let e : lock_ceiling set l ≡ write_ceiling set l.item = ap (lock_ceiling set) r.0 in omega (arith, e, read_le set x' l.item (g.reads l.item r.1)))
    ])

-- an operation that needs no new lock leaves a holder a holder, and one that holds none

holds_read : (work : Work) (i : ℕ) (b : Bool) → has_written work i ≡ b → has_read work i ≡ true → is_any (locks work) ≡ true
holds_read work i true e h = any_in _ _ (write_held work i e)
holds_read work i false e h = any_in _ _ (read_held work i h e)

pub holds_some : (work : Work) (i : ℕ) → (has_read work i || has_written work i) ≡ true → is_any (locks work) ≡ true
holds_some work i h = elim (or_cases _ _ h) [ inl r ↦ holds_read work i (has_written work i) refl r | inr w ↦ any_in _ _ (write_held work i w) ]

not_false : (b : Bool) → not b ≡ false → b ≡ true
not_false true h = refl
not_false false h = absurd cc

grown_some : (old new : Work) (i : ℕ) → Grows old new → (has_read old i || has_written old i) ≡ true → is_any (locks new) ≡ is_any (locks old)
grown_some old new i g h =
    let a : is_any (locks old) ≡ true = holds_some old i h in
    let n : (has_read new i || has_written new i) ≡ true = elim (or_cases _ _ h) [ inl r ↦ or_left _ _ (g.reads i r) | inr w ↦ or_right _ _ (g.writes i w) ] in
    holds_some new i n ∙ sym a

pub no_new_lock : (items : List Stored) (work : Work) (op : Op) → needs_lock work op ≡ false → is_any (locks (work_after items work op)) ≡ is_any (locks work)
no_new_lock items work (Read item) h = grown_some work (work_after items work (Read item)) item.0 (work_grows items work (Read item)) (not_false _ h)
no_new_lock items work (Write item value) h = grown_some work (work_after items work (Write item value)) item.0 (work_grows items work (Write item value)) (or_right _ _ (not_false _ h))
no_new_lock items work other h = refl

-- what a grant tells

granted_by : (set : Set) (rs : List Row) (p : ℕ) (b : Row) (t : Bool) → IsTopmost (ceiling_of set) rs b → nat_lt (ceiling_of set b) p ≡ t
    → option_map {U = Above} (λ (r : Row). record { holder = r.job; ceiling = ceiling_of set r }) (cond t None (Some b)) ≡ None → greatest (map (ceiling_of set) rs) < p
granted_by set rs p b true top e h = omega (arith, ltb-true _ _ e, greatest_least (ceiling_of set) rs (ceiling_of set b) top.above)
granted_by set rs p b false top e h = absurd cc

granted_at : (set : Set) (rs : List Row) (p : ℕ) (o : Option Row) → 0 < p → topmost (prio set) (ceiling_of set) rs ≡ o
    → option_map {U = Above} (λ (r : Row). record { holder = r.job; ceiling = ceiling_of set r }) (unless_below (ceiling_of set) p o) ≡ None → greatest (map (ceiling_of set) rs) < p
granted_at set rs p None pos is h = let e : greatest (map (ceiling_of set) rs) ≡ 0 = ap (λ (l : List Row). greatest (map (ceiling_of set) l)) (topmost_none (prio set) (ceiling_of set) rs is) in omega (arith, e)
granted_at set rs p (Some b) pos is h = granted_by set rs p b (nat_lt (ceiling_of set b) p) (topmost_is (prio set) (ceiling_of set) rs b is) refl h

pub refusal_none : (set : Set) (rows : List (Option Row)) (x : Row) → 0 < prio set x → refusal set rows x ≡ None → system_ceiling set rows x < prio set x
unfolding refusal blocker system_ceiling
refusal_none set rows x pos h = granted_at set (others rows x) (prio set x) (topmost (prio set) (ceiling_of set) (others rows x)) pos refl h

rule_at : (set : Set) (s : State) (x : Row) (op : Op) (b : Bool) → 0 < prio set x → needs_lock x.work op ≡ b → option_and_then (λ r. refusal set s.rows r) (given b x) ≡ None
    → (is_any (locks (row_after s x op).work) ≡ is_any (locks x.work)) ⊎ (system_ceiling set s.rows x < prio set x)
rule_at set s x op true pos e h = inr (refusal_none set s.rows x pos h)
rule_at set s x op false pos e h = inl (no_new_lock s.items x.work op e)

-- a granted step meets what the invariant asks
pub step_is_granted : (set : Set) (s : State) (x : Row) (op : Op) → 0 < prio set x → x.waits_on ≡ None → lock_refusal set s x op ≡ None → IsGranted set s.rows x (row_after s x op)
step_is_granted set s x op pos runs h = record {
  job = refl;
  runs = runs;
  keeps = ceiling_grows set x (row_after s x op) (work_grows s.items x.work op);
  rule = rule_at set s x op (needs_lock x.work op) pos refl h;
}
