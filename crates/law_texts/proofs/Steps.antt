-- Which locks a job has by its steps, and which by its work: the same.
use Rattle.std.proofs.Common.{◌≡◌, ◌⊎◌, ℕ, ◌==◌, Bool, true, false, cond, ℤ, List, [], ◌∷◌, Option, None, Some, refl, ap, sym, ◌∙◌, subst, inl, inr}
use Rattle.std.proofs.lemmas.Bool.{eqb-true, eq-eqb, and_from}
use Rattle.std.specs.Prelude.{is_some}
use Rattle.std.specs.List.{cons_option}
use Rattle.rt_base.specs.declared.ids.ItemId.{ItemId}
use Rattle.rt_base.specs.declared.ids.JobId.{JobId}
use Rattle.rt_base.specs.declared.operation.Op.{Op}
use Rattle.rt_base.specs.declared.operation.Op.TheVariants.{Read, Write, Compute, Commit, Quit}
use Rattle.rt_base.specs.declared.operation.Outcome.{Outcome}
use Rattle.item_model.specs.Work.{Work, stored_of, has_read, has_written, write_of, with_read, with_write, got, outcome_of, work_after}
use Rattle.item_model.specs.declared.stored.Stored.{Stored}
use Rattle.item_model.specs.declared.stored.OwnWrite.{OwnWrite}
use Rattle.item_model.specs.declared.stored.OutsideRead.{OutsideRead}
use Rattle.step_journal.specs.State.{same_job}
use Rattle.step_journal.specs.declared.entry.Entry.{Entry}
use Rattle.step_journal.specs.declared.entry.Entry.TheVariants.{Planned, Step, Blocked, Idle}
use Rattle.step_journal.specs.Serial.{ops_of, outcomes_of, work_alone, outcomes_alone}
use Rattle.law_histories.proofs.Members.{In}
use Rattle.law_histories.proofs.Holding.{in_find, find_in, work_grows}
use Rattle.schedule_marks.specs.Marks.{lock_by}

-- whether an item is among the writes, or among the outside reads
abbrev pub noted : Work → ℕ → Bool → Bool
noted work item true = has_written work item
noted work item false = has_read work item

-- a granted operation takes this lock
pub record Takes (op : Op) (outcome : Outcome) (item : ℕ) (is_write : Bool) : Type 0 where
  pub lock : ItemId × Bool
  pub by : lock_by op outcome ≡ Some lock
  pub item_is : lock.0.0 ≡ item
  pub write_is : lock.1 ≡ is_write

-- an entry is a step of the job that takes this lock
abbrev pub IsTaking : JobId → ℕ → Bool → Entry → Type 0
IsTaking job item is_write (Planned tx tick) = ⊥
IsTaking job item is_write (Step by op outcome over tick) = (by ≡ job) × Takes op outcome item is_write
IsTaking job item is_write (Blocked by op on ceiling tick) = ⊥
IsTaking job item is_write (Idle from to) = ⊥

-- ---- lists of reads and of writes

read_there : (rs : List OutsideRead) (item : ItemId) (stamp : ℕ) → (u : OutsideRead) × In u (with_read rs item stamp) × (u.item.0 ≡ item.0)
read_there [] item stamp = (record { item = item; stamp = stamp }, inl refl, refl)
read_there (r ∷ rs) item stamp = at (read_there rs item stamp) (r.item.0 == item.0) refl where
  at : (u : OutsideRead) × In u (with_read rs item stamp) × (u.item.0 ≡ item.0) → (b : Bool) → (r.item.0 == item.0) ≡ b → (u : OutsideRead) × In u (cond b (r ∷ rs) (r ∷ with_read rs item stamp)) × (u.item.0 ≡ item.0)
  at u true e = (r, inl refl, eqb-true _ _ e)
  at u false e = (u.0, inr u.1, u.2)

read_from : (rs : List OutsideRead) (item : ItemId) (stamp : ℕ) (u : OutsideRead) → In u (with_read rs item stamp) → In u rs ⊎ (u.item.0 ≡ item.0)
read_from [] item stamp u (inl e) = inr (ap (λ (q : OutsideRead). q.item.0) e)
read_from [] item stamp u (inr h) = absurd h
read_from (r ∷ rs) item stamp u h = at (read_from rs item stamp u) (r.item.0 == item.0) h where
  at : (In u (with_read rs item stamp) → In u rs ⊎ (u.item.0 ≡ item.0)) → (b : Bool) → In u (cond b (r ∷ rs) (r ∷ with_read rs item stamp)) → In u (r ∷ rs) ⊎ (u.item.0 ≡ item.0)
  at rest true i = inl i
  at rest false (inl e) = inl (inl e)
  at rest false (inr i) = elim (rest i) [ inl old ↦ inl (inr old) | inr new ↦ inr new ]

write_there : (ws : List OwnWrite) (item : ItemId) (value : ℤ) → (u : OwnWrite) × In u (with_write ws item value) × (u.item.0 ≡ item.0)
write_there [] item value = (record { item = item; value = value }, inl refl, refl)
write_there (w ∷ ws) item value = at (write_there ws item value) (w.item.0 == item.0) where
  at : (u : OwnWrite) × In u (with_write ws item value) × (u.item.0 ≡ item.0) → (b : Bool) → (u : OwnWrite) × In u (cond b (record { item = item; value = value } ∷ ws) (w ∷ with_write ws item value)) × (u.item.0 ≡ item.0)
  at u true = (record { item = item; value = value }, inl refl, refl)
  at u false = (u.0, inr u.1, u.2)

write_from : (ws : List OwnWrite) (item : ItemId) (value : ℤ) (u : OwnWrite) → In u (with_write ws item value) → In u ws ⊎ (u.item.0 ≡ item.0)
write_from [] item value u (inl e) = inr (ap (λ (q : OwnWrite). q.item.0) e)
write_from [] item value u (inr h) = absurd h
write_from (w ∷ ws) item value u h = at (write_from ws item value u) (w.item.0 == item.0) h where
  at : (In u (with_write ws item value) → In u ws ⊎ (u.item.0 ≡ item.0)) → (b : Bool) → In u (cond b (record { item = item; value = value } ∷ ws) (w ∷ with_write ws item value)) → In u (w ∷ ws) ⊎ (u.item.0 ≡ item.0)
  at rest true (inl e) = inr (ap (λ (q : OwnWrite). q.item.0) e)
  at rest true (inr i) = inl (inr i)
  at rest false (inl e) = inl (inl e)
  at rest false (inr i) = elim (rest i) [ inl old ↦ inl (inr old) | inr new ↦ inr new ]

-- ---- one operation

noted_read : (items : List Stored) (work : Work) (item : ItemId) (o : Option OwnWrite) (l : ItemId × Bool) → lock_by (Read item) (got o (stored_of items item.0)) ≡ Some l
    → noted (cond (is_some o) work (record work { reads = with_read work.reads item (stored_of items item.0).stamp })) l.0.0 l.1 ≡ true
noted_read items work item (Some w) l e = absurd cc
noted_read items work item None l e =
    let is : (item, false) ≡ l = cc in
    let u = read_there work.reads item (stored_of items item.0).stamp in
    subst (λ (k : ItemId × Bool). noted (record work { reads = with_read work.reads item (stored_of items item.0).stamp }) k.0.0 k.1 ≡ true) is
    (in_find (λ (r : OutsideRead). r.item.0 == item.0) u.0 (with_read work.reads item (stored_of items item.0).stamp) u.1 (eq-eqb _ _ u.2))

taken_noted : (items : List Stored) (work : Work) (op : Op) (l : ItemId × Bool) → lock_by op (outcome_of items work op) ≡ Some l → noted (work_after items work op) l.0.0 l.1 ≡ true
taken_noted items work (Read item) l e = noted_read items work item (write_of work item.0) l e
taken_noted items work (Write item value) l e =
    let is : (item, true) ≡ l = cc in
    let u = write_there work.writes item value in
    subst (λ (k : ItemId × Bool). noted (record work { writes = with_write work.writes item value }) k.0.0 k.1 ≡ true) is
    (in_find (λ (w : OwnWrite). w.item.0 == item.0) u.0 (with_write work.writes item value) u.1 (eq-eqb _ _ u.2))
taken_noted items work Compute l e = absurd cc
taken_noted items work Commit l e = absurd cc
taken_noted items work Quit l e = absurd cc

pub takes_noted : (items : List Stored) (work : Work) (op : Op) (outcome : Outcome) (item : ℕ) (is_write : Bool) → outcome ≡ outcome_of items work op → Takes op outcome item is_write
    → noted (work_after items work op) item is_write ≡ true
takes_noted items work op outcome item is_write e t =
    let h = taken_noted items work op t.lock (ap (lock_by op) (sym e) ∙ t.by) in
    ap (λ (b : Bool). noted (work_after items work op) item b) (sym t.write_is) ∙ (ap (λ (i : ℕ). noted (work_after items work op) i t.lock.1) (sym t.item_is) ∙ h)

-- what is noted after an operation was before, or the operation took the lock
new_read : (items : List Stored) (work : Work) (item : ItemId) (i : ℕ) (b : Bool) (o : Option OwnWrite) → noted (cond (is_some o) work (record work { reads = with_read work.reads item (stored_of items item.0).stamp })) i b ≡ true
    → (noted work i b ≡ true) ⊎ Takes (Read item) (got o (stored_of items item.0)) i b
new_read items work item i b (Some w) h = inl h
new_read items work item i true None h = inl h
new_read items work item i false None h =
    let u = find_in (λ (r : OutsideRead). r.item.0 == i) (with_read work.reads item (stored_of items item.0).stamp) h in
    elim (read_from work.reads item (stored_of items item.0).stamp u.0 u.1) [
      | inl old ↦ inl (in_find (λ (r : OutsideRead). r.item.0 == i) u.0 work.reads old u.2)
      | inr new ↦ inr (record { lock = (item, false); by = refl; item_is = sym new ∙ eqb-true _ _ u.2; write_is = refl })
    ]

pub noted_new : (items : List Stored) (work : Work) (op : Op) (i : ℕ) (b : Bool) → noted (work_after items work op) i b ≡ true → (noted work i b ≡ true) ⊎ Takes op (outcome_of items work op) i b
noted_new items work (Read item) i b h = new_read items work item i b (write_of work item.0) h
noted_new items work (Write item value) i true h =
    let u = find_in (λ (w : OwnWrite). w.item.0 == i) (with_write work.writes item value) h in
    elim (write_from work.writes item value u.0 u.1) [
      | inl old ↦ inl (in_find (λ (w : OwnWrite). w.item.0 == i) u.0 work.writes old u.2)
      | inr new ↦ inr (record { lock = (item, true); by = refl; item_is = sym new ∙ eqb-true _ _ u.2; write_is = refl })
    ]
noted_new items work (Write item value) i false h = inl h
noted_new items work Compute i b h = inl h
noted_new items work Commit i b h = inl h
noted_new items work Quit i b h = inl h

pub noted_still : (items : List Stored) (work : Work) (op : Op) (i : ℕ) (b : Bool) → noted work i b ≡ true → noted (work_after items work op) i b ≡ true
noted_still items work op i true h = (work_grows items work op).writes i h
noted_still items work op i false h = (work_grows items work op).reads i h

noted_on : (items : List Stored) (work : Work) (ops : List Op) (i : ℕ) (b : Bool) → noted work i b ≡ true → noted (work_alone items work ops) i b ≡ true
noted_on items work [] i b h = h
noted_on items work (op ∷ ops) i b h = noted_on items (work_after items work op) ops i b (noted_still items work op i b h)

-- ---- the entries of a job

pub same_as_self : (a b : JobId) → a ≡ b → same_job a b ≡ true
same_as_self a b e = ap (λ (k : JobId). same_job a k) (sym e) ∙ and_from _ _ (eq-eqb a.tx.0 a.tx.0 refl) (eq-eqb a.serial a.serial refl)

-- an operation and its outcome, where they are the job's
abbrev mine : {A : Type 0} → Bool → A → List A → List A
mine b a rest = cons_option (cond b (Some a) None) rest

module _ (items : List Stored) (job : JobId) (i : ℕ) (b : Bool) where
  -- a lock that a step took is in the work
  pub taken_by : (es : List Entry) (work : Work) (e : Entry) → outcomes_of es job ≡ outcomes_alone items work (ops_of es job) → In e es → IsTaking job i b e
      → noted (work_alone items work (ops_of es job)) i b ≡ true
  taken_by [] work e same h t = absurd h
  taken_by (Planned tx tick ∷ es) work e same (inl is) t = absurd (subst (IsTaking job i b) is t)
  taken_by (Planned tx tick ∷ es) work e same (inr h) t = taken_by es work e same h t
  taken_by (Blocked by op on ceiling tick ∷ es) work e same (inl is) t = absurd (subst (IsTaking job i b) is t)
  taken_by (Blocked by op on ceiling tick ∷ es) work e same (inr h) t = taken_by es work e same h t
  taken_by (Idle from to ∷ es) work e same (inl is) t = absurd (subst (IsTaking job i b) is t)
  taken_by (Idle from to ∷ es) work e same (inr h) t = taken_by es work e same h t
  taken_by (Step by op outcome over tick ∷ es) work e same h t = at (λ w. taken_by es w e) (same_job by job) refl same h where
    at : ((w : Work) → outcomes_of es job ≡ outcomes_alone items w (ops_of es job) → In e es → IsTaking job i b e → noted (work_alone items w (ops_of es job)) i b ≡ true) → (c : Bool) → same_job by job ≡ c → mine c outcome (outcomes_of es job) ≡ outcomes_alone items work (mine c op (ops_of es job)) → In e (Step by op outcome over tick ∷ es)
        → noted (work_alone items work (mine c op (ops_of es job))) i b ≡ true
    at rec true is eq (inl first) =
        let here = subst (IsTaking job i b) first t in
        let out : outcome ≡ outcome_of items work op = cc in
        noted_on items (work_after items work op) (ops_of es job) i b (takes_noted items work op outcome i b out here.1)
    at rec true is eq (inr later) =
        let rest : outcomes_of es job ≡ outcomes_alone items (work_after items work op) (ops_of es job) = cc in
        rec (work_after items work op) rest later t
    at rec false is eq (inl first) =
        let here = subst (IsTaking job i b) first t in
        absurd (let yes = same_as_self by job here.0 in cc)
    at rec false is eq (inr later) = rec work eq later t

  -- and a lock in the work was taken by a step
  pub some_took : (es : List Entry) (work : Work) → outcomes_of es job ≡ outcomes_alone items work (ops_of es job) → ((by : JobId) → same_job by job ≡ true → by ≡ job)
      → noted (work_alone items work (ops_of es job)) i b ≡ true → (noted work i b ≡ true) ⊎ ((e : Entry) × In e es × IsTaking job i b e)
  some_took [] work same one h = inl h
  some_took (Planned tx tick ∷ es) work same one h = elim (some_took es work same one h) [ inl old ↦ inl old | inr r ↦ inr (r.0, inr r.1, r.2) ]
  some_took (Blocked by op on ceiling tick ∷ es) work same one h = elim (some_took es work same one h) [ inl old ↦ inl old | inr r ↦ inr (r.0, inr r.1, r.2) ]
  some_took (Idle from to ∷ es) work same one h = elim (some_took es work same one h) [ inl old ↦ inl old | inr r ↦ inr (r.0, inr r.1, r.2) ]
  some_took (Step by op outcome over tick ∷ es) work same one h = at (λ w r k. some_took es w r one k) (same_job by job) refl same h where
    at : ((w : Work) → outcomes_of es job ≡ outcomes_alone items w (ops_of es job) → noted (work_alone items w (ops_of es job)) i b ≡ true → (noted w i b ≡ true) ⊎ ((e : Entry) × In e es × IsTaking job i b e)) → (c : Bool) → same_job by job ≡ c → mine c outcome (outcomes_of es job) ≡ outcomes_alone items work (mine c op (ops_of es job)) → noted (work_alone items work (mine c op (ops_of es job))) i b ≡ true
        → (noted work i b ≡ true) ⊎ ((e : Entry) × In e (Step by op outcome over tick ∷ es) × IsTaking job i b e)
    at rec true is eq k =
        let out : outcome ≡ outcome_of items work op = cc in
        let rest : outcomes_of es job ≡ outcomes_alone items (work_after items work op) (ops_of es job) = cc in
        elim (rec (work_after items work op) rest k) [
          | inl now ↦ elim (noted_new items work op i b now) [
            | inl old ↦ inl old
            | inr t ↦ inr (Step by op outcome over tick, inl refl, (one by is, record { lock = t.lock; by = ap (lock_by op) out ∙ t.by; item_is = t.item_is; write_is = t.write_is }))
          ]
          | inr r ↦ inr (r.0, inr r.1, r.2)
        ]
    at rec false is eq k = elim (rec work eq k) [ inl old ↦ inl old | inr r ↦ inr (r.0, inr r.1, r.2) ]
