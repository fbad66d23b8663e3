-- The rows that the tables stand for, by place, and after each change of the tables.
use Rattle.std.proofs.Common.{◌≡◌, ◌≢◌, ℕ, ◌+◌, ◌<◌, ◌==◌, Bool, true, false, cond, List, length, map, Option, None, Some, get_or, set, refl, ap, sym, ◌∙◌, subst, inl, inr, arith}
use Rattle.std.proofs.lemmas.Bool.{cases_eq, cases_lt, eq-eqb, ne_eqb, eqb-true, and_parts}
use Rattle.std.proofs.lemmas.List.{ext_get_or, length-set, length-map, get_or_past, get_or-set_same, get_or-set_other}
use Rattle.std.proofs.Math.ListN.{get_or-map}
use Rattle.std.proofs.lemmas.List.FromFn.{get_or-map-range_with_len, length-map-range_with_len}
use Rattle.std.specs.Prelude.{is_some}
use Rattle.std.specs.Option.{option_map}
use Rattle.rt_base.specs.declared.ids.JobId.{JobId}
use Rattle.rt_base.specs.declared.ids.TxId.{TxId}
use Rattle.rt_base.specs.declared.operation.Op.{Op}
use Rattle.item_model.specs.declared.stored.Stored.{Stored}
use Rattle.item_model.specs.Work.{Work, no_work, work_after}
use Rattle.strict_commit.specs.Jobs.{Job}
use Rattle.inherit_prio.specs.Waits.{on_of, unless_on}
use Rattle.step_journal.specs.State.{Row, row_of, same_job, new_row}
use Rattle.step_journal.specs.Instant.{freed, freed_from, with_row}
use Rattle.core_tables.specs.declared.head.Head.{Head}
use Rattle.core_tables.specs.Rows.{row_stepped, rows_stepped, rows_waiting, rows_ended}
use Rattle.core_tables.specs.PendingTables.{no_job, head_at, waited_job, row_by, row_at, rows_by}

pub rows_length : (heads : List (Option Head)) (works : List Job) (on : List (Option TxId)) → length (rows_by heads works on) ≡ length heads
unfolding rows_by
rows_length heads works on = length-map-range_with_len (row_at heads works on) 0 (length heads)

pub rows_at : (heads : List (Option Head)) (works : List Job) (on : List (Option TxId)) (tx : ℕ) → row_of (rows_by heads works on) tx ≡ row_at heads works on tx
unfolding rows_by
rows_at heads works on tx =
    elim (cases_lt tx (length heads)) [
      | inl lt ↦ get_or-map-range_with_len (row_at heads works on) 0 (length heads) tx tx None lt (omega arith)
      | inr ge ↦ (
          let none : head_at heads tx ≡ None = get_or_past heads tx None ge in
          get_or_past (map (row_at heads works on) _) tx None (omega (arith, length-map-range_with_len (row_at heads works on) 0 (length heads)))
          ∙ sym (ap (λ (h : Option Head). row_by h (get_or works tx no_job).work (waited_job heads (on_of on tx))) none))
    ]

-- lists of rows that agree at each place
pub rows_are : (heads : List (Option Head)) (works : List Job) (on : List (Option TxId)) (rows : List (Option Row)) → length heads ≡ length rows → ((tx : ℕ) → row_at heads works on tx ≡ row_of rows tx) → rows_by heads works on ≡ rows
rows_are heads works on rows size same = ext_get_or None (rows_by heads works on) rows (rows_length heads works on ∙ size) (λ i lt. rows_at heads works on i ∙ same i)

row_parts : (h h' : Option Head) (w w' : Work) (o o' : Option JobId) → h ≡ h' → w ≡ w' → o ≡ o' → row_by h w o ≡ row_by h' w' o'
row_parts h h' w w' o o' a b c = ap (λ (x : Option Head). row_by x w o) a ∙ ap (λ (x : Work). row_by h' x o) b ∙ ap (λ (x : Option JobId). row_by h' w' x) c

-- a row is there where a head is
pub head_here : (heads : List (Option Head)) (works : List Job) (on : List (Option TxId)) (tx : ℕ) → is_some (row_of (rows_by heads works on) tx) ≡ is_some (head_at heads tx)
head_here heads works on tx = ap is_some (rows_at heads works on tx) ∙ at (head_at heads tx) where
  at : (h : Option Head) → is_some (row_by h (get_or works tx no_job).work (waited_job heads (on_of on tx))) ≡ is_some h
  at None = refl
  at (Some h) = refl

-- the job of a head is its row's
pub job_at : (heads : List (Option Head)) (works : List Job) (on : List (Option TxId)) (tx : ℕ) → option_map (λ (r : Row). r.job) (row_of (rows_by heads works on) tx) ≡ option_map (λ (h : Head). h.job) (head_at heads tx)
job_at heads works on tx = ap (option_map (λ (r : Row). r.job)) (rows_at heads works on tx) ∙ at (head_at heads tx) where
  at : (h : Option Head) → option_map (λ (r : Row). r.job) (row_by h (get_or works tx no_job).work (waited_job heads (on_of on tx))) ≡ option_map (λ (h : Head). h.job) h
  at None = refl
  at (Some h) = refl

-- what a head and its row have in common
pub record Fits (heads : List (Option Head)) (works : List Job) (on : List (Option TxId)) (tx : ℕ) (head : Head) (row : Row) : Type 0 where
  pub here : head_at heads tx ≡ Some head
  pub is : row ≡ record { job = head.job; release = head.release; used = head.used; work = (get_or works tx no_job).work; waits_on = waited_job heads (on_of on tx) }

fits_at : (heads : List (Option Head)) (works : List Job) (on : List (Option TxId)) (tx : ℕ) (row : Row) (o : Option Head) → head_at heads tx ≡ o → row_by o (get_or works tx no_job).work (waited_job heads (on_of on tx)) ≡ Some row → (head : Head) × Fits heads works on tx head row
fits_at heads works on tx row None e h = absurd cc
fits_at heads works on tx row (Some head) e h = (head, record { here = e; is = cc })

pub fits : (heads : List (Option Head)) (works : List Job) (on : List (Option TxId)) (tx : ℕ) (row : Row) → row_of (rows_by heads works on) tx ≡ Some row → (head : Head) × Fits heads works on tx head row
fits heads works on tx row h =
    let at : row_by (head_at heads tx) (get_or works tx no_job).work (waited_job heads (on_of on tx)) ≡ Some row = sym (rows_at heads works on tx) ∙ h in
    fits_at heads works on tx row (head_at heads tx) refl at

-- a release

waited_other : (heads : List (Option Head)) (tx : ℕ) (x : Option Head) (o : Option TxId) → ((u : TxId) → o ≡ Some u → u.0 ≢ tx) → waited_job (set heads tx x) o ≡ waited_job heads o
waited_other heads tx x None h = refl
waited_other heads tx x (Some u) h = ap (option_map (λ (h : Head). h.job)) (get_or-set_other heads tx u.0 x None (h u refl))

pub rows_released : (heads : List (Option Head)) (works : List Job) (on : List (Option TxId)) (job : JobId) (tick : ℕ) (w : Job)
    → job.tx.0 < length heads → job.tx.0 < length works → on_of on job.tx.0 ≡ None → ((t : ℕ) (u : TxId) → on_of on t ≡ Some u → u.0 ≢ job.tx.0) → w.work ≡ no_work
    → rows_by (set heads job.tx.0 (Some (record { job = job; release = tick; used = 0 }))) (set works job.tx.0 w) on ≡ with_row tick (rows_by heads works on) job
rows_released heads works on job tick w lt ltw none other clear =
    let new : Option Head = Some (record { job = job; release = tick; used = 0 }) in
    let n : ℕ = job.tx.0 in
    rows_are (set heads n new) (set works n w) on _ (length-set heads n new ∙ sym (length-set (rows_by heads works on) n _ ∙ rows_length heads works on)) (λ k.
    elim (cases_eq k n) [
      | inl e ↦ subst (λ (m : ℕ). row_at (set heads n new) (set works n w) on m ≡ row_of (with_row tick (rows_by heads works on) job) m) (sym e)
          (row_parts _ new _ no_work _ None (get_or-set_same heads n new None lt) (ap (λ (j : Job). j.work) (get_or-set_same works n w no_job ltw) ∙ clear) (ap (waited_job (set heads n new)) none)
          ∙ sym (get_or-set_same (rows_by heads works on) n (Some (new_row job tick)) None (omega (arith, rows_length heads works on))))
      | inr ne ↦ row_parts _ _ _ _ _ _ (get_or-set_other heads n k new None ne) (ap (λ (j : Job). j.work) (get_or-set_other works n k w no_job ne)) (waited_other heads n new (on_of on k) (other k))
          ∙ sym (get_or-set_other (rows_by heads works on) n k (Some (new_row job tick)) None ne ∙ rows_at heads works on k)
    ])

-- a step

waited_kept : (heads : List (Option Head)) (tx : ℕ) (h h' : Head) (o : Option TxId) → tx < length heads → head_at heads tx ≡ Some h → h'.job ≡ h.job → waited_job (set heads tx (Some h')) o ≡ waited_job heads o
waited_kept heads tx h h' None lt here same = refl
waited_kept heads tx h h' (Some u) lt here same =
    elim (cases_eq u.0 tx) [
      | inl e ↦ subst (λ (m : ℕ). option_map (λ (h : Head). h.job) (head_at (set heads tx (Some h')) m) ≡ option_map (λ (h : Head). h.job) (head_at heads m)) (sym e)
          (ap (option_map (λ (h : Head). h.job)) (get_or-set_same heads tx (Some h') None lt) ∙ ap Some same ∙ sym (ap (option_map (λ (h : Head). h.job)) here))
      | inr ne ↦ ap (option_map (λ (h : Head). h.job)) (get_or-set_other heads tx u.0 (Some h') None ne)
    ]

pub rows_after_step : (heads : List (Option Head)) (works : List Job) (on : List (Option TxId)) (tx : ℕ) (head : Head) (row : Row) (items : List Stored) (op : Op) (job : Job)
    → tx < length heads → tx < length works → Fits heads works on tx head row → row.job.tx.0 ≡ tx → job.work ≡ work_after items (get_or works tx no_job).work op
    → rows_by (set heads tx (Some (record head { used = head.used + 1 }))) (set works tx job) on ≡ rows_stepped (rows_by heads works on) items op row
rows_after_step heads works on tx head row items op job lt ltw fit named noted =
    let new : Option Head = Some (record head { used = head.used + 1 }) in
    let stepped : Option Row = Some (row_stepped items op row) in
    let rows : List (Option Row) = rows_by heads works on in
    let is : Some (record { job = head.job; release = head.release; used = head.used + 1; work = work_after items (get_or works tx no_job).work op; waits_on = waited_job heads (on_of on tx) }) ≡ stepped =
    sym (ap (λ (r : Row). Some (row_stepped items op r)) fit.is) in
    subst (λ (m : ℕ). rows_by (set heads tx new) (set works tx job) on ≡ set rows m stepped) (sym named)
    (rows_are (set heads tx new) (set works tx job) on _ (length-set heads tx new ∙ sym (length-set rows tx _ ∙ rows_length heads works on)) (λ k.
    elim (cases_eq k tx) [
      | inl e ↦ subst (λ (m : ℕ). row_at (set heads tx new) (set works tx job) on m ≡ row_of (set rows tx stepped) m) (sym e)
          (row_parts _ new _ _ _ _ (get_or-set_same heads tx new None lt) (ap (λ (j : Job). j.work) (get_or-set_same works tx job no_job ltw) ∙ noted) (waited_kept heads tx head (record head { used = head.used + 1 }) (on_of on tx) lt fit.here refl)
          ∙ (is ∙ sym (get_or-set_same rows tx stepped None (omega (arith, rows_length heads works on)))))
      | inr ne ↦ row_parts _ _ _ _ _ _ (get_or-set_other heads tx k new None ne) (ap (λ (j : Job). j.work) (get_or-set_other works tx k job no_job ne)) (waited_kept heads tx head (record head { used = head.used + 1 }) (on_of on k) lt fit.here refl)
          ∙ sym (get_or-set_other rows tx k stepped None ne ∙ rows_at heads works on k)
    ]))

-- a wait

pub rows_after_wait : (heads : List (Option Head)) (works : List Job) (on on' : List (Option TxId)) (tx : ℕ) (head blocker : Head) (row : Row) (job : JobId)
    → tx < length heads → Fits heads works on tx head row → row.job.tx.0 ≡ tx → head_at heads job.tx.0 ≡ Some blocker → blocker.job ≡ job
    → ((t : ℕ) → on_of on' t ≡ cond (t == tx) (Some job.tx) (on_of on t))
    → rows_by heads works on' ≡ rows_waiting (rows_by heads works on) row job
rows_after_wait heads works on on' tx head blocker row job lt fit named there is changes =
    let waiting : Option Row = Some (record row { waits_on = Some job }) in
    let rows : List (Option Row) = rows_by heads works on in
    let waits : waited_job heads (Some job.tx) ≡ Some job = ap (option_map (λ (h : Head). h.job)) there ∙ ap Some is in
    let now : Some (record { job = head.job; release = head.release; used = head.used; work = (get_or works tx no_job).work; waits_on = Some job }) ≡ waiting =
    sym (ap (λ (r : Row). Some (record r { waits_on = Some job })) fit.is) in
    subst (λ (m : ℕ). rows_by heads works on' ≡ set rows m waiting) (sym named)
    (rows_are heads works on' _ (sym (length-set rows tx _ ∙ rows_length heads works on)) (λ k.
    elim (cases_eq k tx) [
      | inl e ↦ subst (λ (m : ℕ). row_at heads works on' m ≡ row_of (set rows tx waiting) m) (sym e)
          (row_parts _ (Some head) _ _ _ (Some job) fit.here refl (ap (waited_job heads) (changes tx ∙ ap (λ (b : Bool). cond b (Some job.tx) (on_of on tx)) (eq-eqb tx tx refl)) ∙ waits)
          ∙ (now ∙ sym (get_or-set_same rows tx waiting None (omega (arith, rows_length heads works on)))))
      | inr ne ↦ row_parts _ _ _ _ _ _ refl refl (ap (waited_job heads) (changes k ∙ ap (λ (b : Bool). cond b (Some job.tx) (on_of on k)) (ne_eqb k tx ne)))
          ∙ sym (get_or-set_other rows tx k waiting None ne ∙ rows_at heads works on k)
    ]))

-- an end

freed_job_at : (heads : List (Option Head)) (tx : ℕ) (job : JobId) (u : TxId) (o : Option Head) (b : Bool) → job.tx.0 ≡ tx → head_at heads u.0 ≡ o → ((h : Head) → o ≡ Some h → h.job.tx.0 ≡ u.0) → (head_at heads tx ≡ o → u.0 ≡ tx → option_map (λ (h : Head). h.job) o ≡ Some job)
    → (u.0 == tx) ≡ b → waited_job (set heads tx None) (cond b None (Some u)) ≡ freed_from job (option_map (λ (h : Head). h.job) o)
freed_job_at heads tx job u o true own here named same e =
    let at : u.0 ≡ tx = eqb-true _ _ e in
    let is : option_map (λ (h : Head). h.job) o ≡ Some job = same (subst (λ (m : ℕ). head_at heads m ≡ o) at here) at in
    sym (ap (freed_from job) is ∙ self job (same_job job job) (refl_job job)) where
      refl_job : (j : JobId) → same_job j j ≡ true
      refl_job j = grind (arith, eq-eqb j.tx.0 j.tx.0 refl, eq-eqb j.serial j.serial refl)

      self : (j : JobId) (b : Bool) → b ≡ true → cond b None (Some j) ≡ None
      self j true e = refl
      self j false e = absurd cc
freed_job_at heads tx job u None false own here named same e = ap (option_map (λ (h : Head). h.job)) (get_or-set_other heads tx u.0 None None (λ q. absurd (let t : (u.0 == tx) ≡ true = eq-eqb _ _ q in cc)) ∙ here)
freed_job_at heads tx job u (Some h) false own here named same e =
    ap (option_map (λ (h : Head). h.job)) (get_or-set_other heads tx u.0 None None (λ q. absurd (let t : (u.0 == tx) ≡ true = eq-eqb _ _ q in cc)) ∙ here)
    ∙ sym (other (same_job h.job job) refl) where
      other : (b : Bool) → same_job h.job job ≡ b → cond b None (Some h.job) ≡ Some h.job
      other false q = refl
      other true q =
          let a : h.job.tx.0 ≡ job.tx.0 = eqb-true _ _ (and_parts _ _ q).0 in
          let t : (u.0 == tx) ≡ true = eq-eqb u.0 tx (sym (named h refl) ∙ (a ∙ own)) in
          absurd cc

freed_job : (heads : List (Option Head)) (tx : ℕ) (head : Head) (o : Option TxId) → head_at heads tx ≡ Some head → head.job.tx.0 ≡ tx → ((n : ℕ) (h : Head) → head_at heads n ≡ Some h → h.job.tx.0 ≡ n)
    → waited_job (set heads tx None) (unless_on tx o) ≡ freed_from head.job (waited_job heads o)
freed_job heads tx head None here own named = refl
freed_job heads tx head (Some u) here own named =
    freed_job_at heads tx head.job u (head_at heads u.0) (u.0 == tx) own refl (λ h e. named u.0 h e) (λ e at. ap (option_map (λ (h : Head). h.job)) (sym e ∙ here)) refl

freed_row : (j : JobId) (h : Option Head) (w : Work) (o o' : Option JobId) → o' ≡ freed_from j o → row_by h w o' ≡ option_map (freed j) (row_by h w o)
freed_row j None w o o' e = refl
freed_row j (Some h) w o o' e = ap (λ (x : Option JobId). Some (record { job = h.job; release = h.release; used = h.used; work = w; waits_on = x })) e

pub rows_after_end : (heads : List (Option Head)) (works : List Job) (on on' : List (Option TxId)) (tx : ℕ) (head : Head) (row : Row)
    → tx < length heads → Fits heads works on tx head row → row.job.tx.0 ≡ tx → ((n : ℕ) (h : Head) → head_at heads n ≡ Some h → h.job.tx.0 ≡ n)
    → ((t : ℕ) → on_of on' t ≡ cond (t == tx) None (unless_on tx (on_of on t)))
    → rows_by (set heads tx None) works on' ≡ rows_ended (rows_by heads works on) row
rows_after_end heads works on on' tx head row lt fit own named changes =
    let rows : List (Option Row) = rows_by heads works on in
    let job : row.job ≡ head.job = ap (λ (r : Row). r.job) fit.is in
    subst (λ (j : JobId). rows_by (set heads tx None) works on' ≡ map (option_map (freed j)) (set rows row.job.tx.0 None)) (sym job)
    (subst (λ (m : ℕ). rows_by (set heads tx None) works on' ≡ map (option_map (freed head.job)) (set rows m None)) (sym own)
    (rows_are (set heads tx None) works on' _ (length-set heads tx None ∙ sym (length-map (set rows tx None) (option_map (freed head.job)) ∙ length-set rows tx None ∙ rows_length heads works on)) (λ k.
    (elim (cases_eq k tx) [
      | inl e ↦ subst (λ (m : ℕ). row_at (set heads tx None) works on' m ≡ option_map (freed head.job) (row_of (set rows tx None) m)) (sym e)
          (ap (λ (h : Option Head). row_by h (get_or works tx no_job).work (waited_job (set heads tx None) (on_of on' tx))) (get_or-set_same heads tx None None lt)
          ∙ sym (ap (option_map (freed head.job)) (get_or-set_same rows tx None None (omega (arith, rows_length heads works on)))))
      | inr ne ↦ (
          let on_is : on_of on' k ≡ unless_on tx (on_of on k) = changes k ∙ ap (λ (b : Bool). cond b None (unless_on tx (on_of on k))) (ne_eqb k tx ne) in
          let waits : waited_job (set heads tx None) (on_of on' k) ≡ freed_from head.job (waited_job heads (on_of on k)) =
          ap (waited_job (set heads tx None)) on_is ∙ freed_job heads tx head (on_of on k) fit.here (ap (λ (j : JobId). j.tx.0) (sym job) ∙ own) named in
          ap (λ (h : Option Head). row_by h (get_or works k no_job).work (waited_job (set heads tx None) (on_of on' k))) (get_or-set_other heads tx k None None ne)
          ∙ freed_row head.job (head_at heads k) (get_or works k no_job).work (waited_job heads (on_of on k)) _ waits
          ∙ sym (ap (option_map (freed head.job)) (get_or-set_other rows tx k None None ne ∙ rows_at heads works on k)))
    ]) ∙ sym (get_or-map (option_map (freed head.job)) (set rows tx None) k None))))
