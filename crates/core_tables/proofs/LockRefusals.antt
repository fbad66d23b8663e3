-- The refusal by the table of locks is that of the rows.
use Rattle.std.proofs.Common.{◌≡◌, ◌≢◌, ℕ, zero, suc, ◌<◌, ◌≤◌, ◌==◌, Bool, true, false, not, ◌&&◌, ◌||◌, cond, List, length, map, Option, None, Some, get_or, refl, ap, sym, ◌∙◌, subst, inl, inr, arith}
use Rattle.std.proofs.Math.Nat.{le-max_left, le-max_right}
use Rattle.std.proofs.lemmas.Bool.{cases_eq, cases_lt, cases_order, eq-eqb, ne_eqb, or_cases, or_left, or_right, and_parts, and_from, not-true, not_from_false}
use Rattle.std.specs.Option.{option_map}
use Rattle.rt_base.specs.LockRule.{blocker}
use Rattle.rt_base.specs.declared.operation.Op.{Op}
use Rattle.rt_base.specs.declared.operation.Op.TheVariants.{Read, Write}
use Rattle.rt_base.specs.declared.rank_set.RankSet.{RankSet}
use Rattle.ceiling_table.specs.declared.Above.{Above as AboveRow}
use Rattle.ceiling_table.specs.declared.CeilRow.{CeilRow}
use Rattle.ceiling_table.specs.declared.LockKind.{LockKind}
use Rattle.ceiling_table.specs.declared.LockKind.TheVariants as kind
use Rattle.ceiling_table.specs.Held.{Locks, lock_at, no_ceilings, kind_ceiling, is_lock, is_write, greatest_below, any_below, is_holder, numbers_below, other_holders, HasItem}
use Rattle.ceiling_table.specs.Held.{prio_of as held_prio, ceiling_of as held_ceiling, above_of as held_above, refusal as held_refusal, needs_lock as held_needs}
use Rattle.inherit_prio.specs.Waits.{Waiting, prio_of, tx_of}
use Rattle.item_model.specs.Work.{has_read, has_written}
use Rattle.txn_set.specs.Set.{Set, txn_of}
use Rattle.txn_set.specs.Ceilings.{greatest, write_ceiling, absolute_ceiling}
use Rattle.step_journal.specs.State.{Row, row_of, pending, prio}
use Rattle.step_journal.specs.LockRule.{locks, lock_ceiling, ceiling_of, needs_lock, others, refusal}
use Rattle.law_histories.proofs.Members.{In, in_filter, filter_in, in_pending, pending_in}
use Rattle.law_histories.proofs.Invariant.{in_range}
use Rattle.law_histories.proofs.Holding.{locks_tell, write_le, read_le, greatest_least}
use Rattle.core_tables.specs.Rows.{Facts, Accesses, AreFactsOf}
use Rattle.core_tables.specs.PendingTables.{work_lock, row_lock, Agree}
use Rattle.core_tables.proofs.Blockers.{SameBlockers, Answers, Neither, Both, answers}
use Rattle.core_tables.proofs.Highs.{prio_is}

-- the greatest of f below n, and whether some number below n passes

below_le : (n : ℕ) (f : ℕ → ℕ) (i : ℕ) → i < n → f i ≤ greatest_below n f
below_le zero f i lt = absurd (omega arith)
below_le (suc n) f i lt =
    elim (cases_eq i n) [
      | inl e ↦ omega (arith, ap f e, le-max_left (f n) (greatest_below n f))
      | inr ne ↦ omega (arith, below_le n f i (omega arith), le-max_right (f n) (greatest_below n f))
    ]

below_least : (n : ℕ) (f : ℕ → ℕ) (c : ℕ) → ((i : ℕ) → i < n → f i ≤ c) → greatest_below n f ≤ c
below_least zero f c h = omega arith
below_least (suc n) f c h = let a : f n ≤ c = h n (omega arith) in let b : greatest_below n f ≤ c = below_least n f c (λ i lt. h i (omega arith)) in omega arith

any_from : (n : ℕ) (f : ℕ → ℕ) (g : ℕ → Bool) → ((i : ℕ) → i < n → 0 < f i → g i ≡ true) → 0 < greatest_below n f → any_below n g ≡ true
any_from zero f g h lt = absurd (omega arith)
any_from (suc n) f g h lt =
    elim (cases_lt 0 (f n)) [
      | inl pos ↦ or_left (g n) (any_below n g) (h n (omega arith) pos)
      | inr none ↦ or_right (g n) (any_below n g) (any_from n f g (λ i l. h i (omega arith)) (omega arith))
    ]

any_at : (n : ℕ) (g : ℕ → Bool) → any_below n g ≡ true → (i : ℕ) × (i < n) × (g i ≡ true)
any_at zero g h = absurd cc
any_at (suc n) g h =
    elim (or_cases (g n) (any_below n g) h) [
      | inl e ↦ (n, omega arith, e)
      | inr r ↦ (let x = any_at n g r in (x.0, omega (arith, x.1), x.2))
    ]

in_numbers : (n x : ℕ) → x < n → In x (numbers_below n)
in_numbers zero x h = absurd (omega arith)
in_numbers (suc n) x h = elim (cases_eq x n) [ inl e ↦ inl e | inr ne ↦ inr (in_numbers n x (omega arith)) ]

pub numbers_in : (n x : ℕ) → In x (numbers_below n) → x < n
numbers_in zero x h = absurd h
numbers_in (suc n) x (inl e) = omega (arith, e)
numbers_in (suc n) x (inr h) = omega (arith, numbers_in n x h)

-- kinds of locks

lock_of_work : (w r : Bool) → is_lock (cond w kind.Write (cond r kind.Read kind.Free)) ≡ (r || w)
lock_of_work true true = refl
lock_of_work true false = refl
lock_of_work false true = refl
lock_of_work false false = refl

write_of_work : (w r : Bool) → is_write (cond w kind.Write (cond r kind.Read kind.Free)) ≡ w
write_of_work true r = refl
write_of_work false true = refl
write_of_work false false = refl

ceiling_of_work : (row : CeilRow) (w r : Bool) (c : ℕ) → (w ≡ true → row.absolute ≤ c) → (r ≡ true → row.write ≤ c) → kind_ceiling row (cond w kind.Write (cond r kind.Read kind.Free)) ≤ c
ceiling_of_work row true r c a b = a refl
ceiling_of_work row false true c a b = b refl
ceiling_of_work row false false c a b = omega arith

ceiling_is_lock : (row : CeilRow) (k : LockKind) → 0 < kind_ceiling row k → is_lock k ≡ true
ceiling_is_lock row kind.Free h = absurd (omega arith)
ceiling_is_lock row other h = refl

module _ (rows : List (Option Row)) (held : Locks) (waiting : Waiting) (deadlines : List ℕ) (ranks : RankSet) (least : Option ℕ) (a : Agree rows held waiting deadlines ranks least)
    (set : Set) (accesses : List Accesses) (f : AreFactsOf set (record { ceilings = held.ceilings; prios = held.prios; deadlines = deadlines; accesses = accesses })) where
  abbrev facts : Facts
  facts = record { ceilings = held.ceilings; prios = held.prios; deadlines = deadlines; accesses = accesses }

  abbrev row_at : ℕ → CeilRow
  row_at i = get_or held.ceilings i no_ceilings

  abbrev at_item : ℕ → ℕ → ℕ
  at_item tx i = kind_ceiling (row_at i) (lock_at held tx i)

  lock_is : (tx i : ℕ) (x : Row) → row_of rows tx ≡ Some x → i < length held.ceilings → lock_at held tx i ≡ work_lock x.work i
  lock_is tx i x h lt = a.locks tx i (in_range rows tx x h) lt ∙ ap (λ (o : Option Row). row_lock o i) h

  at_item_is : (tx i : ℕ) (x : Row) → row_of rows tx ≡ Some x → i < length held.ceilings → at_item tx i ≡ kind_ceiling (row_at i) (work_lock x.work i)
  at_item_is tx i x h lt = ap (λ (k : LockKind). kind_ceiling (row_at i) k) (lock_is tx i x h lt)

  absolute_is : (i : ℕ) → i < length held.ceilings → (row_at i).absolute ≡ absolute_ceiling set i
  absolute_is i lt = (f.ceilings i (omega (arith, f.items))).absolute

  write_is : (i : ℕ) → i < length held.ceilings → (row_at i).write ≡ write_ceiling set i
  write_is i lt = (f.ceilings i (omega (arith, f.items))).write

  -- a holder's ceilings are one
  pub same_ceiling : (tx : ℕ) (x : Row) → row_of rows tx ≡ Some x → held_ceiling held tx ≡ ceiling_of set x
  unfolding held_ceiling ceiling_of
  same_ceiling tx x h =
      let up : greatest_below (length held.ceilings) (at_item tx) ≤ greatest (map (lock_ceiling set) (locks x.work)) =
      below_least (length held.ceilings) (at_item tx) _ (λ i lt.
      let le : kind_ceiling (row_at i) (work_lock x.work i) ≤ ceiling_of set x =
      ceiling_of_work (row_at i) (has_written x.work i) (has_read x.work i) (ceiling_of set x) (λ w. omega (arith, absolute_is i lt, write_le set x i w)) (λ r. omega (arith, write_is i lt, read_le set x i r)) in
      omega (arith, le, at_item_is tx i x h lt)) in
      let down : greatest (map (lock_ceiling set) (locks x.work)) ≤ greatest_below (length held.ceilings) (at_item tx) =
      greatest_least (lock_ceiling set) (locks x.work) _ (λ l i.
      elim (locks_tell x.work l i) [
        | inl w ↦ (
            let lt : l.item < length held.ceilings = a.touched tx l.item x h (or_right (has_read x.work l.item) (has_written x.work l.item) w.1) in
            let e : lock_ceiling set l ≡ absolute_ceiling set l.item = ap (lock_ceiling set) w.0 in
            let k : kind_ceiling (row_at l.item) (work_lock x.work l.item) ≡ (row_at l.item).absolute = ap (λ (b : Bool). kind_ceiling (row_at l.item) (cond b kind.Write (cond (has_read x.work l.item) kind.Read kind.Free))) w.1 in
            omega (arith, e, k, absolute_is l.item lt, at_item_is tx l.item x h lt, below_le (length held.ceilings) (at_item tx) l.item lt))
        | inr r ↦ (
            let lt : l.item < length held.ceilings = a.touched tx l.item x h (or_left (has_read x.work l.item) (has_written x.work l.item) r.1) in
            let e : lock_ceiling set l ≡ write_ceiling set l.item = ap (lock_ceiling set) r.0 in
            let k : kind_ceiling (row_at l.item) (work_lock x.work l.item) ≡ (row_at l.item).write =
            ap (λ (b : Bool). kind_ceiling (row_at l.item) (cond b kind.Write (cond (has_read x.work l.item) kind.Read kind.Free))) r.2
            ∙ ap (λ (b : Bool). kind_ceiling (row_at l.item) (cond b kind.Read kind.Free)) r.1 in
            omega (arith, e, k, write_is l.item lt, at_item_is tx l.item x h lt, below_le (length held.ceilings) (at_item tx) l.item lt))
      ]) in
      omega (arith, up, down)

  -- what has a ceiling above 0 holds a lock, and what holds one has a row
  holds_by : (tx : ℕ) → 0 < held_ceiling held tx → is_holder held tx ≡ true
  unfolding held_ceiling is_holder
  holds_by tx lt = any_from (length held.ceilings) (at_item tx) (λ i. is_lock (lock_at held tx i)) (λ i l pos. ceiling_is_lock (row_at i) (lock_at held tx i) pos) lt

  row_by_lock : (tx : ℕ) (o : Option Row) (i : ℕ) → row_of rows tx ≡ o → is_lock (row_lock o i) ≡ true → (x : Row) × (row_of rows tx ≡ Some x)
  row_by_lock tx None i e h = absurd cc
  row_by_lock tx (Some x) i e h = (x, e)

  holder_row : (tx : ℕ) → tx < length held.prios → is_holder held tx ≡ true → (x : Row) × (row_of rows tx ≡ Some x)
  unfolding is_holder
  holder_row tx lt h =
      let i = any_at (length held.ceilings) (λ i. is_lock (lock_at held tx i)) h in
      row_by_lock tx (row_of rows tx) i.0 refl (ap is_lock (sym (a.locks tx i.0 (omega (arith, a.size)) i.1)) ∙ i.2)

  own_prio : (tx : ℕ) (x : Row) → row_of rows tx ≡ Some x → prio set x ≡ held_prio held tx
  own_prio tx x h = ap (λ (m : ℕ). (txn_of set m).prio) (a.named tx x h) ∙ sym (prio_is set facts tx f)

  same_tx : (m n : ℕ) → m < length held.prios → n < length held.prios → held_prio held m ≡ held_prio held n → m ≡ n
  same_tx m n lm ln e =
      let i = a.order.all m lm in
      let j = a.order.all n ln in
      let pi : prio_of held.prios (tx_of waiting.order i.0) ≡ held_prio held m = ap (prio_of held.prios) i.2 in
      let pj : prio_of held.prios (tx_of waiting.order j.0) ≡ held_prio held n = ap (prio_of held.prios) j.2 in
      elim (cases_order i.0 j.0) [
        | inl q ↦ sym i.2 ∙ (ap (tx_of waiting.order) q ∙ j.2)
        | inr (inl lt) ↦ absurd (omega (arith, e, pi, pj, a.order.falling i.0 j.0 lt j.1))
        | inr (inr gt) ↦ absurd (omega (arith, e, pi, pj, a.order.falling j.0 i.0 gt i.1))
      ]

  module _ (tx : ℕ) (row : Row) (here : row_of rows tx ≡ Some row) (positive : 0 < prio set row) where
    abbrev IsRowOf : Row → ℕ → Type 0
    IsRowOf x n = row_of rows n ≡ Some x

    not_own : (x : Row) (n : ℕ) → row_of rows n ≡ Some x → n ≢ tx → not (x.job.tx.0 == row.job.tx.0) ≡ true
    not_own x n h ne = not_from_false _ (ne_eqb _ _ (λ e. ne (sym (a.named n x h) ∙ (e ∙ a.named tx row here))))

    is_other : (x : Row) (n : ℕ) → row_of rows n ≡ Some x → not (x.job.tx.0 == row.job.tx.0) ≡ true → n ≢ tx
    is_other x n h t e =
        let same : (x.job.tx.0 == row.job.tx.0) ≡ true = eq-eqb _ _ (a.named n x h ∙ (e ∙ sym (a.named tx row here))) in
        let no : (x.job.tx.0 == row.job.tx.0) ≡ false = not-true _ t in
        cc (same, no)

    same_blockers : SameBlockers (prio set) (ceiling_of set) (held_prio held) (held_ceiling held) (held_prio held tx) (others rows row) (other_holders held tx) IsRowOf
    same_blockers = record {
      there = λ x i le.
          let p = filter_in (λ (r : Row). not (r.job.tx.0 == row.job.tx.0)) x (pending rows) i in
          let n = pending_in rows x p.0 in
          let lt : n.0 < length held.prios = omega (arith, in_range rows n.0 x n.1, a.size) in
          let pos : 0 < held_ceiling held n.0 = omega (arith, same_ceiling n.0 x n.1, own_prio tx row here, positive, le) in
          let other : not (n.0 == tx) ≡ true = not_from_false _ (ne_eqb _ _ (is_other x n.0 n.1 p.1)) in
          (n.0, in_filter (λ t. not (t == tx) && is_holder held t) n.0 (numbers_below (length held.prios)) (in_numbers (length held.prios) n.0 lt) (and_from _ _ other (holds_by n.0 pos)), n.1);
      back = λ n i le.
          let p = filter_in (λ t. not (t == tx) && is_holder held t) n (numbers_below (length held.prios)) i in
          let parts = and_parts (not (n == tx)) (is_holder held n) p.1 in
          let lt : n < length held.prios = numbers_in (length held.prios) n p.0 in
          let x = holder_row n lt parts.1 in
          let ne : n ≢ tx = (λ e. let same : (n == tx) ≡ true = eq-eqb n tx e in let no : (n == tx) ≡ false = not-true _ parts.0 in cc (same, no)) in
          (x.0, in_filter (λ (r : Row). not (r.job.tx.0 == row.job.tx.0)) x.0 (pending rows) (in_pending rows n x.0 x.1) (not_own x.0 n x.1 ne), x.1);
      ceiling = λ x n h. sym (same_ceiling n x h);
      prio = λ x n h. own_prio n x h;
      one = λ x y m n hx hy e.
          let lm : m < length held.prios = omega (arith, in_range rows m x hx, a.size) in
          let ln : n < length held.prios = omega (arith, in_range rows n y hy, a.size) in
          ap (row_of rows) (sym (same_tx m n lm ln (sym (own_prio m x hx) ∙ (e ∙ own_prio n y hy)))) ∙ hx;
    }

    -- the refusal of the rows, by that of the table
    pub data Refuses : Option AboveRow → Type 0 where
      Grants : refusal set rows row ≡ None → Refuses None
      Names : (above : AboveRow) (b : Row) → row_of rows above.holder.0 ≡ Some b → refusal set rows row ≡ Some (record { holder = b.job; ceiling = above.ceiling }) → Refuses (Some above)

    refuses_at : Answers IsRowOf (blocker (prio set) (ceiling_of set) (held_prio held tx) (others rows row)) (blocker (held_prio held) (held_ceiling held) (held_prio held tx) (other_holders held tx)) → Refuses (held_refusal held tx)
    unfolding refusal held_refusal
    refuses_at (Neither e g) =
        let none : refusal set rows row ≡ None =
        ap (λ (n : ℕ). option_map (λ (r : Row). record { holder = r.job; ceiling = ceiling_of set r }) (blocker (prio set) (ceiling_of set) n (others rows row))) (own_prio tx row here)
        ∙ ap (option_map (λ (r : Row). record { holder = r.job; ceiling = ceiling_of set r })) e in
        subst Refuses (sym (ap (option_map (held_above held)) g)) (Grants none)
    refuses_at (Both b n e g same) =
        let some : refusal set rows row ≡ Some (record { holder = b.job; ceiling = held_ceiling held n }) =
        ap (λ (n : ℕ). option_map (λ (r : Row). record { holder = r.job; ceiling = ceiling_of set r }) (blocker (prio set) (ceiling_of set) n (others rows row))) (own_prio tx row here)
        ∙ (ap (option_map (λ (r : Row). record { holder = r.job; ceiling = ceiling_of set r })) e ∙ ap (λ (c : ℕ). Some (record { holder = b.job; ceiling = c })) (sym (same_ceiling n b same))) in
        subst Refuses (sym (ap (option_map (held_above held)) g)) (Names (held_above held n) b same some)

    pub refuses : Refuses (held_refusal held tx)
    refuses = refuses_at (answers (prio set) (ceiling_of set) (held_prio held) (held_ceiling held) (held_prio held tx) (others rows row) (other_holders held tx) IsRowOf same_blockers)

    -- the need of a lock
    pub needs_same : (op : Op) → HasItem (length held.ceilings) op → held_needs held tx op ≡ needs_lock row.work op
    needs_same (Read item) low = ap not (ap is_lock (lock_is tx item.0 row here low) ∙ lock_of_work (has_written row.work item.0) (has_read row.work item.0))
    needs_same (Write item value) low = ap not (ap is_write (lock_is tx item.0 row here low) ∙ write_of_work (has_written row.work item.0) (has_read row.work item.0))
    needs_same other low = refl
