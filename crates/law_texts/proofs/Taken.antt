-- The locks that entries take: each by the first step that shows it, until its job ends or writes the item.
use Rattle.std.proofs.Common.{◌≡◌, ℕ, ◌+◌, ◌<◌, ◌≤◌, ◌==◌, ◌||◌, Bool, true, false, not, cond, min, List, [], ◌∷◌, ◌++◌, Option, None, Some, refl, ap, sym, ◌∙◌, subst, inl, inr, append_assoc, append-nil, arith}
use Rattle.std.proofs.lemmas.Bool.{eqb-true, eq-eqb, and_from, and_parts, lt-ltb}
use Rattle.std.specs.List.{filter_map, cons_option, list_any}
use Rattle.rt_base.specs.declared.ids.ItemId.{ItemId}
use Rattle.rt_base.specs.declared.ids.JobId.{JobId}
use Rattle.rt_base.specs.declared.operation.Op.{Op}
use Rattle.rt_base.specs.declared.operation.Outcome.{Outcome}
use Rattle.rt_base.specs.declared.operation.End.{End}
use Rattle.txn_set.specs.Set.{Set}
use Rattle.step_journal.specs.State.{same_job}
use Rattle.step_journal.specs.declared.entry.Entry.{Entry}
use Rattle.step_journal.specs.declared.entry.Entry.TheVariants.{Planned, Step, Blocked, Idle}
use Rattle.law_histories.proofs.Members.{In}
use Rattle.law_histories.proofs.Invariant.{same_job_is}
use Rattle.law_histories.proofs.Lists.{filter_map_in, in_any}
use Rattle.law_histories.proofs.Holding.{in_left, in_right}
use Rattle.job_rows.specs.declared.row.JobRow.{JobRow}
use Rattle.schedule_marks.specs.declared.part.Part.{Part}
use Rattle.schedule_marks.specs.declared.mark.Mark.{Mark}
use Rattle.schedule_marks.specs.declared.mark.Mark.TheVariants as mark
use Rattle.schedule_marks.specs.Marks.{until_of, lock_by, is_lock_on, shows_lock, earlier_write, until_write, lock_until, lock_mark, lock_from, lock_in, locks_along, ceiling_in}
use Rattle.job_rows.proofs.Bounding.{clash}
use Rattle.schedule_marks.proofs.Along.{until_most}
use Rattle.law_texts.specs.Drawn.{HeldLock, held_by, lock_shown}
use Rattle.law_texts.proofs.Lists.{in_cons_option, cons_option_here, cons_option_later, AreApart}
use Rattle.law_texts.proofs.Shown.{shown_then}
use Rattle.law_texts.proofs.Goes.{IsSince, IsUpTo}
use Rattle.law_texts.proofs.Steps.{same_as_self}

-- ---- a step that shows a lock

pub record Shows (job : JobId) (item : ItemId) (is_write : Bool) (e : Entry) : Type 0 where
  pub by : JobId
  pub op : Op
  pub outcome : Outcome
  pub over : Option End
  pub tick : ℕ
  pub entry_is : e ≡ Step by op outcome over tick
  pub job_is : by ≡ job
  pub lock : ItemId × Bool
  pub locks : lock_by op outcome ≡ Some lock
  pub item_is : lock.0.0 ≡ item.0
  pub strong : (lock.1 || not is_write) ≡ true

pub shows_what : (job : JobId) (item : ItemId) (is_write : Bool) (e : Entry) → shows_lock job item is_write e ≡ true → Shows job item is_write e
shows_what job item is_write (Planned tx tick) h = absurd cc
shows_what job item is_write (Step by op outcome over tick) h =
    let p = and_parts (same_job by job) (is_lock_on item is_write (lock_by op outcome)) h in at (same_job_is by job p.0) (lock_by op outcome) refl p.1 where
      at : by ≡ job → (o : Option (ItemId × Bool)) → lock_by op outcome ≡ o → is_lock_on item is_write o ≡ true → Shows job item is_write (Step by op outcome over tick)
      at j None e k = absurd cc
      at j (Some l) e k =
          let q = and_parts (l.0.0 == item.0) (l.1 || not is_write) k in
          record {
            by = by;
            op = op;
            outcome = outcome;
            over = over;
            tick = tick;
            entry_is = refl;
            job_is = j;
            lock = l;
            locks = e;
            item_is = eqb-true _ _ q.0;
            strong = q.1;
          }
shows_what job item is_write (Blocked by op on ceiling tick) h = absurd cc
shows_what job item is_write (Idle from to) h = absurd cc

pub step_shows : (job : JobId) (item : ItemId) (is_write : Bool) (by : JobId) (op : Op) (outcome : Outcome) (over : Option End) (tick : ℕ) (l : ItemId × Bool)
    → by ≡ job → lock_by op outcome ≡ Some l → l.0.0 ≡ item.0 → (l.1 || not is_write) ≡ true → shows_lock job item is_write (Step by op outcome over tick) ≡ true
step_shows job item is_write by op outcome over tick l j e i s =
    and_from _ _ (same_as_self by job j) (ap (is_lock_on item is_write) e ∙ and_from _ _ (eq-eqb _ _ i) s)

pub as_strong : (b : Bool) → (b || not b) ≡ true
as_strong true = refl
as_strong false = refl

-- ---- until when

earlier_here : (job : JobId) (item : ItemId) (to t : ℕ) (e : Entry) → shows_lock job item true e ≡ true → IsUpTo (t + 1) e → earlier_write job item to e ≤ t
earlier_here job item to t (Planned tx tick) s u = absurd cc
earlier_here job item to t (Step by op outcome over tick) s u = at (shows_lock job item true (Step by op outcome over tick)) s where
  at : (b : Bool) → b ≡ true → cond b (min tick to) to ≤ t
  at true e = omega (arith, u)
  at false e = absurd cc
earlier_here job item to t (Blocked by op on ceiling tick) s u = absurd cc
earlier_here job item to t (Idle from tick) s u = absurd cc

-- a read lock ends by a write
pub until_written : (job : JobId) (item : ItemId) (to t : ℕ) (es : List Entry) (e : Entry) → In e es → shows_lock job item true e ≡ true → IsUpTo (t + 1) e → until_write job item to es ≤ t
until_written job item to t [] e i s u = absurd i
until_written job item to t (q ∷ qs) e (inl is) s u =
    let here : earlier_write job item to q ≤ t = subst (λ (k : Entry). earlier_write job item to k ≤ t) is (earlier_here job item to t e s u) in
    omega (arith, here, until_most job item (earlier_write job item to q) qs)
until_written job item to t (q ∷ qs) e (inr i) s u = until_written job item (earlier_write job item to q) t qs e i s u

earlier_late : (job : JobId) (item : ItemId) (to t : ℕ) (e : Entry) → t < to → (shows_lock job item true e ≡ true → IsSince (t + 1) e) → t < earlier_write job item to e
earlier_late job item to t (Step by op outcome over tick) lt h = at (shows_lock job item true (Step by op outcome over tick)) refl where
  at : (b : Bool) → shows_lock job item true (Step by op outcome over tick) ≡ b → t < cond b (min tick to) to
  at true e = let late = h e in omega (arith, late, lt)
  at false e = lt
earlier_late job item to t other lt h = lt

-- and not before the first
pub until_late : (job : JobId) (item : ItemId) (to t : ℕ) (es : List Entry) → t < to → ((e : Entry) → In e es → shows_lock job item true e ≡ true → IsSince (t + 1) e) → t < until_write job item to es
until_late job item to t [] lt h = lt
until_late job item to t (q ∷ qs) lt h =
    until_late job item (earlier_write job item to q) t qs (earlier_late job item to t q lt (h q (inl refl))) (λ e i. h e (inr i))

-- ---- the marks of locks

-- a lock, as its mark shows it
abbrev pub held_as : JobId → ItemId × Bool → HeldLock
held_as job lock = held_by job (record { item = lock.0.0; is_write = lock.1 })

-- a mark is that of a step that shows the lock, between the entries before it and those after it
pub record IsTaken (set : Set) (stop : ℕ) (shown : List JobRow) (before after : List Entry) (e : Entry) (m : Mark) : Type 0 where
  pub job : JobId
  pub op : Op
  pub outcome : Outcome
  pub over : Option End
  pub tick : ℕ
  pub entry_is : e ≡ Step job op outcome over tick
  pub lock : ItemId × Bool
  pub by : lock_by op outcome ≡ Some lock
  pub first : list_any (shows_lock job lock.0 lock.1) before ≡ false
  pub mark_is : m ≡ mark.Lock job lock.0 lock.1 (ceiling_in set lock.0 lock.1) tick (lock_until job lock.0 lock.1 (until_of stop shown job) after)

-- a mark of entries is that of one of them
pub record IsLockOf (set : Set) (stop : ℕ) (shown : List JobRow) (before es : List Entry) (m : Mark) : Type 0 where
  pub front : List Entry
  pub here : Entry
  pub back : List Entry
  pub parts : es ≡ front ++ here ∷ back
  pub taken : IsTaken set stop shown (before ++ front) back here m

new_at : (b : Bool) (o : Option Mark) (m : Mark) → cond b None o ≡ Some m → (b ≡ false) × (o ≡ Some m)
new_at true o m e = absurd cc
new_at false o m e = (refl, e)

pub mark_at : (b : Bool) (k m : Mark) → cond b (Some k) None ≡ Some m → m ≡ k
mark_at true k m e = cc
mark_at false k m e = absurd cc

module _ (set : Set) (part : Part) (stop : ℕ) (shown : List JobRow) where
  lock_here : (before es : List Entry) (e : Entry) (m : Mark) → lock_in set part stop shown before es e ≡ Some m → IsTaken set stop shown before es e m
  lock_here before es (Planned tx tick) m h = absurd cc
  lock_here before es (Step job op outcome over tick) m h = at (lock_by op outcome) refl h where
    at : (o : Option (ItemId × Bool)) → lock_by op outcome ≡ o → lock_from set part (until_of stop shown job) before es job tick o ≡ Some m → IsTaken set stop shown before es (Step job op outcome over tick) m
    at None e k = absurd cc
    at (Some l) e k =
        let n = new_at (list_any (shows_lock job l.0 l.1) before) _ m k in
        record { job = job; op = op; outcome = outcome; over = over; tick = tick; entry_is = refl; lock = l; by = e; first = n.0; mark_is = mark_at _ _ m n.1 }
  lock_here before es (Blocked by op on ceiling tick) m h = absurd cc
  lock_here before es (Idle from to) m h = absurd cc

  pub lock_is : (before es : List Entry) (m : Mark) → In m (locks_along set part stop shown before es) → IsLockOf set stop shown before es m
  lock_is before [] m h = absurd h
  lock_is before (e ∷ es) m h = elim (in_cons_option m (lock_in set part stop shown before es e) (locks_along set part stop shown (before ++ e ∷ []) es) h) [
    | inl here ↦ record {
      front = [];
      here = e;
      back = es;
      parts = refl;
      taken = subst (λ (l : List Entry). IsTaken set stop shown l es e m) (sym (append-nil before)) (lock_here before es e m here);
    }
    | inr later ↦ (let r = lock_is (before ++ e ∷ []) es m later in
        record {
          front = e ∷ r.front;
          here = r.here;
          back = r.back;
          parts = ap (λ (l : List Entry). e ∷ l) r.parts;
          taken = subst (λ (l : List Entry). IsTaken set stop shown l r.back r.here m) (append_assoc before (e ∷ []) r.front) r.taken;
        })
  ]

  -- the first step that shows a lock has a mark
  pub lock_there : (before front back : List Entry) (job : JobId) (op : Op) (outcome : Outcome) (over : Option End) (t : ℕ) (l : ItemId × Bool)
      → lock_by op outcome ≡ Some l → list_any (shows_lock job l.0 l.1) (before ++ front) ≡ false → t < part.to → part.from < lock_until job l.0 l.1 (until_of stop shown job) back
      → In (mark.Lock job l.0 l.1 (ceiling_in set l.0 l.1) t (lock_until job l.0 l.1 (until_of stop shown job) back)) (locks_along set part stop shown before (front ++ Step job op outcome over t ∷ back))
  lock_there before [] back job op outcome over t l by first a b =
      let m : Mark = mark.Lock job l.0 l.1 (ceiling_in set l.0 l.1) t (lock_until job l.0 l.1 (until_of stop shown job) back) in
      let none : list_any (shows_lock job l.0 l.1) before ≡ false = ap (list_any (shows_lock job l.0 l.1)) (sym (append-nil before)) ∙ first in
      cons_option_here m (lock_in set part stop shown before back (Step job op outcome over t)) (locks_along set part stop shown (before ++ Step job op outcome over t ∷ []) back)
      (ap (lock_from set part (until_of stop shown job) before back job t) by
      ∙ (ap (λ (c : Bool). cond c None (lock_mark set part job l.0 l.1 t (lock_until job l.0 l.1 (until_of stop shown job) back))) none
      ∙ ap (λ (c : Bool). cond c (Some m) None) (and_from _ _ (lt-ltb _ _ a) (lt-ltb _ _ b))))
  lock_there before (e ∷ front) back job op outcome over t l by first a b =
      cons_option_later _ (lock_in set part stop shown before (front ++ Step job op outcome over t ∷ back) e) (locks_along set part stop shown (before ++ e ∷ []) (front ++ Step job op outcome over t ∷ back))
      (lock_there (before ++ e ∷ []) front back job op outcome over t l by (ap (list_any (shows_lock job l.0 l.1)) (append_assoc before (e ∷ []) front) ∙ first) a b)

  -- ---- each lock once

  in_tick_is : (tick : ℕ) (m : Mark) (h : HeldLock) (before after : List Entry) (e : Entry) (k : IsTaken set stop shown before after e m) → lock_shown tick m ≡ Some h → h ≡ held_as k.job k.lock
  in_tick_is tick m h before after e k g = (shown_then tick k.tick (lock_until k.job k.lock.0 k.lock.1 (until_of stop shown k.job) after) h (held_as k.job k.lock) (ap (lock_shown tick) (sym k.mark_is) ∙ g)).is

  not_again : (tick : ℕ) (before es : List Entry) (e : Entry) (m : Mark) (h : HeldLock) → lock_in set part stop shown before es e ≡ Some m → lock_shown tick m ≡ Some h
      → In h (filter_map (lock_shown tick) (locks_along set part stop shown (before ++ e ∷ []) es)) → ⊥
  not_again tick before es e m h is shows again =
      let a = lock_here before es e m is in
      let f = filter_map_in (lock_shown tick) h (locks_along set part stop shown (before ++ e ∷ []) es) again in
      let r = lock_is (before ++ e ∷ []) es f.0 f.1 in
      let b = r.taken in
      let same = sym (in_tick_is tick m h before es e a shows) ∙ in_tick_is tick f.0 h ((before ++ e ∷ []) ++ r.front) r.back r.here b f.2 in
      let job : a.job ≡ b.job = ap (λ (q : HeldLock). q.job) same in
      let item : a.lock.0.0 ≡ b.lock.0.0 = ap (λ (q : HeldLock). q.lock.item) same in
      let kind : a.lock.1 ≡ b.lock.1 = ap (λ (q : HeldLock). q.lock.is_write) same in
      let strong : (a.lock.1 || not b.lock.1) ≡ true = ap (λ (c : Bool). c || not b.lock.1) kind ∙ as_strong b.lock.1 in
      let yes : shows_lock b.job b.lock.0 b.lock.1 e ≡ true =
      ap (shows_lock b.job b.lock.0 b.lock.1) a.entry_is ∙ step_shows b.job b.lock.0 b.lock.1 a.job a.op a.outcome a.over a.tick a.lock job a.by item strong in
      let there : In e ((before ++ e ∷ []) ++ r.front) = in_left e (before ++ e ∷ []) r.front (in_right e before (e ∷ []) (inl refl)) in
      clash _ (in_any (shows_lock b.job b.lock.0 b.lock.1) e ((before ++ e ∷ []) ++ r.front) there yes) b.first

  in_tick_apart : (tick : ℕ) (before es : List Entry) (e : Entry) (m : Mark) → lock_in set part stop shown before es e ≡ Some m → (o : Option HeldLock) → lock_shown tick m ≡ o
      → AreApart (filter_map (lock_shown tick) (locks_along set part stop shown (before ++ e ∷ []) es)) → AreApart (cons_option o (filter_map (lock_shown tick) (locks_along set part stop shown (before ++ e ∷ []) es)))
  in_tick_apart tick before es e m is None s a = a
  in_tick_apart tick before es e m is (Some h) s a = (not_again tick before es e m h is s, a)

  pub drawn_apart : (tick : ℕ) (before es : List Entry) → AreApart (filter_map (lock_shown tick) (locks_along set part stop shown before es))
  drawn_apart tick before [] = tt
  drawn_apart tick before (e ∷ es) = at (lock_in set part stop shown before es e) refl (drawn_apart tick (before ++ e ∷ []) es) where
    at : (o : Option Mark) → lock_in set part stop shown before es e ≡ o → AreApart (filter_map (lock_shown tick) (locks_along set part stop shown (before ++ e ∷ []) es))
        → AreApart (filter_map (lock_shown tick) (cons_option o (locks_along set part stop shown (before ++ e ∷ []) es)))
    at None is a = a
    at (Some m) is a = in_tick_apart tick before es e m is (lock_shown tick m) refl a
