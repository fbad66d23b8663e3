-- The lock that a step takes, and when it takes none that lasts in the part.
use Rattle.std.proofs.Common.{◌≡◌, ◌⊎◌, ℕ, ◌<◌, ◌≤◌, Bool, true, false, cond, nat_lt, List, [], ◌∷◌, Option, None, Some, min, sym, ap, ◌∙◌, refl, inl, inr, arith}
use Rattle.std.proofs.lemmas.Bool.{and_parts, and_from, ltb-true, lt-ltb}
use Rattle.std.specs.List.{list_any}
use Rattle.rt_base.specs.declared.ids.ItemId.{ItemId}
use Rattle.rt_base.specs.declared.ids.JobId.{JobId}
use Rattle.rt_base.specs.declared.operation.Op.{Op}
use Rattle.rt_base.specs.declared.operation.Outcome.{Outcome}
use Rattle.rt_base.specs.declared.operation.End.{End}
use Rattle.txn_set.specs.Set.{Set}
use Rattle.step_journal.specs.declared.entry.Entry.{Entry}
use Rattle.step_journal.specs.declared.entry.Entry.TheVariants.{Step}
use Rattle.job_rows.specs.declared.row.JobRow.{JobRow}
use Rattle.schedule_marks.specs.declared.part.Part.{Part}
use Rattle.schedule_marks.specs.declared.mark.Mark.{Mark}
use Rattle.schedule_marks.specs.Parts.{meets}
use Rattle.schedule_marks.specs.Marks.{until_of, lock_by, shows_lock, earlier_write, until_write, lock_until, lock_mark, lock_from, lock_in}

-- ---- a lock whose job ends before the part, or takes it after the part, is not drawn

pub earlier_most : (job : JobId) (item : ItemId) (to : ℕ) (e : Entry) → earlier_write job item to e ≤ to
earlier_most job item to (Step by op outcome over tick) = at (shows_lock job item true (Step by op outcome over tick)) where
  at : (b : Bool) → cond b (min tick to) to ≤ to
  at true = omega arith
  at false = omega arith
earlier_most job item to e = omega arith

pub until_most : (job : JobId) (item : ItemId) (to : ℕ) (es : List Entry) → until_write job item to es ≤ to
until_most job item to [] = omega arith
until_most job item to (e ∷ es) = omega (arith, until_most job item (earlier_write job item to e) es, earlier_most job item to e)

pub lock_most : (job : JobId) (item : ItemId) (is_write : Bool) (to : ℕ) (es : List Entry) → lock_until job item is_write to es ≤ to
lock_most job item true to es = omega arith
lock_most job item false to es = until_most job item to es

meets_longer : (part : Part) (from to end : ℕ) → to ≤ end → meets part from to ≡ true → meets part from end ≡ true
meets_longer part from to end le m =
    let p = and_parts (nat_lt from part.to) (nat_lt part.from to) m in
    let lt : part.from < to = ltb-true _ _ p.1 in
    and_from _ _ p.0 (lt-ltb part.from end (omega (arith, lt, le)))

no_mark : (b : Bool) (m : Mark) → b ≡ false → None ≡ cond b (Some m) None
no_mark true m e = absurd cc
no_mark false m e = refl

none_at : (set : Set) (part : Part) (before after : List Entry) (job : JobId) (tick end : ℕ) (l : ItemId × Bool) (b c : Bool) → list_any (shows_lock job l.0 l.1) before ≡ b
    → meets part tick (lock_until job l.0 l.1 end after) ≡ c → meets part tick end ≡ false
    → None ≡ cond b None (lock_mark set part job l.0 l.1 tick (lock_until job l.0 l.1 end after))
none_at set part before after job tick end l true c e m none = refl
none_at set part before after job tick end l false true e m none =
    absurd (let yes = meets_longer part tick (lock_until job l.0 l.1 end after) end (lock_most job l.0 l.1 end after) m in cc (yes, none))
none_at set part before after job tick end l false false e m none = no_mark (meets part tick (lock_until job l.0 l.1 end after)) _ m

pub not_drawn : (set : Set) (part : Part) (before after : List Entry) (job : JobId) (tick end : ℕ) (l : ItemId × Bool) → (meets part tick end ≡ false) ⊎ (list_any (shows_lock job l.0 l.1) before ≡ true)
    → None ≡ lock_from set part end before after job tick (Some l)
not_drawn set part before after job tick end l (inl none) = none_at set part before after job tick end l (list_any (shows_lock job l.0 l.1) before) (meets part tick (lock_until job l.0 l.1 end after)) refl refl none
not_drawn set part before after job tick end l (inr held) = ap (λ (b : Bool). cond b None (lock_mark set part job l.0 l.1 tick (lock_until job l.0 l.1 end after))) (sym held)

-- the lock of a step, by its parts
module _ (set : Set) (part : Part) (stop : ℕ) (rows : List JobRow) (before after : List Entry) (e : Entry) (job : JobId) (op : Op) (outcome : Outcome) (over : Option End) (tick end : ℕ) (item : ItemId) (w : Bool)
    (entry_is : e ≡ Step job op outcome over tick) (taken : lock_by op outcome ≡ Some (item, w)) (end_is : end ≡ until_of stop rows job) where
  taken_is : lock_from set part end before after job tick (Some (item, w)) ≡ lock_in set part stop rows before after e
  taken_is =
      ap (λ (n : ℕ). lock_from set part n before after job tick (Some (item, w))) end_is
      ∙ (ap (lock_from set part (until_of stop rows job) before after job tick) (sym taken) ∙ ap (lock_in set part stop rows before after) (sym entry_is))

  pub none_taken : (meets part tick end ≡ false) ⊎ (list_any (shows_lock job item w) before ≡ true) → None ≡ lock_in set part stop rows before after e
  none_taken h = not_drawn set part before after job tick end (item, w) h ∙ taken_is

  pub one_taken : (to : ℕ) (m : Option Mark) → list_any (shows_lock job item w) before ≡ false → to ≡ lock_until job item w end after → m ≡ lock_mark set part job item w tick to → m ≡ lock_in set part stop rows before after e
  one_taken to m first until is =
      is ∙ (ap (lock_mark set part job item w tick) until
      ∙ (ap (λ (b : Bool). cond b None (lock_mark set part job item w tick (lock_until job item w end after))) (sym first) ∙ taken_is))
