-- The ceilings and the refusal that the code finds are the definition's.
use Rattle.std.proofs.Common.{◌≡◌, ℕ, max, ◌==◌, Bool, true, false, cond, not, List, [], ◌∷◌, ◌++◌, map, Option, None, Some, refl, ap, sym, ◌∙◌, arith}
use Rattle.std.specs.Prelude.{nat_lt}
use Rattle.std.specs.List.{filter}
use Rattle.std.specs.Option.{option_map}
use Rattle.rt_base.specs.LockRule.{stands_above, upper, topmost, unless_below, blocker}
use Rattle.item_model.specs.declared.stored.OutsideRead.{OutsideRead}
use Rattle.item_model.specs.declared.stored.OwnWrite.{OwnWrite}
use Rattle.item_model.specs.Work.{has_written}
use Rattle.txn_set.specs.Set.{Set}
use Rattle.txn_set.specs.Ceilings.{greatest, write_ceiling, absolute_ceiling}
use Rattle.step_journal.specs.State.{Row, pending, prio}
use Rattle.step_journal.specs.LockRule.{Above, lock_ceiling, ceiling_of, others, refusal}
use Rattle.board.specs.declared.replies.StepReply.{StepReply}
use Rattle.board.specs.declared.replies.StepReply.TheVariants as reply
use Rattle.plain_core.specs.declared.locks.Rival.{Rival}
use Rattle.plain_core.specs.Locks.{write_by, absolute_by, writes_by, ceiling_by, upper_by, topmost_by, blocked_or, refused_by}

max_zero : (n : ℕ) → n ≡ max 0 n
max_zero n = omega arith

max_assoc : (a b c : ℕ) → max a (max b c) ≡ max (max a b) c
max_assoc a b c = omega arith

reads_are : (set : Set) (reads : List OutsideRead) → greatest (map (lock_ceiling set) (map (λ r. record { item = r.item.0; is_write = false }) reads)) ≡ greatest (map (λ r. write_by set.txns r.item.0) reads)
unfolding write_ceiling
reads_are set [] = refl
reads_are set (r ∷ rs) = ap (λ (n : ℕ). max (write_by set.txns r.item.0) n) (reads_are set rs)

locks_are : (set : Set) (writes : List OwnWrite) (reads : List OutsideRead)
    → greatest (map (lock_ceiling set) (map (λ w. record { item = w.item.0; is_write = true }) writes ++ map (λ r. record { item = r.item.0; is_write = false }) reads))
    ≡ max (writes_by set.txns writes) (greatest (map (λ r. write_by set.txns r.item.0) reads))
unfolding absolute_ceiling
locks_are set [] reads = reads_are set reads ∙ max_zero (greatest (map (λ r. write_by set.txns r.item.0) reads))
locks_are set (w ∷ ws) reads =
    ap (λ (n : ℕ). max (absolute_by set.txns w.item.0) n) (locks_are set ws reads)
    ∙ max_assoc (absolute_by set.txns w.item.0) (writes_by set.txns ws) (greatest (map (λ r. write_by set.txns r.item.0) reads))

pub ceiling_is : (set : Set) (row : Row) → ceiling_of set row ≡ ceiling_by set.txns row.work
unfolding ceiling_of
ceiling_is set row = locks_are set row.work.writes (filter (λ r. not (has_written row.work r.item.0)) row.work.reads)

-- the topmost rival

abbrev rival_of : Set → Row → Rival
rival_of set r = record { job = r.job; prio = prio set r; ceiling = ceiling_of set r }

upper_at : (set : Set) (a b : Row) (c : Bool) → cond c (rival_of set b) (rival_of set a) ≡ rival_of set (cond c b a)
upper_at set a b true = refl
upper_at set a b false = refl

upper_is : (set : Set) (a : Row) (o : Option Row) → upper (λ (r : Rival). r.prio) (λ (r : Rival). r.ceiling) (rival_of set a) (option_map (rival_of set) o) ≡ rival_of set (upper (prio set) (ceiling_of set) a o)
upper_is set a None = refl
upper_is set a (Some b) = upper_at set a b (stands_above (prio set) (ceiling_of set) b a)

rival_at : (set : Set) (r : Row) (rest : List Row) (best : Option Rival) (b : Bool) → best ≡ option_map (rival_of set) (topmost (prio set) (ceiling_of set) rest)
    → upper_by (cond b None (Some (record { job = r.job; prio = prio set r; ceiling = ceiling_by set.txns r.work }))) best
    ≡ option_map (rival_of set) (topmost (prio set) (ceiling_of set) (cond (not b) (r ∷ rest) rest))
rival_at set r rest best true e = e
rival_at set r rest best false e =
    ap (λ (n : ℕ). upper_by (Some (record { job = r.job; prio = prio set r; ceiling = n })) best) (sym (ceiling_is set r))
    ∙ (ap (upper_by (Some (rival_of set r))) e
    ∙ ap Some (upper_is set r (topmost (prio set) (ceiling_of set) rest)))

topmost_is : (set : Set) (tx : ℕ) (rows : List (Option Row)) → topmost_by set.txns tx rows ≡ option_map (rival_of set) (topmost (prio set) (ceiling_of set) (filter (λ r. not (r.job.tx.0 == tx)) (pending rows)))
topmost_is set tx [] = refl
topmost_is set tx (None ∷ rows) = topmost_is set tx rows
topmost_is set tx (Some r ∷ rows) = rival_at set r (filter (λ r. not (r.job.tx.0 == tx)) (pending rows)) (topmost_by set.txns tx rows) (r.job.tx.0 == tx) (topmost_is set tx rows)

-- the refusal

abbrev pub block_on : Option Above → StepReply → StepReply
block_on None rest = rest
block_on (Some above) rest = reply.Blocked above.holder above.ceiling

block_at : (set : Set) (r : Row) (rest : StepReply) (c : Bool)
    → cond c rest (reply.Blocked r.job (ceiling_of set r)) ≡ block_on (option_map (λ r. record { holder = r.job; ceiling = ceiling_of set r }) (cond c None (Some r))) rest
block_at set r rest true = refl
block_at set r rest false = refl

blocked_is : (set : Set) (own : ℕ) (o : Option Row) (rest : StepReply)
    → blocked_or own (option_map (rival_of set) o) rest ≡ block_on (option_map (λ r. record { holder = r.job; ceiling = ceiling_of set r }) (unless_below (ceiling_of set) own o)) rest
blocked_is set own None rest = refl
blocked_is set own (Some r) rest = block_at set r rest (nat_lt (ceiling_of set r) own)

pub refused_is : (set : Set) (rows : List (Option Row)) (row : Row) (rest : StepReply) → refused_by set.txns rows row.job rest ≡ block_on (refusal set rows row) rest
unfolding refusal blocker
refused_is set rows row rest =
    ap (λ (o : Option Rival). blocked_or (prio set row) o rest) (topmost_is set row.job.tx.0 rows)
    ∙ blocked_is set (prio set row) (topmost (prio set) (ceiling_of set) (others rows row)) rest
