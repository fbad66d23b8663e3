-- The refusal that the code finds is the board's answer, and where there is none the operation is granted.
use Rattle.std.proofs.Common.{◌≡◌, ℕ, suc, ◌-◌, ◌<◌, ◌==◌, Bool, true, false, cond, not, ◌&&◌, ◌||◌, List, [], ◌∷◌, length, Option, None, Some, get_or, refl, ap, sym, ◌∙◌, subst, arith}
use Rattle.std.proofs.Math.ListN.{get_or-map}
use Rattle.std.proofs.lemmas.Bool.{eqb-true, eq-eqb, and_from, and_parts, leb-false}
use Rattle.std.specs.Prelude.{nat_lt, nat_le, is_some, MatchOption}
use Rattle.std.specs.List.{list_any}
use Rattle.std.specs.Option.{option_map}
use Rattle.rt_base.specs.declared.ids.ItemId.{ItemId}
use Rattle.rt_base.specs.declared.ids.JobId.{JobId}
use Rattle.rt_base.specs.declared.operation.Op.{Op}
use Rattle.rt_base.specs.declared.operation.Op.TheVariants.{Read, Write, Compute, Commit, Quit}
use Rattle.item_model.specs.Work.{Work, outcome_of}
use Rattle.strict_commit.specs.Jobs.{unwritten_of}
use Rattle.ceiling_table.specs.Held.{HasItem}
use Rattle.txn_set.specs.Set.{Set, IsCompiled, AreItemsOf, txn_of, no_txn, names_item}
use Rattle.step_journal.specs.State.{State, Row, row_of, same_job}
use Rattle.step_journal.specs.LockRule.{Above}
use Rattle.step_journal.specs.Running.{running, job_row}
use Rattle.step_journal.specs.Step.{may_ask, lock_refusal, with_step, end_of}
use Rattle.law_histories.proofs.Invariant.{in_range, same_job_is}
use Rattle.board.specs.declared.replies.StepReply.{StepReply}
use Rattle.board.specs.declared.replies.StepReply.TheVariants as reply
use Rattle.board.specs.Answers.{IsAsking, step_reply, running_reply, asked_reply, checked, unwritten_or, unwritten, lock_reply, ended_number, last_end}
use Rattle.board.proofs.Asks.{complete_is, job_row_here}
use Rattle.board.proofs.Tests.{le_not_lt, lt_not_le, lt_false}
use Rattle.core_tables.specs.Rows.{Facts, AreFactsOf, Accesses, accesses_at, accesses_of, head_of, above_of}
use Rattle.core_tables.specs.declared.head.Blocker.{Blocker}
use Rattle.core_tables.specs.declared.head.Head.{Head}
use Rattle.core_tables.specs.Seen.{TablesSeen}
use Rattle.core_tables.specs.Tables.{AreTables}
use Rattle.core_tables.specs.Legal.{IsLegalState, IsGranted, IsBlocked, Refuses}
use Rattle.core_tables.specs.Changes.{denied, access_by}
use Rattle.core_tables.specs.Asks.{asked_by, turned_by, runs_now, waiting_for, waits_by, refused_by, first_of, blocked_by}
use Rattle.core_tables.proofs.Facts.{known}
use Rattle.core_tables.proofs.Cancels.{row_named}

-- the declared items of a transaction

pub reads_of : (set : Set) (tx : ℕ) → IsCompiled set → tx < length set.txns → AreItemsOf set (txn_of set tx).reads
reads_of set tx ok lt = ok.reads tx no_txn lt

pub writes_of : (set : Set) (tx : ℕ) → IsCompiled set → tx < length set.txns → AreItemsOf set (txn_of set tx).writes
writes_of set tx ok lt = ok.writes tx no_txn lt

pub accesses_are : (set : Set) (facts : Facts) (tx : ℕ) → AreFactsOf set facts → accesses_at facts tx ≡ accesses_of (txn_of set tx)
accesses_are set facts tx are =
    ap (λ (l : List Accesses). get_or l tx (record { reads = []; writes = [] })) are.accesses ∙ get_or-map accesses_of set.txns tx no_txn

any_low_at : (i : ItemId) (items : List ItemId) (n m : ℕ) (b : Bool) → (i.0 == n) ≡ b → i.0 < m → (list_any (λ i. i.0 == n) items ≡ true → n < m) → (b || list_any (λ i. i.0 == n) items) ≡ true → n < m
any_low_at i items n m true e lt rest h = omega (arith, eqb-true _ _ e, lt)
any_low_at i items n m false e lt rest h = rest h

any_low : (items : List ItemId) (n m : ℕ) → ((k : ℕ) (d : ItemId) → k < length items → (get_or items k d).0 < m) → list_any (λ i. i.0 == n) items ≡ true → n < m
any_low [] n m all h = absurd cc
any_low (i ∷ items) n m all h = any_low_at i items n m (i.0 == n) refl (all 0 i (omega arith)) (any_low items n m (λ k d lt. all (suc k) d (omega (arith, lt)))) h

-- where nothing is denied

record Allows (declared : List ItemId) (item : ItemId) (quiet used : ℕ) : Type 0 where
  named : names_item declared item.0 ≡ true
  late : nat_lt used quiet ≡ false

allows_at : (declared : List ItemId) (item : ItemId) (quiet used : ℕ) (b c : Bool) → names_item declared item.0 ≡ b → nat_lt used quiet ≡ c
    → cond b (cond c (Some (reply.TooEarly (quiet - used))) None) (Some (reply.Undeclared item)) ≡ None → Allows declared item quiet used
allows_at declared item quiet used true true e f h = absurd cc
allows_at declared item quiet used true false e f h = record { named = e; late = f }
allows_at declared item quiet used false c e f h = absurd cc

allows : (declared : List ItemId) (item : ItemId) (quiet used : ℕ) → access_by declared item quiet used ≡ None → Allows declared item quiet used
allows declared item quiet used h = allows_at declared item quiet used (names_item declared item.0) (nat_lt used quiet) refl refl h

late_enough : (quiet used : ℕ) → nat_lt used quiet ≡ false → nat_le quiet used ≡ true
late_enough quiet used h = le_not_lt quiet used ∙ ap not h

none_of_map : (o : Option ItemId) → option_map (λ i. reply.Unwritten i) o ≡ None → o ≡ None
none_of_map None h = refl
none_of_map (Some i) h = absurd cc

pub may_of : (set : Set) (row : Row) (op : Op) → denied set row op ≡ None → may_ask set row op ≡ true
may_of set row (Read item) h =
    let a = allows (txn_of set row.job.tx.0).reads item (txn_of set row.job.tx.0).quiet row.used h in
    and_from _ _ a.named (late_enough (txn_of set row.job.tx.0).quiet row.used a.late)
may_of set row (Write item value) h =
    let a = allows (txn_of set row.job.tx.0).writes item (txn_of set row.job.tx.0).quiet row.used h in
    and_from _ _ a.named (late_enough (txn_of set row.job.tx.0).quiet row.used a.late)
may_of set row Commit h =
    complete_is set (txn_of set row.job.tx.0).writes row.work
    ∙ ap (λ (o : Option ItemId). not (is_some o)) (none_of_map (unwritten set (txn_of set row.job.tx.0).writes row.work) h)
may_of set row other h = refl

pub has_item : (set : Set) (row : Row) (op : Op) → IsCompiled set → row.job.tx.0 < length set.txns → denied set row op ≡ None → HasItem (length set.items) op
has_item set row (Read item) ok lt h =
    any_low (txn_of set row.job.tx.0).reads item.0 (length set.items) (reads_of set row.job.tx.0 ok lt).in_range
    (allows (txn_of set row.job.tx.0).reads item (txn_of set row.job.tx.0).quiet row.used h).named
has_item set row (Write item value) ok lt h =
    any_low (txn_of set row.job.tx.0).writes item.0 (length set.items) (writes_of set row.job.tx.0 ok lt).in_range
    (allows (txn_of set row.job.tx.0).writes item (txn_of set row.job.tx.0).quiet row.used h).named
has_item set row other ok lt h = tt

-- what is denied is the board's answer

abbrev unless : Option StepReply → StepReply → StepReply
unless None rest = rest
unless (Some r) rest = r

access_checked : (item : ItemId) (quiet used : ℕ) (rest : StepReply) (b c : Bool)
    → cond b (cond c (reply.TooEarly (quiet - used)) rest) (reply.Undeclared item) ≡ unless (cond b (cond c (Some (reply.TooEarly (quiet - used))) None) (Some (reply.Undeclared item))) rest
access_checked item quiet used rest true true = refl
access_checked item quiet used rest true false = refl
access_checked item quiet used rest false c = refl

missed_checked : (o : Option ItemId) (rest : StepReply) → unwritten_or o rest ≡ unless (option_map (λ i. reply.Unwritten i) o) rest
missed_checked None rest = refl
missed_checked (Some i) rest = refl

checked_is : (set : Set) (row : Row) (op : Op) (rest : StepReply) → checked set row op rest ≡ unless (denied set row op) rest
checked_is set row (Read item) rest = access_checked item (txn_of set row.job.tx.0).quiet row.used rest (names_item (txn_of set row.job.tx.0).reads item.0) (nat_lt row.used (txn_of set row.job.tx.0).quiet)
checked_is set row (Write item value) rest = access_checked item (txn_of set row.job.tx.0).quiet row.used rest (names_item (txn_of set row.job.tx.0).writes item.0) (nat_lt row.used (txn_of set row.job.tx.0).quiet)
checked_is set row Commit rest = missed_checked (unwritten set (txn_of set row.job.tx.0).writes row.work) rest
checked_is set row other rest = refl

module _ (set : Set) (s : State) (job : JobId) (op : Op) where
  refuses_access : (item : ItemId) (quiet used : ℕ) (r : StepReply) (b c : Bool) → cond b (cond c (Some (reply.TooEarly (quiet - used))) None) (Some (reply.Undeclared item)) ≡ Some r → Refuses set s job op r
  refuses_access item quiet used r true true h = let e : reply.TooEarly (quiet - used) ≡ r = cc in subst (Refuses set s job op) e (tt {0})
  refuses_access item quiet used r true false h = absurd cc
  refuses_access item quiet used r false c h = let e : reply.Undeclared item ≡ r = cc in subst (Refuses set s job op) e (tt {0})

  refuses_missed : (o : Option ItemId) (r : StepReply) → option_map (λ i. reply.Unwritten i) o ≡ Some r → Refuses set s job op r
  refuses_missed None r h = absurd cc
  refuses_missed (Some i) r h = let e : reply.Unwritten i ≡ r = cc in subst (Refuses set s job op) e (tt {0})

  refuses_denied : (row : Row) (asked : Op) (r : StepReply) → denied set row asked ≡ Some r → Refuses set s job op r
  refuses_denied row (Read item) r h = refuses_access item (txn_of set row.job.tx.0).quiet row.used r (names_item (txn_of set row.job.tx.0).reads item.0) (nat_lt row.used (txn_of set row.job.tx.0).quiet) h
  refuses_denied row (Write item value) r h = refuses_access item (txn_of set row.job.tx.0).quiet row.used r (names_item (txn_of set row.job.tx.0).writes item.0) (nat_lt row.used (txn_of set row.job.tx.0).quiet) h
  refuses_denied row Compute r h = absurd cc
  refuses_denied row Commit r h = refuses_missed (unwritten set (txn_of set row.job.tx.0).writes row.work) r h
  refuses_denied row Quit r h = absurd cc

  abbrev Tells : (kept room : ℕ) → StepReply → Option StepReply → Type 0
  Tells kept room said o = MatchOption o (IsGranted set s job op × (kept < room)) (λ r. (said ≡ r) × Refuses set s job op r)

  module _ (kept room : ℕ) (row : Row) (runs : running set s.rows ≡ Some row) (is : row.job ≡ job) where
    abbrev full_or : Bool → StepReply → StepReply
    full_or b rest = cond b (reply.Full room) rest

    locked_tells : (may : may_ask set row op ≡ true) (o : Option Above) → lock_refusal set s row op ≡ o → kept < room → Tells kept room (lock_reply set s row op o) (option_map blocked_by o)
    locked_tells may None e lt = (record { row = row; runs = runs; is = is; may = may; free = e }, lt)
    locked_tells may (Some above) e lt = (refl, record { row = row; runs = runs; is = is; may = may; refused = e })

    roomy_tells : (may : may_ask set row op ≡ true) (b : Bool) → nat_le room kept ≡ b
        → Tells kept room (cond b (reply.Full room) (lock_reply set s row op (lock_refusal set s row op))) (cond b (Some (reply.Full room)) (option_map blocked_by (lock_refusal set s row op)))
    roomy_tells may true e = (refl, tt {0})
    roomy_tells may false e = locked_tells may (lock_refusal set s row op) refl (leb-false room kept e)

    asked_tells_at : (d : Option StepReply) → denied set row op ≡ d
        → Tells kept room (unless d (cond (nat_le room kept) (reply.Full room) (lock_reply set s row op (lock_refusal set s row op)))) (first_of d (cond (nat_le room kept) (Some (reply.Full room)) (option_map blocked_by (lock_refusal set s row op))))
    asked_tells_at None e = roomy_tells (may_of set row op e) (nat_le room kept) refl
    asked_tells_at (Some r) e = (refl, refuses_denied row op r e)

    asked_tells : Tells kept room (asked_reply set s kept room op row) (asked_by set s kept room op row)
    asked_tells =
        subst (λ (said : StepReply). Tells kept room said (asked_by set s kept room op row))
        (sym (checked_is set row op (cond (nat_le room kept) (reply.Full room) (lock_reply set s row op (lock_refusal set s row op)))))
        (asked_tells_at (denied set row op) refl)

  turned_at : (kept room : ℕ) (row : Row) (b : Bool) → running set s.rows ≡ Some row → same_job row.job job ≡ b
      → Tells kept room (cond b (asked_reply set s kept room op row) (reply.NotYet row.job)) (cond b (asked_by set s kept room op row) (Some (reply.NotYet row.job)))
  turned_at kept room row true runs e = asked_tells kept room row runs (same_job_is row.job job e)
  turned_at kept room row false runs e = (refl, tt {0})

  turned_tells : (kept room : ℕ) (o : Option Row) → running set s.rows ≡ o → Tells kept room (running_reply set s kept room job op o) (turned_by set s kept room job op o)
  turned_tells kept room None runs = (refl, tt {0})
  turned_tells kept room (Some row) runs = turned_at kept room row (same_job row.job job) runs refl

  refused_at : (kept room : ℕ) (b : Bool)
      → Tells kept room (cond b (running_reply set s kept room job op (running set s.rows)) (reply.NoJob (ended_number s.ended job.tx.0) (last_end s.ended job.tx.0)))
      (cond b (turned_by set s kept room job op (running set s.rows)) (Some (reply.NoJob (ended_number s.ended job.tx.0) (last_end s.ended job.tx.0))))
  refused_at kept room true = turned_tells kept room (running set s.rows) refl
  refused_at kept room false = (refl, tt {0})

  pub refused_tells : (kept room : ℕ) (o : Option StepReply) → o ≡ refused_by set s kept room job op
      → MatchOption o (IsGranted set s job op × (kept < room)) (λ r. (step_reply set s kept room job op ≡ r) × Refuses set s job op r)
  refused_tells kept room o e =
      subst (Tells kept room (step_reply set s kept room job op)) (sym e) (refused_at kept room (is_some (job_row s.rows job)))

-- an operation that may be asked is not denied

none_by : (o : Option ItemId) → not (is_some o) ≡ true → option_map (λ i. reply.Unwritten i) o ≡ None
none_by None h = refl
none_by (Some i) h = absurd cc

granted_access : (declared : List ItemId) (item : ItemId) (quiet used : ℕ) → (names_item declared item.0 && nat_le quiet used) ≡ true → access_by declared item quiet used ≡ None
granted_access declared item quiet used h =
    let p = and_parts (names_item declared item.0) (nat_le quiet used) h in
    let late : nat_lt used quiet ≡ false = lt_not_le used quiet ∙ ap not p.1 in
    ap (λ (b : Bool). cond b (cond (nat_lt used quiet) (Some (reply.TooEarly (quiet - used))) None) (Some (reply.Undeclared item))) p.0
    ∙ ap (λ (b : Bool). cond {A = Option StepReply} b (Some (reply.TooEarly (quiet - used))) None) late

denied_none : (set : Set) (row : Row) (op : Op) → may_ask set row op ≡ true → denied set row op ≡ None
denied_none set row (Read item) h = granted_access (txn_of set row.job.tx.0).reads item (txn_of set row.job.tx.0).quiet row.used h
denied_none set row (Write item value) h = granted_access (txn_of set row.job.tx.0).writes item (txn_of set row.job.tx.0).quiet row.used h
denied_none set row Commit h = none_by (unwritten set (txn_of set row.job.tx.0).writes row.work) (sym (complete_is set (txn_of set row.job.tx.0).writes row.work) ∙ h)
denied_none set row other h = refl

checked_may : (set : Set) (row : Row) (op : Op) (rest : StepReply) → may_ask set row op ≡ true → checked set row op rest ≡ rest
checked_may set row op rest h = checked_is set row op rest ∙ ap (λ (d : Option StepReply). unless d rest) (denied_none set row op h)

pub item_of : (set : Set) (row : Row) (op : Op) → IsCompiled set → row.job.tx.0 < length set.txns → may_ask set row op ≡ true → HasItem (length set.items) op
item_of set row op ok lt h = has_item set row op ok lt (denied_none set row op h)

-- what the board answers to a granted operation
pub granted_reply : (set : Set) (s : State) (kept room : ℕ) (job : JobId) (op : Op) (g : IsGranted set s job op) → IsLegalState set s → kept < room
    → step_reply set s kept room job op ≡ reply.Done (outcome_of s.items g.row.work op) (end_of (with_step set s g.row op) job)
granted_reply set s kept room job op g legal lt =
    let k = known set s legal in
    let here : job_row s.rows g.row.job ≡ Some g.row = job_row_here s.rows g.row (k.here g.row g.runs) in
    let there : job_row s.rows job ≡ Some g.row = subst (λ (j : JobId). job_row s.rows j ≡ Some g.row) g.is here in
    let same : same_job g.row.job job ≡ true = and_from _ _ (eq-eqb _ _ (ap (λ (j : JobId). j.tx.0) g.is)) (eq-eqb _ _ (ap (λ (j : JobId). j.serial) g.is)) in
    ap (λ (o : Option Row). cond (is_some o) (running_reply set s kept room job op (running set s.rows)) (reply.NoJob (ended_number s.ended job.tx.0) (last_end s.ended job.tx.0))) there
    ∙ (ap (running_reply set s kept room job op) g.runs
    ∙ (ap (λ (b : Bool). cond b (asked_reply set s kept room op g.row) (reply.NotYet g.row.job)) same
    ∙ (checked_may set g.row op (cond (nat_le room kept) (reply.Full room) (lock_reply set s g.row op (lock_refusal set s g.row op))) g.may
    ∙ (ap (λ (b : Bool). cond b (reply.Full room) (lock_reply set s g.row op (lock_refusal set s g.row op))) (lt_false kept room lt)
    ∙ (ap (lock_reply set s g.row op) g.free
    ∙ ap (λ (j : JobId). reply.Done (outcome_of s.items g.row.work op) (end_of (with_step set s g.row op) j)) g.is)))))

-- what it answers to a blocked one
pub blocked_reply : (set : Set) (s : State) (kept room : ℕ) (job : JobId) (op : Op) (by : JobId) (ceiling : ℕ) → IsBlocked set s job op by ceiling → IsLegalState set s → kept < room
    → step_reply set s kept room job op ≡ reply.Blocked by ceiling
blocked_reply set s kept room job op by ceiling b legal lt =
    let k = known set s legal in
    let here : job_row s.rows b.row.job ≡ Some b.row = job_row_here s.rows b.row (k.here b.row b.runs) in
    let there : job_row s.rows job ≡ Some b.row = subst (λ (j : JobId). job_row s.rows j ≡ Some b.row) b.is here in
    let same : same_job b.row.job job ≡ true = and_from _ _ (eq-eqb _ _ (ap (λ (j : JobId). j.tx.0) b.is)) (eq-eqb _ _ (ap (λ (j : JobId). j.serial) b.is)) in
    ap (λ (o : Option Row). cond (is_some o) (running_reply set s kept room job op (running set s.rows)) (reply.NoJob (ended_number s.ended job.tx.0) (last_end s.ended job.tx.0))) there
    ∙ (ap (running_reply set s kept room job op) b.runs
    ∙ (ap (λ (x : Bool). cond x (asked_reply set s kept room op b.row) (reply.NotYet b.row.job)) same
    ∙ (checked_may set b.row op (cond (nat_le room kept) (reply.Full room) (lock_reply set s b.row op (lock_refusal set s b.row op))) b.may
    ∙ (ap (λ (x : Bool). cond x (reply.Full room) (lock_reply set s b.row op (lock_refusal set s b.row op))) (lt_false kept room lt)
    ∙ ap (lock_reply set s b.row op) b.refused))))

-- the running job that asks: its row, also in the tables, and the item that it asks for
pub asking_pends : (set : Set) (s : State) (job : JobId) (op : Op) → IsLegalState set s → (a : IsAsking set s job op) → row_of s.rows job.tx.0 ≡ Some a.row
asking_pends set s job op legal a = subst (λ (j : JobId). row_of s.rows j.tx.0 ≡ Some a.row) a.is ((known set s legal).here a.row a.runs)

pub asking_row : (set : Set) (t : TablesSeen) (s : State) (job : JobId) (op : Op) → AreTables set t s → IsLegalState set s → (a : IsAsking set s job op) → row_of t.pending.rows job.tx.0 ≡ Some a.row
asking_row set t s job op are legal a =
    ap (λ (l : List (Option Row)). row_of l job.tx.0) are.rows.rows ∙ asking_pends set s job op legal a

pub asking_in_range : (set : Set) (t : TablesSeen) (s : State) (job : JobId) (op : Op) → AreTables set t s → IsLegalState set s → IsAsking set s job op → job.tx.0 < length t.pending.rows
asking_in_range set t s job op are legal a = in_range t.pending.rows job.tx.0 a.row (asking_row set t s job op are legal a)

pub asking_item : (set : Set) (t : TablesSeen) (s : State) (job : JobId) (op : Op) → AreTables set t s → IsLegalState set s → IsAsking set s job op → HasItem (length t.pending.facts.ceilings) op
asking_item set t s job op are legal a =
    let k = known set s legal in
    let lt : a.row.job.tx.0 < length set.txns = omega (arith, in_range s.rows a.row.job.tx.0 a.row (k.here a.row a.runs), k.sound.frame.count) in
    subst (λ (n : ℕ). HasItem n op) (sym are.rows.facts.items) (item_of set a.row op legal.compiled lt a.may)

-- what the lock rule says to it
pub rule_tells : (set : Set) (s : State) (job : JobId) (op : Op) (o : Option Blocker) → (a : IsAsking set s job op) → option_map above_of o ≡ lock_refusal set s a.row op
    → MatchOption o (IsGranted set s job op) (λ b. IsBlocked set s job op b.holder b.ceiling)
rule_tells set s job op None a e = record { row = a.row; runs = a.runs; is = a.is; may = a.may; free = sym e }
rule_tells set s job op (Some b) a e = record { row = a.row; runs = a.runs; is = a.is; may = a.may; refused = sym e }

-- the heads

abbrev pub no_head : Option Head
no_head = None

pub head_row : (o : Option Row) (h : Head) → Some h ≡ option_map head_of o → (r : Row) × (o ≡ Some r) × (h ≡ head_of r)
head_row None h e = absurd cc
head_row (Some r) h e = (r, refl, cc)

-- a commit

pub commit_denied : (set : Set) (row : Row) (work : Work) (writes : List ItemId) (o : Option ItemId) → writes ≡ (txn_of set row.job.tx.0).writes → work ≡ row.work → o ≡ unwritten_of set.items writes work
    → option_map (λ i. reply.Unwritten i) o ≡ denied set row Commit
commit_denied set row work writes o ew ek e =
    ap (option_map (λ i. reply.Unwritten i)) (e ∙ (ap (λ (l : List ItemId). unwritten_of set.items l work) ew ∙ ap (λ (w : Work). unwritten_of set.items (txn_of set row.job.tx.0).writes w) ek))

-- the row of the head that is asked for
pub record AskedRow (set : Set) (t : TablesSeen) (tx : ℕ) (head : Head) : Type 0 where
  pub row : Row
  pub own : row.job.tx.0 ≡ tx
  pub is : head ≡ head_of row
  pub here : row_of t.pending.rows head.job.tx.0 ≡ Some row

pub asked_row : (set : Set) (t : TablesSeen) (s : State) (tx : ℕ) (head : Head) → AreTables set t s → IsLegalState set s → Some head ≡ option_map head_of (row_of t.pending.rows tx) → AskedRow set t tx head
asked_row set t s tx head a legal h =
    let r = head_row (row_of t.pending.rows tx) head h in
    let own : r.0.job.tx.0 ≡ tx = (known set s legal).sound.frame.named tx r.0 (ap (λ (l : List (Option Row)). row_of l tx) (sym a.rows.rows) ∙ r.1) in
    record {
      row = r.0;
      own = own;
      is = r.2;
      here = subst (λ (k : ℕ). row_of t.pending.rows k ≡ Some r.0) (sym (ap (λ (x : Head). x.job.tx.0) r.2 ∙ own)) r.1;
    }

pub asked_item : (set : Set) (t : TablesSeen) (s : State) (tx : ℕ) (op : Op) (head : Head) (o : Option StepReply) → AreTables set t s → IsLegalState set s → tx < length set.txns → (r : AskedRow set t tx head) → o ≡ None
    → ((row : Row) → row_of t.pending.rows head.job.tx.0 ≡ Some row → head ≡ head_of row → o ≡ denied set row op) → HasItem (length t.pending.facts.ceilings) op
asked_item set t s tx op head o a legal lt r none denies =
    subst (λ (n : ℕ). HasItem n op) (sym a.rows.facts.items)
    (has_item set r.row op legal.compiled (omega (arith, r.own, lt)) (sym (denies r.row r.here r.is) ∙ none))

-- the running job is the one that asks

asked_some : (set : Set) (t : TablesSeen) (s : State) (kept room : ℕ) (job runs : JobId) (op : Op) (o : Option StepReply) → AreTables set t s → IsLegalState set s
    → Some runs ≡ option_map (λ (r : Row). r.job) (running set t.pending.rows) → same_job runs job ≡ true → ((row : Row) → row_of s.rows job.tx.0 ≡ Some row → row.job ≡ job → o ≡ asked_by set s kept room op row)
    → o ≡ refused_by set s kept room job op
asked_some set t s kept room job runs op o a legal run same asked =
    let named = row_named (running set t.pending.rows) runs run in
    let row : Row = named.0 in
    let here : running set s.rows ≡ Some row = ap (running set) (sym a.rows.rows) ∙ named.1 in
    let is : runs ≡ job = same_job_is runs job same in
    let own : row.job ≡ job = named.2 ∙ is in
    let pends : row_of s.rows job.tx.0 ≡ Some row = subst (λ (j : JobId). row_of s.rows j.tx.0 ≡ Some row) own ((known set s legal).here row here) in
    let there : job_row s.rows job ≡ Some row = subst (λ (j : JobId). job_row s.rows j ≡ Some row) own (job_row_here s.rows row ((known set s legal).here row here)) in
    let same_row : same_job row.job job ≡ true = ap (λ (j : JobId). same_job j job) named.2 ∙ same in
    asked row pends own
    ∙ (ap (λ (b : Bool). cond b (asked_by set s kept room op row) (Some (reply.NotYet row.job))) (sym same_row)
    ∙ (ap (turned_by set s kept room job op) (sym here)
    ∙ ap (λ (r : Option Row). cond (is_some r) (turned_by set s kept room job op (running set s.rows)) (Some (reply.NoJob (ended_number s.ended job.tx.0) (last_end s.ended job.tx.0)))) (sym there)))

pub asked_refused : (set : Set) (t : TablesSeen) (s : State) (kept room : ℕ) (job : JobId) (runs : Option JobId) (op : Op) (o : Option StepReply) → AreTables set t s → IsLegalState set s
    → runs ≡ option_map (λ (r : Row). r.job) (running set t.pending.rows) → runs_now runs job ≡ true → ((row : Row) → row_of s.rows job.tx.0 ≡ Some row → row.job ≡ job → o ≡ asked_by set s kept room op row)
    → o ≡ refused_by set s kept room job op
asked_refused set t s kept room job None op o a legal run same asked = absurd cc
asked_refused set t s kept room job (Some runs) op o a legal run same asked = asked_some set t s kept room job runs op o a legal run same asked

-- another runs, or none

turned_away : (set : Set) (s : State) (kept room : ℕ) (job : JobId) (op : Op) (o : Option Row) → runs_now (option_map (λ (r : Row). r.job) o) job ≡ false → Some (waiting_for job (option_map (λ (r : Row). r.job) o)) ≡ turned_by set s kept room job op o
turned_away set s kept room job op None e = refl
turned_away set s kept room job op (Some row) e = sym (ap (λ (b : Bool). cond b (asked_by set s kept room op row) (Some (reply.NotYet row.job))) e)

away_at : (b : Bool) (other none : StepReply) (turned : Option StepReply) → Some other ≡ turned → Some (cond b other none) ≡ cond b turned (Some none)
away_at true other none turned e = e
away_at false other none turned e = refl

pub waits_refused : (set : Set) (t : TablesSeen) (s : State) (kept room : ℕ) (job : JobId) (runs : Option JobId) (op : Op) (said : StepReply) → AreTables set t s
    → runs ≡ option_map (λ (r : Row). r.job) (running set t.pending.rows) → runs_now runs job ≡ false → said ≡ waits_by s job runs → Some said ≡ refused_by set s kept room job op
waits_refused set t s kept room job runs op said a run other e =
    let here : runs ≡ option_map (λ (r : Row). r.job) (running set s.rows) = run ∙ ap (λ (l : List (Option Row)). option_map (λ (r : Row). r.job) (running set l)) a.rows.rows in
    let away : Some (waiting_for job runs) ≡ turned_by set s kept room job op (running set s.rows) =
    ap (λ (o : Option JobId). Some (waiting_for job o)) here ∙ turned_away set s kept room job op (running set s.rows) (ap (λ (o : Option JobId). runs_now o job) (sym here) ∙ other) in
    ap Some e ∙ away_at (is_some (job_row s.rows job)) (waiting_for job runs) (reply.NoJob (ended_number s.ended job.tx.0) (last_end s.ended job.tx.0)) (turned_by set s kept room job op (running set s.rows)) away
