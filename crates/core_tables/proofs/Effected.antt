-- The effect of a granted step on the tables is the definition's, and a wait.
use Rattle.std.proofs.Common.{◌≡◌, ℕ, ◌+◌, ◌^◌, ◌<◌, ◌==◌, Bool, true, List, map, length, Option, None, Some, set as with_item, refl, ap, sym, ◌∙◌, subst, arith, get_or-set_same}
use Rattle.std.proofs.lemmas.Bool.{and_parts}
use Rattle.std.proofs.lemmas.List.{set-set, length-set}
use Rattle.std.specs.Prelude.{nat_le}
use Rattle.std.specs.Option.{option_map}
use Rattle.rt_base.specs.declared.ids.JobId.{JobId}
use Rattle.rt_base.specs.declared.operation.Op.{Op}
use Rattle.rt_base.specs.declared.operation.Op.TheVariants.{Read, Write}
use Rattle.rt_base.specs.declared.operation.End.{End}
use Rattle.item_model.specs.Work.{outcome_of}
use Rattle.item_model.specs.declared.stored.Stored.{Stored}
use Rattle.ceiling_table.specs.Held.{HasItem}
use Rattle.txn_set.specs.Set.{Set, txn_of, names_item}
use Rattle.step_journal.specs.State.{State, Row, row_of}
use Rattle.step_journal.specs.Instant.{freed, with_end, is_due, arrived}
use Rattle.step_journal.specs.LockRule.{Above, refusal, needs_lock}
use Rattle.step_journal.specs.Step.{may_ask, row_after, end_by, settled, after_effect, with_step, end_of, with_wait}
use Rattle.law_histories.proofs.Invariant.{in_range}
use Rattle.law_histories.proofs.Calendar.{named_from}
use Rattle.law_histories.proofs.Never.{refusal_at}
use Rattle.board.specs.Over.{over_of}
use Rattle.core_tables.specs.Rows.{PendingSeen, AreFactsOf, Accesses, IsDeclared, accesses_at, accesses_of, rows_stepped, rows_waiting}
use Rattle.core_tables.specs.declared.head.Head.{Head}
use Rattle.core_tables.specs.Waiting.{MayWait}
use Rattle.core_tables.proofs.Protocols.{may_wait}
use Rattle.core_tables.specs.declared.tally.Tally.{Tally}
use Rattle.core_tables.specs.Seen.{TablesSeen, tally_of}
use Rattle.core_tables.specs.Tables.{AreTables}
use Rattle.core_tables.specs.Legal.{IsLegalState, IsGranted, IsBlocked}
use Rattle.core_tables.specs.Changes.{items_settled, pending_settled, tallies_settled}
use Rattle.core_tables.specs.Arriving.{CanArrive}
use Rattle.core_tables.proofs.Facts.{known, effect_arrives}
use Rattle.core_tables.proofs.Arrived.{one_ended, tallies_few}
use Rattle.core_tables.proofs.Refusals.{accesses_are, item_of}

-- the row that goes on

pub granted_here : (set : Set) (s : State) (job : JobId) (op : Op) → IsLegalState set s → (g : IsGranted set s job op) → row_of s.rows job.tx.0 ≡ Some g.row
granted_here set s job op legal g = subst (λ (j : JobId). row_of s.rows j.tx.0 ≡ Some g.row) g.is ((known set s legal).here g.row g.runs)

pub row_here : (set : Set) (t : TablesSeen) (s : State) (job : JobId) (op : Op) → AreTables set t s → IsLegalState set s → (g : IsGranted set s job op) → row_of t.pending.rows job.tx.0 ≡ Some g.row
row_here set t s job op a legal g = ap (λ (l : List (Option Row)). row_of l job.tx.0) a.rows.rows ∙ granted_here set s job op legal g

pub job_in_set : (set : Set) (s : State) (job : JobId) (op : Op) → IsLegalState set s → IsGranted set s job op → job.tx.0 < length set.txns
job_in_set set s job op legal g = omega (arith, in_range s.rows job.tx.0 g.row (granted_here set s job op legal g), (known set s legal).sound.frame.count)

own_tx : (set : Set) (s : State) (job : JobId) (op : Op) → (g : IsGranted set s job op) → g.row.job.tx.0 ≡ job.tx.0
own_tx set s job op g = ap (λ (j : JobId). j.tx.0) g.is

-- the operation is declared, and its item is one of the set

declared_by : (set : Set) (row : Row) (op : Op) → may_ask set row op ≡ true → IsDeclared (accesses_of (txn_of set row.job.tx.0)) op
declared_by set row (Read item) h = (and_parts (names_item (txn_of set row.job.tx.0).reads item.0) (nat_le (txn_of set row.job.tx.0).quiet row.used) h).0
declared_by set row (Write item value) h = (and_parts (names_item (txn_of set row.job.tx.0).writes item.0) (nat_le (txn_of set row.job.tx.0).quiet row.used) h).0
declared_by set row other h = tt

pub is_declared : (set : Set) (t : TablesSeen) (s : State) (job : JobId) (op : Op) → AreTables set t s → IsGranted set s job op → IsDeclared (accesses_at t.pending.facts job.tx.0) op
is_declared set t s job op a g =
    subst (λ (x : Accesses). IsDeclared x op)
    (ap (λ (n : ℕ). accesses_of (txn_of set n)) (own_tx set s job op g) ∙ sym (accesses_are set t.pending.facts job.tx.0 a.rows.facts))
    (declared_by set g.row op g.may)

pub granted_item : (set : Set) (s : State) (job : JobId) (op : Op) → IsLegalState set s → IsGranted set s job op → HasItem (length set.items) op
granted_item set s job op legal g =
    item_of set g.row op legal.compiled (omega (arith, job_in_set set s job op legal g, own_tx set s job op g)) g.may

pub has_its_item : (set : Set) (s : State) (job : JobId) (op : Op) (n : ℕ) → IsLegalState set s → IsGranted set s job op → n ≡ length set.items → HasItem n op
has_its_item set s job op n legal g e = subst (λ (k : ℕ). HasItem k op) (sym e) (granted_item set s job op legal g)

pub used_low : (set : Set) (t : TablesSeen) (s : State) (job : JobId) (op : Op) → AreTables set t s → IsLegalState set s → IsGranted set s job op → (row : Row) → row_of t.pending.rows job.tx.0 ≡ Some row → row.used < 2 ^ 63
used_low set t s job op a legal g row here =
    let is : Some g.row ≡ Some row = sym (row_here set t s job op a legal g) ∙ here in
    let same : g.row ≡ row = cc in
    omega (arith, (known set s legal).used g.row ((known set s legal).here g.row g.runs), ap (λ (r : Row). r.used) same)

pub clock_low : (set : Set) (t : TablesSeen) (s : State) (job : JobId) (op : Op) → AreTables set t s → IsLegalState set s → IsGranted set s job op → t.clock + 1 < 2 ^ 63
clock_low set t s job op a legal g = omega (arith, a.now, (known set s legal).early g.row ((known set s legal).here g.row g.runs))

-- what a step answers is the job that took it

pub head_is : (told : Option Head) (head next : Head) → told ≡ Some head → told ≡ Some next → head ≡ next
head_is told head next is told_is = let same : Some head ≡ Some next = sym is ∙ told_is in cc

pub no_head : {A : Type 0} (told : Option Head) (next : Head) → told ≡ None → told ≡ Some next → A
no_head told next is told_is = absurd (let same : None ≡ Some next = sym is ∙ told_is in cc)

-- the tables after the step and the end

rows_one : (set : Set) (t : TablesSeen) (s : State) (op : Op) (row : Row) → AreTables set t s → rows_stepped t.pending.rows t.items op row ≡ with_item s.rows row.job.tx.0 (Some (row_after s row op))
rows_one set t s op row a =
    ap (λ (i : List Stored). rows_stepped t.pending.rows i op row) a.items ∙ ap (λ (l : List (Option Row)). with_item l row.job.tx.0 (Some (row_after s row op))) a.rows.rows

abbrev stepped : TablesSeen → State → Row → PendingSeen
stepped t s x = record t.pending { rows = with_item s.rows x.job.tx.0 (Some x) }

settles : (set : Set) (t : TablesSeen) (s : State) (x : Row) (tick : ℕ) (o : Option End) → AreTables set t s
    → AreTables set (record { clock = t.clock; items = items_settled set x o s.items; calendar = t.calendar; pending = pending_settled x o (stepped t s x); tallies = tallies_settled x.job.tx.0 o t.tallies }) (settled set x tick o s)
unfolding with_end
settles set t s x tick None a = record {
  now = a.now;
  items = refl;
  periods = a.periods;
  room = a.room;
  plans = a.plans;
  planned = a.planned;
  rows = record { facts = a.rows.facts; rows = refl };
  tallies = a.tallies;
}
settles set t s x tick (Some e) a = record {
  now = a.now;
  items = refl;
  periods = a.periods;
  room = a.room;
  plans = a.plans;
  planned = a.planned;
  rows = record { facts = a.rows.facts; rows = ap (λ (l : List (Option Row)). map (option_map (freed x.job)) l) (set-set s.rows x.job.tx.0 (Some x) None) };
  tallies = one_ended set t.tallies s.ended (record { job = x.job; release = x.release; end = e; tick = tick }) a.tallies;
}

module _ (set : Set) (t : TablesSeen) (s : State) (job : JobId) (op : Op) (a : AreTables set t s) (legal : IsLegalState set s) (g : IsGranted set s job op) (one : PendingSeen) (e1 : one ≡ record t.pending { rows = rows_stepped t.pending.rows t.items op g.row }) where
  abbrev next : Row
  next = row_after s g.row op

  one_is : one ≡ stepped t s next
  one_is = e1 ∙ ap (λ (l : List (Option Row)). record t.pending { rows = l }) (rows_one set t s op g.row a)

  pub one_here : row_of one.rows job.tx.0 ≡ Some next
  one_here =
      ap (λ (p : PendingSeen). row_of p.rows job.tx.0) one_is
      ∙ (ap (λ (n : ℕ). row_of (with_item s.rows n (Some next)) job.tx.0) (own_tx set s job op g)
      ∙ get_or-set_same s.rows job.tx.0 (Some next) None (in_range s.rows job.tx.0 g.row (granted_here set s job op legal g)))

  pub one_own : next.job.tx.0 ≡ job.tx.0
  one_own = own_tx set s job op g

  pub one_facts : one.facts ≡ t.pending.facts
  one_facts = ap (λ (p : PendingSeen). p.facts) e1

  pub one_many : length one.rows ≡ length t.pending.rows
  one_many = ap (λ (p : PendingSeen). length p.rows) e1 ∙ length-set t.pending.rows g.row.job.tx.0 _

  pub end_at : (o : Option End) → o ≡ end_by set next (t.clock + 1) op → o ≡ end_by set next (s.now + 1) op
  end_at o e = e ∙ ap (λ (n : ℕ). end_by set next (n + 1) op) a.now

  pub effected : (o : Option End) (items : List Stored) (two : PendingSeen) (tallies : List Tally) → o ≡ end_by set next (t.clock + 1) op → items ≡ items_settled set next (end_by set next (t.clock + 1) op) t.items
      → two ≡ pending_settled next o one → tallies ≡ tallies_settled job.tx.0 o t.tallies
      → AreTables set (record { clock = t.clock; items = items; calendar = t.calendar; pending = two; tallies = tallies }) (after_effect set s g.row op)
  unfolding after_effect
  effected o items two tallies eo ei ep et =
      let o' : Option End = end_by set next (s.now + 1) op in
      let is : o ≡ o' = end_at o eo in
      let items_are : items ≡ items_settled set next o' s.items =
      ei ∙ (ap (λ (n : ℕ). items_settled set next (end_by set next (n + 1) op) t.items) a.now ∙ ap (items_settled set next o') a.items) in
      let pending_is : two ≡ pending_settled next o' (stepped t s next) =
      ep ∙ (ap (λ (q : Option End). pending_settled next q one) is ∙ ap (pending_settled next o') one_is) in
      let tallies_are : tallies ≡ tallies_settled next.job.tx.0 o' t.tallies =
      et ∙ (ap (λ (q : Option End). tallies_settled job.tx.0 q t.tallies) is ∙ ap (λ (n : ℕ). tallies_settled n o' t.tallies) (sym one_own)) in
      let base : AreTables set (record { clock = t.clock; items = items_settled set next o' s.items; calendar = t.calendar; pending = pending_settled next o' (stepped t s next); tallies = tallies_settled next.job.tx.0 o' t.tallies }) (settled set next (s.now + 1) o' s) =
      settles set t s next (s.now + 1) o' a in
      let with_items = subst (λ (i : List Stored). AreTables set (record { clock = t.clock; items = i; calendar = t.calendar; pending = pending_settled next o' (stepped t s next); tallies = tallies_settled next.job.tx.0 o' t.tallies }) (settled set next (s.now + 1) o' s)) (sym items_are) base in
      let with_pending = subst (λ (p : PendingSeen). AreTables set (record { clock = t.clock; items = items; calendar = t.calendar; pending = p; tallies = tallies_settled next.job.tx.0 o' t.tallies }) (settled set next (s.now + 1) o' s)) (sym pending_is) with_items in
      subst (λ (l : List Tally). AreTables set (record { clock = t.clock; items = items; calendar = t.calendar; pending = two; tallies = l }) (settled set next (s.now + 1) o' s)) (sym tallies_are) with_pending

-- the row of a job that goes on after it
pub goes_on_here : (set : Set) (t : TablesSeen) (s : State) (job : JobId) (op : Op) → IsLegalState set s → (g : IsGranted set s job op) → AreTables set t (after_effect set s g.row op) → None ≡ end_by set (row_after s g.row op) (s.now + 1) op
    → row_of t.pending.rows job.tx.0 ≡ Some (row_after s g.row op)
unfolding after_effect
goes_on_here set t s job op legal g a none =
    let next : Row = row_after s g.row op in
    ap (λ (l : List (Option Row)). row_of l job.tx.0) (a.rows.rows ∙ ap (λ (o : Option End). (settled set next (s.now + 1) o s).rows) (sym none))
    ∙ (ap (λ (n : ℕ). row_of (with_item s.rows n (Some next)) job.tx.0) (own_tx set s job op g)
    ∙ get_or-set_same s.rows job.tx.0 (Some next) None (in_range s.rows job.tx.0 g.row (granted_here set s job op legal g)))

-- a wait

pub waits : (set : Set) (t : TablesSeen) (s : State) (job by : JobId) (op : Op) (ceiling : ℕ) (pending : PendingSeen) → AreTables set t s → IsLegalState set s → (b : IsBlocked set s job op by ceiling)
    → ((row : Row) → row_of t.pending.rows job.tx.0 ≡ Some row → pending ≡ record t.pending { rows = rows_waiting t.pending.rows row by }) → AreTables set (record t { pending = pending }) (with_wait s b.row by)
unfolding with_wait
waits set t s job by op ceiling pending a legal b waiting =
    let here : row_of t.pending.rows job.tx.0 ≡ Some b.row =
    ap (λ (l : List (Option Row)). row_of l job.tx.0) a.rows.rows ∙ subst (λ (j : JobId). row_of s.rows j.tx.0 ≡ Some b.row) b.is ((known set s legal).here b.row b.runs) in
    let is = waiting b.row here in
    record {
      now = a.now;
      items = a.items;
      periods = a.periods;
      room = a.room;
      plans = a.plans;
      planned = a.planned;
      rows = record {
        facts = subst (AreFactsOf set) (sym (ap (λ (p : PendingSeen). p.facts) is)) a.rows.facts;
        rows = ap (λ (p : PendingSeen). p.rows) is ∙ ap (λ (l : List (Option Row)). rows_waiting l b.row by) a.rows.rows;
      };
      tallies = a.tallies;
    }

pub may_wait_here : (set : Set) (t : TablesSeen) (s : State) (job by : JobId) (op : Op) (ceiling : ℕ) → AreTables set t s → IsLegalState set s → IsBlocked set s job op by ceiling → MayWait t.pending.rows job.tx.0 by
may_wait_here set t s job by op ceiling a legal b =
    let k = known set s legal in
    let above : Above = record { holder = by; ceiling = ceiling } in
    let refused : refusal set s.rows b.row ≡ Some above = refusal_at set s b.row above (needs_lock b.row.work op) b.refused in
    let may : MayWait s.rows b.row.job.tx.0 by = may_wait set s.rows k.refused b.row above (named_from set s.rows k.compiled k.sound.frame) k.sound.protocol b.runs refused in
    subst (λ (rows : List (Option Row)). MayWait rows job.tx.0 by) (sym a.rows.rows) (subst (λ (j : JobId). MayWait s.rows j.tx.0 by) b.is may)

pub blocked_in_range : (set : Set) (t : TablesSeen) (s : State) (job by : JobId) (op : Op) (ceiling : ℕ) → AreTables set t s → IsLegalState set s → (b : IsBlocked set s job op by ceiling) → job.tx.0 < length t.pending.rows
blocked_in_range set t s job by op ceiling a legal b =
    in_range t.pending.rows job.tx.0 b.row
    (ap (λ (l : List (Option Row)). row_of l job.tx.0) a.rows.rows ∙ subst (λ (j : JobId). row_of s.rows j.tx.0 ≡ Some b.row) b.is ((known set s legal).here b.row b.runs))

pub tally_low : (set : Set) (t : TablesSeen) (s : State) (n : ℕ) → AreTables set t s → IsLegalState set s → (tally_of t.tallies n).number < 2 ^ 63
tally_low set t s n a legal = omega (arith, tallies_few set t.tallies s.ended n a.tallies (omega (arith, (known set s legal).few n)))

-- the events of the next tick

pub next_arrives : (set : Set) (t : TablesSeen) (s : State) (job : JobId) (op : Op) → AreTables set t s → IsLegalState set s → (g : IsGranted set s job op) → CanArrive set (t.clock + 1) (after_effect set s g.row op)
next_arrives set t s job op a legal g =
    subst (λ (n : ℕ). CanArrive set (n + 1) (after_effect set s g.row op)) (sym a.now) (effect_arrives set s job op (known set s legal) g)

pub with_step_is : (set : Set) (t : TablesSeen) (s : State) (row : Row) (op : Op) → AreTables set t s → arrived set (t.clock + 1) (after_effect set s row op) ≡ with_step set s row op
unfolding with_step
with_step_is set t s row op a = ap (λ (n : ℕ). arrived set (n + 1) (after_effect set s row op)) a.now

pub outcome_is : (set : Set) (t : TablesSeen) (s : State) (row : Row) (op : Op) → AreTables set t s → outcome_of t.items row.work op ≡ outcome_of s.items row.work op
outcome_is set t s row op a = ap (λ (i : List Stored). outcome_of i row.work op) a.items

pub over_is : (set : Set) (t : TablesSeen) (s : State) (job : JobId) (op : Op) (own : Option End) (late : Bool) (deadline : ℕ) → AreTables set t s → IsLegalState set s → (g : IsGranted set s job op)
    → own ≡ end_by set (row_after s g.row op) (s.now + 1) op → deadline ≡ (txn_of set job.tx.0).deadline → late ≡ (g.row.release + deadline == t.clock + 1) → over_of own late ≡ end_of (with_step set s g.row op) job
over_is set t s job op own late deadline a legal g eo ed el =
    let due : late ≡ is_due set (s.now + 1) g.row =
    el
    ∙ (ap (λ (n : ℕ). g.row.release + n == t.clock + 1) (ed ∙ ap (λ (j : JobId). (txn_of set j.tx.0).deadline) (sym g.is))
    ∙ ap (λ (n : ℕ). g.row.release + (txn_of set g.row.job.tx.0).deadline == n + 1) a.now) in
    ap (λ (o : Option End). over_of o late) eo
    ∙ (ap (over_of (end_by set (row_after s g.row op) (s.now + 1) op)) due
    ∙ ((known set s legal).over g.row op g.runs
    ∙ ap (end_of (with_step set s g.row op)) g.is))
