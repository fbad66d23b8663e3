-- The entries of a legal history can be written, and the ends of its jobs.
use Rattle.std.proofs.Common.{◌≡◌, ◌⊎◌, ℕ, suc, ◌+◌, ◌<◌, ◌≤◌, ◌==◌, Bool, true, false, cond, inl, inr, List, [], ◌∷◌, ◌++◌, length, Option, Some, None, refl, sym, ap, subst, ◌∙◌, arith}
use Rattle.std.specs.List.{All, find, filter, fold}
use Rattle.std.specs.Option.{option_map, option_and_then}
use Rattle.std.specs.Prelude.{nat_lt, ◌-◌}
use Rattle.std.proofs.lemmas.Bool.{eqb-true}
use Rattle.std.proofs.lemmas.List.Elements.{All-cons, All-nil}
use Rattle.rt_base.specs.declared.ids.ItemId.{ItemId}
use Rattle.rt_base.specs.declared.ids.JobId.{JobId}
use Rattle.rt_base.specs.declared.ids.TogetherDecl.{TogetherDecl}
use Rattle.rt_base.specs.declared.name.Names.{Names}
use Rattle.rt_base.specs.declared.operation.Op.{Op}
use Rattle.rt_base.specs.declared.operation.Op.TheVariants.{Read, Write, Commit, Quit}
use Rattle.rt_base.specs.declared.operation.End.{End}
use Rattle.rt_base.specs.declared.operation.End.TheVariants as end
use Rattle.item_model.specs.declared.stored.Stored.{Stored}
use Rattle.item_model.specs.declared.stored.OutsideRead.{OutsideRead}
use Rattle.item_model.specs.declared.stored.OwnWrite.{OwnWrite}
use Rattle.item_model.specs.Work.{Work, got, outcome_of, read_of, write_of, stored_of, reads_of, is_expired, is_older, older, oldest, is_newer, newer, newest, parted, apart_in, first_of_both, first_apart, judged, verdict}
use Rattle.txn_set.specs.Set.{Set, IsCompiled, AreItemsOf, txn_of, no_txn, names_item}
use Rattle.step_journal.specs.declared.entry.Entry.{Entry}
use Rattle.step_journal.specs.declared.entry.Entry.TheVariants.{Planned, Idle}
use Rattle.step_journal.specs.declared.entry.EndedJob.{EndedJob}
use Rattle.step_journal.specs.State.{State, Row, opening, pending, same_job}
use Rattle.step_journal.specs.LockRule.{Above, needs_lock, in_falling_priority}
use Rattle.step_journal.specs.Running.{running, of_job}
use Rattle.step_journal.specs.Instant.{with_end, with_late, is_due, with_cancellations, with_releases, arrived}
use Rattle.step_journal.specs.Step.{Event, plan, ask, idle, given, may_plan, with_plan, may_ask, lock_refusal, row_after, end_by, settled, after_effect, with_step, end_of, with_wait, answered, asked, next_tick, idled, step}
use Rattle.step_journal.specs.History.{event_of, state_given, entry_given, state_after, states_after, IsLegalFrom, IsLegal, state_of}
use Rattle.law_histories.proofs.Members.{In, filter_in}
use Rattle.law_histories.proofs.Lists.{all_at, any_in, find_some, filter_map_in}
use Rattle.law_histories.proofs.Invariant.{IsPending, in_range, refusal_is, running_is}
use Rattle.law_histories.proofs.Holding.{append_in}
use Rattle.law_histories.proofs.Calendar.{named_from, sorted_in}
use Rattle.law_histories.proofs.Histories.{may_plan_is}
use Rattle.law_histories.proofs.Never.{refused_all, refusal_at, legal_sound}
use Rattle.law_histories.proofs.DelayAll.{legal_delay}
use Rattle.law_histories.proofs.Pushes.{pushed}
use Rattle.journal_text.specs.Lines.{Answers, KnownOp, KnownEnd, KnownOver, IsWritable}
use Rattle.report_text.specs.Texts.{NamesSet}
use Rattle.rt_base.proofs.Padding.{both as parts}
use Rattle.run_report.specs.Legal.{LegalHasLines}

-- ---- items that are declared

declared_in : (set : Set) (ids : List ItemId) (j : ℕ) → AreItemsOf set ids → names_item ids j ≡ true
    → j < length set.items
declared_in set ids j are h =
    let found = any_in (λ i. i.0 == j) ids h in
    let lt : found.0.0 < length set.items = all_at (λ i. i.0 < length set.items) ids found.0 are.in_range found.1 in
    let same : found.0.0 ≡ j = eqb-true found.0.0 j found.2 in
    omega (arith, lt, same)

op_known : (names : Names) (set : Set) (x : Row) (op : Op) → NamesSet names set → IsCompiled set
    → x.job.tx.0 < length set.txns
    → may_ask set x op ≡ true → KnownOp names op
op_known names set x (Read item) one ok lt may =
    omega (arith, declared_in set (txn_of set x.job.tx.0).reads item.0 (ok.reads x.job.tx.0 no_txn lt) (parts _ _ may).0, one.items)
op_known names set x (Write item value) one ok lt may =
    omega (arith, declared_in set (txn_of set x.job.tx.0).writes item.0 (ok.writes x.job.tx.0 no_txn lt) (parts _ _ may).0, one.items)
op_known names set x other one ok lt may = tt

answers_read : (item : ItemId) (o : Option OwnWrite) (stored : Stored) → Answers (Read item) (got o stored)
answers_read item None stored = tt
answers_read item (Some w) stored = tt

answers : (items : List Stored) (work : Work) (op : Op) → Answers op (outcome_of items work op)
answers items work (Read item) = answers_read item (write_of work item.0) (stored_of items item.0)
answers items work other = tt

-- ---- ends

-- what was read of these items
read_in : (set : Set) (work : Work) (ids : List ItemId) (r : OutsideRead) → AreItemsOf set ids
    → In r (reads_of work ids)
    → r.item.0 < length set.items
read_in set work ids r are h =
    let from = filter_map_in (λ i. read_of work i.0) r ids h in
    let lt : from.0.0 < length set.items = all_at (λ i. i.0 < length set.items) ids from.0 are.in_range from.1 in
    let found = find_some (λ q. q.item.0 == from.0.0) work.reads r from.2 in
    let same : r.item.0 ≡ from.0.0 = eqb-true r.item.0 from.0.0 found.passes in
    omega (arith, lt, same)

older_of : (r : OutsideRead) (o : Option OutsideRead) (a : OutsideRead) → older r o ≡ a → (a ≡ r) ⊎ (o ≡ Some a)
older_of r None a e = inl (sym e)
older_of r (Some s) a e = at (is_older s r) e where
  at : (b : Bool) → cond b s r ≡ a → (a ≡ r) ⊎ (Some s ≡ Some a)
  at true e = inr (ap (λ (q : OutsideRead). Some q) e)
  at false e = inl (sym e)

newer_of : (r : OutsideRead) (o : Option OutsideRead) (a : OutsideRead) → newer r o ≡ a → (a ≡ r) ⊎ (o ≡ Some a)
newer_of r None a e = inl (sym e)
newer_of r (Some s) a e = at (is_newer s r) e where
  at : (b : Bool) → cond b s r ≡ a → (a ≡ r) ⊎ (Some s ≡ Some a)
  at true e = inr (ap (λ (q : OutsideRead). Some q) e)
  at false e = inl (sym e)

oldest_in : (rs : List OutsideRead) (a : OutsideRead) → oldest rs ≡ Some a → In a rs
oldest_in [] a e = absurd cc
oldest_in (r ∷ rs) a e =
    let is : older r (oldest rs) ≡ a = cc in
    elim (older_of r (oldest rs) a is) [ inl same ↦ inl same | inr below ↦ inr (oldest_in rs a below) ]

newest_in : (rs : List OutsideRead) (a : OutsideRead) → newest rs ≡ Some a → In a rs
newest_in [] a e = absurd cc
newest_in (r ∷ rs) a e =
    let is : newer r (newest rs) ≡ a = cc in
    elim (newer_of r (newest rs) a is) [ inl same ↦ inl same | inr below ↦ inr (newest_in rs a below) ]

parted_at : (a b : OutsideRead) (test : Bool) (p : OutsideRead × OutsideRead) → cond test (Some (a, b)) None ≡ Some p
    → (Some a ≡ Some p.0) × (Some b ≡ Some p.1)
parted_at a b true p e =
    let same : (a, b) ≡ p = cc in (ap (λ (q : OutsideRead × OutsideRead). Some q.0) same, ap (λ (q : OutsideRead × OutsideRead). Some q.1) same)
parted_at a b false p e = absurd cc

parted_is : (within : ℕ) (a b : Option OutsideRead) (p : OutsideRead × OutsideRead) → parted within a b ≡ Some p
    → (a ≡ Some p.0) × (b ≡ Some p.1)
parted_is within None b p e = absurd cc
parted_is within (Some a) None p e = absurd cc
parted_is within (Some a) (Some b) p e = parted_at a b (nat_lt within (b.stamp - a.stamp)) p e

abbrev InSet : Set → OutsideRead × OutsideRead → Type 0
InSet set p = (p.0.item.0 < length set.items) × (p.1.item.0 < length set.items)

apart_at : (set : Set) (work : Work) (group : TogetherDecl) (p : OutsideRead × OutsideRead) → AreItemsOf set group.items
    → apart_in work group ≡ Some p → InSet set p
apart_at set work group p are e =
    let both = parted_is group.within (oldest (reads_of work group.items)) (newest (reads_of work group.items)) p e in (
      read_in set work group.items p.0 are (oldest_in (reads_of work group.items) p.0 both.0),
      read_in set work group.items p.1 are (newest_in (reads_of work group.items) p.1 both.1),
    )

first_at : (set : Set) (a b : Option (OutsideRead × OutsideRead)) (p : OutsideRead × OutsideRead)
    → first_of_both a b ≡ Some p
    → (a ≡ Some p → InSet set p) → (b ≡ Some p → InSet set p) → InSet set p
first_at set None b p e one other = other e
first_at set (Some q) b p e one other = one e

first_in : (set : Set) (work : Work) (groups : List TogetherDecl) (p : OutsideRead × OutsideRead)
    → All (λ g. AreItemsOf set g.items) groups → first_apart work groups ≡ Some p → InSet set p
first_in set work [] p are e = absurd cc
first_in set work (g ∷ gs) p are e =
    first_at set (apart_in work g) (first_apart work gs) p e (apart_at set work g p (are 0 g (omega arith)))
    (first_in set work gs p (λ k d lt. are (suc k) d (omega arith)))

judged_known : (names : Names) (stale : Option OutsideRead) (apart : Option (OutsideRead × OutsideRead))
    → ((r : OutsideRead) → stale ≡ Some r → r.item.0 < length names.items)
    → ((p : OutsideRead × OutsideRead) → apart ≡ Some p → (p.0.item.0 < length names.items) × (p.1.item.0 < length names.items))
    → KnownEnd names (judged stale apart)
judged_known names (Some r) apart a b = a r refl
judged_known names None (Some p) a b = b p refl
judged_known names None None a b = tt

verdict_known : (names : Names) (set : Set) (ids : List ItemId) (work : Work) (tick : ℕ) → NamesSet names set
    → IsCompiled set
    → AreItemsOf set ids → KnownEnd names (verdict set.items set.together ids work tick)
unfolding verdict
verdict_known names set ids work tick one ok are =
    judged_known names (find (is_expired set.items tick) (reads_of work ids)) (first_apart work set.together)
    (λ r e. omega (arith, read_in set work ids r are (find_some (is_expired set.items tick) (reads_of work ids) r e).here, one.items))
    (λ p e. let t = first_in set work set.together p ok.together e in (omega (arith, t.0, one.items), omega (arith, t.1, one.items)))

steps_known : (names : Names) (b : Bool) (e : End) → given b end.Overrun ≡ Some e → KnownEnd names e
steps_known names true e is = let same : end.Overrun ≡ e = cc in subst (KnownEnd names) same tt
steps_known names false e is = absurd cc

end_known : (names : Names) (set : Set) (x : Row) (tick : ℕ) (op : Op) (e : End) → NamesSet names set → IsCompiled set
    → x.job.tx.0 < length set.txns → end_by set x tick op ≡ Some e → KnownEnd names e
end_known names set x tick (Write item value) e one ok lt is =
    steps_known names (x.used == (txn_of set x.job.tx.0).steps) e is
end_known names set x tick Commit e one ok lt is =
    let same : verdict set.items set.together (txn_of set x.job.tx.0).reads x.work tick ≡ e = cc in
    subst (KnownEnd names) same
    (verdict_known names set (txn_of set x.job.tx.0).reads x.work tick one ok (ok.reads x.job.tx.0 no_txn lt))
end_known names set x tick Quit e one ok lt is = let same : end.Quit ≡ e = cc in subst (KnownEnd names) same tt
end_known names set x tick other e one ok lt is = steps_known names (x.used == (txn_of set x.job.tx.0).steps) e is

-- ---- ended jobs

-- the items of their ends have names, and none ended before its release
abbrev pub AreKnown : Names → List EndedJob → Type 0
AreKnown names ended = (e : EndedJob) → In e ended → KnownEnd names e.end × (e.release ≤ e.tick)

abbrev one_end : Row → End → ℕ → EndedJob
one_end x e tick = record { job = x.job; release = x.release; end = e; tick = tick }

one_more : (names : Names) (ended : List EndedJob) (x : Row) (e : End) (tick : ℕ) → AreKnown names ended
    → KnownEnd names e
    → x.release ≤ tick → AreKnown names (ended ++ one_end x e tick ∷ [])
one_more names ended x e tick known good le d i =
    elim (append_in d ended (one_end x e tick ∷ []) i) [
      | inl old ↦ known d old
      | inr new ↦ elim new [
        | inl same ↦ subst (λ (q : EndedJob). KnownEnd names q.end × (q.release ≤ q.tick)) (sym same) (good, le)
        | inr none ↦ absurd none
      ]
    ]

settled_known : (names : Names) (set : Set) (x : Row) (tick : ℕ) (o : Option End) (s : State) → AreKnown names s.ended
    → ((e : End) → o ≡ Some e → KnownEnd names e) → x.release ≤ tick → AreKnown names (settled set x tick o s).ended
unfolding with_end
settled_known names set x tick None s known good le = known
settled_known names set x tick (Some e) s known good le = one_more names s.ended x e tick known (good e refl) le

abbrev gone_at : Set → ℕ → State → List Row
gone_at set t s = in_falling_priority set (filter (is_due set t) (pending s.rows))

lates_known : (names : Names) (t : ℕ) (gone : List Row) (s : State) → AreKnown names s.ended
    → ((r : Row) → In r gone → r.release ≤ t) → AreKnown names (fold (with_late t) s gone).ended
unfolding with_end
lates_known names t [] s known le = known
lates_known names t (r ∷ rs) s known le =
    lates_known names t rs (with_late t s r) (one_more names s.ended r end.Late t known tt (le r (inl refl))) (λ q i. le q (inr i))

arrived_known : (names : Names) (set : Set) (t : ℕ) (s : State) → AreKnown names s.ended
    → AreKnown names (arrived set t s).ended
unfolding arrived with_releases with_cancellations
arrived_known names set t s known =
    lates_known names t (gone_at set t s) (record s { now = t }) known (λ r i.
    let due = filter_in (is_due set t) r (pending s.rows) (sorted_in set r (filter (is_due set t) (pending s.rows)) i) in
    let same : r.release + (txn_of set r.job.tx.0).deadline ≡ t = eqb-true _ _ due.1 in
    omega (arith, same))

over_at : (names : Names) (ended : List EndedJob) (o : Option EndedJob) → AreKnown names ended
    → ((e : EndedJob) → o ≡ Some e → In e ended) → KnownOver names (option_map (λ e. e.end) o)
over_at names ended None known from = tt
over_at names ended (Some e) known from = (known e (from e refl)).0

over_known : (names : Names) (s : State) (job : JobId) → AreKnown names s.ended → KnownOver names (end_of s job)
over_known names s job known =
    over_at names s.ended (find (λ e. same_job e.job job) s.ended) known
    (λ e is. (find_some (λ e. same_job e.job job) s.ended e is).here)

-- ---- one entry

abbrev Goes : Names → Option (Entry × State) → Type 0
Goes names None = Unit {0}
Goes names (Some p) = IsWritable names p.0 × AreKnown names p.1.ended

goes_given : (names : Names) (b : Bool) (p : Entry × State) → (b ≡ true → Goes names (Some p)) → Goes names (given b p)
goes_given names true p h = h refl
goes_given names false p h = tt

module _ (names : Names) (set : Set) (es : List Entry) (one : NamesSet names set) (ok : IsCompiled set) (legal : IsLegal set es) (known : AreKnown names (state_of set es).ended) where
  abbrev s : State
  s = state_of set es

  tx_in : (x : Row) → IsPending s.rows x → x.job.tx.0 < length set.txns
  tx_in x here = omega (arith, in_range s.rows x.job.tx.0 x here, (legal_sound set es ok legal).frame.count)

  tx_named : (x : Row) → IsPending s.rows x → x.job.tx.0 < length names.txns
  tx_named x here = omega (arith, tx_in x here, one.txns)

  stepped : (x : Row) (op : Op) → IsPending s.rows x → AreKnown names (with_step set s x op).ended
  unfolding with_step after_effect
  stepped x op here =
      arrived_known names set (s.now + 1) (settled set (row_after s x op) (s.now + 1) (end_by set (row_after s x op) (s.now + 1) op) s)
      (settled_known names set (row_after s x op) (s.now + 1) (end_by set (row_after s x op) (s.now + 1) op) s known
      (λ e is. end_known names set (row_after s x op) (s.now + 1) op e one ok (tx_in x here) is)
      (omega (arith, (legal_delay set es ok legal).since x here)))

  waiting : (x : Row) (on : JobId) → AreKnown names (with_wait s x on).ended
  unfolding with_wait
  waiting x on = known

  goes_answered : (x : Row) (op : Op) (o : Option Above) → IsPending s.rows x → may_ask set x op ≡ true
      → lock_refusal set s x op ≡ o
      → Goes names (Some (answered set s x op o))
  goes_answered x op None here may e =
      let next : State = with_step set s x op in
      let after : AreKnown names next.ended = stepped x op here in (
        (tx_named x here, op_known names set x op one ok (tx_in x here) may, answers s.items x.work op, over_known names next x.job after),
        after,
      )
  goes_answered x op (Some above) here may e =
      let named = named_from set s.rows ok (legal_sound set es ok legal).frame in
      let r = refusal_is set s.rows x above named (refusal_at set s x above (needs_lock x.work op) e) in
      let holder : above.holder.tx.0 < length names.txns =
      subst (λ (j : JobId). j.tx.0 < length names.txns) (sym r.is) (tx_named r.blocker r.here) in (
        (tx_named x here, op_known names set x op one ok (tx_in x here) may, holder),
        waiting x above.holder,
      )

  goes_asked_at : (op : Op) (x : Row) (b : Bool) → IsPending s.rows x
      → Goes names (option_and_then (asked set s op) (cond b (Some x) None))
  goes_asked_at op x true here =
      goes_given names (may_ask set x op) (answered set s x op (lock_refusal set s x op))
      (λ may. goes_answered x op (lock_refusal set s x op) here may refl)
  goes_asked_at op x false here = tt

  goes_asked : (job : JobId) (op : Op) (o : Option Row) → running set s.rows ≡ o
      → Goes names (option_and_then (asked set s op) (option_and_then (of_job job) o))
  goes_asked job op None e = tt
  goes_asked job op (Some x) e =
      let sound = legal_sound set es ok legal in
      goes_asked_at op x (same_job x.job job)
      (running_is set s.rows (refused_all (λ _. false) es) x (named_from set s.rows ok sound.frame) sound.protocol e).here

  goes_idle_at : (o : Option ℕ) → Goes names (option_map (λ t. (Idle s.now t, arrived set t s)) o)
  goes_idle_at None = tt
  goes_idle_at (Some t) = (tt, arrived_known names set t s known)

  goes_idle : (rows : List Row) → Goes names (idled set s rows)
  goes_idle [] = goes_idle_at (next_tick s.planned)
  goes_idle (r ∷ rs) = tt

  planned : (tx tick : ℕ) → AreKnown names (with_plan s tx tick).ended
  unfolding with_plan
  planned tx tick = known

  pub step_goes : (event : Event) → Goes names (step set s event)
  unfolding step
  step_goes (plan tx tick) =
      goes_given names (may_plan set s tx tick) (Planned (record { 0 = tx }) tick, with_plan s tx tick)
      (λ may. (omega (arith, (may_plan_is set s tx tick may).in_set, one.txns), planned tx tick))
  step_goes (ask job op) = goes_asked job op (running set s.rows) refl
  step_goes idle = goes_idle (pending s.rows)

-- ---- whole histories

-- what an entry gives
abbrev Given : Names → State → Entry → Option (Entry × State) → Type 0
Given names s e o = (next : State) × (o ≡ Some (e, next)) × IsWritable names e × AreKnown names next.ended

given_is : (names : Names) (s : State) (e : Entry) (o : Option (Entry × State)) → Goes names o → entry_given o ≡ Some e
    → Given names s e o
given_is names s e None g h = absurd cc
given_is names s e (Some p) g h =
    let same : p.0 ≡ e = cc in
    (p.1, ap (λ (q : Entry). Some (q, p.1)) same, subst (IsWritable names) same g.0, g.1)

pub record Told (names : Names) (set : Set) (es rest : List Entry) : Type 0 where
  pub lines : All (IsWritable names) rest
  pub ends : AreKnown names (states_after set (state_of set es) rest).ended

along : (names : Names) (set : Set) (es rest : List Entry) → NamesSet names set → IsCompiled set → IsLegal set es
    → AreKnown names (state_of set es).ended → IsLegalFrom set (state_of set es) rest → Told names set es rest
along names set es [] one ok legal known from = record { lines = All-nil (IsWritable names); ends = known }
along names set es (e ∷ rest) one ok legal known from =
    let g = given_is names (state_of set es) e (step set (state_of set es) (event_of e)) (step_goes names set es one ok legal known (event_of e)) from.0 in
    let p = pushed set es e g.0 legal g.1 in
    let after : state_after set (state_of set es) e ≡ g.0 = ap (state_given (state_of set es)) g.1 in
    let here : state_after set (state_of set es) e ≡ state_of set (es ++ e ∷ []) = after ∙ p.state in
    let ends : AreKnown names (state_of set (es ++ e ∷ [])).ended = subst (λ (s : State). AreKnown names s.ended) p.state g.3 in
    let more : IsLegalFrom set (state_of set (es ++ e ∷ [])) rest = subst (λ (s : State). IsLegalFrom set s rest) here from.1 in
    let t = along names set (es ++ e ∷ []) rest one ok p.legal ends more in
    record {
      lines = All-cons (IsWritable names) e rest g.2 t.lines;
      ends = subst (λ (s : State). AreKnown names (states_after set s rest).ended) (sym here) t.ends;
    }

none_ended : (names : Names) (set : Set) → AreKnown names (opening set).ended
unfolding opening
none_ended names set e i = absurd i

pub legal_told : (names : Names) (set : Set) (entries : List Entry) → NamesSet names set → IsCompiled set
    → IsLegal set entries
    → Told names set [] entries
legal_told names set entries one ok legal = along names set [] entries one ok tt (none_ended names set) legal

pub legal_lines : LegalHasLines
legal_lines names set entries one ok legal = (legal_told names set entries one ok legal).lines
