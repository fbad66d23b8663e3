-- The numbers of a legal history are those of their types, entry by entry.
use Rattle.std.proofs.Common.{◌≡◌, ℕ, ◌+◌, ◌-◌, ◌<◌, ◌≤◌, ◌^◌, Bool, true, false, cond, ◌||◌, List, [], ◌∷◌, ◌++◌, map, Option, Some, None, refl, sym, ap, subst, ◌∙◌, inl, arith, append_assoc, append-nil}
use Rattle.std.specs.List.{All, find, filter}
use Rattle.std.specs.Option.{option_map, option_and_then}
use Rattle.rt_base.specs.declared.ids.JobId.{JobId}
use Rattle.rt_base.specs.declared.operation.Op.{Op}
use Rattle.rt_base.specs.declared.operation.End.{End}
use Rattle.rt_base.specs.declared.release.Release.{Release}
use Rattle.item_model.specs.declared.decl.ItemDecl.{ItemDecl}
use Rattle.txn_set.specs.declared.decl.TxnDecl.{TxnDecl}
use Rattle.txn_set.specs.Set.{Set, IsCompiled, may_read, may_write}
use Rattle.txn_set.specs.Ceilings.{greatest, prios, write_ceiling, absolute_ceiling}
use Rattle.step_journal.specs.declared.entry.Entry.{Entry}
use Rattle.step_journal.specs.declared.entry.Entry.TheVariants.{Planned, Step, Blocked, Idle}
use Rattle.step_journal.specs.declared.entry.EndedJob.{EndedJob}
use Rattle.step_journal.specs.State.{State, Row, pending, same_job}
use Rattle.step_journal.specs.LockRule.{Lock, Above, locks, lock_ceiling, ceiling_of, needs_lock, refusal}
use Rattle.step_journal.specs.Running.{running, of_job}
use Rattle.step_journal.specs.Instant.{arrived}
use Rattle.step_journal.specs.Step.{Event, plan, ask, idle, given, may_plan, with_plan, may_ask, lock_refusal, row_after, end_by, settled, after_effect, with_step, answered, asked, earlier, next_tick, idled, step}
use Rattle.step_journal.specs.History.{event_of, state_given, entry_given, state_after, IsLegalFrom, IsLegal, state_of}
use Rattle.law_histories.specs.Counting.{IsCounted, IsTimed, EntriesAreFew, TimeIsBounded}
use Rattle.journal_text.specs.Lines.{IsOutcome}
use Rattle.law_histories.proofs.Members.{In}
use Rattle.law_histories.proofs.Lists.{find_some}
use Rattle.law_histories.proofs.Invariant.{IsPending, same_job_is, refusal_is, running_is}
use Rattle.law_histories.proofs.Holding.{in_right}
use Rattle.law_histories.proofs.Calendar.{named_from}
use Rattle.law_histories.proofs.Never.{refused_all, refusal_at, legal_sound}
use Rattle.law_histories.proofs.Pushes.{pushed}
use Rattle.report_text.specs.Texts.{is_second}
use Rattle.report_text.specs.Laws.{IsItemDecl}
use Rattle.line_fields.specs.Numbers.{IsI64}
use Rattle.law_histories.proofs.Rooms.{tick_limit as plan_limit}
use Rattle.run_report.specs.Types.{HasValue, EntryHasValue}
use Rattle.run_report.proofs.Every.{Every, chosen, every_in, every_or, every_all, every_append, every_map, every_filter, every_greatest}
use Rattle.run_report.proofs.Fits.{RowFits, EndFits, EndedFits, Fits, outcome_fits, settled_fits, arrived_fits, plan_fits, wait_fits, after_fits, opening_fits}

-- ---- ceilings

prios_most : (set : Set) (p : TxnDecl → Bool) → IsCompiled set → greatest (prios (filter p set.txns)) ≤ 1000
prios_most set p ok =
    let low : Every (λ (t : TxnDecl). t.prio ≤ 1000) set.txns = every_all (λ (t : TxnDecl). t.prio ≤ 1000) set.txns (λ k d lt. (ok.times k d lt).prio.1) in
    every_greatest 1000 (prios (filter p set.txns))
    (every_map (λ (t : TxnDecl). t.prio ≤ 1000) (λ (n : ℕ). n ≤ 1000) (λ t. t.prio) (filter p set.txns) (λ t le. le)
    (every_filter (λ (t : TxnDecl). t.prio ≤ 1000) p set.txns low))

pub write_most : (set : Set) (item : ℕ) → IsCompiled set → write_ceiling set item ≤ 1000
unfolding write_ceiling
write_most set item ok = prios_most set (λ t. may_write t item) ok

pub absolute_most : (set : Set) (item : ℕ) → IsCompiled set → absolute_ceiling set item ≤ 1000
unfolding absolute_ceiling
absolute_most set item ok = prios_most set (λ t. may_read t item || may_write t item) ok

locks_most : (set : Set) (ls : List Lock) → IsCompiled set → Every (λ (n : ℕ). n ≤ 1000) (map (lock_ceiling set) ls)
locks_most set [] ok = tt
locks_most set (l ∷ ls) ok =
    (chosen (λ (n : ℕ). n ≤ 1000) l.is_write (absolute_ceiling set l.item) (write_ceiling set l.item) (absolute_most set l.item ok) (write_most set l.item ok), locks_most set ls ok)

ceiling_most : (set : Set) (x : Row) → IsCompiled set → ceiling_of set x ≤ 1000
unfolding ceiling_of
ceiling_most set x ok = every_greatest 1000 (map (lock_ceiling set) (locks x.work)) (locks_most set (locks x.work) ok)

above_most : (set : Set) (above : Above) (o : Option Row) → IsCompiled set
    → option_map (λ (r : Row). record { holder = r.job; ceiling = ceiling_of set r }) o ≡ Some above → above.ceiling ≤ 1000
above_most set above None ok e = absurd cc
above_most set above (Some r) ok e =
    let same : record { holder = r.job; ceiling = ceiling_of set r } ≡ above = cc in
    subst (λ (a : Above). a.ceiling ≤ 1000) same (ceiling_most set r ok)

refusal_most : (set : Set) (rows : List (Option Row)) (x : Row) (above : Above) → IsCompiled set
    → refusal set rows x ≡ Some above → above.ceiling ≤ 1000
unfolding refusal
refusal_most set rows x above ok e = above_most set above _ ok e

-- ---- what fits

abbrev pub OverFits : Bool → Option End → Type 0
OverFits second None = Unit {0}
OverFits second (Some e) = EndFits second e

abbrev pub EntryFits : Bool → Entry → Type 0
EntryFits second (Planned tx tick) = tick < 2 ^ 64
EntryFits second (Step job op outcome over tick) =
    (job.serial < 2 ^ 32) × (tick < 2 ^ 64) × HasValue op × IsOutcome outcome × OverFits second over
EntryFits second (Blocked job op by ceiling tick) =
    (job.serial < 2 ^ 32) × (tick < 2 ^ 64) × HasValue op × (by.serial < 2 ^ 32) × (ceiling < 2 ^ 32)
EntryFits second (Idle from to) = (from < 2 ^ 64) × (to < 2 ^ 64)

over_fits : (second : Bool) (ended : List EndedJob) (job : JobId) → Every (EndedFits second) ended → (o : Option EndedJob)
    → find (λ e. same_job e.job job) ended ≡ o → OverFits second (option_map (λ e. e.end) o)
over_fits second ended job h None e = tt
over_fits second ended job h (Some d) e =
    (every_in (EndedFits second) ended d h (find_some (λ e. same_job e.job job) ended d e).here).end

abbrev Goes : Bool → Option (Entry × State) → Type 0
Goes second None = Unit {0}
Goes second (Some p) = EntryFits second p.0 × Fits second p.1

goes_given : (second b : Bool) (p : Entry × State) → (b ≡ true → Goes second (Some p)) → Goes second (given b p)
goes_given second true p h = h refl
goes_given second false p h = tt

abbrev TickFits : Option ℕ → Type 0
TickFits None = Unit {0}
TickFits (Some t) = t < 2 ^ 64

earlier_fits : (t : ℕ) (o : Option ℕ) → t < 2 ^ 64 → TickFits (Some (earlier t o))
earlier_fits t None lt = lt
earlier_fits t (Some u) lt = omega (arith, lt)

next_tick_fits : (rs : List Release) → ((r : Release) → In r rs → r.tick < 2 ^ 64) → TickFits (next_tick rs)
next_tick_fits [] h = tt
next_tick_fits (r ∷ rs) h = earlier_fits r.tick (next_tick rs) (h r (inl refl))

-- ---- one entry

abbrev EventHasValue : Event → Type 0
EventHasValue (plan tx tick) = Unit {0}
EventHasValue (ask job op) = HasValue op
EventHasValue idle = Unit {0}

event_has : (e : Entry) → EntryHasValue e → EventHasValue (event_of e)
event_has (Step job op outcome over tick) h = h
event_has (Blocked job op by ceiling tick) h = h
event_has other h = tt

pub pending_serial : (set : Set) (es : List Entry) (x : Row) → IsCompiled set → IsLegal set es → IsCounted set es → IsTimed set es
    → IsPending (state_of set es).rows x → x.job.serial < 2 ^ 32
pending_serial set es x ok legal counted timed here =
    omega (arith, ((legal_sound set es ok legal).calendar.released x here).1, timed.plans x.job.tx.0, counted.planned x.job.tx.0)

module _ (set : Set) (es : List Entry) (ok : IsCompiled set) (legal : IsLegal set es) (counted : IsCounted set es) (timed : IsTimed set es) (h : Fits (is_second set) (state_of set es)) where
  abbrev s : State
  s = state_of set es

  now_fits : s.now + 1 < 2 ^ 64
  now_fits = omega (arith, timed.all)

  serial_fits : (x : Row) → IsPending s.rows x → x.job.serial < 2 ^ 32
  serial_fits x here = pending_serial set es x ok legal counted timed here

  row_is : (x : Row) → IsPending s.rows x → RowFits (Some x)
  row_is x here = subst RowFits here (every_or RowFits s.rows x.job.tx.0 None h.rows tt)

  stepped : (x : Row) (op : Op) → IsPending s.rows x → HasValue op → Fits (is_second set) (with_step set s x op)
  unfolding with_step after_effect
  stepped x op here v =
      let end : Option End = end_by set (row_after s x op) (s.now + 1) op in
      arrived_fits set (is_second set) (s.now + 1) (settled set (row_after s x op) (s.now + 1) end s) now_fits
      (settled_fits set (row_after s x op) (s.now + 1) op s (after_fits s x op h.items (row_is x here) v) now_fits h end refl)

  goes_answered : (x : Row) (op : Op) (o : Option Above) → IsPending s.rows x → HasValue op → lock_refusal set s x op ≡ o
      → Goes (is_second set) (Some (answered set s x op o))
  goes_answered x op None here v e =
      let next : State = with_step set s x op in
      let after : Fits (is_second set) next = stepped x op here v in (
        (
          serial_fits x here,
          omega (arith, now_fits),
          v,
          outcome_fits s.items x.work op h.items (row_is x here).1,
          over_fits (is_second set) next.ended x.job after.ended (find (λ e. same_job e.job x.job) next.ended) refl,
        ),
        after,
      )
  goes_answered x op (Some above) here v e =
      let named = named_from set s.rows ok (legal_sound set es ok legal).frame in
      let refused : refusal set s.rows x ≡ Some above = refusal_at set s x above (needs_lock x.work op) e in
      let r = refusal_is set s.rows x above named refused in
      let holder : above.holder.serial < 2 ^ 32 = subst (λ (j : JobId). j.serial < 2 ^ 32) (sym r.is) (serial_fits r.blocker r.here) in (
        (
          serial_fits x here,
          omega (arith, now_fits),
          v,
          holder,
          omega (arith, refusal_most set s.rows x above ok refused),
        ),
        wait_fits (is_second set) s x above.holder (row_is x here) h,
      )

  goes_asked_at : (op : Op) (x : Row) (b : Bool) → IsPending s.rows x → HasValue op
      → Goes (is_second set) (option_and_then (asked set s op) (cond b (Some x) None))
  goes_asked_at op x true here v =
      goes_given (is_second set) (may_ask set x op) (answered set s x op (lock_refusal set s x op))
      (λ may. goes_answered x op (lock_refusal set s x op) here v refl)
  goes_asked_at op x false here v = tt

  goes_asked : (job : JobId) (op : Op) (o : Option Row) → running set s.rows ≡ o → HasValue op
      → Goes (is_second set) (option_and_then (asked set s op) (option_and_then (of_job job) o))
  goes_asked job op None e v = tt
  goes_asked job op (Some x) e v =
      let sound = legal_sound set es ok legal in
      goes_asked_at op x (same_job x.job job)
      (running_is set s.rows (refused_all (λ _. false) es) x (named_from set s.rows ok sound.frame) sound.protocol e).here v

  goes_idle_at : (o : Option ℕ) → TickFits o → Goes (is_second set) (option_map (λ t. (Idle s.now t, arrived set t s)) o)
  goes_idle_at None fits = tt
  goes_idle_at (Some t) fits = ((omega (arith, now_fits), fits), arrived_fits set (is_second set) t s fits h)

  planned_fits : (r : Release) → In r s.planned → r.tick < 2 ^ 64
  planned_fits r i =
      omega (arith, ((legal_sound set es ok legal).calendar.planned r i).0, timed.last r.job.tx.0, timed.planned)

  goes_idle : (rows : List Row) → Goes (is_second set) (idled set s rows)
  goes_idle [] = goes_idle_at (next_tick s.planned) (next_tick_fits s.planned planned_fits)
  goes_idle (r ∷ rs) = tt

  step_goes : (event : Event) → EventHasValue event → Goes (is_second set) (step set s event)
  unfolding step
  step_goes (plan tx tick) v =
      goes_given (is_second set) (may_plan set s tx tick) (Planned (record { 0 = tx }) tick, with_plan s tx tick)
      (λ may.
      let lt : tick < 2 ^ 64 = omega (arith, plan_limit set s tx tick may) in
      (lt, plan_fits (is_second set) s tx tick lt h))
  step_goes (ask job op) v = goes_asked job op (running set s.rows) refl v
  step_goes idle v = goes_idle (pending s.rows)

-- ---- whole histories

-- what an entry gives
abbrev Given : Bool → Entry → Option (Entry × State) → Type 0
Given second e o = (next : State) × (o ≡ Some (e, next)) × EntryFits second e × Fits second next

given_is : (second : Bool) (e : Entry) (o : Option (Entry × State)) → Goes second o → entry_given o ≡ Some e → Given second e o
given_is second e None g h = absurd cc
given_is second e (Some p) g h =
    let same : p.0 ≡ e = cc in
    (p.1, ap (λ (q : Entry). Some (q, p.1)) same, subst (EntryFits second) same g.0, g.1)

-- the job of an entry that was asked for
serial_asked : (set : Set) (es : List Entry) (e : Entry) (job : JobId) (op : Op) → IsCompiled set → IsLegal set es
    → IsCounted set es → IsTimed set es → (o : Option Row) → running set (state_of set es).rows ≡ o
    → entry_given (option_and_then (asked set (state_of set es) op) (option_and_then (of_job job) o)) ≡ Some e
    → job.serial < 2 ^ 32
serial_asked set es e job op ok legal counted timed None is h = absurd cc
serial_asked set es e job op ok legal counted timed (Some x) is h = at (same_job x.job job) refl h where
  here : IsPending (state_of set es).rows x
  here =
      let sound = legal_sound set es ok legal in
      (running_is set (state_of set es).rows (refused_all (λ _. false) es) x (named_from set (state_of set es).rows ok sound.frame) sound.protocol is).here

  at : (b : Bool) → same_job x.job job ≡ b → entry_given (option_and_then (asked set (state_of set es) op) (cond b (Some x) None)) ≡ Some e → job.serial < 2 ^ 32
  at true same g = subst (λ (j : JobId). j.serial < 2 ^ 32) (same_job_is x.job job same) (pending_serial set es x ok legal counted timed here)
  at false same g = absurd cc

abbrev pub EventSerial : Event → Type 0
EventSerial (plan tx tick) = Unit {0}
EventSerial (ask job op) = job.serial < 2 ^ 32
EventSerial idle = Unit {0}

event_serial : (set : Set) (es : List Entry) (e : Entry) → IsCompiled set → IsLegal set es → IsCounted set es → IsTimed set es
    → (event : Event) → entry_given (step set (state_of set es) event) ≡ Some e → EventSerial event
unfolding step
event_serial set es e ok legal counted timed (plan tx tick) h = tt
event_serial set es e ok legal counted timed (ask job op) h =
    serial_asked set es e job op ok legal counted timed (running set (state_of set es).rows) refl h
event_serial set es e ok legal counted timed idle h = tt

-- the value of each entry is known by those before it
abbrev pub Values : Set → List Entry → Type 0
Values set entries =
    (before after : List Entry) (e : Entry) → entries ≡ before ++ e ∷ after → EventSerial (event_of e)
    → Every (EntryFits (is_second set)) before → EntryHasValue e

-- the entries of the history, and the state after it
pub record HistoryFits (set : Set) (entries : List Entry) : Type 0 where
  pub each : Every (EntryFits (is_second set)) entries
  pub state : Fits (is_second set) (state_of set entries)

along : (set : Set) (entries es rest : List Entry) → EntriesAreFew → TimeIsBounded → IsCompiled set → Values set entries
    → entries ≡ es ++ rest → IsLegal set es → HistoryFits set es → IsLegalFrom set (state_of set es) rest
    → HistoryFits set entries
along set entries es [] few time ok values whole legal h from =
    subst (HistoryFits set) (sym (whole ∙ append-nil es)) h
along set entries es (e ∷ rest) few time ok values whole legal h from =
    let counted = few set es ok legal in
    let timed = time set es ok legal in
    let serial : EventSerial (event_of e) = event_serial set es e ok legal counted timed (event_of e) from.0 in
    let value : EntryHasValue e = values es rest e whole serial h.each in
    let g = given_is (is_second set) e (step set (state_of set es) (event_of e)) (step_goes set es ok legal counted timed h.state (event_of e) (event_has e value)) from.0 in
    let p = pushed set es e g.0 legal g.1 in
    let after : state_after set (state_of set es) e ≡ g.0 = ap (state_given (state_of set es)) g.1 in
    let here : state_after set (state_of set es) e ≡ state_of set (es ++ e ∷ []) = after ∙ p.state in
    let more : IsLegalFrom set (state_of set (es ++ e ∷ [])) rest = subst (λ (s : State). IsLegalFrom set s rest) here from.1 in
    let next : HistoryFits set (es ++ e ∷ []) = record {
      each = every_append (EntryFits (is_second set)) es (e ∷ []) h.each (g.2, tt);
      state = subst (Fits (is_second set)) p.state g.3;
    } in
    along set entries (es ++ e ∷ []) rest few time ok values (whole ∙ sym (append_assoc es (e ∷ []) rest)) p.legal next more

pub history_fits : (set : Set) (entries : List Entry) → EntriesAreFew → TimeIsBounded → IsCompiled set
    → IsLegal set entries → All IsItemDecl set.items → Values set entries → HistoryFits set entries
history_fits set entries few time ok legal items values =
    let initial : Every (λ (d : ItemDecl). IsI64 d.initial) set.items =
    every_all (λ (d : ItemDecl). IsI64 d.initial) set.items (λ k d lt. (items k d lt).initial) in
    along set entries [] entries few time ok values refl tt (record { each = tt; state = opening_fits (is_second set) set initial }) legal

-- values that are known at once
pub all_values : (set : Set) (entries : List Entry) → All EntryHasValue entries → Values set entries
all_values set entries all before after e whole serial fits =
    every_in EntryHasValue entries e (every_all EntryHasValue entries all)
    (subst (In e) (sym whole) (in_right e before (e ∷ after) (inl refl)))
