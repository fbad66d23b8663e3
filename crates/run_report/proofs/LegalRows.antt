-- The rows of a legal history's jobs can be written.
use Rattle.std.proofs.Common.{◌≡◌, ℕ, suc, ◌<◌, ◌≤◌, Bool, true, false, cond, inl, inr, List, [], ◌∷◌, map, length, get_or, Option, Some, None, refl, ap, subst, arith, zero}
use Rattle.std.specs.List.{All}
use Rattle.std.specs.Prelude.{slice_get, ◌&&◌, nat_le, nat_lt}
use Rattle.std.proofs.lemmas.List.Elements.{All-append, All-cons, All-nil}
use Rattle.rt_base.specs.declared.ids.JobId.{JobId}
use Rattle.rt_base.specs.declared.release.Plans.{Plans}
use Rattle.rt_base.specs.declared.name.Names.{Names}
use Rattle.rt_base.specs.declared.operation.End.{End}
use Rattle.txn_set.specs.Set.{Set, IsCompiled}
use Rattle.step_journal.specs.declared.entry.Entry.{Entry}
use Rattle.step_journal.specs.declared.entry.Entry.TheVariants.{Planned, Step, Blocked, Idle}
use Rattle.step_journal.specs.declared.entry.EndedJob.{EndedJob}
use Rattle.step_journal.specs.State.{Row, pending, prio_of}
use Rattle.step_journal.specs.LockRule.{in_falling_priority}
use Rattle.step_journal.specs.Timing.{Span, span_of, delayer_in, delayers_within, delayers}
use Rattle.step_journal.specs.History.{IsLegal, state_of}
use Rattle.law_histories.proofs.Members.{In, in_at, pending_in}
use Rattle.law_histories.proofs.Lists.{all_at, filter_map_in}
use Rattle.law_histories.proofs.Invariant.{in_range}
use Rattle.law_histories.proofs.Calendar.{sorted_in}
use Rattle.law_histories.proofs.Never.{legal_sound}
use Rattle.law_histories.proofs.SerialAll.{legal_serial}
use Rattle.job_rows.specs.Rows.{delay_of, with_delay, ended_row, pending_row}
use Rattle.journal_text.specs.Lines.{IsWritable}
use Rattle.report_text.specs.Texts.{NamesSet, KnownBy, KnownClose, KnownRow}
use Rattle.run_report.specs.Legal.{LegalHasRows}
use Rattle.run_report.proofs.LegalLines.{legal_told}

-- ---- who delayed

by_if : (names : Names) (b : Bool) (by job : JobId) → by.tx.0 < length names.txns → cond b (Some by) None ≡ Some job
    → job.tx.0 < length names.txns
by_if names true by job lt e = let same : by ≡ job = cc in subst (λ (j : JobId). j.tx.0 < length names.txns) same lt
by_if names false by job lt e = absurd cc

delayer_named : (names : Names) (set : Set) (job by : JobId) (span : Span) (e : Entry) → IsWritable names e
    → delayer_in set job span e ≡ Some by → by.tx.0 < length names.txns
delayer_named names set job by span (Step j op outcome over tick) w h =
    by_if names (nat_lt (prio_of set j) (prio_of set job) && nat_le span.from tick && nat_lt tick span.to) j by w.0 h
delayer_named names set job by span (Planned tx tick) w h = absurd cc
delayer_named names set job by span (Blocked j op on ceiling tick) w h = absurd cc
delayer_named names set job by span (Idle from to) w h = absurd cc

within_named : (names : Names) (set : Set) (entries : List Entry) (job by : JobId) (o : Option Span)
    → All (IsWritable names) entries
    → In by (delayers_within set entries job o) → by.tx.0 < length names.txns
within_named names set entries job by None lines i = absurd i
within_named names set entries job by (Some span) lines i =
    let from = filter_map_in (delayer_in set job span) by entries i in
    delayer_named names set job by span from.0 (all_at (IsWritable names) entries from.0 lines from.1) from.2

by_at : (names : Names) (js : List JobId) (o : Option JobId) → slice_get js 0 ≡ o
    → ((j : JobId) → In j js → j.tx.0 < length names.txns)
    → KnownBy names o
by_at names js None e h = tt
by_at names js (Some j) e h = h j (in_at js 0 j e)

by_known : (names : Names) (set : Set) (entries : List Entry) (job : JobId) → All (IsWritable names) entries
    → KnownBy names (slice_get (delayers set entries job) 0)
by_known names set entries job lines =
    by_at names (delayers set entries job) (slice_get (delayers set entries job) 0) refl
    (λ j i. within_named names set entries job j (span_of (state_of set entries) job) lines i)

-- ---- rows

row_known : (names : Names) (set : Set) (entries : List Entry) (job : JobId) (release : ℕ) (end : Option (End × ℕ))
    → All (IsWritable names) entries → job.tx.0 < length names.txns → KnownClose names end
    → ((e : End) (tick : ℕ) → end ≡ Some (e, tick) → release ≤ tick)
    → KnownRow names (with_delay (delay_of set entries job) job release end)
row_known names set entries job release end lines lt close after =
    record { job = lt; close = close; after = after; by = by_known names set entries job lines }

plans_past : (plans : List Plans) (tx : ℕ) (serial : ℕ)
    → serial < (get_or plans tx (record { number = 0; last = 0 })).number → tx < length plans
plans_past [] tx serial lt = absurd (omega arith)
plans_past (p ∷ ps) zero serial lt = omega arith
plans_past (p ∷ ps) (suc tx) serial lt = let below : tx < length ps = plans_past ps tx serial lt in omega arith

abbrev Ending : Type 0
Ending = Option (End × ℕ)

tick_of : Ending → ℕ
tick_of None = 0
tick_of (Some e) = e.1

ended_tick : (e : EndedJob) (end : End) (tick : ℕ) → e.release ≤ e.tick
    → ◌≡◌ {A = Ending} (Some (e.end, e.tick)) (Some (end, tick))
    → e.release ≤ tick
unfolding tick_of
ended_tick e end tick le same = let t : e.tick ≡ tick = ap tick_of same in omega (arith, t)

ended_known : (names : Names) (set : Set) (entries : List Entry) (e : EndedJob) → NamesSet names set → IsCompiled set
    → IsLegal set entries
    → In e (state_of set entries).ended → KnownRow names (ended_row set entries e)
ended_known names set entries e one ok legal i =
    let told = legal_told names set entries one ok legal in
    let known = told.ends e i in
    let lt : e.job.tx.0 < length (state_of set entries).plans =
    plans_past (state_of set entries).plans e.job.tx.0 e.job.serial ((legal_serial set entries ok legal).done e i) in
    let in_set : e.job.tx.0 < length names.txns = omega (arith, lt, (legal_sound set entries ok legal).calendar.plans_count, one.txns) in
    row_known names set entries e.job e.release (Some (e.end, e.tick)) told.lines in_set known.0 (λ end tick same. ended_tick e end tick known.1 same)

pending_known : (names : Names) (set : Set) (entries : List Entry) (row : Row) → NamesSet names set → IsCompiled set
    → IsLegal set entries
    → In row (pending (state_of set entries).rows) → KnownRow names (pending_row set entries row)
pending_known names set entries row one ok legal i =
    let sound = legal_sound set entries ok legal in
    let at = pending_in (state_of set entries).rows row i in
    let same : row.job.tx.0 ≡ at.0 = sound.frame.named at.0 row at.1 in
    let lt : at.0 < length (state_of set entries).rows = in_range (state_of set entries).rows at.0 row at.1 in
    let named : row.job.tx.0 < length names.txns = omega (arith, same, lt, sound.frame.count, one.txns) in
    row_known names set entries row.job row.release None (legal_told names set entries one ok legal).lines named tt (λ e tick h. absurd cc)

all_map : {A B : Type 0} (P : B → Type 0) (f : A → B) (xs : List A) → ((x : A) → In x xs → P (f x)) → All P (map f xs)
all_map P f [] h = All-nil P
all_map P f (x ∷ xs) h = All-cons P (f x) (map f xs) (h x (inl refl)) (all_map P f xs (λ y i. h y (inr i)))

pub legal_rows : LegalHasRows
legal_rows names set entries one ok legal =
    All-append (KnownRow names) (map (ended_row set entries) (state_of set entries).ended)
    (map (pending_row set entries) (in_falling_priority set (pending (state_of set entries).rows)))
    (all_map (KnownRow names) (ended_row set entries) (state_of set entries).ended
    (λ e i. ended_known names set entries e one ok legal i))
    (all_map (KnownRow names) (pending_row set entries) (in_falling_priority set (pending (state_of set entries).rows))
    (λ r i. pending_known names set entries r one ok legal (sorted_in set r (pending (state_of set entries).rows) i)))
