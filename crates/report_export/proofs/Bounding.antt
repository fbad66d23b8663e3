-- What is told of a legal history is within its bounds.
use Rattle.std.proofs.Common.{◌≡◌, ◌≢◌, ◌⊎◌, inl, inr, ℕ, ◌+◌, ◌-◌, ◌≤◌, Bool, true, false, cond, List, [], ◌∷◌, map, length, Option, None, Some, refl, sym, ap, subst, ◌∙◌, arith}
use Rattle.std.specs.Prelude.{◌==◌, IsTrue}
use Rattle.std.proofs.lemmas.Bool.{eqb-true}
use Rattle.std.specs.Option.{option_map}
use Rattle.rt_base.specs.declared.ids.JobId.{JobId}
use Rattle.rt_base.specs.declared.operation.End.{End}
use Rattle.rt_base.specs.declared.operation.End.TheVariants as end
use Rattle.item_model.specs.Kinds.{validity_of, is_dated}
use Rattle.item_model.specs.declared.stored.OutsideRead.{OutsideRead}
use Rattle.txn_set.specs.Set.{Set, txn_of, IsCompiled}
use Rattle.txn_set.specs.Ceilings.{blocking}
use Rattle.step_journal.specs.declared.entry.Entry.{Entry}
use Rattle.step_journal.specs.declared.entry.Entry.TheVariants.{Step}
use Rattle.step_journal.specs.declared.entry.EndedJob.{EndedJob}
use Rattle.step_journal.specs.State.{Row, pending, same_job}
use Rattle.step_journal.specs.LockRule.{in_falling_priority}
use Rattle.step_journal.specs.History.{IsLegal, state_of}
use Rattle.step_journal.specs.Timing.{delayers, outside_read, read_in, outside_reads_of}
use Rattle.law_histories.proofs.Members.{In, filter_in}
use Rattle.law_histories.proofs.Holding.{append_in, map_in}
use Rattle.law_histories.proofs.Lists.{all_at, filter_map_in, in_filter_map}
use Rattle.law_histories.proofs.Invariant.{same_job_is}
use Rattle.law_histories.specs.Protocol.{OneDelay}
use Rattle.law_histories.specs.Commits.{ConsistentCommits, IsConsistent}
use Rattle.law_times.specs.Deadlines.{EachIsInTime, IsInTime}
use Rattle.law_times.specs.Freshness.{EndsAreFresh, AreWithinAge, IsWithinAge}
use Rattle.set_admission.specs.Bounds.{response_of, age_of}
use Rattle.set_admission.specs.Laws.{KeepsBounds as KeepsBoundsOfSet, AdmittedUnlessRefused, AdmittedKeepsBounds}
use Rattle.job_rows.specs.declared.row.JobRow.{JobRow}
use Rattle.job_rows.specs.Rows.{ended_row, pending_row, job_rows}
use Rattle.board.proofs.Overs.{same_self as same_itself}
use Rattle.report_export.specs.Worsts.{at_least, worst, jobs_of, response_in, responses, delays, commit_tick, commit_of, read_age, age_in, ages}
use Rattle.report_export.specs.Laws.{IsWithinLimits, IsWithinBounds, WithinBounds}

-- ---- the worst is one of them

abbrev AtMost : ℕ → Option ℕ → Type 0
AtMost b None = Unit {0}
AtMost b (Some n) = n ≤ b

least_within : (b x : ℕ) (o : Option ℕ) → x ≤ b → AtMost b o → at_least x o ≤ b
least_within b x None le h = le
least_within b x (Some y) le h = omega (arith, le, h)

all_within : (b : ℕ) (xs : List ℕ) → ((x : ℕ) → In x xs → x ≤ b) → AtMost b (worst xs)
all_within b [] h = tt
all_within b (x ∷ xs) h = least_within b x (worst xs) (h x (inl refl)) (all_within b xs (λ y i. h y (inr i)))

worst_within : (b : ℕ) (xs : List ℕ) (found : ℕ) → ((x : ℕ) → In x xs → x ≤ b) → worst xs ≡ Some found → found ≤ b
worst_within b xs found h e = subst (AtMost b) e (all_within b xs h)

-- ---- the rows of a history

-- a row is that of an ended job or of a pending one
abbrev IsRow : Set → List Entry → JobRow → Type 0
IsRow set entries row =
    ((e : EndedJob) × In e (state_of set entries).ended × (row ≡ ended_row set entries e))
    ⊎ ((r : Row) × (row ≡ pending_row set entries r))

row_is : (set : Set) (entries : List Entry) (row : JobRow) → In row (job_rows set entries) → IsRow set entries row
row_is set entries row i =
    elim (append_in row (map (ended_row set entries) (state_of set entries).ended)
    (map (pending_row set entries) (in_falling_priority set (pending (state_of set entries).rows))) i) [
      | inl j ↦ inl (map_in (ended_row set entries) row (state_of set entries).ended j)
      | inr j ↦ (let r = map_in (pending_row set entries) row (in_falling_priority set (pending (state_of set entries).rows)) j in inr (r.0, r.2))
    ]

-- ---- responses

response_of_ended : (e : EndedJob) (x : ℕ) → Some (e.tick - e.release) ≡ Some x → x ≡ e.tick - e.release
response_of_ended e x h = cc

response_row : (set : Set) (entries : List Entry) (tx bound : ℕ) (row : JobRow) (x : ℕ) → IsInTime tx bound (state_of set entries)
    → row.job.tx.0 ≡ tx → response_in row ≡ Some x → IsRow set entries row → x ≤ bound
response_row set entries tx bound row x time of is (inl (e, i, same)) =
    let own : e.job.tx.0 ≡ tx = ap (λ (r : JobRow). r.job.tx.0) (sym same) ∙ of in
    let le = (all_at (λ (w : EndedJob). w.job.tx.0 ≡ tx → (w.tick ≤ w.release + bound) × (w.end ≢ end.Late)) (state_of set entries).ended e time.ended i own).0 in
    let found : x ≡ e.tick - e.release = response_of_ended e x (ap response_in (sym same) ∙ is) in
    omega (arith, le, found)
response_row set entries tx bound row x time of is (inr (r, same)) =
    let none : response_in row ≡ None = ap response_in same in absurd (cc none)

response_within : (set : Set) (entries : List Entry) (tx bound : ℕ) → IsInTime tx bound (state_of set entries) → (x : ℕ)
    → In x (responses (jobs_of tx (job_rows set entries))) → x ≤ bound
response_within set entries tx bound time x i =
    let found = filter_map_in response_in x (jobs_of tx (job_rows set entries)) i in
    let kept = filter_in (λ (r : JobRow). r.job.tx.0 == tx) found.0 (job_rows set entries) found.1 in
    response_row set entries tx bound found.0 x time (eqb-true found.0.job.tx.0 tx kept.1) found.2 (row_is set entries found.0 kept.0)

-- ---- delays

delay_is : (set : Set) (entries : List Entry) (row : JobRow) → IsRow set entries row → row.delay ≡ length (delayers set entries row.job)
delay_is set entries row (inl (e, i, same)) = subst (λ (r : JobRow). r.delay ≡ length (delayers set entries r.job)) (sym same) refl
delay_is set entries row (inr (r, same)) = subst (λ (r : JobRow). r.delay ≡ length (delayers set entries r.job)) (sym same) refl

delay_row : (set : Set) (entries : List Entry) (tx : ℕ) (row : JobRow) → OneDelay → IsCompiled set → IsLegal set entries
    → row.job.tx.0 ≡ tx → IsRow set entries row → row.delay ≤ blocking set (txn_of set tx).prio
delay_row set entries tx row one ok legal of is =
    let le : length (delayers set entries row.job) ≤ blocking set (txn_of set tx).prio =
    subst (λ (k : ℕ). length (delayers set entries row.job) ≤ blocking set (txn_of set k).prio) of (one set entries row.job ok legal).few in
    omega (arith, le, delay_is set entries row is)

delay_within : (set : Set) (entries : List Entry) (tx : ℕ) → OneDelay → IsCompiled set → IsLegal set entries → (x : ℕ)
    → In x (delays (jobs_of tx (job_rows set entries))) → x ≤ blocking set (txn_of set tx).prio
delay_within set entries tx one ok legal x i =
    let found = map_in (λ (r : JobRow). r.delay) x (jobs_of tx (job_rows set entries)) i in
    let kept = filter_in (λ (r : JobRow). r.job.tx.0 == tx) found.0 (job_rows set entries) found.1 in
    let le = delay_row set entries tx found.0 one ok legal (eqb-true found.0.job.tx.0 tx kept.1) (row_is set entries found.0 kept.0) in
    omega (arith, le, found.2)

-- ---- ages

-- a job that is told to have committed did
pub record Committed (set : Set) (entries : List Entry) (job : JobId) (tick : ℕ) : Type 0 where
  pub ended : EndedJob
  pub is : In ended (state_of set entries).ended
  pub job_is : ended.job ≡ job
  pub committed : ended.end ≡ end.Committed
  pub tick_is : ended.tick ≡ tick

commit_end : (e : End) (t tick : ℕ) → commit_tick (Some (e, t)) ≡ Some tick → (e ≡ end.Committed) × (t ≡ tick)
commit_end end.Committed t tick h = (refl, cc)
commit_end e t tick h = absurd cc

found_row : (row : JobRow) (rows : List JobRow) (job : JobId) (tick : ℕ) (b : Bool) → same_job row.job job ≡ b
    → cond b (commit_tick row.end) (commit_of rows job) ≡ Some tick
    → (commit_of rows job ≡ Some tick → (r : JobRow) × In r rows × (r.job ≡ job) × (commit_tick r.end ≡ Some tick))
    → (r : JobRow) × In r (row ∷ rows) × (r.job ≡ job) × (commit_tick r.end ≡ Some tick)
found_row row rows job tick true e h rest = (row, inl refl, same_job_is row.job job e, h)
found_row row rows job tick false e h rest = let r = rest h in (r.0, inr r.1, r.2, r.3)

commit_row : (rows : List JobRow) (job : JobId) (tick : ℕ) → commit_of rows job ≡ Some tick
    → (r : JobRow) × In r rows × (r.job ≡ job) × (commit_tick r.end ≡ Some tick)
commit_row [] job tick h = absurd cc
commit_row (row ∷ rows) job tick h = found_row row rows job tick (same_job row.job job) refl h (commit_row rows job tick)

row_committed : (set : Set) (entries : List Entry) (row : JobRow) (job : JobId) (tick : ℕ) → IsRow set entries row → row.job ≡ job
    → commit_tick row.end ≡ Some tick → Committed set entries job tick
row_committed set entries row job tick (inl (e, i, same)) of h =
    let told = commit_end e.end e.tick tick (ap (λ (r : JobRow). commit_tick r.end) (sym same) ∙ h) in
    record {
      ended = e;
      is = i;
      job_is = ap (λ (r : JobRow). r.job) (sym same) ∙ of;
      committed = told.0;
      tick_is = told.1;
    }
row_committed set entries row job tick (inr (r, same)) of h =
    let none : commit_tick row.end ≡ None = ap (λ (q : JobRow). commit_tick q.end) same in absurd (cc none)

committed : (set : Set) (entries : List Entry) (job : JobId) (tick : ℕ) → commit_of (job_rows set entries) job ≡ Some tick
    → Committed set entries job tick
committed set entries job tick h =
    let r = commit_row (job_rows set entries) job tick h in
    row_committed set entries r.0 job tick (row_is set entries r.0 r.1) r.2 r.3

-- an age is that of an outside read of a committed job
pub record IsAge (set : Set) (entries : List Entry) (item x : ℕ) : Type 0 where
  pub job : JobId
  pub read : OutsideRead
  pub tick : ℕ
  pub of_job : In read (outside_reads_of entries job)
  pub of_item : read.item.0 ≡ item
  pub at_end : Committed set entries job tick
  pub age : x ≡ tick - read.stamp

tick_age : (set : Set) (entries : List Entry) (item x : ℕ) (job : JobId) (r : OutsideRead) (b : Bool) → (r.item.0 == item) ≡ b
    → In r (outside_reads_of entries job) → (o : Option ℕ) → commit_of (job_rows set entries) job ≡ o
    → cond {A = Option ℕ} b (option_map (λ tick. tick - r.stamp) o) None ≡ Some x → IsAge set entries item x
tick_age set entries item x job r false e i o c h = absurd cc
tick_age set entries item x job r true e i None c h = absurd cc
tick_age set entries item x job r true e i (Some tick) c h =
    record {
      job = job;
      read = r;
      tick = tick;
      of_job = i;
      of_item = eqb-true r.item.0 item e;
      at_end = committed set entries job tick c;
      age = let so : tick - r.stamp ≡ x = cc in sym so;
    }

read_is : (set : Set) (entries : List Entry) (item x : ℕ) (job : JobId) (o : Option OutsideRead)
    → ((r : OutsideRead) → o ≡ Some r → In r (outside_reads_of entries job))
    → read_age (job_rows set entries) item job o ≡ Some x → IsAge set entries item x
read_is set entries item x job None of h = absurd cc
read_is set entries item x job (Some r) of h =
    tick_age set entries item x job r (r.item.0 == item) refl (of r refl) (commit_of (job_rows set entries) job) refl h

entry_is : (set : Set) (entries : List Entry) (item x : ℕ) (e : Entry) → In e entries → age_in (job_rows set entries) item e ≡ Some x
    → IsAge set entries item x
entry_is set entries item x (Step job op outcome over tick) i h =
    read_is set entries item x job (outside_read op outcome)
    (λ r is. in_filter_map (read_in job) (Step job op outcome over tick) r entries i
    (ap (λ (b : Bool). cond {A = Option OutsideRead} b (outside_read op outcome) None) (same_itself job) ∙ is)) h
entry_is set entries item x e i h = absurd cc

is_age : (set : Set) (entries : List Entry) (item x : ℕ) → In x (ages (job_rows set entries) item entries) → IsAge set entries item x
is_age set entries item x i =
    let found = filter_map_in (age_in (job_rows set entries) item) x entries i in
    entry_is set entries item x found.0 found.1 found.2

age_valid : (set : Set) (entries : List Entry) (item validity x : ℕ) → ConsistentCommits → IsCompiled set → IsLegal set entries
    → validity_of set.items item ≡ Some validity → IsAge set entries item x → x ≤ validity
age_valid set entries item validity x law ok legal is a =
    let w = a.at_end in
    let reads = outside_reads_of entries w.ended.job in
    let consistent = all_at (λ (e : EndedJob). e.end ≡ end.Committed → IsConsistent set e (outside_reads_of entries e.job)) (state_of set entries).ended w.ended (law set entries ok legal) w.is w.committed in
    let i : In a.read reads = subst (λ (j : JobId). In a.read (outside_reads_of entries j)) (sym w.job_is) a.of_job in
    let so : validity_of set.items a.read.item.0 ≡ Some validity = ap (λ (k : ℕ). validity_of set.items k) a.of_item ∙ is in
    let le = all_at (λ (r : OutsideRead). (v : ℕ) → validity_of set.items r.item.0 ≡ Some v → w.ended.tick - r.stamp ≤ v) reads a.read consistent.valid i validity so in
    omega (arith, le, a.age, w.tick_is)

age_bounded : (set : Set) (entries : List Entry) (item x : ℕ) → EndsAreFresh set (age_of set) entries
    → IsTrue (is_dated set.items item) → IsAge set entries item x → x ≤ age_of set item
age_bounded set entries item x fresh dated a =
    let w = a.at_end in
    let reads = outside_reads_of entries w.ended.job in
    let within = all_at (λ (e : EndedJob). e.end ≡ end.Committed → AreWithinAge set (age_of set) e (outside_reads_of entries e.job)) (state_of set entries).ended w.ended fresh.age w.is w.committed in
    let i : In a.read reads = subst (λ (j : JobId). In a.read (outside_reads_of entries j)) (sym w.job_is) a.of_job in
    let so : IsTrue (is_dated set.items a.read.item.0) = subst (λ (k : ℕ). IsTrue (is_dated set.items k)) (sym a.of_item) dated in
    let le = (all_at (λ (r : OutsideRead). IsTrue (is_dated set.items r.item.0) → IsWithinAge (age_of set) w.ended r) reads a.read within i so).age in
    let at : age_of set a.read.item.0 ≡ age_of set item = ap (age_of set) a.of_item in
    omega (arith, le, at, a.age, w.tick_is)

-- ---- all

within_limits : EachIsInTime → OneDelay → ConsistentCommits → (set : Set) (entries : List Entry) → IsCompiled set → IsLegal set entries
    → IsWithinLimits set entries
within_limits in_time one consistent set entries ok legal = record {
  response = λ tx bound found is e. worst_within bound (responses (jobs_of tx (job_rows set entries))) found
      (response_within set entries tx bound (in_time set entries tx bound ok legal is)) e;
  delay = λ tx found e. worst_within (blocking set (txn_of set tx).prio) (delays (jobs_of tx (job_rows set entries))) found
      (delay_within set entries tx one ok legal) e;
  valid = λ item validity found is e. worst_within validity (ages (job_rows set entries) item entries) found
      (λ x i. age_valid set entries item validity x consistent ok legal is (is_age set entries item x i)) e;
}

within : (set : Set) (entries : List Entry) → KeepsBoundsOfSet set entries → IsWithinBounds set entries
within set entries kept = record {
  response = λ tx found inside e. worst_within (response_of set tx) (responses (jobs_of tx (job_rows set entries))) found
      (response_within set entries tx (response_of set tx) (kept.in_time tx inside)) e;
  age = λ steady item found dated e. worst_within (age_of set item) (ages (job_rows set entries) item entries) found
      (λ x i. age_bounded set entries item x (kept.fresh steady) dated (is_age set entries item x i)) e;
}

pub within_bounds : EachIsInTime → OneDelay → ConsistentCommits → AdmittedUnlessRefused → AdmittedKeepsBounds → WithinBounds
within_bounds in_time one consistent decided kept set entries ok legal =
    let is = decided set ok in
    record {
      limits = within_limits in_time one consistent set entries ok legal;
      admitted = λ admitted. within set entries (kept set entries ok (is.by_found.0 (is.by_rule.1 admitted)) legal);
    }
