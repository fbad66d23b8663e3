-- One step of the running job: what the board answers, and that the body follows.
use Rattle.std.proofs.Common.{◌≡◌, ◌≢◌, ℕ, ◌<◌, ◌≤◌, Bool, true, false, cond, List, [], ◌∷◌, ◌++◌, length, Option, None, Some, refl, ap, sym, ◌∙◌, subst, inl, inr, arith}
use Rattle.std.proofs.lemmas.Bool.{cases_eq}
use Rattle.std.proofs.lemmas.List.{append-nil}
use Rattle.std.specs.Option.{option_map, option_and_then}
use Rattle.rt_base.specs.declared.ids.JobId.{JobId}
use Rattle.rt_base.specs.declared.operation.Op.{Op}
use Rattle.rt_base.specs.declared.operation.Op.TheVariants.{Compute}
use Rattle.rt_base.specs.declared.operation.Outcome.{Outcome}
use Rattle.rt_base.specs.declared.operation.Outcome.TheVariants.{Computed}
use Rattle.rt_base.specs.declared.operation.End.{End}
use Rattle.txn_set.specs.Set.{Set, IsCompiled}
use Rattle.step_journal.specs.declared.entry.Entry.{Entry}
use Rattle.step_journal.specs.declared.entry.Entry.TheVariants.{Step, Blocked}
use Rattle.step_journal.specs.State.{State, Row, same_job}
use Rattle.step_journal.specs.LockRule.{Above}
use Rattle.step_journal.specs.Running.{running, of_job}
use Rattle.step_journal.specs.Step.{Event, ask, given, may_ask, lock_refusal, answered, asked, step}
use Rattle.step_journal.specs.History.{event_of, entry_given, IsLegalEntry, IsLegal, state_of}
use Rattle.step_journal.specs.Serial.{outcome_in, outcomes_of}
use Rattle.board.specs.declared.replies.StepReply.{StepReply}
use Rattle.board.specs.declared.replies.StepReply.TheVariants as reply
use Rattle.board.specs.Answers.{IsAsking, told_by}
use Rattle.board.specs.Histories.{IsHistory, noted, step_entry, step_answer, now_of, running_of}
use Rattle.board.proofs.Asks.{steps_are_steps}
use Rattle.law_histories.proofs.Invariant.{running_is, in_range}
use Rattle.law_histories.proofs.Calendar.{named_from}
use Rattle.law_histories.proofs.Never.{legal_sound, refused_all}
use Rattle.law_histories.proofs.Alone.{outcomes_more_in}
use Rattle.law_histories.specs.Sim.{Body}
use Rattle.law_histories.proofs.Ends.{self_same}
use Rattle.law_histories.proofs.SerialSteps.{other_false}
use Rattle.sim_run.specs.Calls.{IsReached, IsFollowing, MayAsk, CanAsk, HasAsked, job_of}
use Rattle.sim_run.proofs.Behind.{behind_after, behind_running, running_past}
use Rattle.sim_run.proofs.Histories.{state_next, legal_parts}

-- the running row
pub record RunningRow (set : Set) (history : List Entry) (job : JobId) : Type 0 where
  pub row : Row
  pub runs : running set (state_of set history).rows ≡ Some row
  pub is : row.job ≡ job

row_by : (job : JobId) (o : Option Row) → option_map (λ (r : Row). r.job) o ≡ Some job
    → (x : Row) × (o ≡ Some x) × (x.job ≡ job)
row_by job None h = absurd cc
row_by job (Some x) h = (x, refl, cc)

pub running_row : (set : Set) (history : List Entry) (job : JobId) → running_of set history ≡ Some job
    → RunningRow set history job
running_row set history job h = let r = row_by job (running set (state_of set history).rows) h in record { row = r.0; runs = r.1; is = r.2 }

pub job_in_set : (set : Set) (history : List Entry) (job : JobId) → IsCompiled set → IsLegal set history
    → running_of set history ≡ Some job → job.tx.0 < length set.txns
job_in_set set history job ok legal h =
    let r = running_row set history job h in
    let s = state_of set history in
    let refused : JobId → Bool = refused_all (λ _. false) history in
    let sound = legal_sound set history ok legal in
    let run = running_is set s.rows refused r.row (named_from set s.rows ok sound.frame) sound.protocol r.runs in
    omega (arith, in_range s.rows r.row.job.tx.0 r.row run.here, sound.frame.count, ap (λ (j : JobId). j.tx.0) r.is)

-- the step gives an entry

pub record Asked (set : Set) (s : State) (job : JobId) (op : Op) : Type 0 where
  pub entry : Entry
  pub event : event_of entry ≡ ask job op
  pub gives : entry_given (step set s (ask job op)) ≡ Some entry

answered_event : (set : Set) (s : State) (x : Row) (op : Op) (o : Option Above)
    → event_of (answered set s x op o).0 ≡ ask x.job op
answered_event set s x op None = refl
answered_event set s x op (Some above) = refl

step_given : (set : Set) (s : State) (job : JobId) (op : Op) (x : Row) → running set s.rows ≡ Some x → x.job ≡ job
    → may_ask set x op ≡ true
    → step set s (ask job op) ≡ Some (answered set s x op (lock_refusal set s x op))
unfolding step
step_given set s job op x runs is may =
    let own : same_job x.job job ≡ true = ap (same_job x.job) (sym is) ∙ self_same x.job in
    ap (λ (o : Option Row). option_and_then (asked set s op) (option_and_then (of_job job) o)) runs
    ∙ (ap (λ (b : Bool). option_and_then (asked set s op) (cond b (Some x) None)) own
    ∙ ap (λ (b : Bool). given b (answered set s x op (lock_refusal set s x op))) may)

pub asked_entry : (set : Set) (history : List Entry) (job : JobId) (op : Op) → running_of set history ≡ Some job
    → ((row : Row) → running set (state_of set history).rows ≡ Some row → may_ask set row op ≡ true)
    → Asked set (state_of set history) job op
asked_entry set history job op run may =
    let r = running_row set history job run in
    let s = state_of set history in
    let a : Entry × State = answered set s r.row op (lock_refusal set s r.row op) in
    record {
      entry = a.0;
      event = answered_event set s r.row op (lock_refusal set s r.row op) ∙ ap (λ (j : JobId). ask j op) r.is;
      gives = ap entry_given (step_given set s job op r.row r.runs r.is (may r.row r.runs));
    }

pub asked_legal : (set : Set) (s : State) (job : JobId) (op : Op) (a : Asked set s job op) → IsLegalEntry set s a.entry
asked_legal set s job op a = ap (λ (v : Event). entry_given (step set s v)) a.event ∙ a.gives

-- the answer has that entry
pub answer_entry : (set : Set) (room first : ℕ) (kept history : List Entry) (job : JobId) (op : Op) (r : StepReply)
    → IsHistory set room first kept history → length kept < room
    → r ≡ step_answer set history (length kept) room job op → (a : Asked set (state_of set history) job op)
    → step_entry (now_of set history) job op r ≡ Some a.entry
answer_entry set room first kept history job op r is fits e a =
    ap (step_entry (now_of set history) job op) e ∙ (steps_are_steps set history (length kept) room job op is.compiled is.legal fits ∙ a.gives)

-- a job that is told an outcome was answered Done, and one that is told nothing Blocked

pub told_done : (r : StepReply) (outcome : Outcome) → Some outcome ≡ told_by r → (over : Option End) × (r ≡ reply.Done outcome over)
told_done (reply.Done said over) outcome h = (over, cc)
told_done other outcome h = absurd cc

pub told_blocked : (now : ℕ) (job : JobId) (op : Op) (r : StepReply) (entry : Entry) → step_entry now job op r ≡ Some entry → told_by r ≡ None
    → (by : JobId) × (ceiling : ℕ) × (r ≡ reply.Blocked by ceiling)
told_blocked now job op (reply.Blocked by ceiling) entry h none = (by, ceiling, refl)
told_blocked now job op other entry h none = absurd cc

-- the body after it began

follows_new : (stands stands' : ℕ → List Outcome → Type 0) (set : Set) (history : List Entry) (job : JobId)
    (serial : ℕ) → IsCompiled set → IsLegal set history → running_of set history ≡ Some job
    → IsFollowing stands set history job.tx.0 serial
    → (serial ≡ job.serial → stands job.serial (outcomes_of history job) → stands' job.serial (outcomes_of history job))
    → (serial ≢ job.serial → stands' job.serial [])
    → IsFollowing stands' set history job.tx.0 job.serial
follows_new stands stands' set history job serial ok legal run f kept begun =
    let r = running_row set history job run in
    let past : serial ≤ r.row.job.serial = running_past set history r.row serial ok legal r.runs (subst (λ (j : JobId). IsReached (state_of set history) j.tx.0 serial) (sym r.is) f.reached) in
    let le : serial ≤ job.serial = omega (arith, past, ap (λ (j : JobId). j.serial) r.is) in
    record {
      told = elim (cases_eq serial job.serial) [
        | inl e ↦ kept e (subst (λ (k : ℕ). stands k (outcomes_of history (job_of job.tx.0 k))) e f.told)
        | inr ne ↦ subst (stands' job.serial) (sym (f.later job.serial (omega (arith, le, ne)))) (begun ne)
      ];
      later = λ k lt. f.later k (omega (arith, le, lt));
      reached = subst (λ (j : JobId). IsReached (state_of set history) j.tx.0 j.serial) r.is (behind_running set history r.row ok legal r.runs);
    }

-- the outcomes after an entry

outcomes_same : (history : List Entry) (e : Entry) (job : JobId) → outcome_in job e ≡ None
    → outcomes_of (history ++ e ∷ []) job ≡ outcomes_of history job
outcomes_same history e job h = outcomes_more_in history e job None h ∙ append-nil (outcomes_of history job)

step_own : (history : List Entry) (job : JobId) (op : Op) (outcome : Outcome) (over : Option End) (tick : ℕ)
    → outcomes_of (history ++ Step job op outcome over tick ∷ []) job ≡ outcomes_of history job ++ outcome ∷ []
step_own history job op outcome over tick =
    outcomes_more_in history (Step job op outcome over tick) job (Some outcome) (ap (λ (b : Bool). cond {A = Option Outcome} b (Some outcome) None) (self_same job))

step_other : (job j : JobId) (op : Op) (outcome : Outcome) (over : Option End) (tick : ℕ) → (job ≡ j → ⊥)
    → outcome_in j (Step job op outcome over tick) ≡ None
step_other job j op outcome over tick ne = ap (λ (b : Bool). cond {A = Option Outcome} b (Some outcome) None) (other_false job j ne)

-- what an entry of an asked operation is of no other job
pub asked_other : (e : Entry) (job j : JobId) (op : Op) → event_of e ≡ ask job op → (job ≡ j → ⊥)
    → outcome_in j e ≡ None
asked_other (Step by op' outcome over tick) job j op h ne = step_other by j op' outcome over tick (λ same. let is : by ≡ job = cc in ne (sym is ∙ same))
asked_other other job j op h ne = refl

reached_next : (set : Set) (history : List Entry) (e : Entry) (tx serial : ℕ) → IsCompiled set → IsLegal set history
    → IsLegalEntry set (state_of set history) e
    → IsReached (state_of set history) tx serial → IsReached (state_of set (history ++ e ∷ [])) tx serial
reached_next set history e tx serial ok legal is r = subst (λ (s : State). IsReached s tx serial) (sym (state_next set history e)) (behind_after set history e tx serial ok legal is r)

-- a body that was told what the new entry tells follows on
follows_on : (stands stands' : ℕ → List Outcome → Type 0) (set : Set) (history : List Entry) (e : Entry)
    (tx serial : ℕ) → IsCompiled set → IsLegal set history → IsLegalEntry set (state_of set history) e
    → IsFollowing stands set history tx serial → ((k : ℕ) → serial < k → outcome_in (job_of tx k) e ≡ None)
    → stands' serial (outcomes_of (history ++ e ∷ []) (job_of tx serial))
    → IsFollowing stands' set (history ++ e ∷ []) tx serial
follows_on stands stands' set history e tx serial ok legal is f none told = record {
  told = told;
  later = λ k lt. outcomes_same history e (job_of tx k) (none k lt) ∙ f.later k lt;
  reached = reached_next set history e tx serial ok legal is f.reached;
}

serial_apart : (job : JobId) (k : ℕ) → job.serial < k → job ≡ job_of job.tx.0 k → ⊥
serial_apart job k lt e = let s : job.serial ≡ k = ap (λ (j : JobId). j.serial) e in omega arith

follows_done : (stands stands' : ℕ → List Outcome → Type 0) (set : Set) (history : List Entry) (job : JobId) (op : Op)
    (outcome : Outcome) (over : Option End) (tick : ℕ) → IsCompiled set → IsLegal set history
    → IsLegalEntry set (state_of set history) (Step job op outcome over tick)
    → IsFollowing stands set history job.tx.0 job.serial
    → ((os : List Outcome) → stands job.serial os → stands' job.serial (os ++ outcome ∷ []))
    → IsFollowing stands' set (history ++ Step job op outcome over tick ∷ []) job.tx.0 job.serial
follows_done stands stands' set history job op outcome over tick ok legal is f told =
    let e : Entry = Step job op outcome over tick in
    follows_on stands stands' set history e job.tx.0 job.serial ok legal is f
    (λ k lt. step_other job (job_of job.tx.0 k) op outcome over tick (serial_apart job k lt))
    (subst (stands' job.serial) (sym (step_own history job op outcome over tick)) (told (outcomes_of history job) f.told))

pub follows_same : (stands : ℕ → List Outcome → Type 0) (set : Set) (history : List Entry) (e : Entry) (tx serial : ℕ)
    → IsCompiled set → IsLegal set history → IsLegalEntry set (state_of set history) e
    → ((k : ℕ) → outcome_in (job_of tx k) e ≡ None) → IsFollowing stands set history tx serial
    → IsFollowing stands set (history ++ e ∷ []) tx serial
follows_same stands set history e tx serial ok legal is none f =
    follows_on stands stands set history e tx serial ok legal is f (λ k lt. none k) (subst (stands serial) (sym (outcomes_same history e (job_of tx serial) (none serial))) f.told)

some_entry : (x y : Entry) → Some x ≡ Some y → x ≡ y
some_entry x y e = cc

pub job_of_same : (x y : Row) → Some x ≡ Some y → x.job ≡ y.job
job_of_same x y e = let same : x ≡ y = cc in ap (λ (q : Row). q.job) same

-- a body that has begun the running job, and gives the operation that the job may ask for
pub record Given (stands : ℕ → List Outcome → Type 0) (gives : Body) (set : Set) (history : List Entry) (job : JobId) (op : Op) : Type 0 where
  pub compiled : IsCompiled set
  pub legal : IsLegal set history
  pub running : running_of set history ≡ Some job
  pub may : MayAsk set history gives
  pub follows : IsFollowing stands set history job.tx.0 job.serial
  pub is : op ≡ gives job.serial (outcomes_of history job)

pub given_op : {Y : Type 0} {board : List Entry → Type 0} (stands : Y → ℕ → List Outcome → Type 0) {body body' : Y} {gives gives' : Body}
    {set : Set} {room first : ℕ} {kept history : List Entry} {job : JobId} {op : Op} {serial : ℕ}
    → CanAsk board (stands body) gives set job serial history → IsHistory set room first kept history
    → (serial ≡ job.serial → body' ≡ body) → (serial ≢ job.serial → stands body' job.serial [])
    → gives' ≡ gives → ((k : ℕ) (os : List Outcome) → stands body' k os → op ≡ gives' k os)
    → Given (stands body') gives set history job op
given_op {Y} stands {body = body} {body' = body'} {set = set} {history = history} {job = job} {serial = serial} can is kept begun same next =
    let f = follows_new (stands body) (stands body') set history job serial is.compiled is.legal can.running can.follows
    (λ e h. subst (λ (y : Y). stands y job.serial (outcomes_of history job)) (sym (kept e)) h) begun in
    record {
      compiled = is.compiled;
      legal = is.legal;
      running = can.running;
      may = can.may;
      follows = f;
      is = next job.serial (outcomes_of history job) f.told ∙ ap (λ (h : Body). h job.serial (outcomes_of history job)) same;
    }

module _ {stands : ℕ → List Outcome → Type 0} {gives : Body} {set : Set} {history : List Entry} {job : JobId} {op : Op} (k : Given stands gives set history job op) where
  may_by : (row : Row) → row.job ≡ job → running set (state_of set history).rows ≡ Some row → may_ask set row op ≡ true
  may_by row j runs = ap (may_ask set row) (k.is ∙ ap (λ (i : JobId). gives i.serial (outcomes_of history i)) (sym j)) ∙ k.may row runs

  pub asking_now : IsAsking set (state_of set history) job op
  asking_now = let w = running_row set history job k.running in record { row = w.row; runs = w.runs; is = w.is; may = may_by w.row w.is w.runs }

  -- the entry of the answer to that operation
  pub entry_given_by : {room first : ℕ} {kept : List Entry} (r : StepReply) → IsHistory set room first kept history → length kept < room
      → r ≡ step_answer set history (length kept) room job op
      → (a : Asked set (state_of set history) job op) × (step_entry (now_of set history) job op r ≡ Some a.entry)
  entry_given_by {room} {first} {kept} r is fits e =
      let w = running_row set history job k.running in
      let a = asked_entry set history job op k.running (λ row runs. may_by row (job_of_same row w.row (sym runs ∙ w.runs) ∙ w.is) runs) in
      (a, answer_entry set room first kept history job op r is fits e a)

  -- what the asked operation leaves, of which this is the entry
  has_noted : {board : List Entry → Type 0} {stands' : ℕ → List Outcome → Type 0} {serial : ℕ} (o : Option Entry) (a : Asked set (state_of set history) job op) (e : Entry)
      → o ≡ Some a.entry → o ≡ Some e → serial ≡ job.serial → board (noted history o)
      → (IsLegalEntry set (state_of set history) e → IsFollowing stands' set (history ++ e ∷ []) job.tx.0 job.serial)
      → HasAsked board stands' set (ask job (gives job.serial (outcomes_of history job))) job.tx.0 serial history
  has_noted {board} {stands'} o a e is here same new follow =
      let entry : a.entry ≡ e = some_entry a.entry e (sym is ∙ here) in
      record {
        after = history ++ e ∷ [];
        noted = (e, ap event_of (sym entry) ∙ (a.event ∙ ap (ask job) k.is), refl);
        stands = subst board (ap (noted history) here) new;
        follows = subst (IsFollowing stands' set (history ++ e ∷ []) job.tx.0) (sym same) (follow (subst (IsLegalEntry set (state_of set history)) entry (asked_legal set (state_of set history) job op a)));
      }

  pub has_done : {board : List Entry → Type 0} {stands' : ℕ → List Outcome → Type 0} {room first : ℕ} {kept : List Entry} {serial : ℕ} (r : StepReply) (outcome : Outcome)
      → IsHistory set room first kept history → length kept < room → r ≡ step_answer set history (length kept) room job op → Some outcome ≡ told_by r → serial ≡ job.serial
      → board (noted history (step_entry (now_of set history) job op r)) → ((os : List Outcome) → stands job.serial os → stands' job.serial (os ++ outcome ∷ []))
      → HasAsked board stands' set (ask job (gives job.serial (outcomes_of history job))) job.tx.0 serial history
  has_done {stands' = stands'} r outcome is fits e said same new told =
      let a = entry_given_by r is fits e in let d = told_done r outcome said in
      has_noted (step_entry (now_of set history) job op r) a.0 (Step job op outcome d.0 (now_of set history)) a.1 (ap (step_entry (now_of set history) job op) d.1) same new
      (λ l. follows_done stands stands' set history job op outcome d.0 (now_of set history) k.compiled k.legal l k.follows told)

  pub has_blocked : {board : List Entry → Type 0} {room first : ℕ} {kept : List Entry} {serial : ℕ} (r : StepReply)
      → IsHistory set room first kept history → length kept < room → r ≡ step_answer set history (length kept) room job op → told_by r ≡ None → serial ≡ job.serial
      → board (noted history (step_entry (now_of set history) job op r))
      → HasAsked board stands set (ask job (gives job.serial (outcomes_of history job))) job.tx.0 serial history
  has_blocked r is fits e none same new =
      let a = entry_given_by r is fits e in let d = told_blocked (now_of set history) job op r a.0.entry a.1 none in
      let entry : Entry = Blocked job op d.0 d.1 (now_of set history) in
      has_noted (step_entry (now_of set history) job op r) a.0 entry a.1 (ap (step_entry (now_of set history) job op) d.2) same new
      (λ l. follows_same stands set history entry job.tx.0 job.serial k.compiled k.legal l (λ n. refl) k.follows)

  -- what a Compute leaves by which nothing else happens
  pub has_computed : {board : List Entry → Type 0} {stands' : ℕ → List Outcome → Type 0} {serial : ℕ} (tick : ℕ) → op ≡ Compute → serial ≡ job.serial
      → IsLegal set (history ++ Step job Compute Computed None tick ∷ []) → board (history ++ Step job Compute Computed None tick ∷ [])
      → ((os : List Outcome) → stands job.serial os → stands' job.serial (os ++ Computed ∷ []))
      → HasAsked board stands' set (ask job (gives job.serial (outcomes_of history job))) job.tx.0 serial history
  has_computed {stands' = stands'} tick is same legal new told =
      let e : Entry = Step job Compute Computed None tick in
      record {
        after = history ++ e ∷ [];
        noted = (e, ap (ask job) (sym is ∙ k.is), refl);
        stands = new;
        follows = subst (IsFollowing stands' set (history ++ e ∷ []) job.tx.0) (sym same)
            (follows_done stands stands' set history job Compute Computed None tick k.compiled k.legal (legal_parts set history e [] legal).1 k.follows told);
      }
