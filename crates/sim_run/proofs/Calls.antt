-- One call of a run: the step of the running job, or idling.
use Rattle.std.proofs.Common.{◌≡◌, ◌≢◌, ◌⊎◌, ℕ, zero, suc, ◌+◌, ◌<◌, Bool, true, false, cond, List, [], ◌∷◌, ◌++◌, length, map, Option, None, Some, get_or, slice_get, set as with_item, refl, ap, sym, ◌∙◌, subst, inl, inr, arith}
use Rattle.std.proofs.lemmas.Bool.{cases_eq}
use Rattle.std.specs.Option.{option_map}
use Rattle.rt_base.specs.declared.ids.JobId.{JobId}
use Rattle.rt_base.specs.declared.operation.Op.{Op}
use Rattle.rt_base.specs.declared.operation.Outcome.{Outcome}
use Rattle.rt_base.specs.declared.release.Release.{Release}
use Rattle.txn_set.specs.Set.{Set, IsCompiled}
use Rattle.step_journal.specs.declared.entry.Entry.{Entry}
use Rattle.step_journal.specs.declared.entry.Entry.TheVariants.{Idle}
use Rattle.step_journal.specs.State.{Row}
use Rattle.step_journal.specs.Running.{running}
use Rattle.step_journal.specs.Step.{ask, idle, may_ask, next_tick}
use Rattle.step_journal.specs.History.{IsLegalEntry, IsLegal, state_of}
use Rattle.step_journal.specs.Serial.{outcomes_of}
use Rattle.board.specs.declared.replies.IdleReply.{IdleReply}
use Rattle.board.specs.declared.replies.IdleReply.TheVariants as reply
use Rattle.board.specs.Answers.{idle_reply_at, waiting_reply}
use Rattle.board.specs.Histories.{IsHistory, noted, idle_entry, idle_answer, now_of, running_of}
use Rattle.board.proofs.Tests.{lt_false}
use Rattle.board.proofs.Asks.{idles_are_steps}
use Rattle.law_histories.proofs.Never.{never_stuck}
use Rattle.law_histories.specs.Sim.{Body, Workload, next_event, event_for, event_in, op_asked}
use Rattle.sim_run.specs.Workloads.{workload, body_of, ObeysAt}
use Rattle.sim_run.specs.Calls.{IsFollowing, AreFollowing, MayAsk, IsNoted, CanAsk, HasAsked, CanCall, HasCalled, job_of}
use Rattle.sim_run.proofs.Histories.{legal_parts}
use Rattle.sim_run.proofs.Asks.{running_row, job_of_same, job_in_set, asked_other, follows_same}

-- lists

pub mapped_at : {A B : Type 0} (f : A → B) (xs : List A) (n : ℕ) (d : A) (e : B) → n < length xs
    → get_or (map f xs) n e ≡ f (get_or xs n d)
mapped_at f [] n d e lt = absurd (omega arith)
mapped_at f (x ∷ xs) zero d e lt = refl
mapped_at f (x ∷ xs) (suc n) d e lt = mapped_at f xs n d e (omega arith)

pub map_set_same : {A B : Type 0} (f : A → B) (xs : List A) (n : ℕ) (d a : A) → f a ≡ f (get_or xs n d)
    → map f (with_item xs n a) ≡ map f xs
map_set_same f [] n d a h = refl
map_set_same {B = B} f (x ∷ xs) zero d a h = ap (λ (y : B). y ∷ map f xs) h
map_set_same {B = B} f (x ∷ xs) (suc n) d a h = ap (λ (ys : List B). f x ∷ ys) (map_set_same f xs n d a h)

here_at : {A : Type 0} (xs : List A) (n : ℕ) (d : A) → n < length xs → slice_get xs n ≡ Some (get_or xs n d)
here_at [] n d lt = absurd (omega arith)
here_at (x ∷ xs) zero d lt = refl
here_at (x ∷ xs) (suc n) d lt = here_at xs n d (omega arith)

set_here : {A : Type 0} (xs : List A) (n : ℕ) (a b : A) → slice_get (with_item xs n a) n ≡ Some b → b ≡ a
set_here [] n a b h = absurd cc
set_here (x ∷ xs) zero a b h = cc
set_here (x ∷ xs) (suc n) a b h = set_here xs n a b h

set_other : {A : Type 0} (xs : List A) (n m : ℕ) (a b : A) → m ≢ n → slice_get (with_item xs n a) m ≡ Some b
    → slice_get xs m ≡ Some b
set_other [] n m a b ne h = absurd cc
set_other (x ∷ xs) zero zero a b ne h = absurd (ne refl)
set_other (x ∷ xs) zero (suc m) a b ne h = h
set_other (x ∷ xs) (suc n) zero a b ne h = h
set_other (x ∷ xs) (suc n) (suc m) a b ne h = set_other xs n m a b (λ e. ne (ap suc e)) h

-- the running job's step

job_by : (x y : Row) (job : JobId) (o : Option Row) → o ≡ Some x → o ≡ Some y → y.job ≡ job → x.job ≡ job
job_by x y job o a b j = job_of_same x y (sym a ∙ b) ∙ j

may_one : {Y : Type 0} (gives : Y → Body) (set : Set) (history : List Entry) (bodies : List Y) (job : JobId) (d : Y)
    → running_of set history ≡ Some job → job.tx.0 < length bodies
    → ObeysAt (workload set (map gives bodies) []) history → MayAsk set history (gives (get_or bodies job.tx.0 d))
may_one gives set history bodies job d run lt obeys = λ row runs.
    let r = running_row set history job run in
    let j : row.job ≡ job = job_by row r.row job (running set (state_of set history).rows) runs r.runs r.is in
    let body : body_of (map gives bodies) row.job.tx.0 ≡ gives (get_or bodies job.tx.0 d) = ap (λ (k : JobId). body_of (map gives bodies) k.tx.0) j ∙ mapped_at gives bodies job.tx.0 d (body_of [] 0) lt in
    ap (λ (f : Body). may_ask set row (f row.job.serial (outcomes_of history row.job))) (sym body) ∙ obeys row runs

next_some : (w : Workload) (history : List Entry) (job : JobId) → running_of w.set history ≡ Some job
    → next_event w history ≡ Some (ask job (op_asked w history job))
next_some w history job run =
    let r = running_row w.set history job run in
    ap (event_for w history (state_of w.set history)) r.runs ∙ ap (λ (j : JobId). Some (ask j (op_asked w history j))) r.is

-- the running job may ask, at its body's place
pub can_ask : {Y : Type 0} {board : List Entry → Type 0} {stands : Y → ℕ → List Outcome → Type 0} (gives : Y → Body) {set : Set} {room first : ℕ} {kept history : List Entry} {bodies : List Y} {serials : List ℕ} {job : JobId} (d : Y)
    → CanCall board stands (workload set (map gives bodies) []) bodies serials history → IsHistory set room first kept history → running_of set history ≡ Some job
    → length bodies ≡ length set.txns → length serials ≡ length set.txns
    → CanAsk board (stands (get_or bodies job.tx.0 d)) (gives (get_or bodies job.tx.0 d)) set job (get_or serials job.tx.0 0) history
can_ask gives {set} {history = history} {bodies = bodies} {serials = serials} {job = job} d can is run a b =
    let lt : job.tx.0 < length set.txns = job_in_set set history job is.compiled is.legal run in let within : job.tx.0 < length bodies = omega (arith, lt, a) in
    record {
      stands = can.stands;
      running = run;
      may = may_one gives set history bodies job d run within can.may;
      follows = can.follows job.tx.0 (get_or bodies job.tx.0 d) (get_or serials job.tx.0 0) (here_at bodies job.tx.0 d within) (here_at serials job.tx.0 0 (omega (arith, lt, b)));
    }

-- the event is that of the body at the job's place
pub next_body : {Y : Type 0} (gives : Y → Body) (set : Set) (history : List Entry) (bodies : List Y) (job : JobId) (d : Y)
    → running_of set history ≡ Some job → job.tx.0 < length bodies
    → next_event (workload set (map gives bodies) []) history ≡ Some (ask job (gives (get_or bodies job.tx.0 d) job.serial (outcomes_of history job)))
next_body gives set history bodies job d run lt =
    next_some (workload set (map gives bodies) []) history job run
    ∙ ap (λ (f : Body). Some (ask job (f job.serial (outcomes_of history job)))) (mapped_at gives bodies job.tx.0 d (body_of [] 0) lt)

-- all bodies follow after the step of one
pub all_follow : {Y : Type 0} (stands : Y → ℕ → List Outcome → Type 0) (set set' : Set) (room first : ℕ)
    (kept history after : List Entry) (bodies : List Y) (serials : List ℕ) (job : JobId) (op : Op) (body' : Y)
    (serial' : ℕ) → IsCompiled set → IsLegal set history → set' ≡ set → IsHistory set' room first kept after
    → IsNoted (ask job op) history after → AreFollowing stands set history bodies serials
    → IsFollowing (stands body') set after job.tx.0 serial'
    → AreFollowing stands set after (with_item bodies job.tx.0 body') (with_item serials job.tx.0 serial')
all_follow {Y = Y} stands set set' room first kept history after bodies serials job op body' serial' ok legal same is e f new = λ tx body serial b s.
    elim (cases_eq tx job.tx.0) [
      | inl here ↦ (let b' : slice_get (with_item bodies job.tx.0 body') job.tx.0 ≡ Some body = subst (λ (n : ℕ). slice_get (with_item bodies job.tx.0 body') n ≡ Some body) here b in
          let s' : slice_get (with_item serials job.tx.0 serial') job.tx.0 ≡ Some serial = subst (λ (n : ℕ). slice_get (with_item serials job.tx.0 serial') n ≡ Some serial) here s in
          let eb : body ≡ body' = set_here bodies job.tx.0 body' body b' in
          let es : serial ≡ serial' = set_here serials job.tx.0 serial' serial s' in
          subst (λ (n : ℕ). IsFollowing (stands body) set after n serial) (sym here)
          (subst (λ (y : Y). IsFollowing (stands y) set after job.tx.0 serial) (sym eb)
          (subst (IsFollowing (stands body') set after job.tx.0) (sym es) new)))
      | inr ne ↦ (let old = f tx body serial (set_other bodies job.tx.0 tx body' body ne b) (set_other serials job.tx.0 tx serial' serial ne s) in
          let l : IsLegal set (history ++ e.0 ∷ []) = subst (IsLegal set) e.2 (subst (λ (q : Set). IsLegal q after) same is.legal) in
          let parts = legal_parts set history e.0 [] l in
          subst (λ (h : List Entry). IsFollowing (stands body) set h tx serial) (sym e.2)
          (follows_same (stands body) set history e.0 tx serial ok legal parts.1 (λ k. asked_other e.0 job (job_of tx k) op e.1 (λ q. ne (sym (ap (λ (j : JobId). j.tx.0) q)))) old))
    ]

-- the running job's step is a call
pub called_by : {Y : Type 0} (board : List Entry → Type 0) (stands : Y → ℕ → List Outcome → Type 0) (w : Workload)
    (set' : Set) (room first : ℕ) (kept history : List Entry) (bodies : List Y) (serials : List ℕ) (job : JobId) (op : Op)
    (body' : Y) (serial' : ℕ) → IsCompiled w.set → IsLegal w.set history → set' ≡ w.set
    → AreFollowing stands w.set history bodies serials → next_event w history ≡ Some (ask job op)
    → (h : HasAsked board (stands body') w.set (ask job op) job.tx.0 serial' history) → IsHistory set' room first kept h.after
    → HasCalled board stands w (with_item bodies job.tx.0 body') (with_item serials job.tx.0 serial') history true
called_by board stands w set' room first kept history bodies serials job op body' serial' ok legal same f next h is = record {
  after = h.after;
  called = (ask job op, next, h.noted);
  stands = h.stands;
  follows = all_follow stands w.set set' room first kept history h.after bodies serials job op body' serial' ok legal same is h.noted f h.follows;
}

-- idling

none_by : (o : Option Row) → option_map (λ (r : Row). r.job) o ≡ None → o ≡ None
none_by None h = refl
none_by (Some x) h = absurd cc

pub running_none : (set : Set) (history : List Entry) → running_of set history ≡ None
    → running set (state_of set history).rows ≡ None
running_none set history h = none_by (running set (state_of set history).rows) h

-- with nothing running there is nothing planned, or the answer is Advanced
abbrev pub Idled : Workload → List Entry → IdleReply → Type 0
Idled w history r = ((r ≡ reply.Nothing) × ((state_of w.set history).planned ≡ [])) ⊎ ((t : ℕ) × (r ≡ reply.Advanced t) × (next_event w history ≡ Some idle))

idled_at : (w : Workload) (history : List Entry) (kept room : ℕ) (r : IdleReply) (planned : List Release)
    → running w.set (state_of w.set history).rows ≡ None → (state_of w.set history).planned ≡ planned → kept < room
    → r ≡ waiting_reply kept room (next_tick planned) → Idled w history r
idled_at w history kept room r [] run p lt e = inl (e, p)
idled_at w history kept room r (q ∷ qs) run p lt e =
    let next : next_event w history ≡ Some idle = ap (event_for w history (state_of w.set history)) run ∙ ap event_in p in
    some_tick (next_tick (q ∷ qs)) refl next (e ∙ refl) lt where
      some_tick : (o : Option ℕ) → next_tick (q ∷ qs) ≡ o → next_event w history ≡ Some idle → r ≡ waiting_reply kept room o
          → kept < room → Idled w history r
      some_tick None t next e lt = absurd cc
      some_tick (Some t) u next e lt = inr (t, e ∙ ap (λ (b : Bool). cond b (reply.Full room) (reply.Advanced t)) (lt_false _ _ lt), next)

pub idled : (w : Workload) (history : List Entry) (kept room : ℕ) (r : IdleReply) → running_of w.set history ≡ None
    → kept < room → r ≡ idle_answer w.set history kept room
    → Idled w history r
idled w history kept room r run lt e =
    let none = running_none w.set history run in
    idled_at w history kept room r (state_of w.set history).planned none refl lt (e ∙ ap (idle_reply_at (state_of w.set history) kept room) none)

-- idling is legal, and all bodies follow after it
idle_follow : {Y : Type 0} (stands : Y → ℕ → List Outcome → Type 0) (set : Set) (kept room : ℕ) (history : List Entry)
    (bodies : List Y) (serials : List ℕ) (r : IdleReply) (to : ℕ) → IsCompiled set → IsLegal set history → kept < room
    → r ≡ idle_answer set history kept room → r ≡ reply.Advanced to → AreFollowing stands set history bodies serials
    → AreFollowing stands set (history ++ Idle (now_of set history) to ∷ []) bodies serials
idle_follow stands set kept room history bodies serials r to ok legal lt e is f = λ tx body serial b s.
    let l : IsLegalEntry set (state_of set history) (Idle (now_of set history) to) = sym (idles_are_steps set history kept room ok legal lt) ∙ (ap (idle_entry (now_of set history)) (sym e) ∙ ap (idle_entry (now_of set history)) is) in
    follows_same (stands body) set history (Idle (now_of set history) to) tx serial ok legal l (λ k. refl) (f tx body serial b s)

pub advanced_some : (t : ℕ) → reply.Advanced t ≡ reply.Nothing → ⊥
advanced_some t e = cc

pub called_idle : {Y : Type 0} (board : List Entry → Type 0) (stands : Y → ℕ → List Outcome → Type 0) (w : Workload)
    (kept room : ℕ) (history : List Entry) (bodies : List Y) (serials : List ℕ) (r : IdleReply) (to : ℕ)
    → IsCompiled w.set → IsLegal w.set history → kept < room → running_of w.set history ≡ None
    → r ≡ idle_answer w.set history kept room → r ≡ reply.Advanced to
    → board (noted history (idle_entry (now_of w.set history) r)) → AreFollowing stands w.set history bodies serials
    → HasCalled board stands w bodies serials history true
called_idle board stands w kept room history bodies serials r to ok legal lt run e is new f =
    elim (idled w history kept room r run lt e) [
      | inl n ↦ absurd (advanced_some to (sym is ∙ n.0))
      | inr a ↦ record {
        after = history ++ Idle (now_of w.set history) to ∷ [];
        called = (idle, a.2, (Idle (now_of w.set history) to, refl, refl));
        stands = subst (λ (q : IdleReply). board (noted history (idle_entry (now_of w.set history) q))) is new;
        follows = idle_follow stands w.set kept room history bodies serials r to ok legal lt e is f;
      }
    ]

pub called_none : {Y : Type 0} (board : List Entry → Type 0) (stands : Y → ℕ → List Outcome → Type 0) (w : Workload)
    (kept room : ℕ) (history : List Entry) (bodies : List Y) (serials : List ℕ) (r : IdleReply)
    → IsCompiled w.set → IsLegal w.set history → kept < room → running_of w.set history ≡ None
    → r ≡ idle_answer w.set history kept room → r ≡ reply.Nothing
    → board (noted history (idle_entry (now_of w.set history) r)) → AreFollowing stands w.set history bodies serials
    → HasCalled board stands w bodies serials history false
called_none board stands w kept room history bodies serials r ok legal lt run e is new f =
    elim (idled w history kept room r run lt e) [
      | inl n ↦ record {
        after = history;
        called = (refl, (never_stuck w.set history ok legal).runs (running_none w.set history run), n.1);
        stands = subst (λ (q : IdleReply). board (noted history (idle_entry (now_of w.set history) q))) is new;
        follows = f;
      }
      | inr a ↦ absurd (advanced_some a.0 (sym a.1 ∙ is))
    ]

-- one more body has begun
pub begun_more : {Y : Type 0} (began : Y → Type 0) (bodies : List Y) (serials : List ℕ) (n : ℕ) (body' : Y)
    → began body'
    → ((tx : ℕ) (body : Y) (serial : ℕ) → tx < n → slice_get bodies tx ≡ Some body → slice_get serials tx ≡ Some serial → (serial ≡ 0) × began body)
    → (tx : ℕ) (body : Y) (serial : ℕ) → tx < n + 1 → slice_get (with_item bodies n body') tx ≡ Some body
    → slice_get (with_item serials n 0) tx ≡ Some serial → (serial ≡ 0) × began body
begun_more {Y = Y} began bodies serials n body' new old tx body serial lt b s =
    elim (cases_eq tx n) [
      | inl here ↦ (let b' : slice_get (with_item bodies n body') n ≡ Some body = subst (λ (k : ℕ). slice_get (with_item bodies n body') k ≡ Some body) here b in
          let s' : slice_get (with_item serials n 0) n ≡ Some serial = subst (λ (k : ℕ). slice_get (with_item serials n 0) k ≡ Some serial) here s in
          (set_here serials n 0 serial s', subst began (sym (set_here bodies n body' body b')) new))
      | inr ne ↦ old tx body serial (omega (arith, ne)) (set_other bodies n tx body' body ne b) (set_other serials n tx 0 serial ne s)
    ]
