-- Tries of members, and rounds.
use Rattle.std.proofs.Common.{◌≡◌, ℕ, ◌+◌, ◌-◌, ◌<◌, ◌≤◌, le_refl, length-append, List, [], ◌∷◌, ◌++◌, Option, Some, None, Result, Ok, Err, IsErr, IsErrAnd, Vec, Global, vec_len, length, All, Bool, slice_index_or, slice_set, refl, sym, ap, subst, ◌∙◌, arith, rules, append_assoc, append-nil}
use Rattle.std.proofs.lemmas.List.{length-set, get_or-set_same, get_or-set_other, get_or_default}
use Rattle.std.proofs.lemmas.Option.{slice_get-get_or}
use Rattle.std.proofs.lemmas.Result.{IfErr-weaker, err_from_is_err_and}
use mathlib.Core.Logic.{dite}
use native.Mathlib.Decide.{ℕ_discrete}
use Rattle.rt_base.specs.declared.ids.TxId.{TxId}
use Rattle.rt_base.specs.declared.ids.JobId.{JobId}
use Rattle.rt_base.specs.declared.operation.Op.{Op}
use Rattle.rt_base.specs.declared.operation.Outcome.{Outcome}
use Rattle.step_journal.specs.declared.entry.Entry.{Entry}
use Rattle.board.specs.declared.replies.StepReply.{StepReply}
use Rattle.board.specs.declared.replies.StepReply.TheVariants as reply
use Rattle.board.specs.Histories.{noted, step_entry, step_answer, now_of, ended_of}
use Rattle.turn_cell.specs.Turn.{Begins}
use Rattle.turn_cell.proofs.Lists.{whole, longer, chained}
use Rattle.shared_plant.specs.Seats.{PlantFacts, SeatFacts, IsOf}
use Rattle.shared_plant.specs.Answers.{missed_once, with_own, turned, Answered}
use Rattle.txn_threads.specs.declared.member.Halt.{Halt}
use Rattle.txn_threads.specs.declared.member.Member.{Member}
use Rattle.txn_threads.specs.declared.member.Worker.{Worker}
use Rattle.txn_threads.specs.declared.tries.TryOutcome.{TryOutcome}
use Rattle.txn_threads.specs.declared.tries.TryOutcome.TheVariants.{NoJob}
use Rattle.txn_threads.specs.Scripts.{job_of, own_outcomes, AreAsked}
use Rattle.txn_threads.specs.Plans.{plans_in, ArePlanned}
use Rattle.txn_threads.specs.Rising.{AreRising}
use Rattle.txn_threads.specs.Tasks.{Tied}
use Rattle.txn_threads.specs.Rounds.{Each, Sits, Ran, HasTried, MembersSit, HaveTried, WorkerRan, IsRefusal, IsRefused, Met, MetIn}
use Rattle.txn_threads.proofs.Counting.{ended_grow}
use Rattle.txn_threads.proofs.Scripting.{asked_append}
use Rattle.txn_threads.proofs.Rises.{rising_append}
use Rattle.txn_threads.proofs.Planning.{plans_append, are_planned_later, are_planned_append}

-- lists of pairs at one place

pub each_refl : {X : Type 0} (R : X → X → Type 0) (xs : List X) → ((i : ℕ) (d : X) → i < length xs → R (slice_index_or xs i d) (slice_index_or xs i d)) → Each R xs xs
each_refl R xs r = (refl, r)

pub each_trans : {X : Type 0} (R : X → X → Type 0) → ((a b c : X) → R a b → R b c → R a c) → (xs ys zs : List X) → Each R xs ys → Each R ys zs → Each R xs zs
each_trans R t xs ys zs p q = (q.0 ∙ p.0, λ i d less. t (slice_index_or xs i d) (slice_index_or ys i d) (slice_index_or zs i d) (p.1 i d less) (q.1 i d (subst (λ n. i < n) (sym p.0) less)))

pub each_step : {X : Type 0} (R : X → X → Type 0) → ((a b c : X) → R a b → R b c → R a c) → (xs ys : List X) (i : ℕ) (y z : X) → Each R xs ys → i < length ys → y ≡ slice_index_or ys i y → R y z → Each R xs (slice_set ys i z)
each_step R t xs ys i y z p less is r = let low : i < length xs = subst (λ n. i < n) p.0 less in (
  length-set ys i z ∙ p.0,
  λ j d at. dite (ℕ_discrete j i)
      (λ e. subst (λ k. R (slice_index_or xs k d) (slice_index_or (slice_set ys i z) k d)) (sym e)
      (subst (R (slice_index_or xs i d)) (sym (get_or-set_same ys i z d less)) (t (slice_index_or xs i d) y z (subst (λ a. R a y) (get_or_default xs i y d low) (subst (R (slice_index_or xs i y)) (sym is) (p.1 i y low))) r)))
      (λ ne. subst (R (slice_index_or xs j d)) (sym (get_or-set_other ys i j z d ne)) (p.1 j d at)),
)

-- what the second of each pair has
pub each_has : {X : Type 0} (R : X → X → Type 0) (P : X → Type 0) → ((a b : X) → R a b → P b) → (xs ys : List X) → Each R xs ys → All P ys
each_has R P f xs ys e = λ i d less. f (slice_index_or xs i d) (slice_index_or ys i d) (e.1 i d (subst (λ n. i < n) e.0 less))

pub at_place : {X : Type 0} (P : X → Type 0) (xs : List X) (i : ℕ) (x : X) → All P xs → i < length xs → x ≡ slice_index_or xs i x → P x
at_place P xs i x all less is = subst P (sym is) (all i x less)

-- one seat, after a try

abbrev pub own_pairs : List Entry → Option Entry → List (ℕ × Entry)
own_pairs history None = []
own_pairs history (Some e) = (length history, e) ∷ []

pub own_is : (mine : List (ℕ × Entry)) (history : List Entry) (own : Option Entry) → with_own mine history own ≡ mine ++ own_pairs history own
own_is mine history None = sym (append-nil mine)
own_is mine history (Some e) = refl

pub noted_begins : (seen history : List Entry) (own : Option Entry) → Begins seen history → Begins seen (noted history own)
noted_begins seen history None b = b
noted_begins seen history (Some e) b = longer seen history e b

-- the place of one entry
own_rises : (seen history : List Entry) (own : Option Entry) → Begins seen history → AreRising (length seen) (length (noted history own)) (own_pairs history own)
own_rises seen history None b = omega (arith, ap (λ (l : List Entry). length l) b.1, length-append seen b.0)
own_rises seen history (Some e) b = (omega (arith, ap (λ (l : List Entry). length l) b.1, length-append seen b.0), omega (arith, length-append history (e ∷ [])))

pub of_same : (p : PlantFacts) (s t : SeatFacts) → t.plant ≡ s.plant → t.tx ≡ s.tx → IsOf p s → IsOf p t
of_same p s t plant tx of = (plant ∙ of.0, λ x e. of.1 x (sym tx ∙ e))

module _ {B Y : Type 0} (gives : Y → ℕ → List Outcome → Op) (stands : Y → ℕ → List Outcome → Type 0) where
  pub ran_refl : (p : PlantFacts) (m : Member B Y) → Sits gives stands p m → Ran gives stands p m m
  ran_refl p m s = record {
    plant = refl;
    tx = refl;
    jobs = refl;
    eager = refl;
    gives_is = refl;
    seen = whole m.seat.seen;
    added = [];
    mine = sym (append-nil m.seat.mine);
    rising = le_refl (length m.seat.seen);
    asked = λ tx is. tt;
    plans = λ tx is. tt;
    planned = omega arith;
    sits = s;
  }

  pub ran_trans : (p : PlantFacts) (a b c : Member B Y) → Ran gives stands p a b → Ran gives stands p b c → Ran gives stands p a c
  ran_trans p a b c x y = record {
    plant = y.plant ∙ x.plant;
    tx = y.tx ∙ x.tx;
    jobs = y.jobs ∙ x.jobs;
    eager = y.eager ∙ x.eager;
    gives_is = y.gives_is ∙ x.gives_is;
    seen = chained a.seat.seen b.seat.seen c.seat.seen x.seen y.seen;
    added = x.added ++ y.added;
    mine = y.mine ∙ (ap (λ l. l ++ y.added) x.mine ∙ append_assoc a.seat.mine x.added y.added);
    rising = rising_append (length a.seat.seen) (length b.seat.seen) (length c.seat.seen) x.added y.added x.rising y.rising;
    asked = λ tx is. asked_append (gives a.task.body) tx a.seat.mine x.added y.added (x.asked tx is)
        (subst (λ l. AreAsked (gives a.task.body) tx l y.added) x.mine (subst (λ (f : ℕ → List Outcome → Op). AreAsked f tx b.seat.mine y.added) x.gives_is (y.asked tx (x.tx ∙ is))));
    plans = λ tx is. are_planned_append p.set c.seat.seen tx a.eager a.jobs a.planned x.added y.added
        (are_planned_later p.set b.seat.seen c.seat.seen tx a.eager a.jobs a.planned x.added y.seen (x.plans tx is))
        (subst (λ (k : ℕ). ArePlanned p.set c.seat.seen tx a.eager a.jobs k y.added) x.planned
        (subst (λ (k : ℕ). ArePlanned p.set c.seat.seen tx a.eager k b.planned y.added) x.jobs
        (subst (λ (k : Bool). ArePlanned p.set c.seat.seen tx k b.jobs b.planned y.added) x.eager (y.plans tx (x.tx ∙ is)))));
    planned = let m = x.planned in let n = y.planned in omega (arith, plans_append x.added y.added);
    sits = y.sits;
  }

  -- a member whose seat has seen this history, and made an entry there or none
  pub ran_by : (p : PlantFacts) (m n : Member B Y) (history : List Entry) (own : Option Entry)
      → Sits gives stands p m → n.seat.plant ≡ m.seat.plant → n.seat.tx ≡ m.seat.tx → n.seat.seen ≡ noted history own → n.seat.mine ≡ with_own m.seat.mine history own → Begins m.seat.seen history
      → n.jobs ≡ m.jobs → n.eager ≡ m.eager → gives n.task.body ≡ gives m.task.body
      → ((tx : TxId) → m.seat.tx ≡ Some tx → AreAsked (gives m.task.body) tx m.seat.mine (own_pairs history own))
      → ((tx : TxId) → m.seat.tx ≡ Some tx → ArePlanned p.set (noted history own) tx m.eager m.jobs m.planned (own_pairs history own))
      → n.planned ≡ m.planned + plans_in (own_pairs history own)
      → ((tx : TxId) → m.seat.tx ≡ Some tx → Tied gives stands tx (with_own m.seat.mine history own) n.task)
      → ((tx : TxId) → m.seat.tx ≡ Some tx → n.ended ≤ ended_of p.set (noted history own) tx.0)
      → Ran gives stands p m n
  ran_by p m n history own sits plant tx_is seen mine begins jobs eager same asked plans planned tied knows = record {
    plant = plant;
    tx = tx_is;
    jobs = jobs;
    eager = eager;
    gives_is = same;
    seen = subst (Begins m.seat.seen) (sym seen) (noted_begins m.seat.seen history own begins);
    added = own_pairs history own;
    mine = mine ∙ own_is m.seat.mine history own;
    rising = subst (λ (l : List Entry). AreRising (length m.seat.seen) (length l) (own_pairs history own)) (sym seen) (own_rises m.seat.seen history own begins);
    asked = asked;
    plans = λ tx is. subst (λ (l : List Entry). ArePlanned p.set l tx m.eager m.jobs m.planned (own_pairs history own)) (sym seen) (plans tx is);
    planned = planned;
    sits = record {
      of = of_same p m.seat n.seat plant tx_is sits.of;
      has = (sits.has.0, tx_is ∙ sits.has.1);
      tied = λ tx is. subst (λ (l : List (ℕ × Entry)). Tied gives stands tx l n.task) (sym mine) (tied tx (sym tx_is ∙ is));
      knows = λ tx is. subst (λ (l : List Entry). n.ended ≤ ended_of p.set l tx.0) (sym seen) (knows tx (sym tx_is ∙ is));
    };
  }

  -- a try that was answered at this history, with an entry of its own or none
  pub ran_one : (p : PlantFacts) (m n : Member B Y) (history : List Entry) (base : ℕ) (own : Option Entry)
      → Sits gives stands p m → n.seat ≡ turned m.seat history base own → Begins m.seat.seen history
      → n.jobs ≡ m.jobs → n.eager ≡ m.eager → gives n.task.body ≡ gives m.task.body
      → ((tx : TxId) → m.seat.tx ≡ Some tx → AreAsked (gives m.task.body) tx m.seat.mine (own_pairs history own))
      → ((tx : TxId) → m.seat.tx ≡ Some tx → ArePlanned p.set (noted history own) tx m.eager m.jobs m.planned (own_pairs history own))
      → n.planned ≡ m.planned + plans_in (own_pairs history own)
      → ((tx : TxId) → m.seat.tx ≡ Some tx → Tied gives stands tx (with_own m.seat.mine history own) n.task)
      → ((tx : TxId) → m.seat.tx ≡ Some tx → n.ended ≤ ended_of p.set (noted history own) tx.0)
      → Ran gives stands p m n
  ran_one p m n history base own sits after =
      ran_by p m n history own sits (ap (λ (s : SeatFacts). s.plant) after) (ap (λ (s : SeatFacts). s.tx) after) (ap (λ (s : SeatFacts). s.seen) after) (ap (λ (s : SeatFacts). s.mine) after)

  -- a try that found the turn taken
  pub ran_busy : (p : PlantFacts) (m n : Member B Y) → Sits gives stands p m → n.seat ≡ missed_once m.seat
      → n.jobs ≡ m.jobs → n.eager ≡ m.eager → gives n.task.body ≡ gives m.task.body → n.planned ≡ m.planned → n.ended ≡ m.ended
      → ((tx : TxId) → m.seat.tx ≡ Some tx → Tied gives stands tx m.seat.mine n.task)
      → Ran gives stands p m n
  ran_busy p m n sits after jobs eager same planned ended tied =
      ran_by p m n m.seat.seen None sits (ap (λ (s : SeatFacts). s.plant) after) (ap (λ (s : SeatFacts). s.tx) after) (ap (λ (s : SeatFacts). s.seen) after) (ap (λ (s : SeatFacts). s.mine) after) (whole m.seat.seen) jobs eager same
      (λ tx e. tt) (λ tx e. tt) (omega (arith, planned)) tied (λ tx e. subst (λ (k : ℕ). k ≤ ended_of p.set m.seat.seen tx.0) (sym ended) (sits.knows tx e))

  -- what was known to have ended before a try
  pub knew : (p : PlantFacts) (m : Member B Y) (tx : TxId) (history : List Entry) (own : Option Entry) → Sits gives stands p m → m.seat.tx ≡ Some tx → Begins m.seat.seen history → m.ended ≤ ended_of p.set (noted history own) tx.0
  knew p m tx history own s is b =
      let low : m.ended ≤ ended_of p.set m.seat.seen tx.0 = s.knows tx is in
      let up : ended_of p.set m.seat.seen tx.0 ≤ ended_of p.set (noted history own) tx.0 = ended_grow p.set m.seat.seen (noted history own) tx.0 (noted_begins m.seat.seen history own b) in
      omega (arith, low, up)

module _ {B Y : Type 0} (gives : Y → ℕ → List Outcome → Op) (stands : Y → ℕ → List Outcome → Type 0) where
  abbrev pub all_sit : (p : PlantFacts) (xs ys : List (Member B Y)) → Each (Ran gives stands p) xs ys → All (Sits gives stands p) ys
  all_sit p xs ys e = each_has (Ran gives stands p) (Sits gives stands p) (λ a b r. r.sits) xs ys e

  pub all_refl : (p : PlantFacts) (xs : List (Member B Y)) → All (Sits gives stands p) xs → Each (Ran gives stands p) xs xs
  all_refl p xs sit = each_refl (Ran gives stands p) xs (λ i d less. ran_refl gives stands p (slice_index_or xs i d) (sit i d less))

  pub all_trans : (p : PlantFacts) (xs ys zs : List (Member B Y)) → Each (Ran gives stands p) xs ys → Each (Ran gives stands p) ys zs → Each (Ran gives stands p) xs zs
  all_trans p xs ys zs = each_trans (Ran gives stands p) (ran_trans gives stands p) xs ys zs

  pub all_step : (p : PlantFacts) (xs ys : List (Member B Y)) (i : ℕ) (y z : Member B Y) → Each (Ran gives stands p) xs ys → i < length ys → y ≡ slice_index_or ys i y → Ran gives stands p y z → Each (Ran gives stands p) xs (slice_set ys i z)
  all_step p = each_step (Ran gives stands p) (ran_trans gives stands p)

pub refusal_none : (r : StepReply) (now : ℕ) (job : JobId) (op : Op) → IsRefusal r → step_entry now job op r ≡ None
refusal_none (reply.Blocked by ceiling) now job op h = absurd h
refusal_none (reply.Done outcome over) now job op h = absurd h
refusal_none other now job op h = refl

module _ {B Y : Type 0} (gives : Y → ℕ → List Outcome → Op) where
  -- the refusal of a step is the board's answer at all that the seat has then seen
  pub refused_at : (p : PlantFacts) (old : SeatFacts) (n : Member B Y) (tx : TxId) (serial : ℕ) (op : Op) (r : StepReply)
      → Answered p.set (λ history base. r ≡ step_answer p.set history (length history - base) p.room (job_of tx serial) op) (λ history. step_entry (now_of p.set history) (job_of tx serial) op r) old n.seat
      → old.tx ≡ Some tx → IsRefusal r → op ≡ gives n.task.body serial (own_outcomes old.mine (job_of tx serial)) → IsRefused gives p n (job_of tx serial) r
  refused_at p old n tx serial op r a is h own =
      let after : n.seat ≡ turned old a.history a.base None = a.after ∙ ap (turned old a.history a.base) (refusal_none r (now_of p.set a.history) (job_of tx serial) op h) in
      let seen : a.history ≡ n.seat.seen = sym (ap (λ (s : SeatFacts). s.seen) after) in
      let base : a.base ≡ n.seat.base = sym (ap (λ (s : SeatFacts). s.base) after) in
      let mine : old.mine ≡ n.seat.mine = sym (ap (λ (s : SeatFacts). s.mine) after) in
      let op_is : op ≡ gives n.task.body serial (own_outcomes n.seat.mine (job_of tx serial)) = own ∙ ap (λ l. gives n.task.body serial (own_outcomes l (job_of tx serial))) mine in record {
        own = ap (λ (s : SeatFacts). s.tx) after ∙ is;
        refusal = h;
        answer = a.says ∙ (λ i. step_answer p.set (seen i) (length (seen i) - base i) p.room (job_of tx serial) (op_is i));
      }

  pub met_at : (p : PlantFacts) (ms : List (Member B Y)) (i : ℕ) (m : Member B Y) (h : Halt) → i < length ms → Met gives p h m → MetIn gives p (slice_set ms i m) h
  met_at p ms i m h less met = (i, m, slice_get-get_or (slice_set ms i m) i m (subst (λ n. i < n) (sym (length-set ms i m)) less) ∙ ap Some (get_or-set_same ms i m m less), met)

pub none_some_halt : (h : Halt) → None ≡ Some h → ⊥
none_some_halt h e = cc

-- tries of a member

module _ {B Y : Type 0} {gives : Y → ℕ → List Outcome → Op} {stands : Y → ℕ → List Outcome → Type 0} {p : PlantFacts} where
  pub tried_ran : {m n : Member B Y} (o : TryOutcome) → Ran gives stands p m n → HasTried gives stands p m (Ok o) n
  tried_ran o ran = record { ran = ran; met = tt }

  -- where a `?` gives a stop on
  pub tried_err : {m n : Member B Y} {r : Result TryOutcome Halt} {h : Halt} (s : Result TryOutcome Halt) → HasTried gives stands p m r n → r ≡ Err h → IsErr s × IsErrAnd s (λ x. x ≡ h) → HasTried gives stands p m s n
  tried_err {m} {n} s k is e = let x = err_from_is_err_and s e.1 in subst (λ (r : Result TryOutcome Halt). HasTried gives stands p m r n) (is ∙ sym (x.1 ∙ ap Err x.2)) k

  pub tried_on : {a b c : Member B Y} {r : Result TryOutcome Halt} → Ran gives stands p a b → HasTried gives stands p b r c → HasTried gives stands p a r c
  tried_on {a} {b} {c} x y = record { ran = ran_trans gives stands p a b c x y.ran; met = y.met }

  -- tries of a worker's members

  pub sit_at : (ms : List (Member B Y)) {m : Member B Y} (i : ℕ) → All (Sits gives stands p) ms → i < length ms → m ≡ slice_index_or ms i m → Sits gives stands p m
  sit_at ms {m} i all less is = at_place (Sits gives stands p) ms i m all less is

  pub tries_err : {w u : Worker B Y} {r : Result TryOutcome Halt} {h : Halt} (s : Result TryOutcome Halt) → HaveTried gives stands p w r u → r ≡ Err h → IsErr s × IsErrAnd s (λ x. x ≡ h) → HaveTried gives stands p w s u
  tries_err {w} {u} s k is e = let x = err_from_is_err_and s e.1 in subst (λ (r : Result TryOutcome Halt). HaveTried gives stands p w r u) (is ∙ sym (x.1 ∙ ap Err x.2)) k

  pub tries_sit : {w u : Worker B Y} {r : Result TryOutcome Halt} → HaveTried gives stands p w r u → MembersSit gives stands p u
  tries_sit {w} {u} h = all_sit gives stands p w.members.items u.members.items h.ran

  pub tries_none : {w : Worker B Y} (o : TryOutcome) → MembersSit gives stands p w → HaveTried gives stands p w (Ok o) w
  tries_none {w} o sit = record { ran = all_refl gives stands p w.members.items sit; halt = refl; met = tt }

  pub tries_ok : {w u v : Worker B Y} {r : Result TryOutcome Halt} (o : TryOutcome) → HaveTried gives stands p w r u → v.members ≡ u.members → v.halt ≡ u.halt → HaveTried gives stands p w (Ok o) v
  tries_ok {w} {u} {v} o h members halt = record { ran = subst (λ (l : Vec (Member B Y) Global). Each (Ran gives stands p) w.members.items l.items) (sym members) h.ran; halt = halt ∙ h.halt; met = tt }

  pub tries_on : {w u v : Worker B Y} {r s : Result TryOutcome Halt} → HaveTried gives stands p w r u → HaveTried gives stands p u s v → HaveTried gives stands p w s v
  tries_on {w} {u} {v} h k = record { ran = all_trans gives stands p w.members.items u.members.items v.members.items h.ran k.ran; halt = k.halt ∙ h.halt; met = k.met }

  pub tries_less : {w u : Worker B Y} {r : Result TryOutcome Halt} {i n : ℕ} → HaveTried gives stands p w r u → n ≡ vec_len w.members → i < n → i < length u.members.items
  tries_less {w} h is less = let all : vec_len w.members ≡ length w.members.items = search rules in let same = h.ran.0 in omega (arith, all, same, is, less)

  -- those of the member at a place
  pub tries_at : {w u v : Worker B Y} {m n : Member B Y} {r s : Result TryOutcome Halt} (i : ℕ) → HaveTried gives stands p w r u → i < length u.members.items → m ≡ slice_index_or u.members.items i m
      → HasTried gives stands p m s n → v.members.items ≡ slice_set u.members.items i n → v.halt ≡ u.halt → HaveTried gives stands p w s v
  tries_at {w} {u} {v} {m} {n} {s = s} i h less is k members halt = record {
    ran = subst (λ (l : List (Member B Y)). Each (Ran gives stands p) w.members.items l) (sym members) (all_step gives stands p w.members.items u.members.items i m n h.ran less is k.ran);
    halt = halt ∙ h.halt;
    met = IfErr-weaker s _ _ (λ x met. subst (λ (l : List (Member B Y)). MetIn gives p l x) (sym members) (met_at gives p u.members.items i n x less met)) k.met;
  }

  pub tries_first : {w v : Worker B Y} {m n : Member B Y} {s : Result TryOutcome Halt} (i : ℕ) → MembersSit gives stands p w → i < length w.members.items → m ≡ slice_index_or w.members.items i m
      → HasTried gives stands p m s n → v.members.items ≡ slice_set w.members.items i n → v.halt ≡ w.halt → HaveTried gives stands p w s v
  tries_first i sit less is k members halt = tries_at i (tries_none NoJob sit) less is k members halt

  -- a worker that keeps the stop that it met, if any
  pub worker_went : {w u : Worker B Y} {r : Result TryOutcome Halt} → HaveTried gives stands p w r u → w.halt ≡ None → WorkerRan gives stands p w u
  worker_went t none = (t.ran, λ h is. absurd (none_some_halt h (sym (t.halt ∙ none) ∙ is)))

  pub worker_stopped : {w u : Worker B Y} {h : Halt} → HaveTried gives stands p w (Err h) u → WorkerRan gives stands p w (record u { halt = Some h })
  worker_stopped {u = u} {h} t = (t.ran, λ k is. let same : h ≡ k = cc in subst (MetIn gives p u.members.items) same t.met)

  -- the same of a try of the member at a place
  pub ran_at : (ms : List (Member B Y)) {m n : Member B Y} (i : ℕ) → All (Sits gives stands p) ms → i < length ms → m ≡ slice_index_or ms i m → Ran gives stands p m n → Each (Ran gives stands p) ms (slice_set ms i n)
  ran_at ms {m} {n} i sit less is ran = all_step gives stands p ms ms i m n (all_refl gives stands p ms sit) less is ran
