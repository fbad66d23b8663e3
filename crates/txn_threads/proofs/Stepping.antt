-- What a turn of several steps does to a member.
use Rattle.std.proofs.Common.{◌≡◌, ◌⊎◌, ℕ, zero, suc, ◌-◌, ◌≤◌, ◌<◌, List, Option, Some, None, Result, IfErr, length, refl, sym, ap, subst, ◌∙◌, arith, inl, inr, ⊎_elim}
use Rattle.std.proofs.lemmas.Result.{IfErr-weaker}
use Rattle.rt_base.specs.declared.ids.TxId.{TxId}
use Rattle.rt_base.specs.declared.ids.JobId.{JobId}
use Rattle.rt_base.specs.declared.operation.Op.{Op}
use Rattle.rt_base.specs.declared.operation.Outcome.{Outcome}
use Rattle.step_journal.specs.declared.entry.Entry.{Entry}
use Rattle.step_journal.specs.History.{state_of}
use Rattle.board.specs.declared.replies.StepReply.{StepReply}
use Rattle.board.specs.declared.replies.StepReply.TheVariants as reply
use Rattle.board.specs.Histories.{noted, step_entry, step_answer, now_of, ended_of}
use Rattle.turn_cell.proofs.Lists.{whole}
use Rattle.shared_plant.specs.Seats.{PlantFacts, SeatFacts}
use Rattle.shared_plant.specs.Answers.{with_own, turned}
use Rattle.shared_plant.specs.Steps.{stepped, IsOn, GoesOn, Asked, Through, Steps, Stepped}
use Rattle.txn_threads.specs.declared.member.Halt.{Halt}
use Rattle.txn_threads.specs.declared.member.Member.{Member}
use Rattle.txn_threads.specs.declared.tries.TryOutcome.{TryOutcome}
use Rattle.txn_threads.specs.declared.task.Task.{Task}
use Rattle.txn_threads.specs.declared.task.Heard.{Heard}
use Rattle.txn_threads.specs.declared.task.Heard.TheVariants as hear
use Rattle.txn_threads.specs.Scripts.{job_of, own_outcomes, AreAsked}
use Rattle.txn_threads.specs.Tasks.{Tied, Asks, Hears, heard_of}
use Rattle.txn_threads.specs.Rounds.{Sits, Ran, HasTried, known_after, IsRefusal, IsRefused, IsHeardHalt, ended_by, Met}
use Rattle.txn_threads.proofs.Counting.{ended_grow, known_bound}
use Rattle.txn_threads.proofs.Rounding.{own_pairs, noted_begins, ran_refl, ran_trans, ran_by, ran_one, knew, refusal_none}
use Rattle.txn_threads.proofs.Trying.{same_tx, step_asked, step_plans}

-- what a task keeps of an answer

on_nothing : (r : StepReply) → IsOn r → heard_of r ≡ hear.Nothing
on_nothing (reply.NotYet running) on = refl
on_nothing (reply.Blocked by ceiling) on = refl
on_nothing (reply.Done outcome over) on = refl
on_nothing other on = absurd on

abbrev refusal_in : Heard → Option StepReply
refusal_in (hear.Undeclared item) = Some (reply.Undeclared item)
refusal_in (hear.TooEarly left) = Some (reply.TooEarly left)
refusal_in (hear.Unwritten item) = Some (reply.Unwritten item)
refusal_in other = None

refusal_heard : (r : StepReply) → IsRefusal r → refusal_in (heard_of r) ≡ Some r
refusal_heard (reply.Undeclared item) h = refl
refusal_heard (reply.TooEarly left) h = refl
refusal_heard (reply.Unwritten item) h = refl
refusal_heard other h = absurd h

is_that : (q r : StepReply) → refusal_in (heard_of q) ≡ Some r → r ≡ q
is_that (reply.NoJob ended last) r e = cc
is_that other r e = cc

no_refusal : (r : StepReply) → IsRefusal r → heard_of r ≡ hear.Nothing → ⊥
no_refusal r h e = let k : None ≡ Some r = sym (ap refusal_in e) ∙ refusal_heard r h in cc

over_is : (r : StepReply) (n before : ℕ) → heard_of r ≡ hear.Over n → known_after before r ≡ n
over_is (reply.NoJob ended last) n before e = cc
over_is other n before e = cc

pub ended_by_is : (n : ℕ) (h : Heard) → (ended_by n h ≡ n) ⊎ (h ≡ hear.Over (ended_by n h))
ended_by_is n (hear.Over ended) = inr refl
ended_by_is n other = inl refl

not_over : (n : ℕ) → hear.Nothing ≡ hear.Over n → ⊥
not_over n e = cc

module _ {Y : Type 0} (gives : Y → ℕ → List Outcome → Op) (stands : Y → ℕ → List Outcome → Type 0) where
  -- a task that keeps its operation
  pub tied_asked : (tx : TxId) (mine : List (ℕ × Entry)) (t : Task Y) (op : Op) (h : Heard) → Tied gives stands tx mine t → op ≡ gives t.body t.serial (own_outcomes mine (job_of tx t.serial)) → Tied gives stands tx mine (record t { op = Some op; heard = h })
  tied_asked tx mine t op h k own = record { standing = k.standing; op_is = λ o e. (let same : o ≡ op = cc in same ∙ own); later = k.later }

  abbrev Step : PlantFacts → JobId → StepReply → Task Y → Task Y → SeatFacts → SeatFacts → Type 0
  Step p = Asked (Asks gives stands) (Hears gives stands) p.set p.room

  pub tied_quiet : (tx : TxId) (mine : List (ℕ × Entry)) (t : Task Y) (h : Heard) → Tied gives stands tx mine t → Tied gives stands tx mine (record t { heard = h })
  tied_quiet tx mine t h k = record { standing = k.standing; op_is = k.op_is; later = k.later }

module _ {B Y : Type 0} (gives : Y → ℕ → List Outcome → Op) (stands : Y → ℕ → List Outcome → Type 0) where
  -- the member after a turn's steps
  abbrev at : Member B Y → SeatFacts → Task Y → Member B Y
  at m s t = record m { seat = s; task = t }

  -- a task that is to keep nothing
  abbrev quiet : Member B Y → Member B Y
  quiet m = record m { task = record m.task { heard = hear.Nothing } }

  sits_quiet : (p : PlantFacts) (m : Member B Y) → Sits gives stands p m → Sits gives stands p (quiet m)
  sits_quiet p m k = record { of = k.of; has = k.has; tied = λ tx e. tied_quiet gives stands tx m.seat.mine m.task hear.Nothing (k.tied tx e); knows = k.knows }

  ran_quiet : (p : PlantFacts) (m n : Member B Y) → Ran gives stands p (quiet m) n → Ran gives stands p m n
  ran_quiet p m n r = record { plant = r.plant; tx = r.tx; jobs = r.jobs; eager = r.eager; gives_is = r.gives_is; seen = r.seen; added = r.added; mine = r.mine; rising = r.rising; asked = r.asked; plans = r.plans; planned = r.planned; sits = r.sits }

  -- a member whose body was asked
  pub ran_asked : (p : PlantFacts) (m : Member B Y) (u : Task Y) → Sits gives stands p m → gives u.body ≡ gives m.task.body → ((tx : TxId) → m.seat.tx ≡ Some tx → Tied gives stands tx m.seat.mine u) → Ran gives stands p m (at m m.seat u)
  ran_asked p m u sits same tied = ran_by gives stands p m (at m m.seat u) m.seat.seen None sits refl refl refl refl (whole m.seat.seen) refl refl same (λ tx e. tt) (λ tx e. tt) (omega arith) tied (λ tx e. sits.knows tx e)

  -- a member that knows of more ended jobs
  ran_known : (p : PlantFacts) (m n : Member B Y) (e : ℕ) → Ran gives stands p m n → ((tx : TxId) → n.seat.tx ≡ Some tx → e ≤ ended_of p.set n.seat.seen tx.0) → Ran gives stands p m (record n { ended = e })
  ran_known p m n e r knows = record { plant = r.plant; tx = r.tx; jobs = r.jobs; eager = r.eager; gives_is = r.gives_is; seen = r.seen; added = r.added; mine = r.mine; rising = r.rising; asked = r.asked; plans = r.plans; planned = r.planned; sits = record { of = r.sits.of; has = r.sits.has; tied = r.sits.tied; knows = knows } }

  -- one step
  step_ran : (p : PlantFacts) (m : Member B Y) (tx : TxId) (r : StepReply) (b : Task Y) (t : SeatFacts) → Sits gives stands p m → m.seat.tx ≡ Some tx → Step gives stands p (job_of tx m.task.serial) r m.task b m.seat t → Ran gives stands p m (at m t b)
  step_ran p m tx r b t sits is k =
      let history = m.seat.seen in let job : JobId = job_of tx m.task.serial in let op = k.at.op in
      let own : Option Entry = step_entry (now_of p.set history) job op r in
      let after : t ≡ stepped m.seat own = k.after ∙ ap (stepped m.seat) k.at.own_is in
      let own_op : op ≡ gives m.task.body m.task.serial (own_outcomes m.seat.mine job) = k.at.asked tx m.seat.mine (sits.tied tx is) in
      ran_by gives stands p m (at m t b) history own sits (ap (λ (s : SeatFacts). s.plant) after) (ap (λ (s : SeatFacts). s.tx) after) (ap (λ (s : SeatFacts). s.seen) after) (ap (λ (s : SeatFacts). s.mine) after) (whole history) refl refl k.at.heard.same
      (λ x e. subst (λ (y : TxId). AreAsked (gives m.task.body) y m.seat.mine (own_pairs history own)) (same_tx m.seat.tx tx x is e) (step_asked (gives m.task.body) tx m.seat.mine history (now_of p.set history) m.task.serial op r own_op))
      (λ x e. (step_plans p.set (noted history own) x m.eager m.jobs m.planned history (now_of p.set history) job op r).0)
      (let none = (step_plans p.set (noted history own) tx m.eager m.jobs m.planned history (now_of p.set history) job op r).1 in omega (arith, none))
      (λ x e. subst (λ (y : TxId). Tied gives stands y (with_own m.seat.mine history own) b) (same_tx m.seat.tx tx x is e) (k.at.heard.tied tx m.seat.mine history (now_of p.set history) (sits.tied tx is)))
      (λ x e. knew gives stands p m x history own sits e (whole history))

  pub record SoFar (p : PlantFacts) (m : Member B Y) (b : Task Y) (t : SeatFacts) : Type 0 where
    pub ran : Ran gives stands p m (at m t b)
    pub nothing : b.heard ≡ hear.Nothing
    pub serial : b.serial ≡ m.task.serial

  through_ran : (p : PlantFacts) (m : Member B Y) (tx : TxId) (n : ℕ) (b : Task Y) (t : SeatFacts) → Sits gives stands p m → m.seat.tx ≡ Some tx → m.task.heard ≡ hear.Nothing
      → Through (Asks gives stands) (Hears gives stands) p.set p.room (job_of tx m.task.serial) n m.task b m.seat t → SoFar p m b t
  through_ran p m tx zero b t sits is none k = subst (λ (x : Task Y × SeatFacts). SoFar p m x.0 x.1) (λ i. (sym k.0 i, sym k.1 i)) (record { ran = ran_refl gives stands p m sits; nothing = none; serial = refl })
  through_ran p m tx (suc n) b t sits is none (c, u, r, front, k, on) =
      let f = through_ran p m tx n c u sits is none front in
      let one : Step gives stands p (job_of tx c.serial) r c b u t = subst (λ (s : ℕ). Step gives stands p (job_of tx s) r c b u t) (sym f.serial) k in record {
        ran = ran_trans gives stands p m (at m u c) (at m t b) f.ran (step_ran p (at m u c) tx r b t f.ran.sits (f.ran.tx ∙ is) one);
        nothing = k.at.heard.heard f.nothing ∙ on_nothing r on.0;
        serial = k.at.heard.serial on.0 ∙ f.serial;
      }

  -- all steps of a turn: what the task has kept is so at all that the seat has then seen
  pub record AllSteps (p : PlantFacts) (m : Member B Y) (tx : TxId) (b : Task Y) (t : SeatFacts) : Type 0 where
    pub ran : Ran gives stands p m (at m t b)
    pub over : (e : ℕ) → b.heard ≡ hear.Over e → e ≤ ended_of p.set t.seen tx.0
    pub refused : (r : StepReply) → IsRefusal r → b.heard ≡ heard_of r → IsRefused gives p (at m t b) (job_of tx m.task.serial) r

  steps_ran : (p : PlantFacts) (m : Member B Y) (tx : TxId) (b : Task Y) (t : SeatFacts) → Sits gives stands p m → m.seat.tx ≡ Some tx → m.task.heard ≡ hear.Nothing
      → Steps (Asks gives stands) (Hears gives stands) p.set p.room (job_of tx m.task.serial) 64 m.task b m.seat t → AllSteps p m tx b t
  steps_ran p m tx b t sits is none k =
      let f = through_ran p m tx k.number k.asker k.seat sits is none k.through in
      ⊎_elim
      (λ (e : (k.number ≡ 64) × (b ≡ k.asker) × (t ≡ k.seat)). subst (λ (x : Task Y × SeatFacts). AllSteps p m tx x.0 x.1) (λ i. (sym e.1 i, sym e.2 i))
      (record {
        ran = f.ran;
        over = λ n h. absurd (not_over n (sym f.nothing ∙ h));
        refused = λ r h g. absurd (no_refusal r h (sym g ∙ f.nothing));
      }))
      (λ (e : (k.number < 64) × ((r : StepReply) × Step gives stands p (job_of tx m.task.serial) r k.asker b k.seat t × (GoesOn p.set (job_of tx m.task.serial) r t.seen → ⊥))). (
      let q = e.1.0 in let c = k.asker in let u = k.seat in let M = at m u c in
      let one : Step gives stands p (job_of tx c.serial) q c b u t = subst (λ (s : ℕ). Step gives stands p (job_of tx s) q c b u t) (sym f.serial) e.1.1 in
      let job : JobId = job_of tx c.serial in let op = one.at.op in
      let own : Option Entry = step_entry (now_of p.set u.seen) job op q in
      let after : t ≡ stepped u own = one.after ∙ ap (stepped u) one.at.own_is in
      let tx_is : u.tx ≡ Some tx = f.ran.tx ∙ is in
      let last = step_ran p M tx q b t f.ran.sits tx_is one in
      let kept : b.heard ≡ heard_of q = one.at.heard.heard f.nothing in
      let top : ℕ = ended_of p.set (noted u.seen own) tx.0 in
      let up : ended_of p.set u.seen tx.0 ≤ top = ended_grow p.set u.seen (noted u.seen own) tx.0 (noted_begins u.seen u.seen own (whole u.seen)) in
      let bound : known_after m.ended q ≤ top = known_bound p.set (state_of p.set u.seen) (length u.seen - u.base) p.room job op q m.ended top one.at.says (knew gives stands p M tx u.seen own f.ran.sits tx_is (whole u.seen)) up in
      record {
        ran = ran_trans gives stands p m M (at m t b) f.ran last;
        over = λ n h. subst (λ (s : SeatFacts). n ≤ ended_of p.set s.seen tx.0) (sym after) (subst (λ (x : ℕ). x ≤ top) (over_is q n m.ended (sym kept ∙ h)) bound);
        refused = λ r h g. (
            let same : r ≡ q = is_that q r (ap refusal_in (sym kept ∙ g) ∙ refusal_heard r h) in
            let no : own ≡ None = refusal_none q (now_of p.set u.seen) job op (subst IsRefusal same h) in
            let still : t ≡ u = after ∙ ap (stepped u) no in
            let own_op : op ≡ gives c.body c.serial (own_outcomes u.mine job) = one.at.asked tx u.mine (f.ran.sits.tied tx tx_is) in
            subst (λ (s : ℕ). IsRefused gives p (at m t b) (job_of tx s) r) f.serial
            (record {
              own = ap (λ (s : SeatFacts). s.tx) still ∙ tx_is;
              refusal = h;
              answer = same ∙ (one.at.says ∙ (λ i. step_answer p.set ((sym still i).seen) (length ((sym still i).seen) - (sym still i).base) p.room job
                  ((own_op ∙ (λ j. (sym one.at.heard.same j) c.serial (own_outcomes ((sym still j).mine) job))) i)));
            })
            );
      }
      ))
      k.last

  -- a turn of steps that was answered; what the member knows of ended jobs may be what its task heard
  pub steps_one : (p : PlantFacts) (m : Member B Y) (tx : TxId) (running : Option JobId) (b : Task Y) (new : SeatFacts) (e : ℕ) (o : Result TryOutcome Halt) → Sits gives stands p m → m.seat.tx ≡ Some tx
      → Stepped (Asks gives stands) (Hears gives stands) p (job_of tx m.task.serial) 64 running (record m.task { heard = hear.Nothing }) b m.seat new → (e ≡ m.ended) ⊎ (b.heard ≡ hear.Over e)
      → IfErr o (λ h. IsHeardHalt h (job_of tx m.task.serial) b.heard)
      → HasTried gives stands p m o (record m { seat = new; task = b; ended = e })
  steps_one p m tx running b new e o sits is k known stop =
      let q = quiet m in let sitting = sits_quiet p m sits in
      let s = turned m.seat k.history k.base None in
      let M = at q s q.task in
      let first : Ran gives stands p q M = ran_one gives stands p q M k.history k.base None sitting refl k.begins refl refl refl (λ x e. tt) (λ x e. tt) (omega arith) (λ x e. sitting.tied x e) (λ x e. knew gives stands p q x k.history None sitting e k.begins) in
      let all = steps_ran p M tx b new first.sits is refl k.steps in
      let ran = ran_trans gives stands p q M (at M new b) first all.ran in
      record {
        ran = ran_quiet p m _ (ran_known p q (at M new b) e ran
            (λ x f. ⊎_elim (λ (same : e ≡ m.ended). subst (λ (n : ℕ). n ≤ ended_of p.set new.seen x.0) (sym same) (ran.sits.knows x f))
            (λ (h : b.heard ≡ hear.Over e). subst (λ (y : TxId). e ≤ ended_of p.set new.seen y.0) (same_tx new.tx tx x (all.ran.tx ∙ is) f) (all.over e h)) known));
        met = IfErr-weaker o _ _ (λ h w. subst (λ (x : Halt). Met gives p x (record m { seat = new; task = b; ended = e })) (sym w.1) (let r = all.refused w.0 w.2 w.3 in record { own = r.own; refusal = r.refusal; answer = r.answer })) stop;
      }
