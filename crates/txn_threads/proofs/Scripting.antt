-- Entries that follow a body.
use Rattle.std.proofs.Common.{◌≡◌, ℕ, ◌<◌, ◌==◌, Bool, true, false, true≢false, ◌&&◌, if◌then◌else◌, List, [], ◌∷◌, ◌++◌, map, Option, Some, None, refl, sym, ap, subst, ◌∙◌, arith, append_assoc, append-nil}
use Rattle.std.proofs.lemmas.Bool.Decides.{nat_tests}
use Rattle.std.proofs.lemmas.List.{map-append}
use Rattle.std.specs.List.{cons_option}
use Rattle.rt_base.specs.declared.ids.TxId.{TxId}
use Rattle.rt_base.specs.declared.ids.JobId.{JobId}
use Rattle.rt_base.specs.declared.operation.Op.{Op}
use Rattle.rt_base.specs.declared.operation.End.{End}
use Rattle.rt_base.specs.declared.operation.Outcome.{Outcome}
use Rattle.step_journal.specs.declared.entry.Entry.{Entry}
use Rattle.step_journal.specs.declared.entry.Entry.TheVariants.{Step}
use Rattle.step_journal.specs.Serial.{outcome_in, outcomes_of}
use Rattle.law_histories.proofs.Alone.{outcomes_more_in}
use Rattle.board.specs.declared.replies.StepReply.{StepReply}
use Rattle.board.specs.declared.replies.StepReply.TheVariants.{NoJob, NotYet, Undeclared, TooEarly, Unwritten, Full, Done}
use Rattle.board.specs.declared.replies.StepReply.TheVariants as reply
use Rattle.board.specs.Histories.{step_entry}
use Rattle.shared_plant.specs.Answers.{with_own}
use Rattle.txn_threads.specs.declared.task.Task.{Task}
use Rattle.txn_threads.specs.Scripts.{job_of, own_outcomes, NoSteps, AreAsked}
use Rattle.txn_threads.specs.Tasks.{Tied}

pub outcomes_snoc : (mine : List (ℕ × Entry)) (p : ℕ × Entry) (job : JobId) (o : Option Outcome) → outcome_in job p.1 ≡ o → own_outcomes (mine ++ p ∷ []) job ≡ own_outcomes mine job ++ cons_option o []
outcomes_snoc mine p job o is = ap (λ (l : List Entry). outcomes_of l job) (map-append (λ (q : ℕ × Entry). q.1) mine (p ∷ [])) ∙ outcomes_more_in (map (λ (q : ℕ × Entry). q.1) mine) p.1 job o is

pub asked_append : (gives : ℕ → List Outcome → Op) (tx : TxId) (before xs ys : List (ℕ × Entry)) → AreAsked gives tx before xs → AreAsked gives tx (before ++ xs) ys → AreAsked gives tx before (xs ++ ys)
asked_append gives tx before [] ys a b = subst (λ l. AreAsked gives tx l ys) (append-nil before) b
asked_append gives tx before (x ∷ xs) ys a b = (a.0, asked_append gives tx (before ++ x ∷ []) xs ys a.1 (subst (λ l. AreAsked gives tx l ys) (sym (append_assoc before (x ∷ []) xs)) b))

both : {X : Type 0} (a b : Bool) (x y : X) → a ≡ true → b ≡ true → (if a && b then x else y) ≡ x
both true true x y p q = refl
both true false x y p q = absurd (true≢false (sym q))
both false b x y p q = absurd (true≢false (sym p))

second : {X : Type 0} (a b : Bool) (x y : X) → b ≡ false → (if a && b then x else y) ≡ y
second true true x y q = absurd (true≢false q)
second true false x y q = refl
second false b x y q = refl

some_none_op : (op : Op) → Some op ≡ None → ⊥
some_none_op op e = cc

module _ {Y : Type 0} (gives : Y → ℕ → List Outcome → Op) (stands : Y → ℕ → List Outcome → Type 0) where
  -- an entry that is no step of this transaction
  pub tied_other : (tx : TxId) (mine : List (ℕ × Entry)) (t : Task Y) (p : ℕ × Entry) → Tied gives stands tx mine t → ((s : ℕ) → outcome_in (job_of tx s) p.1 ≡ None) → Tied gives stands tx (mine ++ p ∷ []) t
  tied_other tx mine t p k none =
      let same : (s : ℕ) → own_outcomes (mine ++ p ∷ []) (job_of tx s) ≡ own_outcomes mine (job_of tx s) = λ s. outcomes_snoc mine p (job_of tx s) None (none s) ∙ append-nil (own_outcomes mine (job_of tx s)) in record {
        standing = subst (stands t.body t.serial) (sym (same t.serial)) k.standing;
        op_is = λ op e. k.op_is op e ∙ ap (gives t.body t.serial) (sym (same t.serial));
        later = λ s less. same s ∙ k.later s less;
      }

  -- a body at a job, where no job has taken a step
  pub tied_fresh : (tx : TxId) (mine : List (ℕ × Entry)) (t : Task Y) → NoSteps tx mine → t.op ≡ None → stands t.body t.serial [] → Tied gives stands tx mine t
  tied_fresh tx mine t quiet none begun = record {
    standing = subst (stands t.body t.serial) (sym (quiet t.serial)) begun;
    op_is = λ op e. absurd (some_none_op op (sym e ∙ none));
    later = λ s less. quiet s;
  }

  -- a body at another job, to which nothing was told
  pub tied_anew : (tx : TxId) (mine : List (ℕ × Entry)) (t u : Task Y) → Tied gives stands tx mine t → t.serial < u.serial → u.op ≡ None → stands u.body u.serial [] → Tied gives stands tx mine u
  tied_anew tx mine t u k more none begun = record {
    standing = subst (stands u.body u.serial) (sym (k.later u.serial more)) begun;
    op_is = λ op e. absurd (some_none_op op (sym e ∙ none));
    later = λ s less. k.later s (omega arith);
  }

  -- a step, of which the body was told
  pub tied_done : (tx : TxId) (mine : List (ℕ × Entry)) (t u : Task Y) (op : Op) (now place : ℕ) (outcome : Outcome) (over : Option End) → Tied gives stands tx mine t → u.serial ≡ t.serial → u.op ≡ None
      → ((serial : ℕ) (outcomes : List Outcome) → stands t.body serial outcomes → stands u.body serial (outcomes ++ outcome ∷ []))
      → Tied gives stands tx (mine ++ (place, Step (job_of tx t.serial) op outcome over now) ∷ []) u
  tied_done tx mine t u op now place outcome over k at none told =
      let p : ℕ × Entry = (place, Step (job_of tx t.serial) op outcome over now) in
      let a : (tx.0 == tx.0) ≡ true = grind (arith, nat_tests) in
      let b : (t.serial == t.serial) ≡ true = grind (arith, nat_tests) in
      let here : outcome_in (job_of tx t.serial) p.1 ≡ Some outcome = both (tx.0 == tx.0) (t.serial == t.serial) (Some outcome) None a b in
      let others : (s : ℕ) → t.serial < s → outcome_in (job_of tx s) p.1 ≡ None = λ s less. (let q : (t.serial == s) ≡ false = grind (arith, nat_tests) in second (tx.0 == tx.0) (t.serial == s) (Some outcome) None q) in record {
        standing = subst (λ (n : ℕ). stands u.body n (own_outcomes (mine ++ p ∷ []) (job_of tx n))) (sym at)
            (subst (stands u.body t.serial) (sym (outcomes_snoc mine p (job_of tx t.serial) (Some outcome) here)) (told t.serial (own_outcomes mine (job_of tx t.serial)) k.standing));
        op_is = λ o e. absurd (some_none_op o (sym e ∙ none));
        later = λ s less. let up : t.serial < s = omega (arith, at) in outcomes_snoc mine p (job_of tx s) None (others s up) ∙ (append-nil (own_outcomes mine (job_of tx s)) ∙ k.later s up);
      }

  -- an answer of which the body is not told
  pub tied_default : (tx : TxId) (mine : List (ℕ × Entry)) (t : Task Y) (op : Op) (now : ℕ) (history : List Entry) (r : StepReply) → ((o : Outcome) (v : Option End) → r ≡ Done o v → ⊥) → Tied gives stands tx mine t → Tied gives stands tx (with_own mine history (step_entry now (job_of tx t.serial) op r)) t
  tied_default tx mine t op now history (reply.Blocked by ceiling) not_done k = tied_other tx mine t _ k (λ s. refl)
  tied_default tx mine t op now history (Done o v) not_done k = absurd (not_done o v refl)
  tied_default tx mine t op now history other not_done k = k
