-- The outside reads of a job by its entries are those that its row notes, and their stamps are those of the present
-- items.
use Rattle.std.proofs.Common.{◌≡◌, ◌⊎◌, ℕ, ◌==◌, Bool, true, false, cond, List, [], ◌∷◌, Option, None, Some, refl, ap, sym, ◌∙◌, subst, inl, inr}
use Rattle.std.proofs.lemmas.Bool.{eqb-true}
use Rattle.std.specs.Prelude.{is_some}
use Rattle.std.specs.List.{cons_option}
use Rattle.rt_base.specs.declared.ids.JobId.{JobId}
use Rattle.rt_base.specs.declared.ids.ItemId.{ItemId}
use Rattle.rt_base.specs.declared.operation.Op.{Op}
use Rattle.rt_base.specs.declared.operation.Op.TheVariants.{Read, Write}
use Rattle.rt_base.specs.declared.operation.Outcome.{Outcome}
use Rattle.step_journal.specs.declared.entry.Entry.{Entry}
use Rattle.step_journal.specs.declared.entry.Entry.TheVariants.{Planned, Step, Blocked, Idle}
use Rattle.item_model.specs.Work.{Work, no_work, stored_of, got, outcome_of, work_after, write_of, with_read}
use Rattle.item_model.specs.declared.stored.OwnWrite.{OwnWrite}
use Rattle.item_model.specs.declared.stored.OutsideRead.{OutsideRead}
use Rattle.item_model.specs.declared.stored.Stored.{Stored}
use Rattle.step_journal.specs.State.{same_job}
use Rattle.step_journal.specs.Serial.{ops_of, outcomes_of, work_alone, outcomes_alone}
use Rattle.step_journal.specs.Timing.{outside_read, outside_reads_of}
use Rattle.law_histories.proofs.Members.{In}

-- the outside reads by operations and their outcomes
abbrev pub reads_by : List Op → List Outcome → List OutsideRead
reads_by [] os = []
reads_by (op ∷ ops) [] = []
reads_by (op ∷ ops) (o ∷ os) = cons_option (outside_read op o) (reads_by ops os)

by_at : (op : Op) (o : Outcome) (rs : List OutsideRead) (ops : List Op) (os : List Outcome) (b : Bool) → rs ≡ reads_by ops os
    → cons_option (cond b (outside_read op o) None) rs ≡ reads_by (cons_option (cond b (Some op) None) ops) (cons_option (cond b (Some o) None) os)
by_at op o rs ops os true h = ap (cons_option (outside_read op o)) h
by_at op o rs ops os false h = h

pub reads_by_is : (es : List Entry) (job : JobId) → outside_reads_of es job ≡ reads_by (ops_of es job) (outcomes_of es job)
reads_by_is [] job = refl
reads_by_is (Step by op o over tick ∷ es) job = by_at op o (outside_reads_of es job) (ops_of es job) (outcomes_of es job) (same_job by job) (reads_by_is es job)
reads_by_is (Planned tx tick ∷ es) job = reads_by_is es job
reads_by_is (Blocked by op on ceiling tick ∷ es) job = reads_by_is es job
reads_by_is (Idle from to ∷ es) job = reads_by_is es job

-- the stamps are those of the items
abbrev pub AreCurrent : List Stored → List OutsideRead → Type 0
AreCurrent items rs = (r : OutsideRead) → In r rs → r.stamp ≡ (stored_of items r.item.0).stamp

pub same_read : (q r : OutsideRead) → q.item.0 ≡ r.item.0 → q.stamp ≡ r.stamp → q ≡ r
same_read q r e t = ap (λ (n : ℕ). record { item = record { 0 = n }; stamp = q.stamp }) e ∙ ap (λ (n : ℕ). record { item = r.item; stamp = n }) t

pub one_current : (items : List Stored) (rs : List OutsideRead) (q r : OutsideRead) → AreCurrent items rs → In q rs → In r rs → q.item.0 ≡ r.item.0 → q ≡ r
one_current items rs q r h i j e = same_read q r e (h q i ∙ (ap (λ (n : ℕ). (stored_of items n).stamp) e ∙ sym (h r j)))

-- with one more read

abbrev read_at : ItemId → ℕ → OutsideRead
read_at item stamp = record { item = item; stamp = stamp }

more_in_at : (rs : List OutsideRead) (x r : OutsideRead) (item : ItemId) (stamp : ℕ) (b : Bool) → (In r (with_read rs item stamp) → In r rs ⊎ (r ≡ read_at item stamp)) → In r (cond b (x ∷ rs) (x ∷ with_read rs item stamp)) → ((r ≡ x) ⊎ In r rs) ⊎ (r ≡ read_at item stamp)
more_in_at rs x r item stamp true rest h = inl h
more_in_at rs x r item stamp false rest (inl e) = inl (inl e)
more_in_at rs x r item stamp false rest (inr h) = elim (rest h) [ inl i ↦ inl (inr i) | inr e ↦ inr e ]

more_in : (rs : List OutsideRead) (r : OutsideRead) (item : ItemId) (stamp : ℕ) → In r (with_read rs item stamp) → In r rs ⊎ (r ≡ read_at item stamp)
more_in [] r item stamp (inl e) = inr e
more_in [] r item stamp (inr h) = absurd h
more_in (x ∷ rs) r item stamp h = more_in_at rs x r item stamp (x.item.0 == item.0) (more_in rs r item stamp) h

in_more_at : (rs : List OutsideRead) (x r : OutsideRead) (item : ItemId) (stamp : ℕ) (b : Bool) → (In r rs → In r (with_read rs item stamp)) → (r ≡ x) ⊎ In r rs → In r (cond b (x ∷ rs) (x ∷ with_read rs item stamp))
in_more_at rs x r item stamp true rest h = h
in_more_at rs x r item stamp false rest (inl e) = inl e
in_more_at rs x r item stamp false rest (inr h) = inr (rest h)

in_more : (rs : List OutsideRead) (r : OutsideRead) (item : ItemId) (stamp : ℕ) → In r rs → In r (with_read rs item stamp)
in_more [] r item stamp h = absurd h
in_more (x ∷ rs) r item stamp h = in_more_at rs x r item stamp (x.item.0 == item.0) (in_more rs r item stamp) h

new_in_at : (rs : List OutsideRead) (x : OutsideRead) (item : ItemId) (stamp : ℕ) (b : Bool) → (x.item.0 == item.0) ≡ b → (x.item.0 ≡ item.0 → x.stamp ≡ stamp) → In (read_at item stamp) (with_read rs item stamp) → In (read_at item stamp) (cond b (x ∷ rs) (x ∷ with_read rs item stamp))
new_in_at rs x item stamp true e same rest = let n : x.item.0 ≡ item.0 = eqb-true _ _ e in inl (sym (same_read x (read_at item stamp) n (same n)))
new_in_at rs x item stamp false e same rest = inr rest

new_in : (items : List Stored) (rs : List OutsideRead) (item : ItemId) → AreCurrent items rs → In (read_at item (stored_of items item.0).stamp) (with_read rs item (stored_of items item.0).stamp)
new_in items [] item h = inl refl
new_in items (x ∷ rs) item h =
    new_in_at rs x item (stored_of items item.0).stamp (x.item.0 == item.0) refl (λ n. h x (inl refl) ∙ ap (λ (k : ℕ). (stored_of items k).stamp) n) (new_in items rs item (λ r i. h r (inr i)))

-- one operation alone
pub record IsNoted (items : List Stored) (w w' : Work) (o : Option OutsideRead) : Type 0 where
  pub current : AreCurrent items w'.reads
  pub old : (r : OutsideRead) → In r w.reads → In r w'.reads
  pub new : (r : OutsideRead) → o ≡ Some r → In r w'.reads
  pub only : (r : OutsideRead) → In r w'.reads → In r w.reads ⊎ (o ≡ Some r)

noted_same : (items : List Stored) (w : Work) → AreCurrent items w.reads → IsNoted items w w None
noted_same items w h = record { current = h; old = λ r i. i; new = λ r e. absurd cc; only = λ r i. inl i }

noted_read : (items : List Stored) (w : Work) (item : ItemId) (o : Option OwnWrite) → AreCurrent items w.reads
    → IsNoted items w (cond (is_some o) w (record w { reads = with_read w.reads item (stored_of items item.0).stamp })) (outside_read (Read item) (got o (stored_of items item.0)))
noted_read items w item (Some v) h = noted_same items w h
noted_read items w item None h = record {
  current = λ r i. elim (more_in w.reads r item (stored_of items item.0).stamp i) [
    | inl old ↦ h r old
    | inr e ↦ ap (λ (k : OutsideRead). k.stamp) e ∙ sym (ap (λ (k : OutsideRead). (stored_of items k.item.0).stamp) e)
  ];
  old = λ r i. in_more w.reads r item (stored_of items item.0).stamp i;
  new = λ r e. (let s : read_at item (stored_of items item.0).stamp ≡ r = cc in subst (λ (k : OutsideRead). In k (with_read w.reads item (stored_of items item.0).stamp)) s (new_in items w.reads item h));
  only = λ r i. elim (more_in w.reads r item (stored_of items item.0).stamp i) [ inl old ↦ inl old | inr e ↦ inr (ap Some (sym e)) ];
}

noted_op : (items : List Stored) (w : Work) (op : Op) → AreCurrent items w.reads → IsNoted items w (work_after items w op) (outside_read op (outcome_of items w op))
noted_op items w (Read item) h = noted_read items w item (write_of w item.0) h
noted_op items w (Write item value) h = record { current = h; old = λ r i. i; new = λ r e. absurd cc; only = λ r i. inl i }
noted_op items w other h = noted_same items w h

-- all operations alone
pub record AreNoted (items : List Stored) (w w' : Work) (rs : List OutsideRead) : Type 0 where
  pub current : AreCurrent items w'.reads
  pub old : (r : OutsideRead) → In r w.reads → In r w'.reads
  pub new : (r : OutsideRead) → In r rs → In r w'.reads
  pub only : (r : OutsideRead) → In r w'.reads → In r w.reads ⊎ In r rs

cons_in : (o : Option OutsideRead) (rs : List OutsideRead) (r : OutsideRead) → In r (cons_option o rs) → (o ≡ Some r) ⊎ In r rs
cons_in None rs r h = inr h
cons_in (Some q) rs r (inl e) = inl (ap Some (sym e))
cons_in (Some q) rs r (inr h) = inr h

in_cons : (o : Option OutsideRead) (rs : List OutsideRead) (r : OutsideRead) → (o ≡ Some r) ⊎ In r rs → In r (cons_option o rs)
in_cons None rs r (inl e) = absurd cc
in_cons None rs r (inr h) = h
in_cons (Some q) rs r (inl e) = inl cc
in_cons (Some q) rs r (inr h) = inr h

alone_noted : (items : List Stored) (w : Work) (ops : List Op) → AreCurrent items w.reads → AreNoted items w (work_alone items w ops) (reads_by ops (outcomes_alone items w ops))
alone_noted items w [] h = record { current = h; old = λ r i. i; new = λ r i. absurd i; only = λ r i. inl i }
alone_noted items w (op ∷ ops) h =
    let a = noted_op items w op h in
    let b = alone_noted items (work_after items w op) ops a.current in
    record {
      current = b.current;
      old = λ r i. b.old r (a.old r i);
      new = λ r i. elim (cons_in (outside_read op (outcome_of items w op)) (reads_by ops (outcomes_alone items (work_after items w op) ops)) r i) [ inl e ↦ b.old r (a.new r e) | inr j ↦ b.new r j ];
      only = λ r i. elim (b.only r i) [
        | inl j ↦ elim (a.only r j) [ inl k ↦ inl k | inr e ↦ inr (in_cons (outside_read op (outcome_of items w op)) (reads_by ops (outcomes_alone items (work_after items w op) ops)) r (inl e)) ]
        | inr j ↦ inr (in_cons (outside_read op (outcome_of items w op)) (reads_by ops (outcomes_alone items (work_after items w op) ops)) r (inr j))
      ];
    }

-- what a job's entries say that it read is what its work notes, with the stamps of the items
pub record Knows (items : List Stored) (rs : List OutsideRead) (w : Work) : Type 0 where
  pub current : AreCurrent items w.reads
  pub noted : (r : OutsideRead) → In r rs → In r w.reads
  pub was_read : (r : OutsideRead) → In r w.reads → In r rs

pub alone_knows : (items : List Stored) (es : List Entry) (job : JobId) (w : Work) → w ≡ work_alone items no_work (ops_of es job) → outcomes_of es job ≡ outcomes_alone items no_work (ops_of es job) → Knows items (outside_reads_of es job) w
alone_knows items es job w work outs =
    let a = alone_noted items no_work (ops_of es job) (λ r i. absurd i) in
    let e : outside_reads_of es job ≡ reads_by (ops_of es job) (outcomes_alone items no_work (ops_of es job)) = reads_by_is es job ∙ ap (reads_by (ops_of es job)) outs in
    record {
      current = λ r i. a.current r (subst (λ (k : Work). In r k.reads) work i);
      noted = λ r i. subst (λ (k : Work). In r k.reads) (sym work) (a.new r (subst (λ (k : List OutsideRead). In r k) e i));
      was_read = λ r i. elim (a.only r (subst (λ (k : Work). In r k.reads) work i)) [ inl none ↦ absurd none | inr j ↦ subst (λ (k : List OutsideRead). In r k) (sym e) j ];
    }
