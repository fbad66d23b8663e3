-- The operations of a job in a script run are those of its body, one after another.
use Rattle.std.proofs.Common.{◌≡◌, ℕ, zero, suc, ◌+◌, ◌<◌, ◌≤◌, ◌==◌, ℤ, Bool, true, false, cond, List, [], ◌∷◌, ◌++◌, Option, None, Some, refl, ap, sym, subst, ◌∙◌, length, arith}
use Rattle.std.specs.Prelude.{slice_get}
use Rattle.std.specs.List.{find}
use Rattle.std.specs.Prelude.{is_some}
use Rattle.std.proofs.lemmas.Bool.{eq-eqb}
use Rattle.std.proofs.lemmas.List.{length-append}
use Rattle.std.specs.List.{cons_option}
use Rattle.rt_base.specs.declared.ids.ItemId.{ItemId}
use Rattle.rt_base.specs.declared.ids.JobId.{JobId}
use Rattle.rt_base.specs.declared.operation.Op.{Op}
use Rattle.rt_base.specs.declared.operation.Op.TheVariants.{Read, Write, Compute, Commit, Quit}
use Rattle.rt_base.specs.declared.operation.Outcome.{Outcome}
use Rattle.rt_base.specs.declared.operation.End.{End}
use Rattle.item_model.specs.declared.stored.Stored.{Stored}
use Rattle.item_model.specs.declared.stored.OwnWrite.{OwnWrite}
use Rattle.item_model.specs.Work.{Work, work_after, has_written, with_write}
use Rattle.step_journal.specs.declared.entry.Entry.{Entry}
use Rattle.step_journal.specs.declared.entry.Entry.TheVariants.{Planned, Step, Blocked, Idle}
use Rattle.step_journal.specs.State.{same_job}
use Rattle.step_journal.specs.Serial.{op_in, outcome_in, ops_of, outcomes_of, work_alone}
use Rattle.law_histories.proofs.Invariant.{same_job_is}
use Rattle.law_histories.proofs.Holding.{Grows, work_grows}
use Rattle.law_histories.proofs.Alone.{ops_more}
use Rattle.law_histories.specs.Sim.{Body, Workload, IsAsked, IsScriptRun}

step_as_many : (b : Bool) (op : Op) (outcome : Outcome) (ops : List Op) (outcomes : List Outcome) → length outcomes ≡ length ops
    → length (cons_option (cond b (Some outcome) None) outcomes) ≡ length (cons_option (cond b (Some op) None) ops)
step_as_many true op outcome ops outcomes h = ap suc h
step_as_many false op outcome ops outcomes h = h

-- a job has as many outcomes as operations
pub as_many : (es : List Entry) (job : JobId) → length (outcomes_of es job) ≡ length (ops_of es job)
as_many [] job = refl
as_many (Planned tx tick ∷ es) job = as_many es job
as_many (Blocked by op on ceiling tick ∷ es) job = as_many es job
as_many (Idle from to ∷ es) job = as_many es job
as_many (Step by op outcome over tick ∷ es) job = step_as_many (same_job by job) op outcome (ops_of es job) (outcomes_of es job) (as_many es job)

-- what the body gives after so many outcomes
pub record IsGiven (body : ℕ → List Outcome → Op) (serial n : ℕ) (op : Op) : Type 0 where
  pub told : List Outcome
  pub many : length told ≡ n
  pub is : op ≡ body serial told

-- each operation of a job in what follows a history is the body's
abbrev AreGiven : Workload → List Entry → List Entry → JobId → Type 0
AreGiven w done rest job = (i : ℕ) (op : Op) → slice_get (ops_of rest job) i ≡ Some op → IsGiven (w.bodies job.tx.0) job.serial (length (ops_of done job) + i) op

-- the rest of a script run
abbrev IsRest : Workload → List Entry → List Entry → Type 0
IsRest w done rest = (before after : List Entry) (e : Entry) → rest ≡ before ++ e ∷ after → IsAsked w (done ++ before) e

append_one : {A : Type 0} (xs : List A) (y : A) (ys : List A) → (xs ++ y ∷ []) ++ ys ≡ xs ++ y ∷ ys
append_one [] y ys = refl
append_one (x ∷ xs) y ys = ap (λ (l : List _). x ∷ l) (append_one xs y ys)

append_none : {A : Type 0} (xs : List A) → xs ++ [] ≡ xs
append_none [] = refl
append_none (x ∷ xs) = ap (λ (l : List _). x ∷ l) (append_none xs)

rest_after : (w : Workload) (done rest : List Entry) (e : Entry) → IsRest w done (e ∷ rest) → IsRest w (done ++ e ∷ []) rest
rest_after w done rest e h before after x split =
    subst (λ (l : List Entry). IsAsked w l x) (sym (append_one done e before)) (h (e ∷ before) after x (ap (λ (l : List Entry). e ∷ l) split))

-- an entry that is no step of the job
skips : (w : Workload) (done rest : List Entry) (e : Entry) (job : JobId) → op_in job e ≡ None → AreGiven w (done ++ e ∷ []) rest job → (i : ℕ) (op : Op)
    → slice_get (ops_of rest job) i ≡ Some op → IsGiven (w.bodies job.tx.0) job.serial (length (ops_of done job) + i) op
skips w done rest e job none h i op at =
    let g = h i op at in
    record { told = g.told; many = g.many ∙ ap (λ (l : List Op). length l + i) (ops_more done e job None none ∙ append_none (ops_of done job)); is = g.is }

step_given : (w : Workload) (done rest : List Entry) (job : JobId) (o : Op) (b : Bool) (i : ℕ) (op : Op)
    → slice_get (cons_option (cond b (Some o) None) (ops_of rest job)) i ≡ Some op
    → (b ≡ true → IsGiven (w.bodies job.tx.0) job.serial (length (ops_of done job)) o)
    → ((n : ℕ) → slice_get (ops_of rest job) n ≡ Some op → IsGiven (w.bodies job.tx.0) job.serial ((length (ops_of done job) + cond b 1 0) + n) op)
    → IsGiven (w.bodies job.tx.0) job.serial (length (ops_of done job) + i) op
step_given w done rest job o true zero op at eager_jobs later =
    let same : o ≡ op = cc in
    let g = eager_jobs refl in
    record { told = g.told; many = g.many ∙ omega arith; is = sym same ∙ g.is }
step_given w done rest job o true (suc n) op at eager_jobs later = let g = later n at in record { told = g.told; many = g.many ∙ omega arith; is = g.is }
step_given w done rest job o false i op at eager_jobs later = let g = later i at in record { told = g.told; many = g.many ∙ omega arith; is = g.is }

one_more : (done : List Entry) (e : Entry) (job : JobId) (o : Op) (b : Bool) → op_in job e ≡ cond b (Some o) None → length (ops_of (done ++ e ∷ []) job) ≡ length (ops_of done job) + cond b 1 0
one_more done e job o true is = ap (λ (l : List Op). length l) (ops_more done e job (Some o) is) ∙ length-append (ops_of done job) (o ∷ [])
one_more done e job o false is = ap (λ (l : List Op). length l) (ops_more done e job None is ∙ append_none (ops_of done job)) ∙ omega arith

given_from : (w : Workload) (done rest : List Entry) (job : JobId) → IsRest w done rest → AreGiven w done rest job
given_from w done [] job h i op at = absurd cc
given_from w done (Planned tx tick ∷ rest) job h i op at = skips w done rest (Planned tx tick) job refl (given_from w (done ++ Planned tx tick ∷ []) rest job (rest_after w done rest (Planned tx tick) h)) i op at
given_from w done (Blocked by o on ceiling tick ∷ rest) job h i op at = skips w done rest (Blocked by o on ceiling tick) job refl (given_from w (done ++ Blocked by o on ceiling tick ∷ []) rest job (rest_after w done rest (Blocked by o on ceiling tick) h)) i op at
given_from w done (Idle from to ∷ rest) job h i op at = skips w done rest (Idle from to) job refl (given_from w (done ++ Idle from to ∷ []) rest job (rest_after w done rest (Idle from to) h)) i op at
given_from w done (Step by o outcome over tick ∷ rest) job h i op at =
    let e : Entry = Step by o outcome over tick in
    let asked : o ≡ w.bodies by.tx.0 by.serial (outcomes_of (done ++ []) by) = h [] rest e refl in
    let later = given_from w (done ++ e ∷ []) rest job (rest_after w done rest e h) in
    step_given w done rest job o (same_job by job) i op at
    (λ same. let k = same_job_is by job same in record {
      told = outcomes_of done job;
      many = as_many done job;
      is = asked ∙ (ap (λ (l : List Entry). w.bodies by.tx.0 by.serial (outcomes_of l by)) (append_none done) ∙ ap (λ (j : JobId). w.bodies j.tx.0 j.serial (outcomes_of done j)) k);
    })
    (λ n there. let g = later n op there in record { told = g.told; many = g.many ∙ ap (λ (m : ℕ). m + n) (one_more done e job o (same_job by job) refl); is = g.is })

-- each operation of a job in a script run is what its body gives after as many outcomes as there were operations before
pub ops_given : (w : Workload) (es : List Entry) (job : JobId) → IsScriptRun w es → (i : ℕ) (op : Op) → slice_get (ops_of es job) i ≡ Some op → IsGiven (w.bodies job.tx.0) job.serial i op
ops_given w es job h i op at = let g = given_from w [] es job h i op at in record { told = g.told; many = g.many ∙ omega arith; is = g.is }

-- what was written stays so

found_first : (w : OwnWrite) (ws : List OwnWrite) (item : ItemId) → (w.item.0 == item.0) ≡ true → is_some (find (λ (q : OwnWrite). q.item.0 == item.0) (w ∷ ws)) ≡ true
found_first w ws item e = ap (λ (b : Bool). is_some (cond b (Some w) (find (λ (q : OwnWrite). q.item.0 == item.0) ws))) e

found_later : (w : OwnWrite) (ws : List OwnWrite) (item : ItemId) → (w.item.0 == item.0) ≡ false → is_some (find (λ (q : OwnWrite). q.item.0 == item.0) ws) ≡ true → is_some (find (λ (q : OwnWrite). q.item.0 == item.0) (w ∷ ws)) ≡ true
found_later w ws item e h = ap (λ (b : Bool). is_some (cond b (Some w) (find (λ (q : OwnWrite). q.item.0 == item.0) ws))) e ∙ h

written_at : (ws : List OwnWrite) (w : OwnWrite) (item : ItemId) (value : ℤ) (b : Bool) → (w.item.0 == item.0) ≡ b → is_some (find (λ (q : OwnWrite). q.item.0 == item.0) (with_write ws item value)) ≡ true
    → is_some (find (λ (q : OwnWrite). q.item.0 == item.0) (cond b (record { item = item; value = value } ∷ ws) (w ∷ with_write ws item value))) ≡ true
written_at ws w item value true e rest = found_first (record { item = item; value = value }) ws item (eq-eqb item.0 item.0 refl)
written_at ws w item value false e rest = found_later w (with_write ws item value) item e rest

written_here : (ws : List OwnWrite) (item : ItemId) (value : ℤ) → is_some (find (λ (q : OwnWrite). q.item.0 == item.0) (with_write ws item value)) ≡ true
written_here [] item value = found_first (record { item = item; value = value }) [] item (eq-eqb item.0 item.0 refl)
written_here (w ∷ ws) item value = written_at ws w item value (w.item.0 == item.0) refl (written_here ws item value)

pub writes_more : (items : List Stored) (work : Work) (ops : List Op) (i : ℕ) → has_written work i ≡ true → has_written (work_alone items work ops) i ≡ true
writes_more items work [] i h = h
writes_more items work (op ∷ ops) i h = writes_more items (work_after items work op) ops i ((work_grows items work op).writes i h)

-- a job that wrote an item alone has written it
pub wrote : (items : List Stored) (work : Work) (ops : List Op) (n : ℕ) (item : ItemId) (value : ℤ) → slice_get ops n ≡ Some (Write item value) → has_written (work_alone items work ops) item.0 ≡ true
wrote items work [] n item value at = absurd cc
wrote items work (op ∷ ops) zero item value at =
    let same : op ≡ Write item value = cc in
    writes_more items (work_after items work op) ops item.0 (subst (λ (o : Op). has_written (work_after items work o) item.0 ≡ true) (sym same) (written_here work.writes item value))
wrote items work (op ∷ ops) (suc n) item value at = wrote items (work_after items work op) ops n item value at
