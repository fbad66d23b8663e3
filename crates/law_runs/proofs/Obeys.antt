-- What a script of a scenario asks for may be asked.
use Rattle.std.proofs.Common.{◌≡◌, ℕ, zero, suc, ◌+◌, ◌<◌, ◌≤◌, ◌==◌, Bool, true, false, ◌&&◌, ◌||◌, not, cond, List, [], ◌∷◌, ◌++◌, map, Option, None, Some, refl, ap, sym, subst, ◌∙◌, length, get_or, arith}
use Rattle.std.specs.Prelude.{slice_get, slice_index_or, nat_le, option_map}
use Rattle.std.specs.Option.{option_or}
use Rattle.std.specs.List.{list_all, list_any}
use Rattle.std.proofs.lemmas.Bool.{and_parts, and_from, leb-true, le-leb}
use Rattle.rt_base.specs.declared.ids.ItemId.{ItemId}
use Rattle.rt_base.specs.declared.ids.JobId.{JobId}
use Rattle.rt_base.specs.declared.operation.Op.{Op}
use Rattle.rt_base.specs.declared.operation.Op.TheVariants as asked
use Rattle.rt_base.specs.declared.operation.Outcome.{Outcome}
use Rattle.item_model.specs.declared.decl.ItemDecl.{ItemDecl}
use Rattle.item_model.specs.Kinds.{is_dated}
use Rattle.item_model.specs.Work.{Work, no_work, is_complete, has_written}
use Rattle.txn_set.specs.declared.decl.TxnDecl.{TxnDecl}
use Rattle.txn_set.specs.Set.{Set, no_txn, txn_of, may_read, may_write, IsCompiled}
use Rattle.step_script.specs.Values.{Tree, Known, value_in}
use Rattle.step_script.specs.Scripts.{Program, Operation, read, write, compute, commit, quit, width, op_at, asked_by, next_of}
use Rattle.step_journal.specs.declared.entry.Entry.{Entry}
use Rattle.step_journal.specs.State.{Row}
use Rattle.step_journal.specs.Running.{running}
use Rattle.step_journal.specs.Step.{may_ask as may_be_asked}
use Rattle.step_journal.specs.History.{IsLegal, state_of}
use Rattle.step_journal.specs.Serial.{ops_of, outcomes_of, work_alone}
use Rattle.law_histories.proofs.Invariant.{IsPending, Runs, running_is, in_range}
use Rattle.law_histories.proofs.Never.{legal_sound, refused_all}
use Rattle.law_histories.proofs.Calendar.{named_from}
use Rattle.law_histories.proofs.Serials.{IsAlone}
use Rattle.law_histories.proofs.SerialAll.{legal_serial}
use Rattle.law_histories.proofs.JobCounts.{legal_jobs}
use Rattle.law_histories.specs.Sim.{Body, Workload, IsScriptRun}
use Rattle.sim_run.specs.Workloads.{body_of, IsObedient}
use Rattle.step_script.specs.Shown.{Shown, set_of}
use Rattle.step_script.specs.Bodies.{steps_of, is_write_of, writes_all, may_stand, bad_op, bad_script_from}
use Rattle.step_script.specs.Scenarios.{IsScenario}
use Rattle.law_runs.specs.Runs.{workload_of}
use Rattle.law_runs.proofs.Scripts.{StandsAt, stands_at, WritesAt, writes_at}
use Rattle.law_runs.proofs.Operations.{as_many, IsGiven, ops_given, wrote}

-- where no script is bad, none of a transaction is
none_left : (a : Option ℕ) (tx : ℕ) (rest : Option (ℕ × ℕ)) → option_or (option_map (λ op. (tx, op)) a) rest ≡ None → (a ≡ None) × (rest ≡ None)
none_left None tx rest h = (refl, h)
none_left (Some op) tx rest h = absurd cc

good_script : (decls : List ItemDecl) (k : ℕ) (ts : List TxnDecl) (ps : List Program) (n : ℕ) (p : Program) → bad_script_from decls k ts ps ≡ None
    → n < length ts → slice_get ps n ≡ Some p → bad_op decls (slice_index_or ts n no_txn) p.ops ≡ None
good_script decls k [] ps n p h lt at = absurd (omega (arith, lt))
good_script decls k (t ∷ ts) [] n p h lt at = absurd cc
good_script decls k (t ∷ ts) (q ∷ ps) zero p h lt at =
    let same : q ≡ p = cc in
    ap (λ (r : Program). bad_op decls t r.ops) (sym same) ∙ (none_left (bad_op decls t q.ops) k (bad_script_from decls (k + 1) ts ps) h).0
good_script decls k (t ∷ ts) (q ∷ ps) (suc n) p h lt at =
    good_script decls (k + 1) ts ps n p (none_left (bad_op decls t q.ops) k (bad_script_from decls (k + 1) ts ps) h).1 (omega (arith, lt)) at

-- the body of a transaction is its script's function
pub record HasBody (ps : List Program) (n : ℕ) : Type 0 where
  pub program : Program
  pub at : slice_get ps n ≡ Some program
  pub body : body_of (map next_of ps) n ≡ next_of program

has_body : (ps : List Program) (n : ℕ) → n < length ps → HasBody ps n
has_body [] n lt = absurd (omega (arith, lt))
has_body (p ∷ ps) zero lt = record { program = p; at = refl; body = refl }
has_body (p ∷ ps) (suc n) lt = let b = has_body ps n (omega (arith, lt)) in record { program = b.program; at = b.at; body = b.body }

-- an operation among so many
some_at : (ops : List Op) (m : ℕ) → m < length ops → (op : Op) × (slice_get ops m ≡ Some op)
some_at [] m lt = absurd (omega (arith, lt))
some_at (op ∷ ops) zero lt = (op, refl)
some_at (op ∷ ops) (suc m) lt = some_at ops m (omega (arith, lt))

-- what is known of a row whose body is a program's function
pub record Follows (p : Program) (es : List Entry) (work : Work) (used : ℕ) (job : JobId) : Type 0 where
  pub many : length (ops_of es job) ≡ used
  pub given : (i : ℕ) (op : Op) → slice_get (ops_of es job) i ≡ Some op → IsGiven (next_of p) job.serial i op
  pub written : (i : ℕ) (item : ItemId) (value : _) → slice_get (ops_of es job) i ≡ Some (asked.Write item value) → has_written work item.0 ≡ true

asked_write : (p : Program) (serial n : ℕ) (op : Op) (item : ItemId) (value : Tree) → IsGiven (next_of p) serial n op → op_at p.ops n ≡ Some (write item value) → (v : _) × (op ≡ asked.Write item v)
asked_write p serial n op item value g at =
    let same : op_at p.ops (length g.told) ≡ Some (write item value) = ap (op_at p.ops) g.many ∙ at in
    (_, g.is ∙ ap (asked_by _) same)

-- an item that is written among the operations before a place that the row has reached is written
item_written : (p : Program) (es : List Entry) (work : Work) (used : ℕ) (job : JobId) (before after : List Operation) (op : Operation) (i : ℕ) → Follows p es work used job
    → p.ops ≡ before ++ op ∷ after → steps_of before ≤ used → list_any (is_write_of i) before ≡ true → has_written work i ≡ true
item_written p es work used job before after op i f split start h =
    let w = writes_at before i h in
    let early = w.early in
    let many = f.many in
    let there = some_at (ops_of es job) w.place (omega (arith, early, start, many)) in
    let at : op_at p.ops w.place ≡ Some (write w.item w.value) = ap (λ (l : List Operation). op_at l w.place) split ∙ w.at (op ∷ after) in
    let is = asked_write p job.serial w.place there.0 w.item w.value (f.given w.place there.0 there.1) at in
    subst (λ (n : ℕ). has_written work n ≡ true) w.is (f.written w.place w.item is.0 (there.1 ∙ ap (λ (o : Op). Some o) is.1))

complete_at : (dated has wrote : Bool) → (not dated || has) ≡ true → (has ≡ true → wrote ≡ true) → (not dated || wrote) ≡ true
complete_at true true wrote h k = k refl
complete_at true false wrote h k = absurd cc
complete_at false has wrote h k = refl

complete : (decls : List ItemDecl) (writes : List ItemId) (before : List Operation) (work : Work) → list_all (λ i. not (is_dated decls i.0) || list_any (is_write_of i.0) before) writes ≡ true
    → ((i : ℕ) → list_any (is_write_of i) before ≡ true → has_written work i ≡ true) → is_complete decls writes work ≡ true
complete decls [] before work h k = refl
complete decls (i ∷ is) before work h k =
    let parts = and_parts (not (is_dated decls i.0) || list_any (is_write_of i.0) before) (list_all (λ j. not (is_dated decls j.0) || list_any (is_write_of j.0) before) is) h in
    and_from _ _ (complete_at (is_dated decls i.0) (list_any (is_write_of i.0) before) (has_written work i.0) parts.0 (k i.0)) (complete decls is before work parts.1 k)

later_than : (quiet before used : ℕ) → nat_le quiet before ≡ true → before ≤ used → nat_le quiet used ≡ true
later_than quiet before used h le = let q = leb-true quiet before h in le-leb quiet used (omega (arith, q, le))

-- the operation that a good script has at the place that the row has reached may be asked
asked_at : (set : Set) (row : Row) (p : Program) (es : List Entry) (known : Known) (o : Option Operation) → Follows p es row.work row.used row.job → bad_op set.items (txn_of set row.job.tx.0) p.ops ≡ None
    → op_at p.ops row.used ≡ o → may_be_asked set row (asked_by known o) ≡ true
asked_at set row p es known None f good at = refl
asked_at set row p es known (Some (compute n)) f good at = refl
asked_at set row p es known (Some quit) f good at = refl
asked_at set row p es known (Some (read i)) f good at =
    let s = stands_at set.items (txn_of set row.job.tx.0) [] p.ops row.used (read i) at good in
    let may = (and_parts _ _ ((and_parts _ _ s.may).1)) in
    and_from _ _ may.0 (later_than _ (steps_of s.before) row.used may.1 s.start)
asked_at set row p es known (Some (write i value)) f good at =
    let s = stands_at set.items (txn_of set row.job.tx.0) [] p.ops row.used (write i value) at good in
    let may = (and_parts _ _ ((and_parts _ _ s.may).1)) in
    and_from _ _ may.0 (later_than _ (steps_of s.before) row.used may.1 s.start)
asked_at set row p es known (Some commit) f good at =
    let s = stands_at set.items (txn_of set row.job.tx.0) [] p.ops row.used commit at good in
    complete set.items (txn_of set row.job.tx.0).writes s.before row.work (and_parts _ _ s.may).1
    (λ i h. item_written p es row.work row.used row.job s.before s.after commit i f s.split s.start h)

-- the row of a running job in a script run
follows : (w : Workload) (p : Program) (es : List Entry) (row : Row) → IsCompiled w.set → IsLegal w.set es → IsScriptRun w es → running w.set (state_of w.set es).rows ≡ Some row
    → w.bodies row.job.tx.0 ≡ next_of p → Follows p es row.work row.used row.job
follows w p es row ok legal script runs body =
    let s = state_of w.set es in
    let refused : JobId → Bool = refused_all (λ _. false) es in
    let sound = legal_sound w.set es ok legal in
    let run = running_is w.set s.rows refused row (named_from w.set s.rows ok sound.frame) sound.protocol runs in
    let jobs = legal_jobs w.set es ok legal in
    let alone = (legal_serial w.set es ok legal).alone row run.here in
    record {
      many = jobs.used row run.here;
      given = λ i op at. subst (λ (b : Body). IsGiven b row.job.serial i op) body (ops_given w es row.job script i op at);
      written = λ i item value at. subst (λ (k : Work). has_written k item.0 ≡ true) (sym alone.work) (wrote s.items no_work (ops_of es row.job) i item value at);
    }

in_txns : (set : Set) (es : List Entry) (row : Row) → IsCompiled set → IsLegal set es → running set (state_of set es).rows ≡ Some row → row.job.tx.0 < length set.txns
in_txns set es row ok legal runs =
    let s = state_of set es in
    let refused : JobId → Bool = refused_all (λ _. false) es in
    let sound = legal_sound set es ok legal in
    let run = running_is set s.rows refused row (named_from set s.rows ok sound.frame) sound.protocol runs in
    omega (arith, in_range s.rows row.job.tx.0 row run.here, sound.frame.count)

pub obeys : (s : Shown) → IsScenario s → IsCompiled (set_of s) → IsObedient (workload_of s)
obeys s is ok before legal script row runs =
    let inside = in_txns (set_of s) before row ok legal runs in
    let scripted = is.scripted in
    let b = has_body s.programs row.job.tx.0 (omega (arith, inside, scripted)) in
    let f = follows (workload_of s) b.program before row ok legal script runs b.body in
    let told = outcomes_of before row.job in
    let good = good_script s.items 0 s.txns s.programs row.job.tx.0 b.program is.good_scripts inside b.at in
    let reached : length told ≡ row.used = as_many before row.job ∙ f.many in
    ap (λ (g : Body). may_be_asked (set_of s) row (g row.job.serial told)) b.body
    ∙ asked_at (set_of s) row b.program before _ (op_at b.program.ops (length told)) f good (ap (op_at b.program.ops) (sym reached))
