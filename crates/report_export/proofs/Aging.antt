-- What is kept of the ages of items is what they come to.
use Rattle.std.proofs.Common.{◌≡◌, ◌≢◌, ℕ, zero, suc, ◌+◌, ◌-◌, ◌<◌, ◌≤◌, Bool, true, false, cond, List, [], ◌∷◌, ◌++◌, length, replicate, take, get_or, Option, None, Some, refl, sym, ap, ◌∙◌, arith}
use Rattle.std.specs.Prelude.{◌==◌, ◌&&◌, nat_lt}
use Rattle.std.specs.List.{All, cons_option}
use Rattle.std.specs.Option.{option_map}
use Rattle.std.proofs.lemmas.Bool.{eqb-true, eqb-false, ltb-true, ltb-false}
use Rattle.std.proofs.lemmas.List.{length-set, length-replicate, length-append, length-take, take_all, get_or-set_same, get_or-set_other}
use Rattle.std.proofs.lemmas.List.Elements.{All-head, All-tail}
use Rattle.rt_base.specs.declared.ids.JobId.{JobId}
use Rattle.item_model.specs.declared.stored.OutsideRead.{OutsideRead}
use Rattle.step_journal.specs.declared.entry.Entry.{Entry}
use Rattle.step_journal.specs.declared.entry.Entry.TheVariants.{Step}
use Rattle.step_journal.specs.Timing.{outside_read}
use Rattle.job_rows.specs.declared.row.JobRow.{JobRow}
use Rattle.report_export.specs.Worsts.{at_least, worst, commit_tick, commit_of, read_age, age_in, ages}
use Rattle.report_export.specs.Ages.{with_place, with_tick, commit_at, with_commit, commits_in, with_age, with_end_of, with_read, with_entry, worst_ages}

abbrev Ticks : Type 0
Ticks = List (Option ℕ)

abbrev tick_at : Ticks → ℕ → Option ℕ
tick_at ticks n = get_or ticks n None

-- ---- the ticks of a transaction

pub filled : {A : Type 0} (n k : ℕ) (d : A) → get_or (replicate n d) k d ≡ d
filled zero k d = refl
filled (suc n) zero d = refl
filled (suc n) (suc k) d = filled n k d

padded : (ticks : Ticks) (n k : ℕ) → tick_at (ticks ++ replicate n None) k ≡ tick_at ticks k
padded [] n k = filled n k None
padded (t ∷ ticks) n zero = refl
padded (t ∷ ticks) n (suc k) = padded ticks n k

abbrev place_by : Bool → Ticks → ℕ → Ticks
place_by b ticks at = cond b ticks (take (at + 1) ticks ++ replicate ((at + 1) - length ticks) None)

place_long : (ticks : Ticks) (at : ℕ) (b : Bool) → nat_lt at (length ticks) ≡ b → at < length (place_by b ticks at)
place_long ticks at true e = ltb-true at (length ticks) e
place_long ticks at false e =
    omega (arith, length-append (take (at + 1) ticks) (replicate ((at + 1) - length ticks) None), length-take (at + 1) ticks, length-replicate {A = Option ℕ} ((at + 1) - length ticks) None)

place_same : (ticks : Ticks) (at : ℕ) (b : Bool) → nat_lt at (length ticks) ≡ b → (k : ℕ)
    → tick_at (place_by b ticks at) k ≡ tick_at ticks k
place_same ticks at true e k = refl
place_same ticks at false e k =
    let short : length ticks ≤ at + 1 = omega (arith, ltb-false at (length ticks) e) in
    ap (λ (l : Ticks). tick_at (l ++ replicate ((at + 1) - length ticks) None) k) (take_all (at + 1) ticks short)
    ∙ padded ticks ((at + 1) - length ticks) k

tick_by : (ticks : Ticks) (at : ℕ) (tick : Option ℕ) (k : ℕ) (b : Bool) → (at == k) ≡ b
    → tick_at (with_tick ticks at tick) k ≡ cond b tick (tick_at ticks k)
tick_by ticks at tick k true e =
    let same : at ≡ k = eqb-true at k e in
    ap (λ (i : ℕ). tick_at (with_tick ticks at tick) i) (sym same)
    ∙ get_or-set_same (with_place ticks at) at tick None (place_long ticks at (nat_lt at (length ticks)) refl)
tick_by ticks at tick k false e =
    let apart : k ≢ at = λ same. eqb-false at k e (sym same) in
    get_or-set_other (with_place ticks at) at k tick None apart ∙ place_same ticks at (nat_lt at (length ticks)) refl k

-- ---- the commits

pub commits_length : (n : ℕ) (rows : List JobRow) → length (commits_in n rows) ≡ n
commits_length n [] = length-replicate {A = Ticks} n []
commits_length n (row ∷ rows) =
    length-set (commits_in n rows) row.job.tx.0 (with_tick (get_or (commits_in n rows) row.job.tx.0 []) row.job.serial (commit_tick row.end))
    ∙ commits_length n rows

-- the row is of one of so many transactions
abbrev pub Below : ℕ → JobRow → Type 0
Below n row = row.job.tx.0 < n

commit_step : (n : ℕ) (row : JobRow) (rows : List JobRow) (job : JobId) (b : Bool) → (row.job.tx.0 == job.tx.0) ≡ b
    → row.job.tx.0 < n → commit_at (commits_in n rows) job ≡ commit_of rows job
    → commit_at (with_commit (commits_in n rows) row) job
    ≡ cond (b && (row.job.serial == job.serial)) (commit_tick row.end) (commit_of rows job)
commit_step n row rows job true e lt h =
    let cs : List Ticks = commits_in n rows in
    let at : ℕ = row.job.tx.0 in
    let ticks : Ticks = get_or cs at [] in
    let new : Ticks = with_tick ticks row.job.serial (commit_tick row.end) in
    let same : at ≡ job.tx.0 = eqb-true at job.tx.0 e in
    let here : get_or (with_commit cs row) job.tx.0 [] ≡ new =
    ap (λ (i : ℕ). get_or (with_commit cs row) i []) (sym same) ∙ get_or-set_same cs at new [] (omega (arith, lt, commits_length n rows)) in
    let was : tick_at ticks job.serial ≡ commit_of rows job = ap (λ (i : ℕ). tick_at (get_or cs i []) job.serial) same ∙ h in
    ap (λ (l : Ticks). tick_at l job.serial) here
    ∙ tick_by ticks row.job.serial (commit_tick row.end) job.serial (row.job.serial == job.serial) refl
    ∙ ap (λ (o : Option ℕ). cond (row.job.serial == job.serial) (commit_tick row.end) o) was
commit_step n row rows job false e lt h =
    let cs : List Ticks = commits_in n rows in
    let at : ℕ = row.job.tx.0 in
    let new : Ticks = with_tick (get_or cs at []) row.job.serial (commit_tick row.end) in
    let apart : job.tx.0 ≢ at = λ same. eqb-false at job.tx.0 e (sym same) in
    ap (λ (l : Ticks). tick_at l job.serial) (get_or-set_other cs at job.tx.0 new [] apart) ∙ h

pub are_commits : (n : ℕ) (rows : List JobRow) (job : JobId) → All (Below n) rows
    → commit_at (commits_in n rows) job ≡ commit_of rows job
are_commits n [] job all = ap (λ (l : Ticks). tick_at l job.serial) (filled {A = Ticks} n job.tx.0 [])
are_commits n (row ∷ rows) job all =
    commit_step n row rows job (row.job.tx.0 == job.tx.0) refl (All-head (Below n) row rows all)
    (are_commits n rows job (All-tail (Below n) row rows all))

-- ---- the greatest ages

pub ages_length : (n : ℕ) (commits : List Ticks) (es : List Entry) → length (worst_ages n commits es) ≡ n
ages_length n commits [] = length-replicate {A = Option ℕ} n None
ages_length n commits (e ∷ es) = kept (worst_ages n commits es) e ∙ ages_length n commits es where
  end_kept : (worsts : Ticks) (r : OutsideRead) (o : Option ℕ) → length (with_end_of worsts r o) ≡ length worsts
  end_kept worsts r None = refl
  end_kept worsts r (Some tick) = length-set worsts r.item.0 (Some (at_least (tick - r.stamp) (tick_at worsts r.item.0)))

  read_kept : (worsts : Ticks) (job : JobId) (o : Option OutsideRead) → length (with_read commits worsts job o) ≡ length worsts
  read_kept worsts job None = refl
  read_kept worsts job (Some r) = end_kept worsts r (commit_at commits job)

  kept : (worsts : Ticks) (x : Entry) → length (with_entry commits worsts x) ≡ length worsts
  kept worsts (Step job op outcome over tick) = read_kept worsts job (outside_read op outcome)
  kept worsts e = refl

-- one age more
age_more : (worsts : Ticks) (at age item : ℕ) (xs : List ℕ) (b : Bool) → (at == item) ≡ b → item < length worsts
    → tick_at worsts item ≡ worst xs
    → tick_at (with_age worsts at age) item ≡ worst (cons_option (cond b (Some age) None) xs)
age_more worsts at age item xs true e lt h =
    let same : at ≡ item = eqb-true at item e in
    let here : tick_at (with_age worsts at age) at ≡ Some (at_least age (tick_at worsts at)) =
    get_or-set_same worsts at (Some (at_least age (tick_at worsts at))) None (omega (arith, lt, same)) in
    ap (λ (i : ℕ). tick_at (with_age worsts at age) i) (sym same) ∙ here
    ∙ ap (λ (i : ℕ). Some (at_least age (tick_at worsts i))) same ∙ ap (λ (o : Option ℕ). Some (at_least age o)) h
age_more worsts at age item xs false e lt h =
    let apart : item ≢ at = λ same. eqb-false at item e (sym same) in
    get_or-set_other worsts at item (Some (at_least age (tick_at worsts at))) None apart ∙ h

no_age : (b : Bool) (xs : List ℕ) → worst xs ≡ worst (cons_option (cond {A = Option ℕ} b None None) xs)
no_age true xs = refl
no_age false xs = refl

end_more : (worsts : Ticks) (r : OutsideRead) (item : ℕ) (xs : List ℕ) (o : Option ℕ) → item < length worsts
    → tick_at worsts item ≡ worst xs
    → tick_at (with_end_of worsts r o) item
    ≡ worst (cons_option (cond (r.item.0 == item) (option_map (λ tick. tick - r.stamp) o) None) xs)
end_more worsts r item xs None lt h = h ∙ no_age (r.item.0 == item) xs
end_more worsts r item xs (Some tick) lt h =
    age_more worsts r.item.0 (tick - r.stamp) item xs (r.item.0 == item) refl lt h

read_more : (commits : List Ticks) (rows : List JobRow) → ((job : JobId) → commit_at commits job ≡ commit_of rows job)
    → (worsts : Ticks) (job : JobId) (item : ℕ) (xs : List ℕ) (o : Option OutsideRead) → item < length worsts
    → tick_at worsts item ≡ worst xs
    → tick_at (with_read commits worsts job o) item ≡ worst (cons_option (read_age rows item job o) xs)
read_more commits rows are worsts job item xs None lt h = h
read_more commits rows are worsts job item xs (Some r) lt h =
    ap (λ (o : Option ℕ). tick_at (with_end_of worsts r o) item) (are job)
    ∙ end_more worsts r item xs (commit_of rows job) lt h

entry_more : (commits : List Ticks) (rows : List JobRow) → ((job : JobId) → commit_at commits job ≡ commit_of rows job)
    → (worsts : Ticks) (item : ℕ) (xs : List ℕ) (e : Entry) → item < length worsts → tick_at worsts item ≡ worst xs
    → tick_at (with_entry commits worsts e) item ≡ worst (cons_option (age_in rows item e) xs)
entry_more commits rows are worsts item xs (Step job op outcome over tick) lt h =
    read_more commits rows are worsts job item xs (outside_read op outcome) lt h
entry_more commits rows are worsts item xs e lt h = h

pub are_ages : (n : ℕ) (commits : List Ticks) (rows : List JobRow) → ((job : JobId) → commit_at commits job ≡ commit_of rows job)
    → (es : List Entry) (item : ℕ) → item < n → tick_at (worst_ages n commits es) item ≡ worst (ages rows item es)
are_ages n commits rows are [] item lt = filled n item None
are_ages n commits rows are (e ∷ es) item lt =
    entry_more commits rows are (worst_ages n commits es) item (ages rows item es) e
    (omega (arith, lt, ages_length n commits es)) (are_ages n commits rows are es item lt)
