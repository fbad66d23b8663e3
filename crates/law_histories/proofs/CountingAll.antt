-- The law of counting from the invariants: the entries, the plans and the ended jobs, whose serials rise, and the
-- time.
use Rattle.std.proofs.Common.{◌≡◌, ℕ, ◌+◌, ◌-◌, ◌<◌, ◌≤◌, ◌==◌, Bool, true, false, cond, List, [], ◌∷◌, length, refl, ap, sym, ◌∙◌, inl, inr, arith}
use Rattle.std.proofs.lemmas.Bool.{eqb-true}
use Rattle.std.specs.List.{filter}
use Rattle.step_journal.specs.declared.entry.Entry.{Entry}
use Rattle.txn_set.specs.Set.{Set, IsCompiled}
use Rattle.step_journal.specs.History.{IsLegal, state_of}
use Rattle.step_journal.specs.Step.{plans_of}
use Rattle.step_journal.specs.declared.entry.EndedJob.{EndedJob}
use Rattle.law_histories.proofs.Members.{In}
use Rattle.law_histories.proofs.Never.{refused_all}
use Rattle.law_histories.proofs.Serials.{AreRising}
use Rattle.law_histories.proofs.SerialAll.{legal_serial}
use Rattle.law_histories.specs.Counting.{IsCounted, IsTimed, refusal_count}
use Rattle.law_histories.proofs.Counts.{legal_counted, within_jobs, below_all, greatest_bound}
use Rattle.law_histories.proofs.JobCounts.{legal_jobs, at_most_once}
use Rattle.law_histories.proofs.Idles.{idle_releases}
use Rattle.law_histories.proofs.PlanOnce.{planned_once}

-- of some jobs whose serials rise and lie from b below k there are at most k - b
pub ended_at : (n b k : ℕ) (e : EndedJob) (es : List EndedJob) (t : Bool) → (e.job.tx.0 == n) ≡ t → (e.job.tx.0 ≡ n → (b ≤ e.job.serial) × (e.job.serial < k))
    → (e.job.tx.0 ≡ n → length (filter (λ d. d.job.tx.0 == n) es) ≤ k - (e.job.serial + 1)) → length (filter (λ d. d.job.tx.0 == n) es) ≤ k - b
    → length (cond t (e ∷ filter (λ d. d.job.tx.0 == n) es) (filter (λ d. d.job.tx.0 == n) es)) ≤ k - b
ended_at n b k e es true is here above rest = let own : e.job.tx.0 ≡ n = eqb-true _ _ is in omega (arith, here own, above own)
ended_at n b k e es false is here above rest = rest

pub ended_few : (n b k : ℕ) (es : List EndedJob) → AreRising es → ((d : EndedJob) → In d es → d.job.tx.0 ≡ n → (b ≤ d.job.serial) × (d.job.serial < k)) → length (filter (λ d. d.job.tx.0 == n) es) ≤ k - b
ended_few n b k [] rising h = omega arith
ended_few n b k (e ∷ es) rising h =
    ended_at n b k e es (e.job.tx.0 == n) refl (h e (inl refl))
    (λ own. ended_few n (e.job.serial + 1) k es rising.1 (λ d i same. let r = rising.0 d i (own ∙ sym same) in (omega (arith, r), (h d (inr i) same).1)))
    (ended_few n b k es rising.1 (λ d i. h d (inr i)))

pub entries_few : (set : Set) (entries : List Entry) → IsCompiled set → IsLegal set entries → IsCounted set entries
entries_few set entries ok legal =
    let c = legal_counted set entries ok legal in
    let j = legal_jobs set entries ok legal in
    let serial = legal_serial set entries ok legal in
    record {
      plans = λ job. planned_once set entries job ok legal;
      steps = j.steps;
      refusals = λ job. at_most_once (refused_all (λ _. false) entries job) (refusal_count entries job) (j.refusals job);
      idles = idle_releases set entries ok legal;
      room = omega (arith, c.rooms.room);
      jobs = λ jobs h. omega (arith, c.rooms.room, within_jobs set entries (state_of set entries).plans jobs c.plannings h);
      all = below_all set (refused_all (λ _. false) entries) entries (state_of set entries) ok c;
      planned = λ n. omega (arith, c.plannings.count n, c.plannings.few n);
      ended = λ n.
          let few = ended_few n 0 (plans_of (state_of set entries) n).number (state_of set entries).ended serial.rising
          (λ d i own. (omega arith, omega (arith, serial.done d i, ap (λ (k : ℕ). (plans_of (state_of set entries) k).number) own))) in
          omega (arith, few, c.plannings.count n);
    }

pub time_bounded : (set : Set) (entries : List Entry) → IsCompiled set → IsLegal set entries → IsTimed set entries
time_bounded set entries ok legal =
    let c = legal_counted set entries ok legal in
    record { plans = c.plannings.count; last = c.plannings.last; planned = c.plannings.limit; now = c.now; all = omega (arith, c.now, c.plannings.limit, greatest_bound set.txns ok.times) }
