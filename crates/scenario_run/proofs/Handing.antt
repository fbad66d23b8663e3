-- What the out of a run has got when the run ends, and when the out stopped.
use Rattle.std.proofs.Common.{◌≡◌, ◌≢◌, ℕ, ◌+◌, ◌≤◌, List, [], ◌++◌, take, drop, map, length, Result, Ok, Err, IfOk, OnErr, refl, sym, ap, subst, ◌∙◌, arith, append-nil, append_assoc}
use Rattle.std.specs.List.{sum}
use Rattle.std.specs.Io.KnownBytes.{Appends}
use Rattle.std.proofs.lemmas.List.{take-append-drop}
use Rattle.std.proofs.Math.Seq.{take-append_seam}
use Rattle.io_edge.specs.Causes.{HasCause, Rose}
use Rattle.txn_set.specs.Set.{Set}
use Rattle.step_journal.specs.declared.entry.Entry.{Entry}
use Rattle.step_journal.specs.History.{IsLegal}
use Rattle.law_histories.specs.Sim.{Workload, IsSim}
use Rattle.sim_run.specs.Runs.{IsWhole, IsStopped}
use Rattle.job_rows.specs.Upkeep.{Follows, planned_jobs}
use Rattle.report_text.specs.Texts.{entries_text, NamesSet}
use Rattle.job_rows.proofs.Fronts.{legal_front, planned_front}
use Rattle.scenario_run.specs.declared.standing.ReportStanding.{ReportStanding}
use Rattle.scenario_run.specs.declared.standing.ReportStanding.TheVariants.{Going, Cut, Full}
use Rattle.scenario_run.specs.ReportOuts.{Begun, OutSeen, IsGoing, HasTaken, IsLost, full_stops}
use Rattle.scenario_run.specs.ReportLaws.{IsFrontOf}
use Rattle.scenario_run.proofs.Texts.{text_append}
use Rattle.scenario_run.proofs.Taking.{going}
use Rattle.scenario_run.proofs.Stopping.{has_front}
use Rattle.scenario_run.specs.Lines.{HasLines, HasFirstLines}
use Rattle.scenario_run.proofs.Plans.{planned_sim}

-- what an out got, as its trait says it
abbrev pub Got : Begun → ℕ → OutSeen → List Entry → Type 0
Got begun sink out history = (begun.sink ≡ sink) × HasTaken begun out history

-- a front of a front
front_front : (xs ys : List ℕ) (n : ℕ) → take n xs ≡ take (length (take n xs)) (xs ++ ys)
front_front xs ys n =
    sym (take-append_seam (take n xs) (drop n xs ++ ys))
    ∙ ap (take (length (take n xs))) (sym (append_assoc (take n xs) (drop n xs) ys) ∙ ap (λ (t : List ℕ). t ++ ys) (take-append-drop n xs))

module _ (begun : Begun) (w : Workload) (out : OutSeen) (set : begun.set ≡ w.set) where
  -- a run of which the out got the first entries, and lost the next ones or none
  module _ (history : List Entry) (passed missed : ℕ) (sim : IsSim w history) (places : sum (map length w.releases) ≤ begun.room) where
    abbrev Both : List Entry
    Both = take passed history ++ take missed (drop passed history)

    abbrev Rest : List Entry
    Rest = drop missed (drop passed history)

    parts : Both ++ Rest ≡ history
    parts =
        append_assoc (take passed history) (take missed (drop passed history)) Rest
        ∙ (ap (λ (l : List Entry). take passed history ++ l) (take-append-drop missed (drop passed history)) ∙ take-append-drop passed history)

    few : planned_jobs Both ≤ begun.room
    few =
        let less : planned_jobs Both ≤ planned_jobs history = subst (λ (l : List Entry). planned_jobs Both ≤ planned_jobs l) parts (planned_front Both Rest) in
        omega (arith, less, planned_sim w history sim, places)

    legal : IsLegal begun.set Both
    legal = subst (λ (s : Set). IsLegal s Both) (sym set) (legal_front w.set Both Rest (subst (IsLegal w.set) (sym parts) sim.legal))

    first_of : IsFrontOf begun out Both → HasFirstLines w begun.names begun.front out.taken
    first_of front =
        let text = entries_text begun.names Both in
        let all : text ++ entries_text begun.names Rest ≡ entries_text begun.names history = sym (text_append begun.names Both Rest) ∙ ap (entries_text begun.names) parts in
        record {
          history = history;
          sim = sim;
          count = length (take front.count text);
          has = subst (λ (t : List ℕ). Appends begun.front out.taken t)
              (front_front text (entries_text begun.names Rest) front.count ∙ ap (take (length (take front.count text))) all) front.has;
        }

    pub first_lines : HasTaken begun out (take passed history) → IsLost begun out (take missed (drop passed history))
        → (out.standing ≢ Full) × HasFirstLines w begun.names begun.front out.taken
    first_lines got lost =
        let is = has_front begun out (take passed history) (take missed (drop passed history)) legal few got lost in
        (is.0, first_of is.1)

  -- a run that the out got whole
  pub has_lines : (stands got : List Entry → Type 0) (sink : ℕ) → got [] → (h : IsWhole w stands got (Got begun sink out)) → IsLost begun out []
      → HasLines w stands begun.names out.rows out.lines begun.front out.taken
  has_lines stands got sink at h lost =
      let legal : IsLegal begun.set (h.history ++ []) =
      subst (IsLegal begun.set) (sym (append-nil h.history)) (subst (λ (s : Set). IsLegal s h.history) (sym set) h.sim.legal) in
      let is : IsGoing begun out h.history = going begun out [] h.history lost (h.grown [] at).1 legal in
      record {
        history = h.history;
        sim = h.sim;
        stood = h.stood;
        one_each = subst (NamesSet begun.names) set is.one_each;
        follows = subst (λ (s : Set). Follows s out.rows h.history) set is.follows;
        sent = is.sent;
        has = is.has;
      }

  -- and one at which it stopped
  pub stopped_lines : (got : List Entry → Type 0) (sink : ℕ) → sum (map length w.releases) ≤ begun.room → got []
      → (h : IsStopped w got (Got begun sink out) (IsLost begun out))
      → (out.standing ≢ Full) × HasFirstLines w begun.names begun.front out.taken
  stopped_lines got sink places at h = first_lines h.history h.passed h.missed h.sim places (h.grown [] at).1 h.is_lost

-- stops that are none for want of places are faults of the sink

none_full : (standing : ReportStanding) → standing ≢ Full → full_stops standing ≡ 0
none_full Going h = refl
none_full Cut h = refl
none_full Full h = absurd (h refl)

pub not_full : (standing : ReportStanding) → standing ≡ Going → standing ≢ Full
not_full standing e = subst (λ (s : ReportStanding). s ≢ Full) (sym e) (λ f. absurd cc)

pub sink_cause : {E : Type 0} (old new : ReportStanding) (before now : ℕ) (r : Result (Unit {0}) E) → old ≡ Going → IfOk r (λ _. new ≢ Full) → OnErr r (new ≢ Full)
    → HasCause (before + full_stops old) (now + full_stops new) r → HasCause before now r
sink_cause old new before now (Ok x) e ok err cause =
    record { later = omega (arith, cause.later, none_full new ok, none_full old (not_full old e)); failed = tt }
sink_cause old new before now (Err x) e ok err cause =
    let was = none_full old (not_full old e) in
    let is = none_full new err in
    let rose : Rose (before + full_stops old) (now + full_stops new) = cause.failed in
    record { later = omega (arith, cause.later, is, was); failed = omega (arith, rose, is, was) }

-- by the answer

pub if_ok : {A E : Type 0} {P Q : Type 0} (r : Result A E) → (P → Q) → IfOk r (λ _. P) → IfOk r (λ _. Q)
if_ok (Ok x) f h = f h
if_ok (Err e) f h = tt

pub on_err : {A E : Type 0} {P Q : Type 0} (r : Result A E) → (P → Q) → OnErr r P → OnErr r Q
on_err (Ok x) f h = tt
on_err (Err e) f h = f h
