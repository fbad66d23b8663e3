-- A history that is under way goes on, by one entry after another, until it is a run.
use Rattle.std.proofs.Common.{◌≡◌, ℕ, zero, suc, ◌+◌, ◌≤◌, List, [], ◌∷◌, ◌++◌, length, Option, None, Some, refl, ap, sym, ◌∙◌, arith, append_assoc, length-append}
use Rattle.std.proofs.lemmas.List.{append-nil}
use Rattle.rt_base.specs.declared.release.Release.{Release}
use Rattle.txn_set.specs.Set.{IsCompiled}
use Rattle.step_journal.specs.declared.entry.Entry.{Entry}
use Rattle.step_journal.specs.State.{State, Row}
use Rattle.step_journal.specs.Running.{running}
use Rattle.step_journal.specs.Step.{Event}
use Rattle.step_journal.specs.History.{IsLegal, state_of}
use Rattle.law_histories.specs.Counting.{room_of_jobs}
use Rattle.law_histories.proofs.Never.{never_stuck}
use Rattle.law_histories.specs.Sim.{Workload, IsSim, plans_from, next_event, event_for, event_in}
use Rattle.sim_run.specs.Workloads.{ticks_of, IsObedient}
use Rattle.sim_run.specs.Calls.{IsUnderWay}
use Rattle.sim_run.specs.Runs.{HasRun, RunsExist, HistoriesGoOn}
use Rattle.sim_run.proofs.Histories.{legal_next}
use Rattle.sim_run.proofs.Planning.{releases_legal}
use Rattle.sim_run.proofs.Runs.{begins, goes_on, way_fits, entry_for}

none_in : (planned : List Release) → event_in planned ≡ None → planned ≡ []
none_in [] h = refl
none_in (r ∷ rs) h = absurd cc

none_for : (w : Workload) (history : List Entry) (s : State) (o : Option Row) → event_for w history s o ≡ None
    → (o ≡ None) × (s.planned ≡ [])
none_for w history s (Some row) h = absurd cc
none_for w history s None h = (refl, none_in s.planned h)

-- a history after which no event is fixed
pub over : (w : Workload) (history : List Entry) → IsCompiled w.set → IsLegal w.set history → IsUnderWay w history
    → next_event w history ≡ None → IsSim w history
over w history ok legal u none =
    let o = none_for w history (state_of w.set history) (running w.set (state_of w.set history).rows) none in
    record {
      legal = legal;
      script_run = u.script_run;
      rest = u.rest;
      begins = u.begins;
      fixed = u.fixed;
      none_pending = (never_stuck w.set history ok legal).runs o.0;
      none_planned = o.1;
    }

step_on : (w : Workload) (history : List Entry) (o : Option Event) → next_event w history ≡ o → IsCompiled w.set
    → IsObedient w → IsLegal w.set history → IsUnderWay w history
    → ((after : List Entry) → IsLegal w.set after → IsUnderWay w after → length after ≡ length history + 1 → HasRun w after)
    → HasRun w history
step_on w history None e ok obeys legal u again = record { history = history; sim = over w history ok legal u e; rest = []; begins = sym (append-nil history) }
step_on w history (Some event) e ok obeys legal u again =
    let h = entry_for w history (running w.set (state_of w.set history).rows) event ok legal (obeys history legal u.script_run) refl e in
    let after : List Entry = history ++ h.entry ∷ [] in
    let r = again after (legal_next w.set history h.entry legal h.legal) (goes_on w history after h.entry u (e ∙ ap Some (sym h.is)) refl) (length-append history (h.entry ∷ [])) in
    record { history = r.history; sim = r.sim; rest = h.entry ∷ r.rest; begins = r.begins ∙ append_assoc history (h.entry ∷ []) r.rest }

finish : (n : ℕ) (w : Workload) (history : List Entry) → IsCompiled w.set → IsObedient w → IsLegal w.set history
    → IsUnderWay w history → room_of_jobs w.set.txns (λ k. length (ticks_of w.releases k)) ≤ length history + n
    → HasRun w history
finish zero w history ok obeys legal u le = step_on w history (next_event w history) refl ok obeys legal u (λ after l v long. absurd (omega (arith, way_fits w after ok l v, le, long)))
finish (suc n) w history ok obeys legal u le = step_on w history (next_event w history) refl ok obeys legal u (λ after l v long. finish n w after ok obeys l v (omega (arith, le, long)))

pub histories_go_on : HistoriesGoOn
histories_go_on = λ w history ok obeys legal u. finish (room_of_jobs w.set.txns (λ k. length (ticks_of w.releases k))) w history ok obeys legal u (omega arith)

pub runs_are : RunsExist
runs_are = λ w ok accepted obeys.
    let legal = releases_legal w.set w.releases accepted in
    let r = histories_go_on w (plans_from 0 w.releases) ok obeys legal (begins w) in
    (r.history, r.sim)
