-- The law of deadlines from the window: each job ends within its transaction's response, and none is late.
use Rattle.std.proofs.Common.{◌≡◌, ◌≢◌, ℕ, ◌<◌, ◌≤◌, List, length, None, Some, get_or, refl, ap, sym, subst, inl, inr, arith}
use Rattle.std.proofs.lemmas.List.{get_or_past}
use Rattle.std.proofs.lemmas.Bool.{cases_lt}
use Rattle.std.specs.List.{All}
use Rattle.rt_base.specs.declared.operation.End.TheVariants.{Late}
use Rattle.step_journal.specs.declared.entry.Entry.{Entry}
use Rattle.txn_set.specs.Set.{Set, IsCompiled}
use Rattle.step_journal.specs.State.{State}
use Rattle.rt_base.specs.declared.release.Plans.{Plans}
use Rattle.step_journal.specs.declared.entry.EndedJob.{EndedJob}
use Rattle.step_journal.specs.Step.{plans_of}
use Rattle.step_journal.specs.History.{IsLegal, state_of}
use Rattle.law_histories.proofs.Invariant.{IsPending}
use Rattle.law_histories.proofs.Never.{legal_sound}
use Rattle.law_histories.proofs.Conflict.{in_get_or}
use Rattle.law_histories.proofs.SerialAll.{legal_serial}
use Rattle.law_times.specs.Response.{HoldsDemand, HasResponses, response}
use Rattle.law_times.specs.Deadlines.{IsInTime}
use Rattle.law_times.proofs.Demand.{level, response_found}
use Rattle.law_times.proofs.InTime.{legal_timely}

pub in_time : (set : Set) (entries : List Entry) (tx r : ℕ) → IsCompiled set → IsLegal set entries → HoldsDemand set tx r → IsInTime tx r (state_of set entries)
in_time set entries tx r ok legal holds =
    let h = legal_timely set tx r entries ok legal holds in
    let sound = legal_sound set entries ok legal in
    record {
      ended = λ k d lt own. h.over (get_or (state_of set entries).ended k d) (in_get_or (state_of set entries).ended k d lt) own;
      pending = λ row at.
          let n : row.job.tx.0 ≡ tx = sound.frame.named tx row at in
          let here : IsPending (state_of set entries).rows row = subst (λ (m : ℕ). get_or (state_of set entries).rows m None ≡ Some row) (sym n) at in
          let since : h.window.start ≤ row.release = h.window.since row here (omega (arith, ap (level set) n)) in
          omega (arith, since, h.window.within);
    }

-- an ended job is of a transaction of the set
planned_in_set : (set : Set) (s : State) (n : ℕ) → length s.plans ≡ length set.txns → 0 < (plans_of s n).number → n < length set.txns
planned_in_set set s n size pos = elim (cases_lt n (length set.txns)) [
  | inl lt ↦ lt
  | inr past ↦ absurd (let e = get_or_past s.plans n (record { number = 0; last = 0 }) (omega (arith, past, size)) in omega (arith, ap (λ (p : Plans). p.number) e))
]

pub none_late : (set : Set) (entries : List Entry) → IsCompiled set → IsLegal set entries → HasResponses set → All (λ e. e.end ≢ Late) (state_of set entries).ended
none_late set entries ok legal all k d lt =
    let e : EndedJob = get_or (state_of set entries).ended k d in
    let i = in_get_or (state_of set entries).ended k d lt in
    let serial = legal_serial set entries ok legal in
    let sound = legal_sound set entries ok legal in
    let n = serial.done (get_or (state_of set entries).ended k d) i in
    let own = planned_in_set set (state_of set entries) (get_or (state_of set entries).ended k d).job.tx.0 sound.calendar.plans_count (omega (arith, n)) in
    let r = all (get_or (state_of set entries).ended k d).job.tx.0 own in
    ((in_time set entries (get_or (state_of set entries).ended k d).job.tx.0 r.0 ok legal r.1.holds).ended k d lt refl).1

-- the same of the response that is found

pub in_response : (set : Set) (entries : List Entry) (tx r : ℕ) → IsCompiled set → IsLegal set entries → response set tx ≡ Some r → IsInTime tx r (state_of set entries)
in_response set entries tx r ok legal found = in_time set entries tx r ok legal (response_found set tx r found).holds
