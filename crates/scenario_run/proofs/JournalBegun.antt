-- What is known of the run of a scenario, and what is answered after it.
use Rattle.std.proofs.Common.{◌≡◌, inl, inr, ℕ, ◌+◌, ◌<◌, true, false, List, [], ◌∷◌, length, Option, None, Some, refl, sym, ap, subst, ◌∙◌, arith}
use Rattle.std.specs.Prelude.{IfSome}
use Rattle.std.specs.List.{list_any, position_from}
use Rattle.std.proofs.lemmas.Iterator.Adapters.{position_from-zero}
use Rattle.rt_base.specs.declared.name.Names.{Names}
use Rattle.txn_set.specs.Set.{Set, IsCompiled}
use Rattle.step_journal.specs.declared.entry.Entry.{Entry}
use Rattle.step_script.specs.declared.releases.Releases.{Releases}
use Rattle.step_script.specs.declared.releases.Releases.TheVariants.{At, Jobs, Eager}
use Rattle.step_script.specs.Releases.{is_eager}
use Rattle.step_script.specs.Shown.{Shown, set_of}
use Rattle.law_histories.specs.Sim.{Workload, IsSim}
use Rattle.sim_run.specs.Workloads.{AreAccepted, IsObedient}
use Rattle.sim_run.proofs.Exist.{runs_are}
use Rattle.law_runs.specs.Runs.{workload_of}
use Rattle.law_runs.specs.Plannable.{eager_jobs_of}
use Rattle.law_runs.proofs.Scenario.{none_eager}
use Rattle.law_runs.proofs.Fits.{run_fits, scenario_room}
use Rattle.law_runs.proofs.Fixed.{sim_is_run}
use Rattle.run_report.specs.Report.{report_of}
use Rattle.io_edge.specs.declared.status.Status.{Status}
use Rattle.io_edge.specs.declared.status.Status.TheVariants as statuses
use Rattle.command_replies.proofs.Compiles.{is_compiled, names_set}
use Rattle.command_replies.proofs.Replying.{admitted_reply}
use Rattle.scenario_run.specs.Runs.{IsRunText, has_eager}
use Rattle.scenario_run.proofs.Guarantees.{run_text}
use Rattle.durable_disk.specs.Records.{slot_at}
use Rattle.durable_journal.specs.Texts.{IsHeader}
use Rattle.durable_journal.specs.Opened.{IsBad}
use Rattle.durable_journal.specs.declared.log.LogError.{LogError}
use Rattle.durable_journal.specs.declared.log.LogError.TheVariants.{DiskFault, BadRecord, Full, Stopped, OutOfMemory}
use Rattle.scenario_run.specs.Compared.{Begins}
use Rattle.scenario_run.specs.Found.{IsFound, IsBadFor, RefusedAt}
use Rattle.scenario_run.specs.Ran.{HasOther, HaltedBy}
use Rattle.scenario_run.specs.JournalReplies.{first_eager, Unhurried, JournalReply, TookUp, HasBad, Journaled, LeavesDisk}
use Rattle.scenario_run.specs.Plans.{AdmittedWithoutEager, HasBegun}
use Rattle.scenario_run.specs.declared.equip.Begun.{Begun}
use Rattle.scenario_run.specs.Refused.{IsNamed, NamesRecord, IsHaltReply}
use Rattle.scenario_run.specs.declared.over.Halt.{Halt}
use Rattle.scenario_run.specs.declared.over.Halt.TheVariants.{Other, Fault}

-- no transaction is eager where none is the first
without_eager_from : (i : ℕ) (rs : List Releases) → position_from is_eager i rs ≡ None → list_any is_eager rs ≡ false
without_eager_from i [] h = refl
without_eager_from i (At ticks ∷ rs) h = without_eager_from (i + 1) rs h
without_eager_from i (Jobs n ∷ rs) h = without_eager_from (i + 1) rs h
without_eager_from i (Eager n ∷ rs) h = absurd cc

pub without_eager : (s : Shown) → first_eager s ≡ None → has_eager s ≡ false
without_eager s h = without_eager_from 0 s.releases (sym (position_from-zero is_eager s.releases) ∙ h)

-- a header is more than nothing
some_bytes : (file : List ℕ) → IsHeader (slot_at 0 file) → 0 < length file
some_bytes [] h = absurd h
some_bytes (b ∷ bs) h = omega arith

module _ (s : Shown) (w : Workload) (b : Begun) (is : HasBegun s w b) where
  compiled : IsCompiled (set_of s)
  compiled = is_compiled s is.admitted_without_eager.is is.admitted_without_eager.compiles

  abbrev SetOf : Workload → Set
  SetOf x = x.set

  pub set_of_w : w.set ≡ set_of s
  set_of_w = ap SetOf is.runs

  pub set_is_w : b.set ≡ w.set
  set_is_w = is.set_is ∙ sym set_of_w

  -- what holds of its names, its set and its room holds of the scenario's
  pub moved : (P : Names → Set → ℕ → Type 0) → P b.names b.set b.room → P s.names (set_of s) s.room
  moved P h =
      subst (λ (n : Names). P n (set_of s) s.room) is.names_are (subst (λ (q : Set). P b.names q s.room) is.set_is (subst (λ (r : ℕ). P b.names b.set r) is.room_is h))

  pub sim_of : (history : List Entry) → IsSim w history → IsSim (workload_of s) history
  sim_of history h = subst (λ (x : Workload). IsSim x history) is.runs h

  none_eager_jobs : (tx : ℕ) → eager_jobs_of s tx ≡ 0
  none_eager_jobs = none_eager s (without_eager s is.admitted_without_eager.none_eager)

  pub short : (history : List Entry) → IsSim w history → length history < b.room
  short history h =
      let run = sim_is_run (workload_of s) (eager_jobs_of s) history none_eager_jobs (sim_of history h) in
      omega (arith, run_fits (workload_of s) (eager_jobs_of s) history compiled run.so_far, scenario_room s is.admitted_without_eager.is, is.room_is)

  -- the text of a run
  pub text_of : (history : List Entry) (text : List ℕ) → IsSim w history → text ≡ report_of b.names b.set true history → IsRunText false s text
  text_of history text h e =
      run_text false s text is.admitted_without_eager.is compiled is.admitted_without_eager.admits (record {
        history = history;
        run = sim_is_run (workload_of s) (eager_jobs_of s) history none_eager_jobs (sim_of history h);
        written = e ∙ (ap (λ (n : Names). report_of n b.set true history) is.names_are ∙ ap (λ (q : Set). report_of s.names q true history) is.set_is);
      })

  pub took_up : (told : Option (List ℕ)) (there history : List Entry) → IsSim w history → Begins there history → IfSome told (λ file. IsFound b.names b.set b.room file there)
      → IfSome told (TookUp s)
  took_up None there history h begins found = tt
  took_up (Some file) there history h begins found = record {
    history = history;
    sim = sim_of history h;
    took = (there, moved (λ n q r. IsFound n q r file there) found, begins);
  }

  has_bad : (history : List Entry) (file : List ℕ) (number : ℕ) → IsSim w history → IsBadFor b.names b.set b.room history file number → HasBad s file number
  has_bad history file number sim h = record {
    history = history;
    sim = sim_of history sim;
    fewer = omega (arith, short history sim, is.room_is);
    bad = moved (λ n q r. IsBadFor n q r history file number) h;
  }

  -- a record of those that the log was opened with is not the run's
  pub other_bad : (told : Option (List ℕ)) (there : List Entry) (number : ℕ) → HasOther w there number → IfSome told (λ file. IsFound b.names b.set b.room file there)
      → IfSome told (λ file. HasBad s file number)
  other_bad None there number h found = tt
  other_bad (Some file) there number h (inl none) = absurd (omega (arith, h.other.first.within, ap (λ (l : List Entry). length l) none.1))
  other_bad (Some file) there number h (inr opened) = has_bad h.history file number h.sim (some_bytes file opened.head, inr (there, inl opened, h.other))

  -- what is named where the journal was not opened
  pub named_bad : (told : Option (List ℕ)) (error : LogError) (number : ℕ) (any : List Entry) → IsSim w any → NamesRecord w error number
      → IfSome told (λ file. RefusedAt b.names b.set b.room file error) → IfSome told (λ file. HasBad s file number)
  named_bad None error number any sim h refused = tt
  named_bad (Some file) DiskFault number any sim h refused = absurd h
  named_bad (Some file) Stopped number any sim h refused = absurd h
  named_bad (Some file) OutOfMemory number any sim h refused = absurd h
  named_bad (Some file) (BadRecord n) number any sim h refused =
      has_bad any file number sim (refused.1, inl (subst (λ (k : ℕ). IsBad b.names b.set b.room file k) (sym h) refused.0))
  named_bad (Some file) (Full had first) number any sim h refused = has_bad h.history file number h.sim (refused.1, inr (first, inr refused.0.1, h.other))

  any_run : AreAccepted w.set w.releases → IsObedient w → (history : List Entry) × IsSim w history
  any_run accepted obedient = runs_are w (subst IsCompiled (sym set_of_w) compiled) accepted obedient

  -- the reply after a whole run
  pub journaled : (told : Option (List ℕ)) (there history : List Entry) (status : Status) (text : List ℕ) → IsSim w history → Begins there history
      → IfSome told (λ file. IsFound b.names b.set b.room file there) → (status ≡ statuses.Ok) × (text ≡ report_of b.names b.set true history) → Journaled s told status text
  journaled told there history status text h begins found r =
      subst (λ (k : Status). Journaled s told k text) (sym r.0) (text_of history text h r.1, took_up told there history h begins found)

  -- and where the run was not kept: the reply names a record of those with which the log was opened
  pub journaled_halted : (told : Option (List ℕ)) (there : List Entry) (before now : ℕ) (halt : Halt) (status : Status) (text : List ℕ) → HaltedBy w there before now halt
      → IfSome told (λ file. IsFound b.names b.set b.room file there) → IsHaltReply halt status text → Journaled s told status text
  journaled_halted told there before now (Other number) status text other found r =
      subst (λ (k : Status). Journaled s told k text) (sym r.0) (number, r.1, other_bad told there number other found)
  journaled_halted told there before now Fault status text rose found r = absurd r

  -- and where the journal was not opened
  pub journaled_named : (told : Option (List ℕ)) (error : LogError) (status : Status) (text : List ℕ) → AreAccepted w.set w.releases → IsObedient w
      → IfSome told (λ file. RefusedAt b.names b.set b.room file error) → IsNamed w error status text → Journaled s told status text
  journaled_named told error status text accepted obedient refused n =
      let run = any_run accepted obedient in
      subst (λ (k : Status). Journaled s told k text) (sym n.1) (n.0, n.2, named_bad told error n.0 run.0 run.1 n.3 refused)

-- the reply of a scenario that may be run
pub journal_reply : (s : Shown) (told : Option (List ℕ)) (status : Status) (text : List ℕ) → AdmittedWithoutEager s → Journaled s told status text → JournalReply s told status text
journal_reply s told status text admitted_without_eager h =
    admitted_reply (Unhurried (Journaled s told) s.names (first_eager s)) s status text admitted_without_eager.compiles admitted_without_eager.admits
    (subst (λ (o : Option ℕ). Unhurried (Journaled s told) s.names o status text) (sym admitted_without_eager.none_eager) h)

-- a run that was begun is answered Ok or names a bad record
pub journaled_begun : (s : Shown) (told : Option (List ℕ)) (status : Status) (text : List ℕ) → Journaled s told status text → LeavesDisk status → ⊥
journaled_begun s told statuses.Ok text h leaves = leaves
journaled_begun s told statuses.BadJournal text h leaves = leaves
journaled_begun s told status text h leaves = h

-- a run that was not kept is not answered Ok
pub halted_not_ok : (halt : Halt) (status : Status) (text : List ℕ) → IsHaltReply halt status text → status ≡ statuses.Ok → ⊥
halted_not_ok (Other number) status text h ok = cc
halted_not_ok Fault status text h ok = h
