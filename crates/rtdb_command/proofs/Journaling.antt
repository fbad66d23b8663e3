-- When the call for a journal ends Ok.
use Rattle.std.proofs.Common.{◌≡◌, ◌⊎◌, inl, inr, ℕ, zero, suc, ◌<◌, ◌≤◌, Bool, true, false, List, [], ◌∷◌, length, Option, None, Some, refl, sym, ap, subst, arith}
use Rattle.std.specs.Prelude.{slice_get}
use Rattle.rt_base.specs.declared.name.Names.{Names}
use Rattle.step_journal.specs.declared.entry.Entry.{Entry}
use Rattle.law_histories.specs.Sim.{OneSim}
use Rattle.step_script.specs.Shown.{Shown, set_of}
use Rattle.law_runs.specs.Runs.{workload_of}
use Rattle.io_edge.specs.declared.status.Status.{Status}
use Rattle.io_edge.specs.declared.status.Status.TheVariants as statuses
use Rattle.command_replies.specs.Replies.{Reply}
use Rattle.durable_journal.specs.Laws.{OpenedAgain}
use Rattle.durable_journal.specs.declared.log.LogError.TheVariants.{BadRecord, Full}
use Rattle.scenario_run.specs.Compared.{Begins, IsOtherRecord}
use Rattle.scenario_run.specs.JournalReplies.{JournalReply, Journaled, Unhurried, HasBad, first_eager}
use Rattle.scenario_run.proofs.Outs.{fits_in as fits}
use Rattle.rtdb_command.specs.Answers.{Answers}
use Rattle.rtdb_command.specs.Journals.{IsAnswerFor, JournalAnswers, HasFront, CanJournal, IsGoodFor}
use Rattle.rtdb_command.proofs.Telling.{admitted_ok, asked_of_all}

-- entries with which a history begins are not others
begins_get : (there history : List Entry) (place : ℕ) → Begins there history → place < length there → slice_get there place ≡ slice_get history place
begins_get [] history place h lt = absurd (omega (arith, lt))
begins_get (t ∷ there) [] place h lt = absurd cc
begins_get (t ∷ there) (x ∷ history) zero h lt = let head : x ≡ t = cc in ap Some (sym head)
begins_get (t ∷ there) (x ∷ history) (suc place) h lt = let tail : Begins there history = cc in begins_get there history place tail (omega (arith, lt))

not_other : (there history : List Entry) (number : ℕ) → Begins there history → IsOtherRecord there history number → ⊥
not_other there history number h o = o.first.other (begins_get there history o.place h o.first.within)

-- so no record of a disk that has the first entries of the run is named
front_not_bad : OneSim → OpenedAgain → (s : Shown) (file : List ℕ) (number : ℕ) → HasFront s file → HasBad s file number → ⊥
front_not_bad one again s file number f h =
    let same : f.history ≡ h.history = one (workload_of s) f.history h.history f.sim h.sim in
    let begins : Begins f.there h.history = subst (Begins f.there) same f.begins in
    let within : length f.there ≤ s.room = omega (arith, fits f.there h.history begins, h.fewer) in
    elim f.has [
      | inl none ↦ omega (arith, h.bad.0, ap (λ (l : List ℕ). length l) none)
      | inr opens ↦
          let law = again s.names (set_of s) s.room file f.there opens within in
          elim h.bad.1 [
            | inl bad ↦ law.1 (BadRecord number) bad
            | inr it ↦
                elim it.1 [
                  | inl opened ↦ not_other f.there h.history number begins (subst (λ (l : List Entry). IsOtherRecord l h.history number) (law.0 it.0 opened) it.2)
                  | inr over ↦ law.1 (Full s.room it.0) (refl, over)
                ]
          ]
    ]

unhurried_goes : (goes : Reply) (names : Names) (o : Option ℕ) (status : Status) (text : List ℕ) → o ≡ None → Unhurried goes names o status text → goes status text
unhurried_goes goes names o status text e h = subst (λ (p : Option ℕ). Unhurried goes names p status text) e h

journaled_ok : OneSim → OpenedAgain → (s : Shown) (file : List ℕ) (status : Status) (text : List ℕ) → HasFront s file → Journaled s (Some file) status text → status ≡ statuses.Ok
journaled_ok one again s file statuses.Ok text f h = refl
journaled_ok one again s file statuses.Refused text f h = absurd h
journaled_ok one again s file statuses.Usage text f h = absurd h
journaled_ok one again s file statuses.ReadFault text f h = absurd h
journaled_ok one again s file statuses.WriteFault text f h = absurd h
journaled_ok one again s file statuses.OutOfMemory text f h = absurd h
journaled_ok one again s file statuses.TooLong text f h = absurd h
journaled_ok one again s file statuses.NotLegal text f h = absurd h
journaled_ok one again s file statuses.DiskFault text f h = absurd h
journaled_ok one again s file statuses.BadJournal text f h = absurd (front_not_bad one again s file h.0 f h.2)

-- a good journal and a good input have the status Ok
pub good_ok : OneSim → OpenedAgain → (asked : Bool) (told old new : Option (List ℕ)) (status : Status) (text : List ℕ) → IsGoodFor asked told old → IsAnswerFor asked told old new status text → status ≡ statuses.Ok
good_ok one again false told old new status text good j = absurd good
good_ok one again true None old new status text good j = absurd good
good_ok one again true (Some file) None new status text good j = absurd good
good_ok one again true (Some file) (Some input) new status text good j =
    let can : CanJournal file input = good.1 in
    let s : Shown = can.is_read.is_read.scenario in
    journaled_ok one again s file status text can.front
    (unhurried_goes (Journaled s (Some file)) s.names (first_eager s) status text can.without_eager
    (admitted_ok (λ (q : Shown). Unhurried (Journaled q (Some file)) q.names (first_eager q)) input status text can.is_read good.0
    (asked_of_all (λ (q : Shown). JournalReply q (Some file)) input new status text good.0 j)))

-- for other words the answer is the usage line
pub usage_answer : (told left taken taken' : Option (List ℕ)) (status : Status) → (status ≡ statuses.Usage) ⊎ (status ≡ statuses.WriteFault)
    → Answers None left left taken taken' status → JournalAnswers false told left left taken taken' status
usage_answer told left taken taken' status (inl e) h =
    subst (λ (k : Status). JournalAnswers false told left left taken taken' k) (sym e) (subst (λ (k : Status). Answers None left left taken taken' k) e h)
usage_answer told left taken taken' status (inr e) h =
    subst (λ (k : Status). JournalAnswers false told left left taken taken' k) (sym e) (subst (λ (k : Status). Answers None left left taken taken' k) e h)
