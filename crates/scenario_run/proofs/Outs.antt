-- A run whose entries go to an out over a journal.
use Rattle.std.proofs.Common.{◌≡◌, ◌⊎◌, ⊎_elim, ℕ, ◌+◌, ◌<◌, ◌≤◌, List, [], ◌++◌, take, drop, length, Option, None, Some, Bool, false, inl, inr, refl, sym, ap, subst, ◌∙◌, arith, append_assoc, append-nil, length-append}
use Rattle.std.specs.Prelude.{IfSome, IsSome}
use Rattle.std.proofs.lemmas.List.{take-append-drop, length-take}
use Rattle.std.proofs.Math.ListN.{drop_of_length-le}
use Rattle.std.proofs.Math.Seq.{take-nil}
use Rattle.std.proofs.lemmas.Bool.{cases_lt}
use Rattle.durable_disk.specs.Device.{LeavesOnly}
use Rattle.report_text.specs.Texts.{NamesSet}
use Rattle.durable_journal.proofs.Runs.{started, some_none}
use Rattle.durable_journal.proofs.Crash.{weaken}
use Rattle.durable_disk.proofs.Calls.{each_told}
use Rattle.job_rows.proofs.Fronts.{legal_front}
use Rattle.scenario_run.proofs.Fronts.{begins_of_agree}
use Rattle.rt_base.specs.Names.{AreNames}
use Rattle.rt_base.specs.declared.name.Names.{Names}
use Rattle.txn_set.specs.Set.{Set}
use Rattle.step_journal.specs.declared.entry.Entry.{Entry}
use Rattle.step_journal.specs.History.{IsLegal}
use Rattle.law_histories.specs.Sim.{Workload, IsSim}
use Rattle.sim_run.specs.Handed.{CanTake}
use Rattle.sim_run.specs.Runs.{IsStopped}
use Rattle.durable_disk.specs.Standing.{RecordsSeen, EachLeft}
use Rattle.durable_journal.specs.Log.{StandsFor, OpensAs, IsLeft, HasSome}
use Rattle.scenario_run.specs.declared.standing.JournalStanding.{JournalStanding}
use Rattle.scenario_run.specs.declared.standing.JournalStanding.TheVariants.{Going, Faulted, Other}
use Rattle.scenario_run.specs.Compared.{Begins, IsFirstOther, with_rest}
use Rattle.scenario_run.specs.Outs.{Begun, IsOf, IsGoing, TakenAt, LeftAt, LostAt, other_stops}
use Rattle.scenario_run.proofs.Putting.{taken_at}
use Rattle.scenario_run.specs.Found.{Holds}
use Rattle.scenario_run.specs.JournalLeft.{IsFrontWith, IsRunFront}
use Rattle.scenario_run.proofs.Left.{front_with}
use Rattle.scenario_run.specs.Ran.{IsGot, IsHalted, IsKept, HasOther}

abbrev pub made : {D : Type 0} → Names → Set → List Entry → ℕ → D → Begun D
made names set there room disk = record { names = names; set = set; there = there; room = room; disk = Some disk }

module _ {D : Type 0} (seen : D → Option (List ℕ)) (may_leave : D → List ℕ → Type 0) (moment : D → ℕ) (left_since : D → ℕ → List ℕ → Type 0) (begun : Begun D) where
  -- what an out with these fields got
  abbrev pub Got : JournalStanding → Names → Set → RecordsSeen D → List Entry → List Entry → ℕ → List Entry → Type 0
  Got standing names set log there kept room history =
      (kept ≡ history) × IsOf seen begun names set there room log.disk
      × TakenAt standing (IsGoing seen may_leave moment left_since begun.names begun.set begun.disk log begun.there history)

  -- and what it lost
  abbrev pub Lost : JournalStanding → RecordsSeen D → List Entry → List Entry → Type 0
  Lost standing log kept piece = LostAt standing begun.there kept piece × LeftAt seen moment left_since begun.names begun.set begun.disk log.disk standing begun.there kept piece

  -- an out that has taken nothing
  pub none_got : (standing : JournalStanding) (names : Names) (set : Set) (log : RecordsSeen D) (there kept : List Entry) (room : ℕ)
      → begun ≡ made names set there room log.disk
      → standing ≡ Going → kept ≡ [] → IsGoing seen may_leave moment left_since names set (Some log.disk) log there [] → Got standing names set log there kept room []
  none_got standing names set log there kept room is going empty h =
      let P : Begun D → Type 0 = λ x. (kept ≡ []) × IsOf seen x names set there room log.disk × TakenAt standing (IsGoing seen may_leave moment left_since x.names x.set x.disk log x.there []) in
      subst P (sym is) (
        empty,
        record { names_are = refl; set_is = refl; there_is = refl; room_is = refl; tells = (λ told. told, λ told. told) },
        taken_at standing (IsGoing seen may_leave moment left_since names set (Some log.disk) log there []) going h,
      )

  -- it can take each run
  pub can_take : (w : Workload) (got : List Entry → Type 0) (history : List Entry) → got [] → begun.set ≡ w.set → length history ≤ begun.room → IsSim w history
      → CanTake got (λ history. IsLegal begun.set history × (length history ≤ begun.room)) history
  can_take w got history none same fits sim = λ n. record {
    begun = [];
    is_got = none;
    is_good = (
      subst (λ (s : Set). IsLegal s (take n history)) (sym same)
          (legal_front w.set (take n history) (drop n history) (subst (IsLegal w.set) (sym (take-append-drop n history)) sim.legal)),
      omega (arith, fits, length-append (take n history) (drop n history), ap (λ (l : List Entry). length l) (take-append-drop n history)),
    );
  }

  module _ (w : Workload) (standing' : JournalStanding) (names' : Names) (set' : Set) (log' : RecordsSeen D) (there' kept' : List Entry) (room' : ℕ)
      (got : List Entry → Type 0) (none : got []) where
    abbrev Got' : List Entry → Type 0
    Got' history = Got standing' names' set' log' there' kept' room' history

    -- an out that stopped
    pub got_front : (names : Names) (there : List Entry) (room : ℕ) (disk : D) → begun ≡ made names w.set there room disk → IsStopped w got Got' (Lost standing' log' kept')
        → IsHalted w seen may_leave moment left_since names disk log' standing' there' kept'
    got_front names there room disk of h =
        let it = h.grown [] none in
        let is : kept' ≡ take h.passed h.history = it.0 in
        let piece : List Entry = take h.missed (drop h.passed h.history) in
        let rest : List Entry = drop h.missed (drop h.passed h.history) in
        let there_is : begun.there ≡ there' = sym it.1.there_is in
        let P : Begun D → Type 0 = λ x. LeftAt seen moment left_since x.names x.set x.disk log'.disk standing' there' kept' piece in
        let Q : Begun D → Type 0 = λ x. TakenAt standing' (IsGoing seen may_leave moment left_since x.names x.set x.disk log' there' kept') in
        record {
          history = h.history;
          sim = h.sim;
          piece = piece;
          rest = rest;
          parts = sym (append_assoc kept' piece rest ∙ (ap (λ (l : List Entry). kept' ++ l) (take-append-drop h.missed (drop h.passed h.history))
              ∙ (ap (λ (l : List Entry). l ++ drop h.passed h.history) is ∙ take-append-drop h.passed h.history)));
          lost = subst (λ (l : List Entry). LostAt standing' l kept' piece) there_is h.is_lost.0;
          going = subst Q of (subst (λ (l : List Entry). TakenAt standing' (IsGoing seen may_leave moment left_since begun.names begun.set begun.disk log' l kept')) there_is
              (subst (λ (l : List Entry). TakenAt standing' (IsGoing seen may_leave moment left_since begun.names begun.set begun.disk log' begun.there l)) (sym is) it.2));
          left = subst P of (subst (λ (l : List Entry). LeftAt seen moment left_since begun.names begun.set begun.disk log'.disk standing' l kept' piece) there_is h.is_lost.1);
        }

-- ---- what the disk holds after a whole run

pub fits_in : (there history : List Entry) → Begins there history → length there ≤ length history
fits_in there history h = omega (arith, length-take (length there) history, ap (λ (l : List Entry). length l) h)

pub whole_rest : (there history : List Entry) → Begins there history → with_rest there history ≡ history
whole_rest there history h = ap (λ (l : List Entry). history ++ l) (drop_of_length-le there (fits_in there history h)) ∙ append-nil history

each_as : (seen : Option (List ℕ)) (P Q : List ℕ → Type 0) (outcomes : List ℕ → Type 0) → ((c : List ℕ) → P c → Q c) → EachLeft seen outcomes P → EachLeft seen outcomes Q
each_as None P Q outcomes f h = tt
each_as (Some file) P Q outcomes f h = λ c left. f c (h c left)

opens_as : (names : Names) (set : Set) (stopped : Bool) (history : List Entry) (image : List ℕ) → stopped ≡ false → IsLeft names set stopped history image → OpensAs names set image history
opens_as names set stopped history image e (inl h) = h
opens_as names set stopped history image e (inr h) = absurd cc

reads_as : (seen : Option (List ℕ)) (outcomes P : List ℕ → Type 0) → IfSome seen outcomes → EachLeft seen outcomes P → IfSome seen P
reads_as None outcomes P may each = tt
reads_as (Some file) outcomes P may each = each file may

pub holds_now : (names : Names) (set : Set) (seen : Option (List ℕ)) (outcomes : List ℕ → Type 0) (stopped : Bool) (history : List Entry) → stopped ≡ false → IfSome seen outcomes
    → EachLeft seen outcomes (IsLeft names set stopped history) → Holds names set seen outcomes history
holds_now names set seen outcomes stopped history e may left =
    let each = each_as seen (IsLeft names set stopped history) (λ c. OpensAs names set c history) outcomes (λ c. opens_as names set stopped history c e) left in
    record { reads = reads_as seen outcomes _ may each; crash = each }

pub kept_run : {D : Type 0} (seen : D → Option (List ℕ)) (may_leave : D → List ℕ → Type 0) (moment : D → ℕ) (left_since : D → ℕ → List ℕ → Type 0) (begun : D) (w : Workload) (stands : List Entry → Type 0) (names : Names) (log : RecordsSeen D)
    (there kept : List Entry) → IsGot w stands seen may_leave moment left_since names begun log there kept → Begins there kept → IfSome (seen log.disk) (may_leave log.disk)
    → ((n : Names) (set : Set) (entries : List Entry) → AreNames n.items → AreNames n.txns → StandsFor seen may_leave n set log entries
    → EachLeft (seen log.disk) (may_leave log.disk) (IsLeft n set log.stopped entries))
    → (disk : D) → disk ≡ log.disk → IsKept w stands names (seen disk) (may_leave disk) there kept
kept_run {D} seen may_leave moment left_since begun w stands names log there kept got begins may crash disk is =
    let going = got.going in
    let stood : StandsFor seen may_leave names w.set log kept = subst (λ (l : List Entry). StandsFor seen may_leave names w.set log l) (whole_rest there kept begins) going.stands in
    subst (λ (d : D). IsKept w stands names (seen d) (may_leave d) there kept) (sym is)
    (record {
      sim = got.sim;
      stood = got.stood;
      begins = begins;
      holds = holds_now names w.set (seen log.disk) (may_leave log.disk) log.stopped kept going.goes may (crash names w.set kept going.item_names going.txn_names stood);
    })

-- ---- a run whose entries are kept

pub too_few : (there history : List Entry) → Begins there history → length history < length there → ⊥
too_few there history begins more = omega (arith, fits_in there history begins, more)

pub first_is : (w : Workload) (there history kept : List Entry) (place number : ℕ) → IsSim w history → kept ≡ history → IsFirstOther there kept place → number ≡ place + 1 → HasOther w there number
first_is w there history kept place number sim same first is = record {
  history = history;
  sim = sim;
  other = record { place = place; first = subst (λ (l : List Entry). IsFirstOther there l place) same first; is = is };
}

-- ---- what is left of the disk

module _ {D : Type 0} (seen : D → Option (List ℕ)) (may_leave : D → List ℕ → Type 0) (moment : D → ℕ) (left_since : D → ℕ → List ℕ → Type 0) where
  -- a log that was opened, and an out that has taken nothing
  pub going_first : (names : Names) (set : Set) (log : RecordsSeen D) (there : List Entry) → AreNames names.items × AreNames names.txns → NamesSet names set → log.stopped ≡ false
      → StandsFor seen may_leave names set log there → ((c : List ℕ) → left_since log.disk (moment log.disk) c → may_leave log.disk c)
      → ((n : Names) (q : Set) (entries : List Entry) → AreNames n.items → AreNames n.txns → StandsFor seen may_leave n q log entries → EachLeft (seen log.disk) (may_leave log.disk) (IsLeft n q log.stopped entries))
      → IsGoing seen may_leave moment left_since names set (Some log.disk) log there []
  going_first names set log there named one goes stands now crash = record {
    item_names = named.0;
    txn_names = named.1;
    one_each = one;
    goes = goes;
    agrees = sym (take-nil (length there));
    stands = stands;
    untouched = λ fits. refl;
    moments = λ told. started moment left_since log.disk (HasSome names set there (drop (length there) [])) (may_leave log.disk) now
        (λ c left. some_none names set there (drop (length there) []) log.stopped c goes (each_told (seen log.disk) (may_leave log.disk) (IsLeft names set log.stopped there) told (crash names set there named.0 named.1 stands) c left));
  }

  -- the entries behind what the disk had are those of the run
  run_front : (w : Workload) (names : Names) (there history front more : List Entry) → IsSim w history → history ≡ front ++ more → Begins there front → (c : List ℕ)
      → HasSome names w.set there (drop (length there) front) c → IsRunFront w names there c
  run_front w names there history front more sim parts begins c h =
      (history, sim, subst (λ (l : List Entry). IsFrontWith names w.set there l c) (sym parts) (front_with names w.set there front more c begins h))

  -- after a whole run that begins with what the disk had
  pub whole_left : (w : Workload) (stands : List Entry → Type 0) (names : Names) (begun : D) (log : RecordsSeen D) (there kept : List Entry) → IsGot w stands seen may_leave moment left_since names begun log there kept → Begins there kept
      → IsSome (seen begun) → LeavesOnly moment left_since begun log.disk (IsRunFront w names there)
  whole_left w stands names begun log there kept got begins told =
      weaken moment left_since begun log.disk (HasSome names w.set there (drop (length there) kept)) (IsRunFront w names there) (got.going.moments told)
      (run_front w names there kept kept [] got.sim (sym (append-nil kept)) begins)

  -- after one behind which the disk has more
  pub behind_left : (w : Workload) (stands : List Entry → Type 0) (names : Names) (begun : D) (log : RecordsSeen D) (there kept : List Entry) → IsGot w stands seen may_leave moment left_since names begun log there kept → length kept < length there
      → log.disk ≡ begun
  behind_left w stands names begun log there kept got more = got.going.untouched (omega (arith, more))

  -- after one that was halted by a fault
  pub fault_left : (w : Workload) (names : Names) (begun : D) (log : RecordsSeen D) (standing : JournalStanding) (there kept : List Entry) → IsHalted w seen may_leave moment left_since names begun log standing there kept → other_stops standing ≡ 0
      → (log.disk ≡ begun) ⊎ (IsSome (seen begun) → LeavesOnly moment left_since begun log.disk (IsRunFront w names there))
  fault_left w names begun log (Other place) there kept h none = absurd (omega (arith, none))
  fault_left w names begun log Faulted there kept h none = inr (λ told.
      weaken moment left_since begun log.disk (HasSome names w.set there (drop (length there) (kept ++ h.piece))) (IsRunFront w names there) (h.left told)
      (run_front w names there h.history (kept ++ h.piece) h.rest h.sim h.parts h.lost.1))
  fault_left w names begun log Going there kept h none = ⊎_elim
      (λ fits. inl (h.going.untouched (omega (arith, fits))))
      (λ longer. inr (λ told.
      weaken moment left_since begun log.disk (HasSome names w.set there (drop (length there) kept)) (IsRunFront w names there) (h.going.moments told)
      (run_front w names there h.history kept (h.piece ++ h.rest) h.sim (h.parts ∙ append_assoc kept h.piece h.rest) (begins_of_agree there kept h.going.agrees longer))))
      (cases_lt (length kept) (length there))

  -- after one that was halted by another entry
  pub other_left : (w : Workload) (names : Names) (begun : D) (log : RecordsSeen D) (standing : JournalStanding) (there kept : List Entry) → IsHalted w seen may_leave moment left_since names begun log standing there kept → other_stops standing ≡ 1
      → log.disk ≡ begun
  other_left w names begun log Going there kept h one = absurd (omega (arith, one))
  other_left w names begun log Faulted there kept h one = absurd (omega (arith, one))
  other_left w names begun log (Other place) there kept h one = h.left

  -- said of the disk that the call was handed, and of the one that it hands back
  pub moved_run : (w : Workload) (names names' : Names) (old old' new new' : D) (there there' : List Entry) → names' ≡ names → old' ≡ old → new ≡ new' → there' ≡ there
      → (IsSome (seen old') → LeavesOnly moment left_since old' new' (IsRunFront w names' there')) → IsSome (seen old) → LeavesOnly moment left_since old new (IsRunFront w names there)
  moved_run w names names' old old' new new' there there' n o d t h =
      subst (λ (x : Names). IsSome (seen old) → LeavesOnly moment left_since old new (IsRunFront w x there)) n
      (subst (λ (l : List Entry). IsSome (seen old) → LeavesOnly moment left_since old new (IsRunFront w names' l)) t
      (subst (λ (x : D). IsSome (seen x) → LeavesOnly moment left_since x new (IsRunFront w names' there')) o
      (subst (λ (x : D). IsSome (seen old') → LeavesOnly moment left_since old' x (IsRunFront w names' there')) (sym d) h)))

pub some_is : {A : Type 0} (o : Option A) (x : A) → o ≡ Some x → IsSome o
some_is o x is = subst (λ (q : Option _). IsSome q) (sym is) refl
