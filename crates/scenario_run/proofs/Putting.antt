-- One piece that is put to an out over a journal.
use Rattle.std.proofs.Common.{◌≡◌, ℕ, ◌+◌, ◌-◌, ◌<◌, ◌≤◌, min, List, [], ◌++◌, take, drop, length, Option, None, Some, false, refl, sym, ap, subst, ◌∙◌, arith, length-append, length-drop, ◌↔◌}
use Rattle.std.specs.Prelude.{IfSome, IsSome}
use Rattle.std.proofs.lemmas.List.{length-take}
use Rattle.std.proofs.Math.Seq.{take-length}
use Rattle.rt_base.specs.declared.name.Names.{Names}
use Rattle.txn_set.specs.Set.{Set}
use Rattle.step_journal.specs.declared.entry.Entry.{Entry}
use Rattle.step_journal.specs.History.{IsLegal}
use Rattle.durable_disk.specs.Standing.{RecordsSeen}
use Rattle.durable_journal.specs.Log.{StandsFor, GoesOn, HasSome}
use Rattle.durable_journal.proofs.Crash.{weaken}
use Rattle.durable_journal.proofs.Runs.{run_on}
use Rattle.scenario_run.specs.declared.standing.JournalStanding.{JournalStanding}
use Rattle.scenario_run.specs.declared.standing.JournalStanding.TheVariants.{Going, Faulted, Other}
use Rattle.scenario_run.specs.Compared.{Begins, Agree, IsFirstOther, IsOtherRecord, with_rest}
use Rattle.durable_disk.specs.Device.{LeavesOnly}
use Rattle.scenario_run.specs.Outs.{Begun, IsOf, IsGoing, IsOtherIn, IsUntouched, LeavesFronts, TakenAt, LostAt}
use Rattle.scenario_run.proofs.Joined.{other_on, agree_of, agree_on, rest_on, legal_on, other_behind}
use Rattle.scenario_run.proofs.Fronts.{begins_of_agree, front_more, none_left, shorter_than, some_behind, some_left, some_longer}

-- an out that lost nothing goes on
pub goes : (standing : JournalStanding) (there kept : List Entry) → LostAt standing there kept [] → standing ≡ Going
goes Going there kept h = refl
goes Faulted there kept h = absurd (omega (arith, h.0))
goes (Other place) there kept h = absurd (omega (arith, h.behind, h.in_piece))

going_at : (standing : JournalStanding) (P : Type 0) → standing ≡ Going → TakenAt standing P → P
going_at standing P e t = subst (λ (s : JournalStanding). TakenAt s P) e t

pub taken_at : (standing : JournalStanding) (P : Type 0) → standing ≡ Going → P → TakenAt standing P
taken_at standing P e h = subst (λ (s : JournalStanding). TakenAt s P) (sym e) h

-- a disk that tells goes on telling, since it began
pub tells_on : {D : Type 0} (seen : D → Option (List ℕ)) (begun : Option D) (a b : D) → (IsSome (seen a) ↔ IsSome (seen b)) → IfSome begun (λ disk. IsSome (seen disk) ↔ IsSome (seen a)) → IfSome begun (λ disk. IsSome (seen disk) ↔ IsSome (seen b))
tells_on seen None a b next h = tt
tells_on seen (Some disk) a b next h = (λ told. next.0 (h.0 told), λ told. h.1 (next.1 told))

-- the first other entry of what the disk has of a piece is in the piece
pub put_other : (there kept e known : List Entry) (at : ℕ) → Agree there kept → known ≡ take (length e) (drop (length kept) there) → IsFirstOther known e at
    → IsOtherIn there kept e (length kept + at)
put_other there kept e known at agrees is o =
    let o' : IsFirstOther (take (length e) (drop (length kept) there)) e at = subst (λ (l : List Entry). IsFirstOther l e at) is o in
    let short : length (take (length e) (drop (length kept) there)) ≡ min (length e) (length (drop (length kept) there)) = length-take (length e) (drop (length kept) there) in
    record {
      first = other_behind there kept e at agrees o';
      behind = omega arith;
      in_piece = omega (arith, o'.within, short);
    }

-- what is added of a piece
rest_is : (n : ℕ) (e : List Entry) → take (length e - n) (drop n e) ≡ drop n e
rest_is n e = ap (λ (m : ℕ). take m (drop n e)) (sym (length-drop n e)) ∙ take-length (drop n e)

module _ {D : Type 0} (seen : D → Option (List ℕ)) (may_leave : D → List ℕ → Type 0) (moment : D → ℕ) (left_since : D → ℕ → List ℕ → Type 0) (names : Names) (set : Set) (begun : Option D) (log : RecordsSeen D)
    (there kept e known : List Entry) (going : IsGoing seen may_leave moment left_since names set begun log there kept) (legal : IsLegal set (kept ++ e)) (is : known ≡ take (length e) (drop (length kept) there)) (begins : Begins known e) where
  agree_here : Agree (drop (length kept) there) e
  agree_here = agree_of (drop (length kept) there) e (subst (λ (l : List Entry). Begins l e) is begins)

  abbrev Rest : List Entry
  Rest = take (length e - length known) (drop (length known) e)

  rest_here : Rest ≡ drop (length (take (length e) (drop (length kept) there))) e
  rest_here = rest_is (length known) e ∙ ap (λ (l : List Entry). drop (length l) e) is

  legal_here : IsLegal set (with_rest there kept ++ Rest)
  legal_here = subst (λ (l : List Entry). IsLegal set (with_rest there kept ++ l)) (sym rest_here) (legal_on set there kept e agree_here going.stands.legal legal)

  pub put_goes_on : GoesOn seen may_leave names set log Rest
  put_goes_on = (with_rest there kept, going.stands, legal_here)

  -- what a crash leaves while the rest is added
  pub put_leaves : (new : D) → IfSome begun (λ disk. IsSome (seen disk) ↔ IsSome (seen log.disk))
      → ((before : List Entry) → IsLegal set (before ++ Rest) → log.stopped ≡ false → StandsFor seen may_leave names set log before → IsSome (seen log.disk)
      → LeavesOnly moment left_since log.disk new (HasSome names set before Rest))
      → LeavesFronts seen moment left_since names set begun new there (kept ++ e)
  put_leaves new tells added = since begun going.moments tells
    where
      more : drop (length there) (kept ++ e) ≡ drop (length there) kept ++ Rest
      more = front_more there kept e Rest going.agrees agree_here rest_here

      since : (b : Option D) → LeavesFronts seen moment left_since names set b log.disk there kept → IfSome b (λ disk. IsSome (seen disk) ↔ IsSome (seen log.disk))
          → LeavesFronts seen moment left_since names set b new there (kept ++ e)
      since None so_far tells_b = tt
      since (Some disk) so_far tells_b = λ told.
          let now : IsSome (seen log.disk) = tells_b.0 told in
          run_on moment left_since disk log.disk new (HasSome names set there (drop (length there) (kept ++ e))) (HasSome names set (with_rest there kept) Rest)
          (weaken moment left_since disk log.disk (HasSome names set there (drop (length there) kept)) (HasSome names set there (drop (length there) (kept ++ e))) (so_far told)
          (λ c h. subst (λ (l : List Entry). HasSome names set there l c) (sym more) (some_longer names set there (drop (length there) kept) Rest c h)))
          (added (with_rest there kept) legal_here going.goes going.stands now)
          (λ c h. subst (λ (l : List Entry). HasSome names set there l c) (sym more) (some_behind names set there kept Rest c going.agrees h))

  -- where something is left to be added, the disk has nothing behind the piece
  pub put_begins : (Rest ≡ [] → ⊥) → Begins there (kept ++ e)
  put_begins left = let some : 0 < length Rest = some_left Rest left in begins_of_agree there (kept ++ e) (agree_on there kept e going.agrees agree_here) (shorter_than there kept e known is (omega (arith, some, length-take (length e - length known) (drop (length known) e), length-drop (length known) e)))

  pub put_taken : (new : RecordsSeen D) → new.stopped ≡ false
      → ((before : List Entry) → IsLegal set (before ++ Rest) → StandsFor seen may_leave names set log before → StandsFor seen may_leave names set new (before ++ Rest))
      → (Rest ≡ [] → new ≡ log) → LeavesFronts seen moment left_since names set begun new.disk there (kept ++ e)
      → IsGoing seen may_leave moment left_since names set begun new there (kept ++ e)
  put_taken new still stands same moments = record {
    item_names = going.item_names;
    txn_names = going.txn_names;
    one_each = going.one_each;
    goes = still;
    agrees = agree_on there kept e going.agrees agree_here;
    stands = subst (λ (l : List Entry). StandsFor seen may_leave names set new l)
        (ap (λ (l : List Entry). with_rest there kept ++ l) rest_here ∙ rest_on there kept e agree_here)
        (stands (with_rest there kept) legal_here going.stands);
    untouched = λ fits.
        let none : Rest ≡ [] = none_left there kept e known is fits in
        subst (λ (l : RecordsSeen D). IsUntouched begun l.disk) (sym (same none)) (going.untouched (omega (arith, fits, length-append kept e)));
    moments = moments;
  }

-- from what an out began with to its fields, and back
module _ {D : Type 0} (seen : D → Option (List ℕ)) (may_leave : D → List ℕ → Type 0) (moment : D → ℕ) (left_since : D → ℕ → List ℕ → Type 0) (begun : Begun D) (names : Names) (set : Set) (there : List Entry) (room : ℕ) (now : D)
    (of : IsOf seen begun names set there room now) where
  abbrev pub Goes : Names → Set → RecordsSeen D → List Entry → List Entry → Type 0
  Goes n s log l history = IsGoing seen may_leave moment left_since n s begun.disk log l history

  pub going_here : (standing : JournalStanding) (log : RecordsSeen D) (kept history : List Entry) → LostAt standing begun.there kept [] → kept ≡ history
      → TakenAt standing (Goes begun.names begun.set log begun.there history) → Goes names set log there kept
  going_here standing log kept history lost is taken =
      subst (λ (n : Names). Goes n set log there kept) (sym of.names_are)
      (subst (λ (s : Set). Goes begun.names s log there kept) (sym of.set_is)
      (subst (λ (l : List Entry). Goes begun.names begun.set log l kept) (sym of.there_is)
      (subst (λ (l : List Entry). Goes begun.names begun.set log begun.there l) (sym is)
      (going_at standing _ (goes standing begun.there kept lost) taken))))

  pub going_back : (log : RecordsSeen D) (kept e history : List Entry) → kept ≡ history → Goes names set log there (kept ++ e)
      → Goes begun.names begun.set log begun.there (history ++ e)
  going_back log kept e history is g =
      subst (λ (n : Names). Goes n begun.set log begun.there (history ++ e)) of.names_are
      (subst (λ (s : Set). Goes names s log begun.there (history ++ e)) of.set_is
      (subst (λ (l : List Entry). Goes names set log l (history ++ e)) of.there_is
      (subst (λ (l : List Entry). Goes names set log there (l ++ e)) is g)))

  pub legal_back : (kept e history : List Entry) → kept ≡ history → IsLegal begun.set (history ++ e) → IsLegal set (kept ++ e)
  legal_back kept e history is legal =
      subst (λ (s : Set). IsLegal s (kept ++ e)) (sym of.set_is) (subst (λ (l : List Entry). IsLegal begun.set (l ++ e)) (sym is) legal)

  pub begins_back : (history : List Entry) → Begins there history → Begins begun.there history
  begins_back history begins = subst (λ (l : List Entry). Begins l history) of.there_is begins

  -- what is left, by what the out began with
  pub leaves_back : (new : D) (history : List Entry) → LeavesFronts seen moment left_since names set begun.disk new there history
      → LeavesFronts seen moment left_since begun.names begun.set begun.disk new begun.there history
  leaves_back new history left =
      subst (λ (n : Names). LeavesFronts seen moment left_since n begun.set begun.disk new begun.there history) of.names_are
      (subst (λ (s : Set). LeavesFronts seen moment left_since names s begun.disk new begun.there history) of.set_is
      (subst (λ (l : List Entry). LeavesFronts seen moment left_since names set begun.disk new l history) of.there_is left))

  pub of_now : (new : D) → (IsSome (seen now) ↔ IsSome (seen new)) → IsOf seen begun names set there room new
  of_now new next = record {
    names_are = of.names_are;
    set_is = of.set_is;
    there_is = of.there_is;
    room_is = of.room_is;
    tells = tells_on seen begun.disk now new next of.tells;
  }

-- the first other entry of a piece is that of each history that goes on with it
pub other_record : (there kept piece rest : List Entry) (place number : ℕ) → IsOtherIn there kept piece place → number ≡ place + 1
    → IsOtherRecord there (kept ++ piece ++ rest) number
other_record there kept piece rest place number h is = record {
  place = place;
  first = other_on there (kept ++ piece) rest place (omega (arith, h.in_piece, length-append kept piece)) h.first;
  is = is;
}
