-- How a piece of entries goes to a log.
use Rattle.std.proofs.Common.{◌≡◌, ℕ, ◌+◌, Bool, true, false, List, [], ◌∷◌, ◌++◌, length, take, drop, Option, Some, None, Result, Ok, Err, OnOk, IsErrOf, ◌↔◌, sym, ◌∙◌, ap, subst, arith}
use Rattle.std.specs.List.{AllByRecursion}
use Rattle.std.proofs.lemmas.List.{append-nil, append_assoc, length-map, map-append, take-append-drop, take-map}
use Rattle.rt_base.specs.declared.name.Names.{Names}
use Rattle.rt_base.specs.Names.{AreNames}
use Rattle.txn_set.specs.Set.{Set}
use Rattle.step_journal.specs.declared.entry.Entry.{Entry}
use Rattle.step_journal.specs.History.{IsLegal}
use Rattle.journal_text.specs.Lines.{entry_line}
use Rattle.journal_text.specs.EntryLaws.{LinesBothWays}
use Rattle.durable_disk.specs.Records.{Reads, HasBodies, HasFirst}
use Rattle.durable_disk.specs.Laws.{FoundAsRead}
use Rattle.durable_disk.specs.Standing.{IsSettled, IsStaging}
use Rattle.durable_disk.proofs.Pieces.{bodies_read}
use Rattle.durable_disk.proofs.Calls.{settled_each}
use Rattle.law_histories.proofs.Events.{false_from as not_true}
use Rattle.durable_journal.specs.Format.{body_of, bodies_of, entry_bodies, header}
use Rattle.durable_journal.specs.declared.log.LogError.{LogError}
use Rattle.durable_journal.specs.declared.log.LogError.TheVariants.{Stopped}
use Rattle.durable_journal.specs.Log.{Fits, HasSome, OpensAs}
use Rattle.durable_journal.proofs.Crash.{opens, legal_front, fit_front}

-- a log at rest has staged nothing
pub nothing_staged : (seen : Option (List ℕ)) (outcomes : List ℕ → Type 0) (bodies : List (List ℕ)) → IsSettled seen outcomes bodies → IsStaging seen outcomes bodies []
nothing_staged None outcomes bodies settled = (tt, tt)
nothing_staged (Some file) outcomes bodies settled = (
  subst (λ (l : List (List ℕ)). HasBodies file l (length bodies)) (sym (append-nil bodies)) (bodies_read file bodies settled.0),
  settled_each (Some file) outcomes bodies settled,
)

pub fit_append : (names : Names) (xs ys : List Entry) → AllByRecursion (Fits names) xs → AllByRecursion (Fits names) ys → AllByRecursion (Fits names) (xs ++ ys)
fit_append names [] ys few more = more
fit_append names (x ∷ xs) ys few more = (few.0, fit_append names xs ys few.1 more)

-- the records of a piece stand behind those before it
pub bodies_append : (names : Names) (before es : List Entry) → bodies_of names before ++ entry_bodies names es ≡ bodies_of names (before ++ es)
bodies_append names before es = ap (λ (l : List (List ℕ)). body_of header ∷ l) (sym (map-append (λ e. body_of (entry_line names e)) before es))

pub length-bodies : (names : Names) (es : List Entry) → length (entry_bodies names es) ≡ length es
length-bodies names es = length-map es (λ e. body_of (entry_line names e))

-- one more entry staged
pub staged_next : (names : Names) (es : List Entry) (i : ℕ) (e : Entry) → take (i + 1) es ≡ take i es ++ e ∷ []
    → entry_bodies names (take i es) ++ body_of (entry_line names e) ∷ [] ≡ entry_bodies names (take (i + 1) es)
staged_next names es i e next = sym (ap (entry_bodies names) next ∙ map-append (λ f. body_of (entry_line names f)) (take i es) (e ∷ []))

module _ (lines : LinesBothWays) (found : FoundAsRead) (names : Names) (items : AreNames names.items) (txns : AreNames names.txns) (set : Set) (before es : List Entry) (fit : AllByRecursion (Fits names) before)
    (legal : IsLegal set (before ++ es)) (image : List ℕ) where
  -- before the bodies are durable
  pub none_opens : Reads image (bodies_of names before) → HasSome names set before es image
  none_opens r =
      let same : before ≡ before ++ [] = sym (append-nil before) in
      (0, omega arith, subst (λ l. OpensAs names set image l) same (opens lines found names items txns set image before fit (legal_front set _ before es legal) r))

  -- and while the gates are opened
  pub some_opens : AllByRecursion (Fits names) es → HasFirst (bodies_of names before) (entry_bodies names es) image → HasSome names set before es image
  some_opens fits first =
      let n = first.0 in
      let some : List Entry = take n es in
      let whole : before ++ es ≡ (before ++ some) ++ drop n es =
      ap (λ (l : List Entry). before ++ l) (sym (take-append-drop n es)) ∙ sym (append_assoc before some (drop n es)) in
      let few = fit_front names some (drop n es) (subst (λ l. AllByRecursion (Fits names) l) (sym (take-append-drop n es)) fits) in
      let same : bodies_of names before ++ take n (entry_bodies names es) ≡ bodies_of names (before ++ some) =
      ap (λ (l : List (List ℕ)). bodies_of names before ++ l) (take-map (λ e. body_of (entry_line names e)) n es) ∙ bodies_append names before some in (
        n,
        omega (arith, first.1, length-bodies names es),
        opens lines found names items txns set image (before ++ some) (fit_append names before some fit few)
            (legal_front set _ (before ++ some) (drop n es) (subst (λ l. IsLegal set l) whole legal))
            (subst (λ (l : List (List ℕ)). Reads image l) same first.2),
      )

ok_is_no_error : {T : Type 0} (t : T) → IsErrOf {T = T} {E = LogError} (Ok t) Stopped → ⊥
ok_is_no_error t is = cc

-- of a call that was answered Ok
pub on_ok_going : {T A B C : Type 0} (r : Result T LogError) (stopped : Bool) → IsErrOf r Stopped ↔ (stopped ≡ true) → OnOk r A → OnOk r B → (stopped ≡ false → A → B → C) → OnOk r C
on_ok_going (Ok t) stopped off a b leads = leads (not_true stopped (λ is. ok_is_no_error t (off.1 is))) a b
on_ok_going (Err e) stopped off a b leads = tt
