-- The loop over the entries.
use Rattle.std.proofs.Common.{◌≡◌, ℕ, ◌-◌, ◌<◌, ◌≤◌, Bool, true, false, List, [], ◌∷◌, ◌++◌, length, take, drop, Option, None, Some, get_or, slice_get, refl, ap, sym, ◌∙◌, arith, length-append}
use Rattle.std.specs.Prelude.{is_some, IsTrue, ◌↔◌}
use Rattle.std.proofs.lemmas.List.{drop-append-le}
use Rattle.std.proofs.Math.ListN.{drop_of_length-le}
use Rattle.std.proofs.lemmas.Option.{slice_get-get_or}
use Rattle.txn_set.specs.Set.{Set}
use Rattle.step_journal.specs.declared.entry.Entry.{Entry}
use Rattle.rt_base.specs.declared.ids.JobId.{JobId}
use Rattle.rt_base.specs.declared.operation.Op.{Op}
use Rattle.rt_base.specs.declared.operation.Op.TheVariants.{Compute}
use Rattle.rt_base.specs.declared.operation.Outcome.TheVariants.{Computed}
use Rattle.step_journal.specs.declared.entry.Entry.TheVariants.{Step}
use Rattle.step_journal.specs.Step.{step, ask}
use Rattle.step_journal.specs.History.{event_of, entry_given, IsLegal, state_of}
use Rattle.board.specs.Answers.{step_reply}
use Rattle.board.specs.Histories.{IsHistory, noted, step_entry}
use Rattle.board.specs.declared.replies.StepReply.TheVariants.{Done}
use Rattle.job_rows.proofs.Going as going
use Rattle.job_rows.proofs.Fronts.{next_legal}
use Rattle.serial_replay.specs.Boards.{made_by}
use Rattle.serial_replay.specs.Replays.{IsFirstIllegal}

pub first_illegal : (set : Set) (entries : List Entry) (i : ℕ) (d : Entry) → i < length entries → IsLegal set (take i entries)
    → (entry_given (step set (state_of set (take i entries)) (event_of (get_or entries i d))) ≡ Some (get_or entries i d) → ⊥)
    → IsFirstIllegal set entries i
first_illegal set entries i d lt before refused =
    let not : IsLegal set (take i entries ++ get_or entries i d ∷ []) → ⊥ = λ legal. refused (going.next_legal set (take i entries) (get_or entries i d) legal) in
    record { entry = get_or entries i d; here = slice_get-get_or entries i d lt; before = before; not_with = not; not_all = λ legal. not (next_legal set entries i d lt legal) }

pub nothing_kept : (kept : List Entry) (first : ℕ) → kept ≡ drop first [] → kept ≡ []
nothing_kept kept first e = e ∙ drop_of_length-le [] (omega arith)

-- after an entry is noted it is the last of those that are kept

end_of : (kept : List Entry) (e : Entry) → slice_get (kept ++ e ∷ []) (length kept) ≡ Some e
end_of [] e = refl
end_of (x ∷ xs) e = end_of xs e

pub last_noted : (set set' : Set) (room room' first first' : ℕ) (kept kept' history : List Entry) (o : Option Entry)
    → IsHistory set room first kept history → IsHistory set' room' first' kept' (noted history o) → first' ≡ first → true ≡ is_some o
    → slice_get kept' (length kept' - 1) ≡ o
last_noted set set' room room' first first' kept kept' history None is is' same some = absurd cc
last_noted set set' room room' first first' kept kept' history (Some e) is is' same some =
    let le : first ≤ length history = omega (arith, is.counted) in
    let kept_is : kept' ≡ kept ++ e ∷ [] = is'.rest
    ∙ (ap (λ (n : ℕ). drop n (history ++ e ∷ [])) same
    ∙ (drop-append-le first history (e ∷ []) le
    ∙ ap (λ (l : List Entry). l ++ e ∷ []) (sym is.rest))) in
    let at : length kept' - 1 ≡ length kept = omega (arith, ap (λ (l : List Entry). length l) kept_is, length-append kept (e ∷ [])) in
    ap (slice_get kept') at ∙ (ap (λ (l : List Entry). slice_get l (length kept)) kept_is ∙ end_of kept e)

some_same : (a b : Entry) → Some a ≡ Some b → a ≡ b
some_same a b h = cc

pub same_last : (o : Option Entry) (last e : Entry) (r : Bool) → Some last ≡ o → IsTrue r ↔ (last ≡ e) → IsTrue r ↔ (o ≡ Some e)
same_last o last e r is h = (λ t. sym is ∙ ap Some (h.0 t), λ q. h.1 (some_same last e (is ∙ q)))

pub none_made : (o : Option Entry) (e : Entry) (r : Bool) → r ≡ false → false ≡ is_some o → IsTrue r ↔ (o ≡ Some e)
none_made None e r f h = (λ t. absurd cc, λ q. absurd cc)
none_made (Some x) e r f h = absurd cc

pub no_last : (o : Option Entry) (T : Type 0) → None ≡ o → true ≡ is_some o → T
no_last None T is h = absurd cc
no_last (Some e) T is h = absurd cc

-- a Compute by which nothing else happens is the step that is made

pub compute_made : (set : Set) (history : List Entry) (kept room : ℕ) (job : JobId) (op : Op) → op ≡ Compute
    → step_entry (state_of set history).now job op (step_reply set (state_of set history) kept room job op) ≡ made_by set history (ask job op)
    → step_reply set (state_of set history) kept room job Compute ≡ Done Computed None
    → made_by set history (ask job op) ≡ Some (Step job Compute Computed None (state_of set history).now)
compute_made set history kept room job op e law answer =
    sym law
    ∙ (ap (step_entry (state_of set history).now job op) (ap (step_reply set (state_of set history) kept room job) e ∙ answer)
    ∙ ap (λ (o : Op). step_entry (state_of set history).now job o (Done Computed None)) e)
