-- A history that goes on entry by entry.
use Rattle.std.proofs.Common.{◌≡◌, ℕ, ◌+◌, List, [], ◌∷◌, ◌++◌, take, drop, sym, ◌∙◌, ap, subst}
use Rattle.std.proofs.lemmas.List.{take-append-drop, append_assoc}
use Rattle.txn_set.specs.Set.{Set}
use Rattle.step_journal.specs.declared.entry.Entry.{Entry}
use Rattle.step_journal.specs.History.{IsLegal}
use Rattle.durable_journal.proofs.Crash.{legal_front}

module _ (set : Set) (before es : List Entry) (i : ℕ) (e : Entry) (next : take (i + 1) es ≡ take i es ++ e ∷ []) where
  pub grown : (before ++ take i es) ++ e ∷ [] ≡ before ++ take (i + 1) es
  grown = append_assoc before (take i es) (e ∷ []) ∙ ap (λ (l : List Entry). before ++ l) (sym next)

  pub legal_next : IsLegal set (before ++ es) → IsLegal set ((before ++ take i es) ++ e ∷ [])
  legal_next legal =
      let whole : before ++ es ≡ (before ++ take (i + 1) es) ++ drop (i + 1) es =
      ap (λ (l : List Entry). before ++ l) (sym (take-append-drop (i + 1) es)) ∙ sym (append_assoc before (take (i + 1) es) (drop (i + 1) es)) in
      let front = legal_front set _ (before ++ take (i + 1) es) (drop (i + 1) es) (subst (λ l. IsLegal set l) whole legal) in
      subst (λ l. IsLegal set l) (sym grown) front
