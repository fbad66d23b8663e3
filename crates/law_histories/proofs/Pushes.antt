-- One more legal entry: the history with it is legal, and its state is the one that the step gives.
use Rattle.std.proofs.Common.{◌≡◌, ◌+◌, List, [], ◌∷◌, ◌++◌, Option, None, Some, refl, ap, sym, ◌∙◌}
use Rattle.step_journal.specs.declared.entry.Entry.{Entry}
use Rattle.txn_set.specs.Set.{Set}
use Rattle.step_journal.specs.State.{State, opening}
use Rattle.step_journal.specs.Step.{step}
use Rattle.step_journal.specs.History.{event_of, state_given, entry_given, state_after, states_after, IsLegalEntry, IsLegalFrom, IsLegal, state_of}

legal_more : (set : Set) (s : State) (es : List Entry) (e : Entry) → IsLegalFrom set s es → IsLegalEntry set (states_after set s es) e → IsLegalFrom set s (es ++ e ∷ [])
legal_more set s [] e h l = (l, tt)
legal_more set s (x ∷ es) e h l = (h.0, legal_more set (state_after set s x) es e h.1 l)

pub state_more : (set : Set) (s : State) (es : List Entry) (e : Entry) → states_after set s (es ++ e ∷ []) ≡ state_after set (states_after set s es) e
state_more set s [] e = refl
state_more set s (x ∷ es) e = state_more set (state_after set s x) es e

-- the history with one more entry is legal, and its state is the one that the step gives
pub record Pushed (set : Set) (es : List Entry) (e : Entry) (next : State) : Type 0 where
  pub legal : IsLegal set (es ++ e ∷ [])
  pub state : next ≡ state_of set (es ++ e ∷ [])

pub pushed : (set : Set) (es : List Entry) (e : Entry) (next : State) → IsLegal set es → step set (state_of set es) (event_of e) ≡ Some (e, next) → Pushed set es e next
pushed set es e next legal h = record {
  legal = legal_more set (opening set) es e legal (ap entry_given h);
  state = sym (state_more set (opening set) es e ∙ ap (state_given (state_of set es)) h);
}

pub given_is : (s : State) (e : Entry) (o : Option (Entry × State)) → entry_given o ≡ Some e → o ≡ Some (e, state_given s o)
given_is s e None h = absurd cc
given_is s e (Some p) h = let same : p.0 ≡ e = cc in ap (λ (x : Entry). Some (x, p.1)) same

last_from : (set : Set) (s : State) (es : List Entry) (e : Entry) → IsLegalFrom set s (es ++ e ∷ []) → step set (states_after set s es) (event_of e) ≡ Some (e, states_after set s (es ++ e ∷ []))
last_from set s [] e h = given_is s e (step set s (event_of e)) h.0
last_from set s (x ∷ es) e h = last_from set (state_after set s x) es e h.1

-- the last entry of a legal history is that of the step, and the state after it the step's
pub last_step : (set : Set) (es : List Entry) (e : Entry) → IsLegal set (es ++ e ∷ []) → step set (state_of set es) (event_of e) ≡ Some (e, state_of set (es ++ e ∷ []))
last_step set es e legal = last_from set (opening set) es e legal
