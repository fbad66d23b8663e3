-- Legal histories in parts.
use Rattle.std.proofs.Common.{◌≡◌, List, [], ◌∷◌, ◌++◌, refl}
use Rattle.step_journal.specs.declared.entry.Entry.{Entry}
use Rattle.txn_set.specs.Set.{Set}
use Rattle.step_journal.specs.State.{State, opening}
use Rattle.step_journal.specs.History.{state_after, states_after, IsLegalEntry, IsLegalFrom, IsLegal, state_of}

-- the state after a history and more entries
pub states_append : (set : Set) (s : State) (xs ys : List Entry)
    → states_after set s (xs ++ ys) ≡ states_after set (states_after set s xs) ys
states_append set s [] ys = refl
states_append set s (x ∷ xs) ys = states_append set (state_after set s x) xs ys

pub state_next : (set : Set) (history : List Entry) (e : Entry)
    → state_of set (history ++ e ∷ []) ≡ state_after set (state_of set history) e
state_next set history e = states_append set (opening set) history (e ∷ [])

pub legal_split : (set : Set) (s : State) (xs ys : List Entry) → IsLegalFrom set s (xs ++ ys)
    → IsLegalFrom set s xs × IsLegalFrom set (states_after set s xs) ys
legal_split set s [] ys h = (tt, h)
legal_split set s (x ∷ xs) ys h = let rest = legal_split set (state_after set s x) xs ys h.1 in ((h.0, rest.0), rest.1)

-- what a legal history begins with is legal, and so is its next entry
pub legal_parts : (set : Set) (history : List Entry) (e : Entry) (rest : List Entry) → IsLegal set (history ++ e ∷ rest)
    → IsLegal set history × IsLegalEntry set (state_of set history) e
legal_parts set history e rest h = let p = legal_split set (opening set) history (e ∷ rest) h in (p.0, p.1.0)

pub legal_join : (set : Set) (s : State) (xs ys : List Entry) → IsLegalFrom set s xs
    → IsLegalFrom set (states_after set s xs) ys → IsLegalFrom set s (xs ++ ys)
legal_join set s [] ys h k = k
legal_join set s (x ∷ xs) ys h k = (h.0, legal_join set (state_after set s x) xs ys h.1 k)

pub legal_next : (set : Set) (history : List Entry) (e : Entry) → IsLegal set history
    → IsLegalEntry set (state_of set history) e → IsLegal set (history ++ e ∷ [])
legal_next set history e h k = legal_join set (opening set) history (e ∷ []) h (k, tt)
