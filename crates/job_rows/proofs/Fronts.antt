-- The fronts of a legal history, entry by entry.
use Rattle.std.proofs.Common.{◌≡◌, ℕ, zero, suc, ◌+◌, ◌<◌, ◌≤◌, List, [], ◌∷◌, ◌++◌, length, take, drop, get_or, ap, sym, ◌∙◌, subst, arith, length-append, append_assoc, drop-cons, add-one}
use Rattle.std.proofs.lemmas.List.{take_more, take-append-drop}
use Rattle.std.proofs.lemmas.List.Elements.{filter-append}
use Rattle.std.specs.List.{filter}
use Rattle.txn_set.specs.Set.{Set}
use Rattle.step_journal.specs.declared.entry.Entry.{Entry}
use Rattle.step_journal.specs.State.{State, opening}
use Rattle.step_journal.specs.History.{state_after, IsLegalFrom, IsLegal}
use Rattle.job_rows.specs.Upkeep.{RowsSeen, Follows, GoesOn, GoOn, is_plan, planned_jobs}

pub front_legal : (set : Set) (s : State) (xs ys : List Entry) → IsLegalFrom set s (xs ++ ys) → IsLegalFrom set s xs
front_legal set s [] ys h = tt
front_legal set s (x ∷ xs) ys h = (h.0, front_legal set (state_after set s x) xs ys h.1)

-- what begins a legal history goes on legally with its next entry
pub next_legal : (set : Set) (entries : List Entry) (i : ℕ) (d : Entry) → i < length entries → IsLegal set entries
    → IsLegal set (take i entries ++ get_or entries i d ∷ [])
next_legal set entries i d lt legal =
    subst (IsLegal set) (take_more entries i d lt)
    (front_legal set (opening set) (take (i + 1) entries) (drop (i + 1) entries)
    (subst (IsLegal set) (sym (take-append-drop (i + 1) entries)) legal))

pub planned_both : (xs ys : List Entry) → planned_jobs (xs ++ ys) ≡ planned_jobs xs + planned_jobs ys
planned_both xs ys =
    ap length (filter-append is_plan xs ys) ∙ length-append (filter is_plan xs) (filter is_plan ys)

pub next_fits : (entries : List Entry) (i : ℕ) (d : Entry) → i < length entries
    → planned_jobs (take i entries ++ get_or entries i d ∷ []) ≤ planned_jobs entries
next_fits entries i d lt =
    let whole : planned_jobs (take (i + 1) entries) + planned_jobs (drop (i + 1) entries) ≡ planned_jobs entries =
    sym (planned_both (take (i + 1) entries) (drop (i + 1) entries)) ∙ ap planned_jobs (take-append-drop (i + 1) entries) in
    omega (arith, whole, ap planned_jobs (take_more entries i d lt))

-- ---- entries that go on after a history

pub legal_front : (set : Set) (xs ys : List Entry) → IsLegal set (xs ++ ys) → IsLegal set xs
legal_front set xs ys h = front_legal set (opening set) xs ys h

pub planned_front : (xs ys : List Entry) → planned_jobs xs ≤ planned_jobs (xs ++ ys)
planned_front xs ys = omega (arith, planned_both xs ys)

-- the entries up to and with the one at a place, and the rest
pub parts_at : (history entries : List Entry) (i : ℕ) (e d : Entry) → i < length entries → e ≡ get_or entries i d
    → history ++ entries ≡ ((history ++ take i entries) ++ e ∷ []) ++ drop (i + 1) entries
parts_at history entries i e d lt is =
    let rest : drop i entries ≡ e ∷ drop (i + 1) entries =
    drop-cons entries i d lt ∙ (ap (λ (x : Entry). x ∷ drop (suc i) entries) (sym is) ∙ ap (λ (n : ℕ). e ∷ drop n entries) (sym (add-one i))) in
    ap (λ (l : List Entry). history ++ l) (sym (take-append-drop i entries))
    ∙ (ap (λ (l : List Entry). history ++ (take i entries ++ l)) rest
    ∙ (sym (append_assoc history (take i entries) (e ∷ drop (i + 1) entries))
    ∙ sym (append_assoc (history ++ take i entries) (e ∷ []) (drop (i + 1) entries))))

pub take_next : (entries : List Entry) (i : ℕ) (e d : Entry) → i < length entries → e ≡ get_or entries i d
    → take i entries ++ e ∷ [] ≡ take (suc i) entries
take_next [] i e d lt is = absurd (omega (arith, lt))
take_next (x ∷ xs) zero e d lt is = ap (λ (y : Entry). y ∷ []) is
take_next (x ∷ xs) (suc i) e d lt is = ap (λ (l : List Entry). x ∷ l) (take_next xs i e d (omega (arith, lt)) is)

-- what the rows follow after so many of the entries
abbrev pub FollowsUpTo : RowsSeen → RowsSeen → List Entry → ℕ → Type 0
FollowsUpTo rows now entries i = (set : Set) (history : List Entry) → Follows set rows history → IsLegal set (history ++ entries) → Follows set now (history ++ take i entries)

-- the entry at a place is the next one
pub next_goes : (rows now : RowsSeen) (entries : List Entry) (i : ℕ) (e d : Entry) → (c : GoOn rows entries)
    → i < length entries → e ≡ get_or entries i d → now.room ≡ rows.room → FollowsUpTo rows now entries i → GoesOn now e
next_goes rows now entries i e d c lt is room follows =
    let parts = parts_at c.history entries i e d lt is in
    let legal : IsLegal c.set (((c.history ++ take i entries) ++ e ∷ []) ++ drop (i + 1) entries) = subst (IsLegal c.set) parts c.legal in
    let few : planned_jobs ((c.history ++ take i entries) ++ e ∷ []) ≤ planned_jobs (c.history ++ entries) =
    subst (λ (l : List Entry). planned_jobs ((c.history ++ take i entries) ++ e ∷ []) ≤ planned_jobs l) (sym parts) (planned_front ((c.history ++ take i entries) ++ e ∷ []) (drop (i + 1) entries)) in
    record {
      set = c.set;
      history = c.history ++ take i entries;
      follows = follows c.set c.history c.follows c.legal;
      legal = legal_front c.set ((c.history ++ take i entries) ++ e ∷ []) (drop (i + 1) entries) legal;
      fits = omega (arith, few, c.fits, room);
    }

pub follows_next : (rows now now' : RowsSeen) (entries : List Entry) (i : ℕ) (e d : Entry) → i < length entries → e ≡ get_or entries i d
    → FollowsUpTo rows now entries i
    → ((set : Set) (before : List Entry) → Follows set now before → IsLegal set (before ++ e ∷ []) → Follows set now' (before ++ e ∷ []))
    → FollowsUpTo rows now' entries (i + 1)
follows_next rows now now' entries i e d lt is so_far next set history h legal =
    let parts = parts_at history entries i e d lt is in
    let here : IsLegal set ((history ++ take i entries) ++ e ∷ []) = legal_front set ((history ++ take i entries) ++ e ∷ []) (drop (i + 1) entries) (subst (IsLegal set) parts legal) in
    subst (Follows set now') (append_assoc history (take i entries) (e ∷ []) ∙ ap (λ (l : List Entry). history ++ l) (take_next entries i e d lt is ∙ ap (λ (n : ℕ). take n entries) (sym (add-one i))))
    (next set (history ++ take i entries) (so_far set history h legal) here)
