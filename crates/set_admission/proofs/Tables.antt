-- The responses by transaction, and the first refusal in falling priority.
use Rattle.std.proofs.Common.{◌≡◌, ℕ, zero, suc, ◌+◌, ◌<◌, ◌≤◌, List, [], ◌∷◌, length, get_or, set, Option, None, Some, refl, sym, ◌∙◌, ap, subst, ⊎_elim, arith}
use Rattle.std.specs.Prelude.{IsSome}
use Rattle.std.specs.List.{All, Contains}
use Rattle.std.proofs.lemmas.Bool.{cases_lt, cases_eq}
use Rattle.std.proofs.lemmas.List.{get_or_default, get_or-set_same, get_or-set_other, length-map}
use Rattle.rt_base.specs.declared.ids.TxId.{TxId}
use Rattle.response_test.specs.Response.{AreResponses, IsFirstWithout}
use Rattle.item_model.specs.Work.{first_of_both}
use Rattle.txn_set.specs.Set.{Set, txn_of, IsCompiled}
use Rattle.law_times.specs.Response.{response, demand}
use Rattle.set_admission.specs.declared.error.AdmitError.{AdmitError}
use Rattle.set_admission.specs.declared.error.AdmitError.TheVariants.{NotSchedulable, TooOld, TooApart, OutOfMemory}
use Rattle.set_admission.specs.Bounds.{AreResponsesOf}
use Rattle.set_admission.specs.Admission.{falling, first_refusal, where_none, last_demand, not_schedulable, too_old, too_apart, refusal, Refuses}
use Rattle.set_admission.specs.Rows.{resp_row, resp_rows}
use Rattle.set_admission.proofs.Falling.{falling-inside, length-falling, falling-has}
use Rattle.set_admission.proofs.Link.{response-at, last-demand as last-demand-is}

length-resp_rows : (s : Set) (txs : List TxId) → length (resp_rows s txs) ≡ length txs
length-resp_rows s txs = length-map txs (λ tx. resp_row s (txn_of s tx.0))

answer-at : (s : Set) → IsCompiled s → (answers : List ℕ) → AreResponses (resp_rows s (falling s)) answers → (k : ℕ) (d : TxId) → k < length (falling s) → response s (get_or (falling s) k d).0 ≡ Some (get_or answers k 0)
answer-at s ok answers found k d inside = sym (response-at s ok k d (omega (arith, length-falling s))) ∙ found.each k (omega (arith, length-resp_rows s (falling s)))

pub answer-is : (s : Set) → IsCompiled s → (order : List TxId) → order ≡ falling s → (answers : List ℕ) → AreResponses (resp_rows s order) answers → (k : ℕ) (d : TxId) → k < length order → response s (get_or order k d).0 ≡ Some (get_or answers k 0)
answer-is s ok order is answers found k d inside =
    subst
    (λ (o : List TxId). AreResponses (resp_rows s o) answers → k < length o → response s (get_or o k d).0 ≡ Some (get_or answers k 0))
    (sym is) (λ h below. answer-at s ok answers h k d below) found inside

pub table-more : (s : Set) (order : List TxId) (found : List ℕ) (rank v : ℕ) (u : TxId) → rank < length order → (get_or order rank u).0 < length found → response s (get_or order rank u).0 ≡ Some v
    → ((k : ℕ) (d : TxId) → k < rank → response s (get_or order k d).0 ≡ Some (get_or found (get_or order k d).0 0))
    → (k : ℕ) (d : TxId) → k < rank + 1 → response s (get_or order k d).0 ≡ Some (get_or (set found (get_or order rank u).0 v) (get_or order k d).0 0)
table-more s order found rank v u here inside is each k d below =
    ⊎_elim
    (λ (same : (get_or order k d).0 ≡ (get_or order rank u).0). rw (same, get_or-set_same found (get_or order rank u).0 v 0 inside) is)
    (λ (other : (get_or order k d).0 ≡ (get_or order rank u).0 → ⊥).
    ⊎_elim
    (λ (early : k < rank). each k d early ∙ ap Some (sym (get_or-set_other found (get_or order rank u).0 (get_or order k d).0 v 0 other)))
    (λ (late : rank ≤ k).
    let e : k ≡ rank = omega arith in
    let at : (get_or order k d).0 ≡ (get_or order rank d).0 = ap (λ n. (get_or order n d).0) e in
    let by : (get_or order rank d).0 ≡ (get_or order rank u).0 = ap (λ (t : TxId). t.0) (get_or_default order rank d u here) in
    absurd (other (at ∙ by)))
    (cases_lt k rank))
    (cases_eq (get_or order k d).0 (get_or order rank u).0)

pub order-inside : (s : Set) (order : List TxId) → order ≡ falling s → All (λ t. t.0 < length s.txns) order
order-inside s order is = subst (λ (o : List TxId). All (λ t. t.0 < length s.txns) o) (sym is) (falling-inside s)

pub length-order : (s : Set) (order : List TxId) → order ≡ falling s → length order ≡ length s.txns
length-order s order is = ap length is ∙ length-falling s

pub place-inside : (s : Set) (order : List TxId) (found : List ℕ) → order ≡ falling s → length found ≡ length order → (rank : ℕ) (d : TxId) → rank < length order → (get_or order rank d).0 < length found
place-inside s order found is one_each rank d below = omega (arith, order-inside s order is rank d below, length-order s order is)

pub table-all : (s : Set) (order : List TxId) (found : List ℕ) → order ≡ falling s → length found ≡ length order → ((k : ℕ) (d : TxId) → k < length order → response s (get_or order k d).0 ≡ Some (get_or found (get_or order k d).0 0)) → AreResponsesOf s found
table-all s order found is one_each each = record {
  one_each = one_each ∙ length-order s order is;
  each = at;
}
  where
    at : (tx : ℕ) → tx < length s.txns → response s tx ≡ Some (get_or found tx 0)
    at tx inside =
        let d : TxId = record { 0 = tx } in
        let (k, below, e) = subst (λ (o : List TxId). Contains o d) (sym is) (falling-has s tx inside) in
        let here : (get_or order k d).0 ≡ tx = ap (λ (t : TxId). t.0) (get_or_default order k d d below ∙ e) in
        rw here at (each k d below)

-- the first refusal

pub first-none : (refuses : TxId → Option AdmitError) (txs : List TxId) → ((k : ℕ) (d : TxId) → k < length txs → refuses (get_or txs k d) ≡ None) → first_refusal refuses txs ≡ None
first-none refuses [] none = refl
first-none refuses (tx ∷ txs) none =
    let head : refuses tx ≡ None = none 0 tx (omega arith) in
    rw head (first-none refuses txs (λ k d below. none (suc k) d (omega arith)))

first-at : (refuses : TxId → Option AdmitError) (txs : List TxId) (i : ℕ) (u : TxId) (e : AdmitError) → i < length txs → ((k : ℕ) (d : TxId) → k < i → refuses (get_or txs k d) ≡ None) → refuses (get_or txs i u) ≡ Some e → first_refusal refuses txs ≡ Some e
first-at refuses [] i u e inside none here = absurd (omega arith)
first-at refuses (tx ∷ txs) zero u e inside none here = rw here refl
first-at refuses (tx ∷ txs) (suc i) u e inside none here =
    let head : refuses tx ≡ None = none 0 tx (omega arith) in
    rw head (first-at refuses txs i u e (omega arith) (λ k d below. none (suc k) d (omega arith)) here)

no-refusal : (o : Option ℕ) (e : AdmitError) → IsSome o → where_none o e ≡ None
no-refusal None e some = cc
no-refusal (Some w) e some = refl

without-at : (s : Set) → IsCompiled s → (row d : ℕ) (u : TxId) → IsFirstWithout (resp_rows s (falling s)) row d → first_refusal (not_schedulable s) (falling s) ≡ Some (NotSchedulable (get_or (falling s) row u) d)
without-at s ok row d u h =
    let len = length-resp_rows s (falling s) in
    let inside : row < length (falling s) = omega (arith, h.in_range) in
    let in' : row < length s.txns = omega (arith, length-falling s) in
    let none : response s (get_or (falling s) row u).0 ≡ None = sym (response-at s ok row u in') ∙ h.none in
    let last : d ≡ last_demand s (get_or (falling s) row u) = h.is ∙ last-demand-is s ok row u in' in
    first-at (not_schedulable s) (falling s) row u (NotSchedulable (get_or (falling s) row u) d) inside
    (λ k v below. no-refusal (response s (get_or (falling s) k v).0) (NotSchedulable (get_or (falling s) k v) (last_demand s (get_or (falling s) k v))) (subst IsSome (response-at s ok k v (omega arith)) (h.before k below)))
    (rw (none, last) refl)

pub not-schedulable-is : (s : Set) → IsCompiled s → (order : List TxId) → order ≡ falling s → (row d : ℕ) (u : TxId) → IsFirstWithout (resp_rows s order) row d → first_refusal (not_schedulable s) (falling s) ≡ Some (NotSchedulable (get_or order row u) d)
not-schedulable-is s ok order is row d u first =
    subst
    (λ (o : List TxId). IsFirstWithout (resp_rows s o) row d → first_refusal (not_schedulable s) (falling s) ≡ Some (NotSchedulable (get_or o row u) d))
    (sym is) (without-at s ok row d u) first

some-is : (o : Option ℕ) (w : ℕ) (e : AdmitError) → o ≡ Some w → where_none o e ≡ None
some-is o w e is = rw is refl

pub schedulable : (s : Set) (answers : List ℕ) → AreResponsesOf s answers → first_refusal (not_schedulable s) (falling s) ≡ None
schedulable s answers found =
    first-none (not_schedulable s) (falling s)
    (λ k d below.
    let in' : (get_or (falling s) k d).0 < length s.txns = falling-inside s k d below in
    some-is (response s (get_or (falling s) k d).0) (get_or answers (get_or (falling s) k d).0 0) (NotSchedulable (get_or (falling s) k d) (last_demand s (get_or (falling s) k d))) (found.each (get_or (falling s) k d).0 in'))

-- the refusal of the set, from those of its parts

refuses-some : (found : Option AdmitError) (e : AdmitError) → found ≡ Some e → Refuses found e
refuses-some found OutOfMemory is = tt
refuses-some found other is = is

refuses-first : (found rest : Option AdmitError) (e : AdmitError) → Refuses found e → Refuses (first_of_both found rest) e
refuses-first found rest (NotSchedulable tx demand) is = rw is refl
refuses-first found rest (TooOld tx item age) is = rw is refl
refuses-first found rest (TooApart tx place age) is = rw is refl
refuses-first found rest OutOfMemory is = tt

pub refusal-first : (s : Set) (e : AdmitError) → Refuses (first_refusal (not_schedulable s) (falling s)) e → Refuses (refusal s) e
unfolding refusal
refusal-first s e h = refuses-first (first_refusal (not_schedulable s) (falling s)) _ e h

pub refusal-old : (s : Set) (answers : List ℕ) (order : List TxId) (e : AdmitError) → AreResponsesOf s answers → order ≡ falling s → Some e ≡ first_refusal (too_old s) order → Refuses (refusal s) e
unfolding refusal
refusal-old s answers order e found is old =
    let none = schedulable s answers found in
    let here : first_refusal (too_old s) (falling s) ≡ Some e = ap (first_refusal (too_old s)) (sym is) ∙ sym old in
    refuses-some (refusal s) e (rw (none, here) refl)

pub refusal-apart : (s : Set) (answers : List ℕ) (first second : List TxId) (e : AdmitError) → AreResponsesOf s answers → first ≡ falling s → first_refusal (too_old s) first ≡ None → second ≡ falling s → Some e ≡ first_refusal (too_apart s) second → Refuses (refusal s) e
unfolding refusal
refusal-apart s answers first second e found is old is' apart =
    let none = schedulable s answers found in
    let fresh : first_refusal (too_old s) (falling s) ≡ None = ap (first_refusal (too_old s)) (sym is) ∙ old in
    let here : first_refusal (too_apart s) (falling s) ≡ Some e = ap (first_refusal (too_apart s)) (sym is') ∙ sym apart in
    refuses-some (refusal s) e (rw (none, fresh, here) refl)

pub refusal-none : (s : Set) (answers : List ℕ) (first second : List TxId) → AreResponsesOf s answers → first ≡ falling s → first_refusal (too_old s) first ≡ None → second ≡ falling s → first_refusal (too_apart s) second ≡ None → refusal s ≡ None
unfolding refusal
refusal-none s answers first second found is old is' apart =
    let none = schedulable s answers found in
    let fresh : first_refusal (too_old s) (falling s) ≡ None = ap (first_refusal (too_old s)) (sym is) ∙ old in
    let near : first_refusal (too_apart s) (falling s) ≡ None = ap (first_refusal (too_apart s)) (sym is') ∙ apart in
    rw (none, fresh, near) refl
