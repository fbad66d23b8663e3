-- A transaction goes by its priority, so that other steps of one are other step counts by a rule on transactions.
use Rattle.std.proofs.Common.{◌≡◌, ℕ, zero, suc, ◌<◌, ◌≤◌, ◌==◌, ◌≢◌, Bool, true, false, cond, List, [], ◌∷◌, map, length, get_or, set, refl, sym, ◌∙◌, ap, ap₂, arith}
use Rattle.std.proofs.lemmas.Bool.{eq-eqb, ne_eqb}
use Rattle.std.specs.List.{All, AllPairs}
use Rattle.std.proofs.lemmas.List.Elements.{All-head, All-tail}
use Rattle.txn_set.specs.declared.decl.TxnDecl.{TxnDecl}
use Rattle.txn_set.specs.Set.{Set, no_txn, txn_of, IsCompiled}
use Rattle.scale_margin.specs.Scaled.{StepCounts, counted_txn, counted, AreFewer}
use Rattle.scale_margin.specs.Steps.{stepped, with_steps}

-- so many steps of the transaction of this priority
abbrev pub counts_of : ℕ → ℕ → StepCounts
counts_of prio count = record { steps = λ t. cond (t.prio == prio) count t.steps; quiet = λ t. t.quiet }

abbrev pub counts_at : Set → ℕ → ℕ → StepCounts
counts_at set tx count = counts_of (txn_of set tx).prio count

its_own : (p k : ℕ) (t : TxnDecl) → t.prio ≡ p → counted_txn (counts_of p k) t ≡ stepped t k
its_own p k t e = ap (λ (b : Bool). stepped t (cond b k t.steps)) (eq-eqb t.prio p e)

another : (p k : ℕ) (t : TxnDecl) → (t.prio ≡ p → ⊥) → counted_txn (counts_of p k) t ≡ t
another p k t e = ap (λ (b : Bool). stepped t (cond b k t.steps)) (ne_eqb t.prio p e)

all_others : (p k : ℕ) (ts : List TxnDecl) → All (λ t. t.prio ≢ p) ts → ts ≡ map (counted_txn (counts_of p k)) ts
all_others p k [] all = refl
all_others p k (t ∷ ts) all =
    ap₂ (λ (x : TxnDecl) (xs : List TxnDecl). x ∷ xs) (sym (another p k t (All-head (λ (u : TxnDecl). u.prio ≢ p) t ts all)))
    (all_others p k ts (All-tail (λ (u : TxnDecl). u.prio ≢ p) t ts all))

abbrev Apart : List TxnDecl → Type 0
Apart ts = AllPairs (λ a b. a.prio ≢ b.prio) ts

rest_apart : (t : TxnDecl) (ts : List TxnDecl) → Apart (t ∷ ts) → Apart ts
rest_apart t ts h = λ i j d lt below. h (suc i) (suc j) d (omega (arith, lt)) (omega (arith, below))

one_stepped : (p k : ℕ) (ts : List TxnDecl) (tx : ℕ) → tx < length ts → Apart ts → (get_or ts tx no_txn).prio ≡ p
    → set ts tx (stepped (get_or ts tx no_txn) k) ≡ map (counted_txn (counts_of p k)) ts
one_stepped p k [] tx lt apart e = absurd (omega (arith, lt))
one_stepped p k (t ∷ ts) zero lt apart e =
    ap₂ (λ (x : TxnDecl) (xs : List TxnDecl). x ∷ xs) (sym (its_own p k t e))
    (all_others p k ts (λ i d below same. apart 0 (suc i) d (omega arith) (omega (arith, below)) (e ∙ sym same)))
one_stepped p k (t ∷ ts) (suc tx) lt apart e =
    ap₂ (λ (x : TxnDecl) (xs : List TxnDecl). x ∷ xs)
    (sym (another p k t (λ same. apart 0 (suc tx) no_txn (omega arith) lt (same ∙ sym e))))
    (one_stepped p k ts tx (omega (arith, lt)) (rest_apart t ts apart) e)

pub as_counted : (s : Set) (tx k : ℕ) → IsCompiled s → tx < length s.txns → with_steps s tx k ≡ counted (counts_at s tx k) s
as_counted s tx k ok inside =
    ap (λ (ts : List TxnDecl). record s { txns = ts }) (one_stepped (txn_of s tx).prio k s.txns tx inside ok.prios refl)

fewer_at : (b : Bool) (j k own : ℕ) → j ≤ k → cond b j own ≤ cond b k own
fewer_at true j k own le = le
fewer_at false j k own le = omega arith

pub are_fewer : (s : Set) (tx j k : ℕ) → j ≤ k → AreFewer (counts_at s tx j) (counts_at s tx k)
are_fewer s tx j k le = record {
  steps = λ t. fewer_at (t.prio == (txn_of s tx).prio) j k t.steps le;
  after_quiet = λ t. let rise = fewer_at (t.prio == (txn_of s tx).prio) j k t.steps le in omega (arith, rise);
}
