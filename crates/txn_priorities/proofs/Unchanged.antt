-- What other priorities leave as it is.
use Rattle.std.proofs.Common.{◌≡◌, ℕ, zero, suc, ◌+◌, ◌<◌, ◌≤◌, List, [], ◌∷◌, ◌++◌, length, take, get_or, refl, sym, ap, ap₂, ◌∙◌, add-one, arith}
use Rattle.std.proofs.Math.Seq.{take-suc}
use Rattle.std.proofs.lemmas.List.{take_all}
use Rattle.txn_set.specs.declared.decl.TxnDecl.{TxnDecl}
use Rattle.txn_set.specs.Set.{no_txn}
use Rattle.law_times.specs.Assigned.{txns_with}
use Rattle.law_times.proofs.Moving.{with-length}

pub reads-with : (p : ℕ → ℕ) (ts : List TxnDecl) (tx : ℕ) → (get_or (txns_with p ts) tx no_txn).reads ≡ (get_or ts tx no_txn).reads
reads-with p [] tx = refl
reads-with p (t ∷ ts) zero = refl
reads-with p (t ∷ ts) (suc tx) = reads-with (λ i. p (suc i)) ts tx

pub writes-with : (p : ℕ → ℕ) (ts : List TxnDecl) (tx : ℕ) → (get_or (txns_with p ts) tx no_txn).writes ≡ (get_or ts tx no_txn).writes
writes-with p [] tx = refl
writes-with p (t ∷ ts) zero = refl
writes-with p (t ∷ ts) (suc tx) = writes-with (λ i. p (suc i)) ts tx

-- a transaction, whatever stands for one that is not there
pub get-with : (p : ℕ → ℕ) (ts : List TxnDecl) (tx : ℕ) (d : TxnDecl) → tx < length ts → get_or (txns_with p ts) tx d ≡ record (get_or ts tx d) { prio = p tx }
get-with p [] tx d inside = absurd (omega (arith, inside))
get-with p (t ∷ ts) zero d inside = refl
get-with p (t ∷ ts) (suc tx) d inside = get-with (λ i. p (suc i)) ts tx d (omega (arith, inside))

-- the first ones

pub next-with : (p : ℕ → ℕ) (ts : List TxnDecl) (tx : ℕ) (x y : TxnDecl) (n : ℕ) (xs new : List TxnDecl) → tx < length ts → x ≡ get_or ts tx x → n ≡ p tx → y ≡ record x { prio = n }
    → xs ≡ take tx (txns_with p ts) → new ≡ xs ++ y ∷ [] → new ≡ take (tx + 1) (txns_with p ts)
next-with p ts tx x y n xs new inside read prio made so-far pushed =
    let all = txns_with p ts in
    let own : y ≡ get_or all tx x = made ∙ ap₂ (λ (t : TxnDecl) (k : ℕ). record t { prio = k }) read prio ∙ sym (get-with p ts tx x inside) in
    pushed
    ∙ ap₂ (λ (l : List TxnDecl) (t : TxnDecl). l ++ t ∷ []) so-far own
    ∙ sym (take-suc all tx x (omega (arith, inside, with-length p ts)))
    ∙ ap (λ (k : ℕ). take k all) (sym (add-one tx))

pub all-with : (p : ℕ → ℕ) (ts xs : List TxnDecl) (tx : ℕ) → length ts ≤ tx → xs ≡ take tx (txns_with p ts) → xs ≡ txns_with p ts
all-with p ts xs tx past so-far = so-far ∙ take_all tx (txns_with p ts) (omega (arith, past, with-length p ts))
