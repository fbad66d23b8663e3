-- What a loop over the transactions knows of the ceilings and of the blocking at a level.
use Rattle.std.proofs.Common.{◌≡◌, ℕ, ◌+◌, ◌<◌, ◌≤◌, ◌⊎◌, inl, inr, max, Bool, true, false, cond, not, ◌&&◌, ◌||◌, List, [], ◌∷◌, map, length, get_or, drop, refl, sym, ◌∙◌, ap, ⊎_elim, arith, drop-cons, add-one}
use Rattle.std.proofs.lemmas.Bool.{cases_lt, le-leb, lt-leb, and_parts, and_cases, not-true, not-false, false≢true}
use Rattle.std.proofs.lemmas.List.{drop_all}
use Rattle.std.specs.Prelude.{nat_lt, nat_le}
use Rattle.std.specs.List.{filter}
use Rattle.txn_set.specs.declared.decl.TxnDecl.{TxnDecl}
use Rattle.txn_set.specs.Set.{Set, no_txn, txn_of, may_read, may_write}
use Rattle.txn_set.specs.Ceilings.{greatest, prios, write_ceiling, absolute_ceiling, may_block, blocking}
use Rattle.law_times.specs.Assigned.{txns_with}
use Rattle.law_times.specs.Pass.{trial, is_placed}
use Rattle.law_times.proofs.Standing.{loud, blocking_le}
use Rattle.law_times.proofs.Moving.{with-length, with-at}
use Rattle.law_times.proofs.Exchanging.{Lowest, Own, Other, kind, trial-lowest, trial-own, trial-other}
use Rattle.txn_priorities.specs.Around.{around, around_set, trial_set}

-- the transactions from a place on

pub rest-with : (p : ℕ → ℕ) (ts : List TxnDecl) (i : ℕ) → i < length ts → drop i (txns_with p ts) ≡ record (get_or ts i no_txn) { prio = p i } ∷ drop (i + 1) (txns_with p ts)
rest-with p ts i inside =
    let rest = drop-cons (txns_with p ts) i no_txn (omega (arith, inside, with-length p ts)) in
    rw (add-one, sym (with-at p ts i inside)) rest

pub none-with : (p : ℕ → ℕ) (ts : List TxnDecl) (i : ℕ) → length ts ≤ i → drop i (txns_with p ts) ≡ []
none-with p ts i past = drop_all i (txns_with p ts) (omega (arith, past, with-length p ts))

around-placed : (placed : ℕ → Bool) (t : ℕ) → placed t ≡ true → around placed t ≡ 1
around-placed placed t e = rw e refl

around-free : (placed : ℕ → Bool) (t : ℕ) → placed t ≡ false → around placed t ≡ 3
around-free placed t e = rw e refl

-- ceilings

abbrev pub reached : (TxnDecl → Bool) → List TxnDecl → Bool
reached f ts = nat_le 2 (greatest (prios (filter f ts)))

over-low : (x g : ℕ) → x < 2 → nat_le 2 (max x g) ≡ nat_le 2 g
over-low x g low = ⊎_elim (λ (less : g < 2). lt-leb 2 (max x g) (omega arith) ∙ sym (lt-leb 2 g less)) (λ (le : 2 ≤ g). le-leb 2 (max x g) (omega arith) ∙ sym (le-leb 2 g le)) (cases_lt g 2)

reached-next-at : (b : Bool) (t : TxnDecl) (ts : List TxnDecl) → (b ≡ false) ⊎ (t.prio < 2) → nat_le 2 (greatest (prios (cond b (t ∷ ts) ts))) ≡ nat_le 2 (greatest (prios ts))
reached-next-at true t ts (inl e) = absurd (false≢true (sym e))
reached-next-at true t ts (inr low) = over-low t.prio (greatest (prios ts)) low
reached-next-at false t ts h = refl

reached-here-at : (b : Bool) (t : TxnDecl) (ts : List TxnDecl) → b ≡ true → 2 ≤ t.prio → nat_le 2 (greatest (prios (cond b (t ∷ ts) ts))) ≡ true
reached-here-at true t ts e high = le-leb 2 (max t.prio (greatest (prios ts))) (omega (arith, high))
reached-here-at false t ts e high = absurd (false≢true e)

module _ (f : TxnDecl → Bool) (same : (t : TxnDecl) (n : ℕ) → f (record t { prio = n }) ≡ f t) (placed : ℕ → Bool) (ts : List TxnDecl) (i : ℕ) where
  pub reached-next : i < length ts → (f (get_or ts i no_txn) ≡ false) ⊎ (placed i ≡ true) → reached f (drop (i + 1) (txns_with (around placed) ts)) ≡ reached f (drop i (txns_with (around placed) ts))
  reached-next inside h =
      let t : TxnDecl = record (get_or ts i no_txn) { prio = around placed i } in
      let low : (f t ≡ false) ⊎ (t.prio < 2) = elim h [
        | inl e ↦ inl (same (get_or ts i no_txn) (around placed i) ∙ e)
        | inr e ↦ inr (let one = around-placed placed i e in omega (arith, one))
      ] in
      rw (rest-with (around placed) ts i inside) (sym (reached-next-at (f t) t (filter f (drop (i + 1) (txns_with (around placed) ts))) low))

  pub reached-here : i < length ts → f (get_or ts i no_txn) ≡ true → placed i ≡ false → reached f (drop i (txns_with (around placed) ts)) ≡ true
  reached-here inside so free =
      let t : TxnDecl = record (get_or ts i no_txn) { prio = around placed i } in
      let three = around-free placed i free in
      rw (rest-with (around placed) ts i inside)
      (reached-here-at (f t) t (filter f (drop (i + 1) (txns_with (around placed) ts))) (same (get_or ts i no_txn) (around placed i) ∙ so) (omega (arith, three)))

  pub reached-none : length ts ≤ i → reached f (drop i (txns_with (around placed) ts)) ≡ false
  reached-none past = rw (none-with (around placed) ts i past) refl

-- the ceilings, as the loops go over the transactions

abbrev pub writers_from : Set → List ℕ → (item i : ℕ) → Bool
writers_from set prios item i = reached (λ t. may_write t item) (drop i (around_set set prios).txns)

abbrev pub users_from : Set → List ℕ → (item i : ℕ) → Bool
users_from set prios item i = reached (λ t. may_read t item || may_write t item) (drop i (around_set set prios).txns)

pub writers-start : (set : Set) (prios : List ℕ) (item : ℕ) → writers_from set prios item 0 ≡ nat_le 2 (write_ceiling (around_set set prios) item)
unfolding write_ceiling
writers-start set prios item = refl

pub users-start : (set : Set) (prios : List ℕ) (item : ℕ) → users_from set prios item 0 ≡ nat_le 2 (absolute_ceiling (around_set set prios) item)
unfolding absolute_ceiling
users-start set prios item = refl

passed-over : (placed named : Bool) → (not placed && named) ≡ false → (named ≡ false) ⊎ (placed ≡ true)
passed-over placed named e = elim (and_cases (not placed) named e) [
  | inl a ↦ inr (not-false placed a)
  | inr b ↦ inl b
]

pub writers-next : (set : Set) (prios : List ℕ) (item i : ℕ) (all : Bool) → i < length set.txns → (not (is_placed prios i) && may_write (txn_of set i) item) ≡ false → writers_from set prios item i ≡ all → writers_from set prios item (i + 1) ≡ all
writers-next set prios item i all inside e so-far =
    reached-next (λ t. may_write t item) (λ t n. refl) (is_placed prios) set.txns i inside (passed-over (is_placed prios i) (may_write (txn_of set i) item) e) ∙ so-far

pub users-next : (set : Set) (prios : List ℕ) (item i : ℕ) (all : Bool) → i < length set.txns → (not (is_placed prios i) && (may_read (txn_of set i) item || may_write (txn_of set i) item)) ≡ false → users_from set prios item i ≡ all → users_from set prios item (i + 1) ≡ all
users-next set prios item i all inside e so-far =
    reached-next (λ t. may_read t item || may_write t item) (λ t n. refl) (is_placed prios) set.txns i inside (passed-over (is_placed prios i) (may_read (txn_of set i) item || may_write (txn_of set i) item) e) ∙ so-far

pub writers-here : (set : Set) (prios : List ℕ) (item i : ℕ) (all : Bool) → i < length set.txns → (not (is_placed prios i) && may_write (txn_of set i) item) ≡ true → writers_from set prios item i ≡ all → true ≡ all
writers-here set prios item i all inside e so-far =
    let parts = and_parts (not (is_placed prios i)) (may_write (txn_of set i) item) e in
    sym (reached-here (λ t. may_write t item) (λ t n. refl) (is_placed prios) set.txns i inside parts.1 (not-true (is_placed prios i) parts.0)) ∙ so-far

pub users-here : (set : Set) (prios : List ℕ) (item i : ℕ) (all : Bool) → i < length set.txns → (not (is_placed prios i) && (may_read (txn_of set i) item || may_write (txn_of set i) item)) ≡ true → users_from set prios item i ≡ all → true ≡ all
users-here set prios item i all inside e so-far =
    let parts = and_parts (not (is_placed prios i)) (may_read (txn_of set i) item || may_write (txn_of set i) item) e in
    sym (reached-here (λ t. may_read t item || may_write t item) (λ t n. refl) (is_placed prios) set.txns i inside parts.1 (not-true (is_placed prios i) parts.0)) ∙ so-far

pub writers-end : (set : Set) (prios : List ℕ) (item i : ℕ) (all : Bool) → length set.txns ≤ i → writers_from set prios item i ≡ all → false ≡ all
writers-end set prios item i all past so-far = sym (reached-none (λ t. may_write t item) (λ t n. refl) (is_placed prios) set.txns i past) ∙ so-far

pub users-end : (set : Set) (prios : List ℕ) (item i : ℕ) (all : Bool) → length set.txns ≤ i → users_from set prios item i ≡ all → false ≡ all
users-end set prios item i all past so-far = sym (reached-none (λ t. may_read t item || may_write t item) (λ t n. refl) (is_placed prios) set.txns i past) ∙ so-far

-- blocking

abbrev pub blockers : Set → List ℕ → TxnDecl → Bool
blockers set prios t = nat_lt t.prio 2 && may_block (around_set set prios) 2 t

abbrev pub loudest : Set → List ℕ → ℕ → ℕ
loudest set prios i = greatest (map loud (filter (blockers set prios) (drop i (around_set set prios).txns)))

pub blocking-starts : (set : Set) (prios : List ℕ) → max 0 (loudest set prios 0) ≡ blocking (around_set set prios) 2
unfolding blocking
blocking-starts set prios = omega arith

loud-next-at : (b : Bool) (t : TxnDecl) (ts : List TxnDecl) (g total next : ℕ) → max g (greatest (map loud (cond b (t ∷ ts) ts))) ≡ total → next ≡ max g (cond b (loud t) 0) → max next (greatest (map loud ts)) ≡ total
loud-next-at true t ts g total next e is = omega (arith, e, is)
loud-next-at false t ts g total next e is = omega (arith, e, is)

lower-at : (placed : Bool) → nat_lt (cond placed 1 3) 2 ≡ placed
lower-at true = refl
lower-at false = refl

pub loud-next : (set : Set) (prios : List ℕ) (i g total next own : ℕ) → i < length set.txns → max g (loudest set prios i) ≡ total
    → own ≡ cond (is_placed prios i && may_block (around_set set prios) 2 (txn_of set i)) (loud (txn_of set i)) 0 → next ≡ max g own → max next (loudest set prios (i + 1)) ≡ total
loud-next set prios i g total next own inside so-far own-is is =
    let t : TxnDecl = record (txn_of set i) { prio = around (is_placed prios) i } in
    let seen : max g (greatest (map loud (filter (blockers set prios) (t ∷ drop (i + 1) (around_set set prios).txns)))) ≡ total =
    ap (λ (ts : List TxnDecl). max g (greatest (map loud (filter (blockers set prios) ts)))) (sym (rest-with (around (is_placed prios)) set.txns i inside)) ∙ so-far in
    let same : blockers set prios t ≡ (is_placed prios i && may_block (around_set set prios) 2 (txn_of set i)) =
    ap (λ (b : Bool). b && may_block (around_set set prios) 2 (txn_of set i)) (lower-at (is_placed prios i)) in
    let own-seen : own ≡ cond (blockers set prios t) (loud t) 0 = own-is ∙ sym (ap (λ (b : Bool). cond b (loud (txn_of set i)) 0) same) in
    loud-next-at (blockers set prios t) t (filter (blockers set prios) (drop (i + 1) (around_set set prios).txns)) g total next seen (is ∙ ap (λ (k : ℕ). max g k) own-seen)

pub blocking-ends : (set : Set) (prios : List ℕ) (i g total : ℕ) → length set.txns ≤ i → max g (loudest set prios i) ≡ total → g ≡ total
blocking-ends set prios i g total past e =
    let none : loudest set prios i ≡ 0 = rw (none-with (around (is_placed prios)) set.txns i past) refl in
    omega (arith, none, e)

-- the blocking of each of those that have no priority yet

pub blocking-trial : (set : Set) (prios : List ℕ) (tx : ℕ) → is_placed prios tx ≡ false → blocking (trial_set set prios tx) 2 ≡ blocking (around_set set prios) 2
blocking-trial set prios tx free =
    let a = blocking_le set (trial (is_placed prios) tx) (around (is_placed prios)) 2 2 (omega arith) (λ t less. (sides t).0) 0 (λ t less low. inl ((sides t).2 low)) in
    let b = blocking_le set (around (is_placed prios)) (trial (is_placed prios) tx) 2 2 (omega arith) (λ t less. (sides t).1) 0 (λ t less low. inl ((sides t).3 low)) in
    omega (arith, a, b)
  where
    sides : (t : ℕ) → (2 ≤ trial (is_placed prios) tx t → 2 ≤ around (is_placed prios) t) × (2 ≤ around (is_placed prios) t → 2 ≤ trial (is_placed prios) tx t)
        × (trial (is_placed prios) tx t < 2 → around (is_placed prios) t < 2) × (around (is_placed prios) t < 2 → trial (is_placed prios) tx t < 2)
    sides t = elim (kind (is_placed prios) tx t) [
      | Lowest e ↦ (let a = trial-lowest (is_placed prios) tx t e in let b = around-placed (is_placed prios) t e in (λ h. omega (arith, a, h), λ h. omega (arith, b, h), λ h. omega (arith, b), λ h. omega (arith, a)))
      | Own e ↦ (let a : trial (is_placed prios) tx t ≡ 2 = ap (trial (is_placed prios) tx) e ∙ trial-own (is_placed prios) tx free in let b : around (is_placed prios) t ≡ 3 = around-free (is_placed prios) t (ap (is_placed prios) e ∙ free) in (λ h. omega (arith, b), λ h. omega (arith, a), λ h. omega (arith, a, h), λ h. omega (arith, b, h)))
      | Other e ne ↦ (let a = trial-other (is_placed prios) tx t e ne in let b = around-free (is_placed prios) t e in (λ h. omega (arith, b), λ h. omega (arith, a), λ h. omega (arith, a, h), λ h. omega (arith, b, h)))
    ]
