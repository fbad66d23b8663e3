-- The rows of a set in falling priority have the demands and responses of its transactions, and lie in the ranges of the
-- response test.
use Rattle.std.proofs.Common.{◌≡◌, ℕ, zero, suc, ◌+◌, ◌-◌, ◌*◌, ◌<◌, ◌≤◌, Bool, true, false, cond, ◌&&◌, ltb, leb, List, [], ◌∷◌, map, length, get_or, take, Option, Some, refl, sym, ◌∙◌, ap, ⊎_elim, arith}
use Rattle.std.specs.Prelude.{if◌then◌else◌}
use Rattle.std.specs.List.{All, filter, sum_by}
use Rattle.std.specs.Int.{div_ceil}
use Rattle.std.proofs.lemmas.Bool.{cases_Bool}
use Rattle.std.proofs.lemmas.List.{get_or-map, take-map}
use Rattle.std.proofs.lemmas.List.Sums.{sum_by-cons}
use Rattle.std.proofs.lemmas.List.Elements.{All-get_or, All-weaker, All-map, All-filter, All-head, All-tail}
use Rattle.rt_base.specs.declared.ids.TxId.{TxId}
use Rattle.txn_set.specs.declared.decl.TxnDecl.{TxnDecl}
use Rattle.response_test.specs.declared.RespRow.{RespRow}
use Rattle.response_test.specs.Response as rows
use Rattle.response_test.specs.Response.{least_from, HasGoodRanges}
use Rattle.txn_set.specs.Set.{Set, txn_of, no_txn, HasGoodTimes, IsCompiled}
use Rattle.txn_set.specs.Ceilings.{greatest, blocking, may_block}
use Rattle.law_times.specs.Response.{part_of, higher_demand, demand, first_window, response}
use Rattle.set_admission.specs.Admission.{prio_of, falling, last_demand}
use Rattle.set_admission.specs.Rows.{resp_row, resp_rows}
use Rattle.set_admission.proofs.Falling.{length-falling, above-is, sum-falling}

-- the rows above one take what the higher transactions take

sum-map : {X Y : Type 0} (f : Y → ℕ) (r : X → Y) (xs : List X) → sum_by f (map r xs) ≡ sum_by (λ x. f (r x)) xs
sum-map f r [] = refl
sum-map f r (x ∷ xs) =
    let a = sum_by-cons f (r x) (map r xs) in
    let b = sum_by-cons (λ y. f (r y)) x xs in
    omega (arith, a, b, sum-map f r xs)

sum-filter : {X : Type 0} (f : X → ℕ) (p : X → Bool) (xs : List X) → sum_by f (filter p xs) ≡ sum_by (λ x. if p x then f x else 0) xs
sum-filter f p [] = refl
sum-filter f p (x ∷ xs) =
    let rest = sum-filter f p xs in
    let all = sum_by-cons (λ y. if p y then f y else 0) x xs in
    ⊎_elim
    (λ (passes : p x ≡ true). let e = rw passes at all in rw passes (sum_by-cons f x (filter p xs) ∙ (ap (λ n. f x + n) rest ∙ sym e)))
    (λ (fails : p x ≡ false). let e = rw fails at all in rw fails (rest ∙ (sym (zero-plus (sum_by (λ y. if p y then f y else 0) xs)) ∙ sym e)))
    (cases_Bool (p x))
  where
    zero-plus : (n : ℕ) → 0 + n ≡ n
    zero-plus n = omega arith

higher-sum : (p w : ℕ) (ts : List TxnDecl) → higher_demand p w ts ≡ sum_by (part_of p w) ts
higher-sum p w [] = refl
higher-sum p w (t ∷ ts) = ap (λ n. part_of p w t + n) (higher-sum p w ts) ∙ sym (sum_by-cons (part_of p w) t ts)

above-sum : (set : Set) → IsCompiled set → (i w : ℕ) (u : TxId) → i < length set.txns →
    sum_by (λ h. div_ceil w h.period * h.steps) (take i (resp_rows set (falling set))) ≡
    higher_demand (prio_of set (get_or (falling set) i u)) w set.txns
above-sum set ok i w u inside =
    let o = falling set in
    let p = prio_of set (get_or o i u) in
    let f : RespRow → ℕ = λ h. div_ceil w h.period * h.steps in
    let g : TxId → ℕ = λ tx. div_ceil w (txn_of set tx.0).period * (txn_of set tx.0).steps in
    let r : TxId → RespRow = λ tx. resp_row set (txn_of set tx.0) in
    let a : sum_by f (take i (map r o)) ≡ sum_by f (map r (take i o)) = ap (sum_by f) (take-map r i o) in
    let b : sum_by f (map r (take i o)) ≡ sum_by g (take i o) = sum-map f r (take i o) in
    let c : sum_by g (filter (λ v. ltb p (prio_of set v)) o) ≡ sum_by g (take i o) = ap (sum_by g) (above-is set ok i u inside) in
    let d : sum_by g (filter (λ v. ltb p (prio_of set v)) o) ≡ sum_by (λ v. if ltb p (txn_of set v.0).prio then g v else 0) o = sum-filter g (λ v. ltb p (prio_of set v)) o in
    let e : sum_by (λ v. part_of p w (txn_of set v.0)) o ≡ sum_by (part_of p w) set.txns = sum-falling set (part_of p w) in
    a ∙ (b ∙ (sym c ∙ (d ∙ (e ∙ sym (higher-sum p w set.txns)))))

row-is : (set : Set) (i : ℕ) (u : TxId) → i < length set.txns → rows.row_at (resp_rows set (falling set)) i ≡ resp_row set (txn_of set (get_or (falling set) i u).0)
row-is set i u inside = get_or-map (λ tx. resp_row set (txn_of set tx.0)) (falling set) i u rows.no_row (omega (arith, length-falling set))

demand-is : (set : Set) → IsCompiled set → (i w : ℕ) (u : TxId) → i < length set.txns →
    rows.demand (take i (resp_rows set (falling set))) (rows.row_at (resp_rows set (falling set)) i) w ≡ demand set (get_or (falling set) i u).0 w
unfolding demand
demand-is set ok i w u inside =
    rw (row-is set i u inside) (ap (λ n. (txn_of set (get_or (falling set) i u).0).steps + blocking set (prio_of set (get_or (falling set) i u)) + n) (above-sum set ok i w u inside))

-- the least window of a row is that of the transaction

least-is : (set : Set) (tx : ℕ) (p : ℕ → Bool) → ((w : ℕ) → p w ≡ leb (demand set tx w) w) → (first n : ℕ) → least_from p first n ≡ first_window set tx first n
least-is set tx p same first zero = refl
least-is set tx p same first (suc n) =
    let next : suc first ≡ first + 1 = omega arith in
    ap (λ (b : Bool). cond b (Some first) (least_from p (suc first) n)) (same first) ∙
    ap (λ (o : Option ℕ). cond (leb (demand set tx first) first) (Some first) o) (least-is set tx p same (suc first) n ∙ ap (λ (k : ℕ). first_window set tx k n) next)

pub response-at : (set : Set) → IsCompiled set → (i : ℕ) (u : TxId) → i < length set.txns → rows.response_at (resp_rows set (falling set)) i ≡ response set (get_or (falling set) i u).0
unfolding response rows.response
response-at set ok i u inside =
    let tx = (get_or (falling set) i u).0 in
    let test : ℕ → Bool = λ w. leb (rows.demand (take i (resp_rows set (falling set))) (rows.row_at (resp_rows set (falling set)) i) w) w in
    ap (λ (r : RespRow). least_from test 1 r.deadline) (row-is set i u inside) ∙
    least-is set tx test (λ w. ap (λ n. leb n w) (demand-is set ok i w u inside)) 1 (txn_of set tx).deadline

pub last-demand : (set : Set) → IsCompiled set → (i : ℕ) (u : TxId) → i < length set.txns → rows.last_demand (resp_rows set (falling set)) i ≡ last_demand set (get_or (falling set) i u)
last-demand set ok i u inside =
    demand-is set ok i (rows.row_at (resp_rows set (falling set)) i).deadline u inside ∙
    ap (λ (r : RespRow). demand set (get_or (falling set) i u).0 r.deadline) (row-is set i u inside)

-- the ranges

greatest-le : {X : Type 0} (f : X → ℕ) (b : ℕ) (xs : List X) → All (λ x. f x ≤ b) xs → greatest (map f xs) ≤ b
greatest-le f b [] all = omega arith
greatest-le f b (x ∷ xs) all = omega (arith, All-head (λ y. f y ≤ b) x xs all, greatest-le f b xs (All-tail (λ y. f y ≤ b) x xs all))

blocking-le : (set : Set) → IsCompiled set → (prio : ℕ) → blocking set prio ≤ 9999
unfolding blocking
blocking-le set ok prio =
    greatest-le (λ t. t.steps - t.quiet - 1) 9999 (filter (λ t. ltb t.prio prio && may_block set prio t) set.txns)
    (All-filter (λ t. ltb t.prio prio && may_block set prio t) (λ t. t.steps - t.quiet - 1 ≤ 9999) set.txns
    (All-weaker HasGoodTimes (λ t. t.steps - t.quiet - 1 ≤ 9999) (λ t good. omega (arith, good.steps.1)) set.txns ok.times))

good-row : (set : Set) → IsCompiled set → (txn : TxnDecl) → HasGoodTimes txn → HasGoodRanges (resp_row set txn)
good-row set ok txn good = record { steps = good.steps; blocking = blocking-le set ok txn.prio; period = good.period; deadline = good.deadline }

pub rows-good : (set : Set) → IsCompiled set → (txs : List TxId) → All (λ t. t.0 < length set.txns) txs → All HasGoodRanges (resp_rows set txs)
rows-good set ok txs inside =
    All-map HasGoodRanges (λ tx. resp_row set (txn_of set tx.0)) txs
    (All-weaker (λ (t : TxId). t.0 < length set.txns) (λ tx. HasGoodRanges (resp_row set (txn_of set tx.0)))
    (λ t less. good-row set ok (txn_of set t.0) (All-get_or HasGoodTimes set.txns t.0 no_txn less ok.times)) txs inside)
