-- What a set keeps whatever its step counts are: all parts of its declarations but the steps, and so its ceilings, its
-- writers and, by the same responses, its age bounds.
use Rattle.std.proofs.Common.{◌≡◌, ℕ, zero, suc, ◌+◌, Bool, true, false, cond, ◌||◌, List, [], ◌∷◌, map, get_or, refl, ◌∙◌, ap, ap₂}
use Rattle.std.proofs.Math.Path.{fun_ext}
use Rattle.std.specs.Prelude.{nat_le}
use Rattle.std.specs.List.{filter, list_any}
use Rattle.rt_base.specs.declared.ids.ItemId.{ItemId}
use Rattle.item_model.specs.Kinds.{is_dated, is_derived}
use Rattle.txn_set.specs.declared.decl.TxnDecl.{TxnDecl}
use Rattle.txn_set.specs.Set.{Set, no_txn, txn_of, may_read, may_write}
use Rattle.txn_set.specs.Ceilings.{greatest, prios, write_ceiling, absolute_ceiling, may_block}
use Rattle.law_times.specs.Ages.{greatest_read, first_writer, writer_of, age_by}
use Rattle.scale_margin.specs.Scaled.{StepCounts, counted_txn, counted}

pub field_at : {A : Type 0} (f : TxnDecl → A) (c : StepCounts) → ((t : TxnDecl) → f (counted_txn c t) ≡ f t) → (ts : List TxnDecl) (tx : ℕ)
    → f (get_or (map (counted_txn c) ts) tx no_txn) ≡ f (get_or ts tx no_txn)
field_at f c same [] tx = refl
field_at f c same (t ∷ ts) zero = same t
field_at f c same (t ∷ ts) (suc tx) = field_at f c same ts tx

pub prio_same : (c : StepCounts) (set : Set) (tx : ℕ) → (txn_of (counted c set) tx).prio ≡ (txn_of set tx).prio
prio_same c set tx = field_at (λ (t : TxnDecl). t.prio) c (λ t. refl) set.txns tx

pub period_same : (c : StepCounts) (set : Set) (tx : ℕ) → (txn_of (counted c set) tx).period ≡ (txn_of set tx).period
period_same c set tx = field_at (λ (t : TxnDecl). t.period) c (λ t. refl) set.txns tx

pub deadline_same : (c : StepCounts) (set : Set) (tx : ℕ) → (txn_of (counted c set) tx).deadline ≡ (txn_of set tx).deadline
deadline_same c set tx = field_at (λ (t : TxnDecl). t.deadline) c (λ t. refl) set.txns tx

pub reads_same : (c : StepCounts) (set : Set) (tx : ℕ) → (txn_of (counted c set) tx).reads ≡ (txn_of set tx).reads
reads_same c set tx = field_at (λ (t : TxnDecl). t.reads) c (λ t. refl) set.txns tx

pub writes_same : (c : StepCounts) (set : Set) (tx : ℕ) → (txn_of (counted c set) tx).writes ≡ (txn_of set tx).writes
writes_same c set tx = field_at (λ (t : TxnDecl). t.writes) c (λ t. refl) set.txns tx

-- ceilings, and who may block whom

prios_at : (b : Bool) (x y : TxnDecl) (xs ys : List TxnDecl) → x.prio ≡ y.prio → prios xs ≡ prios ys → prios (cond b (x ∷ xs) xs) ≡ prios (cond b (y ∷ ys) ys)
prios_at true x y xs ys e rest = ap₂ (λ (n : ℕ) (ns : List ℕ). n ∷ ns) e rest
prios_at false x y xs ys e rest = rest

prios_same : (c : StepCounts) (p : TxnDecl → Bool) → ((t : TxnDecl) → p (counted_txn c t) ≡ p t) → (ts : List TxnDecl) → prios (filter p (map (counted_txn c) ts)) ≡ prios (filter p ts)
prios_same c p same [] = refl
prios_same c p same (t ∷ ts) = rw (same t) (prios_at (p t) (counted_txn c t) t (filter p (map (counted_txn c) ts)) (filter p ts) refl (prios_same c p same ts))

write_same : (c : StepCounts) (set : Set) (item : ℕ) → write_ceiling (counted c set) item ≡ write_ceiling set item
unfolding write_ceiling
write_same c set item = ap greatest (prios_same c (λ t. may_write t item) (λ t. refl) set.txns)

absolute_same : (c : StepCounts) (set : Set) (item : ℕ) → absolute_ceiling (counted c set) item ≡ absolute_ceiling set item
unfolding absolute_ceiling
absolute_same c set item = ap greatest (prios_same c (λ t. may_read t item || may_write t item) (λ t. refl) set.txns)

pub may_block_same : (c : StepCounts) (set : Set) (prio : ℕ) (t : TxnDecl) → may_block (counted c set) prio (counted_txn c t) ≡ may_block set prio t
may_block_same c set prio t =
    let w : write_ceiling (counted c set) ≡ write_ceiling set = fun_ext (write_same c set) in
    let a : absolute_ceiling (counted c set) ≡ absolute_ceiling set = fun_ext (absolute_same c set) in
    ap₂ (λ (f g : ℕ → ℕ). list_any (λ (i : ItemId). nat_le prio (f i.0)) t.reads || list_any (λ (i : ItemId). nat_le prio (g i.0)) t.writes) w a

-- age bounds

first_same : (c : StepCounts) (ts : List TxnDecl) (item : ℕ) → first_writer (map (counted_txn c) ts) item ≡ first_writer ts item
first_same c [] item = refl
first_same c (t ∷ ts) item = ap (λ (n : ℕ). cond (may_write t item) 0 (suc n)) (first_same c ts item)

read_same : (c : StepCounts) (set : Set) (bound : ℕ → ℕ) (tx : ℕ) → greatest_read (counted c set) bound tx ≡ greatest_read set bound tx
read_same c set bound tx = ap (λ (xs : List ItemId). greatest (map (λ i. bound i.0) (filter (λ i. is_dated set.items i.0) xs))) (reads_same c set tx)

same_sum : (d : Bool) (x x' y y' z z' : ℕ) → x ≡ x' → y ≡ y' → z ≡ z' → x + y + cond d z 0 ≡ x' + y' + cond d z' 0
same_sum d x x' y y' z z' a b e = cc

pub age_same : (c : StepCounts) (set : Set) (response : ℕ → ℕ) (n item : ℕ) → age_by (counted c set) response n item ≡ age_by set response n item
age_same c set response zero item = refl
age_same c set response (suc n) item =
    let w : writer_of (counted c set) item ≡ writer_of set item = first_same c set.txns item in
    let p : (txn_of (counted c set) (writer_of (counted c set) item)).period ≡ (txn_of set (writer_of set item)).period = period_same c set (writer_of (counted c set) item) ∙ ap (λ (k : ℕ). (txn_of set k).period) w in
    let below : age_by (counted c set) response n ≡ age_by set response n = fun_ext (age_same c set response n) in
    let g : greatest_read (counted c set) (age_by (counted c set) response n) (writer_of (counted c set) item) ≡ greatest_read set (age_by set response n) (writer_of set item) =
    read_same c set (age_by (counted c set) response n) (writer_of (counted c set) item) ∙ ap₂ (λ (f : ℕ → ℕ) (k : ℕ). greatest_read set f k) below w in
    same_sum (is_derived set.items item) _ _ _ _ _ _ p (ap response w) g
