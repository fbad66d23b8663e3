-- What each rule of the refusal means: nothing is refused by it exactly where the set meets it.
use Rattle.std.proofs.Common.{◌≡◌, ◌≢◌, ℕ, suc, ◌+◌, ◌^◌, ◌<◌, ◌≤◌, Bool, true, false, not, ltb, leb, eqb, ⊎_elim, List, [], ◌∷◌, length, get_or, drop, Option, None, Some, refl, sym, arith, zero-add, get_or-drop}
use Rattle.std.specs.Prelude.{IsTrue}
use Rattle.std.specs.List.{All, AllPairs, list_all}
use Rattle.std.specs.Option.{option_map}
use Rattle.std.proofs.lemmas.Bool.{cases_lt, cases_Bool, both_ways, not-false, not_from_true, and_parts, and_from, or_parts, or_from, ltb-false, le-ltb, lt-ltb, ltb-true, leb-true, le-leb, eqb-true, eq-eqb, false_from_ne_true}
use Rattle.std.proofs.lemmas.List.Sums.{fails_before_first, passes_at_first, AllPass-from_list_all, list_all-from_AllPass}
use Rattle.rt_base.specs.declared.ids.TogetherDecl.{TogetherDecl}
use Rattle.item_model.specs.declared.decl.ItemDecl.{ItemDecl}
use Rattle.item_model.specs.Kinds.{is_dated}
use Rattle.txn_set.specs.declared.decl.TxnDecl.{TxnDecl}
use Rattle.txn_set.specs.Set.{Set, no_txn, txn_of, may_write, HasGoodTimes, IsTheWriter, Walk}
use Rattle.txn_compiler.specs.declared.error.CompileError.{CompileError}
use Rattle.txn_compiler.specs.Graph.{writers_of, reaches}
use Rattle.txn_compiler.specs.Refusal.{given, first_with, same_prio, same_prio_at, is_within, bad_time, bad_times, bad_times_at, no_writer, no_writer_at, no_writer_of, two_writers, two_writers_at, two_writers_of, cyclic_derivation, cyclic_at, is_bad_group, bad_together, bad_together_at}
use Rattle.txn_compiler.proofs.Refusing.{of-both-none, none-each, none-all, one-writer-of-dated, no_item}
use Rattle.txn_compiler.proofs.Single.{first-writer, nobody-writes, one-writer}
use Rattle.txn_compiler.proofs.Derivation.{derived-inside, reaches-by-walks}

pub given-none : {A : Type 0} (b : Bool) (a : A) → given b a ≡ None → b ≡ false
given-none true a h = absurd (cc)
given-none false a h = refl

pub none-given : {A : Type 0} (b : Bool) (a : A) → b ≡ false → given b a ≡ None
none-given b a h = rw h refl

-- a limit
pub few-from : (most count : ℕ) (e : CompileError) → given (ltb most count) e ≡ None → count ≤ most
few-from most count e h = ltb-false most count (given-none (ltb most count) e h)

pub few-to : (most count : ℕ) (e : CompileError) → count ≤ most → given (ltb most count) e ≡ None
few-to most count e h = none-given (ltb most count) e (le-ltb most count h)

-- distinct priorities
pub prios-from : (txns : List TxnDecl) → same_prio txns ≡ None → AllPairs (λ a b. a.prio ≢ b.prio) txns
prios-from txns h i j d less inside same =
    let at : same_prio_at txns j (get_or txns j d) ≡ None = rw zero-add at (none-each (same_prio_at txns) 0 txns h j d inside) in
    let first : j ≤ first_with txns (get_or txns j d).prio = ltb-false (first_with txns (get_or txns j d).prio) j (given-none (ltb (first_with txns (get_or txns j d).prio) j) _ at) in
    let fails = fails_before_first (λ t. eqb t.prio (get_or txns j d).prio) txns i d (omega (arith, first)) in
    both_ways (eqb (get_or txns i d).prio (get_or txns j d).prio) fails (eq-eqb (get_or txns i d).prio (get_or txns j d).prio same)

pub prios-to : (txns : List TxnDecl) → AllPairs (λ a b. a.prio ≢ b.prio) txns → same_prio txns ≡ None
prios-to txns h =
    none-all (same_prio_at txns) 0 txns
    (λ k d inside.
    let late : k ≤ first_with txns (get_or txns k d).prio = first-late k d inside in
    none-given (ltb (first_with txns (get_or txns k d).prio) (0 + k)) _ (le-ltb (first_with txns (get_or txns k d).prio) (0 + k) (omega arith)))
  where
    first-late : (k : ℕ) (d : TxnDecl) → k < length txns → k ≤ first_with txns (get_or txns k d).prio
    first-late k d inside =
        ⊎_elim
        (λ (early : first_with txns (get_or txns k d).prio < k).
        let passes = passes_at_first (λ t. eqb t.prio (get_or txns k d).prio) txns d (omega (arith, early)) in
        absurd
        (h (first_with txns (get_or txns k d).prio) k d early inside
        (eqb-true (get_or txns (first_with txns (get_or txns k d).prio) d).prio (get_or txns k d).prio passes)))
        (λ (le : k ≤ first_with txns (get_or txns k d).prio). le)
        (cases_lt (first_with txns (get_or txns k d).prio) k)

-- the time ranges

within-from : (low n high : ℕ) → not (is_within low n high) ≡ false → (low ≤ n) × (n ≤ high)
within-from low n high h = let both = and_parts (leb low n) (leb n high) (not-false (is_within low n high) h) in (leb-true low n both.0, leb-true n high both.1)

within-to : (low n high : ℕ) → (low ≤ n) × (n ≤ high) → not (is_within low n high) ≡ false
within-to low n high h = not_from_true (is_within low n high) (and_from (leb low n) (leb n high) (le-leb low n h.0) (le-leb n high h.1))

time-from : (txn : TxnDecl) → bad_time txn ≡ None → HasGoodTimes txn
time-from txn h =
    let one = of-both-none _ _ h in
    let two = of-both-none _ _ one.1 in
    let three = of-both-none _ _ two.1 in
    let four = of-both-none _ _ three.1 in
    let five = of-both-none _ _ four.1 in
    let six = of-both-none _ _ five.1 in
    record {
      prio = within-from 1 txn.prio 1000 (given-none _ _ one.0);
      steps = within-from 1 txn.steps 10000 (given-none _ _ two.0);
      period = within-from 1 txn.period (2 ^ 30) (given-none _ _ three.0);
      deadline = within-from 1 txn.deadline txn.period (given-none _ _ four.0);
      offset = leb-true txn.offset txn.period (not-false _ (given-none _ _ five.0));
      quiet = ltb-true txn.quiet txn.steps (not-false _ (given-none _ _ six.0));
    }

time-to : (txn : TxnDecl) → HasGoodTimes txn → bad_time txn ≡ None
time-to txn h =
    rw (within-to 1 txn.prio 1000 h.prio, within-to 1 txn.steps 10000 h.steps, within-to 1 txn.period (2 ^ 30) h.period, within-to 1 txn.deadline txn.period h.deadline, le-leb txn.offset txn.period h.offset, lt-ltb txn.quiet txn.steps h.quiet)
    refl

map-none : {A B : Type 0} (f : A → B) (o : Option A) → option_map f o ≡ None → o ≡ None
map-none f None h = refl
map-none f (Some a) h = absurd (cc)

pub times-from : (txns : List TxnDecl) → bad_times txns ≡ None → All HasGoodTimes txns
times-from txns h = λ k d inside. time-from (get_or txns k d) (map-none _ (bad_time (get_or txns k d)) (none-each bad_times_at 0 txns h k d inside))

pub times-to : (txns : List TxnDecl) → All HasGoodTimes txns → bad_times txns ≡ None
times-to txns h = none-all bad_times_at 0 txns (λ k d inside. rw (time-to (get_or txns k d) (h k d inside)) refl)

-- single writers

pub written-from : (set : Set) → no_writer set.items set.txns ≡ None → two_writers set.items set.txns ≡ None → (item : ℕ) → IsTrue (is_dated set.items item) → (tx : ℕ) × IsTheWriter set item tx
written-from set none two item dated =
    let (a, is) = one-writer-of-dated set.items set.txns item none two dated in
    let one = one-writer set.txns item a is in
    (a, record { in_range = one.inside; writes = one.writes; alone = λ other writes. one.alone other writes })

no-writer-to : (set : Set) (item tx : ℕ) (writers : List ℕ) → writers_of set.txns item ≡ writers → IsTheWriter set item tx → no_writer_of item writers ≡ None
no-writer-to set item tx [] is the = absurd (both_ways (may_write (txn_of set tx) item) (nobody-writes item 0 set.txns is tx) the.writes)
no-writer-to set item tx (a ∷ others) is the = refl

two-writers-to : (set : Set) (item tx : ℕ) (writers : List ℕ) → writers_of set.txns item ≡ writers → IsTheWriter set item tx → two_writers_of item writers ≡ None
two-writers-to set item tx [] is the = refl
two-writers-to set item tx (a ∷ []) is the = refl
two-writers-to set item tx (a ∷ b ∷ others) is the =
    let (k, first) = first-writer item 0 set.txns a (b ∷ others) is in
    let (m, second) = first-writer item (suc a) (drop (suc k) set.txns) b others (sym first.others) in
    let one : k ≡ tx = the.alone k first.writes in
    let two : suc k + m ≡ tx = the.alone (suc k + m) (rw (get_or-drop (suc k) set.txns m no_txn) at second.writes) in
    absurd (omega arith)

pub no-writer-all : (set : Set) → ((item : ℕ) → IsTrue (is_dated set.items item) → (tx : ℕ) × IsTheWriter set item tx) → no_writer set.items set.txns ≡ None
no-writer-all set written =
    none-all (λ item d. no_writer_at set.items set.txns item) 0 set.items
    (λ k d inside.
    ⊎_elim
    (λ (dated : is_dated set.items (0 + k) ≡ true). let (tx, the) = written (0 + k) dated in rw dated (no-writer-to set (0 + k) tx (writers_of set.txns (0 + k)) refl the))
    (λ (undated : is_dated set.items (0 + k) ≡ false). rw undated refl)
    (cases_Bool (is_dated set.items (0 + k))))

pub two-writers-all : (set : Set) → ((item : ℕ) → IsTrue (is_dated set.items item) → (tx : ℕ) × IsTheWriter set item tx) → two_writers set.items set.txns ≡ None
two-writers-all set written =
    none-all (λ item d. two_writers_at set.items set.txns item) 0 set.items
    (λ k d inside.
    ⊎_elim
    (λ (dated : is_dated set.items (0 + k) ≡ true). let (tx, the) = written (0 + k) dated in rw dated (two-writers-to set (0 + k) tx (writers_of set.txns (0 + k)) refl the))
    (λ (undated : is_dated set.items (0 + k) ≡ false). rw undated refl)
    (cases_Bool (is_dated set.items (0 + k))))

-- acyclic derivation

pub acyclic-from : (set : Set) → cyclic_derivation set.items set.txns ≡ None → (item n : ℕ) → ¬ Walk set item item (suc n)
acyclic-from set h item n (mid, step, rest) =
    let inside = derived-inside set.items item step.derived in
    let at : cyclic_at set.items set.txns item ≡ None = rw zero-add at (none-each (λ i x. cyclic_at set.items set.txns i) 0 set.items h item no_item inside) in
    both_ways (reaches set.items set.txns item item) (given-none (reaches set.items set.txns item item) _ at) ((reaches-by-walks set item item).1 (n, (mid, step, rest)))

pub acyclic-to : (set : Set) → ((item n : ℕ) → ¬ Walk set item item (suc n)) → cyclic_derivation set.items set.txns ≡ None
acyclic-to set acyclic =
    none-all (λ i x. cyclic_at set.items set.txns i) 0 set.items
    (λ k d inside.
    none-given (reaches set.items set.txns (0 + k) (0 + k)) _
    (false_from_ne_true (reaches set.items set.txns (0 + k) (0 + k))
    (λ h. let (n, walk) = (reaches-by-walks set (0 + k) (0 + k)).0 h in acyclic (0 + k) n walk)))

-- relative sets

pub sizes-from : (items : List ItemDecl) (together : List TogetherDecl) → bad_together items together ≡ None → All (λ g. 2 ≤ length g.items) together
sizes-from items together h = λ k d inside.
    let good = given-none (is_bad_group items (get_or together k d).items) _ (none-each (bad_together_at items) 0 together h k d inside) in
    let parts = or_parts (ltb (length (get_or together k d).items) 2) (not (list_all (λ i. is_dated items i.0) (get_or together k d).items)) good in
    ltb-false (length (get_or together k d).items) 2 parts.0

pub dated-from : (items : List ItemDecl) (together : List TogetherDecl) → bad_together items together ≡ None → All (λ g. All (λ i. IsTrue (is_dated items i.0)) g.items) together
dated-from items together h = λ k d inside.
    let good = given-none (is_bad_group items (get_or together k d).items) _ (none-each (bad_together_at items) 0 together h k d inside) in
    let parts = or_parts (ltb (length (get_or together k d).items) 2) (not (list_all (λ i. is_dated items i.0) (get_or together k d).items)) good in
    AllPass-from_list_all (λ i. is_dated items i.0) (get_or together k d).items (not-false (list_all (λ i. is_dated items i.0) (get_or together k d).items) parts.1)

pub together-to : (items : List ItemDecl) (together : List TogetherDecl) → All (λ g. 2 ≤ length g.items) together → All (λ g. All (λ i. IsTrue (is_dated items i.0)) g.items) together → bad_together items together ≡ None
together-to items together sizes dated =
    none-all (bad_together_at items) 0 together
    (λ k d inside.
    none-given (is_bad_group items (get_or together k d).items) _
    (or_from (ltb (length (get_or together k d).items) 2) (not (list_all (λ i. is_dated items i.0) (get_or together k d).items))
    (le-ltb (length (get_or together k d).items) 2 (sizes k d inside)) (not_from_true (list_all (λ i. is_dated items i.0) (get_or together k d).items) (list_all-from_AllPass (λ i. is_dated items i.0) (get_or together k d).items (dated k d inside)))))
