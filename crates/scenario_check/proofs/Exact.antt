-- A warning is told exactly if it holds.
use Rattle.std.proofs.Common.{◌≡◌, ℕ, suc, zero, ◌<◌, Bool, true, false, not, List, ◌++◌, length, Option, Some, None, refl, sym, subst, inl, inr, arith, lit<}
use Rattle.std.specs.Prelude.{◌&&◌, ◌==◌, ◌↔◌, nat_lt, take, slice_get}
use Rattle.std.specs.Option.{option_map, option_to_list, option_and_then}
use Rattle.std.specs.List.{Contains, list_any}
use Rattle.std.proofs.lemmas.Bool.{ltb-true, and_parts, eqb-true, lt-ltb, eq-eqb, cases_eq}
use Rattle.std.proofs.lemmas.Option.{slice_get_within}
use Rattle.std.proofs.lemmas.List.Elements.{Contains-append_left, Contains-append_right, Contains-append_cases}
use Rattle.rt_base.specs.declared.ids.ItemId.{ItemId}
use Rattle.rt_base.specs.declared.ids.TxId.{TxId}
use Rattle.txn_set.specs.Set.{txn_of}
use Rattle.txn_set.specs.declared.decl.TxnDecl.{TxnDecl}
use Rattle.step_script.specs.Scripts.{Operation}
use Rattle.step_script.specs.declared.releases.Releases.{Releases}
use Rattle.step_script.specs.Shown.{Shown, set_of}
use Rattle.step_script.specs.Releases.{jobs_of, releases_of}
use Rattle.step_script.specs.Bodies.{steps_of}
use Rattle.scenario_check.specs.declared.kinds.Warning.{Warning}
use Rattle.scenario_check.specs.declared.kinds.Warning.TheVariants.{NoScript, NoEnd, LongScript, UnreadLast, NotPeriodic, NeverReleased, Unread, Unused}
use Rattle.scenario_check.specs.Scripts.{is_empty, runs_on, is_read_of, unread_by, unread_at, is_updating, is_periodic}
use Rattle.scenario_check.specs.Warnings.{told, below, ops_at, of_last, of_script, of_releases, of_txn, of_item, is_sensor, is_unread, is_unwritten, warnings_of, tx_id, item_id}
use Rattle.scenario_check.specs.Holding.{Holds}

-- what stands in the parts of the list

in_told : (b : Bool) (v w : Warning) → Contains (told b v) w → (b ≡ true) × (v ≡ w)
in_told true v w (zero, lt, is) = (refl, is)
in_told true v w (suc k, lt, is) = absurd (omega arith)
in_told false v w (k, lt, is) = absurd (omega arith)

at_told : (b : Bool) (v : Warning) → b ≡ true → Contains (told b v) v
at_told true v is = (0, lit< tt, refl)
at_told false v is = cc

in_last : (tx : TxId) (k : ℕ) (o : Option ItemId) (w : Warning)
    → Contains (option_to_list (option_map (UnreadLast tx k) o)) w
    → (item : ItemId) × (o ≡ Some item) × (UnreadLast tx k item ≡ w)
in_last tx k (Some item) w (zero, lt, is) = (item, refl, is)
in_last tx k (Some item) w (suc n, lt, is) = absurd (omega arith)
in_last tx k None w (n, lt, is) = absurd (omega arith)

at_last : (tx : TxId) (k : ℕ) (o : Option ItemId) (item : ItemId) → o ≡ Some item
    → Contains (option_to_list (option_map (UnreadLast tx k) o)) (UnreadLast tx k item)
at_last tx k o item is =
    subst (λ (p : Option ItemId). Contains (option_to_list (option_map (UnreadLast tx k) p)) (UnreadLast tx k item)) (sym is)
    (0, lit< tt, refl)

in_below : (f : ℕ → List Warning) (n : ℕ) (w : Warning) → Contains (below f n) w
    → (k : ℕ) × (k < n) × Contains (f k) w
in_below f zero w (k, lt, is) = absurd (omega arith)
in_below f (suc n) w h = elim (Contains-append_cases (below f n) (f n) w h) [
  | inl before ↦ let r = in_below f n w before in (r.0, omega (arith, r.1), r.2)
  | inr here ↦ (n, omega arith, here)
]

at_below : (f : ℕ → List Warning) (n k : ℕ) (w : Warning) → k < n → Contains (f k) w → Contains (below f n) w
at_below f zero k w lt h = absurd (omega arith)
at_below f (suc n) k w lt h = elim (cases_eq k n) [
  | inl same ↦ Contains-append_right (below f n) (f n) w (subst (λ (m : ℕ). Contains (f m) w) same h)
  | inr other ↦ Contains-append_left (below f n) (f n) w (at_below f n k w (omega arith) h)
]

not_false : (b : Bool) → not b ≡ true → b ≡ false
not_false true h = cc
not_false false h = refl

not_true : (b : Bool) → b ≡ false → not b ≡ true
not_true true h = cc
not_true false h = refl

both : (a b : Bool) → a ≡ true → b ≡ true → (a && b) ≡ true
both true true p q = refl
both true false p q = cc
both false b p q = cc

-- what is told holds

by_script : (s : Shown) (k : ℕ) (w : Warning) → k < length s.txns
    → Contains (of_script (tx_id k) (txn_of (set_of s) k) (ops_at s.programs k)) w → Holds s w
by_script s k w lt h =
    let t : TxnDecl = txn_of (set_of s) k in
    let ops : List Operation = ops_at s.programs k in
    let one : List Warning = told (is_empty ops) (NoScript (tx_id k)) in
    let two : List Warning = told (runs_on ops) (NoEnd (tx_id k)) in
    let three : List Warning = told (nat_lt t.steps (steps_of ops)) (LongScript (tx_id k)) in
    elim (Contains-append_cases (one ++ two ++ three) (below (of_last (tx_id k) ops) (length ops)) w h) [
      | inl first ↦ elim (Contains-append_cases (one ++ two) three w first) [
        | inl front ↦ elim (Contains-append_cases one two w front) [
          | inl a ↦ let r = in_told (is_empty ops) (NoScript (tx_id k)) w a in subst (Holds s) r.1 (lt, r.0)
          | inr b ↦ let r = in_told (runs_on ops) (NoEnd (tx_id k)) w b in subst (Holds s) r.1 (lt, r.0)
        ]
        | inr c ↦
            let r = in_told (nat_lt t.steps (steps_of ops)) (LongScript (tx_id k)) w c in
            subst (Holds s) r.1 (lt, ltb-true _ _ r.0)
      ]
      | inr lasts ↦
          let r = in_below (of_last (tx_id k) ops) (length ops) w lasts in
          let q = in_last (tx_id k) r.0 (unread_at ops r.0) w r.2 in
          subst (Holds s) q.2 (lt, q.1)
    ]

by_releases : (s : Shown) (k : ℕ) (w : Warning) → k < length s.txns
    → Contains (of_releases s.items (tx_id k) (txn_of (set_of s) k) (releases_of s.releases k)) w → Holds s w
by_releases s k w lt h =
    let t : TxnDecl = txn_of (set_of s) k in
    let r : Releases = releases_of s.releases k in
    let one : List Warning = told (is_updating s.items t && not (is_periodic t r)) (NotPeriodic (tx_id k)) in
    let two : List Warning = told (jobs_of r == 0) (NeverReleased (tx_id k)) in
    elim (Contains-append_cases one two w h) [
      | inl a ↦
          let q = in_told (is_updating s.items t && not (is_periodic t r)) (NotPeriodic (tx_id k)) w a in
          let p = and_parts _ _ q.0 in
          subst (Holds s) q.1 (lt, p.0, not_false _ p.1)
      | inr b ↦
          let q = in_told (jobs_of r == 0) (NeverReleased (tx_id k)) w b in
          subst (Holds s) q.1 (lt, eqb-true _ _ q.0)
    ]

by_item : (s : Shown) (k : ℕ) (w : Warning) → k < length s.items → Contains (of_item s.items s.txns k) w → Holds s w
by_item s k w lt h =
    let one : Bool = is_sensor s.items k && is_unread s.txns k in
    let two : Bool = is_unread s.txns k && is_unwritten s.txns k in
    elim (Contains-append_cases (told one (Unread (item_id k))) (told two (Unused (item_id k))) w h) [
      | inl a ↦
          let q = in_told one (Unread (item_id k)) w a in
          let p = and_parts _ _ q.0 in
          subst (Holds s) q.1 (lt, p.0, p.1)
      | inr b ↦
          let q = in_told two (Unused (item_id k)) w b in
          let p = and_parts _ _ q.0 in
          subst (Holds s) q.1 (lt, p.0, p.1)
    ]

pub told_holds : (s : Shown) (w : Warning) → Contains (warnings_of s) w → Holds s w
told_holds s w h =
    elim (Contains-append_cases (below (of_txn s) (length s.txns)) (below (of_item s.items s.txns) (length s.items)) w h) [
      | inl txns ↦
          let r = in_below (of_txn s) (length s.txns) w txns in
          elim (Contains-append_cases (of_script (tx_id r.0) (txn_of (set_of s) r.0) (ops_at s.programs r.0)) (of_releases s.items (tx_id r.0) (txn_of (set_of s) r.0) (releases_of s.releases r.0)) w r.2) [
            | inl script ↦ by_script s r.0 w r.1 script
            | inr releases ↦ by_releases s r.0 w r.1 releases
          ]
      | inr items ↦
          let r = in_below (of_item s.items s.txns) (length s.items) w items in
          by_item s r.0 w r.1 r.2
    ]

-- what holds is told

script_told : (s : Shown) (k : ℕ) (w : Warning) → k < length s.txns
    → Contains (of_script (tx_id k) (txn_of (set_of s) k) (ops_at s.programs k)) w → Contains (warnings_of s) w
script_told s k w lt h =
    Contains-append_left (below (of_txn s) (length s.txns)) (below (of_item s.items s.txns) (length s.items)) w
    (at_below (of_txn s) (length s.txns) k w lt
    (Contains-append_left (of_script (tx_id k) (txn_of (set_of s) k) (ops_at s.programs k))
    (of_releases s.items (tx_id k) (txn_of (set_of s) k) (releases_of s.releases k)) w h))

releases_told : (s : Shown) (k : ℕ) (w : Warning) → k < length s.txns
    → Contains (of_releases s.items (tx_id k) (txn_of (set_of s) k) (releases_of s.releases k)) w
    → Contains (warnings_of s) w
releases_told s k w lt h =
    Contains-append_left (below (of_txn s) (length s.txns)) (below (of_item s.items s.txns) (length s.items)) w
    (at_below (of_txn s) (length s.txns) k w lt
    (Contains-append_right (of_script (tx_id k) (txn_of (set_of s) k) (ops_at s.programs k))
    (of_releases s.items (tx_id k) (txn_of (set_of s) k) (releases_of s.releases k)) w h))

item_told : (s : Shown) (k : ℕ) (w : Warning) → k < length s.items → Contains (of_item s.items s.txns k) w
    → Contains (warnings_of s) w
item_told s k w lt h =
    Contains-append_right (below (of_txn s) (length s.txns)) (below (of_item s.items s.txns) (length s.items)) w
    (at_below (of_item s.items s.txns) (length s.items) k w lt h)

one_script : (tx : TxId) (t : TxnDecl) (ops : List Operation) (w : Warning)
    → Contains (told (is_empty ops) (NoScript tx) ++ told (runs_on ops) (NoEnd tx) ++ told (nat_lt t.steps (steps_of ops)) (LongScript tx)) w
    → Contains (of_script tx t ops) w
one_script tx t ops w h =
    Contains-append_left (told (is_empty ops) (NoScript tx) ++ told (runs_on ops) (NoEnd tx) ++ told (nat_lt t.steps (steps_of ops)) (LongScript tx))
    (below (of_last tx ops) (length ops)) w h

some_given : (ops : List Operation) (k : ℕ) (item : ItemId) (o : Option Operation)
    → option_and_then (unread_by (λ i. list_any (is_read_of i) (take k ops))) o ≡ Some item
    → (x : Operation) × (o ≡ Some x)
some_given ops k item None h = cc
some_given ops k item (Some x) h = (x, refl)

unread_within : (ops : List Operation) (k : ℕ) (item : ItemId) → unread_at ops k ≡ Some item → k < length ops
unread_within ops k item h =
    let r = some_given ops k item (slice_get ops k) h in slice_get_within ops k r.0 r.1

pub holds_told : (s : Shown) (w : Warning) → Holds s w → Contains (warnings_of s) w
holds_told s (NoScript tx) (lt, is) =
    let ops : List Operation = ops_at s.programs tx.0 in
    let t : TxnDecl = txn_of (set_of s) tx.0 in
    script_told s tx.0 (NoScript tx) lt (one_script tx t ops (NoScript tx)
    (Contains-append_left (told (is_empty ops) (NoScript tx) ++ told (runs_on ops) (NoEnd tx)) (told (nat_lt t.steps (steps_of ops)) (LongScript tx)) (NoScript tx)
    (Contains-append_left (told (is_empty ops) (NoScript tx)) (told (runs_on ops) (NoEnd tx)) (NoScript tx)
    (at_told (is_empty ops) (NoScript tx) is))))
holds_told s (NoEnd tx) (lt, is) =
    let ops : List Operation = ops_at s.programs tx.0 in
    let t : TxnDecl = txn_of (set_of s) tx.0 in
    script_told s tx.0 (NoEnd tx) lt (one_script tx t ops (NoEnd tx)
    (Contains-append_left (told (is_empty ops) (NoScript tx) ++ told (runs_on ops) (NoEnd tx)) (told (nat_lt t.steps (steps_of ops)) (LongScript tx)) (NoEnd tx)
    (Contains-append_right (told (is_empty ops) (NoScript tx)) (told (runs_on ops) (NoEnd tx)) (NoEnd tx)
    (at_told (runs_on ops) (NoEnd tx) is))))
holds_told s (LongScript tx) (lt, is) =
    let ops : List Operation = ops_at s.programs tx.0 in
    let t : TxnDecl = txn_of (set_of s) tx.0 in
    script_told s tx.0 (LongScript tx) lt (one_script tx t ops (LongScript tx)
    (Contains-append_right (told (is_empty ops) (NoScript tx) ++ told (runs_on ops) (NoEnd tx)) (told (nat_lt t.steps (steps_of ops)) (LongScript tx)) (LongScript tx)
    (at_told (nat_lt t.steps (steps_of ops)) (LongScript tx) (lt-ltb _ _ is))))
holds_told s (UnreadLast tx op item) (lt, is) =
    let ops : List Operation = ops_at s.programs tx.0 in
    let t : TxnDecl = txn_of (set_of s) tx.0 in
    script_told s tx.0 (UnreadLast tx op item) lt
    (Contains-append_right (told (is_empty ops) (NoScript tx) ++ told (runs_on ops) (NoEnd tx) ++ told (nat_lt t.steps (steps_of ops)) (LongScript tx))
    (below (of_last tx ops) (length ops)) (UnreadLast tx op item)
    (at_below (of_last tx ops) (length ops) op (UnreadLast tx op item) (unread_within ops op item is)
    (at_last tx op (unread_at ops op) item is)))
holds_told s (NotPeriodic tx) (lt, updating, not_so) =
    let t : TxnDecl = txn_of (set_of s) tx.0 in
    let r : Releases = releases_of s.releases tx.0 in
    let is : (is_updating s.items t && not (is_periodic t r)) ≡ true = both _ _ updating (not_true _ not_so) in
    releases_told s tx.0 (NotPeriodic tx) lt
    (Contains-append_left (told (is_updating s.items t && not (is_periodic t r)) (NotPeriodic tx)) (told (jobs_of r == 0) (NeverReleased tx)) (NotPeriodic tx)
    (at_told (is_updating s.items t && not (is_periodic t r)) (NotPeriodic tx) is))
holds_told s (NeverReleased tx) (lt, is) =
    let t : TxnDecl = txn_of (set_of s) tx.0 in
    let r : Releases = releases_of s.releases tx.0 in
    releases_told s tx.0 (NeverReleased tx) lt
    (Contains-append_right (told (is_updating s.items t && not (is_periodic t r)) (NotPeriodic tx)) (told (jobs_of r == 0) (NeverReleased tx)) (NeverReleased tx)
    (at_told (jobs_of r == 0) (NeverReleased tx) (eq-eqb _ _ is)))
holds_told s (Unread item) (lt, sensor, unread) =
    let one : Bool = is_sensor s.items item.0 && is_unread s.txns item.0 in
    let two : Bool = is_unread s.txns item.0 && is_unwritten s.txns item.0 in
    item_told s item.0 (Unread item) lt
    (Contains-append_left (told one (Unread item)) (told two (Unused item)) (Unread item)
    (at_told one (Unread item) (both _ _ sensor unread)))
holds_told s (Unused item) (lt, unread, unwritten) =
    let one : Bool = is_sensor s.items item.0 && is_unread s.txns item.0 in
    let two : Bool = is_unread s.txns item.0 && is_unwritten s.txns item.0 in
    item_told s item.0 (Unused item) lt
    (Contains-append_right (told one (Unread item)) (told two (Unused item)) (Unused item)
    (at_told two (Unused item) (both _ _ unread unwritten)))

pub exact : (s : Shown) (w : Warning) → Contains (warnings_of s) w ↔ Holds s w
exact s w = (told_holds s w, holds_told s w)
