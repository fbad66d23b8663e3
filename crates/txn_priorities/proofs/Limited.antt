-- The limit of a transaction is what its deadline and the validities of what it writes leave.
use Rattle.std.proofs.Common.{◌≡◌, ℕ, zero, suc, ◌+◌, ◌^◌, ◌<◌, ◌≤◌, inl, inr, Bool, true, false, ◌==◌, List, [], ◌∷◌, map, length, get_or, Option, None, Some, refl, ◌∙◌, ap, arith}
use Rattle.std.proofs.lemmas.Bool.{or_cases, eqb-true, eq-eqb, false≢true}
use Rattle.std.proofs.lemmas.List.{get_or-map}
use Rattle.std.specs.Prelude.{IsTrue}
use Rattle.std.specs.List.{fold}
use Rattle.rt_base.specs.declared.ids.ItemId.{ItemId}
use Rattle.txn_set.specs.declared.decl.TxnDecl.{TxnDecl}
use Rattle.txn_set.specs.Set.{Set, IsCompiled, no_txn, txn_of, names_item, may_read}
use Rattle.response_test.proofs.Least.{some-is}
use Rattle.law_times.proofs.Standing.{or_left as or-left, or_right as or-right}
use Rattle.txn_priorities.specs.Limits.{sensor_validity, is_read, within_validity, limit_of, limit, LimitsAreExact}

no-some : (v : ℕ) → None ≡ Some v → ⊥
no-some v e = cc

-- one item

abbrev LeavesRoom : Option ℕ → Bool → (period r : ℕ) → Type 0
LeavesRoom o read period r = (v : ℕ) → o ≡ Some v → read ≡ true → period + r ≤ v

one-room : (o : Option ℕ) (read : Bool) (period most r : ℕ) → 1 ≤ r → r ≤ within_validity o read period most → (r ≤ most) × LeavesRoom o read period r
one-room None read period most r some le = (le, λ v e so. absurd (no-some v e))
one-room (Some w) true period most r some le = (omega (arith, le), λ v e so. let same = some-is w v e in omega (arith, le, some, same))
one-room (Some w) false period most r some le = (le, λ v e so. absurd (false≢true so))

room-one : (o : Option ℕ) (read : Bool) (period most r : ℕ) → r ≤ most → LeavesRoom o read period r → r ≤ within_validity o read period most
room-one None read period most r le h = le
room-one (Some w) true period most r le h = let room = h w refl refl in omega (arith, le, room)
room-one (Some w) false period most r le h = le

-- a list of items

abbrev pub step : Set → ℕ → ℕ → ItemId → ℕ
step set period most i = within_validity (sensor_validity set.items i.0) (is_read set.txns i.0) period most

abbrev AllLeaveRoom : Set → List ItemId → (period r : ℕ) → Type 0
AllLeaveRoom set xs period r = (item : ℕ) → names_item xs item ≡ true → LeavesRoom (sensor_validity set.items item) (is_read set.txns item) period r

list-room : (set : Set) (period : ℕ) (xs : List ItemId) (most r : ℕ) → 1 ≤ r → r ≤ fold (step set period) most xs → (r ≤ most) × AllLeaveRoom set xs period r
list-room set period [] most r some le = (le, λ item named. absurd (false≢true named))
list-room set period (x ∷ xs) most r some le =
    let rest = list-room set period xs (step set period most x) r some le in
    let first = one-room (sensor_validity set.items x.0) (is_read set.txns x.0) period most r some rest.0 in (
      first.0,
      λ item named v e so. elim (or_cases (x.0 == item) (names_item xs item) named) [
        | inl here ↦ (let same : x.0 ≡ item = eqb-true x.0 item here in first.1 v (ap (λ (k : ℕ). sensor_validity set.items k) same ∙ e) (ap (λ (k : ℕ). is_read set.txns k) same ∙ so))
        | inr later ↦ rest.1 item later v e so
      ],
    )

room-list : (set : Set) (period : ℕ) (xs : List ItemId) (most r : ℕ) → r ≤ most → AllLeaveRoom set xs period r → r ≤ fold (step set period) most xs
room-list set period [] most r le h = le
room-list set period (x ∷ xs) most r le h =
    room-list set period xs (step set period most x) r
    (room-one (sensor_validity set.items x.0) (is_read set.txns x.0) period most r le (h x.0 (or-left (x.0 == x.0) (names_item xs x.0) (eq-eqb x.0 x.0 refl))))
    (λ item named. h item (or-right (x.0 == item) (names_item xs item) named))

-- some transaction reads an item

read-at : (txns : List TxnDecl) (reader item : ℕ) → IsTrue (may_read (get_or txns reader no_txn) item) → is_read txns item ≡ true
read-at [] reader item reads = absurd (false≢true reads)
read-at (t ∷ ts) zero item reads = or-left (may_read t item) (is_read ts item) reads
read-at (t ∷ ts) (suc reader) item reads = or-right (may_read t item) (is_read ts item) (read-at ts reader item reads)

reader-of : (txns : List TxnDecl) (item : ℕ) → is_read txns item ≡ true → (reader : ℕ) × IsTrue (may_read (get_or txns reader no_txn) item)
reader-of [] item e = absurd (false≢true e)
reader-of (t ∷ ts) item e = elim (or_cases (may_read t item) (is_read ts item) e) [
  | inl here ↦ (0, here)
  | inr later ↦ (let rest = reader-of ts item later in (suc rest.0, rest.1))
]

pub limits-are-exact : LimitsAreExact
limits-are-exact set tx r some = (
  λ le.
      let all = list-room set (txn_of set tx).period (txn_of set tx).writes (txn_of set tx).deadline r some le in
      record {
        deadline = all.0;
        valid = λ item validity reader writes e reads. all.1 item writes validity e (read-at set.txns reader item reads);
      },
  λ h.
      room-list set (txn_of set tx).period (txn_of set tx).writes (txn_of set tx).deadline r h.deadline
      (λ item named v e so. let reader = reader-of set.txns item so in h.valid item v reader.0 named e reader.1),
)

-- a limit is at most the deadline

fold-le : (set : Set) (period : ℕ) (xs : List ItemId) (most : ℕ) → fold (step set period) most xs ≤ most
fold-le set period [] most = omega arith
fold-le set period (x ∷ xs) most =
    let rest = fold-le set period xs (step set period most x) in
    let first = one-le (sensor_validity set.items x.0) (is_read set.txns x.0) most in
    omega (arith, rest, first)
  where
    one-le : (o : Option ℕ) (read : Bool) (m : ℕ) → within_validity o read period m ≤ m
    one-le None read m = omega arith
    one-le (Some w) true m = omega arith
    one-le (Some w) false m = omega arith

pub limit-le : (set : Set) (tx : ℕ) → limit set tx ≤ (txn_of set tx).deadline
limit-le set tx = fold-le set (txn_of set tx).period (txn_of set tx).writes (txn_of set tx).deadline

-- a limit as the code looks it up
pub limit-at : (set : Set) (limits : List ℕ) (tx d : ℕ) → limits ≡ map (limit_of set) set.txns → tx < length set.txns → get_or limits tx d ≡ limit set tx
limit-at set limits tx d e inside = ap (λ (l : List ℕ). get_or l tx d) e ∙ get_or-map (limit_of set) set.txns tx no_txn d inside

pub limit-few : (set : Set) (tx most : ℕ) → IsCompiled set → tx < length set.txns → most ≡ limit set tx → most ≤ 2 ^ 30
limit-few set tx most ok inside is =
    let times = ok.times tx no_txn inside in
    omega (arith, is, limit-le set tx, times.deadline.1, times.period.1)
