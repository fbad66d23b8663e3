-- What a change of one transaction's locks leaves of the table, and the refusal by its first rows.
use Rattle.std.proofs.Common.{◌≡◌, ℕ, zero, suc, ◌+◌, ◌*◌, ◌^◌, ◌<◌, ◌≤◌, ◌==◌, max, Bool, true, false, not, ◌&&◌, ◌||◌, cond, List, [], ◌∷◌, length, get_or, set, replicate, take, drop, ◌++◌, ◌-◌, Option, None, Some, refl, ap, sym, ◌∙◌, subst, inl, inr, arith}
use Rattle.std.proofs.lemmas.Bool.{cases_eq, eqb-true, eqb-false, eq-eqb, ne_eqb, or_left, or_right, or_parts, and_parts, and_from, not-true, not_from_false}
use Rattle.std.proofs.lemmas.Nat.{same_from_place, row_fits}
use Rattle.std.proofs.lemmas.List.{get_or-set_same, get_or-set_other, length-set, set-get_or, get_or_read, length-replicate, length-append, length-take-le, length-drop, get_or-append-add, get_or_append_left, get_or-take, get_or-drop, get_or-replicate}
use Rattle.std.proofs.lemmas.Bool.{cases_lt, lt-ltb, le-ltb, and_left, and_right}
use Rattle.rt_base.specs.Shelf.{Shelf}
use Rattle.std.specs.Prelude.{nat_lt}
use Rattle.std.specs.Option.{option_map}
use Rattle.rt_base.specs.LockRule.{topmost, blocker, unless_below}
use Rattle.ceiling_table.specs.declared.CeilRow.{CeilRow}
use Rattle.ceiling_table.specs.declared.Above.{Above}
use Rattle.ceiling_table.specs.declared.LockKind.{LockKind}
use Rattle.ceiling_table.specs.declared.LockKind.TheVariants.{Free, Read, Write}
use Rattle.ceiling_table.specs.Held.{Locks, prio_of, no_ceilings, kind_ceiling, is_lock, greatest_below, any_below, ceiling_of, is_holder, numbers_below, other_holders, above_of, refusal, with_lock, locked_at, released_at}
use Rattle.ceiling_table.specs.Seated.{row_above, seat_of, ceiling_or_none, seat_ceiling, unseated, seated, AllBelow, InOrder, HoldersBelow, first_other, freed_from, IsSeated, IsNoted, IsTable, Changes}
use Rattle.ceiling_table.proofs.RowOrder.{order_unseated, unique_unseated, holders_unseated, seat_unseated, seat_unseated_other, differ, order_seated, unique_seated, holders_seated, seat_seated, fewer_rows}
use Rattle.ceiling_table.proofs.Tops.{In, in_filter, filter_in, in_numbers, numbers_in, topmost_in, topmost_is}

-- ---- places

pub from_fits : (t n m : ℕ) → t < n → t * m + m ≤ n * m
from_fits t n m h = row_fits t m n m h (omega arith)

pub place_fits : (t n i m : ℕ) → t < n → i < m → t * m + i < n * m
place_fits t n i m h k = omega (arith, from_fits t n m h)

-- ---- the greatest, and whether there is one

pub greatest_same : (n : ℕ) (f g : ℕ → ℕ) → ((i : ℕ) → i < n → f i ≡ g i) → greatest_below n f ≡ greatest_below n g
greatest_same zero f g h = refl
greatest_same (suc n) f g h =
    let rest : greatest_below n f ≡ greatest_below n g = greatest_same n f g (λ i lt. h i (omega arith)) in
    let one : f n ≡ g n = h n (omega arith) in
    ap (λ (k : ℕ). max k (greatest_below n f)) one ∙ ap (λ (k : ℕ). max (g n) k) rest

pub any_same : (n : ℕ) (f g : ℕ → Bool) → ((i : ℕ) → i < n → f i ≡ g i) → any_below n f ≡ any_below n g
any_same zero f g h = refl
any_same (suc n) f g h =
    let rest : any_below n f ≡ any_below n g = any_same n f g (λ i lt. h i (omega arith)) in
    let one : f n ≡ g n = h n (omega arith) in
    ap (λ (b : Bool). b || any_below n f) one ∙ ap (λ (b : Bool). g n || b) rest

pub any_none : (n : ℕ) (f : ℕ → Bool) → ((i : ℕ) → i < n → f i ≡ false) → any_below n f ≡ false
any_none zero f h = refl
any_none (suc n) f h = ap (λ (b : Bool). b || any_below n f) (h n (omega arith)) ∙ any_none n f (λ i lt. h i (omega arith))

pub any_one : (n : ℕ) (f : ℕ → Bool) (i : ℕ) → i < n → f i ≡ true → any_below n f ≡ true
any_one zero f i lt h = absurd (omega arith)
any_one (suc n) f i lt h =
    elim (cases_eq i n) [
      | inl e ↦ or_left (f n) (any_below n f) (ap f (sym e) ∙ h)
      | inr ne ↦ or_right (f n) (any_below n f) (any_one n f i (omega arith) h)
    ]

-- ---- one transaction's locks change

abbrev pub table : List CeilRow → List ℕ → List LockKind → Locks
table cs ps ls = record { ceilings = cs; prios = ps; locks = ls }

-- the locks of the others are as they were
abbrev pub Stays : List CeilRow → List LockKind → List LockKind → ℕ → Type 0
Stays cs ls ls' tx = (t i : ℕ) → (t ≡ tx → ⊥) → i < length cs → get_or ls' (t * length cs + i) Free ≡ get_or ls (t * length cs + i) Free

pub ceiling_stays : (cs : List CeilRow) (ps : List ℕ) (ls ls' : List LockKind) (tx t : ℕ) → Stays cs ls ls' tx → (t ≡ tx → ⊥) → ceiling_of (table cs ps ls') t ≡ ceiling_of (table cs ps ls) t
unfolding ceiling_of
ceiling_stays cs ps ls ls' tx t stays ne = greatest_same (length cs) _ _ (λ i lt. ap (λ (k : LockKind). kind_ceiling (get_or cs i no_ceilings) k) (stays t i ne lt))

pub holder_stays : (cs : List CeilRow) (ps : List ℕ) (ls ls' : List LockKind) (tx t : ℕ) → Stays cs ls ls' tx → (t ≡ tx → ⊥) → is_holder (table cs ps ls') t ≡ is_holder (table cs ps ls) t
unfolding is_holder
holder_stays cs ps ls ls' tx t stays ne = any_same (length cs) _ _ (λ i lt. ap is_lock (stays t i ne lt))

other_seat : (cs : List CeilRow) (ps : List ℕ) (ls ls' : List LockKind) (tx t : ℕ) → Stays cs ls ls' tx → (t ≡ tx → ⊥)
    → cond (is_holder (table cs ps ls) t) (Some (ceiling_of (table cs ps ls) t)) None ≡ cond (is_holder (table cs ps ls') t) (Some (ceiling_of (table cs ps ls') t)) None
other_seat cs ps ls ls' tx t stays ne =
    ap (λ (b : Bool). cond b (Some (ceiling_of (table cs ps ls) t)) None) (sym (holder_stays cs ps ls ls' tx t stays ne))
    ∙ ap (λ (n : ℕ). cond (is_holder (table cs ps ls') t) (Some n) None) (sym (ceiling_stays cs ps ls ls' tx t stays ne))

pub seated_after_release : (cs : List CeilRow) (ps : List ℕ) (ls ls' : List LockKind) (rows : List Above) (tx : ℕ) → IsSeated (table cs ps ls) rows → Stays cs ls ls' tx → is_holder (table cs ps ls') tx ≡ false → IsSeated (table cs ps ls') (unseated tx rows)
seated_after_release cs ps ls ls' rows tx s stays gone = record {
  order = order_unseated _ tx rows s.order;
  unique = unique_unseated tx rows s.unique;
  holders = holders_unseated _ tx rows s.holders;
  seats = λ t lt.
      elim (cases_eq t tx) [
        | inl e ↦ (
            let none : seat_of t (unseated tx rows) ≡ None = ap (λ (k : ℕ). seat_of k (unseated tx rows)) e ∙ seat_unseated tx rows s.unique in
            let not_held : is_holder (table cs ps ls') t ≡ false = ap (λ (k : ℕ). is_holder (table cs ps ls') k) e ∙ gone in
            none ∙ sym (ap (λ (b : Bool). cond b (Some (ceiling_of (table cs ps ls') t)) None) not_held))
        | inr ne ↦ seat_unseated_other tx t rows ne ∙ s.seats t lt ∙ other_seat cs ps ls ls' tx t stays ne
      ];
}

pub seated_after_lock : (cs : List CeilRow) (ps : List ℕ) (ls ls' : List LockKind) (rows : List Above) (a : Above) → ((i j : ℕ) → i < length ps → j < length ps → get_or ps i 0 ≡ get_or ps j 0 → i ≡ j) → IsSeated (table cs ps ls) rows → Stays cs ls ls' a.holder.0 → a.holder.0 < length ps
    → is_holder (table cs ps ls') a.holder.0 ≡ true → a.ceiling ≡ ceiling_of (table cs ps ls') a.holder.0 → IsSeated (table cs ps ls') (seated (prio_of (table cs ps ls)) a (unseated a.holder.0 rows))
seated_after_lock cs ps ls ls' rows a distinct s stays lt held c =
    let tx : ℕ = a.holder.0 in
    let rest : List Above = unseated a.holder.0 rows in
    let none : seat_of a.holder.0 (unseated a.holder.0 rows) ≡ None = seat_unseated a.holder.0 rows s.unique in
    let below : HoldersBelow (length ps) (unseated a.holder.0 rows) = holders_unseated _ a.holder.0 rows s.holders in
    record {
      order = order_seated _ a (unseated a.holder.0 rows) (order_unseated _ a.holder.0 rows s.order) (differ _ (length ps) a.holder.0 (unseated a.holder.0 rows) distinct lt below none);
      unique = unique_seated _ a (unseated a.holder.0 rows) (unique_unseated a.holder.0 rows s.unique) none;
      holders = holders_seated _ (length ps) a (unseated a.holder.0 rows) lt below;
      seats = λ t lt'.
          elim (cases_eq t a.holder.0) [
            | inl e ↦ (
                let here : (a.holder.0 == t) ≡ true = eq-eqb _ _ (sym e) in
                let held' : is_holder (table cs ps ls') t ≡ true = ap (λ (k : ℕ). is_holder (table cs ps ls') k) e ∙ held in
                let c' : a.ceiling ≡ ceiling_of (table cs ps ls') t = c ∙ ap (λ (k : ℕ). ceiling_of (table cs ps ls') k) (sym e) in
                seat_seated (prio_of (table cs ps ls)) t a (unseated a.holder.0 rows) none
                ∙ ap (λ (b : Bool). cond b (Some a.ceiling) (seat_of t (unseated a.holder.0 rows))) here
                ∙ ap Some c' ∙ sym (ap (λ (b : Bool). cond b (Some (ceiling_of (table cs ps ls') t)) None) held'))
            | inr ne ↦ (
                let there : (a.holder.0 == t) ≡ false = ne_eqb _ _ (λ (q : a.holder.0 ≡ t). ne (sym q)) in
                seat_seated (prio_of (table cs ps ls)) t a (unseated a.holder.0 rows) none
                ∙ ap (λ (b : Bool). cond b (Some a.ceiling) (seat_of t (unseated a.holder.0 rows))) there
                ∙ seat_unseated_other a.holder.0 t rows ne ∙ s.seats t lt' ∙ other_seat cs ps ls ls' a.holder.0 t stays ne)
          ];
    }

-- ---- what is noted of a transaction

-- what is noted of the transaction whose locks change
pub noted_after : (cs : List CeilRow) (ps : List ℕ) (ls ls' : List LockKind) (noted noted' : List Bool) (tx : ℕ) (held : Bool) → IsNoted (table cs ps ls) noted → Stays cs ls ls' tx → tx < length ps → is_holder (table cs ps ls') tx ≡ held → noted' ≡ set noted tx held → IsNoted (table cs ps ls') noted'
noted_after cs ps ls ls' noted noted' tx held n stays lt is e = record {
  size = ap length e ∙ length-set noted tx held ∙ n.size;
  holders = λ t lt'.
      elim (cases_eq t tx) [
        | inl same ↦ (
            ap (λ (q : List Bool). get_or q t false) e ∙ ap (λ (k : ℕ). get_or (set noted tx held) k false) same
            ∙ get_or-set_same noted tx held false (omega (arith, n.size, lt))
            ∙ sym (ap (λ (k : ℕ). is_holder (table cs ps ls') k) same ∙ is))
        | inr ne ↦ ap (λ (q : List Bool). get_or q t false) e ∙ get_or-set_other noted tx t held false ne ∙ n.holders t lt' ∙ sym (holder_stays cs ps ls ls' tx t stays ne)
      ];
}

-- what is noted so already stays
pub noted_already : (noted : List Bool) (tx : ℕ) (was held : Bool) → tx < length noted → was ≡ get_or noted tx was → was ≡ held → noted ≡ set noted tx held
noted_already noted tx was held lt r e =
    let is : held ≡ get_or noted tx false = sym e ∙ get_or_read noted tx was lt r false in
    sym (ap (set noted tx) is ∙ set-get_or noted tx false)

pub within_noted : (cs : List CeilRow) (ps : List ℕ) (ls : List LockKind) (rows : Shelf Above) (noted : List Bool) (tx : ℕ) → IsTable (table cs ps ls) rows noted → tx < length ps → tx < length noted
within_noted cs ps ls rows noted tx t lt = omega (arith, t.holders_noted.size, lt)

-- who is not noted has no row
pub not_noted : (cs : List CeilRow) (ps : List ℕ) (ls : List LockKind) (rows : Shelf Above) (noted : List Bool) (tx : ℕ) (was : Bool) → IsTable (table cs ps ls) rows noted → tx < length ps → was ≡ get_or noted tx was → was ≡ false → seat_of tx rows.items ≡ None
not_noted cs ps ls rows noted tx was t lt r e =
    let free : is_holder (table cs ps ls) tx ≡ false = sym (t.holders_noted.holders tx lt) ∙ sym (get_or_read noted tx was (within_noted cs ps ls rows noted tx t lt) r false) ∙ e in
    t.seated.seats tx lt ∙ ap (λ (b : Bool). cond b (Some (ceiling_of (table cs ps ls) tx)) None) free

-- ---- the first row of another holder is the topmost

below_seat_at : (p : ℕ → ℕ) (a r : Above) (rows : List Above) (y c : ℕ) (b : Bool) → (r.holder.0 == y) ≡ b → row_above p a r ≡ true → (seat_of y rows ≡ Some c → row_above p a (record { holder = record { 0 = y }; ceiling = c }) ≡ true) → cond b (Some r.ceiling) (seat_of y rows) ≡ Some c → row_above p a (record { holder = record { 0 = y }; ceiling = c }) ≡ true
below_seat_at p a r rows y c true e h k s =
    let same : r.holder.0 ≡ y = eqb-true _ _ e in
    let level : r.ceiling ≡ c = cc in
    let is : r ≡ record { holder = record { 0 = y }; ceiling = c } = (let q : record { holder = record { 0 = r.holder.0 }; ceiling = r.ceiling } ≡ record { holder = record { 0 = y }; ceiling = c } = cc in q) in
    subst (λ (x : Above). row_above p a x ≡ true) is h
below_seat_at p a r rows y c false e h k s = k s

pub below_seat : (p : ℕ → ℕ) (a : Above) (rows : List Above) (y c : ℕ) → AllBelow p a rows → seat_of y rows ≡ Some c → row_above p a (record { holder = record { 0 = y }; ceiling = c }) ≡ true
below_seat p a [] y c h s = absurd cc
below_seat p a (r ∷ rows) y c h s = below_seat_at p a r rows y c (r.holder.0 == y) refl h.0 (below_seat p a rows y c h.1) s

-- what is known of the first row of another holder
pub record IsFirst (p : ℕ → ℕ) (t : ℕ) (rows : List Above) (r : Above) : Type 0 where
  pub other : r.holder.0 ≡ t → ⊥
  pub seat : seat_of r.holder.0 rows ≡ Some r.ceiling
  pub above : (y c : ℕ) → (y ≡ t → ⊥) → (y ≡ r.holder.0 → ⊥) → seat_of y rows ≡ Some c → row_above p r (record { holder = record { 0 = y }; ceiling = c }) ≡ true

skips : (x : Above) (rows : List Above) (t y c : ℕ) → x.holder.0 ≡ t → (y ≡ t → ⊥) → seat_of y (x ∷ rows) ≡ seat_of y rows
skips x rows t y c e ne = ap (λ (b : Bool). cond b (Some x.ceiling) (seat_of y rows)) (ne_eqb _ _ (λ (q : x.holder.0 ≡ y). ne (sym q ∙ e)))

first_is_at : (p : ℕ → ℕ) (t : ℕ) (x : Above) (rows : List Above) (r : Above) (b : Bool) → (x.holder.0 == t) ≡ b → InOrder p (x ∷ rows) → (first_other t rows ≡ Some r → IsFirst p t rows r) → cond b (first_other t rows) (Some x) ≡ Some r → IsFirst p t (x ∷ rows) r
first_is_at p t x rows r true e o k h =
    let same : x.holder.0 ≡ t = eqb-true _ _ e in
    let rest : IsFirst p t rows r = k h in
    record {
      other = rest.other;
      seat = skips x rows t r.holder.0 0 same rest.other ∙ rest.seat;
      above = λ y c ne other s. rest.above y c ne other (sym (skips x rows t y 0 same ne) ∙ s);
    }
first_is_at p t x rows r false e o k h =
    let is : x ≡ r = cc in
    subst (λ (q : Above). IsFirst p t (x ∷ rows) q) is (record {
      other = eqb-false _ _ e;
      seat = ap (λ (b : Bool). cond b (Some x.ceiling) (seat_of x.holder.0 rows)) (eq-eqb x.holder.0 x.holder.0 refl);
      above = λ y c ne other s. below_seat p x rows y c o.0 (sym (skips x rows x.holder.0 y 0 refl other) ∙ s);
    })

pub first_is : (p : ℕ → ℕ) (t : ℕ) (rows : List Above) (r : Above) → InOrder p rows → first_other t rows ≡ Some r → IsFirst p t rows r
first_is p t [] r o h = absurd cc
first_is p t (x ∷ rows) r o h = first_is_at p t x rows r (x.holder.0 == t) refl o (first_is p t rows r o.1) h

-- without such a row no other has a seat
none_other_at : (t y : ℕ) (x : Above) (rows : List Above) (b : Bool) → (x.holder.0 == t) ≡ b → (y ≡ t → ⊥) → (first_other t rows ≡ None → seat_of y rows ≡ None) → cond b (first_other t rows) (Some x) ≡ None → seat_of y (x ∷ rows) ≡ None
none_other_at t y x rows true e ne k h = skips x rows t y 0 (eqb-true _ _ e) ne ∙ k h
none_other_at t y x rows false e ne k h = absurd (cc (h))

pub none_other : (t y : ℕ) (rows : List Above) → (y ≡ t → ⊥) → first_other t rows ≡ None → seat_of y rows ≡ None
none_other t y [] ne h = refl
none_other t y (x ∷ rows) ne h = none_other_at t y x rows (x.holder.0 == t) refl ne (none_other t y rows ne) h

holder_seat_at : (h : Locks) (t c : ℕ) (b : Bool) → cond b (Some (ceiling_of h t)) None ≡ Some c → (b ≡ true) × (ceiling_of h t ≡ c)
holder_seat_at h t c true e = (refl, cc)
holder_seat_at h t c false e = absurd (cc (e))

seat_below : (n : ℕ) (rows : List Above) (t c : ℕ) → HoldersBelow n rows → seat_of t rows ≡ Some c → t < n
seat_below n [] t c b h = absurd cc
seat_below n (r ∷ rows) t c b h = at (r.holder.0 == t) refl h (seat_below n rows t c b.1) where
  at : (d : Bool) → (r.holder.0 == t) ≡ d → cond d (Some r.ceiling) (seat_of t rows) ≡ Some c → (seat_of t rows ≡ Some c → t < n) → t < n
  at true e s k = omega (arith, eqb-true _ _ e, b.0)
  at false e s k = k s

-- a number among the other holders
in_others : (h : Locks) (tx t : ℕ) → t < length h.prios → (t ≡ tx → ⊥) → is_holder h t ≡ true → In t (other_holders h tx)
in_others h tx t lt ne held = in_filter (λ k. not (k == tx) && is_holder h k) t (numbers_below (length h.prios)) (in_numbers _ t lt) (and_from _ _ (not_from_false _ (ne_eqb _ _ ne)) held)

others_in : (h : Locks) (tx t : ℕ) → In t (other_holders h tx) → (t < length h.prios) × (t ≡ tx → ⊥) × (is_holder h t ≡ true)
others_in h tx t i =
    let f : In t (numbers_below (length h.prios)) × ((not (t == tx) && is_holder h t) ≡ true) = filter_in (λ k. not (k == tx) && is_holder h k) t (numbers_below (length h.prios)) i in
    let parts : (not (t == tx) ≡ true) × (is_holder h t ≡ true) = and_parts _ _ f.1 in
    (numbers_in _ t f.0, eqb-false _ _ (not-true _ parts.0), parts.1)

held_seat : (h : Locks) (rows : List Above) (t : ℕ) → IsSeated h rows → t < length h.prios → is_holder h t ≡ true → seat_of t rows ≡ Some (ceiling_of h t)
held_seat h rows t s lt held = s.seats t lt ∙ ap (λ (b : Bool). cond b (Some (ceiling_of h t)) None) held

pub refusal_none : (h : Locks) (rows : List Above) (tx : ℕ) → IsSeated h rows → first_other tx rows ≡ None → refusal h tx ≡ None
unfolding refusal blocker
refusal_none h rows tx s none = at (topmost (prio_of h) (ceiling_of h) (other_holders h tx)) refl where
  at : (o : Option ℕ) → topmost (prio_of h) (ceiling_of h) (other_holders h tx) ≡ o → option_map (above_of h) (unless_below (ceiling_of h) (prio_of h tx) (topmost (prio_of h) (ceiling_of h) (other_holders h tx))) ≡ None
  at None e = ap (λ (o : Option ℕ). option_map (above_of h) (unless_below (ceiling_of h) (prio_of h tx) o)) e
  at (Some t) e =
      let f : (t < length h.prios) × (t ≡ tx → ⊥) × (is_holder h t ≡ true) = others_in h tx t (topmost_in (prio_of h) (ceiling_of h) (other_holders h tx) t e) in
      let seat : seat_of t rows ≡ Some (ceiling_of h t) = held_seat h rows t s f.0 f.2 in absurd (cc (seat, none_other tx t rows f.1 none))

named : (h : Locks) (r : Above) (b : Bool) → ceiling_of h r.holder.0 ≡ r.ceiling → option_map (above_of h) (cond b None (Some r.holder.0)) ≡ cond b None (Some r)
named h r true e = refl
named h r false e = ap (λ (c : ℕ). Some (record { holder = record { 0 = r.holder.0 }; ceiling = c })) e

pub refusal_some : (h : Locks) (rows : List Above) (tx : ℕ) (r : Above) → IsSeated h rows → first_other tx rows ≡ Some r → refusal h tx ≡ cond (nat_lt r.ceiling (prio_of h tx)) None (Some r)
unfolding refusal blocker
refusal_some h rows tx r s e =
    let first : IsFirst (prio_of h) tx rows r = first_is (prio_of h) tx rows r s.order e in
    let lt : r.holder.0 < length h.prios = seat_below _ rows r.holder.0 r.ceiling s.holders first.seat in
    let held : (is_holder h r.holder.0 ≡ true) × (ceiling_of h r.holder.0 ≡ r.ceiling) = holder_seat_at h r.holder.0 r.ceiling (is_holder h r.holder.0) (sym (s.seats r.holder.0 lt) ∙ first.seat) in
    let top : topmost (prio_of h) (ceiling_of h) (other_holders h tx) ≡ Some r.holder.0 = topmost_is (prio_of h) (ceiling_of h) (other_holders h tx) r.holder.0 (record {
      here = in_others h tx r.holder.0 lt first.other held.0;
      above = λ y i ne.
          (let f : (y < length h.prios) × (y ≡ tx → ⊥) × (is_holder h y ≡ true) = others_in h tx y i in
          let row : row_above (prio_of h) r (record { holder = record { 0 = y }; ceiling = ceiling_of h y }) ≡ true = first.above y (ceiling_of h y) f.1 ne (held_seat h rows y s f.0 f.2) in
          subst (λ (k : ℕ). (nat_lt (ceiling_of h y) k || (k == ceiling_of h y && nat_lt (prio_of h y) (prio_of h r.holder.0))) ≡ true) (sym held.1) row);
    }) in
    ap (λ (o : Option ℕ). option_map (above_of h) (unless_below (ceiling_of h) (prio_of h tx) o)) top
    ∙ ap (λ (k : ℕ). option_map (above_of h) (cond (nat_lt k (prio_of h tx)) None (Some r.holder.0))) held.1
    ∙ named h r (nat_lt r.ceiling (prio_of h tx)) held.1

pub granted : (h : Locks) (rows : List Above) (tx : ℕ) (r : Above) (prio : ℕ) → IsSeated h rows → tx < length h.prios → first_other tx rows ≡ Some r → prio ≡ get_or h.prios tx prio → r.ceiling < prio → refusal h tx ≡ None
granted h rows tx r prio s lt e p below =
    let is : prio ≡ prio_of h tx = get_or_read h.prios tx prio lt p 0 in
    refusal_some h rows tx r s e ∙ ap (λ (b : Bool). cond b None (Some r)) (lt-ltb r.ceiling (prio_of h tx) (omega (arith, is, below)))

pub refused : (h : Locks) (rows : List Above) (tx : ℕ) (r : Above) (prio : ℕ) → IsSeated h rows → tx < length h.prios → first_other tx rows ≡ Some r → prio ≡ get_or h.prios tx prio → prio ≤ r.ceiling → refusal h tx ≡ Some r
refused h rows tx r prio s lt e p above =
    let is : prio ≡ prio_of h tx = get_or_read h.prios tx prio lt p 0 in
    refusal_some h rows tx r s e ∙ ap (λ (b : Bool). cond b None (Some r)) (le-ltb r.ceiling (prio_of h tx) (omega (arith, is, above)))

-- ---- a lock more

lock_is_lock : (writes : Bool) (k : LockKind) → is_lock (with_lock writes k) ≡ true
lock_is_lock true k = refl
lock_is_lock false Free = refl
lock_is_lock false Read = refl
lock_is_lock false Write = refl

-- there is room for the row of a transaction
pub room_for_row : (cs : List CeilRow) (ps : List ℕ) (ls : List LockKind) (rows : Shelf Above) (noted : List Bool) (tx : ℕ) → IsTable (table cs ps ls) rows noted → tx < length ps → length (unseated tx rows.items) < rows.room
room_for_row cs ps ls rows noted tx t lt =
    let few : length (unseated tx rows.items) < length ps = fewer_rows (length ps) tx (unseated tx rows.items) lt (holders_unseated _ tx rows.items t.seated.holders) (unique_unseated tx rows.items t.seated.unique) (seat_unseated tx rows.items t.seated.unique) in
    omega (arith, few, t.room)

-- what stands at a place after one lock is set
record IsSet (cs : List CeilRow) (ls ls' : List LockKind) (tx item : ℕ) (k : LockKind) : Type 0 where
  here : get_or ls' (tx * length cs + item) Free ≡ k
  others : (t i : ℕ) → i < length cs → ((t ≡ tx) × (i ≡ item) → ⊥) → get_or ls' (t * length cs + i) Free ≡ get_or ls (t * length cs + i) Free

set_is : (cs : List CeilRow) (ps : List ℕ) (ls : List LockKind) (tx item : ℕ) (k : LockKind) → length ls ≡ length ps * length cs → tx < length ps → item < length cs → IsSet cs ls (set ls (tx * length cs + item) k) tx item k
set_is cs ps ls tx item k size lt li = record {
  here = get_or-set_same ls (tx * length cs + item) k Free (omega (arith, size, place_fits tx (length ps) item (length cs) lt li));
  others = λ t i l ne. get_or-set_other ls (tx * length cs + item) (t * length cs + i) k Free (λ (q : t * length cs + i ≡ tx * length cs + item). ne (same_from_place t i tx item (length cs) l li q));
}

locked_is : (cs : List CeilRow) (ls ls' : List LockKind) (tx item t i : ℕ) (k : LockKind) (writes : Bool) → IsSet cs ls ls' tx item k → k ≡ with_lock writes (get_or ls (tx * length cs + item) Free) → i < length cs
    → get_or ls' (t * length cs + i) Free ≡ cond (t == tx && i == item) (with_lock writes (get_or ls (t * length cs + i) Free)) (get_or ls (t * length cs + i) Free)
locked_is cs ls ls' tx item t i k writes s e l =
    elim (cases_eq t tx) [
      | inl et ↦ (
          elim (cases_eq i item) [
            | inl ei ↦ (
                let place : t * length cs + i ≡ tx * length cs + item = ap (λ (n : ℕ). n * length cs + i) et ∙ ap (λ (n : ℕ). tx * length cs + n) ei in
                let both : (t == tx && i == item) ≡ true = and_from _ _ (eq-eqb _ _ et) (eq-eqb _ _ ei) in
                ap (λ (n : ℕ). get_or ls' n Free) place ∙ s.here ∙ e ∙ ap (λ (n : ℕ). with_lock writes (get_or ls n Free)) (sym place)
                ∙ sym (ap (λ (b : Bool). cond b (with_lock writes (get_or ls (t * length cs + i) Free)) (get_or ls (t * length cs + i) Free)) both))
            | inr ni ↦ (
                let no_item : (t == tx && i == item) ≡ false = and_right _ _ (ne_eqb _ _ ni) in
                s.others t i l (λ q. ni q.1) ∙ sym (ap (λ (b : Bool). cond b (with_lock writes (get_or ls (t * length cs + i) Free)) (get_or ls (t * length cs + i) Free)) no_item))
          ])
      | inr nt ↦ (
          let no_tx : (t == tx && i == item) ≡ false = and_left _ _ (ne_eqb _ _ nt) in
          s.others t i l (λ q. nt q.0) ∙ sym (ap (λ (b : Bool). cond b (with_lock writes (get_or ls (t * length cs + i) Free)) (get_or ls (t * length cs + i) Free)) no_tx))
    ]

-- what the code set, by the number of items that it read
pub record Sets (cs : List CeilRow) (ps : List ℕ) (ls ls' : List LockKind) (m tx item : ℕ) (writes : Bool) (was k : LockKind) : Type 0 where
  pub count : m ≡ length cs
  pub in_txns : tx < length ps
  pub in_items : item < length cs
  pub size : length ls ≡ length ps * length cs
  pub read : was ≡ get_or ls (tx * m + item) was
  pub joined : k ≡ with_lock writes was
  pub written : ls' ≡ set ls (tx * m + item) k

-- the same, by the view of the table
pub sets_of : (old : Locks) {cs : List CeilRow} {ps : List ℕ} {ls ls' : List LockKind} {m tx item : ℕ} {writes : Bool} {was k : LockKind} → table cs ps ls ≡ old → tx < length old.prios → item < length old.ceilings → m ≡ length cs → length ls ≡ length ps * length cs
    → was ≡ get_or ls (tx * m + item) was → k ≡ with_lock writes was → ls' ≡ set ls (tx * m + item) k → Sets cs ps ls ls' m tx item writes was k
sets_of old {tx = tx} {item = item} view lt li count size read joined written = record {
  count = count;
  in_txns = subst (λ (h : Locks). tx < length h.prios) (sym view) lt;
  in_items = subst (λ (h : Locks). item < length h.ceilings) (sym view) li;
  size = size;
  read = read;
  joined = joined;
  written = written;
}

sets_is : (cs : List CeilRow) (ps : List ℕ) (ls ls' : List LockKind) (m tx item : ℕ) (writes : Bool) (was k : LockKind) → Sets cs ps ls ls' m tx item writes was k → IsSet cs ls ls' tx item k × (k ≡ with_lock writes (get_or ls (tx * length cs + item) Free))
sets_is cs ps ls ls' m tx item writes was k s =
    let place : tx * m + item ≡ tx * length cs + item = ap (λ (n : ℕ). tx * n + item) s.count in
    let within : tx * m + item < length ls = omega (arith, place, s.size, place_fits tx (length ps) item (length cs) s.in_txns s.in_items) in
    let there : was ≡ get_or ls (tx * length cs + item) Free = get_or_read ls (tx * m + item) was within s.read Free ∙ ap (λ (n : ℕ). get_or ls n Free) place in
    let is : ls' ≡ set ls (tx * length cs + item) k = s.written ∙ ap (λ (n : ℕ). set ls n k) place in
    (subst (λ (q : List LockKind). IsSet cs ls q tx item k) (sym is) (set_is cs ps ls tx item k s.size s.in_txns s.in_items), s.joined ∙ ap (with_lock writes) there)

pub lock_changes : (cs : List CeilRow) (ps : List ℕ) (ls ls' : List LockKind) (m tx item : ℕ) (writes : Bool) (was k : LockKind) → Sets cs ps ls ls' m tx item writes was k → Changes (table cs ps ls) (table cs ps ls') (locked_at (table cs ps ls) tx item writes)
lock_changes cs ps ls ls' m tx item writes was k s =
    let is : IsSet cs ls ls' tx item k × (k ≡ with_lock writes (get_or ls (tx * length cs + item) Free)) = sets_is cs ps ls ls' m tx item writes was k s in
    record { ceilings = refl; prios = refl; locks = λ t i l. locked_is cs ls ls' tx item t i k writes is.0 is.1 l }

-- ---- the ceiling in a holder's row

free_zero : (row : CeilRow) (k : LockKind) → is_lock k ≡ false → kind_ceiling row k ≡ 0
free_zero row Free h = refl
free_zero row Read h = absurd (cc (h))
free_zero row Write h = absurd (cc (h))

none_zero : (n : ℕ) (row : ℕ → CeilRow) (lock : ℕ → LockKind) → any_below n (λ i. is_lock (lock i)) ≡ false → greatest_below n (λ i. kind_ceiling (row i) (lock i)) ≡ 0
none_zero zero row lock h = refl
none_zero (suc n) row lock h =
    let parts : (is_lock (lock n) ≡ false) × (any_below n (λ i. is_lock (lock i)) ≡ false) = or_parts _ _ h in
    let first : kind_ceiling (row n) (lock n) ≡ 0 = free_zero (row n) (lock n) parts.0 in
    omega (arith, first, none_zero n row lock parts.1)

pub seat_ceiling_is : (h : Locks) (rows : List Above) (tx : ℕ) → IsSeated h rows → tx < length h.prios → seat_ceiling tx rows ≡ ceiling_of h tx
unfolding ceiling_of is_holder
seat_ceiling_is h rows tx s lt = ap ceiling_or_none (s.seats tx lt) ∙ at (is_holder h tx) refl where
  at : (b : Bool) → is_holder h tx ≡ b → ceiling_or_none (cond b (Some (ceiling_of h tx)) None) ≡ ceiling_of h tx
  at true e = refl
  at false e = sym (none_zero (length h.ceilings) (λ i. get_or h.ceilings i no_ceilings) (λ i. get_or h.locks (tx * length h.ceilings + i) Free) e)

-- where one of the numbers rises, the greatest is that of the old ones and of the new one
raised : (n item : ℕ) (f g : ℕ → ℕ) → item < n → ((i : ℕ) → i < n → (i ≡ item → ⊥) → g i ≡ f i) → f item ≤ g item → greatest_below n g ≡ max (g item) (greatest_below n f)
raised zero item f g lt h le = absurd (omega arith)
raised (suc n) item f g lt h le =
    elim (cases_eq n item) [
      | inl e ↦ (
          let rest : greatest_below n g ≡ greatest_below n f = greatest_same n g f (λ i l. h i (omega arith) (λ (q : i ≡ item). omega arith)) in
          omega (arith, rest, ap f e, ap g e))
      | inr ne ↦ (
          let rest : greatest_below n g ≡ max (g item) (greatest_below n f) = raised n item f g (omega arith) (λ i l. h i (omega arith)) le in
          omega (arith, rest, h n (omega arith) ne))
    ]

kind_rises : (row : CeilRow) (writes : Bool) (k : LockKind) → kind_ceiling row k ≤ kind_ceiling row (with_lock writes k)
kind_rises row true Free = omega arith
kind_rises row true Read = row.ordered
kind_rises row true Write = omega arith
kind_rises row false Free = omega arith
kind_rises row false Read = omega arith
kind_rises row false Write = omega arith

-- with a lock more, the greatest ceiling is that of the row and of the lock
ceiling_raised : (cs : List CeilRow) (ps : List ℕ) (ls ls' : List LockKind) (rows : List Above) (tx item : ℕ) (writes : Bool) (k : LockKind) → IsSeated (table cs ps ls) rows → tx < length ps → item < length cs → IsSet cs ls ls' tx item k → k ≡ with_lock writes (get_or ls (tx * length cs + item) Free)
    → max (kind_ceiling (get_or cs item no_ceilings) k) (seat_ceiling tx rows) ≡ ceiling_of (table cs ps ls') tx
unfolding ceiling_of
ceiling_raised cs ps ls ls' rows tx item writes k s lt li is e =
    let row : ℕ → CeilRow = (λ i. get_or cs i no_ceilings) in
    let there : get_or ls' (tx * length cs + item) Free ≡ with_lock writes (get_or ls (tx * length cs + item) Free) = is.here ∙ e in
    let up : kind_ceiling (get_or cs item no_ceilings) (get_or ls (tx * length cs + item) Free) ≤ kind_ceiling (get_or cs item no_ceilings) (get_or ls' (tx * length cs + item) Free) =
    omega (arith, kind_rises (get_or cs item no_ceilings) writes (get_or ls (tx * length cs + item) Free), ap (kind_ceiling (get_or cs item no_ceilings)) there) in
    let others : (i : ℕ) → i < length cs → (i ≡ item → ⊥) → kind_ceiling (get_or cs i no_ceilings) (get_or ls' (tx * length cs + i) Free) ≡ kind_ceiling (get_or cs i no_ceilings) (get_or ls (tx * length cs + i) Free) = (λ i l ne. ap (kind_ceiling (get_or cs i no_ceilings)) (is.others tx i l (λ q. ne q.1))) in
    ap (λ (n : ℕ). max (kind_ceiling (get_or cs item no_ceilings) k) n) (seat_ceiling_is (table cs ps ls) rows tx s lt)
    ∙ ap (λ (q : LockKind). max (kind_ceiling (get_or cs item no_ceilings) q) (ceiling_of (table cs ps ls) tx)) (sym is.here)
    ∙ sym (raised (length cs) item (λ i. kind_ceiling (get_or cs i no_ceilings) (get_or ls (tx * length cs + i) Free)) (λ i. kind_ceiling (get_or cs i no_ceilings) (get_or ls' (tx * length cs + i) Free)) li others up)

pub lock_keeps : (cs : List CeilRow) (ps : List ℕ) (ls ls' : List LockKind) (rows rows' : Shelf Above) (noted noted' : List Bool) (m tx item ceiling : ℕ) (row : CeilRow) (writes : Bool) (was k : LockKind) → IsTable (table cs ps ls) rows noted → Sets cs ps ls ls' m tx item writes was k
    → row ≡ get_or cs item row → ceiling ≡ max (kind_ceiling row k) (seat_ceiling tx rows.items)
    → rows'.items ≡ seated (λ t. get_or ps t 0) (record { holder = record { 0 = tx }; ceiling = ceiling }) (unseated tx rows.items) → rows'.room ≡ rows.room → noted' ≡ set noted tx true → IsTable (table cs ps ls') rows' noted'
unfolding is_holder
lock_keeps cs ps ls ls' rows rows' noted noted' m tx item ceiling row writes was k t s re c e r n =
    let is : IsSet cs ls ls' tx item k × (k ≡ with_lock writes (get_or ls (tx * length cs + item) Free)) = sets_is cs ps ls ls' m tx item writes was k s in
    let stays : Stays cs ls ls' tx = (λ t i ne l. is.0.others t i l (λ q. ne q.0)) in
    let size : length ls' ≡ length ls = ap length s.written ∙ length-set ls (tx * m + item) k in
    let lock : is_lock (get_or ls' (tx * length cs + item) Free) ≡ true = ap is_lock (is.0.here ∙ s.joined) ∙ lock_is_lock writes was in
    let held : is_holder (table cs ps ls') tx ≡ true = any_one (length cs) (λ i. is_lock (get_or ls' (tx * length cs + i) Free)) item s.in_items lock in
    let of_item : row ≡ get_or cs item no_ceilings = get_or_read cs item row s.in_items re no_ceilings in
    let level : ceiling ≡ ceiling_of (table cs ps ls') tx = c ∙ ap (λ (q : CeilRow). max (kind_ceiling q k) (seat_ceiling tx rows.items)) of_item ∙ ceiling_raised cs ps ls ls' rows.items tx item writes k t.seated s.in_txns s.in_items is.0 is.1 in
    record {
      few = t.few;
      distinct = t.distinct;
      size = size ∙ t.size;
      small = omega (arith, size, t.small);
      room = omega (arith, t.room, r);
      seated = subst (IsSeated (table cs ps ls')) (sym e) (seated_after_lock cs ps ls ls' rows.items (record { holder = record { 0 = tx }; ceiling = ceiling }) t.distinct t.seated stays s.in_txns held level);
      holders_noted = noted_after cs ps ls ls' noted noted' tx true t.holders_noted stays s.in_txns held n;
    }

-- ---- a transaction's locks less

length_front : (from n : ℕ) (ls : List LockKind) → from + n ≤ length ls → length (take from ls ++ replicate n Free) ≡ from + n
length_front from n ls le = omega (
  arith,
  length-append (take from ls) (replicate n Free),
  length-take-le from ls (omega arith),
  length-replicate n Free,
)

pub length_freed : (from n : ℕ) (ls : List LockKind) → from + n ≤ length ls → length (freed_from from n ls) ≡ length ls
length_freed from n ls le = omega (
  arith,
  length-append (take from ls ++ replicate n Free) (drop (from + n) ls),
  length_front from n ls le,
  length-drop (from + n) ls,
)

freed_inside : (from n k : ℕ) (ls : List LockKind) → k < n → from + n ≤ length ls → get_or (freed_from from n ls) (from + k) Free ≡ Free
freed_inside from n k ls lt le =
    get_or_append_left (take from ls ++ replicate n Free) (drop (from + n) ls) Free (from + k) (omega (arith, length_front from n ls le))
    ∙ ap (λ (j : ℕ). get_or (take from ls ++ replicate n Free) (j + k) Free) (sym (length-take-le from ls (omega arith)))
    ∙ get_or-append-add (take from ls) (replicate n Free) k Free
    ∙ get_or-replicate n k Free Free lt

freed_before : (from n k : ℕ) (ls : List LockKind) → k < from → from + n ≤ length ls → get_or (freed_from from n ls) k Free ≡ get_or ls k Free
freed_before from n k ls lt le =
    get_or_append_left (take from ls ++ replicate n Free) (drop (from + n) ls) Free k (omega (arith, length_front from n ls le))
    ∙ get_or_append_left (take from ls) (replicate n Free) Free k (omega (arith, length-take-le from ls (omega arith)))
    ∙ get_or-take from ls k Free lt

freed_after : (from n j : ℕ) (ls : List LockKind) → from + n ≤ length ls → get_or (freed_from from n ls) (from + n + j) Free ≡ get_or ls (from + n + j) Free
freed_after from n j ls le =
    ap (λ (i : ℕ). get_or (freed_from from n ls) (i + j) Free) (sym (length_front from n ls le))
    ∙ get_or-append-add (take from ls ++ replicate n Free) (drop (from + n) ls) j Free
    ∙ get_or-drop (from + n) ls j Free

freed_outside : (from n k : ℕ) (ls : List LockKind) → from + n ≤ length ls → ((j : ℕ) → j < n → k ≡ from + j → ⊥) → get_or (freed_from from n ls) k Free ≡ get_or ls k Free
freed_outside from n k ls le out =
    elim (cases_lt k from) [
      | inl lt ↦ freed_before from n k ls lt le
      | inr ge ↦ elim (cases_lt k (from + n)) [
        | inl lt ↦ absurd (out (k - from) (omega arith) (omega arith))
        | inr past ↦ (
            ap (λ (i : ℕ). get_or (freed_from from n ls) i Free) (omega arith)
            ∙ freed_after from n (k - (from + n)) ls le
            ∙ ap (λ (i : ℕ). get_or ls i Free) (omega arith))
      ]
    ]

released_is : (cs : List CeilRow) (ps : List ℕ) (ls : List LockKind) (tx t i : ℕ) → length ls ≡ length ps * length cs → tx < length ps → i < length cs → get_or (freed_from (tx * length cs) (length cs) ls) (t * length cs + i) Free ≡ cond (t == tx) Free (get_or ls (t * length cs + i) Free)
released_is cs ps ls tx t i size lt l =
    elim (cases_eq t tx) [
      | inl e ↦ (
          ap (λ (n : ℕ). get_or (freed_from (tx * length cs) (length cs) ls) (n * length cs + i) Free) e
          ∙ freed_inside (tx * length cs) (length cs) i ls l (omega (arith, size, from_fits tx (length ps) (length cs) lt))
          ∙ sym (ap (λ (b : Bool). cond b Free (get_or ls (t * length cs + i) Free)) (eq-eqb _ _ e)))
      | inr ne ↦ (
          freed_outside (tx * length cs) (length cs) (t * length cs + i) ls (omega (arith, size, from_fits tx (length ps) (length cs) lt)) (λ j lj q. ne (same_from_place t i tx j (length cs) l lj q).0)
          ∙ sym (ap (λ (b : Bool). cond b Free (get_or ls (t * length cs + i) Free)) (ne_eqb _ _ ne)))
    ]

freed_is : (cs : List CeilRow) (ls ls' : List LockKind) (m tx : ℕ) → m ≡ length cs → ls' ≡ freed_from (tx * m) m ls → ls' ≡ freed_from (tx * length cs) (length cs) ls
freed_is cs ls ls' m tx e h = h ∙ ap (λ (n : ℕ). freed_from (tx * n) n ls) e

pub release_changes : (cs : List CeilRow) (ps : List ℕ) (ls ls' : List LockKind) (m tx : ℕ) → length ls ≡ length ps * length cs → tx < length ps → m ≡ length cs → ls' ≡ freed_from (tx * m) m ls → Changes (table cs ps ls) (table cs ps ls') (released_at (table cs ps ls) tx)
release_changes cs ps ls ls' m tx size lt e h = record {
  ceilings = refl;
  prios = refl;
  locks = λ t i l. ap (λ (q : List LockKind). get_or q (t * length cs + i) Free) (freed_is cs ls ls' m tx e h) ∙ released_is cs ps ls tx t i size lt l;
}

pub release_keeps : (cs : List CeilRow) (ps : List ℕ) (ls ls' : List LockKind) (rows rows' : Shelf Above) (noted noted' : List Bool) (m tx : ℕ) → IsTable (table cs ps ls) rows noted → tx < length ps → m ≡ length cs → ls' ≡ freed_from (tx * m) m ls → rows'.items ≡ unseated tx rows.items → rows'.room ≡ rows.room → noted' ≡ set noted tx false → IsTable (table cs ps ls') rows' noted'
unfolding is_holder
release_keeps cs ps ls ls' rows rows' noted noted' m tx t lt e h u r n =
    let is : (u i : ℕ) → i < length cs → get_or ls' (u * length cs + i) Free ≡ cond (u == tx) Free (get_or ls (u * length cs + i) Free) = (release_changes cs ps ls ls' m tx t.size lt e h).locks in
    let stays : Stays cs ls ls' tx = (λ u i ne l. is u i l ∙ ap (λ (b : Bool). cond b Free (get_or ls (u * length cs + i) Free)) (ne_eqb _ _ ne)) in
    let gone : is_holder (table cs ps ls') tx ≡ false = any_none (length cs) (λ i. is_lock (get_or ls' (tx * length cs + i) Free)) (λ i l. ap is_lock (is tx i l ∙ ap (λ (b : Bool). cond b Free (get_or ls (tx * length cs + i) Free)) (eq-eqb tx tx refl))) in
    let size : length ls' ≡ length ls = ap length (freed_is cs ls ls' m tx e h) ∙ length_freed (tx * length cs) (length cs) ls (omega (arith, t.size, from_fits tx (length ps) (length cs) lt)) in
    record {
      few = t.few;
      distinct = t.distinct;
      size = size ∙ t.size;
      small = omega (arith, size, t.small);
      room = omega (arith, t.room, r);
      seated = subst (IsSeated (table cs ps ls')) (sym u) (seated_after_release cs ps ls ls' rows.items tx t.seated stays gone);
      holders_noted = noted_after cs ps ls ls' noted noted' tx false t.holders_noted stays lt gone n;
    }

-- ---- no locks

all_free_at : (n k : ℕ) → get_or (replicate n Free) k Free ≡ Free
all_free_at zero k = refl
all_free_at (suc n) zero = refl
all_free_at (suc n) (suc k) = all_free_at n k

pub free_at : (n k : ℕ) (ls : List LockKind) → ls ≡ replicate n Free → get_or ls k Free ≡ Free
free_at n k ls e = ap (λ (q : List LockKind). get_or q k Free) e ∙ all_free_at n k

pub new_keeps : (cs : List CeilRow) (ps : List ℕ) (ls : List LockKind) (rows : Shelf Above) (noted : List Bool) (count : ℕ) → length ps ≤ 64 → ((i j : ℕ) → i < length ps → j < length ps → get_or ps i 0 ≡ get_or ps j 0 → i ≡ j) → ls ≡ replicate count Free → count ≡ length ps * length cs → count < 2 ^ 64 → rows.items ≡ [] → rows.room ≡ length ps → noted ≡ replicate (length ps) false → IsTable (table cs ps ls) rows noted
unfolding is_holder
new_keeps cs ps ls rows noted count few distinct e n small none room f =
    let size : length ls ≡ count = ap length e ∙ length-replicate count Free in
    let nobody : (t : ℕ) → is_holder (table cs ps ls) t ≡ false = (λ t. any_none (length cs) (λ i. is_lock (get_or ls (t * length cs + i) Free)) (λ i l. ap is_lock (free_at count (t * length cs + i) ls e))) in
    record {
      few = few;
      distinct = distinct;
      size = size ∙ n;
      small = omega (arith, size, small);
      room = omega (arith, room);
      seated = subst (IsSeated (table cs ps ls)) (sym none) (record {
        order = tt;
        unique = tt;
        holders = tt;
        seats = λ t lt. sym (ap (λ (b : Bool). cond b (Some (ceiling_of (table cs ps ls) t)) None) (nobody t));
      });
      holders_noted = record {
        size = ap length f ∙ length-replicate (length ps) false;
        holders = λ t lt. ap (λ (q : List Bool). get_or q t false) f ∙ get_or-replicate (length ps) t false false lt ∙ sym (nobody t);
      };
    }
