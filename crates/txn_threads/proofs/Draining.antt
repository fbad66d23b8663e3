-- What drains move, and what an out gets.
use Rattle.std.proofs.Common.{◌≡◌, ℕ, ◌+◌, ◌-◌, ◌^◌, ◌<◌, ◌≤◌, List, [], ◌++◌, vec_len, vec_capacity, Result, Ok, Err, IfOk, IfErr, OnErr, length, take, drop, max, le_refl, refl, sym, ap, subst, ◌∙◌, arith, rules, append_assoc, append-nil}
use Rattle.std.proofs.lemmas.List.{drop-append-le, take-append-le, drop-drop, length-drop}
use Rattle.std.proofs.Math.Seq.{take-add}
use Rattle.std.proofs.lemmas.Result.{IfOk-weaker}
use Rattle.step_journal.specs.declared.entry.Entry.{Entry}
use Rattle.step_journal.specs.History.{IsLegal}
use Rattle.turn_cell.specs.Turn.{Begins}
use Rattle.turn_cell.proofs.Lists.{whole, chained}
use Rattle.shared_plant.specs.Seats.{PlantFacts, SeatFacts}
use Rattle.shared_plant.specs.Answers.{DrainedLate}
use Rattle.io_edge.specs.Causes.{Rose, HasCause}
use Rattle.txn_threads.specs.declared.drain.Drain.{Drain}
use Rattle.txn_threads.proofs.Rounding.{of_same}
use Rattle.txn_threads.specs.Runs.{Operated, CanDrain, HasDrained, MayDrain, GotMore, CollectedTo, part}

-- what a drain moved
pub drained_part : (p : PlantFacts) (most spare n : ℕ) (was is : List Entry) (s t : SeatFacts) → DrainedLate p most spare was is n s t → was ≡ [] → is ≡ part t.seen s.drained t.drained
drained_part p most spare n was is s t d none =
    let x = d.drained in
    let number = ap (λ (u : SeatFacts). u.drained) x.after in let seen = ap (λ (u : SeatFacts). u.seen) x.after in
    let count : n ≡ t.drained - s.drained = omega (arith, number) in
    x.moved ∙ (ap (λ l. l ++ take n (drop s.drained x.history)) none ∙ (λ i. take (count i) (drop s.drained (sym seen i))))

pub drained_seen : (p : PlantFacts) (most spare n : ℕ) (was is : List Entry) (s t : SeatFacts) → DrainedLate p most spare was is n s t → Begins s.seen t.seen
drained_seen p most spare n was is s t d = let x = d.drained in subst (Begins s.seen) (sym (ap (λ (u : SeatFacts). u.seen) x.after)) x.begins

pub operated_of : (p : PlantFacts) (most spare n : ℕ) (was is : List Entry) (s t : SeatFacts) → DrainedLate p most spare was is n s t → Operated s t
operated_of p most spare n was is s t d = let x = d.drained in let number = ap (λ (u : SeatFacts). u.drained) x.after in record {
  plant = ap (λ (u : SeatFacts). u.plant) x.after;
  tx = ap (λ (u : SeatFacts). u.tx) x.after;
  mine = ap (λ (u : SeatFacts). u.mine) x.after;
  seen = drained_seen p most spare n was is s t d;
  more = omega (arith, number);
}

pub within_of : (p : PlantFacts) (most spare n : ℕ) (was is : List Entry) (s t : SeatFacts) → DrainedLate p most spare was is n s t → t.drained ≤ length t.seen
within_of p most spare n was is s t d = let x = d.drained in let number = ap (λ (u : SeatFacts). u.drained) x.after in let long = ap (λ (u : SeatFacts). length u.seen) x.after in let fits = x.within in omega (arith, number, long, fits)

pub part_join : (s t : List Entry) (a b c : ℕ) → Begins s t → a ≤ b → b ≤ c → b ≤ length s → part s a b ++ part t b c ≡ part t a c
part_join s t a b c g ab bc bl =
    let rest = g.0 in let al : a ≤ length s = omega arith in let n = length-drop a s in let low : b - a ≤ length (drop a s) = omega arith in
    let one : part t a b ≡ part s a b = ap (λ x. part x a b) g.1 ∙ (ap (λ x. take (b - a) x) (drop-append-le a s rest al) ∙ take-append-le (b - a) (drop a s) rest low) in
    let up : a + (b - a) ≡ b = omega arith in
    let back : drop (b - a) (drop a t) ≡ drop b t = drop-drop (b - a) a t ∙ ap (λ k. drop k t) up in
    let all : (b - a) + (c - b) ≡ c - a = omega arith in
    ap (λ x. x ++ part t b c) (sym one) ∙ (ap (λ x. take (b - a) (drop a t) ++ take (c - b) x) (sym back) ∙ (sym (take-add (b - a) (c - b) (drop a t)) ∙ ap (λ k. take k (drop a t)) all))

pub part_none : (h : List Entry) (a : ℕ) → part h a a ≡ []
part_none h a = let e : a - a ≡ 0 = omega arith in ap (λ n. take n (drop a h)) e

pub operated_refl : (s : SeatFacts) → Operated s s
operated_refl s = record { plant = refl; tx = refl; mine = refl; seen = whole s.seen; more = le_refl s.drained }

pub operated_trans : (a b c : SeatFacts) → Operated a b → Operated b c → Operated a c
operated_trans a b c p q = record {
  plant = q.plant ∙ p.plant;
  tx = q.tx ∙ p.tx;
  mine = q.mine ∙ p.mine;
  seen = chained a.seen b.seen c.seen p.seen q.seen;
  more = let m = p.more in let n = q.more in omega arith;
}

module _ {O : Type 0} (got : O → List Entry → Type 0) where
  pub got_none : (o : O) (h : List Entry) (a : ℕ) → GotMore got o o (part h a a)
  got_none o h a l is = subst (got o) (sym (ap (λ k. l ++ k) (part_none h a) ∙ append-nil l)) is

  -- what was got up to one drain, and then in the next ones up to some place
  got_part : (a b c : SeatFacts) (to : ℕ) (o p r : O) → Operated a b → b.drained ≤ length b.seen → Begins b.seen c.seen → b.drained ≤ to → GotMore got o p (part b.seen a.drained b.drained) → GotMore got p r (part c.seen b.drained to) → GotMore got o r (part c.seen a.drained to)
  got_part a b c to o p r x within begins up g h l is =
      let m = x.more in
      subst (got r) (append_assoc l (part b.seen a.drained b.drained) (part c.seen b.drained to) ∙ ap (λ k. l ++ k) (part_join b.seen c.seen a.drained b.drained to begins m up within))
      (h (l ++ part b.seen a.drained b.drained) (g l is))

  pub got_more : {a b c : SeatFacts} {o p r : O} → Operated a b → b.drained ≤ length b.seen → Operated b c → GotMore got o p (part b.seen a.drained b.drained) → GotMore got p r (part c.seen b.drained c.drained) → GotMore got o r (part c.seen a.drained c.drained)
  got_more {a} {b} {c} {o} {p} {r} x within y = got_part a b c c.drained o p r x within y.seen y.more

  -- after a drain that the out refused
  pub got_stopped : {lost : O → List Entry → Type 0} {a b c : SeatFacts} {o p r : O} → Operated a b → b.drained ≤ length b.seen → Operated b c → GotMore got o p (part b.seen a.drained b.drained) → CollectedTo got lost b c p r → CollectedTo got lost a c o r
  got_stopped {a = a} {b} {c} {o} {p} {r} x within y g k = record {
    to = k.to;
    from = let low = x.more in let up = k.from in omega (arith, low, up);
    within = k.within;
    got_is = got_part a b c k.to o p r x within y.seen k.from g k.got_is;
    lost_is = k.lost_is;
  }

  pub may_drain_more : (legal : List Entry → Type 0) (good : O → List Entry → Type 0) (s t : SeatFacts) (o p : O) → MayDrain legal got good s o → Operated s t → t.drained ≤ length t.seen → ((k : List Entry) → good o k → good p k) → GotMore got o p (part t.seen s.drained t.drained) → MayDrain legal got good t p
  may_drain_more legal good s t o p m q within same more h to leg b =
      let d = t.drained in let u = max d to in let up = q.more in
      let cut : to - d ≡ u - d = omega arith in
      let low : d ≤ u = omega arith in
      let r = m h u leg (chained s.seen t.seen h q.seen b) in let l = r.0 in
      let whole_part : (l ++ part t.seen s.drained d) ++ part h d to ≡ l ++ part h s.drained u =
      ap (λ k. (l ++ part t.seen s.drained d) ++ take k (drop d h)) cut ∙ (append_assoc l (part t.seen s.drained d) (part h d u) ∙ ap (λ x. l ++ x) (part_join t.seen h s.drained d u b up low within)) in
      (l ++ part t.seen s.drained d, more l r.1, same ((l ++ part t.seen s.drained d) ++ part h d to) (subst (good o) (sym whole_part) r.2))

-- one drain
module _ {B O T E : Type 0} {got lost good : O → List Entry → Type 0} {p : PlantFacts} {d : Drain B} {o : O} {n : ℕ} {is : List Entry} (e : Drain B) (q : O) (stops : O → ℕ) (r : Result T E)
    (can : CanDrain got lost good p d o) (x : DrainedLate p (2 ^ 64 - 1) (vec_capacity d.spare - vec_len d.spare) d.spare.items is n d.operator e.operator) where
  pub drained_one : e.spare.items ≡ [] → vec_capacity e.spare ≡ vec_capacity d.spare → vec_capacity d.spare < 2 ^ 64 → HasCause (stops o) (stops q) r → ((l : List Entry) → good o l → good q l) → HasDrained good stops p d e o q
  drained_one empty same few cause more =
      let y = x.drained in let number = ap (λ (u : SeatFacts). u.drained) y.after in let long = ap (λ (u : SeatFacts). length u.seen) y.after in let within = y.within in let fits = y.fits in let count = y.count in
      let none : vec_len d.spare ≡ 0 = let all : vec_len d.spare ≡ length d.spare.items = search rules in all ∙ ap (λ (l : List Entry). length l) can.spare in
      record {
        operated = operated_of _ _ _ _ _ _ _ _ x;
        within = within_of _ _ _ _ _ _ _ _ x;
        all = λ places. omega (arith, number, long, within, fits, count, places, few, none);
        spare = (empty, same);
        stops_more = cause.later;
        stays_good = more;
      }

  moved : is ≡ part e.operator.seen d.operator.drained e.operator.drained
  moved = drained_part _ _ _ _ _ _ _ _ x can.spare

  pub got_one : IfOk r (λ _. (l : List Entry) → got o l → got q (l ++ is)) → IfOk r (λ _. GotMore got o q (part e.operator.seen d.operator.drained e.operator.drained))
  got_one taken = IfOk-weaker r _ _ (λ u ok l k. subst (λ (m : List Entry). got q (l ++ m)) moved (ok l k)) taken

  pub can_again : (s : Result T E) → e.spare.items ≡ [] → ((l : List Entry) → good o l → good q l) → IfOk s (λ _. (l : List Entry) → got o l → got q (l ++ is)) → IfOk s (λ _. lost q []) → IfOk s (λ _. CanDrain got lost good p e q)
  can_again (Err y) empty more taken none = tt
  can_again (Ok u) empty more taken none =
      let on = operated_of _ _ _ _ _ _ _ _ x in
      record {
        plant = of_same p d.operator e.operator on.plant on.tx can.plant;
        operator = on.tx ∙ can.operator;
        spare = empty;
        none_lost = none;
        may = may_drain_more got (IsLegal p.set) good d.operator e.operator o q can.may on (within_of _ _ _ _ _ _ _ _ x) more (λ l k. subst (λ (m : List Entry). got q (l ++ m)) moved (taken l k));
      }

  -- the out refused what was drained
  pub cut_one : (s : Result T E) → OnErr s ((l : List Entry) → got o l → got q l) → OnErr s (lost q is) → HasCause (stops o) (stops q) s → IfErr s (λ _. Rose (stops o) (stops q) × CollectedTo got lost d.operator e.operator o q)
  cut_one (Ok u) kept gone cause = tt
  cut_one (Err y) kept gone cause = (
    cause.failed,
    record {
      to = d.operator.drained;
      from = le_refl d.operator.drained;
      within = (operated_of _ _ _ _ _ _ _ _ x).more;
      got_is = λ l k. subst (got q) (sym (ap (λ (m : List Entry). l ++ m) (part_none e.operator.seen d.operator.drained) ∙ append-nil l)) (kept l k);
      lost_is = subst (lost q) moved gone;
    },
  )

-- more drains
pub drained_on : {B O : Type 0} {good : O → List Entry → Type 0} {stops : O → ℕ} {p : PlantFacts} {d e f : Drain B} {o q r : O} → HasDrained good stops p d e o q → HasDrained good stops p e f q r → HasDrained good stops p d f o r
drained_on h k = let same = h.spare.1 in let a = h.stops_more in let b = k.stops_more in record {
  operated = operated_trans _ _ _ h.operated k.operated;
  within = k.within;
  all = λ places. k.all (omega (arith, places, same));
  spare = (k.spare.0, k.spare.1 ∙ same);
  stops_more = omega (arith, a, b);
  stays_good = λ history fine. k.stays_good history (h.stays_good history fine);
}

pub rose_later : (a b c : ℕ) → a ≤ b → Rose b c → Rose a c
rose_later a b c le r = omega (arith, le, r)
