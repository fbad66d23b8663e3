-- All releases that are accepted can be planned, one after another.
use Rattle.std.proofs.Common.{◌≡◌, ◌≢◌, ℕ, zero, suc, ◌+◌, ◌-◌, ◌^◌, ◌<◌, ◌≤◌, ◌==◌, Bool, true, false, cond, ◌&&◌, List, [], ◌∷◌, ◌++◌, length, map, drop, Some, Result, Ok, Err, get_or, set as with_item, refl, ap, sym, ◌∙◌, subst, arith, append_assoc, length-append, get_or-set_same, get_or-set_other}
use Rattle.std.proofs.lemmas.List.{length-set, length-map}
use Rattle.std.proofs.lemmas.Bool.{and_from, lt-ltb, le-leb}
use Rattle.std.specs.Prelude.{nat_lt, nat_le}
use Rattle.std.specs.List.{sum}
use Rattle.std.proofs.lemmas.List.Sums.{sum_by-cons}
use Rattle.rt_base.specs.declared.ids.TxId.{TxId}
use Rattle.rt_base.specs.declared.ids.JobId.{JobId}
use Rattle.rt_base.specs.declared.release.Plans.{Plans}
use Rattle.rt_base.specs.declared.release.PlanRefused.{PlanRefused}
use Rattle.txn_set.specs.Set.{Set, txn_of}
use Rattle.step_journal.specs.declared.entry.Entry.{Entry}
use Rattle.step_journal.specs.declared.entry.Entry.TheVariants.{Planned}
use Rattle.step_journal.specs.State.{State, opening}
use Rattle.step_journal.specs.Step.{plan, given, plans_of, earliest, may_plan, next_job, with_plan, step}
use Rattle.step_journal.specs.History.{state_given, entry_given, state_after, states_after, IsLegalFrom, IsLegal, state_of}
use Rattle.board.specs.Histories.{IsHistory, noted, plan_entry, plan_answer}
use Rattle.board.proofs.Plans.{plans_are_steps}
use Rattle.law_histories.specs.Sim.{plans_from}
use Rattle.law_histories.proofs.Histories.{plan_now as after_now}
use Rattle.sim_run.specs.Workloads.{AreSpaced, AreAccepted}
use Rattle.sim_run.specs.Handed.{IsHanded}
use Rattle.sim_run.proofs.Histories.{legal_parts, legal_split, legal_join}
use Rattle.sim_run.proofs.Handing.{left_as, kept_after}

-- what the board answers to a legal plan

entry_ok : (tx : TxId) (tick : ℕ) (r : Result JobId PlanRefused) (entry : Entry) → plan_entry tx tick r ≡ Some entry
    → ((job : JobId) → r ≡ Ok job → ⊥) → ⊥
entry_ok tx tick (Ok job) entry h none = none job refl
entry_ok tx tick (Err e) entry h none = cc

pub plan_ok : (set : Set) (kept room : ℕ) (history : List Entry) (tx : TxId) (tick : ℕ) (rest : List Entry)
    (r : Result JobId PlanRefused) → tx.0 < length set.txns → IsLegal set (history ++ Planned tx tick ∷ rest)
    → kept < room
    → r ≡ plan_answer set history kept room tx.0 tick → plan_entry tx tick r ≡ Some (Planned tx tick)
plan_ok set kept room history tx tick rest r in_set legal lt e =
    ap (plan_entry tx tick) e ∙ (plans_are_steps set (state_of set history) kept room tx tick lt in_set ∙ (legal_parts set history (Planned tx tick) rest legal).1)

pub plan_stands : (set : Set) (kept room : ℕ) (history : List Entry) (tx : TxId) (tick : ℕ) (rest : List Entry)
    (r : Result JobId PlanRefused) → tx.0 < length set.txns → IsLegal set (history ++ Planned tx tick ∷ rest)
    → kept < room
    → r ≡ plan_answer set history kept room tx.0 tick → ((job : JobId) → r ≡ Ok job → ⊥) → ⊥
plan_stands set kept room history tx tick rest r in_set legal lt e none = entry_ok tx tick r (Planned tx tick) (plan_ok set kept room history tx tick rest r in_set legal lt e) none

-- the ticks from a place on

pub drop_here : {A : Type 0} (xs : List A) (n : ℕ) (d : A) → n < length xs → drop n xs ≡ get_or xs n d ∷ drop (suc n) xs
drop_here [] n d lt = absurd (omega arith)
drop_here (x ∷ xs) zero d lt = refl
drop_here (x ∷ xs) (suc n) d lt = drop_here xs n d (omega arith)

pub drop_none : {A : Type 0} (xs : List A) (n : ℕ) → length xs ≤ n → drop n xs ≡ []
drop_none [] zero le = refl
drop_none [] (suc n) le = refl
drop_none (x ∷ xs) zero le = absurd (omega arith)
drop_none (x ∷ xs) (suc n) le = drop_none xs n (omega arith)

-- the rest of the plans of one transaction
pub ticks_rest : (tx : TxId) (ticks : List ℕ) (n d : ℕ) (history whole : List Entry) → n < length ticks
    → history ++ map (Planned tx) (drop n ticks) ≡ whole
    → history ++ Planned tx (get_or ticks n d) ∷ map (Planned tx) (drop (suc n) ticks) ≡ whole
ticks_rest tx ticks n d history whole lt e = ap (λ (ts : List ℕ). history ++ map (Planned tx) ts) (sym (drop_here ticks n d lt)) ∙ e

pub ticks_next : (tx : TxId) (ticks : List ℕ) (n d : ℕ) (history : List Entry) → n < length ticks
    → history ++ map (Planned tx) (drop n ticks) ≡ (history ++ Planned tx (get_or ticks n d) ∷ []) ++ map (Planned tx)
    (drop (suc n) ticks)
ticks_next tx ticks n d history lt =
    ap (λ (ts : List ℕ). history ++ map (Planned tx) ts) (drop_here ticks n d lt)
    ∙ sym (append_assoc history (Planned tx (get_or ticks n d) ∷ []) (map (Planned tx) (drop (suc n) ticks)))

-- the entries of a list and the plans that are left, after one more plan
pub each_left : (tx : TxId) (ticks : List ℕ) (n d next : ℕ) (kept kept' : List Entry) → n < length ticks → next ≡ suc n
    → kept' ≡ kept ++ Planned tx (get_or ticks n d) ∷ []
    → kept ++ map (Planned tx) (drop n ticks) ≡ kept' ++ map (Planned tx) (drop next ticks)
each_left tx ticks n d next kept kept' lt one e =
    ticks_next tx ticks n d kept lt
    ∙ (ap (λ (l : List Entry). l ++ map (Planned tx) (drop (suc n) ticks)) (sym e)
    ∙ ap (λ (m : ℕ). kept' ++ map (Planned tx) (drop m ticks)) (sym one))

pub plan_noted : (history : List Entry) (tx : TxId) (tick : ℕ) (r : Result JobId PlanRefused) (job : JobId) → r ≡ Ok job
    → noted history (plan_entry tx tick r) ≡ history ++ Planned tx tick ∷ []
plan_noted history tx tick r job e = ap (λ (q : Result JobId PlanRefused). noted history (plan_entry tx tick q)) e

-- what the out got of them, after one more plan
pub each_handed : {got got' : List Entry → Type 0} {entries : List Entry} {set set' : Set} {room room' first first' : ℕ} {kept kept' history history' : List Entry} {r : Result JobId PlanRefused} {job : JobId}
    (tx : TxId) (ticks : List ℕ) (n : ℕ) → n < length ticks → IsHistory set room first kept history → IsHistory set' room' first' kept' history' → first' ≡ first
    → r ≡ Ok job → history' ≡ noted history (plan_entry tx (get_or ticks n 0) r)
    → IsHanded got got' entries (kept ++ map (Planned tx) (drop n ticks)) → IsHanded got got' entries (kept' ++ map (Planned tx) (drop (n + 1) ticks))
each_handed {got} {got'} {entries} {kept = kept} {kept' = kept'} {history = history} {r = r} tx ticks n lt is is' same granted more h =
    left_as got got' entries _ _ (each_left tx ticks n 0 (n + 1) kept kept' lt (omega arith)
    (kept_after _ _ _ _ _ _ _ _ history _ (Planned tx (get_or ticks n 0)) is is' same (more ∙ plan_noted history tx (get_or ticks n 0) r _ granted))) h

-- the rest of all plans
pub plans_rest : (releases : List (List ℕ)) (n : ℕ) (d : List ℕ) (history whole : List Entry) → n < length releases
    → history ++ plans_from n (drop n releases) ≡ whole
    → (history ++ map (Planned (record { 0 = n })) (get_or releases n d)) ++ plans_from (n + 1)
    (drop (suc n) releases) ≡ whole
plans_rest releases n d history whole lt e =
    append_assoc history (map (Planned (record { 0 = n })) (get_or releases n d)) (plans_from (n + 1) (drop (suc n) releases))
    ∙ (ap (λ (rs : List (List ℕ)). history ++ plans_from n rs) (sym (drop_here releases n d lt)) ∙ e)

pub plans_legal : (set : Set) (releases : List (List ℕ)) (n : ℕ) (d : List ℕ) (history whole : List Entry)
    → n < length releases → history ++ plans_from n (drop n releases) ≡ whole → IsLegal set whole
    → IsLegal set (history ++ map (Planned (record { 0 = n })) (get_or releases n d))
plans_legal set releases n d history whole lt e legal =
    (legal_split set (opening set) (history ++ map (Planned (record { 0 = n })) (get_or releases n d)) (plans_from (n + 1) (drop (suc n) releases)) (subst (IsLegal set) (sym (plans_rest releases n d history whole lt e)) legal)).0

-- amid the plans of one transaction the answer is Ok
pub each_answers : (set set' : Set) (kept room : ℕ) (history whole : List Entry) (tx : TxId) (ticks : List ℕ) (n : ℕ)
    (r : Result JobId PlanRefused) → n < length ticks → history ++ map (Planned tx) (drop n ticks) ≡ whole → set ≡ set'
    → tx.0 < length set'.txns → IsLegal set' whole → kept < room
    → r ≡ plan_answer set history kept room tx.0 (get_or ticks n 0)
    → ((job : JobId) → r ≡ Ok job → ⊥) → ⊥
each_answers set set' kept room history whole tx ticks n r lt planned es in_set legal fits answer none =
    let l : IsLegal set (history ++ Planned tx (get_or ticks n 0) ∷ map (Planned tx) (drop (suc n) ticks)) = subst (IsLegal set) (sym (ticks_rest tx ticks n 0 history whole lt planned)) (subst (λ (q : Set). IsLegal q whole) (sym es) legal) in
    plan_stands set kept room history tx (get_or ticks n 0) (map (Planned tx) (drop (suc n) ticks)) r (subst (λ (q : Set). tx.0 < length q.txns) (sym es) in_set) l fits answer none

-- amid all plans those of the next transaction are legal
pub all_go_on : (set set' : Set) (releases : List (List ℕ)) (n : ℕ) (d ticks : List ℕ) (history whole : List Entry)
    → n < length releases → history ++ plans_from n (drop n releases) ≡ whole → set ≡ set' → IsLegal set' whole
    → ticks ≡ get_or releases n d
    → IsLegal set (history ++ map (Planned (record { 0 = n })) ticks)
all_go_on set set' releases n d ticks history whole lt planned es legal is =
    subst (λ (ts : List ℕ). IsLegal set (history ++ map (Planned (record { 0 = n })) ts)) (sym is)
    (plans_legal set releases n d history whole lt planned (subst (λ (q : Set). IsLegal q whole) (sym es) legal))

-- the entries of a list and the plans that are left, after those of one more transaction
pub all_left : (releases : List (List ℕ)) (n next : ℕ) (d ticks : List ℕ) (kept : List Entry) → n < length releases
    → next ≡ suc n → ticks ≡ get_or releases n d
    → kept ++ plans_from n (drop n releases) ≡ (kept ++ map (Planned (record { 0 = n })) ticks) ++ plans_from next
    (drop next releases)
all_left releases n next d ticks kept lt one is =
    sym (plans_rest releases n d kept _ lt refl)
    ∙ (ap (λ (ts : List ℕ). (kept ++ map (Planned (record { 0 = n })) ts) ++ plans_from (n + 1) (drop (suc n) releases)) (sym is)
    ∙ (ap (λ (m : ℕ). (kept ++ map (Planned (record { 0 = n })) ticks) ++ plans_from m (drop (suc n) releases)) (omega (arith, one))
    ∙ ap (λ (m : ℕ). (kept ++ map (Planned (record { 0 = n })) ticks) ++ plans_from next (drop m releases)) (sym one)))

-- what the out got of them, before those of one more transaction
pub next_handed : {got got' : List Entry → Type 0} {entries : List Entry} (releases : List (List ℕ)) (n : ℕ) (d ticks : List ℕ) (kept : List Entry) → n < length releases → ticks ≡ get_or releases n d
    → IsHanded got got' entries (kept ++ plans_from n (drop n releases)) → IsHanded got got' entries ((kept ++ map (Planned (record { 0 = n })) ticks) ++ plans_from (n + 1) (drop (n + 1) releases))
next_handed {got} {got'} {entries} releases n d ticks kept lt is h = left_as got got' entries _ _ (all_left releases n (n + 1) d ticks kept lt (omega arith) is) h

-- Every plan is legal: at tick 0 with a tick that is late enough, and with few planned.

-- before the plans of these releases from transaction tx on
pub record IsPlannable (set : Set) (s : State) (tx left : ℕ) : Type 0 where
  pub now : s.now ≡ 0
  pub count : length s.plans ≡ length set.txns
  pub few : length s.planned + left ≤ 65536
  pub new : (n : ℕ) → tx ≤ n → (plans_of s n).number ≡ 0

-- amid the plans of one transaction
pub record IsAmid (set : Set) (s : State) (tx from number left : ℕ) : Type 0 where
  pub now : s.now ≡ 0
  pub count : length s.plans ≡ length set.txns
  pub few : length s.planned + left ≤ 65536
  pub new : (n : ℕ) → tx < n → (plans_of s n).number ≡ 0
  pub number_is : (plans_of s tx).number ≡ number
  pub numbers : number + left ≤ 65536
  pub soon : earliest set tx (plans_of s tx) ≤ from

may_plan_by : (set : Set) (s : State) (tx tick : ℕ) → tx < length set.txns → s.now ≤ tick → tick ≤ 2 ^ 40
    → earliest set tx (plans_of s tx) ≤ tick → length s.planned < 65536 → (plans_of s tx).number < 2 ^ 32 - 1
    → may_plan set s tx tick ≡ true
unfolding may_plan
may_plan_by set s tx tick a b c d e f =
    and_from (nat_lt tx (length set.txns) && nat_le s.now tick && nat_le tick (2 ^ 40) && nat_le (earliest set tx (plans_of s tx)) tick && nat_lt (length s.planned) 65536) (nat_lt (plans_of s tx).number (2 ^ 32 - 1))
    (and_from (nat_lt tx (length set.txns) && nat_le s.now tick && nat_le tick (2 ^ 40) && nat_le (earliest set tx (plans_of s tx)) tick) (nat_lt (length s.planned) 65536)
    (and_from (nat_lt tx (length set.txns) && nat_le s.now tick && nat_le tick (2 ^ 40)) (nat_le (earliest set tx (plans_of s tx)) tick)
    (and_from (nat_lt tx (length set.txns) && nat_le s.now tick) (nat_le tick (2 ^ 40))
    (and_from (nat_lt tx (length set.txns)) (nat_le s.now tick) (lt-ltb _ _ a) (le-leb _ _ b))
    (le-leb _ _ c)) (le-leb _ _ d)) (lt-ltb _ _ e)) (lt-ltb _ _ f)

step_plan : (set : Set) (s : State) (tx tick : ℕ) → may_plan set s tx tick ≡ true
    → step set s (plan tx tick) ≡ Some (Planned (record { 0 = tx }) tick, with_plan s tx tick)
unfolding step
step_plan set s tx tick may = ap (λ (b : Bool). given b (Planned (record { 0 = tx }) tick, with_plan s tx tick)) may

after_plans : (s : State) (tx tick : ℕ)
    → (with_plan s tx tick).plans ≡ with_item s.plans tx (record { number = (plans_of s tx).number + 1; last = tick })
unfolding with_plan
after_plans s tx tick = refl

pub after_few : (s : State) (tx tick : ℕ) → length (with_plan s tx tick).planned ≤ length s.planned + 1
unfolding with_plan
after_few s tx tick = few_at (tick == s.now) where
  few_at : (b : Bool)
      → length (cond b s.planned (s.planned ++ record { job = next_job s tx; tick = tick } ∷ [])) ≤ length s.planned + 1
  few_at true = omega arith
  few_at false = omega (arith, length-append s.planned (record { job = next_job s tx; tick = tick } ∷ []))

pub earliest_le : (set : Set) (tx : ℕ) (p : Plans) → earliest set tx p ≤ p.last + (txn_of set tx).period
earliest_le set tx p = le_at (p.number == 0) where
  le_at : (b : Bool) → cond b 0 (p.last + (txn_of set tx).period) ≤ p.last + (txn_of set tx).period
  le_at true = omega arith
  le_at false = omega arith

earliest_first : (set : Set) (tx : ℕ) (p : Plans) → p.number ≡ 0 → earliest set tx p ≡ 0
earliest_first set tx p e = ap (λ (n : ℕ). cond (n == 0) 0 (p.last + (txn_of set tx).period)) e

-- the plans after one more
same_here : (set : Set) (s : State) (tx tick : ℕ) → tx < length set.txns → length s.plans ≡ length set.txns
    → plans_of (with_plan s tx tick) tx ≡ record { number = (plans_of s tx).number + 1; last = tick }
same_here set s tx tick lt count =
    ap (λ (l : List Plans). get_or l tx (record { number = 0; last = 0 })) (after_plans s tx tick)
    ∙ get_or-set_same s.plans tx (record { number = (plans_of s tx).number + 1; last = tick }) (record { number = 0; last = 0 }) (omega (arith, lt, count))

same_there : (s : State) (tx tick n : ℕ) → n ≢ tx → plans_of (with_plan s tx tick) n ≡ plans_of s n
same_there s tx tick n ne =
    ap (λ (l : List Plans). get_or l n (record { number = 0; last = 0 })) (after_plans s tx tick)
    ∙ get_or-set_other s.plans tx n (record { number = (plans_of s tx).number + 1; last = tick }) (record { number = 0; last = 0 }) ne

amid_next : (set : Set) (s : State) (tx tick from number left : ℕ) → tx < length set.txns → from ≤ tick
    → IsAmid set s tx from number (suc left) → IsAmid set (with_plan s tx tick) tx (tick + (txn_of set tx).period)
    (number + 1) left
amid_next set s tx tick from number left lt le a =
    let p = same_here set s tx tick lt a.count in
    record {
      now = after_now s tx tick ∙ a.now;
      count = ap (λ (l : List Plans). length l) (after_plans s tx tick) ∙ (length-set s.plans tx (record { number = (plans_of s tx).number + 1; last = tick }) ∙ a.count);
      few = omega (arith, a.few, after_few s tx tick);
      new = λ n gt. ap (λ (q : Plans). q.number) (same_there s tx tick n (λ e. omega (arith, gt, e))) ∙ a.new n gt;
      number_is = ap (λ (q : Plans). q.number) p ∙ ap (λ (k : ℕ). k + 1) a.number_is;
      numbers = omega (arith, a.numbers);
      soon = omega (arith, earliest_le set tx (plans_of (with_plan s tx tick) tx), ap (λ (q : Plans). q.last) p);
    }

amid_may : (set : Set) (s : State) (tx tick from number left : ℕ) → tx < length set.txns → from ≤ tick → tick ≤ 2 ^ 40
    → IsAmid set s tx from number (suc left) → may_plan set s tx tick ≡ true
amid_may set s tx tick from number left lt le near a =
    may_plan_by set s tx tick lt (omega (arith, a.now)) near (omega (arith, a.soon, le)) (omega (arith, a.few)) (omega (arith, a.numbers, a.number_is))

-- the plans of one transaction
ticks_legal : (set : Set) (s : State) (tx from number left : ℕ) (ticks : List ℕ) → tx < length set.txns
    → AreSpaced (txn_of set tx).period from ticks → IsAmid set s tx from number (length ticks + left)
    → IsLegalFrom set s (map (Planned (record { 0 = tx })) ticks) × IsPlannable set (states_after set s (map (Planned (record { 0 = tx })) ticks))
    (tx + 1) left
ticks_legal set s tx from number left [] lt spaced a = (tt, record { now = a.now; count = a.count; few = omega (arith, a.few); new = λ n le. a.new n (omega (arith, le)) })
ticks_legal set s tx from number left (tick ∷ rest) lt spaced a =
    let a' : IsAmid set s tx from number (suc (length rest + left)) = subst (IsAmid set s tx from number) (omega arith) a in
    let st = step_plan set s tx tick (amid_may set s tx tick from number (length rest + left) lt spaced.0 spaced.1 a') in
    let next : state_after set s (Planned (record { 0 = tx }) tick) ≡ with_plan s tx tick = ap (state_given s) st in
    let r = ticks_legal set (with_plan s tx tick) tx (tick + (txn_of set tx).period) (number + 1) left rest lt spaced.2 (amid_next set s tx tick from number (length rest + left) lt spaced.0 a') in (
      (ap entry_given st, subst (λ (q : State). IsLegalFrom set q (map (Planned (record { 0 = tx })) rest)) (sym next) r.0),
      subst (λ (q : State). IsPlannable set (states_after set q (map (Planned (record { 0 = tx })) rest)) (tx + 1) left) (sym next) r.1,
    )

amid_first : (set : Set) (s : State) (tx left : ℕ) → IsPlannable set s tx left → IsAmid set s tx 0 0 left
amid_first set s tx left h = record {
  now = h.now;
  count = h.count;
  few = h.few;
  new = λ n lt. h.new n (omega (arith, lt));
  number_is = h.new tx (omega arith);
  numbers = omega (arith, h.few);
  soon = omega (arith, earliest_first set tx (plans_of s tx) (h.new tx (omega arith)));
}

all_legal : (set : Set) (s : State) (tx : ℕ) (releases : List (List ℕ)) → tx + length releases ≡ length set.txns
    → ((n : ℕ) → n < length releases → AreSpaced (txn_of set (tx + n)).period 0 (get_or releases n []))
    → IsPlannable set s tx (sum (map length releases)) → IsLegalFrom set s (plans_from tx releases)
all_legal set s tx [] count spaced h = tt
all_legal set s tx (ticks ∷ rest) count spaced h =
    let here : AreSpaced (txn_of set tx).period 0 ticks = subst (λ (n : ℕ). AreSpaced (txn_of set n).period 0 ticks) (omega arith) (spaced 0 (omega arith)) in
    let first = ticks_legal set s tx 0 0 (sum (map length rest)) ticks (omega (arith, count)) here (amid_first set s tx (length ticks + sum (map length rest)) (subst (IsPlannable set s tx) (sum_by-cons (λ (n : ℕ). n) (length ticks) (map length rest)) h)) in
    legal_join set s (map (Planned (record { 0 = tx })) ticks) (plans_from (tx + 1) rest) first.0
    (all_legal set (states_after set s (map (Planned (record { 0 = tx })) ticks)) (tx + 1) rest (omega (arith, count))
    (λ n lt. subst (λ (k : ℕ). AreSpaced (txn_of set k).period 0 (get_or rest n [])) (omega arith) (spaced (suc n) (omega (arith, lt)))) first.1)

no_plans : {A : Type 0} (xs : List A) (n : ℕ)
    → (get_or {A = Plans} (map (λ t. record { number = 0; last = 0 }) xs) n (record { number = 0; last = 0 })).number ≡ 0
no_plans [] n = refl
no_plans (x ∷ xs) zero = refl
no_plans (x ∷ xs) (suc n) = no_plans xs n

opening_plannable : (set : Set) (left : ℕ) → left ≤ 65536 → IsPlannable set (opening set) 0 left
unfolding opening
opening_plannable set left le = record {
  now = refl;
  count = length-map set.txns (λ t. record { number = 0; last = 0 });
  few = omega (arith, le);
  new = λ n lt. no_plans set.txns n;
}

pub releases_legal : (set : Set) (releases : List (List ℕ)) → AreAccepted set releases
    → IsLegal set (plans_from 0 releases)
releases_legal set releases a = all_legal set (opening set) 0 releases (omega (arith, a.each))
    (λ n lt. subst (λ (k : ℕ). AreSpaced (txn_of set k).period 0 (get_or releases n [])) (omega arith) (a.spaced n (omega (arith, lt, a.each)))) (opening_plannable set (sum (map length releases)) a.few)
