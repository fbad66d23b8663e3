-- Percentages of a set's steps: they rise with the percentage, and what is accepted at one is accepted at each smaller
-- one.
use Rattle.std.proofs.Common.{◌≡◌, ◌∙◌, suc, ◌^◌, Bool, true, false, not, ⊎_elim, ℕ, ◌*◌, ◌<◌, ◌≤◌, List, [], ◌∷◌, map, get_or, Option, None, refl, ap, ap₂, subst, arith, mul-pos, mul-le-mul_left}
use Rattle.std.proofs.lemmas.Bool.{cases_lt, le-leb, lt-leb, lt-ltb, le-ltb}
use Rattle.std.proofs.lemmas.Grind.{div_ceil_times}
use Rattle.std.specs.Prelude.{nat_lt, nat_le}
use Rattle.std.proofs.lemmas.List.{get_or-map, length-map}
use Rattle.std.proofs.lemmas.List.Elements.{All-head, All-tail, All-map}
use Rattle.std.specs.List.{All}
use Rattle.std.specs.Option.{option_map}
use Rattle.item_model.specs.Work.{first_of_both}
use Rattle.txn_set.specs.declared.decl.TxnDecl.{TxnDecl}
use Rattle.txn_set.specs.Set.{Set, HasGoodTimes, IsCompiled}
use Rattle.txn_set.proofs.Declared.{good_with}
use Rattle.txn_compiler.specs.declared.error.Which.TheVariants.{Steps}
use Rattle.txn_compiler.specs.declared.error.CompileError.{CompileError}
use Rattle.txn_compiler.specs.declared.error.CompileError.TheVariants.{BadTimes}
use Rattle.txn_compiler.specs.Refusal.{given, first_refusal, bad_times_at, compile_refusal}
use Rattle.txn_compiler.proofs.Verdict.{compiled-unless-refused}
use Rattle.set_admission.specs.Admission.{refusal}
use Rattle.set_admission.proofs.Admitted.{decided, map-none as map_none, none-map as none_map, both-none as both_none}
use Rattle.scale_margin.specs.Scaled.{AreFewer, steps_at, quiet_at, counts_at, scaled_txn, scaled}
use Rattle.scale_margin.specs.Barriers.{barrier_at}
use Rattle.scale_margin.specs.Laws.{JudgedBySteps, SameAtHundred, AcceptedUnlessBarred, AcceptedFallsOnce}
use Rattle.scale_margin.proofs.Fewer.{keeps_admitted}
use Rattle.scale_margin.proofs.Compiles.{lists_counted, compiled_counted, times_alone}

-- the steps at a percentage

pub steps_rise : (j k steps : ℕ) → j ≤ k → steps_at j steps ≤ steps_at k steps
steps_rise j k steps le =
    let a = div_ceil_times (steps * j) 100 (omega arith) in
    let b = div_ceil_times (steps * k) 100 (omega arith) in
    let c : steps * j ≤ steps * k = mul-le-mul_left steps le in
    omega (arith, a.1, b.0, c)

some_steps : (k steps : ℕ) → 1 ≤ k → 1 ≤ steps → 1 ≤ steps_at k steps
some_steps k steps a b =
    let c = div_ceil_times (steps * k) 100 (omega arith) in
    let d : 0 < steps * k = mul-pos b a in
    omega (arith, c.0, d)

same_steps : (steps : ℕ) → steps_at 100 steps ≡ steps
same_steps steps =
    let a = div_ceil_times (steps * 100) 100 (omega arith) in
    omega (arith, a.0, a.1)

pub are_fewer : (j k : ℕ) → j ≤ k → AreFewer (counts_at j) (counts_at k)
are_fewer j k le = record {
  steps = λ t. steps_rise j k t.steps le;
  after_quiet = λ t. let rise = steps_rise j k t.steps le in omega (arith, rise);
}

-- which scaled sets are compiled

abbrev IsInRange : ℕ → TxnDecl → Type 0
IsInRange k t = steps_at k t.steps ≤ 10000

good_at : (k : ℕ) (t : TxnDecl) → HasGoodTimes t → 1 ≤ k → IsInRange k t → HasGoodTimes (scaled_txn k t)
good_at k t h one le =
    let some = some_steps k t.steps one h.steps.0 in
    good_with t t.prio (steps_at k t.steps) (quiet_at k t.steps t.quiet) h h.prio (some, le) (omega (arith, some))

good_all : (k : ℕ) (set : Set) → IsCompiled set → 1 ≤ k → All (IsInRange k) set.txns → All HasGoodTimes (map (scaled_txn k) set.txns)
good_all k set ok one all = All-map HasGoodTimes (scaled_txn k) set.txns (λ i d below. good_at k (get_or set.txns i d) (ok.times i d below) one (all i d below))

all_good : (k : ℕ) (ts : List TxnDecl) → All HasGoodTimes (map (scaled_txn k) ts) → All (IsInRange k) ts
all_good k ts good i d below =
    let h = good i (scaled_txn k d) (omega (arith, below, length-map ts (scaled_txn k))) in
    subst (λ (t : TxnDecl). t.steps ≤ 10000) (get_or-map (scaled_txn k) ts i d (scaled_txn k d) below) h.steps.1

pub compiled_at : (set : Set) (k : ℕ) → IsCompiled set → 1 ≤ k → All (IsInRange k) set.txns → IsCompiled (scaled set k)
compiled_at set k ok one all = compiled_counted (counts_at k) set ok (good_all k set ok one all)

-- a transaction whose steps alone may be out of their range

some_which : (b : Bool) (tx : ℕ) → option_map (λ which. BadTimes (record { 0 = tx }) which) (first_of_both (given b Steps) None) ≡ given b (BadTimes (record { 0 = tx }) Steps)
some_which true tx = refl
some_which false tx = refl

not_within : (n : ℕ) → not (nat_le n 10000) ≡ nat_lt 10000 n
not_within n =
    ⊎_elim (λ (above : 10000 < n). rw (lt-leb n 10000 above, lt-ltb 10000 n above) refl) (λ (below : n ≤ 10000). rw (le-leb n 10000 below, le-ltb 10000 n below) refl)
    (cases_lt 10000 n)

bad_steps : (k tx : ℕ) (t : TxnDecl) → 1 ≤ k → HasGoodTimes t → bad_times_at tx (scaled_txn k t) ≡ given (nat_lt 10000 (scaled_txn k t).steps) (BadTimes (record { 0 = tx }) Steps)
bad_steps k tx t one h =
    let some = some_steps k t.steps one h.steps.0 in
    let quiet : (scaled_txn k t).quiet < (scaled_txn k t).steps = omega (arith, some) in
    rw (
      le-leb 1 t.prio h.prio.0,
      le-leb t.prio 1000 h.prio.1,
      le-leb 1 (steps_at k t.steps) some,
      le-leb 1 t.period h.period.0,
      le-leb t.period (2 ^ 30) h.period.1,
      le-leb 1 t.deadline h.deadline.0,
      le-leb t.deadline t.period h.deadline.1,
      le-leb t.offset t.period h.offset,
      lt-ltb (scaled_txn k t).quiet (scaled_txn k t).steps quiet,
      not_within (steps_at k t.steps),
    )
    (some_which (nat_lt 10000 (steps_at k t.steps)) tx)

bad_steps_all : (k place : ℕ) (ts : List TxnDecl) → 1 ≤ k → All HasGoodTimes ts
    → first_refusal bad_times_at place (map (scaled_txn k) ts) ≡ first_refusal (λ tx txn. given (nat_lt 10000 txn.steps) (BadTimes (record { 0 = tx }) Steps)) place (map (scaled_txn k) ts)
bad_steps_all k place [] one all = refl
bad_steps_all k place (t ∷ ts) one all =
    ap₂ (λ (a b : Option CompileError). first_of_both a b) (bad_steps k place t one (All-head HasGoodTimes t ts all)) (bad_steps_all k (suc place) ts one (All-tail HasGoodTimes t ts all))

pub judged_by_steps : JudgedBySteps
judged_by_steps set k ok one =
    let rule = compiled-unless-refused (scaled set k) (lists_counted (counts_at k) set ok) in
    record {
      refusal = times_alone (counts_at k) set ok ∙ bad_steps_all k 0 set.txns one ok.times;
      compiled = (λ none. all_good k set.txns (rule.0 none).times, λ all. rule.1 (compiled_at set k ok one all));
    }

-- a hundred percent

same_txn : (t : TxnDecl) → HasGoodTimes t → scaled_txn 100 t ≡ t
same_txn t h =
    let s = same_steps t.steps in
    let q : quiet_at 100 t.steps t.quiet ≡ t.quiet = omega (arith, s, h.quiet) in
    ap₂ (λ (steps quiet : ℕ). record t { steps = steps; quiet = quiet }) s q

same_txns : (ts : List TxnDecl) → All HasGoodTimes ts → map (scaled_txn 100) ts ≡ ts
same_txns [] all = refl
same_txns (t ∷ ts) all = ap₂ (λ (x : TxnDecl) (xs : List TxnDecl). x ∷ xs) (same_txn t (All-head HasGoodTimes t ts all)) (same_txns ts (All-tail HasGoodTimes t ts all))

pub same_at_hundred : SameAtHundred
same_at_hundred set ok = ap (λ (ts : List TxnDecl). record set { txns = ts }) (same_txns set.txns ok.times)

-- acceptance

pub unbarred : (set : Set) (k : ℕ) → barrier_at set k ≡ None → (compile_refusal (scaled set k) ≡ None) × (refusal (scaled set k) ≡ None)
unfolding barrier_at
unbarred set k h = let both = both_none _ _ h in (map_none _ _ both.0, map_none _ _ both.1)

pub barred_not : (set : Set) (k : ℕ) → compile_refusal (scaled set k) ≡ None → refusal (scaled set k) ≡ None → barrier_at set k ≡ None
unfolding barrier_at
barred_not set k a b = rw (none_map _ _ a) (none_map _ _ b)

pub accepted_unless_barred : AcceptedUnlessBarred
accepted_unless_barred set k ok =
    let rule = compiled-unless-refused (scaled set k) (lists_counted (counts_at k) set ok) in (
      λ none.
          let both = unbarred set k none in
          let compiled = rule.0 both.0 in
          record { compiled = compiled; admitted = (decided (scaled set k) compiled).by_rule.0 both.1 },
      λ h. barred_not set k (rule.1 h.compiled) ((decided (scaled set k) h.compiled).by_rule.1 h.admitted),
    )

pub accepted_falls_once : AcceptedFallsOnce
accepted_falls_once set k j ok one le none =
    let both = unbarred set k none in
    let more = compiled-unless-refused (scaled set k) (lists_counted (counts_at k) set ok) in
    let fewer = compiled-unless-refused (scaled set j) (lists_counted (counts_at j) set ok) in
    let compiled : IsCompiled (scaled set k) = more.0 both.0 in
    let in_range : All (IsInRange k) set.txns = all_good k set.txns compiled.times in
    let smaller : IsCompiled (scaled set j) = compiled_at set j ok one (λ i d below. omega (arith, in_range i d below, steps_rise j k (get_or set.txns i d).steps le)) in
    let meets = (decided (scaled set k) compiled).by_found.0 both.1 in
    let kept = keeps_admitted (counts_at j) (counts_at k) (are_fewer j k le) set meets in
    barred_not set j (fewer.1 smaller) ((decided (scaled set j) smaller).by_found.1 kept.admitted)
