-- Which counts of a transaction's steps are accepted.
use Rattle.std.proofs.Common.{◌≡◌, ℕ, ◌<◌, ◌≤◌, List, length, None, sym, ap, subst, arith}
use Rattle.std.specs.List.{All}
use Rattle.std.proofs.lemmas.List.{set-get_or}
use Rattle.std.proofs.lemmas.List.Elements.{All-set}
use Rattle.txn_set.specs.declared.decl.TxnDecl.{TxnDecl}
use Rattle.txn_set.specs.Set.{Set, no_txn, txn_of, HasGoodTimes, IsCompiled}
use Rattle.txn_set.proofs.Declared.{good_with}
use Rattle.txn_compiler.specs.Kept.{AreLists}
use Rattle.set_admission.specs.Bounds.{MeetsAdmission}
use Rattle.set_admission.proofs.Admitted.{decided}
use Rattle.scale_margin.specs.Scaled.{counted}
use Rattle.scale_margin.proofs.Compiles.{lists_counted, compiled_counted}
use Rattle.scale_margin.proofs.Fewer.{keeps_admitted}
use Rattle.scale_margin.specs.Steps.{stepped, with_steps, IsAccepted, IsCount, barrier_at}
use Rattle.scale_margin.specs.SlackLaws.{SameAtOwn, CompiledAtCounts, SlackUnlessBarred, SlackFallsOnce}
use Rattle.scale_margin.proofs.Stepping.{counts_at, as_counted, are_fewer}

pub same_at_own : SameAtOwn
same_at_own s tx inside = ap (λ (ts : List TxnDecl). record s { txns = ts }) (set-get_or s.txns tx no_txn)

-- a count breaks no rule of compiling

good_count : (s : Set) (tx k : ℕ) → IsCompiled s → IsCount s tx k → HasGoodTimes (stepped (txn_of s tx) k)
good_count s tx k ok is =
    let h = ok.times tx no_txn is.there in
    good_with (txn_of s tx) (txn_of s tx).prio k (txn_of s tx).quiet h h.prio (omega (arith, is.quiet), is.range) is.quiet

pub lists_with : (s : Set) (tx k : ℕ) → IsCompiled s → tx < length s.txns → AreLists (with_steps s tx k)
lists_with s tx k ok inside = subst AreLists (sym (as_counted s tx k ok inside)) (lists_counted (counts_at s tx k) s ok)

pub compiled_at_counts : CompiledAtCounts
compiled_at_counts s tx k ok is =
    let same = as_counted s tx k ok is.there in
    let good : All HasGoodTimes (with_steps s tx k).txns = All-set HasGoodTimes s.txns tx (stepped (txn_of s tx) k) (good_count s tx k ok is) ok.times in
    subst IsCompiled (sym same) (compiled_counted (counts_at s tx k) s ok (subst (λ (t : Set). All HasGoodTimes t.txns) same good))

-- acceptance

pub slack_unless_barred : SlackUnlessBarred
unfolding barrier_at
slack_unless_barred s tx k ok is =
    let compiled = compiled_at_counts s tx k ok is in
    let rule = (decided (with_steps s tx k) compiled).by_rule in
    (λ none. record { compiled = compiled; admitted = rule.0 none }, λ h. rule.1 h.admitted)

meets_at : (s : Set) (tx k : ℕ) → IsCompiled s → tx < length s.txns → IsAccepted s tx k → MeetsAdmission (counted (counts_at s tx k) s)
meets_at s tx k ok inside h =
    let d = decided (with_steps s tx k) h.compiled in
    subst MeetsAdmission (as_counted s tx k ok inside) (d.by_found.0 (d.by_rule.1 h.admitted))

pub slack_falls_once : SlackFallsOnce
slack_falls_once s tx k j ok is le h =
    let kept = keeps_admitted (counts_at s tx j) (counts_at s tx k) (are_fewer s tx j k le) s (meets_at s tx k ok is.there h) in
    let meets : MeetsAdmission (with_steps s tx j) = subst MeetsAdmission (sym (as_counted s tx j ok is.there)) kept.admitted in
    let compiled = compiled_at_counts s tx j ok is in
    let d = decided (with_steps s tx j) compiled in
    record { compiled = compiled; admitted = d.by_rule.0 (d.by_found.1 meets) }

-- the same of the barriers

pub barred_rises : (s : Set) (tx j k : ℕ) → IsCompiled s → IsCount s tx j → IsCount s tx k → j ≤ k → barrier_at s tx k ≡ None → barrier_at s tx j ≡ None
barred_rises s tx j k ok here there le none =
    (slack_unless_barred s tx j ok here).1 (slack_falls_once s tx k j ok here le ((slack_unless_barred s tx k ok there).0 none))
