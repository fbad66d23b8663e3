-- A tally counts the ended jobs of its transaction and has the end of the latest.
use Rattle.std.proofs.Common.{◌≡◌, ℕ, zero, suc, ◌+◌, ◌<◌, ◌≤◌, ◌==◌, Bool, true, false, cond, List, [], ◌∷◌, length, map, Option, Some, set as with_item, refl, ap, sym, ◌∙◌, subst, arith, get_or-set_same, get_or-set_other}
use Rattle.std.proofs.lemmas.Bool.{eqb-true, eqb-false}
use Rattle.std.proofs.lemmas.List.{length-set, length-map}
use Rattle.std.specs.List.{fold}
use Rattle.step_journal.specs.declared.entry.EndedJob.{EndedJob}
use Rattle.rt_base.specs.declared.operation.End.{End}
use Rattle.txn_set.specs.Set.{Set}
use Rattle.step_journal.specs.History.{state_of}
use Rattle.step_journal.specs.declared.entry.Entry.{Entry}
use Rattle.board.specs.Answers.{ended_jobs, ended_number, last_end}
use Rattle.plain_core.specs.declared.tally.Tally.{Tally}
use Rattle.plain_core.specs.TablesSeen.{TablesSeen, tallies_of, tally_of, with_ended, counted, no_tally}
use Rattle.plain_core.specs.Seen.{PlainIs}
use Rattle.plain_core.specs.Stands.{Stands}

abbrev count_on : Tally → EndedJob → Tally
count_on t e = counted t e.end

number_is : (l : List EndedJob) (t : Tally) → (fold count_on t l).number ≡ t.number + length l
number_is [] t = omega arith
number_is (e ∷ es) t = let h = number_is es (count_on t e) in omega arith

last_is : (l : List EndedJob) (t : Tally) → (fold count_on t l).last ≡ fold (λ o e. Some e.end) t.last l
last_is [] t = refl
last_is (e ∷ es) t = last_is es (count_on t e)

fold_at : (tallies : List Tally) (e : EndedJob) (es : List EndedJob) (n : ℕ) (b : Bool) → (e.job.tx.0 == n) ≡ b → n < length tallies
    → (tally_of (fold with_ended (with_ended tallies e) es) n ≡ fold count_on (tally_of (with_ended tallies e) n) (ended_jobs es n))
    → tally_of (fold with_ended (with_ended tallies e) es) n ≡ fold count_on (tally_of tallies n) (cond b (e ∷ ended_jobs es n) (ended_jobs es n))
fold_at tallies e es n true t lt h =
    let same : e.job.tx.0 ≡ n = eqb-true _ _ t in
    let at : tally_of (with_ended tallies e) n ≡ count_on (tally_of tallies n) e =
    subst (λ (k : ℕ). tally_of (with_item tallies k (counted (tally_of tallies k) e.end)) n ≡ count_on (tally_of tallies n) e) (sym same) (get_or-set_same tallies n (counted (tally_of tallies n) e.end) no_tally lt) in
    h ∙ ap (λ (x : Tally). fold count_on x (ended_jobs es n)) at
fold_at tallies e es n false t lt h =
    let at : tally_of (with_ended tallies e) n ≡ tally_of tallies n = get_or-set_other tallies e.job.tx.0 n (counted (tally_of tallies e.job.tx.0) e.end) no_tally (λ k. eqb-false _ _ t (sym k)) in
    h ∙ ap (λ (x : Tally). fold count_on x (ended_jobs es n)) at

fold_is : (ended : List EndedJob) (tallies : List Tally) (n : ℕ) → n < length tallies → tally_of (fold with_ended tallies ended) n ≡ fold count_on (tally_of tallies n) (ended_jobs ended n)
fold_is [] tallies n lt = refl
fold_is (e ∷ es) tallies n lt = fold_at tallies e es n (e.job.tx.0 == n) refl lt (fold_is es (with_ended tallies e) n (omega (arith, length-set tallies e.job.tx.0 (counted (tally_of tallies e.job.tx.0) e.end))))

none_at : {A : Type 0} (xs : List A) (n : ℕ) → tally_of (map (λ t. no_tally) xs) n ≡ no_tally
none_at [] n = refl
none_at (x ∷ xs) zero = refl
none_at (x ∷ xs) (suc n) = none_at xs n

pub tally_is : (set : Set) (ended : List EndedJob) (n : ℕ) → n < length set.txns → tally_of (tallies_of set ended) n ≡ record { number = ended_number ended n; last = last_end ended n }
tally_is set ended n lt =
    let e : tally_of (tallies_of set ended) n ≡ fold count_on no_tally (ended_jobs ended n) =
    fold_is ended (map (λ t. no_tally) set.txns) n (omega (arith, length-map set.txns (λ t. no_tally))) ∙ ap (λ (x : Tally). fold count_on x (ended_jobs ended n)) (none_at set.txns n) in
    e ∙ (ap (λ (k : ℕ). record { number = k; last = (fold count_on no_tally (ended_jobs ended n)).last }) (number_is (ended_jobs ended n) no_tally ∙ plain (length (ended_jobs ended n)))
    ∙ ap (λ (o : Option End). record { number = ended_number ended n; last = o }) (last_is (ended_jobs ended n) no_tally)) where
      plain : (k : ℕ) → 0 + k ≡ k
      plain k = omega arith

pub tally_says : (core : PlainIs) (history : List Entry) (n : ℕ) → Stands core history → n < length core.set.txns
    → tally_of core.tables.tallies n ≡ record { number = ended_number (state_of core.set history).ended n; last = last_end (state_of core.set history).ended n }
tally_says core history n h lt = ap (λ (t : TablesSeen). tally_of t.tallies n) h.is_state ∙ tally_is core.set (state_of core.set history).ended n lt

pub tally_beyond : (tallies : List Tally) (n : ℕ) → length tallies ≤ n → tally_of tallies n ≡ no_tally
tally_beyond [] n le = refl
tally_beyond (t ∷ ts) zero le = absurd (omega arith)
tally_beyond (t ∷ ts) (suc n) le = tally_beyond ts n (omega arith)
