-- What a crash leaves of a log is read as its entries.
use Rattle.std.proofs.Common.{◌≡◌, inl, inr, ⊎_elim, ℕ, suc, ◌+◌, ◌-◌, ◌≤◌, Bool, true, false, List, [], ◌∷◌, ◌++◌, length, take, drop, Option, Some, None, refl, sym, ◌∙◌, ap, subst, arith}
use Rattle.std.specs.List.{AllByRecursion}
use Rattle.std.proofs.lemmas.List.{take-append-drop, length-map, take-map, map-append}
use Rattle.rt_base.specs.declared.name.Names.{Names}
use Rattle.rt_base.specs.Names.{AreNames}
use Rattle.txn_set.specs.Set.{Set}
use Rattle.step_journal.specs.State.{State}
use Rattle.step_journal.specs.declared.entry.Entry.{Entry}
use Rattle.step_journal.specs.History.{IsLegal, IsLegalFrom, state_after}
use Rattle.journal_text.specs.Lines.{entry_line}
use Rattle.journal_text.specs.EntryLaws.{LinesBothWays}
use Rattle.durable_disk.specs.Device.{LeavesOnly}
use Rattle.durable_disk.specs.Records.{Reads}
use Rattle.durable_disk.specs.Records as places
use Rattle.durable_disk.specs.Laws.{FoundAsRead}
use Rattle.durable_disk.specs.Standing.{Stands, EachLeft}
use Rattle.durable_journal.specs.Format.{body_of, bodies_of, header}
use Rattle.durable_journal.specs.Log.{Fits, OpensAs, Stood, IsBeforeOrAfter, IsLeft}
use Rattle.durable_journal.proofs.Reading.{reads_as}

-- what a run leaves has also what follows from that
pub weaken : {D : Type 0} (moment : D → ℕ) (left_since : D → ℕ → List ℕ → Type 0) (old new : D) (P Q : List ℕ → Type 0) → LeavesOnly moment left_since old new P → ((c : List ℕ) → P c → Q c) → LeavesOnly moment left_since old new Q
weaken moment left_since old new P Q so_far leads = record {
  later = so_far.later;
  each = λ c left. leads c (so_far.each c left);
  before = λ t c le left. ⊎_elim (λ past. inl past) (λ has. inr (leads c has)) (so_far.before t c le left);
}

-- what a legal history begins with is one
pub legal_front : (set : Set) (s : State) (xs ys : List Entry) → IsLegalFrom set s (xs ++ ys) → IsLegalFrom set s xs
legal_front set s [] ys legal = tt
legal_front set s (x ∷ xs) ys legal = (legal.0, legal_front set (state_after set s x) xs ys legal.1)

pub fit_front : (names : Names) (xs ys : List Entry) → AllByRecursion (Fits names) (xs ++ ys) → AllByRecursion (Fits names) xs
fit_front names [] ys fit = tt
fit_front names (x ∷ xs) ys fit = (fit.0, fit_front names xs ys fit.1)

pub fit_push : (names : Names) (xs : List Entry) (e : Entry) → AllByRecursion (Fits names) xs → Fits names e → AllByRecursion (Fits names) (xs ++ e ∷ [])
fit_push names [] e fit one = (one, tt)
fit_push names (x ∷ xs) e fit one = (fit.0, fit_push names xs e fit.1 one)

module _ (lines : LinesBothWays) (found : FoundAsRead) (names : Names) (items : AreNames names.items) (txns : AreNames names.txns) (set : Set) where
  pub opens : (image : List ℕ) (es : List Entry) → AllByRecursion (Fits names) es → IsLegal set es → Reads image (bodies_of names es) → OpensAs names set image es
  opens image es fit legal r = record {
    legal = legal;
    reads = reads_as names (lines names items txns) image es fit ((found image (bodies_of names es)).0 r);
  }

  pub either_opens : (image : List ℕ) (es : List Entry) (e : Entry) (body : List ℕ) → body ≡ body_of (entry_line names e) → AllByRecursion (Fits names) es → Fits names e → IsLegal set (es ++ e ∷ [])
      → places.IsBeforeOrAfter (bodies_of names es) body image → IsBeforeOrAfter names set es e image
  either_opens image es e body is fit one legal (inl r) = inl (opens image es fit (legal_front set _ es (e ∷ []) legal) r)
  either_opens image es e body is fit one legal (inr r) =
      let same : bodies_of names es ++ body ∷ [] ≡ bodies_of names (es ++ e ∷ []) =
      ap (λ (b : List ℕ). bodies_of names es ++ b ∷ []) is
      ∙ ap (λ (l : List (List ℕ)). body_of header ∷ l) (sym (map-append (λ f. body_of (entry_line names f)) es (e ∷ []))) in
      inr (opens image (es ++ e ∷ []) (fit_push names es e fit one) legal (subst (λ (l : List (List ℕ)). Reads image l) same r))

  -- all of the records but the last are those of all of the entries but the last
  front_bodies : (count : ℕ) (es : List Entry) → 1 ≤ count → count + 1 ≡ length (bodies_of names es) → take count (bodies_of names es) ≡ bodies_of names (take (length es - 1) es)
  front_bodies count es headed is =
      let f : Entry → List ℕ = λ e. body_of (entry_line names e) in
      let here : count ≡ suc (length es - 1) = omega (arith, headed, is, length-map es f) in
      ap (λ (n : ℕ). take n (bodies_of names es)) here
      ∙ ap (λ (l : List (List ℕ)). body_of header ∷ l) (take-map f (length es - 1) es)

  left : (seen : Option (List ℕ)) (outcomes : List ℕ → Type 0) (count : ℕ) (stopped : Bool) (es : List Entry) → Stood names set seen outcomes count stopped es → Stands seen outcomes count stopped (bodies_of names es) → EachLeft seen outcomes (IsLeft names set stopped es)
  left None outcomes count stopped es s stands = tt
  left (Some file) outcomes count false es s stands = λ image out. inl (opens image es s.fit s.legal (subst (λ f. Reads f (bodies_of names es)) (sym (stands.1.1 image out)) stands.1.0))
  left (Some file) outcomes count true es s stands = λ image out. ⊎_elim
      (λ all. inl (opens image es s.fit s.legal all))
      (λ few.
      let n = length es - 1 in
      let whole = sym (take-append-drop n es) in
      let fit = fit_front names (take n es) (drop n es) (subst (λ l. AllByRecursion (Fits names) l) whole s.fit) in
      let legal = legal_front set _ (take n es) (drop n es) (subst (λ l. IsLegal set l) whole s.legal) in
      inr (refl, opens image (take n es) fit legal (subst (λ (l : List (List ℕ)). Reads image l) (front_bodies count es s.headed stands.0) few)))
      (stands.1 image out)

  pub is_left : (seen : Option (List ℕ)) (outcomes : List ℕ → Type 0) (count : ℕ) (stopped : Bool) (es : List Entry) → Stood names set seen outcomes count stopped es → EachLeft seen outcomes (IsLeft names set stopped es)
  is_left seen outcomes count stopped es s = left seen outcomes count stopped es s s.records
