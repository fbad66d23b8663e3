-- What is left of the disk of a journal.
use Rattle.std.proofs.Common.{◌≡◌, ◌⊎◌, inl, inr, ⊎_elim, ℕ, ◌+◌, ◌<◌, ◌≤◌, List, [], ◌∷◌, ◌++◌, take, drop, length, Option, None, Some, Result, Ok, Err, refl, sym, ap, subst, ◌∙◌, arith, append_assoc}
use Rattle.std.specs.Prelude.{IfErr, IfSome}
use Rattle.std.proofs.lemmas.List.{take-append-drop, take-append-le, get_or_append_left, length_push}
use Rattle.std.proofs.Math.Seq.{take-append-add, take-append_seam}
use Rattle.rt_base.specs.declared.name.Names.{Names}
use Rattle.txn_set.specs.Set.{Set}
use Rattle.step_journal.specs.declared.entry.Entry.{Entry}
use Rattle.law_histories.specs.Sim.{Workload, IsSim}
use Rattle.durable_disk.specs.Images.{Torn}
use Rattle.durable_disk.specs.Device.{LeavesOnly, WritesWithin, BothTold}
use Rattle.durable_disk.specs.Records.{slot_at}
use Rattle.durable_journal.specs.Log.{OpensAs, HasSome}
use Rattle.durable_journal.specs.Texts.{IsHeader}
use Rattle.durable_journal.specs.Opened.{Passes, ClosesEnd, Touches, TouchesAt, HasByteMore, with_gate, IsUnended}
use Rattle.durable_journal.specs.declared.log.LogError.{LogError}
use Rattle.durable_journal.specs.declared.log.LogError.TheVariants.{DiskFault, BadRecord, Full, Stopped, OutOfMemory}
use Rattle.durable_journal.proofs.Scanning.{passes_then}
use Rattle.durable_journal.proofs.Runs.{run_on}
use Rattle.durable_journal.proofs.Crash.{weaken}
use Rattle.scenario_run.specs.Compared.{Begins}
use Rattle.scenario_run.specs.JournalLeft.{IsBegun, IsAsBefore, IsFrontWith, IsRunFront, LeavesSo, HasMade, HasRefused, IsSameFile}

torn_gate : (file : List ℕ) → Torn (length file) 1 file (with_gate file)
torn_gate file = record {
  others = λ i within outside. get_or_append_left file (0 ∷ []) 0 i within;
  no_shorter = omega (arith, length_push file 0);
  no_longer = λ longer. (omega arith, omega (arith, length_push file 0));
}

begins_parts : (there history : List Entry) → Begins there history → history ≡ there ++ drop (length there) history
begins_parts there history begins = sym (ap (λ (l : List Entry). l ++ drop (length there) history) (sym begins) ∙ take-append-drop (length there) history)

-- some of a history behind what the disk had is the front of each that goes on
pub front_with : (names : Names) (set : Set) (there history more : List Entry) (image : List ℕ) → Begins there history → HasSome names set there (drop (length there) history) image
    → IsFrontWith names set there (history ++ more) image
front_with names set there history more image begins (n, within, opens) =
    let rest : List Entry = drop (length there) history in
    let whole : history ++ more ≡ there ++ (rest ++ more) = ap (λ (l : List Entry). l ++ more) (begins_parts there history begins) ∙ append_assoc there rest more in
    let cut : take (length there + n) (history ++ more) ≡ there ++ take n rest =
    ap (λ (l : List Entry). take (length there + n) l) whole ∙ (take-append-add there (rest ++ more) n ∙ ap (λ (l : List Entry). there ++ l) (take-append-le n rest more within)) in
    record {
      n = length there + n;
      begins = subst (λ (l : List Entry). Begins there l) (sym cut) (take-append_seam there (take n rest));
      opens = subst (λ (l : List Entry). OpensAs names set image l) (sym cut) opens;
    }

module _ {D : Type 0} (seen : D → Option (List ℕ)) (may_leave : D → List ℕ → Type 0) (moment : D → ℕ) (left_since : D → ℕ → List ℕ → Type 0) where
  abbrev Within : D → D → Type 0
  Within a b = WritesWithin seen may_leave moment left_since 0 257 a b

  module _ (names : Names) (set : Set) (room : ℕ) (file : List ℕ) where
    pub then_touches : (P : List ℕ → Type 0) (a b c : D) → Passes seen may_leave moment left_since a b → Touches seen may_leave moment left_since names set room file P b c
        → Touches seen may_leave moment left_since names set room file P a c
    then_touches P a b c p (inl q) = inl (passes_then seen may_leave moment left_since a b c p q)
    then_touches P a b c p (inr q) = inr (record {
      was = q.was;
      reads = q.reads;
      moments = run_on moment left_since a b c (λ f. may_leave a f ⊎ HasByteMore file f) (λ f. may_leave b f ⊎ HasByteMore file f)
          (weaken moment left_since a b (may_leave a) (λ f. may_leave a f ⊎ HasByteMore file f) p.moments (λ f left. inl left)) q.moments
          (λ f. ⊎_elim (λ was. inl (p.fewer f was)) (λ more. inr more));
    })

    pub then_touches_at : (error : LogError) (a b c : D) → Passes seen may_leave moment left_since a b → TouchesAt seen may_leave moment left_since names set room file error b c
        → TouchesAt seen may_leave moment left_since names set room file error a c
    then_touches_at DiskFault a b c p q = then_touches (HasByteMore file) a b c p q
    then_touches_at (BadRecord number) a b c p q = passes_then seen may_leave moment left_since a b c p q
    then_touches_at (Full had first) a b c p q = passes_then seen may_leave moment left_since a b c p q
    then_touches_at Stopped a b c p q = passes_then seen may_leave moment left_since a b c p q
    then_touches_at OutOfMemory a b c p q = passes_then seen may_leave moment left_since a b c p q

    abbrev So : D → D → Type 0
    So old new = LeavesSo seen may_leave moment left_since (IsAsBefore names set room file) file old new

    if_same : (P : List ℕ → Type 0) (s t : Option (List ℕ)) → t ≡ s → IfSome s P → IfSome t P
    if_same P s t is h = subst (λ (o : Option (List ℕ)). IfSome o P) (sym is) h

    if_more : (P Q : List ℕ → Type 0) (s : Option (List ℕ)) → ((c : List ℕ) → P c → Q c) → IfSome s P → IfSome s Q
    if_more P Q None f h = tt
    if_more P Q (Some c) f h = f c h

    told_file : (old : D) → seen old ≡ Some file → IfSome (seen old) (λ c. c ≡ file)
    told_file old told = subst (λ (o : Option (List ℕ)). IfSome o (λ c. c ≡ file)) (sym told) refl

    passed : (old new : D) → seen old ≡ Some file → Passes seen may_leave moment left_since old new → So old new
    passed old new told p = record {
      reads = if_same (IsAsBefore names set room file (λ c. c ≡ file)) (seen old) (seen new) p.same (if_more (λ c. c ≡ file) (IsAsBefore names set room file (λ c. c ≡ file)) (seen old) (λ c is. inl is) (told_file old told));
      moments = weaken moment left_since old new (may_leave old) (IsAsBefore names set room file (may_leave old)) p.moments (λ c left. inl left);
    }

    closed : (P : List ℕ → Type 0) (old new : D) → ((c : List ℕ) → P c → HasByteMore file c) → ClosesEnd seen may_leave moment left_since names set room file P old new → So old new
    closed P old new more q = record {
      reads = if_more P (IsAsBefore names set room file (λ c. c ≡ file)) (seen new) (λ c h. inr (inr (q.was, more c h))) q.reads;
      moments = weaken moment left_since old new (λ c. may_leave old c ⊎ HasByteMore file c) (IsAsBefore names set room file (may_leave old)) q.moments
          (λ c. ⊎_elim (λ was. inl was) (λ h. inr (inr (q.was, h))));
    }

    both_if : (P : List ℕ → List ℕ → Type 0) (a b : Option (List ℕ)) → a ≡ Some file → BothTold P a b → IfSome b (P file)
    both_if P a None is both = tt
    both_if P a (Some g) is both = let here : BothTold P (Some file) (Some g) = subst (λ (s : Option (List ℕ)). BothTold P s (Some g)) is both in here

    created : (old new : D) → seen old ≡ Some file → file ≡ [] → Within old new → So old new
    created old new told empty w = record {
      reads = if_more (λ c. Torn 0 257 file c) (IsAsBefore names set room file (λ c. c ≡ file)) (seen new) (λ c torn. inr (inl (empty, (file, refl, torn)))) (both_if (Torn 0 257) (seen old) (seen new) told w.reads);
      moments = weaken moment left_since old new (λ c. (d : List ℕ) × may_leave old d × Torn 0 257 d c) (IsAsBefore names set room file (may_leave old)) w.moments (λ c some. inr (inl (empty, some)));
    }

    gate_more : (c : List ℕ) → c ≡ with_gate file → HasByteMore file c
    gate_more c is = subst (λ (f : List ℕ). HasByteMore file f) (sym is) (torn_gate file)

    pub made_so : (old new : D) → seen old ≡ Some file → HasMade seen may_leave moment left_since names set room file old new → So old new
    made_so old new told (inl new_file) = created old new told new_file.0 new_file.1
    made_so old new told (inr (inl p)) = passed old new told p
    made_so old new told (inr (inr q)) = closed (λ now. now ≡ with_gate file) old new gate_more q

    pub refused_so : (error : LogError) (old new : D) → seen old ≡ Some file → HasRefused seen may_leave moment left_since names set room file error old new → So old new
    refused_so error old new told (inl new_file) = created old new told new_file.0 new_file.1
    refused_so DiskFault old new told (inr (inl p)) = passed old new told p
    refused_so DiskFault old new told (inr (inr q)) = closed (HasByteMore file) old new (λ c h. h) q
    refused_so (BadRecord number) old new told (inr p) = passed old new told p
    refused_so (Full had first) old new told (inr p) = passed old new told p
    refused_so Stopped old new told (inr p) = passed old new told p
    refused_so OutOfMemory old new told (inr p) = passed old new told p

  -- where opening was refused, behind a read
  pub refused_after : {R : Type 0} (names : Names) (set : Set) (room : ℕ) (a b : D) (result : Result R (D × LogError)) → Passes seen may_leave moment left_since a b
      → IfErr result (λ e. IfSome (seen b) (λ file. TouchesAt seen may_leave moment left_since names set room file e.1 b e.0))
      → IfErr result (λ e. IfSome (seen a) (λ file. HasRefused seen may_leave moment left_since names set room file e.1 a e.0))
  refused_after names set room a b (Ok r) p h = tt
  refused_after names set room a b (Err e) p h =
      subst (λ (o : Option (List ℕ)). IfSome o (λ file. HasRefused seen may_leave moment left_since names set room file e.1 a e.0)) p.same (each (seen b) h)
    where
      each : (o : Option (List ℕ)) → IfSome o (λ file. TouchesAt seen may_leave moment left_since names set room file e.1 b e.0)
          → IfSome o (λ file. HasRefused seen may_leave moment left_since names set room file e.1 a e.0)
      each None t = tt
      each (Some file) t = inr (then_touches_at names set room file e.1 a b e.0 p t)
