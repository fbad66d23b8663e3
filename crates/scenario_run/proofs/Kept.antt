-- What the run of a scenario keeps of the disk.
use Rattle.std.proofs.Common.{◌≡◌, ◌⊎◌, inl, inr, ⊎_elim, ℕ, ◌<◌, ◌≤◌, List, Option, None, Some, Result, Ok, Err, refl, sym, subst, arith}
use Rattle.std.specs.Prelude.{IfSome, IsSome, ◌↔◌}
use Rattle.rt_base.specs.declared.name.Names.{Names}
use Rattle.step_journal.specs.declared.entry.Entry.{Entry}
use Rattle.law_histories.specs.Sim.{Workload, IsSim}
use Rattle.step_script.specs.Shown.{Shown}
use Rattle.law_runs.specs.Runs.{workload_of}
use Rattle.durable_disk.specs.Device.{LeavesOnly}
use Rattle.durable_journal.specs.Opened.{Touches, TouchesAt}
use Rattle.durable_journal.specs.declared.log.LogError.{LogError}
use Rattle.durable_journal.proofs.Runs.{run_on}
use Rattle.durable_journal.proofs.Crash.{weaken}
use Rattle.scenario_run.specs.Found.{IsFound}
use Rattle.scenario_run.specs.JournalLeft.{IsAsBefore, IsFrontWith, IsRunFront, GoesOn, IsKept, LeavesSo, HasMade, HasRefused, LeavesRun}
use Rattle.scenario_run.specs.Plans.{HasBegun}
use Rattle.scenario_run.specs.declared.equip.Begun.{Begun}
use Rattle.scenario_run.specs.declared.over.Halt.{Halt}
use Rattle.scenario_run.specs.declared.over.Halt.TheVariants.{Other, Fault}
use Rattle.scenario_run.proofs.JournalBegun.{moved}
use Rattle.scenario_run.proofs.Left.{made_so, refused_so}

if_more : (P Q : List ℕ → Type 0) (s : Option (List ℕ)) → ((c : List ℕ) → P c → Q c) → IfSome s P → IfSome s Q
if_more P Q None f h = tt
if_more P Q (Some c) f h = f c h

if_told : (Q P : List ℕ → Type 0) (told : Option (List ℕ)) → ((file : List ℕ) → told ≡ Some file → Q file → P file) → IfSome told Q → IfSome told P
if_told Q P None f h = tt
if_told Q P (Some file) f h = f file refl h

is_told : (s : Option (List ℕ)) (file : List ℕ) → s ≡ Some file → IsSome s
is_told s file is = subst (λ (o : Option (List ℕ)). IsSome o) (sym is) refl

both_of : (P Q : List ℕ → Type 0) (told : Option (List ℕ)) → IfSome told P → IfSome told Q → IfSome told (λ c. P c × Q c)
both_of P Q None p q = tt
both_of P Q (Some c) p q = (p, q)

module _ {D : Type 0} (seen : D → Option (List ℕ)) (may_leave : D → List ℕ → Type 0) (moment : D → ℕ) (left_since : D → ℕ → List ℕ → Type 0) where
  abbrev pub So : ((List ℕ → Type 0) → List ℕ → Type 0) → List ℕ → D → D → Type 0
  So becomes file old new = LeavesSo seen may_leave moment left_since becomes file old new

  so_more : (P Q : (List ℕ → Type 0) → List ℕ → Type 0) (file : List ℕ) (old new : D) → ((was : List ℕ → Type 0) (c : List ℕ) → P was c → Q was c) → So P file old new → So Q file old new
  so_more P Q file old new f h = record {
    reads = if_more (P (λ c. c ≡ file)) (Q (λ c. c ≡ file)) (seen new) (f (λ c. c ≡ file)) h.reads;
    moments = weaken moment left_since old new (P (may_leave old)) (Q (may_leave old)) h.moments (f (may_leave old));
  }

  -- a disk on which nothing was done
  pub kept_none : (s : Shown) (disk : D) → ((c : List ℕ) → left_since disk (moment disk) c → may_leave disk c) → IfSome (seen disk) (λ file. So (IsKept s file) file disk disk)
  kept_none s disk now = here (seen disk) refl
    where
      here : (o : Option (List ℕ)) → seen disk ≡ o → IfSome o (λ file. So (IsKept s file) file disk disk)
      here None told = tt
      here (Some file) told = record {
        reads = subst (λ (q : Option (List ℕ)). IfSome q (IsKept s file (λ c. c ≡ file))) (sym told) (inl (inl refl));
        moments = record { later = omega arith; each = λ c left. inl (inl (now c left)); before = λ t c le left. inl left };
      }

  module _ (s : Shown) (w : Workload) (b : Begun) (is : HasBegun s w b) where
    as_before : (file : List ℕ) (was : List ℕ → Type 0) (c : List ℕ) → IsAsBefore b.names b.set b.room file was c → IsKept s file was c
    as_before file was c h = inl (moved s w b is (λ n q r. IsAsBefore n q r file was c) h)

    goes_on : (file : List ℕ) (was : List ℕ → Type 0) (there : List Entry) (c : List ℕ) → IsFound b.names b.set b.room file there → IsRunFront w b.names there c → IsKept s file was c
    goes_on file was there c found front = inr (record {
      there = there;
      found = moved s w b is (λ n q r. IsFound n q r file there) found;
      front = subst (λ (n : Names). IsRunFront (workload_of s) n there c) is.names_are
          (subst (λ (x : Workload). IsRunFront x b.names there c) is.runs front);
    })

    -- where the journal was not opened
    pub kept_refused : (error : LogError) (old new : D) → IfSome (seen old) (λ file. HasRefused seen may_leave moment left_since b.names b.set b.room file error old new)
        → IfSome (seen old) (λ file. So (IsKept s file) file old new)
    kept_refused error old new h =
        if_told (λ file. HasRefused seen may_leave moment left_since b.names b.set b.room file error old new) (λ file. So (IsKept s file) file old new) (seen old)
        (λ file told r. so_more (IsAsBefore b.names b.set b.room file) (IsKept s file) file old new (as_before file) (refused_so seen may_leave moment left_since b.names b.set b.room file error old new told r)) h

    -- where it was opened, and then run over
    pub kept_run_over : {T : Type 0} (there : List Entry) (result : Result T Halt) (old mid new : D) → ((c : List ℕ) (t : ℕ) → t ≤ moment new → may_leave new c → left_since new t c) → IfSome (seen new) (may_leave new)
        → (IsSome (seen old) → IsSome (seen mid)) → IfSome (seen old) (λ file. IsFound b.names b.set b.room file there)
        → IfSome (seen old) (λ file. HasMade seen may_leave moment left_since b.names b.set b.room file old mid)
        → LeavesRun seen moment left_since w b.names there mid new result → IfSome (seen old) (λ file. So (IsKept s file) file old new)
    kept_run_over {T} there result old mid new counts stays told found made ran =
        if_told (λ file. IsFound b.names b.set b.room file there × HasMade seen may_leave moment left_since b.names b.set b.room file old mid) (λ file. So (IsKept s file) file old new) (seen old)
        (λ file at h. by_result file at h.0 (so_more (IsAsBefore b.names b.set b.room file) (IsKept s file) file old mid (as_before file) (made_so seen may_leave moment left_since b.names b.set b.room file old mid at h.1)) result ran)
        (both_of (λ file. IsFound b.names b.set b.room file there) (λ file. HasMade seen may_leave moment left_since b.names b.set b.room file old mid) (seen old) found made)
      where
        went : (file : List ℕ) → seen old ≡ Some file → IsFound b.names b.set b.room file there → So (IsKept s file) file old mid → (IsSome (seen mid) → LeavesOnly moment left_since mid new (IsRunFront w b.names there))
            → So (IsKept s file) file old new
        went file at here so run =
            let since = run (told (is_told (seen old) file at)) in
            record {
              reads = if_more (may_leave new) (IsKept s file (λ c. c ≡ file)) (seen new) (λ c left. goes_on file (λ f. f ≡ file) there c here (since.each c (counts c (moment mid) since.later left))) stays;
              moments = run_on moment left_since old mid new (IsKept s file (may_leave old)) (IsRunFront w b.names there) so.moments since (λ c front. goes_on file (may_leave old) there c here front);
            }

        by_result : (file : List ℕ) → seen old ≡ Some file → IsFound b.names b.set b.room file there → So (IsKept s file) file old mid → (r : Result T Halt) → LeavesRun seen moment left_since w b.names there mid new r
            → So (IsKept s file) file old new
        by_result file at here so (Ok t) run = went file at here so run
        by_result file at here so (Err Fault) (inl same) = subst (λ (d : D). So (IsKept s file) file old d) (sym same) so
        by_result file at here so (Err Fault) (inr run) = went file at here so run
        by_result file at here so (Err (Other number)) run = subst (λ (d : D). So (IsKept s file) file old d) (sym run) so
