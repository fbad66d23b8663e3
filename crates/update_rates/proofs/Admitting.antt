-- A set of updaters with its rates compiles and is admitted: each deadline is the response, and nothing is read.
use Rattle.std.proofs.Common.{◌≡◌, ◌≢◌, ℕ, ◌<◌, ◌≤◌, true, false, List, [], ◌∷◌, length, get_or, Option, Some, None, refl, sym, ◌∙◌, ap, subst, ⊎_elim, arith}
use Rattle.std.specs.List.{filter}
use Rattle.std.specs.Option.{unwrap_or}
use Rattle.std.proofs.lemmas.Bool.{cases_lt}
use Rattle.std.proofs.lemmas.List.{length-map, get_or_past}
use Rattle.rt_base.specs.declared.ids.ItemId.{ItemId}
use Rattle.txn_set.specs.declared.decl.TxnDecl.{TxnDecl}
use Rattle.txn_set.specs.Set.{Set, no_txn, txn_of, names_item, HasGoodTimes, IsCompiled}
use Rattle.txn_compiler.specs.Kept.{AreLists, IsInRange, kept}
use Rattle.txn_compiler.specs.declared.error.CompileError.{CompileError}
use Rattle.txn_compiler.specs.Refusal.{compile_refusal}
use Rattle.txn_compiler.specs.Refusal.{Refuses as RefusesSet}
use Rattle.txn_compiler.proofs.Verdict.{compiled-unless-refused}
use Rattle.txn_compiler.proofs.Keeping.{kept-as-declared}
use Rattle.law_times.specs.Response.{IsResponse, response}
use Rattle.law_times.specs.Ages.{IsAdmitted}
use Rattle.set_admission.specs.declared.error.AdmitError.{AdmitError}
use Rattle.set_admission.specs.Admission.{refusal}
use Rattle.set_admission.specs.Admission.{Refuses as RefusesAdmission}
use Rattle.set_admission.proofs.Found.{found}
use Rattle.set_admission.proofs.Admitted.{decided}
use Rattle.update_rates.specs.Updaters.{updater_of, updaters}
use Rattle.update_rates.specs.Rates.{deadline, period, rate_of}
use Rattle.update_rates.specs.RatedSet.{with_rate, rated_set}
use Rattle.update_rates.specs.Refusal.{not_an_updater, too_tight}
use Rattle.update_rates.proofs.Places.{place-inside, place-alone}
use Rattle.update_rates.proofs.Greatest.{deadline-is, period-is}
use Rattle.update_rates.proofs.Tight.{each-found}
use Rattle.update_rates.proofs.Retimed.{with-length, with-at, reads-same, compiles-with}
use Rattle.update_rates.proofs.Updating.{IsUpdater, updater-each}
use Rattle.update_rates.proofs.Unblocked.{demand-is}

-- a set of updaters that have deadlines
pub record IsRatable (set : Set) : Type 0 where
  pub compiled : IsCompiled set
  pub updaters_all : not_an_updater set ≡ None
  pub none_tight : too_tight (updaters set) ≡ None

names-none : (items : List ItemId) (item : ℕ) → items ≡ [] → names_item items item ≡ true → ⊥
names-none items item e h = let none : names_item items item ≡ false = rw e refl in cc

none-named : (reads items : List ItemId) → reads ≡ [] → filter (λ i. names_item reads i.0) items ≡ []
none-named reads items e = subst (λ (l : List ItemId). filter (λ i. names_item l i.0) items ≡ []) (sym e) (no-item items)
  where
    no-item : (xs : List ItemId) → filter (λ i. names_item [] i.0) xs ≡ []
    no-item [] = refl
    no-item (x ∷ xs) = no-item xs

module _ (set : Set) (ok : IsRatable set) where
  in-us : (tx : ℕ) → tx < length set.txns → tx < length (updaters set)
  in-us tx inside = omega (arith, length-map set.txns (updater_of set.items), inside)

  each : (tx : ℕ) → tx < length set.txns → IsUpdater set.items (txn_of set tx).reads (txn_of set tx).writes
  each = updater-each set ok.updaters_all

  good : (tx : ℕ) → tx < length set.txns → HasGoodTimes (with_rate (rate_of (updaters set) tx) (txn_of set tx))
  good tx inside =
      let times = ok.compiled.times tx no_txn inside in
      let (d, is) = each-found (updaters set) ok.none_tight tx (in-us tx inside) in
      let h = deadline-is (updaters set) tx d (in-us tx inside) is in
      let p = period-is (updaters set) tx d h in
      let own : unwrap_or (deadline (updaters set) tx) 0 ≡ d = ap (λ (o : Option ℕ). unwrap_or o 0) is in
      let place = place-inside (updaters set) tx (in-us tx inside) in
      let count = length-map set.txns (updater_of set.items) in
      let few = ok.compiled.few_txns in
      record {
        prio = (omega arith, omega arith);
        steps = times.steps;
        period = (p.some, p.few);
        deadline = (omega (arith, own, h.low), omega (arith, own, p.within));
        offset = omega arith;
        quiet = times.quiet;
      }

  apart : (a b : ℕ) → a < length set.txns → b < length set.txns → a ≢ b → (rate_of (updaters set) a).prio ≢ (rate_of (updaters set) b).prio
  apart a b in-a in-b other same =
      let differ = place-alone (updaters set) a b (in-us a in-a) (in-us b in-b) other in
      let low-a = place-inside (updaters set) a (in-us a in-a) in
      let low-b = place-inside (updaters set) b (in-us b in-b) in
      differ (omega (arith, same))

  pub rated-compiles : IsCompiled (rated_set set)
  rated-compiles = compiles-with (rate_of (updaters set)) set ok.compiled good apart

  pub rated-lists : AreLists (rated_set set)
  rated-lists = record { reads = rated-compiles.reads; writes = rated-compiles.writes; together = rated-compiles.together }

  pub rated-kept : kept (rated_set set) ≡ rated_set set
  rated-kept = kept-as-declared (rated_set set) rated-lists

  pub rated-unrefused : compile_refusal (kept (rated_set set)) ≡ None
  rated-unrefused = subst (λ (s : Set). compile_refusal s ≡ None) (sym rated-kept) ((compiled-unless-refused (rated_set set) rated-lists).1 rated-compiles)

  pub rated-in-range : IsInRange (rated_set set)
  rated-in-range = record {
    reads = λ k d inside. (rated-compiles.reads k d inside).in_range;
    writes = λ k d inside. (rated-compiles.writes k d inside).in_range;
    together = λ k d inside. (rated-compiles.together k d inside).in_range;
  }

  -- the deadline is the response
  rated-response : (tx d : ℕ) → tx < length set.txns → deadline (updaters set) tx ≡ Some d → IsResponse (rated_set set) tx d
  rated-response tx d inside is =
      let h = deadline-is (updaters set) tx d (in-us tx inside) is in
      let own : unwrap_or (deadline (updaters set) tx) 0 ≡ d = ap (λ (o : Option ℕ). unwrap_or o 0) is in
      let at : (txn_of (rated_set set) tx).deadline ≡ unwrap_or (deadline (updaters set) tx) 0 = ap (λ (t : TxnDecl). t.deadline) (with-at (rate_of (updaters set)) set.txns tx no_txn inside) in
      record {
        holds = record {
          positive = h.low;
          in_deadline = omega (arith, at, own);
          enough = omega (arith, demand-is set rated-compiles each tx d inside, h.fits);
        };
        least =
            λ w holds.
            ⊎_elim
            (λ (less : w < d). absurd (omega (arith, demand-is set rated-compiles each tx w inside, h.before w holds.positive less, holds.enough)))
            (λ (le : d ≤ w). le)
            (cases_lt w d);
      }

  reads-none : (tx : ℕ) → (txn_of (rated_set set) tx).reads ≡ []
  reads-none tx =
      ⊎_elim
      (λ (inside : tx < length set.txns). reads-same (rate_of (updaters set)) set tx ∙ (each tx inside).reads_none)
      (λ (past : length set.txns ≤ tx). reads-same (rate_of (updaters set)) set tx ∙ ap (λ (t : TxnDecl). t.reads) (get_or_past set.txns tx no_txn past))
      (cases_lt tx (length set.txns))

  rated-admitted : IsAdmitted (rated_set set)
  rated-admitted = record {
    response = λ tx. unwrap_or (deadline (updaters set) tx) 0;
    responses = λ tx inside.
        let low : tx < length set.txns = omega (arith, with-length (rate_of (updaters set)) set.txns, inside) in
        let (d, is) = each-found (updaters set) ok.none_tight tx (in-us tx low) in
        let own : unwrap_or (deadline (updaters set) tx) 0 ≡ d = ap (λ (o : Option ℕ). unwrap_or o 0) is in
        subst (λ (n : ℕ). IsResponse (rated_set set) tx n) (sym own) (rated-response tx d low is);
    ages = record {
      valid = λ tx item validity reads is. absurd (names-none (txn_of (rated_set set) tx).reads item (reads-none tx) reads);
      within = λ tx k d inside two.
          let none = none-named (txn_of (rated_set set) tx).reads (get_or set.together k d).items (reads-none tx) in
          absurd (omega (arith, ap length none, two));
    };
  }

  pub admission-unrefused : refusal (rated_set set) ≡ None
  admission-unrefused = (decided (rated_set set) rated-compiles).by_rule.1 rated-admitted

  -- what the code's clauses need

  pub set-in-range : (s : Set) → s ≡ rated_set set → IsInRange s
  set-in-range s e = subst IsInRange (sym e) rated-in-range

  pub set-kept : (s made : Set) → made ≡ kept s → s ≡ rated_set set → made ≡ rated_set set
  set-kept s made is e = is ∙ ap kept e ∙ rated-kept

  pub set-unrefused : (s : Set) (e : CompileError) → s ≡ rated_set set → RefusesSet (compile_refusal (kept s)) e → RefusesSet None e
  set-unrefused s error e h =
      subst (λ (o : Option CompileError). RefusesSet o error) (ap (λ (r : Set). compile_refusal (kept r)) e ∙ rated-unrefused) h

  pub set-admitted : (s : Set) (e : AdmitError) → s ≡ rated_set set → RefusesAdmission (refusal s) e → RefusesAdmission None e
  set-admitted s error e h = subst (λ (o : Option AdmitError). RefusesAdmission o error) (ap refusal e ∙ admission-unrefused) h

  -- what the rates are good for

  period-in : (tx : ℕ) → tx < length set.txns → (txn_of (rated_set set) tx).period ≡ period (updaters set) tx
  period-in tx inside = ap (λ (t : TxnDecl). t.period) (with-at (rate_of (updaters set)) set.txns tx no_txn inside)

  pub rated-responses : (tx : ℕ) → tx < length (rated_set set).txns → response (rated_set set) tx ≡ Some (txn_of (rated_set set) tx).deadline
  rated-responses tx inside =
      let low : tx < length set.txns = omega (arith, with-length (rate_of (updaters set)) set.txns, inside) in
      let (d, is) = each-found (updaters set) ok.none_tight tx (in-us tx low) in
      let own : unwrap_or (deadline (updaters set) tx) 0 ≡ d = ap (λ (o : Option ℕ). unwrap_or o 0) is in
      let at : (txn_of (rated_set set) tx).deadline ≡ unwrap_or (deadline (updaters set) tx) 0 = ap (λ (t : TxnDecl). t.deadline) (with-at (rate_of (updaters set)) set.txns tx no_txn low) in
      found (rated_set set) tx d (rated-response tx d low is) ∙ ap Some (sym (at ∙ own))
