-- The whole plan: the declarations, their plain set, and the set with the rates.
use Rattle.std.proofs.Common.{◌≡◌, ℕ, ◌<◌, List, length, get_or, Option, Some, None, refl, sym, ◌∙◌, ap, subst, arith}
use Rattle.std.specs.Option.{option_map}
use Rattle.std.proofs.lemmas.List.{length-map, get_or_default}
use Rattle.rt_base.specs.declared.ids.TxId.{TxId}
use Rattle.rt_base.specs.declared.ids.TogetherDecl.{TogetherDecl}
use Rattle.item_model.specs.declared.decl.ItemDecl.{ItemDecl}
use Rattle.item_model.specs.Work.{first_of_both}
use Rattle.txn_set.specs.declared.decl.TxnDecl.{TxnDecl}
use Rattle.txn_set.specs.Set.{Set, no_txn, txn_of}
use Rattle.txn_compiler.specs.declared.error.CompileError.{CompileError}
use Rattle.txn_compiler.specs.declared.error.CompileError.TheVariants as compile_error
use Rattle.txn_compiler.specs.Refusal.{compile_refusal}
use Rattle.txn_compiler.specs.Refusal.{Refuses as RefusesSet}
use Rattle.txn_compiler.specs.Kept.{set_of}
use Rattle.law_times.specs.Response.{response}
use Rattle.response_test.specs.Response.{least_from}
use Rattle.set_admission.specs.declared.error.AdmitError.{AdmitError}
use Rattle.set_admission.specs.declared.error.AdmitError.TheVariants as admit_error
use Rattle.set_admission.specs.Admission.{Refuses as RefusesAdmission}
use Rattle.update_rates.specs.declared.rates.Rate.{Rate}
use Rattle.update_rates.specs.declared.updaters.Updater.{Updater}
use Rattle.update_rates.specs.declared.error.RateError.{RateError}
use Rattle.update_rates.specs.declared.error.RateError.TheVariants.{Compile, NotAnUpdater, TooTight, OutOfMemory}
use Rattle.update_rates.specs.Updaters.{updater_of, updaters}
use Rattle.update_rates.specs.Rates.{load, period, rate_of}
use Rattle.update_rates.specs.RatedSet.{with_rate, set_with, list_rate, plain_set, rated_set}
use Rattle.update_rates.specs.Refusal.{is_other, not_an_updater, too_tight, rate_refusal, Refuses}
use Rattle.update_rates.specs.Laws.{KeepsValidity, AreGreatest, HasBestRates, TellsTight}
use Rattle.update_rates.specs.Ranking.{AreRates}
use Rattle.update_rates.proofs.Levels.{load-same}
use Rattle.update_rates.proofs.Tight.{periods-are-greatest, tight-unless-kept}
use Rattle.update_rates.proofs.Retimed.{with-at, updaters-same, other-same, with-again}
use Rattle.update_rates.proofs.Admitting.{IsRatable, rated-responses}

-- want of memory is the one error that comes without a refusal

pub compile-memory : (e : CompileError) → RefusesSet None e → (e ≡ compile_error.OutOfMemory → ⊥) → ⊥
compile-memory compile_error.OutOfMemory h other = other refl
compile-memory (compile_error.TooManyItems count) h other = cc
compile-memory (compile_error.TooManyTxns count) h other = cc
compile-memory (compile_error.SamePrio a b) h other = cc
compile-memory (compile_error.BadTimes tx which) h other = cc
compile-memory (compile_error.NoWriter item) h other = cc
compile-memory (compile_error.TwoWriters item a b) h other = cc
compile-memory (compile_error.CyclicDerivation item) h other = cc
compile-memory (compile_error.TooManySets count) h other = cc
compile-memory (compile_error.BadTogether place) h other = cc

pub admit-memory : (e : AdmitError) → RefusesAdmission None e → (e ≡ admit_error.OutOfMemory → ⊥) → ⊥
admit-memory admit_error.OutOfMemory h other = other refl
admit-memory (admit_error.NotSchedulable tx demand) h other = cc
admit-memory (admit_error.TooOld tx item age) h other = cc
admit-memory (admit_error.TooApart tx place age) h other = cc

-- one transaction with its rate
pub rated-one : (set : Set) (rates : List Rate) (seen : List TxnDecl) (tx : ℕ) (txn : TxnDecl) (d : Rate) → AreRates (updaters set) rates → seen ≡ set.txns → tx < length seen → txn ≡ get_or seen tx txn → with_rate (get_or rates tx d) txn ≡ with_rate (rate_of (updaters set) tx) (txn_of set tx)
rated-one set rates seen tx txn d all same inside at =
    let low : tx < length (updaters set) = omega (arith, length-map set.txns (updater_of set.items), ap length same, inside) in
    let txn-is : txn ≡ txn_of set tx = at ∙ get_or_default seen tx txn no_txn inside ∙ ap (λ (ts : List TxnDecl). get_or ts tx no_txn) same in
    ap (λ (r : Rate). with_rate r txn) ((all.each tx low).rate d) ∙ ap (with_rate (rate_of (updaters set) tx)) txn-is

pub set-is : (set : Set) (items : List ItemDecl) (txns : List TxnDecl) (together : List TogetherDecl) → items ≡ set.items → txns ≡ (rated_set set).txns → together ≡ set.together → set_of items txns together ≡ rated_set set
set-is set items txns together a b c = rw (a, b, c) refl

-- refusals

refuses-first : (found rest : Option RateError) (e : RateError) → Refuses found e → Refuses (first_of_both found rest) e
refuses-first found rest OutOfMemory is = tt
refuses-first found rest (Compile error) is = rw is refl
refuses-first found rest (NotAnUpdater tx) is = rw is refl
refuses-first found rest (TooTight tx demand) is = rw is refl

refuses-later : (first found : Option RateError) (e : RateError) → first ≡ None → Refuses found e → Refuses (first_of_both first found) e
refuses-later first found e is h = rw is h

module _ (declared : Set) where
  pub refused-plain : (e : RateError) → Refuses (option_map Compile (compile_refusal (plain_set declared))) e → Refuses (rate_refusal declared) e
  unfolding rate_refusal
  refused-plain e h = refuses-first (option_map Compile (compile_refusal (plain_set declared))) (first_of_both (not_an_updater declared) (too_tight (updaters declared))) e h

  module _ (set : Set) (is : set ≡ plain_set declared) where
    others-are : not_an_updater set ≡ not_an_updater declared
    others-are = ap not_an_updater is ∙ other-same (list_rate (length declared.txns)) declared

    updaters-are : updaters set ≡ updaters declared
    updaters-are = ap updaters is ∙ updaters-same (list_rate (length declared.txns)) declared

    compiles : compile_refusal set ≡ None → option_map Compile (compile_refusal (plain_set declared)) ≡ None
    compiles none = ap (option_map Compile) (sym (ap compile_refusal is) ∙ none)

    pub refused-other : (e : RateError) → compile_refusal set ≡ None → Refuses (not_an_updater set) e → Refuses (rate_refusal declared) e
    unfolding rate_refusal
    refused-other e none h =
        refuses-later (option_map Compile (compile_refusal (plain_set declared))) (first_of_both (not_an_updater declared) (too_tight (updaters declared))) e (compiles none)
        (refuses-first (not_an_updater declared) (too_tight (updaters declared)) e (subst (λ (o : Option RateError). Refuses o e) others-are h))

    pub refused-tight : (us : List Updater) (e : RateError) → compile_refusal set ≡ None → not_an_updater set ≡ None → us ≡ updaters set → Refuses (too_tight us) e → Refuses (rate_refusal declared) e
    unfolding rate_refusal
    refused-tight us e none all same h =
        refuses-later (option_map Compile (compile_refusal (plain_set declared))) (first_of_both (not_an_updater declared) (too_tight (updaters declared))) e (compiles none)
        (refuses-later (not_an_updater declared) (too_tight (updaters declared)) e (sym others-are ∙ all)
        (subst (λ (l : List Updater). Refuses (too_tight l) e) (same ∙ updaters-are) h))

    pub unrefused : (us : List Updater) → compile_refusal set ≡ None → not_an_updater set ≡ None → us ≡ updaters set → too_tight us ≡ None → rate_refusal declared ≡ None
    unfolding rate_refusal
    unrefused us none all same fine =
        let a = compiles none in
        let b : not_an_updater declared ≡ None = sym others-are ∙ all in
        let c : too_tight (updaters declared) ≡ None = sym (ap too_tight (same ∙ updaters-are)) ∙ fine in
        rw (a, b) c

    pub rated-is : rated_set set ≡ rated_set declared
    rated-is =
        ap rated_set is
        ∙ ap (λ (us : List Updater). set_with (rate_of us) (plain_set declared)) (updaters-same (list_rate (length declared.txns)) declared)
        ∙ with-again (list_rate (length declared.txns)) (rate_of (updaters declared)) declared

keeps-same : (us : List Updater) (f g : ℕ → ℕ) (tx : ℕ) → ((h : ℕ) → h < length us → f h ≡ g h) → tx < length us → KeepsValidity us f tx → KeepsValidity us g tx
keeps-same us f g tx same inside k =
    let own = same tx inside in
    let loads : (w : ℕ) → load us f tx w ≡ load us g tx w = λ w. load-same us f g tx w (λ h in-h first. same h in-h) in
    record {
      some = omega (arith, own, k.some);
      few = omega (arith, own, k.few);
      window = k.window;
      from = k.from;
      fits = omega (arith, loads k.window, k.fits);
      least = λ w from fits. k.least w from (omega (arith, loads w, fits));
      within = omega (arith, own, k.within);
      valid = omega (arith, own, k.valid);
    }

best-of : (declared : Set) → too_tight (updaters declared) ≡ None → AreGreatest declared (λ tx. (txn_of (rated_set declared) tx).period)
best-of declared none =
    let best = periods-are-greatest declared none in
    let count = length-map declared.txns (updater_of declared.items) in
    let at : (tx : ℕ) → tx < length declared.txns → (txn_of (rated_set declared) tx).period ≡ period (updaters declared) tx = λ tx inside.
    ap (λ (t : TxnDecl). t.period) (with-at (rate_of (updaters declared)) declared.txns tx no_txn inside) in
    record {
      keep = λ tx inside.
          keeps-same (updaters declared) (period (updaters declared)) (λ h. (txn_of (rated_set declared) h).period) tx
          (λ h in-h. sym (at h (omega (arith, count, in-h)))) (omega (arith, count, inside)) (best.keep tx inside);
      greatest = λ others keeps tx inside. omega (arith, at tx inside, best.greatest others keeps tx inside);
    }

pub best-rates : (declared set admitted : Set) → set ≡ plain_set declared → IsRatable set → admitted ≡ rated_set set → HasBestRates declared admitted
best-rates declared set admitted is ok same =
    let none : too_tight (updaters declared) ≡ None = sym (ap too_tight (updaters-are declared set is)) ∙ ok.none_tight in
    record {
      periods = subst (λ (s : Set). AreGreatest declared (λ tx. (txn_of s tx).period)) (sym (same ∙ rated-is declared set is)) (best-of declared none);
      responses = subst (λ (s : Set). (tx : ℕ) → tx < length s.txns → response s tx ≡ Some (txn_of s tx).deadline) (sym same) (rated-responses set ok);
    }

-- what an error tells

tight-last : (a b c : Option RateError) (tx : TxId) (demand : ℕ) → (a ≡ Some (TooTight tx demand) → ⊥) → (b ≡ Some (TooTight tx demand) → ⊥) → first_of_both a (first_of_both b c) ≡ Some (TooTight tx demand) → c ≡ None → ⊥
tight-last (Some x) b c tx demand not-a not-b e none = not-a e
tight-last None (Some x) c tx demand not-a not-b e none = not-b e
tight-last None None c tx demand not-a not-b e none = cc

no-compile : (o : Option CompileError) (tx : TxId) (demand : ℕ) → option_map Compile o ≡ Some (TooTight tx demand) → ⊥
no-compile None tx demand e = cc
no-compile (Some x) tx demand e = cc

no-other : (o : Option ℕ) (tx : TxId) (demand : ℕ) → option_map (λ i. NotAnUpdater (record { 0 = i })) o ≡ Some (TooTight tx demand) → ⊥
no-other None tx demand e = cc
no-other (Some x) tx demand e = cc

pub tells : (set : Set) (e : RateError) → Refuses (rate_refusal set) e → TellsTight set e
unfolding rate_refusal
tells set (TooTight tx demand) h =
    tight-unless-kept set
    (tight-last (option_map Compile (compile_refusal (plain_set set))) (not_an_updater set) (too_tight (updaters set)) tx demand
    (no-compile (compile_refusal (plain_set set)) tx demand)
    (no-other (least_from (is_other set) 0 (length set.txns)) tx demand) h)
tells set other h = tt
