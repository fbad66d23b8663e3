-- The transactions of a value have ids, and its jobs are counted in 64 bits, since it is made of few values.
use Rattle.std.proofs.Common.{◌≡◌, ℕ, ◌+◌, ◌-◌, ◌*◌, ◌^◌, ◌<◌, ◌≤◌, Bool, true, false, cond, List, [], ◌∷◌, ◌++◌, length, map, codes, Option, Result, Ok, Err, refl, sym, subst, arith, length-append}
use Rattle.std.specs.Prelude.{is_some}
use Rattle.std.specs.List.{All}
use Rattle.std.proofs.lemmas.List.Elements.{All-head, All-tail, All-nil, All-push}
use Rattle.name_table.specs.Places.{place_in}
use Rattle.serde_json.specs.Data.{Data, Items, no_items, item}
use Rattle.serde_json.specs.Find.{get, as_array}
use Rattle.step_script.specs.declared.releases.Releases.{Releases}
use Rattle.step_script.specs.declared.releases.Releases.TheVariants.{At, Jobs, Eager}
use Rattle.step_script.specs.Releases.{jobs_of, total_jobs}
use Rattle.scenario_forms.specs.declared.error.Place.{Place}
use Rattle.scenario_forms.specs.declared.error.Place.TheVariants as places
use Rattle.scenario_forms.specs.declared.error.TxnMember.TheVariants as members
use Rattle.scenario_forms.specs.declared.error.FormError.{FormError}
use Rattle.scenario_forms.specs.declared.txn.Times.{Times}
use Rattle.scenario_forms.specs.Reading.{◌>>=◌, needed, member_at, array_at, fold_at, form_step, all_at}
use Rattle.scenario_forms.specs.Fields.{Places, whole}
use Rattle.scenario_forms.specs.Sizes.{size, items_size}
use Rattle.scenario_forms.specs.Txns.{Txn, Txns, with_txn, absent, times_at, fixed_at, counted_at, eager_at, releases_at, names_at, samples_at, script_at, txn_name, txn_at, txn_step, no_txns_yet}
use Rattle.scenario_forms.specs.Root.{Formed, is_second, head_at, items_at, txns_at, sets_at, forms_at}
use Rattle.scenario_forms.proofs.Elements.{some_size, array_size, array_or_size}
use Rattle.scenario_forms.proofs.FreshNames.{Holds, through, holds_ok}
use Rattle.scenario_reader.specs.Made.{AreCounted}
use Rattle.scenario_reader.proofs.Ranges.{Names, number_at, after_times, after_reads, after_writes, after_releases, after_samples}
use Rattle.scenario_reader.proofs.Tables.{after_txns, after_items, after_version, forms_at_is}

-- Arrays.

weaker : {A : Type 0} (P Q : A → Type 0) → ((a : A) → P a → Q a) → (r : Result A FormError) → Holds P r → Holds Q r
weaker P Q f (Ok a) h = f a h
weaker P Q f (Err e) h = tt

module _ {A : Type 0} (place : ℕ → Place) (form : Data → Option A) where
  one_longer : (acc : List A) (d : Data) → Holds (λ xs. length xs ≡ length acc + 1) (form_step place form acc d)
  one_longer acc d =
      through (λ xs. length xs ≡ length acc + 1) (needed (place (length acc)) (form d)) (λ x. Ok (acc ++ x ∷ []))
      (λ x is. length-append acc (x ∷ []))

  elements : (ds : Items) (acc : List A)
      → Holds (λ xs. length xs ≤ length acc + items_size ds) (fold_at (form_step place form) acc ds)
  unfolding fold_at
  elements no_items acc = omega arith
  elements (item d ds) acc =
      through (λ xs. length xs ≤ length acc + (size d + items_size ds)) (form_step place form acc d)
      (λ a. fold_at (form_step place form) a ds)
      (λ a is. weaker (λ xs. length xs ≤ length a + items_size ds)
      (λ xs. length xs ≤ length acc + (size d + items_size ds))
      (λ xs h. omega (
        arith,
        h,
        some_size d,
        holds_ok (λ xs. length xs ≡ length acc + 1) (form_step place form acc d) a (one_longer acc d) is,
      ))
      (fold_at (form_step place form) a ds) (elements ds a))

-- Releases.

abbrev AreFew : Releases → Type 0
AreFew r = jobs_of r ≤ 2 ^ 32

either : (b : Bool) (x y : Result Releases FormError) → Holds AreFew x → Holds AreFew y → Holds AreFew (cond b x y)
either true x y h k = h
either false x y h k = k

abbrev jobs_place : ℕ → Place
jobs_place i = places.TxnMember i members.Jobs

abbrev eager_place : ℕ → Place
eager_place i = places.TxnMember i members.Eager

abbrev tick_place : ℕ → ℕ → Place
tick_place i j = places.Element i members.Releases j

abbrev after_ticks : ℕ → Data → List ℕ → Result Releases FormError
after_ticks i d ticks =
    absent (jobs_place i) (codes "jobs") d >>= λ no_jobs. absent (eager_place i) (codes "eager") d
    >>= λ no_eager. Ok (At ticks)

fixed_few : (i : ℕ) (d : Data) → size d ≤ 2 ^ 32 → Holds AreFew (fixed_at i d)
unfolding fixed_at
fixed_few i d small =
    through AreFew (array_at (places.TxnMember i members.Releases) (codes "releases") d)
    (λ values. all_at (tick_place i) (whole 0 (2 ^ 53)) values >>= after_ticks i d)
    (λ values values_are. through AreFew (all_at (tick_place i) (whole 0 (2 ^ 53)) values) (after_ticks i d)
    (λ ticks ticks_are. through AreFew (absent (jobs_place i) (codes "jobs") d)
    (λ no_jobs. absent (eager_place i) (codes "eager") d >>= λ no_eager. Ok (At ticks))
    (λ no_jobs none. through AreFew (absent (eager_place i) (codes "eager") d) (λ no_eager. Ok (At ticks))
    (λ no_eager none_either. omega (
      arith,
      small,
      array_or_size (places.TxnMember i members.Releases) (codes "releases") d values values_are,
      holds_ok (λ xs. length xs ≤ length {A = ℕ} [] + items_size values) (all_at (tick_place i) (whole 0 (2 ^ 53)) values) ticks
          (elements (tick_place i) (whole 0 (2 ^ 53)) values []) ticks_are,
    )))))

counted_few : (i : ℕ) (d : Data) → Holds AreFew (counted_at i d)
unfolding counted_at
counted_few i d =
    through AreFew (member_at (jobs_place i) (whole 0 (2 ^ 31)) (codes "jobs") d)
    (λ count. absent (eager_place i) (codes "eager") d >>= λ no_eager. Ok (Jobs count))
    (λ count is. through AreFew (absent (eager_place i) (codes "eager") d) (λ no_eager. Ok (Jobs count))
    (λ no_eager none. omega (arith, (number_at (jobs_place i) 0 (2 ^ 31) (codes "jobs") d count is).1)))

eager_few : (i : ℕ) (d : Data) → Holds AreFew (eager_at i d)
unfolding eager_at
eager_few i d =
    through AreFew (member_at (eager_place i) (whole 0 (2 ^ 31)) (codes "eager") d) (λ count. Ok (Eager count))
    (λ count is. omega (arith, (number_at (eager_place i) 0 (2 ^ 31) (codes "eager") d count is).1))

releases_few : (i : ℕ) (d : Data) → size d ≤ 2 ^ 32 → Holds AreFew (releases_at i d)
unfolding releases_at
releases_few i d small =
    either (is_some (get (codes "releases") d)) (fixed_at i d) _ (fixed_few i d small)
    (either (is_some (get (codes "jobs") d)) (counted_at i d) _ (counted_few i d)
    (either (is_some (get (codes "eager") d)) (eager_at i d) (Ok (At [])) (eager_few i d) (omega arith)))

-- Transactions.

abbrev HasFew : Txn → Type 0
HasFew t = jobs_of t.releases ≤ 2 ^ 32

txn_few : (items : Places) (i : ℕ) (d : Data) → size d ≤ 2 ^ 32 → Holds HasFew (txn_at items i d)
unfolding txn_at
txn_few items i d small =
    through HasFew (times_at i d) (after_times items i d)
    (λ times times_are. through HasFew (names_at items i members.Reads (codes "reads") d) (after_reads items i d times)
    (λ read_names reads_are. through HasFew (names_at items i members.Writes (codes "writes") d)
    (after_writes items i d times read_names)
    (λ write_names writes_are. through HasFew (releases_at i d) (after_releases items i d times read_names write_names)
    (λ releases releases_are. through HasFew (samples_at i d)
    (after_samples items i d times read_names write_names releases)
    (λ samples samples_are. through HasFew (script_at items i d)
    (λ script. Ok
    (record {
      times = times;
      reads = read_names;
      writes = write_names;
      releases = releases;
      samples = samples;
      script = script;
    }))
    (λ script script_is.
    holds_ok AreFew (releases_at i d) releases (releases_few i d small) releases_are))))))

abbrev IsNext : Txns → Txns → Type 0
IsNext t u = (length u.txns ≡ length t.txns + 1) × All HasFew u.txns

txn_next : (second : Bool) (items : Places) (t : Txns) (d : Data) → size d ≤ 2 ^ 32 → All HasFew t.txns
    → Holds (IsNext t) (txn_step second items t d)
unfolding txn_step
txn_next second items t d small h =
    through (IsNext t) (txn_name second (place_in t.names) (length t.names) d) _
    (λ name name_is. through (IsNext t) (txn_at items (length t.names) d) _
    (λ x is. (
      length-append t.txns (x ∷ []),
      All-push HasFew t.txns x h
          (holds_ok HasFew (txn_at items (length t.names) d) x (txn_few items (length t.names) d small) is),
    )))

abbrev AreFewTxns : ℕ → Txns → Type 0
AreFewTxns m t = (length t.txns ≤ m) × All HasFew t.txns

txns_few : (second : Bool) (items : Places) (m : ℕ) (ds : Items) (t : Txns) → length t.txns + items_size ds ≤ m
    → m ≤ 2 ^ 32 → All HasFew t.txns → Holds (AreFewTxns m) (fold_at (txn_step second items) t ds)
unfolding fold_at
txns_few second items m no_items t few low h = (omega arith, h)
txns_few second items m (item d ds) t few low h =
    through (AreFewTxns m) (txn_step second items t d) (λ u. fold_at (txn_step second items) u ds)
    (λ u is.
    let next = holds_ok (IsNext t) (txn_step second items t d) u (txn_next second items t d (omega arith) h) is in
    txns_few second items m ds u (omega (arith, next.0, some_size d)) low next.1)

total_few : (ts : List Txn) → All HasFew ts → total_jobs (map (λ x. x.releases) ts) ≤ length ts * 2 ^ 32
total_few [] h = omega arith
total_few (t ∷ ts) h = omega (arith, All-head HasFew t ts h, total_few ts (All-tail HasFew t ts h))

counted_txns : (t : Txns) → AreFewTxns 4294967294 t → AreCounted t
counted_txns t h = record { few = omega (arith, h.0); jobs = omega (arith, h.0, total_few t.txns h.1) }

txns_counted : (second : Bool) (items : Places) (d : Data) → size d ≤ 2 ^ 32
    → Holds AreCounted (txns_at second items d)
unfolding txns_at
txns_counted second items d small =
    through AreCounted (member_at places.Txns as_array (codes "transactions") d)
    (λ values. fold_at (txn_step second items) no_txns_yet values)
    (λ values are. weaker (AreFewTxns 4294967294) AreCounted counted_txns
    (fold_at (txn_step second items) no_txns_yet values)
    (txns_few second items 4294967294 values no_txns_yet
    (omega (arith, small, array_size places.Txns (codes "transactions") d values are)) (omega arith) (All-nil HasFew)))

abbrev HasCounted : Formed → Type 0
HasCounted f = AreCounted f.txns

forms_counted : (d : Data) → size d ≤ 2 ^ 32 → Holds HasCounted (forms_at d)
forms_counted d small =
    subst (λ (r : Result Formed FormError). Holds HasCounted r) (sym (forms_at_is d))
    (through HasCounted (head_at d) (after_version d)
    (λ version version_is. through HasCounted (items_at d) (after_items d version)
    (λ items items_are. through HasCounted (txns_at (is_second d) (place_in items.names) d)
    (after_txns d version items)
    (λ txns txns_are. through HasCounted (sets_at (place_in items.names) d)
    (λ sets. Ok (record { version = version; items = items; txns = txns; sets = sets }))
    (λ sets sets_are. holds_ok AreCounted (txns_at (is_second d) (place_in items.names) d) txns
    (txns_counted (is_second d) (place_in items.names) d small) txns_are)))))

pub forms_are_counted : (d : Data) (f : Formed) → size d ≤ 2 ^ 32 → forms_at d ≡ Ok f → AreCounted f.txns
forms_are_counted d f small is = holds_ok HasCounted (forms_at d) f (forms_counted d small) is
