-- Two parts that are read as a pair.
use Rattle.std.proofs.Common.{◌≡◌, ◌^◌, ℕ, ℤ, List, codes, Option, Result, Ok, Err, refl, ap, ◌∙◌}
use Rattle.name_table.specs.Places.{place_in}
use Rattle.rt_base.specs.declared.ids.ItemId.{ItemId}
use Rattle.step_script.specs.declared.releases.Releases.{Releases}
use Rattle.step_script.specs.declared.releases.Releases.TheVariants.{At}
use Rattle.serde_json.specs.Data.{Data, Items}
use Rattle.scenario_forms.specs.declared.error.FormError.{FormError}
use Rattle.scenario_forms.specs.declared.error.Place.TheVariants as places
use Rattle.scenario_forms.specs.declared.error.TxnMember.TheVariants as members
use Rattle.scenario_forms.specs.declared.arrays.Owner.TheVariants as owners
use Rattle.scenario_forms.specs.Arrays.{element_place}
use Rattle.scenario_forms.specs.declared.txn.Times.{Times}
use Rattle.scenario_forms.specs.Fields.{Places, whole}
use Rattle.scenario_forms.specs.Reading.{◌>>=◌, array_at, all_at}
use Rattle.scenario_forms.specs.Items.{Table}
use Rattle.scenario_forms.specs.Ops.{KnownOp}
use Rattle.scenario_forms.specs.Sets.{Together}
use Rattle.scenario_forms.specs.Txns.{Txn, Txns, absent, fixed_at, times_at, names_at, releases_at, samples_at, script_at, txn_at}
use Rattle.scenario_forms.specs.Root.{Formed, is_second, head_at, items_at, txns_at, sets_at, forms_at}

abbrev pub both : {A B : Type 0} → Result A FormError → Result B FormError → Result (A × B) FormError
both r s = r >>= λ a. s >>= λ b. Ok (a, b)

pair_then : {A B C : Type 0} (r : Result A FormError) (s : Result B FormError) (g : A → B → Result C FormError)
    → (r >>= λ a. s >>= λ b. g a b) ≡ (both r s >>= λ p. g p.0 p.1)
pair_then (Ok a) (Ok b) g = refl
pair_then (Ok a) (Err e) g = refl
pair_then (Err e) s g = refl

-- the root

abbrev pub uses_at : Table → Data → Result (Txns × List Together) FormError
uses_at items d = both (txns_at (is_second d) (place_in items.names) d) (sets_at (place_in items.names) d)

abbrev pub formed : ℕ → Table → Txns × List Together → Result Formed FormError
formed version items p = Ok (record { version = version; items = items; txns = p.0; sets = p.1 })

pub forms_by_uses : (d : Data) (version : ℕ) (items : Table) → head_at d ≡ Ok version → items_at d ≡ Ok items
    → forms_at d ≡ (uses_at items d >>= formed version items)
unfolding forms_at
forms_by_uses d version items head read = rw (head, read) (pair_then
    (txns_at (is_second d) (place_in items.names) d) (sets_at (place_in items.names) d)
    (λ t s. formed version items (t, s)))

-- a transaction

abbrev pub accesses_at : Places → ℕ → Data → Result (List (Option ItemId) × List (Option ItemId)) FormError
accesses_at items i d = both (names_at items i members.Reads (codes "reads") d)
    (names_at items i members.Writes (codes "writes") d)

abbrev pub inputs_at : Places → ℕ → Data → Result (List ℤ × List KnownOp) FormError
inputs_at items i d = both (samples_at i d) (script_at items i d)

abbrev pub made : Times → List (Option ItemId) × List (Option ItemId) → Releases → List ℤ × List KnownOp
    → Result Txn FormError
made times p releases q = Ok (record {
  times = times;
  reads = p.0;
  writes = p.1;
  releases = releases;
  samples = q.0;
  script = q.1;
})

abbrev pub after_accesses : Places → ℕ → Data → Times → List (Option ItemId) × List (Option ItemId)
    → Result Txn FormError
after_accesses items i d times p = releases_at i d >>= λ releases. samples_at i d >>= λ samples. script_at items i d
    >>= λ script. made times p releases (samples, script)

pub txn_by_accesses : (items : Places) (i : ℕ) (d : Data) (times : Times) → times_at i d ≡ Ok times
    → txn_at items i d ≡ (accesses_at items i d >>= after_accesses items i d times)
unfolding txn_at
txn_by_accesses items i d times read = rw read (pair_then (names_at items i members.Reads (codes "reads") d)
    (names_at items i members.Writes (codes "writes") d) (λ a b. after_accesses items i d times (a, b)))

pub txn_by_releases : (items : Places) (i : ℕ) (d : Data) (times : Times)
    (p : List (Option ItemId) × List (Option ItemId)) → times_at i d ≡ Ok times → accesses_at items i d ≡ Ok p
    → txn_at items i d ≡ (releases_at i d >>= λ releases. samples_at i d >>= λ samples. script_at items i d
    >>= λ script. made times p releases (samples, script))
txn_by_releases items i d times p read found = txn_by_accesses items i d times read
    ∙ ap (λ (r : Result (List (Option ItemId) × List (Option ItemId)) FormError). r >>= after_accesses items i d times)
    found

pub txn_by_inputs : (items : Places) (i : ℕ) (d : Data) (times : Times)
    (p : List (Option ItemId) × List (Option ItemId)) (releases : Releases) → times_at i d ≡ Ok times
    → accesses_at items i d ≡ Ok p → releases_at i d ≡ Ok releases
    → txn_at items i d ≡ (inputs_at items i d >>= made times p releases)
txn_by_inputs items i d times p releases read found planned = txn_by_releases items i d times p read found
    ∙ ap (λ (r : Result Releases FormError). r >>= λ s. samples_at i d >>= λ samples. script_at items i d
    >>= λ script. made times p s (samples, script)) planned
    ∙ pair_then (samples_at i d) (script_at items i d) (λ a b. made times p releases (a, b))

-- releases at fixed ticks

alone_then : {A B : Type 0} (r s : Result A FormError) (x : B)
    → (r >>= λ a. s >>= λ b. Ok x) ≡ ((r >>= λ a. s) >>= λ b. Ok x)
alone_then (Ok a) s x = refl
alone_then (Err e) s x = refl

abbrev pub are_listed_at : ℕ → Data → Result (Unit {0}) FormError
are_listed_at i d = absent (places.TxnMember i members.Jobs) (codes "jobs") d >>= λ none.
    absent (places.TxnMember i members.Eager) (codes "eager") d

abbrev pub listed : List ℕ → Unit {0} → Result Releases FormError
listed ticks none = Ok (At ticks)

pub fixed_by_ticks : (i : ℕ) (d : Data) (values : Items) (ticks : List ℕ)
    → array_at (places.TxnMember i members.Releases) (codes "releases") d ≡ Ok values
    → all_at (element_place (owners.Txn i members.Releases)) (whole 0 (2 ^ 53)) values ≡ Ok ticks
    → fixed_at i d ≡ (are_listed_at i d >>= listed ticks)
unfolding fixed_at
fixed_by_ticks i d values ticks there read = rw (there, read) (alone_then
    (absent (places.TxnMember i members.Jobs) (codes "jobs") d)
    (absent (places.TxnMember i members.Eager) (codes "eager") d) (At ticks))
