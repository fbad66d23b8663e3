-- What the scripts of a scenario write is of 64 bits.
use Rattle.std.proofs.Common.{ℕ, ℤ, pos, negsuc, zero, suc, ◌+◌, ◌-◌, ◌<◌, ◌^◌, ◌==◌, Bool, true, false, cond, List, [], ◌∷◌, length, Option, Some, None, arith}
use Rattle.std.specs.Prelude.{slice_get, unwrap_or, nat_lt}
use Rattle.rt_base.specs.declared.operation.Outcome.{Outcome}
use Rattle.rt_base.specs.declared.operation.Outcome.TheVariants.{Got, Put, Computed, Closed}
use Rattle.line_fields.specs.Numbers.{IsI64}
use Rattle.journal_text.proofs.IdLaws.{in_i64}
use Rattle.journal_text.specs.Lines.{IsOutcome}
use Rattle.step_script.specs.Values.{Tree, leaf_const, leaf_sample, leaf_serial, leaf_last, node, clamped, exact, value_in, Known}
use Rattle.step_script.specs.Scripts.{Operation, read, write, compute, commit, quit, Program, width, op_at, noted, noted_at, lasts_after, lasts_of, sample_of, asked_by, next_of}
use Rattle.scenario_writer.specs.Integers.{HasConstants, OpHasConstants, ProgramHasIntegers}
use Rattle.run_report.specs.Types.{HasValue}
use Rattle.run_report.proofs.Every.{Every, every_all}

-- ---- expressions

clamped_fits : (z : ℤ) → IsI64 (clamped z)
clamped_fits (pos n) = omega arith
clamped_fits (negsuc n) = omega arith

record KnownFits (known : Known) : Type 0 where
  pub sample : IsI64 known.sample
  pub serial : IsI64 known.serial
  pub lasts : (i : ℕ) → IsI64 (known.lasts i)

value_fits : (known : Known) (t : Tree) → KnownFits known → HasConstants t → IsI64 (value_in known t)
value_fits known (leaf_const n) h c = in_i64 n c
value_fits known leaf_sample h c = h.sample
value_fits known leaf_serial h c = h.serial
value_fits known (leaf_last item) h c = h.lasts item.0
value_fits known (node op a b) h c = clamped_fits (exact op (value_in known a) (value_in known b))

-- ---- the operation at a place

abbrev OpFits : Option Operation → Type 0
OpFits None = Unit {0}
OpFits (Some op) = OpHasConstants op

op_if : (b : Bool) (op : Operation) (o : Option Operation) → OpHasConstants op → OpFits o → OpFits (cond b (Some op) o)
op_if true op o h k = h
op_if false op o h k = k

op_at_fits : (ops : List Operation) (n : ℕ) → Every OpHasConstants ops → OpFits (op_at ops n)
op_at_fits [] n h = tt
op_at_fits (op ∷ ops) n h =
    op_if (nat_lt n (width op)) op (op_at ops (n - width op)) h.0 (op_at_fits ops (n - width op) h.1)

asked_fits : (known : Known) (o : Option Operation) → KnownFits known → OpFits o → HasValue (asked_by known o)
asked_fits known None h k = tt
asked_fits known (Some (read item)) h k = tt
asked_fits known (Some (write item value)) h k = value_fits known value h k
asked_fits known (Some (compute n)) h k = tt
asked_fits known (Some commit) h k = tt
asked_fits known (Some quit) h k = tt

-- ---- what was read

if_fits : (b : Bool) (x y : ℤ) → IsI64 x → IsI64 y → IsI64 (cond b x y)
if_fits true x y h k = h
if_fits false x y h k = k

noted_fits : (op : Operation) (outcome : Outcome) (lasts : ℕ → ℤ) → IsOutcome outcome → ((i : ℕ) → IsI64 (lasts i))
    → (i : ℕ) → IsI64 (noted op outcome lasts i)
noted_fits (read item) (Got value stamp) lasts fits h i = if_fits (i == item.0) value (lasts i) fits.0 (h i)
noted_fits (read item) Put lasts fits h i = h i
noted_fits (read item) Computed lasts fits h i = h i
noted_fits (read item) Closed lasts fits h i = h i
noted_fits (write item value) outcome lasts fits h i = h i
noted_fits (compute n) outcome lasts fits h i = h i
noted_fits commit outcome lasts fits h i = h i
noted_fits quit outcome lasts fits h i = h i

noted_at_fits : (o : Option Operation) (outcome : Outcome) (lasts : ℕ → ℤ) → IsOutcome outcome → ((i : ℕ) → IsI64 (lasts i))
    → (i : ℕ) → IsI64 (noted_at o outcome lasts i)
noted_at_fits None outcome lasts fits h i = h i
noted_at_fits (Some op) outcome lasts fits h i = noted_fits op outcome lasts fits h i

lasts_fit : (ops : List Operation) (n : ℕ) (lasts : ℕ → ℤ) (outcomes : List Outcome) → Every IsOutcome outcomes
    → ((i : ℕ) → IsI64 (lasts i)) → (i : ℕ) → IsI64 (lasts_after ops n lasts outcomes i)
lasts_fit ops n lasts [] fits h i = h i
lasts_fit ops n lasts (o ∷ os) fits h i =
    lasts_fit ops (n + 1) (noted_at (op_at ops n) o lasts) os fits.1 (noted_at_fits (op_at ops n) o lasts fits.0 h) i

-- ---- samples

get_fits : (zs : List ℤ) (n : ℕ) (d : ℤ) → Every IsI64 zs → IsI64 d → IsI64 (unwrap_or (slice_get zs n) d)
get_fits [] n d h k = k
get_fits (z ∷ zs) zero d h k = h.0
get_fits (z ∷ zs) (suc n) d h k = get_fits zs n d h.1 k

sample_fits : (samples : List ℤ) (serial : ℕ) → Every IsI64 samples → IsI64 (sample_of samples serial)
sample_fits samples serial h =
    get_fits samples serial (unwrap_or (slice_get samples (length samples - 1)) (pos 0)) h
    (get_fits samples (length samples - 1) (pos 0) h (omega arith))

-- ---- the whole

pub next_fits : (p : Program) (serial : ℕ) (outcomes : List Outcome) → ProgramHasIntegers p → serial < 2 ^ 32
    → Every IsOutcome outcomes → HasValue (next_of p serial outcomes)
next_fits p serial outcomes h lt fits =
    let known : Known = record { sample = sample_of p.samples serial; serial = pos serial; lasts = lasts_of p outcomes } in
    let samples : Every IsI64 p.samples = every_all IsI64 p.samples (λ k d at. in_i64 _ (h.samples k d at)) in
    asked_fits known (op_at p.ops (length outcomes))
    (record {
      sample = sample_fits p.samples serial samples;
      serial = omega (arith, lt);
      lasts = lasts_fit p.ops 0 (λ i. pos 0) outcomes fits (λ i. omega arith);
    })
    (op_at_fits p.ops (length outcomes) (every_all OpHasConstants p.ops h.constants))
