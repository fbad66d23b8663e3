-- Scripts as functions of a serial number and outcomes.
use Rattle.std.specs.Prelude.{◌≡◌, ℕ, ◌+◌, ◌-◌, ◌<◌, max, ℤ, pos, List, [], ◌∷◌, length, map, drop, slice_get, nat_lt, nat_le, ◌==◌, ◌&&◌, Bool, true, if◌then◌else◌, Option, Some, None, unwrap_or}
use Rattle.rt_base.specs.declared.ids.ItemId.{ItemId}
use Rattle.rt_base.specs.declared.operation.Op.{Op}
use Rattle.rt_base.specs.declared.operation.Op.TheVariants as asked
use Rattle.rt_base.specs.declared.operation.Outcome.{Outcome}
use Rattle.rt_base.specs.declared.operation.Outcome.TheVariants.{Got, Put, Computed, Closed}
use Rattle.step_script.specs.declared.script.ScriptOp.{ScriptOp}
use Rattle.step_script.specs.declared.script.ScriptOp.TheVariants.{Read, Write, Compute, Commit, Quit}
use Rattle.step_script.specs.declared.script.Script.{Script}
use Rattle.step_script.specs.Rows.{last_in}
use Rattle.step_script.specs.Values.{Tree, leaf_const, leaf_sample, leaf_serial, leaf_last, node, tree, value_in, Known}

-- an operation without the places in memory of its expression
pub data Operation : Type 0 where
  read : ItemId → Operation
  write : ItemId → Tree → Operation
  compute : ℕ → Operation
  commit : Operation
  quit : Operation

abbrev pub operation : ScriptOp → Operation
operation (Read item) = read item
operation (Write item value) = write item (tree value)
operation (Compute n) = compute n
operation Commit = commit
operation Quit = quit

-- what a script was made of
pub record Program : Type 0 where
  pub ops : List Operation
  pub samples : List ℤ
  pub items : ℕ

-- how many operations it stands for
abbrev pub width : Operation → ℕ
width (compute n) = max 1 n
width (read item) = 1
width (write item value) = 1
width commit = 1
width quit = 1

-- the operation that stands at a place, where each compute stands at as many places as it counts; None past the last
abbrev pub op_at : List Operation → ℕ → Option Operation
op_at [] n = None
op_at (op ∷ ops) n = if nat_lt n (width op) then Some op else op_at ops (n - width op)

-- the value last read of each item, after the outcome of an operation
abbrev pub noted : Operation → Outcome → (ℕ → ℤ) → ℕ → ℤ
noted (read item) (Got value stamp) lasts = λ i. if i == item.0 then value else lasts i
noted (read item) Put lasts = lasts
noted (read item) Computed lasts = lasts
noted (read item) Closed lasts = lasts
noted (write item value) outcome lasts = lasts
noted (compute n) outcome lasts = lasts
noted commit outcome lasts = lasts
noted quit outcome lasts = lasts

abbrev pub noted_at : Option Operation → Outcome → (ℕ → ℤ) → ℕ → ℤ
noted_at None outcome lasts = lasts
noted_at (Some op) outcome lasts = noted op outcome lasts

-- the same after the outcomes of the operations from a place on
abbrev pub lasts_after : List Operation → ℕ → (ℕ → ℤ) → List Outcome → ℕ → ℤ
lasts_after ops n lasts [] = lasts
lasts_after ops n lasts (o ∷ os) = lasts_after ops (n + 1) (noted_at (op_at ops n) o lasts) os

-- 0 where nothing was read
abbrev pub lasts_of : Program → List Outcome → ℕ → ℤ
lasts_of p outcomes = lasts_after p.ops 0 (λ i. pos 0) outcomes

-- the sample of a job: past the end the last one, and 0 where there are none
abbrev pub sample_of : List ℤ → ℕ → ℤ
sample_of samples serial = unwrap_or (slice_get samples serial)
    (unwrap_or (slice_get samples (length samples - 1)) (pos 0))

-- what a job asks for by an operation
abbrev pub asked_by : Known → Option Operation → Op
asked_by known None = asked.Compute
asked_by known (Some (read item)) = asked.Read item
asked_by known (Some (write item value)) = asked.Write item (value_in known value)
asked_by known (Some (compute n)) = asked.Compute
asked_by known (Some commit) = asked.Commit
asked_by known (Some quit) = asked.Quit

-- The script's function: as many operations are over as outcomes were told.
abbrev pub next_of : Program → ℕ → List Outcome → Op
next_of p serial outcomes =
    asked_by (record { sample = sample_of p.samples serial; serial = pos serial; lasts = lasts_of p outcomes })
    (op_at p.ops (length outcomes))

-- how deep an expression is nested
abbrev pub depth : Tree → ℕ
depth (leaf_const n) = 1
depth leaf_sample = 1
depth leaf_serial = 1
depth (leaf_last item) = 1
depth (node op a b) = 1 + max (depth a) (depth b)

-- whether it reads items below this number alone
abbrev pub reads_below : ℕ → Tree → Bool
reads_below items (leaf_const n) = true
reads_below items leaf_sample = true
reads_below items leaf_serial = true
reads_below items (leaf_last item) = nat_lt item.0 items
reads_below items (node op a b) = reads_below items a && reads_below items b

-- items below their number, computes of one or more, and a depth of at most 32
abbrev pub is_good : ℕ → Operation → Bool
is_good items (read item) = nat_lt item.0 items
is_good items (write item value) = nat_lt item.0 items && reads_below items value && nat_le (depth value) 32
is_good items (compute n) = nat_le 1 n
is_good items commit = true
is_good items quit = true

abbrev pub program_of : Script → Program
program_of s = record { ops = map operation s.ops.items; samples = s.samples.items; items = s.items }

-- the operation in hand is not over
abbrev pub IsWithin : List Operation → ℕ → Type 0
IsWithin [] done = done ≡ done
IsWithin (op ∷ ops) done = done < width op

-- A script that has begun with this serial and was told these outcomes: how its own fields stand for them.
pub record IsTold (s : Script) (serial : ℕ) (outcomes : List Outcome) : Type 0 where
  pub begun : s.serial ≡ serial
  pub lasts : last_in s.lasts.items ≡ lasts_of (program_of s) outcomes
  pub within : IsWithin (drop s.place (map operation s.ops.items)) s.done
  pub left : (m : ℕ) → op_at (map operation s.ops.items) (length outcomes + m) ≡ op_at
      (drop s.place (map operation s.ops.items)) (s.done + m)
