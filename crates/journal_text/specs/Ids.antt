-- Names and jobs as fields.
use Rattle.std.specs.Prelude.{ℕ, ◌<◌, ◌^◌, List, [], ◌++◌, length, slice_index_or, Option, Some, decimal, codes}
use Rattle.rt_base.specs.declared.ids.TxId.{TxId}
use Rattle.rt_base.specs.declared.ids.ItemId.{ItemId}
use Rattle.rt_base.specs.declared.ids.JobId.{JobId}
use Rattle.name_table.specs.Places.{place_in}
use Rattle.line_fields.specs.Cuts.{◌>>=◌, cut_at}
use Rattle.line_fields.specs.Numbers.{short_of}

-- the name at a place, and the empty text where there is none
abbrev pub name_at : List (List ℕ) → ℕ → List ℕ
name_at names i = slice_index_or names i []

-- the place of a name
abbrev pub index_of : List (List ℕ) → List ℕ → Option ℕ
index_of names w = place_in names w

-- the transaction of a name, and the item of a name
unfoldable pub tx_of : List (List ℕ) → List ℕ → Option TxId
tx_of txns w = index_of txns w >>= λ i. Some (record { 0 = i })

unfoldable pub item_of : List (List ℕ) → List ℕ → Option ItemId
item_of items w = index_of items w >>= λ i. Some (record { 0 = i })

-- `TXN/SERIAL`
abbrev pub job_text : List (List ℕ) → JobId → List ℕ
job_text txns job = name_at txns job.tx.0 ++ codes "/" ++ decimal job.serial

-- the job that is written so: what stands before the first `/` is a name, and after it a serial
unfoldable pub job_of : List (List ℕ) → List ℕ → Option JobId
job_of txns w = do
  parts ← cut_at 47 w
  tx ← tx_of txns parts.0
  serial ← short_of parts.1
  Some (record { tx = tx; serial = serial })

-- a job of a named transaction, whose serial is of its type
abbrev pub IsJob : List (List ℕ) → JobId → Type 0
IsJob txns job = (job.tx.0 < length txns) × (job.serial < 2 ^ 32)
