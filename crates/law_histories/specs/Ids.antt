-- Transactions, items and jobs by their numbers.
use Rattle.std.specs.Prelude.{ℕ}
use Rattle.rt_base.specs.declared.ids.TxId.{TxId}
use Rattle.rt_base.specs.declared.ids.ItemId.{ItemId}
use Rattle.rt_base.specs.declared.ids.JobId.{JobId}

abbrev pub tx : ℕ → TxId
tx n = record { 0 = n }

abbrev pub item : ℕ → ItemId
item n = record { 0 = n }

abbrev pub job : ℕ → ℕ → JobId
job t n = record { tx = tx t; serial = n }
