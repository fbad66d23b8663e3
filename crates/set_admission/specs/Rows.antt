-- A set as the rows of the response test and of the age bounds.
use Rattle.std.specs.Prelude.{ℕ, ◌+◌, List, map, length}
use Rattle.std.specs.List.{filter, range_with_len}
use Rattle.rt_base.specs.declared.ids.TxId.{TxId}
use Rattle.item_model.specs.Kinds.{is_dated, is_derived}
use Rattle.txn_set.specs.declared.decl.TxnDecl.{TxnDecl}
use Rattle.txn_set.specs.Set.{Set, txn_of}
use Rattle.txn_set.specs.Ceilings.{blocking}
use Rattle.response_test.specs.declared.RespRow.{RespRow}
use Rattle.age_bounds.specs.declared.AgeRow.{AgeRow}
use Rattle.law_times.specs.Ages.{writer_of}
use Rattle.set_admission.specs.Bounds.{response_of}

abbrev pub resp_row : Set → TxnDecl → RespRow
resp_row set txn =
    record { steps = txn.steps; blocking = blocking set txn.prio; period = txn.period; deadline = txn.deadline }

-- a row for each of these transactions
abbrev pub resp_rows : Set → List TxId → List RespRow
resp_rows set txs = map (λ tx. resp_row set (txn_of set tx.0)) txs

-- the sensor and derived items that a transaction reads
abbrev pub dated_reads : Set → TxnDecl → List ℕ
dated_reads set txn = map (λ i. i.0) (filter (λ i. is_dated set.items i.0) txn.reads)

abbrev pub age_row : Set → ℕ → AgeRow
age_row set item =
    record {
      derived = is_derived set.items item;
      base = (txn_of set (writer_of set item)).period + response_of set (writer_of set item);
      parents = dated_reads set (txn_of set (writer_of set item));
    }

-- a row for each item
abbrev pub age_rows : Set → List AgeRow
age_rows set = map (age_row set) (range_with_len 0 (length set.items))
