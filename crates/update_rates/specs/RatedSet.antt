-- Declarations with other priorities, periods and deadlines.
use Rattle.std.specs.Prelude.{ℕ, ◌-◌, List, map, length, slice_index_or}
use Rattle.std.specs.List.{range_with_len}
use Rattle.txn_set.specs.declared.decl.TxnDecl.{TxnDecl}
use Rattle.txn_set.specs.Set.{Set, no_txn}
use Rattle.update_rates.specs.declared.rates.Rate.{Rate}
use Rattle.update_rates.specs.Updaters.{updaters}
use Rattle.update_rates.specs.Rates.{longest, rate_of}

-- a transaction with this priority, period and deadline, and the offset 0; all else stays
abbrev pub with_rate : Rate → TxnDecl → TxnDecl
with_rate rate txn =
    record txn { prio = rate.prio; period = rate.period; deadline = rate.deadline; offset = 0 }

-- each transaction of a list with its rate
abbrev pub txns_with : (ℕ → Rate) → List TxnDecl → List TxnDecl
txns_with rates txns =
    map (λ tx. with_rate (rates tx) (slice_index_or txns tx no_txn)) (range_with_len 0 (length txns))

abbrev pub set_with : (ℕ → Rate) → Set → Set
set_with rates set = record set { txns = txns_with rates set.txns }

-- before the rates are known the declarations are judged with priorities that fall in list order and the longest times
abbrev pub list_rate : ℕ → ℕ → Rate
list_rate count tx = record { prio = count - tx; period = longest; deadline = longest }

abbrev pub plain_set : Set → Set
plain_set set = set_with (list_rate (length set.txns)) set

-- the declarations with the rates of their updaters
abbrev pub rated_set : Set → Set
rated_set set = set_with (rate_of (updaters set)) set
