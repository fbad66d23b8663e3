-- The running job's transaction: from the highest pending one along "waits on" to one that waits on nobody.
use Rattle.std.specs.Prelude.{◌≡◌, ℕ, length, Option, Some}
use Rattle.std.specs.Option.{option_map}
use Rattle.rt_base.specs.declared.ids.TxId.{TxId}
use Rattle.rt_base.specs.declared.rank_set.RankSet.{RankSet}
use Rattle.rt_base.specs.Ranks.{IsLeastRank}
use Rattle.rt_base.specs.Running.{followed}
use Rattle.inherit_prio.specs.Waits.{Waiting, on_of, tx_of}

-- on whom a transaction waits, by its number
abbrev pub next_of : Waiting → ℕ → Option ℕ
next_of w tx = option_map (λ t. t.0) (on_of w.on tx)

-- where "waits on" leads from a transaction, by at most as many links as there are transactions
abbrev pub end_of : Waiting → ℕ → Option ℕ
end_of w tx = followed Some (next_of w) (length w.prios) tx (next_of w tx)

-- the transaction is that of the running job
pub record IsRunning (pending : RankSet) (w : Waiting) (tx : TxId) : Type 0 where
  pub rank : ℕ
  pub highest : IsLeastRank pending rank
  pub end : end_of w (tx_of w.order rank) ≡ Some tx.0
