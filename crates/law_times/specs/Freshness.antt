-- What an admitted set promises of steady histories: no read is too old, and no two reads lie too far apart.
use Rattle.std.specs.Prelude.{◌≡◌, ◌≢◌, ℕ, ◌-◌, ◌≤◌, max, List, IsTrue}
use Rattle.std.specs.List.{All}
use Rattle.rt_base.specs.declared.ids.ItemId.{ItemId}
use Rattle.rt_base.specs.declared.operation.End.TheVariants as end
use Rattle.step_journal.specs.declared.entry.Entry.{Entry}
use Rattle.step_journal.specs.declared.entry.EndedJob.{EndedJob}
use Rattle.txn_set.specs.Set.{Set, IsCompiled}
use Rattle.item_model.specs.Kinds.{is_dated}
use Rattle.item_model.specs.declared.stored.OutsideRead.{OutsideRead}
use Rattle.step_journal.specs.History.{IsLegal, state_of}
use Rattle.step_journal.specs.Timing.{outside_reads_of, IsSteady}
use Rattle.law_times.specs.Ages.{IsAdmitted, age_bound}

-- the age of a read at the end of its job is within the item's bound
pub record IsWithinAge (bound : ℕ → ℕ) (e : EndedJob) (r : OutsideRead) : Type 0 where
  pub past : r.stamp ≤ e.tick
  pub age : e.tick - r.stamp ≤ bound r.item.0

-- two stamps differ by at most the greater bound
pub record IsWithinSpread (bound : ℕ → ℕ) (q r : OutsideRead) : Type 0 where
  pub below : q.stamp - r.stamp ≤ max (bound q.item.0) (bound r.item.0)
  pub above : r.stamp - q.stamp ≤ max (bound q.item.0) (bound r.item.0)

-- the ages of a job's reads of sensor and derived items at its end, and the spread of any two of these reads
abbrev pub AreWithinAge : Set → (ℕ → ℕ) → EndedJob → List OutsideRead → Type 0
AreWithinAge set bound e reads = All (λ r. IsTrue (is_dated set.items r.item.0) → IsWithinAge bound e r) reads

abbrev pub AreWithinSpread : Set → (ℕ → ℕ) → List OutsideRead → Type 0
AreWithinSpread set bound reads =
    All (λ q. All (λ r. IsTrue (is_dated set.items q.item.0) → IsTrue (is_dated set.items r.item.0)
    → IsWithinSpread bound q r) reads) reads

-- no job ended Stale or Apart, and what the committed jobs read was within its age and its spread
pub record EndsAreFresh (set : Set) (bound : ℕ → ℕ) (entries : List Entry) : Type 0 where
  pub none_stale : All (λ e. (item : ItemId) (stamp : ℕ) → e.end ≢ end.Stale item stamp) (state_of set entries).ended
  pub none_apart : All (λ e. (a b : ItemId) → e.end ≢ end.Apart a b) (state_of set entries).ended
  pub age :
      All (λ e. e.end ≡ end.Committed → AreWithinAge set bound e (outside_reads_of entries e.job))
      (state_of set entries).ended
  pub spread :
      All (λ e. e.end ≡ end.Committed → AreWithinSpread set bound (outside_reads_of entries e.job))
      (state_of set entries).ended

-- over an admitted set, in each steady history
abbrev pub Freshness : Type 0
Freshness =
    (set : Set) (entries : List Entry) → IsCompiled set → (admitted : IsAdmitted set) → IsLegal set entries
    → IsSteady set entries → EndsAreFresh set (age_bound set admitted.response) entries
