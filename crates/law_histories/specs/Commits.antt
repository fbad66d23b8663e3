-- What each commit meets, and what a committed job had read: the laws of every legal history of every compiled set.
use Rattle.std.specs.Prelude.{◌≡◌, ◌≢◌, ◌⊎◌, ℕ, ◌-◌, ◌≤◌, List, [], ◌∷◌, ◌++◌, map, if◌then◌else◌, Option, None, Some, IsTrue}
use Rattle.std.specs.List.{All, filter_map}
use Rattle.std.specs.Option.{option_map}
use Rattle.rt_base.specs.declared.ids.JobId.{JobId}
use Rattle.rt_base.specs.declared.ids.TogetherDecl.{TogetherDecl}
use Rattle.rt_base.specs.declared.operation.End.TheVariants as end
use Rattle.step_journal.specs.declared.entry.Entry.{Entry}
use Rattle.step_journal.specs.declared.entry.Entry.TheVariants.{Step}
use Rattle.txn_set.specs.Set.{Set, names_item, IsTheWriter, IsCompiled}
use Rattle.item_model.specs.Kinds.{validity_of, is_dated}
use Rattle.item_model.specs.Work.{stamp_for}
use Rattle.item_model.specs.declared.stored.OutsideRead.{OutsideRead}
use Rattle.step_journal.specs.State.{same_job}
use Rattle.step_journal.specs.declared.entry.EndedJob.{EndedJob}
use Rattle.step_journal.specs.History.{IsLegal, state_of}
use Rattle.step_journal.specs.Timing.{outside_read, outside_reads_of, IsFresh, IsTogether}

-- each committed job is fresh and together
pub record CommitsAreFresh (set : Set) (entries : List Entry) : Type 0 where
  pub fresh : All (λ e. IsFresh set entries e) (state_of set entries).ended
  pub together : All (λ e. IsTogether set entries e) (state_of set entries).ended

abbrev pub FreshCommits : Type 0
FreshCommits =
    (set : Set) (entries : List Entry) → IsCompiled set → IsLegal set entries → CommitsAreFresh set entries

-- What this says in plain numbers: each read is within the item's validity at the end, and the stamps of any two reads
-- of items of a relative set differ by at most its interval.
abbrev pub AreWithin : TogetherDecl → OutsideRead → OutsideRead → Type 0
AreWithin group q r =
    IsTrue (names_item group.items q.item.0) → IsTrue (names_item group.items r.item.0)
    → q.stamp - r.stamp ≤ group.within

pub record IsConsistent (set : Set) (e : EndedJob) (reads : List OutsideRead) : Type 0 where
  pub valid :
      All (λ r. (validity : ℕ) → validity_of set.items r.item.0 ≡ Some validity → e.tick - r.stamp ≤ validity) reads
  pub within : All (λ g. All (λ q. All (λ r. AreWithin g q r) reads) reads) set.together

abbrev pub ConsistentCommits : Type 0
ConsistentCommits =
    (set : Set) (entries : List Entry) → IsCompiled set → IsLegal set entries
    → All (λ e. e.end ≡ end.Committed → IsConsistent set e (outside_reads_of entries e.job))
    (state_of set entries).ended

-- none of these jobs is one of the transaction that committed
abbrev pub NoneCommitted : ℕ → List EndedJob → Type 0
NoneCommitted tx jobs = All (λ w. w.end ≡ end.Committed → w.job.tx.0 ≢ tx) jobs

-- the stamp that a committed job gives an item, by what it read from outside
abbrev pub stamp_given : Set → List Entry → EndedJob → ℕ → ℕ
stamp_given set entries w item =
    stamp_for set.items (record { reads = outside_reads_of entries w.job; writes = [] }) w.release item

-- an outside read and the tick of its step
pub record TimedRead : Type 0 where
  pub read : OutsideRead
  pub tick : ℕ

abbrev pub timed_in : JobId → Entry → Option TimedRead
timed_in job (Step by op outcome over tick) =
    if same_job by job then option_map (λ r. record { read = r; tick = tick }) (outside_read op outcome) else None
timed_in job other = None

abbrev pub timed_reads_of : List Entry → JobId → List TimedRead
timed_reads_of entries job = filter_map (timed_in job) entries

-- the timed reads are the outside reads
abbrev pub ReadsAreTimed : Type 0
ReadsAreTimed =
    (entries : List Entry) (job : JobId) → map (λ q. q.read) (timed_reads_of entries job) ≡ outside_reads_of entries job

-- of these ended jobs, the last one of the transaction that committed gave the item the stamp that was read, and not
-- after the tick of the read
pub record IsByLast (set : Set) (entries : List Entry) (jobs : List EndedJob) (tx : ℕ) (q : TimedRead) : Type 0 where
  pub earlier : List EndedJob
  pub by : EndedJob
  pub later : List EndedJob
  pub place : jobs ≡ earlier ++ by ∷ later
  pub committed : by.end ≡ end.Committed
  pub own : by.job.tx.0 ≡ tx
  pub none_later : NoneCommitted tx later
  pub before_read : by.tick ≤ q.tick
  pub stamp : q.read.stamp ≡ stamp_given set entries by q.read.item.0

-- the stamp of a read is that of the last job of the transaction that committed, or 0 where none did
abbrev pub IsSourced : Set → List Entry → List EndedJob → ℕ → TimedRead → Type 0
IsSourced set entries jobs tx q = (NoneCommitted tx jobs × (q.read.stamp ≡ 0)) ⊎ IsByLast set entries jobs tx q

-- this of each read of a sensor or derived item by the item's writer
abbrev pub AreSourced : Set → List Entry → List EndedJob → EndedJob → Type 0
AreSourced set entries jobs e =
    All (λ q. IsTrue (is_dated set.items q.read.item.0)
    → (tx : ℕ) → IsTheWriter set q.read.item.0 tx → IsSourced set entries jobs tx q) (timed_reads_of entries e.job)

-- The stamp of what a committed job read from outside of a sensor or derived item is the one that the item's writer had
-- installed last, both at the read and at the end of the job: no job of the writer committed between that install and this
-- end.
abbrev pub ReadsAreLast : Type 0
ReadsAreLast =
    (set : Set) (entries : List Entry) (before after : List EndedJob) (e : EndedJob)
    → IsCompiled set → IsLegal set entries
    → (state_of set entries).ended ≡ before ++ e ∷ after → e.end ≡ end.Committed → AreSourced set entries before e
