-- How the members of all transactions are dealt out to workers.
use Rattle.std.specs.Prelude.{◌≡◌, ℕ, zero, suc, ◌+◌, ◌≤◌, ◌<◌, ◌%◌, if◌then◌else◌, nat_eq, nat_lt, List, [], ◌∷◌, ◌++◌, length, Option, None, Some, All, slice_index_or, Vec, vec_len, vec_capacity}
use Rattle.std.specs.Global.{Global}
use Rattle.rt_base.specs.declared.ids.TxId.{TxId}
use Rattle.rt_base.specs.declared.operation.Op.{Op}
use Rattle.rt_base.specs.declared.operation.Outcome.{Outcome}
use Rattle.step_journal.specs.declared.entry.Entry.{Entry}
use Rattle.turn_cell.specs.Turn.{below, total}
use Rattle.shared_plant.specs.Seats.{TableId, SeatFacts, newcomer, tx_of}
use Rattle.law_histories.specs.Sim.{Body}
use Rattle.sim_run.specs.Workloads.{body_of, ticks_of}
use Rattle.txn_threads.specs.declared.member.Member.{Member}
use Rattle.txn_threads.specs.declared.member.Worker.{Worker}
use Rattle.plant_run.specs.declared.deal.Crew.{Crew}

-- 1 where a seat is of this transaction, and else 0
abbrev pub sits_at : ℕ → Option TxId → ℕ
sits_at tx None = 0
sits_at tx (Some t) = if nat_eq tx t.0 then 1 else 0

-- how many of these members have a seat of this transaction
abbrev pub members_at : {B Y : Type 0} → ℕ → List (Member B Y) → ℕ
members_at tx members = total (λ m. sits_at tx m.seat.tx) members

-- how many of the transactions below n go to the list j, where there are so many lists
abbrev pub share : (lists j n : ℕ) → ℕ
share lists j zero = 0
share lists j (suc n) = share lists j n + (if nat_eq (n % lists) j then 1 else 0)

-- each list has places for those that are still to come to it
abbrev pub HavePlaces : {X : Type 0} → ℕ → List (Vec X Global) → Type 0
HavePlaces {X} left lists =
    (j : ℕ) (d : Vec X Global) → j < length lists
    → vec_len (slice_index_or lists j d) + share (length lists) j left ≤ vec_capacity (slice_index_or lists j d)

-- nothing dealt yet, and places for all
pub record IsReserved {B Y : Type 0} (txs : ℕ) (c : Crew B Y) : Type 0 where
  pub some : 0 < length c.lists.items
  pub places : HavePlaces txs c.lists.items
  pub empty : All (λ l. l.items ≡ []) c.lists.items
  pub none : c.workers.items ≡ []
  pub enough : vec_len c.lists ≤ vec_capacity c.workers

-- how many jobs a transaction's member is to have: those that the transaction plans itself, or else those of its releases
abbrev pub jobs_at : (ℕ → ℕ) → List (List ℕ) → ℕ → ℕ
jobs_at eager_jobs releases tx = if nat_lt 0 (eager_jobs tx) then eager_jobs tx else length (ticks_of releases tx)

-- A member before a run: at a transaction's new seat, with its body, and eager where the transaction plans jobs itself.
pub record IsDealt {B Y : Type 0} (gives : Y → ℕ → List Outcome → Op) (bodies : List Body) (releases : List (List ℕ)) (eager_jobs : ℕ → ℕ)
    (id : TableId) (past : List Entry) (first : ℕ) (m : Member B Y) : Type 0 where
  pub tx : ℕ
  pub within : tx < length releases
  pub seat : m.seat ≡ newcomer id past first (Some (tx_of tx))
  pub gives_is : gives m.task.body ≡ body_of bodies tx
  pub jobs : m.jobs ≡ jobs_at eager_jobs releases tx
  pub eager : m.eager ≡ nat_lt 0 (eager_jobs tx)

-- Of each transaction from `left` on one member is in one of the teams, and no other member is.
pub record AreDealt {B Y : Type 0} (gives : Y → ℕ → List Outcome → Op) (bodies : List Body) (releases : List (List ℕ)) (eager_jobs : ℕ → ℕ)
    (id : TableId) (past : List Entry) (first left : ℕ) (teams : List (List (Member B Y))) : Type 0 where
  pub each : All (All (IsDealt gives bodies releases eager_jobs id past first)) teams
  pub once : (tx : ℕ) → total (members_at tx) teams + below tx left ≡ below tx (length releases)
  pub count : total length teams + left ≡ length releases

abbrev pub team_of : {B Y : Type 0} → Worker B Y → List (Member B Y)
team_of w = w.members.items

-- the seats of members, and of the members of workers, the last first
abbrev pub seats_of : {B Y : Type 0} → List (Member B Y) → List SeatFacts
seats_of [] = []
seats_of (m ∷ ms) = seats_of ms ++ m.seat ∷ []

abbrev pub seats_in : {B Y : Type 0} → List (Worker B Y) → List SeatFacts
seats_in [] = []
seats_in (w ∷ ws) = seats_in ws ++ seats_of w.members.items
