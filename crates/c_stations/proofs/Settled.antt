-- A log whose calls were all made.
use Rattle.std.proofs.Common.{◌≡◌, ◌⊎◌, inl, inr, ⊎_elim, ℕ, ◌<◌, List, [], ◌∷◌, length, reverse, refl, arith}
use Rattle.rt_base.specs.declared.name.Names.{Names}
use Rattle.txn_set.specs.Set.{Set}
use Rattle.step_journal.specs.declared.entry.Entry.{Entry}
use Rattle.c_stations.specs.Calls.{held}
use Rattle.c_stations.specs.Device.{Queued}
use Rattle.c_stations.specs.declared.call.Call.{Call}
use Rattle.c_stations.specs.Kept.{Holds}

pub settled_holds : (names : Names) (set : Set) (queue : Queued) (count : ℕ) (entries : List Entry) → Holds names set queue count entries
    → Holds names set (record { base = held queue.base (reverse queue.calls); calls = [] }) count entries
settled_holds names set queue count entries s = record {
  legal = s.legal;
  fit = s.fit;
  headed = s.headed;
  records = (s.records.0, (s.records.1.0, λ c left. ⊎_elim (λ now. now) (λ was. was) left));
}

pub none_or_some : (calls : List Call) → (calls ≡ []) ⊎ (0 < length calls)
none_or_some [] = inl refl
none_or_some (c ∷ cs) = inr (omega arith)
