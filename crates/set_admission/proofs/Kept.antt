-- Over an admitted set the laws of deadlines and of freshness hold by the bounds that are found.
use Rattle.std.proofs.Common.{ℕ, ◌<◌, List, length}
use Rattle.step_journal.specs.declared.entry.Entry.{Entry}
use Rattle.step_journal.specs.History.{IsLegal, state_of}
use Rattle.txn_set.specs.Set.{Set, IsCompiled}
use Rattle.law_times.specs.Deadlines.{IsInTime}
use Rattle.law_times.proofs.DeadlinesAll.{in_time, none_late}
use Rattle.law_times.specs.Ages.{age_bound}
use Rattle.law_times.proofs.Levels.{age_bounds}
use Rattle.law_times.proofs.WithinAge.{freshness}
use Rattle.set_admission.specs.Bounds.{response_of, age_of, MeetsAdmission}
use Rattle.set_admission.specs.Laws.{KeepsBounds}

pub keeps_bounds : (set : Set) (entries : List Entry) → IsCompiled set → MeetsAdmission set → IsLegal set entries → KeepsBounds set entries
unfolding age_of
keeps_bounds set entries ok meets legal =
    let kept : (tx : ℕ) → tx < length set.txns → IsInTime tx (response_of set tx) (state_of set entries) = λ tx inside. in_time set entries tx (response_of set tx) ok legal (meets.responses tx inside).holds in
    record {
      in_time = kept;
      none_late = none_late set entries ok legal (λ tx inside. (response_of set tx, meets.responses tx inside));
      fresh = λ steady. freshness set (response_of set) (age_bound set (response_of set)) entries ok (age_bounds set (response_of set) ok).bounds meets.ages legal kept steady;
    }
