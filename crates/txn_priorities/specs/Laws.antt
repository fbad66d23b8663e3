-- What the limits of responses are to admission, and that other priorities break no rule of compiling.
use Rattle.std.specs.Prelude.{ℕ, ◌<◌, ◌≤◌, length}
use Rattle.txn_set.specs.Set.{Set, IsCompiled}
use Rattle.law_times.specs.Ages.{IsAdmitted}
use Rattle.law_times.specs.Assigned.{with_prios, IsAssignment, Keeps}
use Rattle.law_times.specs.Laws.{NoneKeeps}
use Rattle.txn_priorities.specs.Limits.{limit}

-- each priority is at most the greatest one of a compiled set
abbrev pub AreInRange : Set → (prios : ℕ → ℕ) → Type 0
AreInRange set prios = (tx : ℕ) → tx < length set.txns → prios tx ≤ 1000

abbrev pub CompiledWithPrios : Type 0
CompiledWithPrios = (set : Set) (prios : ℕ → ℕ) → IsCompiled set → IsAssignment set prios → AreInRange set prios
    → IsCompiled (with_prios prios set)

abbrev pub AdmittedKeepsLimits : Type 0
AdmittedKeepsLimits = (set : Set) (prios : ℕ → ℕ) → IsCompiled (with_prios prios set) → IsAdmitted (with_prios prios set)
    → Keeps set (limit set) prios

abbrev pub NoneIsAdmitted : Type 0
NoneIsAdmitted = (set : Set) (prios : ℕ → ℕ) → NoneKeeps set (limit set) → IsCompiled (with_prios prios set)
    → ¬ IsAdmitted (with_prios prios set)
