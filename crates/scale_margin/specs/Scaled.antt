-- A set with other step counts, and so a set at a percentage of its steps.
use Rattle.std.specs.Prelude.{ℕ, ◌-◌, ◌*◌, ◌≤◌, min, map}
use Rattle.std.specs.Int.{div_ceil}
use Rattle.txn_set.specs.declared.decl.TxnDecl.{TxnDecl}
use Rattle.txn_set.specs.Set.{Set}

-- how many steps, and how many quiet ones among them, each transaction is to have
pub record StepCounts : Type 0 where
  pub steps : TxnDecl → ℕ
  pub quiet : TxnDecl → ℕ

abbrev pub counted_txn : StepCounts → TxnDecl → TxnDecl
counted_txn counts txn = record txn { steps = counts.steps txn; quiet = counts.quiet txn }

-- a set with these step counts, all else as it was
abbrev pub counted : StepCounts → Set → Set
counted counts set = record set { txns = map (counted_txn counts) set.txns }

-- a percentage of some steps, rounded up, and the quiet steps among them
abbrev pub steps_at : ℕ → ℕ → ℕ
steps_at percent steps = div_ceil (steps * percent) 100

abbrev pub quiet_at : ℕ → ℕ → ℕ → ℕ
quiet_at percent steps quiet = min quiet (steps_at percent steps - 1)

abbrev pub counts_at : ℕ → StepCounts
counts_at percent = record { steps = λ t. steps_at percent t.steps; quiet = λ t. quiet_at percent t.steps t.quiet }

abbrev pub scaled_txn : ℕ → TxnDecl → TxnDecl
scaled_txn percent txn = counted_txn (counts_at percent) txn

abbrev pub scaled : Set → ℕ → Set
scaled set percent = counted (counts_at percent) set

-- no transaction has more steps, nor more of them after its quiet steps
pub record AreFewer (few many : StepCounts) : Type 0 where
  pub steps : (txn : TxnDecl) → few.steps txn ≤ many.steps txn
  pub after_quiet : (txn : TxnDecl) → few.steps txn - few.quiet txn ≤ many.steps txn - many.quiet txn
