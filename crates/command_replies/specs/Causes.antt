-- When a command may tell of a fault.
use Rattle.std.specs.Prelude.{◌≡◌, ℕ, Result, IsErrOf}
use Rattle.io_edge.specs.Causes.{Rose}
use Rattle.io_edge.specs.declared.status.Status.{Status}
use Rattle.io_edge.specs.declared.status.Status.TheVariants.{ReadFault, WriteFault}
use Rattle.command_replies.specs.declared.unanswered.Unanswered.{Unanswered}
use Rattle.command_replies.specs.declared.unanswered.Unanswered.TheVariants.{Reading}

-- ReadFault is answered only where the source's count of faults rose
abbrev pub HasReadCause : ℕ → ℕ → Status → Type 0
HasReadCause before now status = status ≡ ReadFault → Rose before now

-- WriteFault is answered only where the sink's count of faults rose
abbrev pub HasWriteCause : ℕ → ℕ → Status → Type 0
HasWriteCause before now status = status ≡ WriteFault → Rose before now

-- a reply fails for the source only where the source's count of faults rose
abbrev pub HasSourceCause : {T : Type 0} → ℕ → ℕ → Result T Unanswered → Type 0
HasSourceCause before now result = IsErrOf result Reading → Rose before now
