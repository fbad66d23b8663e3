-- The input that a command takes, and the replies to one that is too long.
use Rattle.std.specs.Prelude.{◌≡◌, ℕ, ◌≤◌, Bool, true, false, List, [], length, codes, Option}
use Rattle.std.specs.Io.KnownBytes.{Consumes, IsAtEnd, Keeps}
use Rattle.io_edge.specs.declared.status.Status.TheVariants as statuses
use Rattle.command_replies.specs.Texts.{refused_line}
use Rattle.command_replies.specs.Replies.{Reply}

-- the most bytes of a scenario, and of a report
abbrev pub scenario_limit : ℕ
scenario_limit = 4194304

abbrev pub report_limit : ℕ
report_limit = 268435456

-- all there is was taken, or more than the limit
abbrev pub TakesAll : ℕ → Option (List ℕ) → Option (List ℕ) → List ℕ → Type 0
TakesAll limit old new input = Consumes old new input × (length input ≤ limit → IsAtEnd new)

abbrev pub TakesNone : Option (List ℕ) → Option (List ℕ) → List ℕ → Type 0
TakesNone old new input = Keeps old new × (input ≡ [])

-- an input above the limit is refused unread
abbrev pub InputReply : Reply → Bool → Reply
InputReply goes true status text = (status ≡ statuses.TooLong) × (text ≡ refused_line (codes "TooLong"))
InputReply goes false status text = goes status text
