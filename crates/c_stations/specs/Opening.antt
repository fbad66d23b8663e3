-- What opening a log answers.
use Rattle.std.specs.Prelude.{◌≡◌, ℕ, ◌+◌, ◌^◌, ◌<◌, ◌≤◌, ◌⊎◌, List, [], ◌∷◌, length, Ok, Err, None}
use Rattle.rt_base.specs.declared.name.Names.{Names}
use Rattle.rt_base.specs.Names.{AreNames}
use Rattle.txn_set.specs.Set.{Set}
use Rattle.txn_compiler.specs.Refusal.{compile_refusal, Refuses}
use Rattle.step_journal.specs.declared.entry.Entry.{Entry}
use Rattle.report_text.specs.Head.{head_of}
use Rattle.report_text.specs.IsHead.{set_of}
use Rattle.report_text.specs.declared.read.Head.{Head}
use Rattle.report_text.specs.declared.read.HeadError.TheVariants.{BadLine, Unfinished}
use Rattle.durable_journal.specs.Opened.{IsOpened, IsBad, IsOver}
use Rattle.c_stations.specs.Device.{Queued}
use Rattle.c_stations.specs.Kept.{Holds}
use Rattle.c_stations.specs.declared.refused.LogRefused.{LogRefused}
use Rattle.c_stations.specs.declared.refused.LogRefused.TheVariants as refused

-- a text, as the head of a report, declares this set with these names
pub record Declares (text : List ℕ) (names : Names) (set : Set) : Type 0 where
  pub head : Head
  pub read : head_of text ≡ Ok head
  pub named : names ≡ head.names
  pub set_is : set ≡ set_of head
  pub passed : compile_refusal set ≡ None
  pub item_names : AreNames names.items
  pub txn_names : AreNames names.txns

-- the entries of a file: none of an empty one
abbrev pub AreFoundIn : Names → Set → (room : ℕ) → List ℕ → List Entry → Type 0
AreFoundIn names set room [] entries = entries ≡ []
AreFoundIn names set room (b ∷ bytes) entries = IsOpened names set room (b ∷ bytes) entries

-- why the log of a file is not opened, with these names and set
abbrev pub WhyUnread : Names → Set → (room : ℕ) → List ℕ → LogRefused → Type 0
WhyUnread names set room bytes (refused.BadRecord number) = (bytes ≡ [] → ⊥) × IsBad names set room bytes number
WhyUnread names set room bytes refused.Full = (bytes ≡ [] → ⊥) × ((first : List Entry) × IsOver names set room bytes first)
WhyUnread names set room bytes refused.OutOfMemory = Unit {0}
WhyUnread names set room bytes refused.TooLong = ⊥
WhyUnread names set room bytes (refused.BadLine line) = ⊥
WhyUnread names set room bytes refused.Unfinished = ⊥
WhyUnread names set room bytes (refused.NotCompiled error) = ⊥

-- a text declares a set by which the file is refused so
pub record IsUnread (text : List ℕ) (room : ℕ) (bytes : List ℕ) (why : LogRefused) : Type 0 where
  pub names : Names
  pub set : Set
  pub declares : Declares text names set
  pub because : WhyUnread names set room bytes why

-- why the log of a file is not opened, with the set of a text
abbrev pub WhyNotOpened : List ℕ → (room : ℕ) → List ℕ → LogRefused → Type 0
WhyNotOpened text room bytes refused.TooLong = (2 ^ 32 ≤ length text) ⊎ (2 ^ 20 < room)
WhyNotOpened text room bytes (refused.BadLine line) = head_of text ≡ Err (BadLine line)
WhyNotOpened text room bytes refused.Unfinished = head_of text ≡ Err Unfinished
WhyNotOpened text room bytes (refused.NotCompiled error) = (head : Head) × (head_of text ≡ Ok head) × Refuses (compile_refusal (set_of head)) error
WhyNotOpened text room bytes (refused.BadRecord number) = IsUnread text room bytes (refused.BadRecord number)
WhyNotOpened text room bytes refused.Full = IsUnread text room bytes refused.Full
WhyNotOpened text room bytes refused.OutOfMemory = Unit {0}

-- The text declares a set; the file has these entries, or is empty, and is a log of them once the calls are made on it.
pub record IsOpenedBy (text : List ℕ) (room : ℕ) (bytes : List ℕ) (names : Names) (queue : Queued) (count : ℕ) (entries : List Entry) : Type 0 where
  pub set : Set
  pub declares : Declares text names set
  pub small : room ≤ 2 ^ 20
  pub base : queue.base ≡ bytes
  pub found : AreFoundIn names set room bytes entries
  pub holds : Holds names set queue count entries
  pub count_is : count ≡ length entries + 1
