-- A call by the handle of a log: `closed` where it is closed and stays so, and else `call` of the station before and after.
use Rattle.std.specs.Prelude.{◌≡◌, ◌≢◌, ◌+◌, ◌<◌, ◌≤◌, ◌++◌, ℕ, List, length, drop, Option, None, Some, slice_get, true, false}
use Rattle.step_journal.specs.declared.entry.Entry.{Entry}
use Rattle.c_forms.specs.declared.entries.EntryForm.{EntryForm}
use Rattle.c_forms.specs.declared.refusals.RefusalForm.{RefusalForm}
use Rattle.c_forms.specs.Forms.{form_of_entry}
use Rattle.c_forms.specs.Refusals.{bare_refusal, form_of_rule}
use Rattle.c_stations.specs.declared.call.Call.{Call}
use Rattle.c_stations.specs.declared.call.Call.TheVariants as call
use Rattle.c_stations.specs.Calls.{bytes_of}
use Rattle.c_stations.specs.Kept.{Station}
use Rattle.c_stations.specs.Opening.{IsOpenedBy, WhyNotOpened}
use Rattle.c_stations.specs.Appending.{Appended, WhyNotAppended}
use Rattle.c_stations.specs.Answering.{MadeOne, next_of}
use Rattle.c_stations.specs.declared.refused.LogRefused.{LogRefused}
use Rattle.c_stations.specs.declared.refused.LogRefused.TheVariants as refused
use Rattle.c_stations.specs.declared.refused.AppendRefused.{AppendRefused}
use Rattle.c_stations.specs.declared.refused.AppendRefused.TheVariants as append
use Rattle.rtdb_c.specs.declared.log.CallForm.{CallForm}

abbrev pub LogCalled : Option Station → Option Station → Type 0 → (Station → Station → Type 0) → Type 0
LogCalled None None closed call = closed
LogCalled None (Some after) closed call = ⊥
LogCalled (Some before) None closed call = ⊥
LogCalled (Some before) (Some after) closed call = call before after

-- the log of a file is opened, with the set of a text
pub record LogOpened (text : List ℕ) (room : ℕ) (file : List ℕ) (s : Station) : Type 0 where
  pub opened : IsOpenedBy text room file s.names s.queue s.count s.found
  pub made : s.made ≡ 0
  pub pending : s.pending ≡ 0
  pub room_is : s.room ≡ room
  pub goes : s.stopped ≡ false

-- how it is told why none is opened
abbrev pub told_log : LogRefused → ℕ × RefusalForm
told_log refused.TooLong = (7, bare_refusal 0 0 0 0)
told_log (refused.BadLine line) = (23, bare_refusal 0 line 0 0)
told_log refused.Unfinished = (23, bare_refusal 0 0 0 0)
told_log (refused.NotCompiled error) = form_of_rule error
told_log (refused.BadRecord number) = (24, bare_refusal 0 number 0 0)
told_log refused.Full = (25, bare_refusal 0 0 0 0)
told_log refused.OutOfMemory = (11, bare_refusal 0 0 0 0)

abbrev pub LogToldWhy : List ℕ → (room : ℕ) → List ℕ → (status : ℕ) → RefusalForm → Type 0
LogToldWhy text room file status form = (why : LogRefused) × WhyNotOpened text room file why × ((status, form) ≡ told_log why)

abbrev pub append_status : AppendRefused → ℕ
append_status append.Stopped = 20
append_status append.Unanswered = 21
append_status append.NoRoom = 7
append_status append.Unknown = 22
append_status append.OutOfMemory = 11

pub record LogAppended (entries : List Entry) (status : ℕ) (s t : Station) : Type 0 where
  pub taken : status ≡ 0 → Appended s t entries
  pub refused : status ≢ 0 → (t ≡ s) × ((why : AppendRefused) × WhyNotAppended s entries why × (status ≡ append_status why))

abbrev pub form_of_call : Call → CallForm
form_of_call call.Sync = record { kind = 1; offset = 0; count = 0 }
form_of_call (call.Write piece) = record { kind = 0; offset = piece.at; count = length (bytes_of (call.Write piece)) }

-- the call that is next, and its bytes at the head of a slice
abbrev pub TellsNext : Option Call → (status : ℕ) → CallForm → CallForm → List ℕ → List ℕ → Type 0
TellsNext None status form told before after = (status ≡ 6) × (told ≡ form) × (after ≡ before)
TellsNext (Some c) status form told before after =
    (length (bytes_of c) ≤ length before → (status ≡ 0) × (told ≡ form_of_call c) × (after ≡ bytes_of c ++ drop (length (bytes_of c)) before))
    × (length before < length (bytes_of c) → (status ≡ 7) × (told ≡ form) × (after ≡ before))

pub record LogNext (status : ℕ) (form told : CallForm) (before after : List ℕ) (s t : Station) : Type 0 where
  pub same : t ≡ s
  pub next : TellsNext (next_of s) status form told before after

-- a call was made or failed
abbrev pub Answers : Option Call → (made status : ℕ) → Station → Station → Type 0
Answers None made status s t = (status ≡ 6) × (t ≡ s)
Answers (Some c) made status s t = (status ≡ 0) × (made ≡ 1 → MadeOne s t) × (made ≢ 1 → t ≡ record s { stopped = true })

pub record LogAnswered (made status : ℕ) (s t : Station) : Type 0 where
  pub answered : Answers (next_of s) made status s t

pub record LogCounted (status count : ℕ) (s t : Station) : Type 0 where
  pub same : t ≡ s
  pub status_is : status ≡ 0
  pub kept : count + s.pending + 1 ≡ s.count

abbrev pub TellsEntry : Option Entry → (status : ℕ) → EntryForm → EntryForm → Type 0
TellsEntry None status before after = (status ≡ 6) × (after ≡ before)
TellsEntry (Some entry) status before after = (status ≡ 0) × (after ≡ form_of_entry entry)

pub record LogFound (place status : ℕ) (before after : EntryForm) (s t : Station) : Type 0 where
  pub same : t ≡ s
  pub entry : TellsEntry (slice_get s.found place) status before after
