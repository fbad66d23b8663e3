-- A call by a handle: `closed` where it is closed and stays so, and else `call` of the core before and after.
use Rattle.std.specs.Prelude.{◌≡◌, ℕ, List, length, Option, None, Some}
use Rattle.step_journal.specs.declared.entry.Entry.{Entry}
use Rattle.board.specs.Histories.{now_of, planned_of}
use Rattle.lock_core.specs.Stands.{Stands}
use Rattle.c_core.specs.Open.{OpenSeen}
use Rattle.c_forms.specs.declared.tables.Tables.{Tables}
use Rattle.c_forms.specs.declared.refusals.Refused.{Refused}
use Rattle.c_forms.specs.declared.refusals.RefusalForm.{RefusalForm}
use Rattle.c_forms.specs.Refusals.{WhyNotOpened, WhyNotTried, form_of_refusal}

abbrev pub Called : Option OpenSeen → Option OpenSeen → Type 0 → (OpenSeen → OpenSeen → Type 0) → Type 0
Called None None closed call = closed
Called None (Some after) closed call = ⊥
Called (Some before) None closed call = ⊥
Called (Some before) (Some after) closed call = call before after

-- why none is opened, as it is told
abbrev pub ToldWhy : Tables → (room status : ℕ) → RefusalForm → Type 0
ToldWhy tables room status form = (e : Refused) × WhyNotOpened tables room e × ((status, form) ≡ form_of_refusal e)

abbrev pub ToldWhyNotTried : Tables → (room status : ℕ) → RefusalForm → Type 0
ToldWhyNotTried tables room status form = (e : Refused) × WhyNotTried tables room e × ((status, form) ≡ form_of_refusal e)

pub record IsNowOf (status tick : ℕ) (s t : OpenSeen) : Type 0 where
  pub same : t ≡ s
  pub status_is : status ≡ 0
  pub now : (history : List Entry) → Stands s.board history → tick ≡ now_of s.board.set history

pub record IsKeptOf (status count drained : ℕ) (s t : OpenSeen) : Type 0 where
  pub same : t ≡ s
  pub status_is : status ≡ 0
  pub kept_is : count ≡ length s.board.journal.kept
  pub drained_is : drained ≡ s.board.journal.first

pub record IsPlannedOf (status count : ℕ) (s t : OpenSeen) : Type 0 where
  pub same : t ≡ s
  pub status_is : status ≡ 0
  pub planned : (history : List Entry) → Stands s.board history → count ≡ planned_of s.board.set history
