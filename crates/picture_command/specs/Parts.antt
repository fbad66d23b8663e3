-- Which part of a schedule the words ask for.
use Rattle.std.specs.Prelude.{ℕ, Bool, true, false, ◌-◌, ◌<◌, ◌^◌, max, nat_lt, nat_le, ◌&&◌, List, [], ◌∷◌, codes, Option, Some, None, if◌then◌else◌}
use Rattle.std.specs.Str.{bytes_eq}
use Rattle.step_journal.specs.declared.entry.Entry.{Entry}
use Rattle.line_fields.specs.Numbers.{unsigned_of}
use Rattle.schedule_marks.specs.declared.part.Part.{Part}
use Rattle.schedule_marks.specs.Marks.{last_instant}
use Rattle.picture_command.specs.declared.wanted.Ticks.{Ticks}
use Rattle.picture_command.specs.declared.wanted.Ticks.TheVariants.{Beginning, Between}
use Rattle.picture_command.specs.declared.wanted.Wanted.{Wanted}

-- the second tick is the later one, by at most 10,000
abbrev pub between : Option ℕ → Option ℕ → Option Ticks
between None to = None
between (Some from) None = None
between (Some from) (Some to) =
    if nat_lt from to && nat_le to (2 ^ 41) && nat_le (to - from) 10000 then Some (Between from to) else None

abbrev pub between_words : List ℕ → List ℕ → List ℕ → List ℕ → Option Ticks
between_words first from second to =
    if bytes_eq first (codes "--from") && bytes_eq second (codes "--to") then between (unsigned_of from) (unsigned_of to) else None

abbrev pub ticks_of : List (List ℕ) → Option Ticks
ticks_of [] = Some Beginning
ticks_of (first ∷ from ∷ second ∷ to ∷ []) = between_words first from second to
ticks_of words = None

abbrev pub wanted_as : Bool → Option Ticks → Option Wanted
wanted_as page None = None
wanted_as page (Some ticks) = Some (record { page = page; ticks = ticks })

-- a page, if that is the first word
abbrev pub wanted_of : List (List ℕ) → Option Wanted
wanted_of [] = wanted_as false (ticks_of [])
wanted_of (first ∷ words) =
    if bytes_eq first (codes "--page") then wanted_as true (ticks_of words) else wanted_as false (ticks_of (first ∷ words))

abbrev pub part_of : Ticks → List Entry → Part
part_of Beginning entries = record { from = 0; to = max (last_instant 200 entries) 1 }
part_of (Between from to) entries = record { from = from; to = to }

abbrev pub AreEarly : Ticks → Type 0
AreEarly Beginning = Unit {0}
AreEarly (Between from to) = from < 2 ^ 63

abbrev pub IsEarly : Wanted → Type 0
IsEarly wanted = AreEarly wanted.ticks
