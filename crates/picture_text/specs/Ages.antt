-- The text of the lanes of items with a validity, and of the bounds of jobs.
use Rattle.std.specs.Prelude.{ℕ, zero, suc, ◌+◌, ◌-◌, max, min, nat_lt, List, [], ◌∷◌, ◌++◌, codes, decimal, Option, None, Some, slice_get, if◌then◌else◌}
use Rattle.std.specs.List.{flat_map}
use Rattle.rt_base.specs.declared.name.Names.{Names}
use Rattle.item_model.specs.Kinds.{is_dated}
use Rattle.txn_set.specs.Set.{Set}
use Rattle.journal_text.specs.Ids.{name_at}
use Rattle.journal_text.specs.Lines.{◌⊕◌}
use Rattle.schedule_marks.specs.declared.lanes.AgeSpan.{AgeSpan}
use Rattle.schedule_marks.specs.declared.lanes.AgeRead.{AgeRead}
use Rattle.schedule_marks.specs.declared.lanes.Bound.{Bound}
use Rattle.schedule_marks.specs.declared.view.View.{View}
use Rattle.schedule_marks.specs.Svg.{rect, line, words, fitting}
use Rattle.schedule_marks.specs.Places.{x_of, y_of, validity_in, item_y, age_y, top_tick}

-- ---- bounds

-- half a bracket, behind which the job does not end
abbrev pub bound_text : ℕ → ℕ → List ℕ
bound_text x y = line (codes "rb") x (y + 45) x (y + 59) ⊕ line (codes "rb") (x - 5) (y + 58) x (y + 58)

unfoldable pub bound_of : Set → View → Bound → List ℕ
bound_of set view b = bound_text (x_of view b.tick) (y_of set b.job.tx.0)

abbrev pub bounds_text : Set → View → List Bound → List ℕ
bounds_text set view bounds = flat_map (bound_of set view) bounds

-- ---- ages

-- the line of a value's age from one tick to another
abbrev pub age_line : Set → View → ℕ → ℕ → ℕ → ℕ → List ℕ
age_line set view item stamp from to =
    line (codes "ag") (x_of view from) (age_y set item (from - stamp)) (x_of view to) (age_y set item (to - stamp))

-- where it rises, and where it is drawn no higher
abbrev pub age_lines : Set → View → ℕ → ℕ → ℕ → ℕ → ℕ → List ℕ
age_lines set view item stamp from top to =
    age_line set view item stamp from top ⊕ (if nat_lt top to then age_line set view item stamp top to else [])

abbrev pub age_between : Set → View → ℕ → ℕ → ℕ → ℕ → List ℕ
age_between set view item stamp from to =
    age_lines set view item stamp from (top_tick (validity_in set item) stamp from to) to

-- what of a value's time is in the part
unfoldable pub age_text : Set → View → AgeSpan → List ℕ
age_text set view s = age_between set view s.item.0 s.stamp (max s.from view.part.from) (min s.to view.part.to)

-- a square on the line, at the instant of the commit
abbrev pub square : ℕ → ℕ → List ℕ
square x y = rect (codes "ar") (x - 2) (y - 2) 5 5

unfoldable pub read_text : Set → View → AgeRead → List ℕ
read_text set view r = square (x_of view r.tick) (age_y set r.item.0 (r.tick - r.stamp))

abbrev pub ages_text : Set → View → List AgeSpan → List AgeRead → List ℕ
ages_text set view spans reads = flat_map (age_text set view) spans ⊕ flat_map (read_text set view) reads

-- ---- the frame of the lanes

-- the text of an item, if it is a sensor or derived one
abbrev pub if_dated : Set → (ℕ → List ℕ) → ℕ → List ℕ
if_dated set f item = if is_dated set.items item then f item else []

-- these of the items below a place
abbrev pub dated_text : Set → (ℕ → List ℕ) → ℕ → List ℕ
dated_text set f zero = []
dated_text set f (suc n) = dated_text set f n ++ if_dated set f n

abbrev pub bound_rule : Set → ℕ → ℕ → ℕ → Option ℕ → List ℕ
bound_rule set left right item None = []
bound_rule set left right item (Some bound) = line (codes "ab") left (age_y set item bound) right (age_y set item bound)

-- the edge and the foot of a lane, its validity, and its age bound, if there is one
abbrev pub lane_text : Set → ℕ → ℕ → List ℕ → ℕ → List ℕ
lane_text set left right ages item =
    line (codes "b") left (item_y set item) right (item_y set item)
    ⊕ line (codes "h") left (item_y set item + 54) right (item_y set item + 54)
    ⊕ line (codes "av") left (item_y set item + 24) right (item_y set item + 24)
    ⊕ bound_rule set left right item (slice_get ages item)

abbrev pub bound_word : ℕ → ℕ → Option ℕ → List ℕ
bound_word left y None = []
bound_word left y (Some bound) = fitting (codes "s") 10 (y + 46) (left - 10) (codes "bound ") (decimal bound)

abbrev pub lane_title : Names → Set → ℕ → List ℕ → ℕ → List ℕ
lane_title names set left ages item =
    line (codes "b") 0 (item_y set item) left (item_y set item)
    ⊕ words (codes "n") 10 (item_y set item + 16) (name_at names.items item) []
    ⊕ fitting (codes "s") 10 (item_y set item + 32) (left - 10) (codes "valid ") (decimal (validity_in set item))
    ⊕ bound_word left (item_y set item) (slice_get ages item)
