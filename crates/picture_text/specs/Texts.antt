-- The text of a picture.
use Rattle.std.specs.Prelude.{ℕ, zero, suc, ◌+◌, ◌-◌, ◌*◌, ◌/◌, ◌==◌, max, min, nat_le, nat_lt, ◌&&◌, Bool, true, false, List, [], ◌∷◌, ◌++◌, length, codes, decimal, if◌then◌else◌}
use Rattle.std.specs.List.{flat_map}
use Rattle.rt_base.specs.declared.name.Names.{Names}
use Rattle.rt_base.specs.declared.ids.ItemId.{ItemId}
use Rattle.rt_base.specs.declared.ids.JobId.{JobId}
use Rattle.rt_base.specs.declared.operation.Op.{Op}
use Rattle.rt_base.specs.declared.operation.Op.TheVariants.{Read, Write, Compute, Commit, Quit}
use Rattle.rt_base.specs.declared.operation.End.{End}
use Rattle.rt_base.specs.declared.operation.End.TheVariants as end
use Rattle.txn_set.specs.declared.decl.TxnDecl.{TxnDecl}
use Rattle.txn_set.specs.Set.{Set, txn_of}
use Rattle.journal_text.specs.Ids.{name_at}
use Rattle.journal_text.specs.Lines.{◌⊕◌}
use Rattle.schedule_marks.specs.declared.part.Part.{Part}
use Rattle.schedule_marks.specs.declared.mark.Mark.{Mark}
use Rattle.schedule_marks.specs.declared.showing.Limits.{Limits}
use Rattle.schedule_marks.specs.declared.showing.Shown.{Shown}
use Rattle.schedule_marks.specs.declared.mark.Mark.TheVariants.{Pending, Lock, Ceiling, Wait, Step, Refusal, Release, Deadline, Ended}
use Rattle.schedule_marks.specs.declared.view.View.{View}
use Rattle.schedule_marks.specs.Svg.{counted, rect, line, circle, words, some_word, fitting}
use Rattle.schedule_marks.specs.Places.{view_of, letters_in, ticks_shown, width_of, number_step, x_of, middle_of, level_y, rows_top, row_y, y_of, lane_y, lanes_named, is_read_lane, lane_item, item_y}
use Rattle.picture_text.specs.Legend.{style, arrows, legend}
use Rattle.picture_text.specs.Ages.{bounds_text, ages_text, dated_text, lane_text}
use Rattle.picture_text.specs.Ages.{lane_title as age_title}

-- ---- marks

-- a field over the ticks from one up to another
abbrev pub span : View → List ℕ → ℕ → ℕ → ℕ → ℕ → List ℕ
span view class from to y height = rect class (x_of view from) y (x_of view to - x_of view from) height

abbrev pub op_class : Op → List ℕ
op_class (Read item) = codes "r"
op_class (Write item value) = codes "w"
op_class Compute = codes "c"
op_class Commit = codes "k"
op_class Quit = codes "q"

abbrev pub op_letter : Op → List ℕ
op_letter (Read item) = codes "R"
op_letter (Write item value) = codes "W"
op_letter Compute = []
op_letter Commit = codes "C"
op_letter Quit = codes "Q"

abbrev pub letter_class : Op → List ℕ
letter_class (Read item) = codes "j"
letter_class (Write item value) = codes "z"
letter_class Compute = codes "j"
letter_class Commit = codes "z"
letter_class Quit = codes "z"

-- the letter of a step, where a tick is wide enough
abbrev pub letter : ℕ → Op → ℕ → ℕ → List ℕ
letter width op x y =
    if nat_le 16 width then some_word (letter_class op) (x + width / 2) (y + 40) (op_letter op) else []

-- less than the width of a tick, where there is room, so that steps stand apart
abbrev pub step_width : ℕ → ℕ
step_width width = if nat_le width 2 then width else width - 1

abbrev pub block : ℕ → Op → ℕ → ℕ → List ℕ
block width op x y = rect (op_class op) x (y + 20) (step_width width) 24

abbrev pub step_text : ℕ → Op → ℕ → ℕ → List ℕ
step_text width op x y = block width op x y ⊕ letter width op x y

abbrev pub end_class : End → List ℕ
end_class end.Committed = codes "xk"
end_class end.Overrun = codes "xo"
end_class end.Late = codes "xl"
end_class (end.Stale item stamp) = codes "xs"
end_class (end.Apart a b) = codes "xa"
end_class end.Quit = codes "xq"

-- the letter of an end; none of a commit
abbrev pub end_letter : End → List ℕ
end_letter end.Committed = []
end_letter end.Overrun = codes "O"
end_letter end.Late = codes "L"
end_letter (end.Stale item stamp) = codes "S"
end_letter (end.Apart a b) = codes "A"
end_letter end.Quit = codes "Q"

abbrev pub disc : End → ℕ → ℕ → List ℕ
disc e x y = circle (end_class e) x (y + 52) ⊕ some_word (codes "l") x (y + 55) (end_letter e)

-- a disc, or a short field where ticks are narrow
abbrev pub ended_text : ℕ → ℕ → ℕ → End → List ℕ
ended_text width x y e = if nat_le 8 width then disc e x y else rect (end_class e) x (y + 46) (min width 2) 12

abbrev pub lock_class : Bool → List ℕ
lock_class true = codes "lw"
lock_class false = codes "lr"

-- the item's name, if the bar has room for it
abbrev pub lock_text : View → List ℕ → Bool → ℕ → ℕ → ℕ → List ℕ
lock_text view item is_write from to y =
    span view (lock_class is_write) from to y 12
    ⊕ fitting (codes "s") (x_of view from + 3) (y + 10) (x_of view to - x_of view from) item []

abbrev pub ceiling_text : ℕ → ℕ → ℕ → ℕ → List ℕ
ceiling_text width x y base = rect (codes "a") x y width (base - y) ⊕ line (codes "t") x y (x + width) y

-- where the next wait on a job of a transaction begins, if this mark is one, and that is before the given end
abbrev pub cut_by : ℕ → ℕ → ℕ → Mark → ℕ
cut_by tx from to (Wait job by start stop) = if by.tx.0 == tx && nat_lt from start then min start to else to
cut_by tx from to (Pending job start stop) = to
cut_by tx from to (Lock job item is_write ceiling start stop) = to
cut_by tx from to (Ceiling tick ceiling) = to
cut_by tx from to (Step job op tick) = to
cut_by tx from to (Refusal job op by tick) = to
cut_by tx from to (Release job tick) = to
cut_by tx from to (Deadline job tick) = to
cut_by tx from to (Ended job e tick) = to

-- the label of a wait ends where that of the next one begins
abbrev pub label_end : ℕ → ℕ → ℕ → List Mark → ℕ
label_end tx from to [] = to
label_end tx from to (m ∷ ms) = label_end tx from (cut_by tx from to m) ms

-- on the row of the job that waits, and on that of the other
abbrev pub wait_bars : View → ℕ → ℕ → ℕ → ℕ → List ℕ
wait_bars view from to y other = span view (codes "o") from to (y + 21) 22 ⊕ span view (codes "i") from to (other + 60) 12

-- whose priority the other has, if there is room
abbrev pub wait_label : View → List ℕ → ℕ → ℕ → ℕ → List ℕ
wait_label view waiting from to y =
    fitting (codes "s") (x_of view from + 3) (y + 70) (x_of view to - x_of view from) (codes "as ") waiting

abbrev pub wait_text : View → List ℕ → ℕ → ℕ → ℕ → ℕ → ℕ → List ℕ
wait_text view waiting from to until y other =
    wait_bars view from to y other ⊕ wait_label view waiting from until other

-- from the step that is refused, and to that of the job that is waited on
abbrev pub refusal_text : ℕ → ℕ → ℕ → List ℕ
refusal_text x y other =
    line (codes "vs") x (y + 32) x (y + 44) ⊕ line (codes "v") x (other + 12) x (other + 27)

-- an arrow up, and the job's serial, if there is room for it before the deadline
abbrev pub release_text : View → ℕ → ℕ → ℕ → ℕ → List ℕ
release_text view deadline x y serial =
    line (codes "u") x (y + 20) x (y + 4)
    ⊕ fitting (codes "f") (x + 6) (y + 14) (width_of view * min deadline 1000 - 6) (codes "#") (decimal serial)

-- an arrow down
abbrev pub deadline_text : ℕ → ℕ → List ℕ
deadline_text x y = line (codes "d") x (y + 4) x (y + 20)

abbrev pub mark_text : Names → Set → View → List Mark → Mark → List ℕ
mark_text names set view marks (Pending job from to) = span view (codes "p") from to (y_of set job.tx.0 + 20) 24
mark_text names set view marks (Lock job item is_write ceiling from to) =
    lock_text view (name_at names.items item.0) is_write from to (lane_y set job.tx.0 item.0 is_write)
mark_text names set view marks (Ceiling tick ceiling) =
    ceiling_text (width_of view) (x_of view tick) (level_y set ceiling) (level_y set 0)
mark_text names set view marks (Wait job by from to) =
    wait_text view (name_at names.txns job.tx.0) from to (label_end by.tx.0 from to marks) (y_of set job.tx.0) (y_of set by.tx.0)
mark_text names set view marks (Step job op tick) = step_text (width_of view) op (x_of view tick) (y_of set job.tx.0)
mark_text names set view marks (Refusal job op by tick) =
    refusal_text (middle_of view tick) (y_of set job.tx.0) (y_of set by.tx.0)
mark_text names set view marks (Release job tick) =
    release_text view (txn_of set job.tx.0).deadline (x_of view tick) (y_of set job.tx.0) job.serial
mark_text names set view marks (Deadline job tick) = deadline_text (x_of view tick) (y_of set job.tx.0)
mark_text names set view marks (Ended job e tick) = ended_text (width_of view) (x_of view tick) (y_of set job.tx.0) e

abbrev pub marks_text : Names → Set → View → List Mark → List ℕ
marks_text names set view marks = flat_map (mark_text names set view marks) marks

-- what the rows between cover: the line from a refused step to the job that it waits on
abbrev pub link_text : ℕ → ℕ → ℕ → List ℕ
link_text x y other = line (codes "vb") x (y + 44) x (other + 12)

abbrev pub link_of : Set → View → Mark → List ℕ
link_of set view (Refusal job op by tick) = link_text (middle_of view tick) (y_of set job.tx.0) (y_of set by.tx.0)
link_of set view (Pending job from to) = []
link_of set view (Lock job item is_write ceiling from to) = []
link_of set view (Ceiling tick ceiling) = []
link_of set view (Wait job by from to) = []
link_of set view (Step job op tick) = []
link_of set view (Release job tick) = []
link_of set view (Deadline job tick) = []
link_of set view (Ended job e tick) = []

abbrev pub links_text : Set → View → List Mark → List ℕ
links_text set view marks = flat_map (link_of set view) marks

-- ---- the frame

abbrev pub right : View → ℕ
right view = x_of view view.part.to

-- the width and the height of the whole
abbrev pub whole_width : View → ℕ
whole_width view = max (right view + 50) 900

abbrev pub whole_height : Set → ℕ
whole_height set = item_y set (length set.items) + 24

-- the texts of the numbers below one
abbrev pub below : (ℕ → List ℕ) → ℕ → List ℕ
below f zero = []
below f (suc n) = below f n ++ f n

-- the edge of a row, the line on which its steps stand, and the level of the ceiling that its priority is
abbrev pub row_text : View → ℕ → ℕ → List ℕ
row_text view y level =
    line (codes "b") view.left y (right view) y ⊕ line (codes "h") view.left (y + 44) (right view) (y + 44)
    ⊕ line (codes "g") view.left level (right view) level

abbrev pub row_of : Set → View → ℕ → List ℕ
row_of set view tx = row_text view (y_of set tx) (level_y set (txn_of set tx).prio)

-- a number of the time line, above and below, and the line between
abbrev pub number_text : ℕ → ℕ → ℕ → ℕ → List ℕ
number_text tick x top bottom =
    line (codes "g") x 96 x (bottom - 20) ⊕ words (codes "s m") x (top - 8) [] (decimal tick)
    ⊕ words (codes "s m") x (bottom - 8) [] (decimal tick)

abbrev pub tick_of : Part → ℕ → ℕ
tick_of part i = part.from + i * number_step (ticks_shown part)

abbrev pub number_of : Set → View → ℕ → List ℕ
number_of set view i =
    number_text (tick_of view.part i) (x_of view (tick_of view.part i)) (rows_top (length set.txns)) (whole_height set)

abbrev pub numbers_shown : Part → ℕ
numbers_shown part = ticks_shown part / number_step (ticks_shown part) + 1

abbrev pub numbers_text : Set → View → List ℕ
numbers_text set view = below (number_of set view) (numbers_shown view.part)

abbrev pub rows_text : Set → View → List ℕ
rows_text set view = below (row_of set view) (length set.txns)

-- ---- the names at the left

abbrev pub row_title : ℕ → List ℕ → ℕ → ℕ → List ℕ
row_title left name prio y =
    line (codes "b") 0 y left y ⊕ words (codes "n") 10 (y + 18) name []
    ⊕ words (codes "s") 10 (y + 34) (codes "priority ") (decimal prio)

-- what the locks of a lane are
abbrev pub lane_kind : Bool → List ℕ
lane_kind true = codes "r "
lane_kind false = codes "w "

abbrev pub lane_title : Names → TxnDecl → ℕ → ℕ → ℕ → List ℕ
lane_title names txn right y lane =
    words (codes "s e") right (y + 84 + 14 * lane) (lane_kind (is_read_lane txn lane)) (name_at names.items (lane_item txn lane).0)

abbrev pub shared_title : TxnDecl → ℕ → ℕ → List ℕ
shared_title txn right y =
    if nat_le (length txn.reads + length txn.writes) 64 then [] else words (codes "s e") right (y + 966) (codes "others") []

abbrev pub lane_titles : Names → TxnDecl → ℕ → ℕ → List ℕ
lane_titles names txn right y = below (lane_title names txn right y) (lanes_named txn) ⊕ shared_title txn right y

abbrev pub title_of : Names → Set → ℕ → ℕ → List ℕ
title_of names set left tx =
    row_title left (name_at names.txns tx) (txn_of set tx).prio (y_of set tx)
    ⊕ words (codes "s e") (left - 10) (level_y set (txn_of set tx).prio + 4) (name_at names.txns tx) []
    ⊕ lane_titles names (txn_of set tx) (left - 10) (y_of set tx)

abbrev pub caption : Set → List ℕ
caption set = words (codes "n") 10 (level_y set 0 + 4) (codes "ceiling") []

abbrev pub row_titles : Names → Set → ℕ → List ℕ
row_titles names set left = below (title_of names set left) (length set.txns)

abbrev pub titles_text : Names → Set → ℕ → List ℕ → List ℕ
titles_text names set left ages =
    caption set ⊕ row_titles names set left ⊕ dated_text set (age_title names set left ages) (length set.items)

-- ---- the whole

abbrev pub head : ℕ → ℕ → List ℕ
head width height =
    counted (codes "<svg xmlns='http://www.w3.org/2000/svg' role='img' aria-labelledby='about more' width='") width
    ⊕ counted (codes "' height='") height ⊕ counted (codes "' viewBox='0 0 ") width ⊕ counted (codes " ") height ⊕ codes "'>\n"

-- what a screen reader says
abbrev pub about_text : ℕ → ℕ → ℕ → List ℕ
about_text from to count =
    counted (codes "<title id='about'>Schedule from tick ") from ⊕ counted (codes " to tick ") to
    ⊕ counted (codes "</title>\n<desc id='more'>A row for each of ") count
    ⊕ codes " transactions, in falling priority; time goes from left to right.</desc>\n"

abbrev pub about : Set → Part → List ℕ
about set part = about_text part.from part.to (length set.txns)

abbrev pub backdrop : ℕ → ℕ → List ℕ
backdrop width height = rect (codes "bg") 0 0 width height

-- the head, what all else is drawn on, and the legend
abbrev pub sheet : Set → Part → ℕ → ℕ → List ℕ
sheet set part width height =
    head width height ⊕ about set part ⊕ style ⊕ arrows ⊕ backdrop width height ⊕ legend

-- what stands right of the names, from behind to before
abbrev pub grid_text : Set → View → List ℕ → List ℕ
grid_text set view ages =
    numbers_text set view ⊕ rows_text set view ⊕ dated_text set (lane_text set view.left (right view) ages) (length set.items)

abbrev pub body_text : Names → Set → View → List ℕ → Shown → List ℕ
body_text names set view ages shown =
    grid_text set view ages ⊕ links_text set view shown.marks ⊕ bounds_text set view shown.bounds
    ⊕ marks_text names set view shown.marks ⊕ ages_text set view shown.spans shown.reads

abbrev pub picture_of : Names → Set → View → List ℕ → Shown → List ℕ
picture_of names set view ages shown =
    sheet set view.part (whole_width view) (whole_height set) ⊕ body_text names set view ages shown
    ⊕ titles_text names set view.left ages ⊕ codes "</svg>\n"

-- the picture of what is shown of a part of a history, with the age bounds of its items
abbrev pub text_of : Names → Set → Part → Limits → Shown → List ℕ
text_of names set part limits shown = picture_of names set (view_of names part) limits.ages shown
