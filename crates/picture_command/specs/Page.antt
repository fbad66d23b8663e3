-- A page: the tables, and the picture under names that stay.
use Rattle.std.specs.Prelude.{ℕ, ◌+◌, ◌-◌, List, codes}
use Rattle.rt_base.specs.declared.name.Names.{Names}
use Rattle.item_model.specs.declared.stored.Stored.{Stored}
use Rattle.txn_set.specs.Set.{Set}
use Rattle.job_rows.specs.declared.row.JobRow.{JobRow}
use Rattle.journal_text.specs.Lines.{◌⊕◌}
use Rattle.schedule_marks.specs.declared.part.Part.{Part}
use Rattle.schedule_marks.specs.declared.showing.Limits.{Limits}
use Rattle.schedule_marks.specs.declared.showing.Shown.{Shown}
use Rattle.schedule_marks.specs.declared.view.View.{View}
use Rattle.schedule_marks.specs.Svg.{counted, rect}
use Rattle.schedule_marks.specs.Places.{view_of}
use Rattle.picture_text.specs.Legend.{style, arrows, legend}
use Rattle.picture_text.specs.Texts.{right, whole_height, about, body_text, titles_text}
use Rattle.picture_command.specs.Tables.{txn_table, item_table}

-- ---- the head

-- nothing is loaded from elsewhere, and no script runs
abbrev pub safe_head : List ℕ
safe_head =
    codes "<!DOCTYPE html>\n<html lang='en'>\n<head>\n<meta charset='utf-8'>\n"
    ⊕ codes "<meta http-equiv='Content-Security-Policy' content='default-src &#39;none&#39;; style-src &#39;unsafe-inline&#39;'>\n"
    ⊕ codes "<meta name='viewport' content='width=device-width'>\n"

abbrev pub sheet_style : List ℕ
sheet_style =
    codes "<style>:root{color-scheme:light dark}body{margin:16px;font:14px sans-serif;color:#111;background:#fff}"
    ⊕ codes "table{border-collapse:collapse;margin:0 0 20px}caption{text-align:left;font-weight:bold;padding:4px 0}"
    ⊕ codes "th,td{padding:3px 12px;text-align:right;border-bottom:1px solid #ccc;font-variant-numeric:tabular-nums}"
    ⊕ codes "th:first-child,td:first-child{text-align:left}svg{display:block;flex:none}"
    ⊕ codes ".view{display:flex;overflow-x:auto;border:1px solid #ccc;margin:0 0 20px}.names{position:sticky;left:0}"
    ⊕ codes "@media(prefers-color-scheme:dark){body{color:#ddd;background:#16181d}th,td,.view{border-color:#444}}</style>\n"

abbrev pub page_title : Part → List ℕ
page_title part =
    counted (codes "<title>Schedule from tick ") part.from ⊕ counted (codes " to tick ") part.to ⊕ codes "</title>\n"

abbrev pub page_head : Part → List ℕ
page_head part = safe_head ⊕ page_title part ⊕ sheet_style ⊕ codes "</head>\n<body>\n"

-- ---- the picture

-- where the picture is cut from the names, and from the legend
abbrev pub cut : ℕ → ℕ
cut left = left - 8

abbrev pub lower : ℕ
lower = 88

-- a picture's beginning: what it is, and which part of the whole it shows
abbrev pub opening : List ℕ → ℕ → ℕ → ℕ → ℕ → List ℕ
opening what x y width height =
    codes "<svg xmlns='http://www.w3.org/2000/svg' role='img' " ⊕ what ⊕ counted (codes " width='") width
    ⊕ counted (codes "' height='") height ⊕ counted (codes "' viewBox='") x ⊕ counted (codes " ") y
    ⊕ counted (codes " ") width ⊕ counted (codes " ") height ⊕ codes "'>\n"

abbrev pub closing : List ℕ
closing = codes "</svg>\n"

abbrev pub legend_part : List ℕ
legend_part =
    opening (codes "aria-label='legend'") 0 0 900 lower ⊕ style ⊕ arrows ⊕ rect (codes "bg") 0 0 900 lower ⊕ legend ⊕ closing

abbrev pub names_part : Names → Set → ℕ → List ℕ → List ℕ
names_part names set left ages =
    opening (codes "class='names' aria-label='names'") 0 lower (cut left) (whole_height set - lower)
    ⊕ rect (codes "bg") 0 lower (cut left) (whole_height set - lower) ⊕ titles_text names set left ages ⊕ closing

-- how wide the rest is
abbrev pub rest_width : View → ℕ
rest_width view = right view + 50 - cut view.left

abbrev pub body_part : Names → Set → View → List ℕ → Shown → List ℕ
body_part names set view ages shown =
    opening (codes "aria-labelledby='about more'") (cut view.left) lower (rest_width view) (whole_height set - lower)
    ⊕ about set view.part ⊕ rect (codes "bg") (cut view.left) lower (rest_width view) (whole_height set - lower)
    ⊕ body_text names set view ages shown ⊕ closing

-- the legend, and the picture, which scrolls under its names
abbrev pub figure : Names → Set → View → List ℕ → Shown → List ℕ
figure names set view ages shown =
    legend_part ⊕ codes "<div class='view' tabindex='0'>\n" ⊕ names_part names set view.left ages
    ⊕ body_part names set view ages shown ⊕ codes "</div>\n"

-- ---- the whole

abbrev pub page_of : Names → Set → View → Limits → List JobRow → List Stored → Shown → List ℕ
page_of names set view limits rows items shown =
    page_head view.part ⊕ txn_table names set limits.responses rows ⊕ figure names set view limits.ages shown
    ⊕ item_table names set limits.ages items ⊕ codes "</body>\n</html>\n"

-- The page of a part of a history: what the jobs of each transaction came to in the whole run beside their bounds, the picture of
-- the part, and the last items.
abbrev pub page_text : Names → Set → Part → Limits → List JobRow → List Stored → Shown → List ℕ
page_text names set part limits rows items shown = page_of names set (view_of names part) limits rows items shown
