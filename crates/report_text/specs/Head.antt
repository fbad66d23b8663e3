-- The declarations of a report.
use Rattle.std.specs.Prelude.{ℕ, ℤ, ◌+◌, ◌≡◌, Bool, true, false, List, [], ◌∷◌, ◌++◌, codes, Option, Some, None, Result, Ok, Err, option_map, is_some, nat_le, if◌then◌else◌}
use Rattle.std.specs.Str.{bytes_eq}
use Rattle.rt_base.specs.declared.ids.ItemId.{ItemId}
use Rattle.item_model.specs.declared.decl.ItemKind.TheVariants as kind
use Rattle.item_model.specs.declared.decl.ItemDecl.{ItemDecl}
use Rattle.txn_set.specs.declared.decl.TxnDecl.{TxnDecl}
use Rattle.rt_base.specs.declared.ids.TogetherDecl.{TogetherDecl}
use Rattle.rt_base.specs.Names.{name_of}
use Rattle.line_fields.specs.Cuts.{◌>>=◌, word_of, field_of, next, word_is, done_of}
use Rattle.line_fields.specs.Numbers.{unsigned_of, short_of, signed_of}
use Rattle.journal_text.specs.Ids.{index_of}
use Rattle.report_text.specs.Pieces.{all_pieces, pieces}
use Rattle.report_text.specs.declared.found.Numbers.{Numbers}
use Rattle.report_text.specs.declared.found.Found.{Found}
use Rattle.report_text.specs.declared.found.Found.TheVariants as found
use Rattle.report_text.specs.declared.found.Part.{Part}
use Rattle.report_text.specs.declared.found.Part.TheVariants as part
use Rattle.report_text.specs.declared.read.Line.{Line}
use Rattle.report_text.specs.declared.read.Line.TheVariants.{Bad, More, Mode}
use Rattle.report_text.specs.declared.read.HeadError.{HeadError}
use Rattle.report_text.specs.declared.read.HeadError.TheVariants.{BadLine, Unfinished, OutOfMemory}
use Rattle.report_text.specs.declared.read.Head.{Head}

-- a name that is not declared yet
unfoldable pub fresh_of : List (List ℕ) → List ℕ → Option (List ℕ)
fresh_of names w = if is_some (index_of names w) then None else name_of w

-- ---- `item NAME KIND VALIDITY VALUE`, after the word

unfoldable pub timed_of : List ℕ → Option ((ℕ × ℤ) × List ℕ)
timed_of bs = do
  validity ← next unsigned_of bs
  value ← next signed_of validity.1
  Some ((validity.0, value.0), value.1)

unfoldable pub state_of : List ℕ → Option (ℤ × List ℕ)
state_of bs = do
  dash ← next (word_is (codes "-")) bs
  next signed_of dash.1

unfoldable pub decl_of : List ℕ → List ℕ → Option (ItemDecl × List ℕ)
decl_of w bs =
    if bytes_eq w (codes "sensor") then option_map (λ p. (record { kind = kind.Sensor p.0.0; initial = p.0.1 }, p.1)) (timed_of bs) else (
    if bytes_eq w (codes "derived") then option_map (λ p. (record { kind = kind.Derived p.0.0; initial = p.0.1 }, p.1)) (timed_of bs) else (
    if bytes_eq w (codes "state") then option_map (λ p. (record { kind = kind.State; initial = p.0 }, p.1)) (state_of bs) else None))

unfoldable pub item_of : List (List ℕ) → List ℕ → Option Found
item_of items bs = do
  name ← next (fresh_of items) bs
  w ← field_of name.1
  decl ← decl_of w.0 w.1
  over ← done_of decl.1
  Some (found.Item name.0 decl.0)

-- ---- ITEMLIST

-- the items of these names, each from `least` on and after the one before it
abbrev pub rising : List (List ℕ) → ℕ → List ItemId → List (List ℕ) → Option (List ItemId)
rising items least ids [] = Some ids
rising items least ids (w ∷ ws) =
    index_of items w >>= λ i. if nat_le least i then rising items (i + 1) (ids ++ record { 0 = i } ∷ []) ws else None

unfoldable pub list_of : List (List ℕ) → List ℕ → Option (List ItemId)
list_of items w = if bytes_eq w (codes "-") then Some [] else rising items 0 [] (all_pieces 44 w)

-- ---- `txn NAME PRIO PERIOD OFFSET DEADLINE STEPS reads ITEMLIST writes ITEMLIST`, and `quiet UNUM` in report 2

unfoldable pub numbers_of : List (List ℕ) → List ℕ → Option (Numbers × List ℕ)
numbers_of txns bs = do
  name ← next (fresh_of txns) bs
  prio ← next short_of name.1
  period ← next unsigned_of prio.1
  offset ← next unsigned_of period.1
  deadline ← next unsigned_of offset.1
  steps ← next unsigned_of deadline.1
  Some (record { name = name.0; prio = prio.0; period = period.0; offset = offset.0; deadline = deadline.0; steps = steps.0 }, steps.1)

unfoldable pub worded : List ℕ → List ℕ → Option (List ℕ × List ℕ)
worded word bs = do
  w ← next (word_is word) bs
  field_of w.1

unfoldable pub quiet_of : Bool → List ℕ → Option ℕ
quiet_of two bs = if two then (do
  w ← next (word_is (codes "quiet")) bs
  n ← next unsigned_of w.1
  over ← done_of n.1
  Some n.0) else (done_of bs >>= λ over. Some 0)

abbrev pub decl : Numbers → ℕ → List ItemId → List ItemId → TxnDecl
decl n quiet reads writes =
    record { prio = n.prio; period = n.period; offset = n.offset; deadline = n.deadline; steps = n.steps; quiet = quiet; reads = reads; writes = writes }

-- a transaction with these numbers and reads, from what stands after them
unfoldable pub written : List (List ℕ) → Bool → Numbers → List ItemId → List ℕ → Option Found
written items two numbers reads bs = do
  w ← worded (codes "writes") bs
  writes ← list_of items w.0
  quiet ← quiet_of two w.1
  Some (found.Txn numbers.name (decl numbers quiet reads writes))

unfoldable pub txn_of : List (List ℕ) → List (List ℕ) → Bool → List ℕ → Option Found
txn_of items txns two bs = do
  numbers ← numbers_of txns bs
  r ← worded (codes "reads") numbers.1
  reads ← list_of items r.0
  w ← worded (codes "writes") r.1
  writes ← list_of items w.0
  quiet ← quiet_of two w.1
  Some (found.Txn numbers.0.name (decl numbers.0 quiet reads writes))

-- ---- `together WITHIN ITEMLIST`, in report 2 alone

unfoldable pub set_of : List (List ℕ) → Bool → List ℕ → Option Found
set_of items two bs = if two then (do
  within ← next unsigned_of bs
  w ← field_of within.1
  list ← list_of items w.0
  over ← done_of w.1
  Some (found.Set (record { items = list; within = within.0 }))) else None

-- ---- `mode admitted` or `mode trial`

unfoldable pub mode_of : List ℕ → Option Bool
mode_of w =
    if bytes_eq w (codes "admitted") then Some true else (if bytes_eq w (codes "trial") then Some false else None)

unfoldable pub mode_line_of : List ℕ → Option Found
mode_line_of bs = do
  mode ← next mode_of bs
  over ← done_of mode.1
  Some (found.Mode mode.0)

unfoldable pub found_after : List (List ℕ) → List (List ℕ) → Bool → List ℕ → List ℕ → Option Found
found_after items txns two w bs =
    if bytes_eq w (codes "item") then item_of items bs else (
    if bytes_eq w (codes "txn") then txn_of items txns two bs else (
    if bytes_eq w (codes "together") then set_of items two bs else (
    if bytes_eq w (codes "mode") then mode_line_of bs else None)))

-- what a line declares after these names
unfoldable pub found_of : List (List ℕ) → List (List ℕ) → Bool → List ℕ → Option Found
found_of items txns two line = found_after items txns two (word_of line).0 (word_of line).1

-- ---- the lines in their order

-- what is declared so far, and in which part
pub record Decls : Type 0 where
  pub part : Part
  pub names : List (List ℕ)
  pub items : List ItemDecl
  pub txn_names : List (List ℕ)
  pub txns : List TxnDecl
  pub sets : List TogetherDecl

abbrev pub nothing : Decls
nothing = record { part = part.Items; names = []; items = []; txn_names = []; txns = []; sets = [] }

pub data Told : Type 0 where
  bad : Told
  more : Decls → Told
  mode : Decls → Bool → Told

-- a name that is declared has no place yet
abbrev pub IsNew : Decls → Found → Type 0
IsNew d (found.Item name decl) = index_of d.names name ≡ None
IsNew d (found.Txn name decl) = index_of d.txn_names name ≡ None
IsNew d (found.Set set) = Unit {0}
IsNew d (found.Mode admitted) = Unit {0}

abbrev pub told : Decls → Found → Told
told d (found.Item name decl) =
    elim (d.part) [ part.Items ↦ more (record d { names = d.names ++ name ∷ []; items = d.items ++ decl ∷ [] }) | part.Txns ↦ bad | part.Sets ↦ bad ]
told d (found.Txn name decl) =
    elim (d.part) [ part.Items ↦ more (record d { part = part.Txns; txn_names = d.txn_names ++ name ∷ []; txns = d.txns ++ decl ∷ [] }) | part.Txns ↦ more (record d { txn_names = d.txn_names ++ name ∷ []; txns = d.txns ++ decl ∷ [] }) | part.Sets ↦ bad ]
told d (found.Set set) = more (record d { part = part.Sets; sets = d.sets ++ set ∷ [] })
told d (found.Mode admitted) = mode d admitted

abbrev pub told_by : Decls → Option Found → Told
told_by d None = bad
told_by d (Some f) = told d f

-- what the code says of a line, and the declarations as they are then
abbrev pub told_as : Line → Decls → Told
told_as Bad d = bad
told_as More d = more d
told_as (Mode admitted) d = mode d admitted

-- after this line
unfoldable pub line_of : Bool → Decls → List ℕ → Told
line_of two d line = told_by d (found_of d.names d.txn_names two line)

abbrev pub ended : ℕ → List ℕ → Result Head HeadError
ended n [] = Err Unfinished
ended n (b ∷ bs) = Err (BadLine n)

abbrev pub head : Decls → Bool → ℕ → Head
head d admitted lines =
    record { names = record { items = d.names; txns = d.txn_names }; items = d.items; txns = d.txns; together = d.sets; admitted = admitted; lines = lines }

-- the head of these declarations, where the mode line and its number are found
abbrev pub head_with : Decls → Result (Bool × ℕ) HeadError → Result Head HeadError
head_with d (Ok (admitted, n)) = Ok (head d admitted n)
head_with d (Err e) = Err e

-- the head from line n on
abbrev pub lines_of : Bool → Decls → ℕ → List (List ℕ) → List ℕ → Result Head HeadError
lines_of two d n [] last = ended n last
lines_of two d n (line ∷ lines) last =
    elim (line_of two d line) [ bad ↦ Err (BadLine n) | more e ↦ lines_of two e (n + 1) lines last | mode e admitted ↦ Ok (head e admitted n) ]

unfoldable pub version_of : List ℕ → Option Bool
version_of line =
    if bytes_eq line (codes "rtdb report 1") then Some false else (if bytes_eq line (codes "rtdb report 2") then Some true else None)

-- after the first line
abbrev pub after_version : Option Bool → List (List ℕ) → List ℕ → Result Head HeadError
after_version None lines last = Err (BadLine 1)
after_version (Some two) lines last = lines_of two nothing 2 lines last

abbrev pub first_of : List (List ℕ) → List ℕ → Result Head HeadError
first_of [] last = ended 1 last
first_of (line ∷ lines) last = after_version (version_of line) lines last

-- the head of a report
unfoldable pub head_of : List ℕ → Result Head HeadError
head_of bytes = first_of (pieces 10 bytes).0 (pieces 10 bytes).1

-- the answer, want of memory aside
abbrev pub Gives : Result Head HeadError → Result Head HeadError → Type 0
Gives (Ok head) want = Ok head ≡ want
Gives (Err (BadLine n)) want = Err (BadLine n) ≡ want
Gives (Err Unfinished) want = Err Unfinished ≡ want
Gives (Err OutOfMemory) want = Unit {0}
