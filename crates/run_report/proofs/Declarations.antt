-- The numbers of a document that is read are those of their types.
use Rattle.std.proofs.Common.{◌≡◌, ℕ, ℤ, ◌+◌, ◌<◌, ◌^◌, Bool, true, false, List, [], ◌∷◌, drop, Option, Some, None, Result, Ok, Err, decimal, refl, ap, subst, codes, option_map}
use Rattle.std.specs.Fmt.{signed_decimal}
use Rattle.rt_base.specs.declared.ids.TogetherDecl.{TogetherDecl}
use Rattle.rt_base.specs.declared.name.Names.{Names}
use Rattle.rt_base.specs.declared.operation.Op.{Op}
use Rattle.rt_base.specs.declared.operation.Op.TheVariants.{Write}
use Rattle.item_model.specs.declared.decl.ItemKind.TheVariants.{Sensor, Derived, State}
use Rattle.item_model.specs.declared.decl.ItemDecl.{ItemDecl}
use Rattle.txn_set.specs.declared.decl.TxnDecl.{TxnDecl}
use Rattle.step_journal.specs.declared.entry.Entry.{Entry}
use Rattle.step_journal.specs.declared.entry.Entry.TheVariants.{Step, Blocked}
use Rattle.line_fields.specs.Cuts.{◌>>=◌, word_of, field_of, next, word_is, done_of}
use Rattle.line_fields.specs.Numbers.{unsigned_of, signed_of, IsI64}
use Rattle.line_fields.proofs.CutLaws.{Takes, some_is, none_some, bind_some, take_step, given_takes}
use Rattle.line_fields.proofs.NumberLaws.{unsigned_takes, signed_takes}
use Rattle.journal_text.specs.Lines.{IsOp, HasLine}
use Rattle.journal_text.specs.Reading.{entry_of}
use Rattle.journal_text.proofs.PartLaws.{by_word}
use Rattle.journal_text.proofs.EntryLaws.{entry_takes}
use Rattle.report_text.specs.declared.found.Found.{Found}
use Rattle.report_text.specs.declared.found.Found.TheVariants as found
use Rattle.report_text.specs.declared.found.Part.{Part}
use Rattle.report_text.specs.declared.found.Part.TheVariants as part
use Rattle.report_text.specs.declared.read.Head.{Head}
use Rattle.report_text.specs.declared.read.HeadError.{HeadError}
use Rattle.report_text.specs.declared.read.HeadError.TheVariants.{BadLine}
use Rattle.report_text.specs.Pieces.{pieces}
use Rattle.report_text.specs.Head.{fresh_of, timed_of, state_of, decl_of, item_of, list_of, numbers_of, worded, quiet_of, txn_of, set_of, mode_line_of, found_after, found_of, Decls, nothing, Told, bad, more, mode, told, told_by, line_of, head, lines_of, version_of, after_version, first_of, head_of}
use Rattle.report_text.specs.IsHead.{set_of as declared_set}
use Rattle.report_text.specs.Laws.{IsItemDecl}
use Rattle.report_text.specs.Forms.{where_true, may_be, entry_form}
use Rattle.report_text.specs.declared.forms.Kind.{Kind}
use Rattle.report_text.specs.declared.document.Document.{Document}
use Rattle.report_text.specs.declared.document.DocumentError.{DocumentError}
use Rattle.report_text.specs.Document.{lines_of as text_lines, front, from_entries, after_parts, end_at, number_in, kind_of, document, unless, body_of, after_head, document_of}
use Rattle.report_text.proofs.GoodHead.{item_told, txn_told}
use Rattle.report_text.proofs.Counted.{err_ok, ended_none}
use Rattle.report_text.proofs.FirstLaws.{front_by}
use Rattle.run_report.specs.Types.{HasValue, EntryHasValue, HasTypes}
use Rattle.run_report.proofs.Every.{Every, every_append, all_every}

-- ---- one declaration

mapped_fits : {A : Type 0} (f : A → ItemDecl × List ℕ) (o : Option A) (d : ItemDecl × List ℕ)
    → ((a : A) → o ≡ Some a → IsItemDecl (f a).0) → option_map f o ≡ Some d → IsItemDecl d.0
mapped_fits f None d h e = absurd cc
mapped_fits f (Some a) d h e =
    subst (λ (q : ItemDecl × List ℕ). IsItemDecl q.0) (some_is (f a) d e) (h a refl)

next_fits : {A : Type 0} (Fits : A → Type 0) (print : A → List ℕ) (read : List ℕ → Option A) (bs : List ℕ) (p : A × List ℕ)
    → Takes Fits print read → next read bs ≡ Some p → Fits p.0
next_fits {A = A} Fits print read bs p law e =
    let s = take_step Fits print read law bs (λ q. Some q) p (ap (λ (o : Option (A × List ℕ)). o >>= λ q. Some q) e) in
    subst (λ (q : A × List ℕ). Fits q.0) (some_is (s.got, s.rest) p s.more) s.fits

timed_fits : (bs : List ℕ) (p : (ℕ × ℤ) × List ℕ) → timed_of bs ≡ Some p → (p.0.0 < 2 ^ 64) × IsI64 p.0.1
unfolding timed_of
timed_fits bs p e =
    let v = take_step (λ (n : ℕ). n < 2 ^ 64) decimal unsigned_of unsigned_takes bs _ p e in
    let z = take_step IsI64 signed_decimal signed_of signed_takes v.rest _ p v.more in
    subst (λ (q : (ℕ × ℤ) × List ℕ). (q.0.0 < 2 ^ 64) × IsI64 q.0.1) (some_is ((v.got, z.got), z.rest) p z.more) (v.fits, z.fits)

state_fits : (bs : List ℕ) (p : ℤ × List ℕ) → state_of bs ≡ Some p → IsI64 p.0
unfolding state_of
state_fits bs p e =
    let dash = take_step (λ (u : Unit {0}). Unit {0}) (λ u. codes "-") (word_is (codes "-")) (given_takes (codes "-")) bs _ p e in
    next_fits IsI64 signed_decimal signed_of dash.rest p signed_takes dash.more

decl_fits : (w bs : List ℕ) (d : ItemDecl × List ℕ) → decl_of w bs ≡ Some d → IsItemDecl d.0
unfolding decl_of
decl_fits w bs d e =
    let P : List ℕ → Type 0 = λ v. IsItemDecl d.0 in
    by_word w (codes "sensor") _ _ d P e
    (mapped_fits (λ p. (record { kind = Sensor p.0.0; initial = p.0.1 }, p.1)) (timed_of bs) d
    (λ p is. let t = timed_fits bs p is in record { kind = t.0; initial = t.1 })) (λ e.
    by_word w (codes "derived") _ _ d P e
    (mapped_fits (λ p. (record { kind = Derived p.0.0; initial = p.0.1 }, p.1)) (timed_of bs) d
    (λ p is. let t = timed_fits bs p is in record { kind = t.0; initial = t.1 })) (λ e.
    by_word w (codes "state") _ None d P e
    (mapped_fits (λ p. (record { kind = State; initial = p.0 }, p.1)) (state_of bs) d
    (λ p is. record { kind = tt; initial = state_fits bs p is })) (λ e. absurd (none_some d e))))

abbrev FoundFits : Found → Type 0
FoundFits (found.Item name decl) = IsItemDecl decl
FoundFits (found.Txn name decl) = Unit {0}
FoundFits (found.Set set) = set.within < 2 ^ 64
FoundFits (found.Mode admitted) = Unit {0}

item_fits : (items : List (List ℕ)) (bs : List ℕ) (f : Found) → item_of items bs ≡ Some f → FoundFits f
unfolding item_of
item_fits items bs f e =
    let name = bind_some (next (fresh_of items) bs) _ f e in
    let w = bind_some (field_of name.0.1) _ f name.2 in
    let decl = bind_some (decl_of w.0.0 w.0.1) _ f w.2 in
    let over = bind_some (done_of decl.0.1) _ f decl.2 in
    subst FoundFits (some_is _ f over.2) (decl_fits w.0.0 w.0.1 decl.0 decl.1)

-- what holds after each value that is read
through : {A : Type 0} (o : Option A) (k : A → Option Found) (f : Found) → ((a : A) → k a ≡ Some f → FoundFits f)
    → (o >>= k) ≡ Some f → FoundFits f
through None k f h e = absurd cc
through (Some a) k f h e = h a e

txn_fits : (items txns : List (List ℕ)) (two : Bool) (bs : List ℕ) (f : Found) → txn_of items txns two bs ≡ Some f → FoundFits f
unfolding txn_of
txn_fits items txns two bs f e =
    through (numbers_of txns bs) _ f (λ numbers e.
    through (worded (codes "reads") numbers.1) _ f (λ r e.
    through (list_of items r.0) _ f (λ reads e.
    through (worded (codes "writes") r.1) _ f (λ w e.
    through (list_of items w.0) _ f (λ writes e.
    through (quiet_of two w.1) _ f (λ quiet e. subst FoundFits (some_is _ f e) tt) e) e) e) e) e) e

set_fits : (items : List (List ℕ)) (two : Bool) (bs : List ℕ) (f : Found) → set_of items two bs ≡ Some f → FoundFits f
unfolding set_of
set_fits items false bs f e = absurd (none_some f e)
set_fits items true bs f e =
    let within = take_step (λ (n : ℕ). n < 2 ^ 64) decimal unsigned_of unsigned_takes bs _ f e in
    let w = bind_some (field_of within.rest) _ f within.more in
    let list = bind_some (list_of items w.0.0) _ f w.2 in
    let over = bind_some (done_of w.0.1) _ f list.2 in
    subst FoundFits (some_is _ f over.2) within.fits

mode_fits : (bs : List ℕ) (f : Found) → mode_line_of bs ≡ Some f → FoundFits f
unfolding mode_line_of
mode_fits bs f e =
    let mode = bind_some (next _ bs) _ f e in
    let over = bind_some (done_of mode.0.1) _ f mode.2 in
    subst FoundFits (some_is _ f over.2) tt

found_fits : (items txns : List (List ℕ)) (two : Bool) (line : List ℕ) (f : Found) → found_of items txns two line ≡ Some f
    → FoundFits f
unfolding found_of found_after
found_fits items txns two line f e =
    let w : List ℕ = (word_of line).0 in
    let bs : List ℕ = (word_of line).1 in
    let P : List ℕ → Type 0 = λ v. FoundFits f in
    by_word w (codes "item") (item_of items bs) _ f P e (item_fits items bs f) (λ e.
    by_word w (codes "txn") (txn_of items txns two bs) _ f P e (txn_fits items txns two bs f) (λ e.
    by_word w (codes "together") (set_of items two bs) _ f P e (set_fits items two bs f) (λ e.
    by_word w (codes "mode") (mode_line_of bs) None f P e (mode_fits bs f) (λ e. absurd (none_some f e)))))

-- ---- all declarations

abbrev pub WithinFits : TogetherDecl → Type 0
WithinFits set = set.within < 2 ^ 64

record DeclsFit (d : Decls) : Type 0 where
  pub items : Every IsItemDecl d.items
  pub sets : Every WithinFits d.sets

pub record HeadFits (head : Head) : Type 0 where
  pub items : Every IsItemDecl head.items
  pub sets : Every WithinFits head.together

abbrev ToldFits : Told → Type 0
ToldFits bad = Unit {0}
ToldFits (more d) = DeclsFit d
ToldFits (mode d admitted) = DeclsFit d

item_told_fits : (d : Decls) (name : List ℕ) (decl : ItemDecl) (p : Part) → DeclsFit d → IsItemDecl decl
    → ToldFits (item_told d name decl p)
item_told_fits d name decl part.Items h is =
    record { items = every_append IsItemDecl d.items (decl ∷ []) h.items (is, tt); sets = h.sets }
item_told_fits d name decl other h is = tt

txn_told_fits : (d : Decls) (name : List ℕ) (decl : TxnDecl) (p : Part) → DeclsFit d → ToldFits (txn_told d name decl p)
txn_told_fits d name decl part.Sets h = tt
txn_told_fits d name decl other h = record { items = h.items; sets = h.sets }

told_fits : (d : Decls) (f : Found) → DeclsFit d → FoundFits f → ToldFits (told d f)
told_fits d (found.Item name decl) h is = item_told_fits d name decl d.part h is
told_fits d (found.Txn name decl) h is = txn_told_fits d name decl d.part h
told_fits d (found.Set set) h is =
    record { items = h.items; sets = every_append WithinFits d.sets (set ∷ []) h.sets (is, tt) }
told_fits d (found.Mode admitted) h is = h

by_fits : (d : Decls) (o : Option Found) → DeclsFit d → ((f : Found) → o ≡ Some f → FoundFits f) → ToldFits (told_by d o)
by_fits d None h is = tt
by_fits d (Some f) h is = told_fits d f h (is f refl)

line_fits : (two : Bool) (d : Decls) (line : List ℕ) → DeclsFit d → ToldFits (line_of two d line)
unfolding line_of
line_fits two d line h =
    by_fits d (found_of d.names d.txn_names two line) h (λ f e. found_fits d.names d.txn_names two line f e)

abbrev answer : Bool → ℕ → Told → List (List ℕ) → List ℕ → Result Head HeadError
answer two n t lines last =
    elim t [ bad ↦ Err (BadLine n) | more e ↦ lines_of two e (n + 1) lines last | mode e admitted ↦ Ok (head e admitted n) ]

answer_fits : (two : Bool) (n : ℕ) (t : Told) (lines : List (List ℕ)) (last : List ℕ) (out : Head) → ToldFits t
    → ((d : Decls) → DeclsFit d → lines_of two d (n + 1) lines last ≡ Ok out → HeadFits out)
    → answer two n t lines last ≡ Ok out → HeadFits out
answer_fits two n bad lines last out h on e = absurd (err_ok _ out e)
answer_fits two n (more d) lines last out h on e = on d h e
answer_fits two n (mode d admitted) lines last out h on e =
    let same : head d admitted n ≡ out = cc in subst HeadFits same (record { items = h.items; sets = h.sets })

lines_fit : (two : Bool) (d : Decls) (n : ℕ) (lines : List (List ℕ)) (last : List ℕ) (out : Head) → DeclsFit d
    → lines_of two d n lines last ≡ Ok out → HeadFits out
lines_fit two d n [] last out h e = absurd (ended_none n last out e)
lines_fit two d n (line ∷ lines) last out h e =
    answer_fits two n (line_of two d line) lines last out (line_fits two d line h)
    (λ d h e. lines_fit two d (n + 1) lines last out h e) e

versioned : (v : Option Bool) (lines : List (List ℕ)) (last : List ℕ) (out : Head) → after_version v lines last ≡ Ok out
    → HeadFits out
versioned None lines last out e = absurd (err_ok _ out e)
versioned (Some two) lines last out e = lines_fit two nothing 2 lines last out (record { items = tt; sets = tt }) e

from_first : (lines : List (List ℕ)) (last : List ℕ) (out : Head) → first_of lines last ≡ Ok out → HeadFits out
from_first [] last out e = absurd (ended_none 1 last out e)
from_first (line ∷ lines) last out e = versioned (version_of line) lines last out e

pub head_fits : (bytes : List ℕ) (out : Head) → head_of bytes ≡ Ok out → HeadFits out
unfolding head_of
head_fits bytes out e = from_first (pieces 10 bytes).0 (pieces 10 bytes).1 out e

-- ---- entries

op_value : (names : Names) (op : Op) → IsOp names op → HasValue op
op_value names (Write item value) is = is.1
op_value names other is = tt

pub line_value : (names : Names) (e : Entry) → HasLine names e → EntryHasValue e
line_value names (Step job op outcome over tick) h = op_value names op h.2
line_value names (Blocked job op by ceiling tick) h = op_value names op h.2
line_value names other h = tt

entry_value : (second : Bool) (names : Names) (line : List ℕ) (e : Entry) → entry_form second names line ≡ Some e
    → EntryHasValue e
unfolding entry_form
entry_value second names line e h =
    let x = bind_some (entry_of names line) _ e h in
    let allowed = bind_some (where_true (may_be second x.0)) _ e x.2 in
    subst EntryHasValue (some_is _ e allowed.2) (line_value names x.0 (entry_takes names line x.0 x.1).0)

front_value : (rest : List Entry) (o : Option Entry) → ((e : Entry) → o ≡ Some e → EntryHasValue e)
    → Every EntryHasValue rest → Every EntryHasValue (front_by rest o)
front_value rest None h k = tt
front_value rest (Some e) h k = (h e refl, k)

front_values : (second : Bool) (names : Names) (lines : List (List ℕ))
    → Every EntryHasValue (front (entry_form second names) lines)
front_values second names [] = tt
front_values second names (line ∷ lines) =
    front_value (front (entry_form second names) lines) (entry_form second names line)
    (λ e h. entry_value second names line e h) (front_values second names lines)

-- ---- the document

record DocumentFits (d : Document) : Type 0 where
  pub head : HeadFits d.head
  pub entries : Every EntryHasValue d.entries

unless_fits : (o : Option DocumentError) (made d : Document) → DocumentFits made → unless o made ≡ Ok d → DocumentFits d
unless_fits None made d h e = let same : made ≡ d = cc in subst DocumentFits same h
unless_fits (Some x) made d h e = absurd cc

body_fits : (head : Head) (kind : Kind) (n : ℕ) (lines : List (List ℕ)) (last : List ℕ) (d : Document) → HeadFits head
    → body_of head kind n lines last ≡ Ok d → DocumentFits d
unfolding body_of
body_fits head kind n lines last d h e =
    let es : List (List ℕ) = from_entries kind head.names lines in
    let left : List (List ℕ) = after_parts kind head.names es in
    unless_fits (end_at (number_in n lines left) left last) (document head kind n lines es) d
    (record { head = h; entries = front_values kind.second head.names es }) e

after_fits : (bytes : List ℕ) (r : Result Head HeadError) (d : Document) → head_of bytes ≡ r
    → after_head (text_lines bytes).0 (text_lines bytes).1 r ≡ Ok d → DocumentFits d
after_fits bytes (Err error) d is e = absurd cc
after_fits bytes (Ok head) d is e =
    body_fits head (kind_of (text_lines bytes).0 head) (head.lines + 1) (drop head.lines (text_lines bytes).0) (text_lines bytes).1 d
    (head_fits bytes head is) e

document_fits : (bytes : List ℕ) (d : Document) → document_of bytes ≡ Ok d → DocumentFits d
unfolding document_of
document_fits bytes d e = after_fits bytes (head_of bytes) d refl e

pub document_types : (bytes : List ℕ) (d : Document) → document_of bytes ≡ Ok d → HasTypes (declared_set d.head) d.entries
document_types bytes d e =
    let h = document_fits bytes d e in
    record {
      items = all_every IsItemDecl d.head.items h.head.items;
      within = all_every WithinFits d.head.together h.head.sets;
      values = all_every EntryHasValue d.entries h.entries;
    }
