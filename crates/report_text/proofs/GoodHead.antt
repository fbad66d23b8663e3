-- What is declared at a line, and in the end.
use Rattle.std.proofs.Common.{◌≡◌, ℕ, ◌+◌, ◌<◌, Bool, true, false, cond, List, [], ◌∷◌, ◌++◌, length, Option, Some, None, Result, Ok, Err, refl, sym, ap, subst, ◌∙◌, arith, codes, length-append}
use Rattle.std.specs.Prelude.{IfOk}
use Rattle.std.specs.Str.{bytes_eq}
use Rattle.std.specs.List.{All}
use Rattle.std.proofs.lemmas.List.Elements.{All-append, All-cons, All-nil}
use Rattle.rt_base.specs.declared.ids.ItemId.{ItemId}
use Rattle.rt_base.specs.declared.ids.TogetherDecl.{TogetherDecl}
use Rattle.rt_base.specs.Names.{AreNames}
use Rattle.item_model.specs.declared.decl.ItemDecl.{ItemDecl}
use Rattle.txn_set.specs.declared.decl.TxnDecl.{TxnDecl}
use Rattle.line_fields.specs.Cuts.{◌>>=◌, word_of, field_of, next, done_of}
use Rattle.line_fields.proofs.CutLaws.{some_is, none_some, bind_some}
use Rattle.report_text.specs.declared.found.Numbers.{Numbers}
use Rattle.report_text.specs.declared.found.Found.{Found}
use Rattle.report_text.specs.declared.found.Found.TheVariants as found
use Rattle.report_text.specs.declared.found.Part.{Part}
use Rattle.report_text.specs.declared.found.Part.TheVariants as part
use Rattle.report_text.specs.declared.read.HeadError.{HeadError}
use Rattle.report_text.specs.declared.read.HeadError.TheVariants.{BadLine}
use Rattle.report_text.specs.declared.read.Head.{Head}
use Rattle.report_text.specs.Pieces.{pieces}
use Rattle.report_text.specs.IsHead.{IsHead}
use Rattle.report_text.specs.Head.{fresh_of, decl_of, item_of, list_of, numbers_of, worded, quiet_of, txn_of, set_of, mode_line_of, found_after, found_of, Decls, nothing, IsNew, Told, bad, more, mode, told, told_by, line_of, ended, head, lines_of, version_of, after_version, first_of, head_of, Gives}
use Rattle.report_text.proofs.GoodLists.{AreGood, list_good, IsFresh, fresh_good}

-- ---- what one line declares

-- a new name, and lists of declared items
abbrev pub IsGood : List (List ℕ) → List (List ℕ) → Found → Type 0
IsGood items txns (found.Item name decl) = IsFresh items name
IsGood items txns (found.Txn name decl) =
    IsFresh txns name × AreGood (length items) decl.reads × AreGood (length items) decl.writes
IsGood items txns (found.Set set) = AreGood (length items) set.items
IsGood items txns (found.Mode admitted) = Unit {0}

-- the word that a field was read from
next_from : {A B : Type 0} (read : List ℕ → Option A) (bs : List ℕ) (k : A × List ℕ → Option B) (y : B)
    → (next read bs >>= k) ≡ Some y
    → (w : List ℕ) × (a : A) × (rest : List ℕ) × (read w ≡ Some a) × (k (a, rest) ≡ Some y)
unfolding next
next_from read bs k y e =
    let n = bind_some (field_of bs >>= λ f. read f.0 >>= λ a. Some (a, f.1)) k y e in
    let f = bind_some (field_of bs) (λ f. read f.0 >>= λ a. Some (a, f.1)) n.0 n.1 in
    let a = bind_some (read f.0.0) (λ a. Some (a, f.0.1)) n.0 f.2 in
    let same : (a.0, f.0.1) ≡ n.0 = some_is _ _ a.2 in
    (f.0.0, a.0, f.0.1, a.1, ap k same ∙ n.2)

item_good : (items txns : List (List ℕ)) (bs : List ℕ) (f : Found) → item_of items bs ≡ Some f → IsGood items txns f
unfolding item_of
item_good items txns bs f e =
    let name = next_from (fresh_of items) bs _ f e in
    let w = bind_some (field_of name.2) _ f name.4 in
    let decl = bind_some (decl_of w.0.0 w.0.1) _ f w.2 in
    let over = bind_some (done_of decl.0.1) _ f decl.2 in
    subst (IsGood items txns) (some_is _ f over.2) (fresh_good items name.0 name.1 name.3)

numbers_good : (txns : List (List ℕ)) (bs : List ℕ) (p : Numbers × List ℕ) → numbers_of txns bs ≡ Some p
    → IsFresh txns p.0.name
unfolding numbers_of
numbers_good txns bs p e =
    let name = next_from (fresh_of txns) bs _ p e in
    let prio = next_from _ name.2 _ p name.4 in
    let period = next_from _ prio.2 _ p prio.4 in
    let offset = next_from _ period.2 _ p period.4 in
    let deadline = next_from _ offset.2 _ p offset.4 in
    let steps = next_from _ deadline.2 _ p deadline.4 in
    let same : name.1 ≡ p.0.name = ap (λ (q : Numbers × List ℕ). q.0.name) (some_is _ p steps.4) in
    subst (IsFresh txns) same (fresh_good txns name.0 name.1 name.3)

txn_good : (items txns : List (List ℕ)) (two : Bool) (bs : List ℕ) (f : Found) → txn_of items txns two bs ≡ Some f
    → IsGood items txns f
unfolding txn_of
txn_good items txns two bs f e =
    let numbers = bind_some (numbers_of txns bs) _ f e in
    let r = bind_some (worded (codes "reads") numbers.0.1) _ f numbers.2 in
    let reads = bind_some (list_of items r.0.0) _ f r.2 in
    let w = bind_some (worded (codes "writes") r.0.1) _ f reads.2 in
    let writes = bind_some (list_of items w.0.0) _ f w.2 in
    let quiet = bind_some (quiet_of two w.0.1) _ f writes.2 in
    subst (IsGood items txns) (some_is _ f quiet.2) (
      numbers_good txns bs numbers.0 numbers.1,
      list_good items r.0.0 reads.0 reads.1,
      list_good items w.0.0 writes.0 writes.1,
    )

set_good : (items txns : List (List ℕ)) (two : Bool) (bs : List ℕ) (f : Found) → set_of items two bs ≡ Some f
    → IsGood items txns f
unfolding set_of
set_good items txns false bs f e = absurd (none_some f e)
set_good items txns true bs f e =
    let within = next_from _ bs _ f e in
    let w = bind_some (field_of within.2) _ f within.4 in
    let list = bind_some (list_of items w.0.0) _ f w.2 in
    let over = bind_some (done_of w.0.1) _ f list.2 in
    subst (IsGood items txns) (some_is _ f over.2) (list_good items w.0.0 list.0 list.1)

mode_good : (items txns : List (List ℕ)) (bs : List ℕ) (f : Found) → mode_line_of bs ≡ Some f → IsGood items txns f
unfolding mode_line_of
mode_good items txns bs f e =
    let mode = next_from _ bs _ f e in
    let over = bind_some (done_of mode.2) _ f mode.4 in
    subst (IsGood items txns) (some_is _ f over.2) tt

-- one of two
either : {A : Type 0} (b : Bool) (x y : Option A) (a : A) (P : Type 0) → cond b x y ≡ Some a → (x ≡ Some a → P)
    → (y ≡ Some a → P) → P
either true x y a P e hit other = hit e
either false x y a P e hit other = other e

found_good : (items txns : List (List ℕ)) (two : Bool) (line : List ℕ) (f : Found)
    → found_of items txns two line ≡ Some f
    → IsGood items txns f
unfolding found_of found_after
found_good items txns two line f e =
    let w = (word_of line).0 in
    let bs = (word_of line).1 in
    let P : Type 0 = IsGood items txns f in
    either (bytes_eq w (codes "item")) _ _ f P e (item_good items txns bs f) (λ e.
    either (bytes_eq w (codes "txn")) _ _ f P e (txn_good items txns two bs f) (λ e.
    either (bytes_eq w (codes "together")) _ _ f P e (set_good items txns two bs f) (λ e.
    either (bytes_eq w (codes "mode")) _ _ f P e (mode_good items txns bs f) (λ e. absurd (none_some f e)))))

is_new : (d : Decls) (f : Found) → IsGood d.names d.txn_names f → IsNew d f
is_new d (found.Item name decl) good = good.0
is_new d (found.Txn name decl) good = good.0.0
is_new d other good = tt

pub found_new : (d : Decls) (two : Bool) (line : List ℕ) (f : Found) → Some f ≡ found_of d.names d.txn_names two line
    → IsNew d f
found_new d two line f e = is_new d f (found_good d.names d.txn_names two line f (sym e))

-- ---- what is declared so far

-- so it stands before line n
pub record IsDeclared (d : Decls) (n : ℕ) : Type 0 where
  pub item_names : AreNames d.names
  pub txn_names : AreNames d.txn_names
  pub items : length d.names ≡ length d.items
  pub txns : length d.txn_names ≡ length d.txns
  pub reads : All (λ t. AreGood (length d.items) t.reads) d.txns
  pub writes : All (λ t. AreGood (length d.items) t.writes) d.txns
  pub together : All (λ g. AreGood (length d.items) g.items) d.sets
  pub lines : n ≡ 2 + (length d.items + (length d.txns + length d.sets))

none_named : AreNames []
none_named = record { plain = λ i lt. absurd (omega arith); once = λ i j lt less same. absurd (omega arith) }

at_first : IsDeclared nothing 2
at_first = record {
  item_names = none_named;
  txn_names = none_named;
  items = refl;
  txns = refl;
  reads = All-nil (λ (t : TxnDecl). AreGood 0 t.reads);
  writes = All-nil (λ (t : TxnDecl). AreGood 0 t.writes);
  together = All-nil (λ (g : TogetherDecl). AreGood 0 g.items);
  lines = refl;
}

abbrev IsTold : ℕ → Told → Type 0
IsTold n bad = Unit {0}
IsTold n (more d) = IsDeclared d (n + 1)
IsTold n (mode d admitted) = IsDeclared d n

wider : (a b : ℕ) (ids : List ItemId) → AreGood a ids → a < b → AreGood b ids
wider a b ids h lt = record { rising = h.rising; in_range = λ k d less. omega (arith, h.in_range k d less) }

with_item : (d : Decls) (n : ℕ) (name : List ℕ) (decl : ItemDecl) → IsDeclared d n
    → IsFresh d.names name
    → IsDeclared (record d { names = d.names ++ name ∷ []; items = d.items ++ decl ∷ [] }) (n + 1)
with_item d n name decl h new =
    let count : length (d.items ++ decl ∷ []) ≡ length d.items + 1 = omega (arith, length-append d.items (decl ∷ [])) in
    let less : length d.items < length (d.items ++ decl ∷ []) = omega (arith, count) in
    record {
      item_names = new.1 h.item_names;
      txn_names = h.txn_names;
      items = omega (arith, count, length-append d.names (name ∷ []), h.items);
      txns = h.txns;
      reads = λ k x lt. wider _ _ _ (h.reads k x lt) less;
      writes = λ k x lt. wider _ _ _ (h.writes k x lt) less;
      together = λ k x lt. wider _ _ _ (h.together k x lt) less;
      lines = omega (arith, count, h.lines);
    }

with_txn : (d : Decls) (p : Part) (n : ℕ) (name : List ℕ) (decl : TxnDecl) → IsDeclared d n
    → IsGood d.names d.txn_names (found.Txn name decl)
    → IsDeclared (record d { part = p; txn_names = d.txn_names ++ name ∷ []; txns = d.txns ++ decl ∷ [] }) (n + 1)
with_txn d p n name decl h new =
    let count : length (d.txns ++ decl ∷ []) ≡ length d.txns + 1 = omega (arith, length-append d.txns (decl ∷ [])) in
    let reads : AreGood (length d.items) decl.reads = subst (λ (c : ℕ). AreGood c decl.reads) h.items new.1 in
    let writes : AreGood (length d.items) decl.writes = subst (λ (c : ℕ). AreGood c decl.writes) h.items new.2 in
    record {
      item_names = h.item_names;
      txn_names = new.0.1 h.txn_names;
      items = h.items;
      txns = omega (arith, count, length-append d.txn_names (name ∷ []), h.txns);
      reads = All-append (λ t. AreGood (length d.items) t.reads) d.txns (decl ∷ []) h.reads
          (All-cons (λ t. AreGood (length d.items) t.reads) decl [] reads (All-nil (λ t. AreGood (length d.items) t.reads)));
      writes = All-append (λ t. AreGood (length d.items) t.writes) d.txns (decl ∷ []) h.writes
          (All-cons (λ t. AreGood (length d.items) t.writes) decl [] writes (All-nil (λ t. AreGood (length d.items) t.writes)));
      together = h.together;
      lines = omega (arith, count, h.lines);
    }

with_set : (d : Decls) (n : ℕ) (set : TogetherDecl) → IsDeclared d n → AreGood (length d.names) set.items
    → IsDeclared (record d { part = part.Sets; sets = d.sets ++ set ∷ [] }) (n + 1)
with_set d n set h new =
    let count : length (d.sets ++ set ∷ []) ≡ length d.sets + 1 = omega (arith, length-append d.sets (set ∷ [])) in
    let good : AreGood (length d.items) set.items = subst (λ (c : ℕ). AreGood c set.items) h.items new in
    record {
      item_names = h.item_names;
      txn_names = h.txn_names;
      items = h.items;
      txns = h.txns;
      reads = h.reads;
      writes = h.writes;
      together = All-append (λ g. AreGood (length d.items) g.items) d.sets (set ∷ []) h.together
          (All-cons (λ g. AreGood (length d.items) g.items) set [] good (All-nil (λ g. AreGood (length d.items) g.items)));
      lines = omega (arith, count, h.lines);
    }

abbrev pub item_told : Decls → List ℕ → ItemDecl → Part → Told
item_told d name decl p =
    elim p [ part.Items ↦ more (record d { names = d.names ++ name ∷ []; items = d.items ++ decl ∷ [] }) | part.Txns ↦ bad | part.Sets ↦ bad ]

item_is_told : (d : Decls) (n : ℕ) (name : List ℕ) (decl : ItemDecl) (p : Part) → IsDeclared d n
    → IsFresh d.names name → IsTold n (item_told d name decl p)
item_is_told d n name decl part.Items h new = with_item d n name decl h new
item_is_told d n name decl other h new = tt

abbrev pub txn_told : Decls → List ℕ → TxnDecl → Part → Told
txn_told d name decl p =
    elim p [ part.Items ↦ more (record d { part = part.Txns; txn_names = d.txn_names ++ name ∷ []; txns = d.txns ++ decl ∷ [] }) | part.Txns ↦ more (record d { txn_names = d.txn_names ++ name ∷ []; txns = d.txns ++ decl ∷ [] }) | part.Sets ↦ bad ]

txn_is_told : (d : Decls) (n : ℕ) (name : List ℕ) (decl : TxnDecl) (p : Part) → IsDeclared d n
    → IsGood d.names d.txn_names (found.Txn name decl) → IsTold n (txn_told d name decl p)
txn_is_told d n name decl part.Items h new = with_txn d part.Txns n name decl h new
txn_is_told d n name decl part.Txns h new = with_txn d d.part n name decl h new
txn_is_told d n name decl part.Sets h new = tt

is_told : (d : Decls) (n : ℕ) (f : Found) → IsDeclared d n → IsGood d.names d.txn_names f → IsTold n (told d f)
is_told d n (found.Item name decl) h new = item_is_told d n name decl d.part h new
is_told d n (found.Txn name decl) h new = txn_is_told d n name decl d.part h new
is_told d n (found.Set set) h new = with_set d n set h new
is_told d n (found.Mode admitted) h new = h

by_told : (d : Decls) (n : ℕ) (o : Option Found) → IsDeclared d n
    → ((f : Found) → o ≡ Some f → IsGood d.names d.txn_names f)
    → IsTold n (told_by d o)
by_told d n None h new = tt
by_told d n (Some f) h new = is_told d n f h (new f refl)

line_told : (two : Bool) (d : Decls) (n : ℕ) (line : List ℕ) → IsDeclared d n → IsTold n (line_of two d line)
unfolding line_of
line_told two d n line h =
    by_told d n (found_of d.names d.txn_names two line) h (λ f e. found_good d.names d.txn_names two line f e)

-- ---- the head

is_head : (d : Decls) (admitted : Bool) (n : ℕ) → IsDeclared d n → IsHead (head d admitted n)
is_head d admitted n h = record {
  item_names = h.item_names;
  txn_names = h.txn_names;
  items = h.items;
  txns = h.txns;
  reads = λ k x lt. record { rising = (h.reads k x lt).rising; in_range = (h.reads k x lt).in_range };
  writes = λ k x lt. record { rising = (h.writes k x lt).rising; in_range = (h.writes k x lt).in_range };
  together = λ k x lt. record { rising = (h.together k x lt).rising; in_range = (h.together k x lt).in_range };
  lines = h.lines;
}

abbrev Answer : Type 0
Answer = Result Head HeadError

err_ok : (e : HeadError) (h : Head) → Err e ≡ Ok h → ⊥
err_ok e h same = absurd cc

ended_none : (n : ℕ) (last : List ℕ) (out : Head) → ended n last ≡ Ok out → ⊥
ended_none n [] out e = err_ok _ out e
ended_none n (b ∷ bs) out e = err_ok _ out e

abbrev answer : Bool → ℕ → Told → List (List ℕ) → List ℕ → Answer
answer two n t lines last =
    elim t [ bad ↦ Err (BadLine n) | more e ↦ lines_of two e (n + 1) lines last | mode e admitted ↦ Ok (head e admitted n) ]

told_good : (two : Bool) (n : ℕ) (t : Told) (lines : List (List ℕ)) (last : List ℕ) (out : Head) → IsTold n t
    → ((d : Decls) → IsDeclared d (n + 1) → lines_of two d (n + 1) lines last ≡ Ok out → IsHead out)
    → answer two n t lines last ≡ Ok out → IsHead out
told_good two n bad lines last out h on e = absurd (err_ok _ out e)
told_good two n (more d) lines last out h on e = on d h e
told_good two n (mode d admitted) lines last out h on e =
    let same : head d admitted n ≡ out = cc in subst IsHead same (is_head d admitted n h)

lines_good : (two : Bool) (d : Decls) (n : ℕ) (lines : List (List ℕ)) (last : List ℕ) (out : Head) → IsDeclared d n
    → lines_of two d n lines last ≡ Ok out → IsHead out
lines_good two d n [] last out h e = absurd (ended_none n last out e)
lines_good two d n (line ∷ lines) last out h e =
    told_good two n (line_of two d line) lines last out (line_told two d n line h)
    (λ d h e. lines_good two d (n + 1) lines last out h e) e

versioned : (v : Option Bool) (lines : List (List ℕ)) (last : List ℕ) (out : Head) → after_version v lines last ≡ Ok out
    → IsHead out
versioned None lines last out e = absurd (err_ok _ out e)
versioned (Some two) lines last out e = lines_good two nothing 2 lines last out at_first e

from_first : (lines : List (List ℕ)) (last : List ℕ) (out : Head) → first_of lines last ≡ Ok out → IsHead out
from_first [] last out e = absurd (ended_none 1 last out e)
from_first (line ∷ lines) last out e = versioned (version_of line) lines last out e

pub head_good : (bytes : List ℕ) (out : Head) → head_of bytes ≡ Ok out → IsHead out
unfolding head_of
head_good bytes out e = from_first (pieces 10 bytes).0 (pieces 10 bytes).1 out e

pub given_good : (r : Answer) (bytes : List ℕ) → Gives r (head_of bytes) → IfOk r IsHead
given_good (Ok out) bytes e = head_good bytes out (sym e)
given_good (Err e) bytes h = tt
