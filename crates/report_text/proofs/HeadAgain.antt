-- The declarations of a set are read back, line by line.
use Rattle.std.proofs.Common.{◌≡◌, ℕ, zero, suc, ◌+◌, ◌<◌, ◌^◌, Bool, true, false, ◌||◌, List, [], ◌∷◌, ◌++◌, length, take, drop, get_or, Option, Some, None, Ok, decimal, refl, sym, ap, ◌∙◌, arith, codes, append_assoc, add-one, pos, negsuc, ℤ}
use Rattle.std.proofs.Math.Seq.{take-suc, take-length}
use Rattle.std.proofs.Math.ListN.{drop_of_length-le}
use Rattle.std.specs.Prelude.{not, ◌==◌}
use Rattle.std.specs.Fmt.{signed_decimal}
use Rattle.std.specs.List.{All, list_any}
use Rattle.std.proofs.lemmas.List.{get_or-take, length-take-le}
use Rattle.std.proofs.lemmas.Bool.{eqb-true}
use Rattle.rt_base.specs.declared.ids.ItemId.{ItemId}
use Rattle.rt_base.specs.declared.ids.TogetherDecl.{TogetherDecl}
use Rattle.rt_base.specs.declared.name.Names.{Names}
use Rattle.rt_base.specs.Names.{is_name, AreNames}
use Rattle.item_model.specs.declared.decl.ItemKind.{ItemKind}
use Rattle.item_model.specs.declared.decl.ItemKind.TheVariants.{Sensor, Derived, State}
use Rattle.item_model.specs.declared.decl.ItemDecl.{ItemDecl}
use Rattle.txn_set.specs.declared.decl.TxnDecl.{TxnDecl}
use Rattle.txn_set.specs.Set.{Set, AreItemsOf, no_txn}
use Rattle.line_fields.specs.Cuts.{field, Lacks}
use Rattle.line_fields.specs.Numbers.{IsI64}
use Rattle.journal_text.specs.Ids.{name_at, index_of}
use Rattle.line_fields.proofs.CutLaws.{cut_again, lacks_append, lacks_test}
use Rattle.line_fields.proofs.NumberLaws.{decimal_lacks}
use Rattle.journal_text.proofs.IdLaws.{index_takes, name_lacks}
use Rattle.journal_text.specs.Lines.{◌⊕◌}
use Rattle.item_model.proofs.Noting.{or_false as either_false}
use Rattle.journal_text.proofs.NextLaws.{no_digit}
use Rattle.report_text.specs.declared.found.Found.{Found}
use Rattle.report_text.specs.declared.found.Found.TheVariants as found
use Rattle.report_text.specs.declared.found.Part.{Part}
use Rattle.report_text.specs.declared.found.Part.TheVariants as part
use Rattle.report_text.specs.Head.{found_of, Decls, nothing, Told, more, mode, told, told_by, line_of, head, head_of, version_of}
use Rattle.report_text.proofs.HeadLaws.{rest_of, after, next_line, first_lines}
use Rattle.report_text.specs.Rows.{numbered}
use Rattle.report_text.specs.Texts.{list_text, kind_text, item_line, quiet_text, txn_line, together_line, is_second, first_line, mode_line, declared_text}
use Rattle.report_text.proofs.RowLaws.{no_item, step}
use Rattle.report_text.specs.Laws.{IsKind, IsItemDecl, IsTxnDecl, HasLines, head_again, HeadIsReadBack}
use Rattle.report_text.proofs.ListAgain.{list_again, list_lacks}
use Rattle.report_text.proofs.LineAgain.{item_rest, item_found, txn_rest, txn_found, set_rest, set_found, mode_word, mode_found}

-- ---- one line

one_line : (second : Bool) (d : Decls) (n : ℕ) (f rest : List ℕ) → Lacks 10 f
    → rest_of second d n (f ++ 10 ∷ rest) ≡ after second d n (line_of second d f) rest
one_line second d n f rest lacks = next_line second d n (f ++ 10 ∷ rest) f rest (cut_again 10 f rest lacks)

one_more : (second : Bool) (d e : Decls) (n : ℕ) (f rest : List ℕ) → Lacks 10 f → line_of second d f ≡ more e
    → rest_of second d n (f ++ 10 ∷ rest) ≡ rest_of second e (n + 1) rest
one_more second d e n f rest lacks is =
    one_line second d n f rest lacks ∙ ap (λ (t : Told). after second d n t rest) is

told_is : (second : Bool) (d : Decls) (f : List ℕ) (x : Found) → found_of d.names d.txn_names second f ≡ Some x
    → line_of second d f ≡ told d x
unfolding line_of
told_is second d f x is = ap (told_by d) is

-- ---- tests

neither : (a b : Bool) → (not a || b) ≡ false → (a ≡ true) × (b ≡ false)
neither true b e = (refl, e)
neither false b e = absurd cc

not_not : (a : Bool) → not a ≡ false → a ≡ true
not_not true e = refl
not_not false e = absurd cc

-- ---- names that were not declared before

not_before : (names : List (List ℕ)) (i : ℕ) → AreNames names → i < length names → (o : Option ℕ)
    → index_of (take i names) (name_at names i) ≡ o → o ≡ None
not_before names i good lt None e = refl
not_before names i good lt (Some k) e =
    let t = index_takes (take i names) (name_at names i) k e in
    let less : k < i = omega (arith, t.0, length-take-le i names (omega arith)) in
    let same : name_at names k ≡ name_at names i = sym (get_or-take i names k [] less) ∙ t.1 in
    let is : k ≡ i = good.once k i (omega arith) lt same in
    absurd (omega arith)

new_name : (names : List (List ℕ)) (i : ℕ) → AreNames names → i < length names
    → index_of (take i names) (name_at names i) ≡ None
new_name names i good lt = not_before names i good lt (index_of (take i names) (name_at names i)) refl

-- ---- lines in a row

rows_again : {A : Type 0} (second : Bool) (f body : ℕ → A → List ℕ) (d : ℕ → Decls) (base : ℕ) (xs : List A) (none : A) (tail : List ℕ)
    → ((i : ℕ) (x : A) (rest : List ℕ) → f i x ++ rest ≡ body i x ++ 10 ∷ rest)
    → ((i : ℕ) → i < length xs → Lacks 10 (body i (get_or xs i none)))
    → ((i : ℕ) → i < length xs → line_of second (d i) (body i (get_or xs i none)) ≡ more (d (i + 1)))
    → (k i : ℕ) → i + k ≡ length xs
    → rest_of second (d i) (base + i) (numbered f i (drop i xs) ++ tail) ≡ rest_of second (d (length xs)) (base + length xs) tail
rows_again second f body d base xs none tail line lacks told zero i e =
    let is : i ≡ length xs = omega (arith, e) in
    let left : drop i xs ≡ [] = drop_of_length-le xs (omega (arith, is)) in
    ap (λ l. rest_of second (d i) (base + i) (numbered f i l ++ tail)) left
    ∙ ap (λ (j : ℕ). rest_of second (d j) (base + j) tail) is
rows_again second f body d base xs none tail line lacks told (suc k) i e =
    let lt : i < length xs = omega (arith, e) in
    let x = get_or xs i none in
    let others : List ℕ = numbered f (i + 1) (drop (i + 1) xs) in
    let next : (base + i) + 1 ≡ base + (i + 1) = omega arith in
    ap (λ (l : List ℕ). rest_of second (d i) (base + i) (l ++ tail)) (step f xs i none lt)
    ∙ ap (rest_of second (d i) (base + i)) (append_assoc (f i x) others tail ∙ line i x (others ++ tail))
    ∙ one_more second (d i) (d (i + 1)) (base + i) (body i x) (others ++ tail) (lacks i lt) (told i lt)
    ∙ ap (λ (n : ℕ). rest_of second (d (i + 1)) n (others ++ tail)) next
    ∙ rows_again second f body d base xs none tail line lacks told k (i + 1) (omega (arith, e))

-- ---- bytes that a line lacks

pub field_lacks : (w : List ℕ) → Lacks 10 w → Lacks 10 (field w)
field_lacks w a = lacks_append 10 (codes " ") w (lacks_test 10 (codes " ") refl) a

pub word_lacks : (w rest : List ℕ) → Lacks 10 w → Lacks 10 rest → Lacks 10 (field w ++ rest)
word_lacks w rest a b = lacks_append 10 (field w) rest (field_lacks w a) b

pub number_lacks : (n : ℕ) (rest : List ℕ) → n < 2 ^ 64 → Lacks 10 rest → Lacks 10 (field (decimal n) ++ rest)
number_lacks n rest lt b = word_lacks (decimal n) rest (decimal_lacks 10 n no_digit lt) b

pub signed_lacks : (z : ℤ) → IsI64 z → Lacks 10 (signed_decimal z)
signed_lacks (pos n) lt = decimal_lacks 10 n no_digit (omega arith)
signed_lacks (negsuc n) lt =
    lacks_append 10 (codes "-") (decimal (suc n)) (lacks_test 10 (codes "-") refl) (decimal_lacks 10 (suc n) no_digit (omega arith))

kind_lacks : (kind : ItemKind) → IsKind kind → Lacks 10 (kind_text kind)
kind_lacks (Sensor v) fits =
    word_lacks (codes "sensor") (field (decimal v)) (lacks_test 10 (codes "sensor") refl)
    (field_lacks (decimal v) (decimal_lacks 10 v no_digit fits))
kind_lacks (Derived v) fits =
    word_lacks (codes "derived") (field (decimal v)) (lacks_test 10 (codes "derived") refl)
    (field_lacks (decimal v) (decimal_lacks 10 v no_digit fits))
kind_lacks State fits = lacks_test 10 (codes " state -") refl

quiet_lacks : (second : Bool) (quiet : ℕ) → quiet < 2 ^ 64 → Lacks 10 (quiet_text second quiet)
quiet_lacks false quiet lt = λ i less. absurd (omega arith)
quiet_lacks true quiet lt =
    word_lacks (codes "quiet") (field (decimal quiet)) (lacks_test 10 (codes "quiet") refl)
    (field_lacks (decimal quiet) (decimal_lacks 10 quiet no_digit lt))

-- ---- items

abbrev pub item_body : Names → ℕ → ItemDecl → List ℕ
item_body names i decl = codes "item" ++ item_rest (name_at names.items i) decl.kind (signed_decimal decl.initial)

pub item_ends : (names : Names) (i : ℕ) (decl : ItemDecl) (rest : List ℕ)
    → item_line names i decl ++ rest ≡ item_body names i decl ++ 10 ∷ rest
item_ends names i decl rest = simp append_assoc

pub item_lacks : (names : Names) (i : ℕ) (decl : ItemDecl) → is_name (name_at names.items i) ≡ true → IsItemDecl decl
    → Lacks 10 (item_body names i decl)
item_lacks names i decl plain fits =
    lacks_append 10 (codes "item") (item_rest (name_at names.items i) decl.kind (signed_decimal decl.initial))
    (lacks_test 10 (codes "item") refl)
    (word_lacks (name_at names.items i) (kind_text decl.kind ⊕ field (signed_decimal decl.initial))
    (name_lacks 10 refl (name_at names.items i) plain)
    (lacks_append 10 (kind_text decl.kind) (field (signed_decimal decl.initial)) (kind_lacks decl.kind fits.kind)
    (field_lacks (signed_decimal decl.initial) (signed_lacks decl.initial fits.initial))))

abbrev with_items : Names → Set → ℕ → Decls
with_items names set i =
    record { part = part.Items; names = take i names.items; items = take i set.items; txn_names = []; txns = []; sets = [] }

item_told : (names : Names) (set : Set) (second : Bool) (i : ℕ) → HasLines names set → i < length set.items
    → line_of second (with_items names set i) (item_body names i (get_or set.items i no_item)) ≡ more (with_items names set (i + 1))
item_told names set second i h lt =
    let named : i < length names.items = omega (arith, h.one_each.items) in
    let name = name_at names.items i in
    let decl = get_or set.items i no_item in
    let here : more (record { part = part.Items; names = take i names.items ++ name ∷ []; items = take i set.items ++ decl ∷ []; txn_names = []; txns = []; sets = [] }) ≡ more (with_items names set (suc i)) =
    rw (take-suc names.items i [] named, take-suc set.items i no_item lt) refl in
    told_is second (with_items names set i) (item_body names i decl) (found.Item name decl)
    (item_found (take i names.items) [] second name decl (new_name names.items i h.item_names named) (h.item_names.plain i named) (h.items i no_item lt))
    ∙ here
    ∙ ap (λ (m : ℕ). more (with_items names set m)) (sym (add-one i))

items_again : (names : Names) (set : Set) (second : Bool) (tail : List ℕ) → HasLines names set
    → rest_of second nothing 2 (numbered (item_line names) 0 set.items ++ tail)
    ≡ rest_of second (with_items names set (length set.items)) (2 + length set.items) tail
items_again names set second tail h =
    rows_again second (item_line names) (item_body names) (with_items names set) 2 set.items no_item tail (item_ends names)
    (λ i lt. item_lacks names i (get_or set.items i no_item) (h.item_names.plain i (omega (arith, h.one_each.items))) (h.items i no_item lt))
    (λ i lt. item_told names set second i h lt) (length set.items) 0 (omega arith)

-- ---- transactions

abbrev part_at : ℕ → Part
part_at zero = part.Items
part_at (suc j) = part.Txns

abbrev with_txns : Names → Set → ℕ → Decls
with_txns names set j =
    record { part = part_at j; names = names.items; items = set.items; txn_names = take j names.txns; txns = take j set.txns; sets = [] }

all_items : (names : Names) (set : Set) → HasLines names set
    → with_items names set (length set.items) ≡ with_txns names set 0
all_items names set h =
    let all : take (length set.items) names.items ≡ names.items =
    ap (λ (n : ℕ). take n names.items) (sym h.one_each.items) ∙ take-length names.items in
    rw (all, take-length set.items) refl

abbrev pub txn_body : Bool → Names → ℕ → TxnDecl → List ℕ
txn_body second names tx decl =
    codes "txn" ++ txn_rest second (name_at names.txns tx) decl (list_text names decl.reads) (list_text names decl.writes)

regrouped : (t n a b c d e r rs w ws q rest : List ℕ)
    → ((t ++ (n ++ (a ++ (b ++ (c ++ (d ++ e)))))) ++ (r ++ (rs ++ (w ++ (ws ++ (q ++ 10 ∷ [])))))) ++ rest
    ≡ (t ++ (n ++ (a ++ (b ++ (c ++ (d ++ (e ++ (r ++ (rs ++ (w ++ (ws ++ q))))))))))) ++ 10 ∷ rest
regrouped t n a b c d e r rs w ws q rest = simp append_assoc

pub txn_ends : (second : Bool) (names : Names) (tx : ℕ) (decl : TxnDecl) (rest : List ℕ)
    → txn_line second names tx decl ++ rest ≡ txn_body second names tx decl ++ 10 ∷ rest
txn_ends second names tx decl rest =
    regrouped (codes "txn") (field (name_at names.txns tx)) (field (decimal decl.prio)) (field (decimal decl.period))
    (field (decimal decl.offset)) (field (decimal decl.deadline)) (field (decimal decl.steps)) (field (codes "reads"))
    (field (list_text names decl.reads)) (field (codes "writes")) (field (list_text names decl.writes))
    (quiet_text second decl.quiet) rest

pub named_list_lacks : (names : Names) (set : Set) (ids : List ItemId) → HasLines names set → AreItemsOf set ids
    → Lacks 10 (list_text names ids)
named_list_lacks names set ids h are =
    list_lacks names 10 ids h.item_names (λ k d lt. omega (arith, are.in_range k d lt, h.one_each.items)) refl
    (lacks_test 10 (codes ",") refl) (lacks_test 10 (codes "-") refl)

pub txn_lacks : (second : Bool) (names : Names) (set : Set) (tx : ℕ) (decl : TxnDecl) → HasLines names set
    → is_name (name_at names.txns tx) ≡ true → IsTxnDecl decl → AreItemsOf set decl.reads → AreItemsOf set decl.writes
    → Lacks 10 (txn_body second names tx decl)
txn_lacks second names set tx decl h plain fits reads writes =
    let last : List ℕ = quiet_text second decl.quiet in
    let writing : List ℕ = field (codes "writes") ⊕ field (list_text names decl.writes) ⊕ last in
    let reading : List ℕ = field (codes "reads") ⊕ field (list_text names decl.reads) ⊕ writing in
    let steps : List ℕ = field (decimal decl.steps) ⊕ reading in
    let deadline : List ℕ = field (decimal decl.deadline) ⊕ steps in
    let offset : List ℕ = field (decimal decl.offset) ⊕ deadline in
    let period : List ℕ = field (decimal decl.period) ⊕ offset in
    let prio : List ℕ = field (decimal decl.prio) ⊕ period in
    let after_writes : Lacks 10 writing =
    word_lacks (codes "writes") (field (list_text names decl.writes) ⊕ last) (lacks_test 10 (codes "writes") refl)
    (word_lacks (list_text names decl.writes) last (named_list_lacks names set decl.writes h writes) (quiet_lacks second decl.quiet fits.quiet)) in
    let after_reads : Lacks 10 reading =
    word_lacks (codes "reads") (field (list_text names decl.reads) ⊕ writing) (lacks_test 10 (codes "reads") refl)
    (word_lacks (list_text names decl.reads) writing (named_list_lacks names set decl.reads h reads) after_writes) in
    lacks_append 10 (codes "txn") (field (name_at names.txns tx) ⊕ prio) (lacks_test 10 (codes "txn") refl)
    (word_lacks (name_at names.txns tx) prio (name_lacks 10 refl (name_at names.txns tx) plain)
    (number_lacks decl.prio period (omega (arith, fits.prio))
    (number_lacks decl.period offset fits.period
    (number_lacks decl.offset deadline fits.offset
    (number_lacks decl.deadline steps fits.deadline
    (number_lacks decl.steps reading fits.steps after_reads))))))

txn_is_told : (names : Names) (set : Set) (j : ℕ) (name : List ℕ) (decl : TxnDecl)
    → told (with_txns names set j) (found.Txn name decl)
    ≡ more (record { part = part.Txns; names = names.items; items = set.items; txn_names = take j names.txns ++ name ∷ []; txns = take j set.txns ++ decl ∷ []; sets = [] })
txn_is_told names set zero name decl = refl
txn_is_told names set (suc j) name decl = refl

no_quiet : (txns : List TxnDecl) → list_any (λ t. not (t.quiet == 0)) txns ≡ false → (k : ℕ) (d : TxnDecl)
    → k < length txns
    → (get_or txns k d).quiet ≡ 0
no_quiet [] none k d lt = absurd (omega arith)
no_quiet (t ∷ ts) none zero d lt =
    eqb-true t.quiet 0 (neither (t.quiet == 0) (list_any (λ u. not (u.quiet == 0)) ts) none).0
no_quiet (t ∷ ts) none (suc k) d lt =
    no_quiet ts (neither (t.quiet == 0) (list_any (λ u. not (u.quiet == 0)) ts) none).1 k d (omega arith)

quiet_of_first : (set : Set) (second : Bool) → is_second set ≡ second → (k : ℕ) (d : TxnDecl) → k < length set.txns
    → second ≡ false
    → (get_or set.txns k d).quiet ≡ 0
quiet_of_first set second is k d lt first =
    no_quiet set.txns (either_false (list_any (λ t. not (t.quiet == 0)) set.txns) (not (length set.together == 0)) (is ∙ first)).0 k d lt

abbrev known : (names : Names) (set : Set) (ids : List ItemId) → HasLines names set → AreItemsOf set ids
    → All (λ i. i.0 < length names.items) ids
known names set ids h are = λ k d lt. omega (arith, are.in_range k d lt, h.one_each.items)

list_lacks_blank : (names : Names) (set : Set) (ids : List ItemId) → HasLines names set → AreItemsOf set ids
    → Lacks 32 (list_text names ids)
list_lacks_blank names set ids h are =
    list_lacks names 32 ids h.item_names (known names set ids h are) refl (lacks_test 32 (codes ",") refl) (lacks_test 32 (codes "-") refl)

txn_told : (names : Names) (set : Set) (second : Bool) (j : ℕ) → HasLines names set → is_second set ≡ second
    → j < length set.txns
    → line_of second (with_txns names set j) (txn_body second names j (get_or set.txns j no_txn)) ≡ more (with_txns names set (j + 1))
txn_told names set second j h is lt =
    let named : j < length names.txns = omega (arith, h.one_each.txns) in
    let name = name_at names.txns j in
    let decl = get_or set.txns j no_txn in
    let reads = h.reads j no_txn lt in
    let writes = h.writes j no_txn lt in
    let here : more (record { part = part.Txns; names = names.items; items = set.items; txn_names = take j names.txns ++ name ∷ []; txns = take j set.txns ++ decl ∷ []; sets = [] }) ≡ more (with_txns names set (suc j)) =
    rw (take-suc names.txns j [] named, take-suc set.txns j no_txn lt) refl in
    told_is second (with_txns names set j) (txn_body second names j decl) (found.Txn name decl)
    (txn_found names.items (take j names.txns) second name decl (list_text names decl.reads) (list_text names decl.writes)
    (new_name names.txns j h.txn_names named) (h.txn_names.plain j named) (h.txns j no_txn lt)
    (quiet_of_first set second is j no_txn lt)
    (list_again names decl.reads h.item_names (known names set decl.reads h reads) reads.rising)
    (list_again names decl.writes h.item_names (known names set decl.writes h writes) writes.rising)
    (list_lacks_blank names set decl.reads h reads) (list_lacks_blank names set decl.writes h writes))
    ∙ txn_is_told names set j name decl
    ∙ here
    ∙ ap (λ (m : ℕ). more (with_txns names set m)) (sym (add-one j))

txns_again : (names : Names) (set : Set) (second : Bool) (base : ℕ) (tail : List ℕ) → HasLines names set
    → is_second set ≡ second
    → rest_of second (with_txns names set 0) (base + 0) (numbered (txn_line second names) 0 set.txns ++ tail)
    ≡ rest_of second (with_txns names set (length set.txns)) (base + length set.txns) tail
txns_again names set second base tail h is =
    rows_again second (txn_line second names) (txn_body second names) (with_txns names set) base set.txns no_txn tail
    (txn_ends second names)
    (λ j lt. txn_lacks second names set j (get_or set.txns j no_txn) h (h.txn_names.plain j (omega (arith, h.one_each.txns)))
    (h.txns j no_txn lt) (h.reads j no_txn lt) (h.writes j no_txn lt))
    (λ j lt. txn_told names set second j h is lt) (length set.txns) 0 (omega arith)

-- ---- relative sets

abbrev set_part : Part → ℕ → Part
set_part p zero = p
set_part p (suc k) = part.Sets

abbrev with_sets : Part → Names → Set → ℕ → Decls
with_sets p names set k =
    record { part = set_part p k; names = names.items; items = set.items; txn_names = names.txns; txns = set.txns; sets = take k set.together }

all_txns : (names : Names) (set : Set) → HasLines names set
    → with_txns names set (length set.txns) ≡ with_sets (part_at (length set.txns)) names set 0
all_txns names set h =
    let all : take (length set.txns) names.txns ≡ names.txns =
    ap (λ (n : ℕ). take n names.txns) (sym h.one_each.txns) ∙ take-length names.txns in
    rw (all, take-length set.txns) refl

abbrev pub set_body : Names → ℕ → TogetherDecl → List ℕ
set_body names k set = codes "together" ++ set_rest set.within (list_text names set.items)

pub set_ends : (names : Names) (k : ℕ) (set : TogetherDecl) (rest : List ℕ)
    → together_line names k set ++ rest ≡ set_body names k set ++ 10 ∷ rest
set_ends names k set rest = simp append_assoc

abbrev pub no_set : TogetherDecl
no_set = record { items = []; within = 0 }

set_told_at : (p : Part) (names : Names) (set : Set) (second : Bool) (k : ℕ) → HasLines names set → second ≡ true
    → k < length set.together
    → line_of second (with_sets p names set k) (set_body names k (get_or set.together k no_set)) ≡ more (with_sets p names set (k + 1))
set_told_at p names set false k h has lt = absurd cc
set_told_at p names set true k h has lt =
    let group = get_or set.together k no_set in
    let are = h.together k no_set lt in
    let here : more (record { part = part.Sets; names = names.items; items = set.items; txn_names = names.txns; txns = set.txns; sets = take k set.together ++ group ∷ [] }) ≡ more (with_sets p names set (suc k)) =
    rw (take-suc set.together k no_set lt) refl in
    told_is true (with_sets p names set k) (set_body names k group) (found.Set group)
    (set_found names.items names.txns group (list_text names group.items) (h.within k no_set lt)
    (list_again names group.items h.item_names (known names set group.items h are) are.rising)
    (list_lacks_blank names set group.items h are))
    ∙ here
    ∙ ap (λ (m : ℕ). more (with_sets p names set m)) (sym (add-one k))

has_sets : (set : Set) (second : Bool) (k : ℕ) → is_second set ≡ second → k < length set.together → second ≡ true
has_sets set true k is lt = refl
has_sets set false k is lt =
    let none = either_false (list_any (λ t. not (t.quiet == 0)) set.txns) (not (length set.together == 0)) is in
    let zero_long : length set.together ≡ 0 = eqb-true (length set.together) 0 (not_not (length set.together == 0) none.1) in
    absurd (omega arith)

sets_again : (p : Part) (names : Names) (set : Set) (second : Bool) (base : ℕ) (tail : List ℕ) → HasLines names set
    → is_second set ≡ second
    → rest_of second (with_sets p names set 0) (base + 0) (numbered (together_line names) 0 set.together ++ tail)
    ≡ rest_of second (with_sets p names set (length set.together)) (base + length set.together) tail
sets_again p names set second base tail h is =
    rows_again second (together_line names) (set_body names) (with_sets p names set) base set.together no_set tail
    (set_ends names)
    (λ k lt. lacks_append 10 (codes "together")
    (set_rest (get_or set.together k no_set).within (list_text names (get_or set.together k no_set).items))
    (lacks_test 10 (codes "together") refl)
    (number_lacks (get_or set.together k no_set).within (field (list_text names (get_or set.together k no_set).items))
    (h.within k no_set lt)
    (field_lacks (list_text names (get_or set.together k no_set).items)
    (named_list_lacks names set (get_or set.together k no_set).items h (h.together k no_set lt)))))
    (λ k lt. set_told_at p names set second k h (has_sets set second k is lt) lt) (length set.together) 0 (omega arith)

-- ---- the mode line and the whole

mode_told : (second admitted : Bool) (d : Decls)
    → line_of second d (codes "mode" ++ field (mode_word admitted)) ≡ mode d admitted
mode_told second admitted d =
    told_is second d (codes "mode" ++ field (mode_word admitted)) (found.Mode admitted) (mode_found d.names d.txn_names second admitted)

pub mode_lacks : (admitted : Bool) → Lacks 10 (codes "mode" ++ field (mode_word admitted))
mode_lacks true = lacks_test 10 (codes "mode admitted") refl
mode_lacks false = lacks_test 10 (codes "mode trial") refl

pub mode_ends : (admitted : Bool) (rest : List ℕ)
    → mode_line admitted ++ rest ≡ (codes "mode" ++ field (mode_word admitted)) ++ 10 ∷ rest
mode_ends true rest = refl
mode_ends false rest = refl

mode_again : (second admitted : Bool) (d : Decls) (n : ℕ) (rest : List ℕ)
    → rest_of second d n (mode_line admitted ++ rest) ≡ Ok (head d admitted n)
mode_again second admitted d n rest =
    ap (rest_of second d n) (mode_ends admitted rest)
    ∙ one_line second d n (codes "mode" ++ field (mode_word admitted)) rest (mode_lacks admitted)
    ∙ ap (λ (t : Told). after second d n t rest) (mode_told second admitted d)

abbrev pub version : Bool → List ℕ
version true = codes "rtdb report 2"
version false = codes "rtdb report 1"

first_again : (second : Bool) (rest : List ℕ) → head_of (first_line second ++ rest) ≡ rest_of second nothing 2 rest
unfolding version_of
first_again true rest =
    sym (first_lines (first_line true ++ rest) (version true) rest true
    (sym (cut_again 10 (version true) rest (lacks_test 10 (version true) refl))) refl)
first_again false rest =
    sym (first_lines (first_line false ++ rest) (version false) rest false
    (sym (cut_again 10 (version false) rest (lacks_test 10 (version false) refl))) refl)

regroup : (a b c d e r : List ℕ) → (a ++ (b ++ (c ++ (d ++ e)))) ++ r ≡ a ++ (b ++ (c ++ (d ++ (e ++ r))))
regroup a b c d e r = simp append_assoc

declared_again : (names : Names) (set : Set) (second admitted : Bool) (rest : List ℕ) → HasLines names set
    → is_second set ≡ second
    → head_of (declared_text second names set admitted ++ rest) ≡ Ok (head_again names set admitted)
declared_again names set second admitted rest h is =
    let items : List ℕ = numbered (item_line names) 0 set.items in
    let txns : List ℕ = numbered (txn_line second names) 0 set.txns in
    let sets : List ℕ = numbered (together_line names) 0 set.together in
    let closing : List ℕ = mode_line admitted ++ rest in
    let n : ℕ = length set.items in
    let m : ℕ = length set.txns in
    let g : ℕ = length set.together in
    let p : Part = part_at m in
    let all_sets : take g set.together ≡ set.together = take-length set.together in
    let before_txns : 2 + n ≡ (2 + n) + 0 = omega arith in
    let before_sets : (2 + n) + m ≡ ((2 + n) + m) + 0 = omega arith in
    let lines : ((2 + n) + m) + g ≡ 2 + (n + (m + g)) = omega arith in
    ap head_of (regroup (first_line second) items txns sets (mode_line admitted) rest)
    ∙ first_again second (items ++ (txns ++ (sets ++ closing)))
    ∙ items_again names set second (txns ++ (sets ++ closing)) h
    ∙ ap (λ (d : Decls). rest_of second d (2 + n) (txns ++ (sets ++ closing))) (all_items names set h)
    ∙ ap (λ (k : ℕ). rest_of second (with_txns names set 0) k (txns ++ (sets ++ closing))) before_txns
    ∙ txns_again names set second (2 + n) (sets ++ closing) h is
    ∙ ap (λ (d : Decls). rest_of second d ((2 + n) + m) (sets ++ closing)) (all_txns names set h)
    ∙ ap (λ (k : ℕ). rest_of second (with_sets p names set 0) k (sets ++ closing)) before_sets
    ∙ sets_again p names set second ((2 + n) + m) closing h is
    ∙ mode_again second admitted (with_sets p names set g) (((2 + n) + m) + g) rest
    ∙ ap (λ (k : ℕ). Ok (head (with_sets p names set g) admitted k)) lines
    ∙ ap (λ (l : List TogetherDecl). Ok (record { names = names; items = set.items; txns = set.txns; together = l; admitted = admitted; lines = 2 + (n + (m + g)) })) all_sets

pub head_is_read_back : HeadIsReadBack
head_is_read_back names set admitted rest h = declared_again names set (is_second set) admitted rest h refl
