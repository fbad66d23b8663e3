-- Each line of a declaration is read back.
use Rattle.std.proofs.Common.{◌≡◌, ℕ, ℤ, ◌<◌, ◌^◌, Bool, true, false, List, [], ◌∷◌, ◌++◌, Some, None, decimal, refl, sym, ap, ◌∙◌, codes, append-nil}
use Rattle.std.specs.Fmt.{signed_decimal}
use Rattle.rt_base.specs.declared.ids.TogetherDecl.{TogetherDecl}
use Rattle.rt_base.specs.Names.{is_name}
use Rattle.item_model.specs.declared.decl.ItemKind.{ItemKind}
use Rattle.item_model.specs.declared.decl.ItemKind.TheVariants.{Sensor, Derived, State}
use Rattle.item_model.specs.declared.decl.ItemDecl.{ItemDecl}
use Rattle.txn_set.specs.declared.decl.TxnDecl.{TxnDecl}
use Rattle.line_fields.specs.Cuts.{field_of, word_is, field, Lacks, Ends}
use Rattle.line_fields.specs.Numbers.{unsigned_of, short_of, signed_of, IsI64}
use Rattle.journal_text.specs.Ids.{index_of}
use Rattle.line_fields.proofs.CutLaws.{word_again, field_again, next_again, next_last, lacks_test, given_again}
use Rattle.line_fields.proofs.NumberLaws.{unsigned_again, unsigned_lacks, short_again, short_lacks, signed_again, signed_lacks}
use Rattle.journal_text.proofs.IdLaws.{name_lacks}
use Rattle.journal_text.specs.Lines.{◌⊕◌}
use Rattle.report_text.specs.declared.found.Numbers.{Numbers}
use Rattle.report_text.specs.declared.found.Found.TheVariants as found
use Rattle.report_text.specs.Head.{fresh_of, timed_of, state_of, decl_of, item_of, list_of, numbers_of, worded, quiet_of, txn_of, set_of, mode_of, mode_line_of, found_after, found_of}
use Rattle.report_text.specs.Texts.{kind_text, quiet_text}
use Rattle.report_text.specs.Laws.{IsKind, IsItemDecl, IsTxnDecl}

abbrev Names_ : Type 0
Names_ = List (List ℕ)

pub fresh_again : (known : Names_) (name : List ℕ) → index_of known name ≡ None → is_name name ≡ true
    → fresh_of known name ≡ Some name
unfolding fresh_of
fresh_again known name none plain = rw (none, plain) refl

-- ---- items

abbrev pub item_rest : List ℕ → ItemKind → List ℕ → List ℕ
item_rest name kind initial = field name ⊕ kind_text kind ⊕ field initial

item_again : (known : Names_) (name : List ℕ) (kind : ItemKind) (initial : ℤ) → index_of known name ≡ None
    → is_name name ≡ true → IsKind kind → IsI64 initial
    → item_of known (item_rest name kind (signed_decimal initial)) ≡ Some (found.Item name (record { kind = kind; initial = initial }))
unfolding item_of decl_of timed_of state_of
item_again known name (Sensor v) initial none plain fits is =
    rw (
      next_again (fresh_of known) name (field (codes "sensor") ⊕ field (decimal v) ⊕ field (signed_decimal initial)) name (fresh_again known name none plain) (name_lacks 32 refl name plain) refl,
      field_again (codes "sensor") (field (decimal v) ⊕ field (signed_decimal initial)) (lacks_test 32 (codes "sensor") refl) refl,
      next_again unsigned_of (decimal v) (field (signed_decimal initial)) v (unsigned_again v fits) (unsigned_lacks v fits) refl,
      next_last signed_of (signed_decimal initial) initial (signed_again initial is) (signed_lacks initial is),
    ) refl
item_again known name (Derived v) initial none plain fits is =
    rw (
      next_again (fresh_of known) name (field (codes "derived") ⊕ field (decimal v) ⊕ field (signed_decimal initial)) name (fresh_again known name none plain) (name_lacks 32 refl name plain) refl,
      field_again (codes "derived") (field (decimal v) ⊕ field (signed_decimal initial)) (lacks_test 32 (codes "derived") refl) refl,
      next_again unsigned_of (decimal v) (field (signed_decimal initial)) v (unsigned_again v fits) (unsigned_lacks v fits) refl,
      next_last signed_of (signed_decimal initial) initial (signed_again initial is) (signed_lacks initial is),
    ) refl
item_again known name State initial none plain fits is =
    rw (
      next_again (fresh_of known) name (field (codes "state") ⊕ field (codes "-") ⊕ field (signed_decimal initial)) name (fresh_again known name none plain) (name_lacks 32 refl name plain) refl,
      field_again (codes "state") (field (codes "-") ⊕ field (signed_decimal initial)) (lacks_test 32 (codes "state") refl) refl,
      next_again (word_is (codes "-")) (codes "-") (field (signed_decimal initial)) tt (given_again (codes "-")) (lacks_test 32 (codes "-") refl) refl,
      next_last signed_of (signed_decimal initial) initial (signed_again initial is) (signed_lacks initial is),
    ) refl

-- ---- transactions

abbrev pub numbers_rest : List ℕ → TxnDecl → List ℕ → List ℕ
numbers_rest name decl rest =
    field name ⊕ field (decimal decl.prio) ⊕ field (decimal decl.period) ⊕ field (decimal decl.offset)
    ⊕ field (decimal decl.deadline) ⊕ field (decimal decl.steps) ⊕ rest

abbrev numbers : List ℕ → TxnDecl → Numbers
numbers name decl =
    record { name = name; prio = decl.prio; period = decl.period; offset = decl.offset; deadline = decl.deadline; steps = decl.steps }

numbers_again : (known : Names_) (name : List ℕ) (decl : TxnDecl) (rest : List ℕ) → index_of known name ≡ None
    → is_name name ≡ true → IsTxnDecl decl → Ends rest
    → numbers_of known (numbers_rest name decl rest) ≡ Some (numbers name decl, rest)
unfolding numbers_of
numbers_again known name decl rest none plain fits ends =
    let steps : List ℕ = field (decimal decl.steps) ⊕ rest in
    let deadline : List ℕ = field (decimal decl.deadline) ⊕ steps in
    let offset : List ℕ = field (decimal decl.offset) ⊕ deadline in
    let period : List ℕ = field (decimal decl.period) ⊕ offset in
    rw (
      next_again (fresh_of known) name (field (decimal decl.prio) ⊕ period) name (fresh_again known name none plain) (name_lacks 32 refl name plain) refl,
      next_again short_of (decimal decl.prio) period decl.prio (short_again decl.prio fits.prio) (short_lacks decl.prio fits.prio) refl,
      next_again unsigned_of (decimal decl.period) offset decl.period (unsigned_again decl.period fits.period) (unsigned_lacks decl.period fits.period) refl,
      next_again unsigned_of (decimal decl.offset) deadline decl.offset (unsigned_again decl.offset fits.offset) (unsigned_lacks decl.offset fits.offset) refl,
      next_again unsigned_of (decimal decl.deadline) steps decl.deadline (unsigned_again decl.deadline fits.deadline) (unsigned_lacks decl.deadline fits.deadline) refl,
      next_again unsigned_of (decimal decl.steps) rest decl.steps (unsigned_again decl.steps fits.steps) (unsigned_lacks decl.steps fits.steps) ends,
    ) refl

worded_again : (w text rest : List ℕ) → Lacks 32 w → Lacks 32 text → Ends rest
    → worded w (field w ⊕ field text ⊕ rest) ≡ Some (text, rest)
unfolding worded
worded_again w text rest lacks none ends =
    rw (
      next_again (word_is w) w (field text ⊕ rest) tt (given_again w) lacks refl,
      field_again text rest none ends,
    ) refl

quiet_again : (second : Bool) (quiet : ℕ) → quiet < 2 ^ 64 → (second ≡ false → quiet ≡ 0)
    → quiet_of second (quiet_text second quiet) ≡ Some quiet
unfolding quiet_of
quiet_again false quiet fits zero_one = ap (λ (n : ℕ). Some n) (sym (zero_one refl))
quiet_again true quiet fits zero_one =
    rw (
      next_again (word_is (codes "quiet")) (codes "quiet") (field (decimal quiet)) tt (given_again (codes "quiet")) (lacks_test 32 (codes "quiet") refl) refl,
      next_last unsigned_of (decimal quiet) quiet (unsigned_again quiet fits) (unsigned_lacks quiet fits),
    ) refl

ends_quiet : (second : Bool) (quiet : ℕ) → Ends (quiet_text second quiet)
ends_quiet false quiet = tt
ends_quiet true quiet = refl

abbrev pub txn_rest : Bool → List ℕ → TxnDecl → List ℕ → List ℕ → List ℕ
txn_rest second name decl reads writes =
    numbers_rest name decl (field (codes "reads") ⊕ field reads ⊕ field (codes "writes") ⊕ field writes ⊕ quiet_text second decl.quiet)

txn_again : (items known : Names_) (second : Bool) (name : List ℕ) (decl : TxnDecl) (reads writes : List ℕ)
    → index_of known name ≡ None → is_name name ≡ true → IsTxnDecl decl → (second ≡ false → decl.quiet ≡ 0)
    → list_of items reads ≡ Some decl.reads → list_of items writes ≡ Some decl.writes → Lacks 32 reads → Lacks 32 writes
    → txn_of items known second (txn_rest second name decl reads writes) ≡ Some (found.Txn name decl)
unfolding txn_of
txn_again items known second name decl reads writes none plain fits quiet reads_are writes_are no_blank no_blanks =
    let last : List ℕ = quiet_text second decl.quiet in
    let writing : List ℕ = field (codes "writes") ⊕ field writes ⊕ last in
    rw (
      numbers_again known name decl (field (codes "reads") ⊕ field reads ⊕ writing) none plain fits refl,
      worded_again (codes "reads") reads writing (lacks_test 32 (codes "reads") refl) no_blank refl,
      reads_are,
      worded_again (codes "writes") writes last (lacks_test 32 (codes "writes") refl) no_blanks (ends_quiet second decl.quiet),
      writes_are,
      quiet_again second decl.quiet fits.quiet quiet,
    ) refl

-- ---- relative sets and the mode

last_field : (w : List ℕ) → Lacks 32 w → field_of (field w) ≡ Some (w, [])
last_field w lacks =
    ap (λ (r : List ℕ). field_of (32 ∷ r)) (sym (append-nil w)) ∙ field_again w [] lacks tt

abbrev pub set_rest : ℕ → List ℕ → List ℕ
set_rest within list = field (decimal within) ⊕ field list

set_again : (items : Names_) (set : TogetherDecl) (list : List ℕ) → set.within < 2 ^ 64
    → list_of items list ≡ Some set.items
    → Lacks 32 list → set_of items true (set_rest set.within list) ≡ Some (found.Set set)
unfolding set_of
set_again items set list fits is no_blank =
    rw (
      next_again unsigned_of (decimal set.within) (field list) set.within (unsigned_again set.within fits) (unsigned_lacks set.within fits) refl,
      last_field list no_blank,
      is,
    ) refl

-- ---- whole lines

formed : (items txns : Names_) (second : Bool) (w rest : List ℕ) → Lacks 32 w → Ends rest
    → found_of items txns second (w ++ rest) ≡ found_after items txns second w rest
unfolding found_of
formed items txns second w rest lacks ends =
    ap (λ (p : List ℕ × List ℕ). found_after items txns second p.0 p.1) (word_again w rest lacks ends)

pub item_found : (items txns : Names_) (second : Bool) (name : List ℕ) (decl : ItemDecl) → index_of items name ≡ None
    → is_name name ≡ true → IsItemDecl decl
    → found_of items txns second (codes "item" ++ item_rest name decl.kind (signed_decimal decl.initial)) ≡ Some (found.Item name decl)
unfolding found_after
item_found items txns second name decl none plain fits =
    formed items txns second (codes "item") (item_rest name decl.kind (signed_decimal decl.initial)) (lacks_test 32 (codes "item") refl) refl
    ∙ item_again items name decl.kind decl.initial none plain fits.kind fits.initial

pub txn_found : (items txns : Names_) (second : Bool) (name : List ℕ) (decl : TxnDecl) (reads writes : List ℕ)
    → index_of txns name ≡ None → is_name name ≡ true → IsTxnDecl decl → (second ≡ false → decl.quiet ≡ 0)
    → list_of items reads ≡ Some decl.reads → list_of items writes ≡ Some decl.writes → Lacks 32 reads → Lacks 32 writes
    → found_of items txns second (codes "txn" ++ txn_rest second name decl reads writes) ≡ Some (found.Txn name decl)
unfolding found_after
txn_found items txns second name decl reads writes none plain fits quiet reads_are writes_are no_blank no_blanks =
    formed items txns second (codes "txn") (txn_rest second name decl reads writes) (lacks_test 32 (codes "txn") refl) refl
    ∙ txn_again items txns second name decl reads writes none plain fits quiet reads_are writes_are no_blank no_blanks

pub set_found : (items txns : Names_) (set : TogetherDecl) (list : List ℕ) → set.within < 2 ^ 64
    → list_of items list ≡ Some set.items → Lacks 32 list
    → found_of items txns true (codes "together" ++ set_rest set.within list) ≡ Some (found.Set set)
unfolding found_after
set_found items txns set list fits is no_blank =
    formed items txns true (codes "together") (set_rest set.within list) (lacks_test 32 (codes "together") refl) refl
    ∙ set_again items set list fits is no_blank

abbrev pub mode_word : Bool → List ℕ
mode_word true = codes "admitted"
mode_word false = codes "trial"

mode_again : (admitted : Bool) → mode_line_of (field (mode_word admitted)) ≡ Some (found.Mode admitted)
unfolding mode_line_of mode_of
mode_again true = rw (next_last mode_of (codes "admitted") true refl (lacks_test 32 (codes "admitted") refl)) refl
mode_again false = rw (next_last mode_of (codes "trial") false refl (lacks_test 32 (codes "trial") refl)) refl

pub mode_found : (items txns : Names_) (second admitted : Bool)
    → found_of items txns second (codes "mode" ++ field (mode_word admitted)) ≡ Some (found.Mode admitted)
unfolding found_after
mode_found items txns second admitted =
    formed items txns second (codes "mode") (field (mode_word admitted)) (lacks_test 32 (codes "mode") refl) refl
    ∙ mode_again admitted
