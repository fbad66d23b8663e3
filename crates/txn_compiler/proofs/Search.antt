-- What a search along the dependencies of an item has found.
use Rattle.std.proofs.Common.{◌≡◌, ℕ, ◌<◌, ◌≤◌, Bool, true, false, not, ◌&&◌, ◌||◌, ⊎_elim, List, [], ◌∷◌, length, get_or, set, eqb, replicate, zero, suc, refl, sym, ap, subst, ◌∙◌}
use Rattle.std.specs.List.{All, list_all}
use Rattle.std.proofs.lemmas.Bool.{cases_lt, cases_eq, both_ways, not-true, eqb-true, and_parts, or_cases, or_left, or_right, false_from_ne_true}
use Rattle.std.proofs.lemmas.List.{get_or_past, get_or-set_same, get_or-set_other}
use Rattle.rt_base.specs.declared.ids.ItemId.{ItemId}
use Rattle.item_model.specs.declared.decl.ItemDecl.{ItemDecl}
use Rattle.item_model.specs.Kinds.{is_dated, is_derived}
use Rattle.txn_set.specs.declared.decl.TxnDecl.{TxnDecl}
use Rattle.txn_set.specs.Set.{names_item}
use Rattle.txn_compiler.specs.Graph.{depends, reaches}
use Rattle.txn_compiler.specs.Tables.{Marks, AreSettled, IsSingle, IsOpen, writer_reads}
use Rattle.txn_compiler.proofs.Reach.{Reaches, one-edge, reaches-on, closed-has}
use Rattle.txn_compiler.proofs.Derivation.{reaches-from, reaches-to}
use Rattle.txn_compiler.proofs.Single.{one-writer, reads-of-one, same-test}
use Rattle.txn_compiler.proofs.Refusing.{one-writer-of}

-- what is marked is reached, what the item depends on is marked, and so is what a done one depends on
pub record IsSearched (items : List ItemDecl) (txns : List TxnDecl) (start : ℕ) (reached done : List Bool) : Type 0 where
  pub sound : (i : ℕ) → get_or reached i false ≡ true → Reaches (depends items txns) start i
  pub first : (i : ℕ) → depends items txns start i ≡ true → get_or reached i false ≡ true
  pub closed : (i j : ℕ) → get_or done i false ≡ true → depends items txns i j ≡ true → get_or reached j false ≡ true

-- under single writers an item depends on the sensor and derived items that its writer reads
pub depends-is : (items : List ItemDecl) (txns : List TxnDecl) (from to : ℕ) → IsSingle items txns → depends items txns from to ≡ (is_dated items to && names_item (writer_reads items txns from) to)
depends-is items txns from to single = by (is_derived items from) refl
  where
    and-none : (b : Bool) → false ≡ (b && false)
    and-none true = refl
    and-none false = refl

    by : (b : Bool) → is_derived items from ≡ b → depends items txns from to ≡ (is_dated items to && names_item (writer_reads items txns from) to)
    by false h = rw h (and-none (is_dated items to))
    by true h =
        let (a, is) = one-writer-of items txns from single h in
        let one = one-writer txns from a is in
        rw (h, is) (ap (λ (b : Bool). is_dated items to && b) (reads-of-one txns from a to one))

pub marked : (items : List ItemDecl) (txns : List TxnDecl) (from : ℕ) (read : List ItemDecl) (parents : List ItemId) (old new : List Bool) → IsSingle items txns → read ≡ items → parents ≡ writer_reads items txns from → Marks read parents old new → (i : ℕ) → get_or new i false ≡ (get_or old i false || depends items txns from i)
marked items txns from read parents old new single same is marks i =
    marks.each i ∙ ap (λ (b : Bool). get_or old i false || b) (rw (same, is) (sym (depends-is items txns from i single)))

none-true : (marks : List Bool) (i : ℕ) → All (λ b. b ≡ false) marks → get_or marks i false ≡ false
none-true marks i all =
    ⊎_elim (λ (inside : i < length marks). all i false inside) (λ (past : length marks ≤ i). get_or_past marks i false past) (cases_lt i (length marks))

pub searched-first : (items : List ItemDecl) (txns : List TxnDecl) (start : ℕ) (read : List ItemDecl) (parents : List ItemId) (old new done : List Bool) → IsSingle items txns → read ≡ items → parents ≡ writer_reads items txns start → All (λ b. b ≡ false) old → All (λ b. b ≡ false) done → Marks read parents old new → IsSearched items txns start new done
searched-first items txns start read parents old new done single same is none-old none-done marks =
    let each = marked items txns start read parents old new single same is marks in
    record {
      sound =
          λ i h.
          ⊎_elim
          (λ (before : get_or old i false ≡ true). absurd (both_ways (get_or old i false) (none-true old i none-old) before))
          (λ (edge : depends items txns start i ≡ true). one-edge (depends items txns) start i edge)
          (or_cases (get_or old i false) (depends items txns start i) (sym (each i) ∙ h));
      first = λ i edge. each i ∙ or_right (get_or old i false) (depends items txns start i) edge;
      closed = λ i j h edge. absurd (both_ways (get_or done i false) (none-true done i none-done) h);
    }

pub searched-more : (items : List ItemDecl) (txns : List TxnDecl) (start item : ℕ) (read : List ItemDecl) (parents : List ItemId) (reached new done : List Bool) → IsSingle items txns → read ≡ items → parents ≡ writer_reads items txns item → IsOpen reached done item → Marks read parents reached new → IsSearched items txns start reached done → IsSearched items txns start new (set done item true)
searched-more items txns start item read parents reached new done single equal is here marks so =
    let each = marked items txns item read parents reached new single equal is marks in
    record {
      sound =
          λ i h.
          ⊎_elim
          (λ (before : get_or reached i false ≡ true). so.sound i before)
          (λ (edge : depends items txns item i ≡ true). reaches-on (depends items txns) start item i (so.sound item here.is_reached) (one-edge (depends items txns) item i edge))
          (or_cases (get_or reached i false) (depends items txns item i) (sym (each i) ∙ h));
      first = λ i edge. each i ∙ or_left (get_or reached i false) (depends items txns item i) (so.first i edge);
      closed =
          λ i j h edge.
          ⊎_elim
          (λ (same : i ≡ item).
          each j ∙ or_right (get_or reached j false) (depends items txns item j) (subst (λ (k : ℕ). depends items txns k j ≡ true) same edge))
          (λ (other : i ≡ item → ⊥).
          each j ∙ or_left (get_or reached j false) (depends items txns item j) (so.closed i j (sym (get_or-set_other done item i true false other) ∙ h) edge))
          (cases_eq i item);
    }

pub searched-all : (items : List ItemDecl) (txns : List TxnDecl) (start : ℕ) (reached done : List Bool) → ((i : ℕ) → get_or reached i false ≡ true → get_or done i false ≡ true) → IsSearched items txns start reached done → get_or reached start false ≡ reaches items txns start start
searched-all items txns start reached done none so =
    same-test (get_or reached start false) (reaches items txns start start)
    (λ h. reaches-from items txns start start (so.sound start h))
    (λ h.
    closed-has (depends items txns) (λ i. get_or reached i false) start so.first (λ i j has edge. so.closed i j (none i has) edge) start
    (reaches-to items txns start start h))

all-named : (test : ℕ → Bool) (items : List ItemId) (i : ℕ) → list_all (λ x. test x.0) items ≡ true → names_item items i ≡ true → test i ≡ true
all-named test [] i all named = absurd (cc)
all-named test (x ∷ xs) i all named =
    let both = and_parts (test x.0) (list_all (λ y. test y.0) xs) all in
    ⊎_elim
    (λ (here : eqb x.0 i ≡ true). subst (λ (k : ℕ). test k ≡ true) (eqb-true x.0 i here) both.0)
    (λ (later : names_item xs i ≡ true). all-named test xs i both.1 later)
    (or_cases (eqb x.0 i) (names_item xs i) named)

set-keeps : (marks : List Bool) (item i : ℕ) → item < length marks → get_or marks i false ≡ true → get_or (set marks item true) i false ≡ true
set-keeps marks item i inside h =
    ⊎_elim
    (λ (same : i ≡ item). rw same (get_or-set_same marks item true false inside))
    (λ (other : i ≡ item → ⊥). get_or-set_other marks item i true false other ∙ h)
    (cases_eq i item)

none-marked : (n i : ℕ) → get_or (replicate n false) i false ≡ true → ⊥
none-marked zero i h = cc
none-marked (suc n) zero h = cc
none-marked (suc n) (suc i) h = none-marked n i h

-- where nothing is settled all that is settled is so rightly
pub settled-none : (items : List ItemDecl) (txns : List TxnDecl) (n : ℕ) → AreSettled items txns (replicate n false)
settled-none items txns n = record {
  closed = λ i j h edge. absurd (none-marked n i h);
  free = λ i h. absurd (none-marked n i h);
}

-- an item whose parents are all settled is settled
pub settled-more : (items : List ItemDecl) (txns : List TxnDecl) (item : ℕ) (read : List ItemDecl) (parents : List ItemId) (settled : List Bool) → IsSingle items txns → item < length settled → read ≡ items → parents ≡ writer_reads items txns item → get_or settled item false ≡ false → true ≡ list_all (λ i. not (is_dated read i.0) || get_or settled i.0 false) parents → AreSettled items txns settled → AreSettled items txns (set settled item true)
settled-more items txns item read parents settled single inside equal is not-yet all so = record {
  closed =
      λ i j h edge.
      ⊎_elim
      (λ (same : i ≡ item). set-keeps settled item j inside (below j (subst (λ (k : ℕ). depends items txns k j ≡ true) same edge)))
      (λ (other : i ≡ item → ⊥).
      set-keeps settled item j inside (so.closed i j (sym (get_or-set_other settled item i true false other) ∙ h) edge))
      (cases_eq i item);
  free =
      λ i h.
      ⊎_elim
      (λ (same : i ≡ item). rw same free-here)
      (λ (other : i ≡ item → ⊥). so.free i (sym (get_or-set_other settled item i true false other) ∙ h))
      (cases_eq i item);
}
  where
    below : (j : ℕ) → depends items txns item j ≡ true → get_or settled j false ≡ true
    below j edge =
        let parts = and_parts (is_dated items j) (names_item (writer_reads items txns item) j) (sym (depends-is items txns item j single) ∙ edge) in
        let named : names_item parents j ≡ true = rw is parts.1 in
        let test = all-named (λ i. not (is_dated items i) || get_or settled i false) parents j (sym (rw equal at all)) named in
        ⊎_elim
        (λ (undated : not (is_dated items j) ≡ true). absurd (both_ways (is_dated items j) (not-true (is_dated items j) undated) parts.0))
        (λ (done : get_or settled j false ≡ true). done)
        (or_cases (not (is_dated items j)) (get_or settled j false) test)

    free-here : reaches items txns item item ≡ false
    free-here =
        false_from_ne_true (reaches items txns item item)
        (λ h.
        both_ways (get_or settled item false) not-yet
        (closed-has (depends items txns) (λ i. get_or settled i false) item below so.closed item (reaches-to items txns item item h)))
