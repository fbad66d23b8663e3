-- The tests on dependencies mean the dependencies and walks of a set.
use Rattle.std.proofs.Common.{◌≡◌, ℕ, zero, suc, ◌<◌, ◌≤◌, true, ◌&&◌, ⊎_elim, List, length, get_or, refl, ◌∙◌}
use Rattle.std.specs.List.{list_any}
use Rattle.std.proofs.lemmas.Bool.{cases_lt, and_parts, and_from, both_ways}
use Rattle.std.proofs.lemmas.List.{get_or_past, get_or_default}
use Rattle.std.proofs.lemmas.Option.{slice_get_past}
use Rattle.std.proofs.lemmas.List.Folds.{Any-from_list_any, list_any_at}
use Rattle.item_model.specs.declared.decl.ItemDecl.{ItemDecl}
use Rattle.item_model.specs.Kinds.{is_dated, is_derived}
use Rattle.txn_set.specs.declared.decl.TxnDecl.{TxnDecl}
use Rattle.txn_set.specs.Set.{Set, no_txn, txn_of, may_read, may_write, DependsOn, Walk}
use Rattle.txn_compiler.specs.Graph.{depends, reaches}
use Rattle.txn_compiler.specs.Laws.{ReachesByWalks}
use Rattle.txn_compiler.proofs.Reach.{Walks, Reaches, through-walks, walks-found}

-- a transaction that may write is one of the set
pub writes-inside : (txns : List TxnDecl) (tx item : ℕ) → may_write (get_or txns tx no_txn) item ≡ true → tx < length txns
writes-inside txns tx item h =
    ⊎_elim
    (λ (inside : tx < length txns). inside)
    (λ (past : length txns ≤ tx). absurd (both_ways (may_write (get_or txns tx no_txn) item) (rw (get_or_past txns tx no_txn past) refl) h))
    (cases_lt tx (length txns))

pub dated-inside : (items : List ItemDecl) (item : ℕ) → is_dated items item ≡ true → item < length items
dated-inside items item h =
    ⊎_elim
    (λ (inside : item < length items). inside)
    (λ (past : length items ≤ item). absurd (both_ways (is_dated items item) (rw (slice_get_past items item past) refl) h))
    (cases_lt item (length items))

pub derived-inside : (items : List ItemDecl) (item : ℕ) → is_derived items item ≡ true → item < length items
derived-inside items item h =
    ⊎_elim
    (λ (inside : item < length items). inside)
    (λ (past : length items ≤ item). absurd (both_ways (is_derived items item) (rw (slice_get_past items item past) refl) h))
    (cases_lt item (length items))

pub depends-from : (set : Set) (from to : ℕ) → DependsOn set from to → depends set.items set.txns from to ≡ true
depends-from set from to d =
    and_from (is_derived set.items from) (is_dated set.items to && list_any (λ t. may_write t from && may_read t to) set.txns) d.derived
    (and_from (is_dated set.items to) (list_any (λ t. may_write t from && may_read t to) set.txns) d.dated
    (list_any_at (λ t. may_write t from && may_read t to) set.txns d.writer no_txn (writes-inside set.txns d.writer from d.writes)
    (and_from (may_write (txn_of set d.writer) from) (may_read (txn_of set d.writer) to) d.writes d.reads)))

pub depends-to : (set : Set) (from to : ℕ) → depends set.items set.txns from to ≡ true → DependsOn set from to
depends-to set from to h =
    let outer = and_parts (is_derived set.items from) (is_dated set.items to && list_any (λ t. may_write t from && may_read t to) set.txns) h in
    let inner = and_parts (is_dated set.items to) (list_any (λ t. may_write t from && may_read t to) set.txns) outer.1 in
    let (tx, txn, inside, is, at) = Any-from_list_any (λ t. may_write t from && may_read t to) set.txns inner.1 in
    let here : txn_of set tx ≡ txn = get_or_default set.txns tx no_txn txn inside ∙ is in
    let both = and_parts (may_write (txn_of set tx) from) (may_read (txn_of set tx) to) (rw here at) in
    record { derived = outer.0; dated = inner.0; writer = tx; writes = both.0; reads = both.1 }

walks-from : (set : Set) (n from to : ℕ) → Walk set from to n → Walks (depends set.items set.txns) from to n
walks-from set zero from to same = same
walks-from set (suc n) from to (mid, step, rest) = (mid, depends-from set from mid step, walks-from set n mid to rest)

walks-to : (set : Set) (n from to : ℕ) → Walks (depends set.items set.txns) from to n → Walk set from to n
walks-to set zero from to same = same
walks-to set (suc n) from to (mid, step, rest) = (mid, depends-to set from mid step, walks-to set n mid to rest)

pub depends-inside : (items : List ItemDecl) (txns : List TxnDecl) (from to : ℕ) → depends items txns from to ≡ true → from < length items
depends-inside items txns from to h =
    derived-inside items from (and_parts (is_derived items from) (is_dated items to && list_any (λ t. may_write t from && may_read t to) txns) h).0

pub reaches-from : (items : List ItemDecl) (txns : List TxnDecl) (from to : ℕ) → Reaches (depends items txns) from to → reaches items txns from to ≡ true
unfolding reaches
reaches-from items txns from to walk = walks-found (depends items txns) (length items) (depends-inside items txns) from to walk

pub reaches-to : (items : List ItemDecl) (txns : List TxnDecl) (from to : ℕ) → reaches items txns from to ≡ true → Reaches (depends items txns) from to
unfolding reaches
reaches-to items txns from to h = through-walks (depends items txns) (length items) from to h

pub reaches-by-walks : ReachesByWalks
reaches-by-walks set from to = (
  λ h. let (n, walk) = reaches-to set.items set.txns from to h in (n, walks-to set (suc n) from to walk),
  λ (n, walk). reaches-from set.items set.txns from to (n, walks-from set (suc n) from to walk),
)
