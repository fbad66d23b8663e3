-- The table of ceilings, transaction by transaction.
use Rattle.std.proofs.Common.{◌≡◌, ℕ, suc, ◌+◌, ◌<◌, ◌≤◌, max, Bool, true, false, ◌||◌, cond, List, [], ◌∷◌, length, get_or, drop, refl, ap, subst, ◌∙◌, arith, add-one, drop-cons}
use Rattle.std.specs.List.{All, filter}
use Rattle.std.proofs.Math.ListN.{drop_of_length-le}
use Rattle.std.proofs.lemmas.List.Elements.{All-get_or}
use Rattle.rt_base.specs.declared.ids.ItemId.{ItemId}
use Rattle.txn_set.specs.declared.decl.TxnDecl.{TxnDecl}
use Rattle.txn_set.specs.declared.decl.Ceilings.{Ceilings}
use Rattle.txn_set.specs.Set.{may_read, may_write, names_item}
use Rattle.txn_set.specs.Ceilings.{greatest, prios}
use Rattle.txn_compiler.specs.Tables.{IsList, AreTxnsOver, AreCeilings, ChangesNamed, raise_absolute, raise_write, no_ceilings, write_prio, absolute_prio}

-- the rows so far, with the transactions from a place on, have the ceilings of all
pub record IsRaisedTo (count : ℕ) (txns : List TxnDecl) (at : ℕ) (table : List Ceilings) : Type 0 where
  pub one_each : length table ≡ count
  pub write : (item : ℕ) (d : Ceilings) → item < count → max (get_or table item d).write (write_prio (drop at txns) item) ≡ write_prio txns item
  pub absolute : (item : ℕ) (d : Ceilings) → item < count → max (get_or table item d).absolute (absolute_prio (drop at txns) item) ≡ absolute_prio txns item

pub raised-none : (txns : List TxnDecl) (table : List Ceilings) → All (λ row. row ≡ no_ceilings) table → IsRaisedTo (length table) txns 0 table
raised-none txns table none = record {
  one_each = refl;
  write = λ item d below. rw (none item d below) (omega arith);
  absolute = λ item d below. rw (none item d below) (omega arith);
}

one-write : (b : Bool) (row : Ceilings) (t : TxnDecl) (others : List TxnDecl) → max (cond b (raise_write t.prio row) row).write (greatest (prios others)) ≡ max row.write (greatest (prios (cond b (t ∷ others) others)))
one-write true row t others = omega arith
one-write false row t others = refl

one-absolute : (r w : Bool) (row : Ceilings) (t : TxnDecl) (others : List TxnDecl) → max (cond w (raise_write t.prio (cond r (raise_absolute t.prio row) row)) (cond r (raise_absolute t.prio row) row)).absolute (greatest (prios others)) ≡ max row.absolute (greatest (prios (cond (r || w) (t ∷ others) others)))
one-absolute true true row t others = omega arith
one-absolute true false row t others = omega arith
one-absolute false true row t others = omega arith
one-absolute false false row t others = refl

same-write : (r : Bool) (prio : ℕ) (row : Ceilings) → (cond r (raise_absolute prio row) row).write ≡ row.write
same-write true prio row = refl
same-write false prio row = refl

pub raised-more : (count : ℕ) (txns : List TxnDecl) (at : ℕ) (d : TxnDecl) (reads writes : List ItemId) (prio : ℕ) (old mid new : List Ceilings) → at < length txns → reads ≡ (get_or txns at d).reads → writes ≡ (get_or txns at d).writes → prio ≡ (get_or txns at d).prio → ChangesNamed (raise_absolute prio) reads old mid → length mid ≡ length old → ChangesNamed (raise_write prio) writes mid new → length new ≡ length mid → IsRaisedTo count txns at old → IsRaisedTo count txns (at + 1) new
raised-more count txns at d reads writes prio old mid new inside reads-is writes-is prio-is first same second equal raised = record {
  one_each = equal ∙ (same ∙ raised.one_each);
  write =
      λ item e below.
      let before : max (get_or old item e).write (greatest (prios (filter (λ t. may_write t item) (get_or txns at d ∷ drop (suc at) txns)))) ≡ write_prio txns item =
      subst (λ (l : List TxnDecl). max (get_or old item e).write (greatest (prios (filter (λ t. may_write t item) l))) ≡ write_prio txns item) rest (raised.write item e below)
      in
      let kept : (get_or mid item e).write ≡ (get_or old item e).write = ap (λ (r : Ceilings). r.write) (row-mid item e below) ∙ same-write (may_read (get_or txns at d) item) (get_or txns at d).prio (get_or old item e) in
      rw (row-new item e below, add-one)
      (one-write (may_write (get_or txns at d) item) (get_or mid item e) (get_or txns at d) (filter (λ t. may_write t item) (drop (suc at) txns)) ∙
      (ap (λ (n : ℕ). max n (greatest (prios (filter (λ t. may_write t item) (get_or txns at d ∷ drop (suc at) txns))))) kept ∙ before));
  absolute =
      λ item e below.
      let before : max (get_or old item e).absolute (greatest (prios (filter (λ t. may_read t item || may_write t item) (get_or txns at d ∷ drop (suc at) txns)))) ≡ absolute_prio txns item =
      subst (λ (l : List TxnDecl). max (get_or old item e).absolute (greatest (prios (filter (λ t. may_read t item || may_write t item) l))) ≡ absolute_prio txns item) rest (raised.absolute item e below)
      in
      rw (row-new item e below, row-mid item e below, add-one)
      (one-absolute (may_read (get_or txns at d) item) (may_write (get_or txns at d) item) (get_or old item e) (get_or txns at d) (filter (λ t. may_read t item || may_write t item) (drop (suc at) txns)) ∙ before);
}
  where
    rest : drop at txns ≡ get_or txns at d ∷ drop (suc at) txns
    rest = drop-cons txns at d inside

    row-mid : (item : ℕ) (e : Ceilings) → item < count → get_or mid item e ≡ cond (may_read (get_or txns at d) item) (raise_absolute (get_or txns at d).prio (get_or old item e)) (get_or old item e)
    row-mid item e below =
        subst (λ (p : ℕ). get_or mid item e ≡ cond (may_read (get_or txns at d) item) (raise_absolute p (get_or old item e)) (get_or old item e)) prio-is
        (subst (λ (l : List ItemId). get_or mid item e ≡ cond (names_item l item) (raise_absolute prio (get_or old item e)) (get_or old item e)) reads-is
        (first.each item e (omega (arith, raised.one_each))))

    row-new : (item : ℕ) (e : Ceilings) → item < count → get_or new item e ≡ cond (may_write (get_or txns at d) item) (raise_write (get_or txns at d).prio (get_or mid item e)) (get_or mid item e)
    row-new item e below =
        subst (λ (p : ℕ). get_or new item e ≡ cond (may_write (get_or txns at d) item) (raise_write p (get_or mid item e)) (get_or mid item e)) prio-is
        (subst (λ (l : List ItemId). get_or new item e ≡ cond (names_item l item) (raise_write prio (get_or mid item e)) (get_or mid item e)) writes-is
        (second.each item e (omega (arith, same, raised.one_each))))

pub raised-all : (count : ℕ) (txns : List TxnDecl) (at : ℕ) (table : List Ceilings) → length txns ≤ at → IsRaisedTo count txns at table → AreCeilings txns table
raised-all count txns at table past raised = record {
  write =
      λ item d below.
      let all : max (get_or table item d).write (write_prio [] item) ≡ write_prio txns item =
      subst (λ (l : List TxnDecl). max (get_or table item d).write (write_prio l item) ≡ write_prio txns item) (drop_of_length-le txns past) (raised.write item d (omega (arith, raised.one_each)))
      in
      omega (arith, all);
  absolute =
      λ item d below.
      let all : max (get_or table item d).absolute (absolute_prio [] item) ≡ absolute_prio txns item =
      subst (λ (l : List TxnDecl). max (get_or table item d).absolute (absolute_prio l item) ≡ absolute_prio txns item) (drop_of_length-le txns past) (raised.absolute item d (omega (arith, raised.one_each)))
      in
      omega (arith, all);
}

pub reads-at : (count : ℕ) (txns : List TxnDecl) (at : ℕ) (d : TxnDecl) (reads : List ItemId) (n : ℕ) → AreTxnsOver count txns → at < length txns → reads ≡ (get_or txns at d).reads → n ≡ count → IsList n reads
reads-at count txns at d reads n lists inside is same = rw (is, same) (All-get_or (λ t. IsList count t.reads) txns at d inside lists.reads)

pub writes-at : (count : ℕ) (txns : List TxnDecl) (at : ℕ) (d : TxnDecl) (writes : List ItemId) (n : ℕ) → AreTxnsOver count txns → at < length txns → writes ≡ (get_or txns at d).writes → n ≡ count → IsList n writes
writes-at count txns at d writes n lists inside is same = rw (is, same) (All-get_or (λ t. IsList count t.writes) txns at d inside lists.writes)
