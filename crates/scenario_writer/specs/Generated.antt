-- The generated scenarios: n transactions of equal period, of which each second one reads what the one before it
-- writes.
use Rattle.std.specs.Prelude.{ℕ, ◌+◌, ◌-◌, ◌*◌, ◌%◌, ◌==◌, pos, Bool, if◌then◌else◌, List, [], ◌∷◌, ◌++◌, map, codes, decimal}
use Rattle.std.specs.List.{range_with_len}
use Rattle.rt_base.specs.declared.ids.ItemId.{ItemId}
use Rattle.item_model.specs.declared.decl.ItemDecl.{ItemDecl}
use Rattle.item_model.specs.declared.decl.ItemKind.TheVariants.{Sensor, Derived, State}
use Rattle.txn_set.specs.declared.decl.TxnDecl.{TxnDecl}
use Rattle.txn_set.specs.Set.{declared, released_from}
use Rattle.step_script.specs.declared.expr.BinOp.TheVariants.{Add}
use Rattle.step_script.specs.Values.{leaf_const, leaf_serial, leaf_last, node}
use Rattle.step_script.specs.Scripts.{Operation, read, write, compute, commit, Program}
use Rattle.step_script.specs.declared.releases.Releases.{Releases}
use Rattle.step_script.specs.declared.releases.Releases.TheVariants.{Jobs}
use Rattle.step_script.specs.Shown.{Shown}

abbrev pub item_id : ℕ → ItemId
item_id n = record { 0 = n }

abbrev pub is_even : ℕ → Bool
is_even i = i % 2 == 0

-- the period and the deadline of each transaction
abbrev pub period_of : ℕ → ℕ
period_of n = 8 * n + 8

-- the item that transaction i writes: a sensor item for an even i, else a derived item
abbrev pub dated_name : ℕ → List ℕ
dated_name i = if is_even i then codes "s" ++ decimal i else codes "d" ++ decimal i

abbrev pub dated_item : ℕ → ℕ → ItemDecl
dated_item n i = record {
  kind = if is_even i then Sensor (4 * period_of n) else Derived (4 * period_of n);
  initial = pos 0;
}

-- the state item, which stands last, and which each second transaction writes too
abbrev pub state_item : ItemDecl
state_item = record { kind = State; initial = pos 0 }

abbrev pub txn_name : ℕ → List ℕ
txn_name i = codes "t" ++ decimal i

abbrev pub txn_decl : ℕ → ℕ → TxnDecl
txn_decl n i =
    let reads = if is_even i then [] else item_id (i - 1) ∷ [] in
    let writes = if is_even i then item_id i ∷ [] else item_id i ∷ item_id n ∷ [] in
    released_from (3 * (n - 1 - i)) (declared (n - i) (period_of n) 4 reads writes)

abbrev pub even_ops : ℕ → List Operation
even_ops i = write (item_id i) leaf_serial ∷ compute 2 ∷ commit ∷ []

abbrev pub odd_ops : ℕ → ℕ → List Operation
odd_ops n i =
    read (item_id (i - 1))
    ∷ write (item_id i) (leaf_last (item_id (i - 1)))
    ∷ write (item_id n) (node Add (leaf_last (item_id (i - 1))) (leaf_const (pos i)))
    ∷ commit
    ∷ []

abbrev pub program : ℕ → ℕ → Program
program n i = record {
  ops = if is_even i then even_ops i else odd_ops n i;
  samples = [];
  items = n + 1;
}

-- how many jobs each transaction has
abbrev pub jobs_each : ℕ
jobs_each = 256

abbrev pub releases_each : ℕ → Releases
releases_each i = Jobs jobs_each

abbrev pub each : {A : Type 0} → (ℕ → A) → ℕ → List A
each f n = map f (range_with_len 0 n)

unfoldable pub generated_of : ℕ → Shown
generated_of n = record {
  names = record { items = each dated_name n ++ codes "m" ∷ []; txns = each txn_name n };
  items = each (dated_item n) n ++ state_item ∷ [];
  txns = each (txn_decl n) n;
  together = [];
  programs = each (program n) n;
  releases = each releases_each n;
  room = n * (jobs_each + jobs_each * (4 + 2)) + 2;
}
