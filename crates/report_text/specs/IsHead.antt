-- What the declarations of a report meet.
use Rattle.std.specs.Prelude.{◌≡◌, ◌+◌, length}
use Rattle.std.specs.List.{All}
use Rattle.rt_base.specs.Names.{AreNames}
use Rattle.txn_set.specs.Set.{Set, AreItemsOf}
use Rattle.report_text.specs.declared.read.Head.{Head}

-- the declared set, which may break rules of sets
abbrev pub set_of : Head → Set
set_of head = record { items = head.items; txns = head.txns; together = head.together }

-- the names are names and differ, there is one for each item and each transaction, each list of items stands in rising
-- order without repeats, and beside the first line and the mode line there is one line for each declaration
pub record IsHead (head : Head) : Type 0 where
  pub item_names : AreNames head.names.items
  pub txn_names : AreNames head.names.txns
  pub items : length head.names.items ≡ length head.items
  pub txns : length head.names.txns ≡ length head.txns
  pub reads : All (λ t. AreItemsOf (set_of head) t.reads) head.txns
  pub writes : All (λ t. AreItemsOf (set_of head) t.writes) head.txns
  pub together : All (λ g. AreItemsOf (set_of head) g.items) head.together
  pub lines : head.lines ≡ 2 + (length head.items + (length head.txns + length head.together))
