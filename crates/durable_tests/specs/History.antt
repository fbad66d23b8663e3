-- What is kept in a journal.
use Rattle.std.specs.Prelude.{List}
use Rattle.rt_base.specs.declared.name.Names.{Names}
use Rattle.rt_base.specs.Names.{AreNames}
use Rattle.txn_set.specs.Set.{Set}
use Rattle.step_journal.specs.declared.entry.Entry.{Entry}
use Rattle.step_journal.specs.History.{IsLegal}
use Rattle.report_text.specs.Texts.{NamesSet}

-- these entries are a legal history of the set, which has these names
pub record IsHistory (names : Names) (set : Set) (entries : List Entry) : Type 0 where
  pub item_names : AreNames names.items
  pub txn_names : AreNames names.txns
  pub same : NamesSet names set
  pub legal : IsLegal set entries
