-- The lines of a set's bounds.
use Rattle.std.specs.Prelude.{ℕ, List, [], codes, if◌then◌else◌}
use Rattle.rt_base.specs.declared.name.Names.{Names}
use Rattle.item_model.specs.declared.decl.ItemDecl.{ItemDecl}
use Rattle.item_model.specs.Kinds.{is_dated}
use Rattle.txn_set.specs.declared.decl.TxnDecl.{TxnDecl}
use Rattle.txn_set.specs.Set.{Set}
use Rattle.txn_set.specs.Ceilings.{blocking}
use Rattle.journal_text.specs.Lines.{◌⊕◌}
use Rattle.set_admission.specs.Bounds.{response_of, age_of}
use Rattle.report_text.specs.Rows.{numbered}
use Rattle.report_text.specs.Texts.{bound_line, age_line}

-- the blocking and the response of each transaction, in list order
abbrev pub bounds_line : Names → Set → ℕ → TxnDecl → List ℕ
bounds_line names set tx decl = bound_line names tx (blocking set decl.prio) (response_of set tx)

-- the age bound of an item, if it is a sensor or derived item
abbrev pub age_of_item : Names → Set → ℕ → List ℕ
age_of_item names set item = if is_dated set.items item then age_line names item (age_of set item) else []

-- these in item order
abbrev pub ages_line : Names → Set → ℕ → ItemDecl → List ℕ
ages_line names set item decl = age_of_item names set item

abbrev pub limits_of : Names → Set → List ℕ
limits_of names set = numbered (bounds_line names set) 0 set.txns ⊕ numbered (ages_line names set) 0 set.items

-- the bounds and ages, and that the set is admitted
abbrev pub admitted_of : Names → Set → List ℕ
admitted_of names set = limits_of names set ⊕ codes "admitted\n"
