-- The declarations of a report are read back as they were written.
use Rattle.std.specs.Prelude.{ℕ, ◌≡◌, ◌+◌, ◌<◌, ◌^◌, Bool, List, ◌++◌, length, Ok}
use Rattle.std.specs.List.{All}
use Rattle.rt_base.specs.Names.{AreNames}
use Rattle.rt_base.specs.declared.name.Names.{Names}
use Rattle.item_model.specs.declared.decl.ItemKind.{ItemKind}
use Rattle.item_model.specs.declared.decl.ItemKind.TheVariants.{Sensor, Derived, State}
use Rattle.item_model.specs.declared.decl.ItemDecl.{ItemDecl}
use Rattle.txn_set.specs.declared.decl.TxnDecl.{TxnDecl}
use Rattle.txn_set.specs.Set.{Set, AreItemsOf}
use Rattle.line_fields.specs.Numbers.{IsI64}
use Rattle.report_text.specs.declared.read.Head.{Head}
use Rattle.report_text.specs.Head.{head_of}
use Rattle.report_text.specs.Texts.{NamesSet, declarations}

-- the numbers are within their types

abbrev pub IsKind : ItemKind → Type 0
IsKind (Sensor validity) = validity < 2 ^ 64
IsKind (Derived validity) = validity < 2 ^ 64
IsKind State = Unit {0}

pub record IsItemDecl (decl : ItemDecl) : Type 0 where
  pub kind : IsKind decl.kind
  pub initial : IsI64 decl.initial

pub record IsTxnDecl (decl : TxnDecl) : Type 0 where
  pub prio : decl.prio < 2 ^ 32
  pub period : decl.period < 2 ^ 64
  pub offset : decl.offset < 2 ^ 64
  pub deadline : decl.deadline < 2 ^ 64
  pub steps : decl.steps < 2 ^ 64
  pub quiet : decl.quiet < 2 ^ 64

-- declarations that have lines: there are names that differ, the lists stand in item order without repeats, and the
-- numbers are within their types
pub record HasLines (names : Names) (set : Set) : Type 0 where
  pub one_each : NamesSet names set
  pub item_names : AreNames names.items
  pub txn_names : AreNames names.txns
  pub items : All IsItemDecl set.items
  pub txns : All IsTxnDecl set.txns
  pub reads : All (λ t. AreItemsOf set t.reads) set.txns
  pub writes : All (λ t. AreItemsOf set t.writes) set.txns
  pub together : All (λ g. AreItemsOf set g.items) set.together
  pub within : All (λ g. g.within < 2 ^ 64) set.together

abbrev pub head_again : Names → Set → Bool → Head
head_again names set admitted =
    record {
      names = names;
      items = set.items;
      txns = set.txns;
      together = set.together;
      admitted = admitted;
      lines = 2 + (length set.items + (length set.txns + length set.together));
    }

-- whatever follows them
abbrev pub HeadIsReadBack : Type 0
HeadIsReadBack = (names : Names) (set : Set) (admitted : Bool) (rest : List ℕ) → HasLines names set
    → head_of (declarations names set admitted ++ rest) ≡ Ok (head_again names set admitted)
