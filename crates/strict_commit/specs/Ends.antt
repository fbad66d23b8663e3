-- How a commit ends its job.
use Rattle.std.specs.Prelude.{ℕ, List, Result, Ok, Err}
use Rattle.rt_base.specs.declared.ids.ItemId.{ItemId}
use Rattle.rt_base.specs.declared.operation.End.{End}
use Rattle.rt_base.specs.declared.operation.End.TheVariants as end
use Rattle.item_model.specs.declared.decl.ItemDecl.{ItemDecl}
use Rattle.item_model.specs.Work.{Work}
use Rattle.strict_commit.specs.Jobs.{IsLeastOf, is_past}
use Rattle.strict_commit.specs.declared.verdict.CommitRefused.{CommitRefused}
use Rattle.strict_commit.specs.declared.verdict.CommitRefused.TheVariants.{Stale, Apart}

abbrev pub refused_end : CommitRefused → End
refused_end (Stale read) = end.Stale read.item read.stamp
refused_end (Apart pair) = end.Apart pair.a pair.b

-- the end that an answer stands for
abbrev pub end_of : {A : Type 0} → Result A CommitRefused → End
end_of (Ok done) = end.Committed
end_of (Err refused) = refused_end refused

-- a stale read that is named is of the first such item in item order
abbrev pub NamesFirst : List ItemDecl → List ItemId → Work → ℕ → CommitRefused → Type 0
NamesFirst decls reads work tick (Stale read) = IsLeastOf (is_past decls work tick) reads read.item.0
NamesFirst decls reads work tick (Apart pair) = Unit {0}
