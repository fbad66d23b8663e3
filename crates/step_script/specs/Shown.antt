-- A scenario as contracts see it.
use Rattle.std.specs.Prelude.{ℕ, List, map}
use Rattle.rt_base.specs.declared.ids.TogetherDecl.{TogetherDecl}
use Rattle.rt_base.specs.declared.name.Names.{Names}
use Rattle.item_model.specs.declared.decl.ItemDecl.{ItemDecl}
use Rattle.txn_set.specs.declared.decl.TxnDecl.{TxnDecl}
use Rattle.txn_set.specs.Set.{Set}
use Rattle.step_script.specs.Scripts.{Program, program_of}
use Rattle.step_script.specs.declared.releases.Releases.{Releases}
use Rattle.step_script.specs.declared.whole.Scenario.{Scenario}

-- a scenario with each script by what it was made of
pub record Shown : Type 0 where
  pub names : Names
  pub items : List ItemDecl
  pub txns : List TxnDecl
  pub together : List TogetherDecl
  pub programs : List Program
  pub releases : List Releases
  pub room : ℕ

abbrev pub shown : Scenario → Shown
shown s = record {
  names = s.names;
  items = s.items;
  txns = s.txns;
  together = s.together;
  programs = map program_of s.scripts;
  releases = s.releases;
  room = s.room;
}

-- the set that it declares
abbrev pub set_of : Shown → Set
set_of s = record { items = s.items; txns = s.txns; together = s.together }
