-- What a scenario that is read or generated meets.
use Rattle.std.specs.Prelude.{◌≡◌, ℕ, ◌^◌, ◌≤◌, true, None, length}
use Rattle.std.specs.List.{All, list_all}
use Rattle.rt_base.specs.Names.{AreNames}
use Rattle.item_model.specs.declared.decl.ItemKind.{ItemKind}
use Rattle.item_model.specs.declared.decl.ItemKind.TheVariants.{Sensor, Derived, State}
use Rattle.txn_set.specs.declared.decl.TxnDecl.{TxnDecl}
use Rattle.txn_set.specs.Set.{AreItemsOf}
use Rattle.step_script.specs.Scripts.{Operation, read, write, compute, commit, quit, Program, is_good}
use Rattle.step_script.specs.Shown.{Shown, set_of}
use Rattle.step_script.specs.Releases.{total_jobs, bad_release, room_of, eager_end}
use Rattle.step_script.specs.Bodies.{bad_script, long_script}

abbrev pub HasValidity : ItemKind → Type 0
HasValidity (Sensor validity) = (1 ≤ validity) × (validity ≤ 2 ^ 40)
HasValidity (Derived validity) = (1 ≤ validity) × (validity ≤ 2 ^ 40)
HasValidity State = Unit {0}

-- the numbers of a transaction are within the ranges of a text; whether they are good for running is not said
pub record HasTextTimes (t : TxnDecl) : Type 0 where
  pub prio : t.prio ≤ 2 ^ 31
  pub period : t.period ≤ 2 ^ 40
  pub offset : t.offset ≤ 2 ^ 40
  pub deadline : t.deadline ≤ 2 ^ 40
  pub steps : t.steps ≤ 2 ^ 40
  pub quiet : t.quiet ≤ 2 ^ 40

abbrev pub IsTextOp : Operation → Type 0
IsTextOp (read item) = Unit {0}
IsTextOp (write item value) = Unit {0}
IsTextOp (compute n) = (1 ≤ n) × (n ≤ 10000)
IsTextOp commit = Unit {0}
IsTextOp quit = Unit {0}

-- a script over so many items, with operations of the text's forms
pub record IsProgramOver (items : ℕ) (p : Program) : Type 0 where
  pub over : p.items ≡ items
  pub good : list_all (is_good items) p.ops ≡ true
  pub computes : All IsTextOp p.ops

-- A scenario with one name for each item, and one name, script and releases for each transaction; its lists of items
-- stand in item order without repeats; its numbers are within the ranges of a text; and nothing of it is refused: its
-- scripts ask for what is declared, its jobs are few enough and can all be planned, and its room is that of a run.
pub record IsScenario (s : Shown) : Type 0 where
  pub item_names : AreNames s.names.items
  pub txn_names : AreNames s.names.txns
  pub named_items : length s.names.items ≡ length s.items
  pub named_txns : length s.names.txns ≡ length s.txns
  pub scripted : length s.programs ≡ length s.txns
  pub released : length s.releases ≡ length s.txns
  pub reads : All (λ t. AreItemsOf (set_of s) t.reads) s.txns
  pub writes : All (λ t. AreItemsOf (set_of s) t.writes) s.txns
  pub together : All (λ g. AreItemsOf (set_of s) g.items) s.together
  pub validities : All (λ d. HasValidity d.kind) s.items
  pub times : All HasTextTimes s.txns
  pub within : All (λ g. g.within ≤ 2 ^ 40) s.together
  pub programs : All (IsProgramOver (length s.items)) s.programs
  pub good_scripts : bad_script s ≡ None
  pub short_scripts : long_script s ≡ None
  pub few_jobs : total_jobs s.releases ≤ 65536
  pub planned : bad_release s ≡ None
  pub room : s.room ≡ room_of s
  pub small_room : s.room ≤ 2 ^ 20
  pub eager : eager_end s ≤ 2 ^ 40
