-- The warnings of a scenario, in the order of its transactions and then of its items.
use Rattle.std.specs.Prelude.{ℕ, zero, suc, ◌==◌, nat_lt, Bool, not, ◌&&◌, if◌then◌else◌, List, [], ◌∷◌, ◌++◌, length, slice_index_or}
use Rattle.std.specs.Option.{option_map, option_to_list}
use Rattle.std.specs.List.{list_any}
use Rattle.rt_base.specs.declared.ids.ItemId.{ItemId}
use Rattle.rt_base.specs.declared.ids.TxId.{TxId}
use Rattle.item_model.specs.declared.decl.ItemDecl.{ItemDecl}
use Rattle.item_model.specs.Kinds.{is_dated, is_derived}
use Rattle.txn_set.specs.declared.decl.TxnDecl.{TxnDecl}
use Rattle.txn_set.specs.Set.{txn_of, may_read, may_write}
use Rattle.step_script.specs.Scripts.{Operation, Program}
use Rattle.step_script.specs.declared.releases.Releases.{Releases}
use Rattle.step_script.specs.Releases.{jobs_of, releases_of}
use Rattle.step_script.specs.Bodies.{steps_of}
use Rattle.step_script.specs.Shown.{Shown, set_of}
use Rattle.scenario_check.specs.declared.kinds.Warning.{Warning}
use Rattle.scenario_check.specs.declared.kinds.Warning.TheVariants.{NoScript, NoEnd, LongScript, UnreadLast, NotPeriodic, NeverReleased, Unread, Unused}
use Rattle.scenario_check.specs.Scripts.{is_empty, runs_on, unread_at, is_updating, is_periodic}

abbrev pub tx_id : ℕ → TxId
tx_id n = record { 0 = n }

abbrev pub item_id : ℕ → ItemId
item_id n = record { 0 = n }

-- a warning if this holds
abbrev pub told : Bool → Warning → List Warning
told holds w = if holds then w ∷ [] else []

-- what each number below n gives, in order
abbrev pub below : (ℕ → List Warning) → ℕ → List Warning
below f zero = []
below f (suc n) = below f n ++ f n

abbrev pub no_program : Program
no_program = record { ops = []; samples = []; items = 0 }

-- the operations of a transaction's script
abbrev pub ops_at : List Program → ℕ → List Operation
ops_at programs tx = (slice_index_or programs tx no_program).ops

abbrev pub of_last : TxId → List Operation → ℕ → List Warning
of_last tx ops k = option_to_list (option_map (UnreadLast tx k) (unread_at ops k))

abbrev pub of_script : TxId → TxnDecl → List Operation → List Warning
of_script tx t ops =
    told (is_empty ops) (NoScript tx) ++ told (runs_on ops) (NoEnd tx)
    ++ told (nat_lt t.steps (steps_of ops)) (LongScript tx) ++ below (of_last tx ops) (length ops)

abbrev pub of_releases : List ItemDecl → TxId → TxnDecl → Releases → List Warning
of_releases decls tx t r =
    told (is_updating decls t && not (is_periodic t r)) (NotPeriodic tx) ++ told (jobs_of r == 0) (NeverReleased tx)

abbrev pub of_txn : Shown → ℕ → List Warning
of_txn s tx =
    of_script (tx_id tx) (txn_of (set_of s) tx) (ops_at s.programs tx)
    ++ of_releases s.items (tx_id tx) (txn_of (set_of s) tx) (releases_of s.releases tx)

-- a sensor item: one with a validity that is not derived
abbrev pub is_sensor : List ItemDecl → ℕ → Bool
is_sensor decls item = is_dated decls item && not (is_derived decls item)

abbrev pub is_unread : List TxnDecl → ℕ → Bool
is_unread txns item = not (list_any (λ t. may_read t item) txns)

abbrev pub is_unwritten : List TxnDecl → ℕ → Bool
is_unwritten txns item = not (list_any (λ t. may_write t item) txns)

abbrev pub of_item : List ItemDecl → List TxnDecl → ℕ → List Warning
of_item decls txns item =
    told (is_sensor decls item && is_unread txns item) (Unread (item_id item))
    ++ told (is_unread txns item && is_unwritten txns item) (Unused (item_id item))

abbrev pub warnings_of : Shown → List Warning
warnings_of s = below (of_txn s) (length s.txns) ++ below (of_item s.items s.txns) (length s.items)
