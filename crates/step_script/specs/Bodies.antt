-- The scripts of a scenario, and what refuses them.
use Rattle.std.specs.Prelude.{ℕ, ◌+◌, ◌==◌, nat_lt, nat_le, Bool, true, false, not, ◌&&◌, ◌||◌, if◌then◌else◌, List, [], ◌∷◌, ◌++◌, length, Option, Some, None, option_map}
use Rattle.std.specs.Option.{option_or}
use Rattle.std.specs.List.{list_all, list_any, position}
use Rattle.item_model.specs.declared.decl.ItemDecl.{ItemDecl}
use Rattle.item_model.specs.Kinds.{is_dated}
use Rattle.txn_set.specs.declared.decl.TxnDecl.{TxnDecl}
use Rattle.txn_set.specs.Set.{may_read, may_write}
use Rattle.step_script.specs.Scripts.{Operation, read, write, compute, commit, quit, width, Program}
use Rattle.step_script.specs.Shown.{Shown}

-- how many operations a script stands for, each compute counted as many
abbrev pub steps_of : List Operation → ℕ
steps_of [] = 0
steps_of (op ∷ ops) = width op + steps_of ops

-- a commit or a quit
abbrev pub closes : Operation → Bool
closes (read item) = false
closes (write item value) = false
closes (compute n) = false
closes commit = true
closes quit = true

-- a write of this item
abbrev pub is_write_of : ℕ → Operation → Bool
is_write_of item (read i) = false
is_write_of item (write i value) = i.0 == item
is_write_of item (compute n) = false
is_write_of item commit = false
is_write_of item quit = false

-- each declared write of a sensor or derived item is among these operations (the complete-writes rule)
abbrev pub writes_all : List ItemDecl → TxnDecl → List Operation → Bool
writes_all decls t before = list_all (λ i. not (is_dated decls i.0) || list_any (is_write_of i.0) before) t.writes

-- Whether a transaction may ask for an operation after these: a read or write of an item that is declared for it, after
-- its quiet steps, and a commit that leaves no item unwritten. The value of a write may name any item by `last`: of one
-- that the job has not read it is 0.
abbrev pub may_ask : List ItemDecl → TxnDecl → List Operation → Operation → Bool
may_ask decls t before (read i) = may_read t i.0 && nat_le t.quiet (steps_of before)
may_ask decls t before (write i value) = may_write t i.0 && nat_le t.quiet (steps_of before)
may_ask decls t before (compute n) = true
may_ask decls t before commit = writes_all decls t before
may_ask decls t before quit = true

-- the same, where nothing may stand after a commit or quit
abbrev pub may_stand : List ItemDecl → TxnDecl → List Operation → Operation → Bool
may_stand decls t before op = not (list_any closes before) && may_ask decls t before op

-- the place of the first operation that may not stand after those before it
abbrev pub bad_op_after : List ItemDecl → TxnDecl → List Operation → List Operation → Option ℕ
bad_op_after decls t before [] = None
bad_op_after decls t before (op ∷ ops) =
    if may_stand decls t before op then bad_op_after decls t (before ++ op ∷ []) ops else Some (length before)

abbrev pub bad_op : List ItemDecl → TxnDecl → List Operation → Option ℕ
bad_op decls t ops = bad_op_after decls t [] ops

-- with its transaction, where the first of these has this number
abbrev pub bad_script_from : List ItemDecl → ℕ → List TxnDecl → List Program → Option (ℕ × ℕ)
bad_script_from decls tx [] ps = None
bad_script_from decls tx (t ∷ ts) [] = None
bad_script_from decls tx (t ∷ ts) (p ∷ ps) =
    option_or (option_map (λ op. (tx, op)) (bad_op decls t p.ops)) (bad_script_from decls (tx + 1) ts ps)

-- the first transaction with an operation that its script may not have, and the first such operation
abbrev pub bad_script : Shown → Option (ℕ × ℕ)
bad_script s = bad_script_from s.items 0 s.txns s.programs

-- the most operations of a script
abbrev pub most_steps : ℕ
most_steps = 10000

abbrev pub is_long : Program → Bool
is_long p = nat_lt most_steps (steps_of p.ops)

-- the first transaction whose script has more
abbrev pub long_script : Shown → Option ℕ
long_script s = position is_long s.programs
