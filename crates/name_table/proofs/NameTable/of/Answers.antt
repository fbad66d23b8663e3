use Rattle.std.proofs.Common.{ℕ, List, None, ◌≡◌, sym, subst}
use Rattle.name_table.specs.Places.{place_in}
use Rattle.name_table.proofs.Places.{not_before}
use Rattle.name_table.proofs.NameTable.of.Goals as goal

pub add-requires-clause-new : goal.add-requires-clause-new
add-requires-clause-new c =
    subst (λ (names : List (List ℕ)). place_in names c.name-item.result ≡ None) (sym c.loop-name.invariant.0)
    (not_before c.args.names.now c.loop-name.name-index c.name-item.result c.requires.names c.loop-name-test.true c.name-item.is)
