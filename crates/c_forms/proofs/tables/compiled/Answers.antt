use Rattle.c_forms.proofs.Ranges.{compiles}
use Rattle.c_forms.proofs.tables.compiled.Goals as goal

pub compile-requires : goal.compile-requires
compile-requires c =
    let t = c.args.tables.now in
    compiles _ _ _ t.items.now t.txns.now t.together.now t.ids.now c.in_ok-items.ensures c.in_ok-txns.ensures c.in_ok-together.ensures c.in_default-bad_number.ensures.none
