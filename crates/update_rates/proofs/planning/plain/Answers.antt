use Rattle.std.proofs.Common.{sym, ◌∙◌, ap, length}
use Rattle.std.specs.Option.{option_map}
use Rattle.std.proofs.lemmas.Result.{err_from_is_err_and}
use Rattle.std.proofs.lemmas.List.{length-map}
use Rattle.txn_compiler.specs.Kept.{set_of, kept, kept_txn}
use Rattle.update_rates.specs.declared.error.RateError.TheVariants.{Compile}
use Rattle.update_rates.specs.RatedSet.{list_rate, plain_set}
use Rattle.update_rates.proofs.Retimed.{kept-plain, with-length}
use Rattle.update_rates.proofs.Declared.{too-many, in-range-with, refused-plain}
use Rattle.update_rates.proofs.planning.plain.Goals as goal

pub returns-in-Some-clause-refused : goal.returns-in-Some-clause-refused
returns-in-Some-clause-refused c =
    let items = c.args.items.items in
    let txns = c.args.txns.items in
    let declared = kept (set_of items txns c.args.together.items) in
    let same = with-length (list_rate (length declared.txns)) declared.txns ∙ length-map txns (kept_txn (length items)) in
    ap (option_map Compile)
    (too-many items (plain_set declared).txns txns declared.together c.in-Some.error (sym same)
    (sym (rw (c.deref.ensures.value, c.deref-2.ensures.value) at c.too_many.ensures) ∙ c.in-Some.is))

pub compile-requires : goal.compile-requires
compile-requires c =
    rw c.with_list_rates-txns.ensures (in-range-with (list_rate (length c.args.txns.items)) c.args.items.items c.args.txns.items c.args.together.items c.requires)

pub returns-in_err-compile-clause-refused : goal.returns-in_err-compile-clause-refused
returns-in_err-compile-clause-refused c =
    let p = err_from_is_err_and c.from_residual.result c.from_residual.ensures.1 in
    rw (p.1, p.2)
    (refused-plain (set_of c.args.items.items c.args.txns.items c.args.together.items) _ (rw c.with_list_rates-txns.ensures at c.in_err-compile.ensures.refused))

pub returns-clause-set : goal.returns-clause-set
returns-clause-set c =
    rw c.with_list_rates-txns.ensures at c.in_ok-compile.ensures.set ∙ kept-plain (set_of c.args.items.items c.args.txns.items c.args.together.items)
