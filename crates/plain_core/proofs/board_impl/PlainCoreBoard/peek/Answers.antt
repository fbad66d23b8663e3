use Rattle.std.proofs.Common.{ap, sym, ◌∙◌, arith, length, List}
use Rattle.std.specs.Prelude.{slice_get}
use Rattle.item_model.specs.declared.stored.Stored.{Stored}
use Rattle.plain_core.specs.TablesSeen.{TablesSeen}
use Rattle.plain_core.specs.Seen.{PlainIs}
use Rattle.plain_core.proofs.Stood.{fit_core}
use Rattle.plain_core.proofs.board_impl.PlainCoreBoard.peek.Goals as goal

pub item-requires : goal.item-requires
item-requires c = omega (arith, (fit_core _ c.self.invariant).items, ap (λ (p : PlainIs). length p.set.items) c.self.view_is)

pub returns : goal.returns
returns c = λ history h.
    let e = ap (λ (p : PlainIs). p.tables.state.items) c.self.view_is ∙ ap (λ (t : TablesSeen). t.state.items) h.is_state in
    ap (λ (l : List Stored). slice_get l c.args.item.0) (sym e) ∙ c.item.ensures
