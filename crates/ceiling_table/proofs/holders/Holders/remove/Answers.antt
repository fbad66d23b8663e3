use Rattle.std.proofs.Common.{◌≡◌, ◌-◌, ◌<◌, List, length, reverse, ap, ◌∙◌, arith}
use Rattle.std.proofs.lemmas.List.{length-reverse}
use Rattle.std.specs.List.{remove}
use Rattle.rt_base.specs.Shelf.{Shelf}
use Rattle.ceiling_table.specs.declared.Above.{Above}
use Rattle.ceiling_table.proofs.Turned.{remove_turned}
use Rattle.ceiling_table.proofs.holders.Holders.remove.Goals as goal

pub returns-clause-items : goal.returns-clause-items
returns-clause-items c =
    let same : reverse c.self.inside.turned.items ≡ c.args.self.now.items = ap (λ (s : Shelf Above). s.items) c.self.view_is in
    let fits : c.args.place < length c.self.inside.turned.items = omega (arith, c.requires, ap length same, length-reverse c.self.inside.turned.items) in
    ap reverse c.remove.ensures.items
    ∙ remove_turned c.self.inside.turned.items (c.len.result - 1 - c.args.place) c.args.place (omega (arith, fits, c.len.ensures))
    ∙ ap (λ (rows : List Above). remove rows c.args.place) same
