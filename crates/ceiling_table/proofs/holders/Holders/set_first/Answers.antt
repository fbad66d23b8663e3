use Rattle.std.proofs.Common.{◌≡◌, ◌-◌, ◌<◌, ◌∷◌, List, length, drop, reverse, ap, ◌∙◌, arith}
use Rattle.std.proofs.lemmas.List.{length-reverse}
use Rattle.rt_base.specs.Shelf.{Shelf}
use Rattle.ceiling_table.specs.declared.Above.{Above}
use Rattle.ceiling_table.proofs.Turned.{set_turned}
use Rattle.ceiling_table.proofs.holders.Holders.set_first.Goals as goal

pub returns-clause-items : goal.returns-clause-items
returns-clause-items c =
    let same : reverse c.self.inside.turned.items ≡ c.args.self.now.items = ap (λ (s : Shelf Above). s.items) c.self.view_is in
    let fits : 0 < length c.self.inside.turned.items = omega (arith, c.requires, ap length same, length-reverse c.self.inside.turned.items) in
    ap reverse c.set.ensures.items
    ∙ set_turned c.self.inside.turned.items (c.len-at.result - 1) 0 c.args.row (omega (arith, fits, c.len-at.ensures))
    ∙ ap (λ (rows : List Above). c.args.row ∷ drop 1 rows) same
