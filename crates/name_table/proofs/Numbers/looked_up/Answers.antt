use Rattle.std.proofs.Common.{ℕ, List, ap, ◌∙◌}
use Rattle.name_table.specs.Places.{place_in}
use Rattle.name_table.proofs.Places.{place_by_keys}
use Rattle.name_table.proofs.Numbers.looked_up.Goals as goal

pub returns-in-Some-clause-at : goal.returns-in-Some-clause-at
returns-in-Some-clause-at c =
    c.in-Some.ensures.index ∙ place_by_keys (λ k. k.items) c.args.name.now c.self.inside.names.keys
    ∙ ap (λ (names : List (List ℕ)). place_in names c.args.name.now) c.self.view_is

pub returns-in-None-clause-at : goal.returns-in-None-clause-at
returns-in-None-clause-at c =
    c.in-None.ensures.index ∙ place_by_keys (λ k. k.items) c.args.name.now c.self.inside.names.keys
    ∙ ap (λ (names : List (List ℕ)). place_in names c.args.name.now) c.self.view_is
