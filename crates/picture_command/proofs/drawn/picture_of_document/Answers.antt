use Rattle.std.proofs.Common.{◌≡◌, ◌∙◌, ℕ, List, IfOk, subst, ap}
use Rattle.txn_set.specs.Set.{Set}
use Rattle.picture_command.specs.Limits.{limits_of}
use Rattle.picture_command.proofs.Legal.{parts_picture}
use Rattle.picture_command.proofs.drawn.picture_of_document.Goals as goal

pub returns : goal.returns
returns c =
    subst (λ (t : List ℕ). IfOk c.picture_of.result (λ text. text.items ≡ t))
    (parts_picture _ _ _ _ _ _ _ _ c.args.wanted (c.names.ensures ∙ c.in_ok-tables.ensures.names)
    (c.in_ok-set.ensures.same ∙ c.in_ok-tables.ensures.set)
    (c.in_ok-set.ensures.limits ∙ ap (λ (q : Set). limits_of q c.args.document.head.admitted) c.in_ok-tables.ensures.set)
    c.as_slice.ensures)
    c.picture_of.ensures
