-- The slack that is found is that of the text.
use Rattle.std.proofs.Common.{◌≡◌, ℕ, ◌+◌, Option, ap, ◌∙◌}
use Rattle.set_admission.specs.declared.error.AdmitError.{AdmitError}
use Rattle.txn_set.specs.Set.{Set}
use Rattle.scale_margin.specs.declared.limits.Slack.{Slack}
use Rattle.scale_margin.specs.Steps.{barrier_within}
use Rattle.scale_margin.specs.Slacks.{IsSlack}
use Rattle.tool_command.specs.Slacks.{slack_at}

abbrev made : ℕ → ℕ → Option AdmitError → Slack
made steps most barrier = record { steps = steps; most = most; barrier = barrier }

parts : (a : Slack) (steps most : ℕ) (barrier : Option AdmitError) → a.steps ≡ steps → a.most ≡ most → a.barrier ≡ barrier → a ≡ made steps most barrier
parts a steps most barrier e f g =
    ap (λ (n : ℕ). made n a.most a.barrier) e ∙ (ap (λ (n : ℕ). made steps n a.barrier) f ∙ ap (λ (b : Option AdmitError). made steps most b) g)

pub slack_is : (set : Set) (tx : ℕ) (a : Slack) → IsSlack set tx a → a ≡ slack_at set tx
slack_is set tx a is = parts a _ _ _ is.steps is.most (is.barrier ∙ ap (λ (n : ℕ). barrier_within set tx (n + 1)) is.most)
