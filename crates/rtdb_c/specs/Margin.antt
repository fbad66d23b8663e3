-- What an open handle answers to the question for the margin of its set.
use Rattle.std.specs.Prelude.{◌≡◌, ◌≢◌, ◌⊎◌, ℕ}
use Rattle.c_core.specs.Open.{OpenSeen}
use Rattle.c_forms.specs.declared.margin_forms.MarginForm.{MarginForm}
use Rattle.c_forms.specs.Margins.{ToldMargin}

pub record IsMarginOf (status : ℕ) (before after : MarginForm) (s t : OpenSeen) : Type 0 where
  pub same : t ≡ s
  pub status_is : (status ≡ 0) ⊎ (status ≡ 11)
  pub refused : status ≢ 0 → after ≡ before
  pub margin : status ≡ 0 → ToldMargin s.board.set after
