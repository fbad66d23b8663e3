use Rattle.std.proofs.Common.{List, sym, ◌∙◌, ap}
use Rattle.response_test.specs.declared.windows.Load.{Load}
use Rattle.response_test.specs.Loads.{window}
use Rattle.response_test.proofs.Iteration.{window-found, window-none}
use Rattle.response_test.proofs.windows.Loads.least_window.Goals as goal
use Rattle.response_test.proofs.windows.Loads.least_window.Goals.{then-window-most, else-window-most}

pub returns-clause-window : goal.returns-clause-window
returns-clause-window c =
    let same = ap (λ (loads : List Load). window loads c.args.own c.args.most) (c.deref.ensures.value ∙ c.self.view_is) in
    elim c.if-window-most.branch [
      | then-window-most w ↦ w.result-is ∙ sym (window-found _ _ _ _ c.first_window-window.ensures.below w.if-window-most.true (c.first_window-window.ensures.holds w.if-window-most.true)) ∙ same
      | else-window-most w ↦ w.result-is ∙ sym (window-none _ _ _ _ c.first_window-window.ensures.below w.if-window-most.false) ∙ same
    ]
