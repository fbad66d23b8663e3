-- The ceilings of ticks, one by one.
use Rattle.std.proofs.Common.{◌≡◌, ℕ, suc, ◌+◌, ◌-◌, ◌<◌, ◌≤◌, List, [], ◌∷◌, ◌++◌, sym, ap, ◌∙◌, append_assoc, append-nil, arith}
use Rattle.schedule_marks.specs.declared.mark.Mark.{Mark}
use Rattle.schedule_marks.specs.Marks.{ceiling_at, ceilings_from}

left_more : (tick to : ℕ) → tick < to → to - tick ≡ suc (to - (tick + 1))
left_more tick to lt = omega (arith, lt)

left_none : (tick to : ℕ) → to ≤ tick → to - tick ≡ 0
left_none tick to le = omega (arith, le)

pub next_ceiling : (locks before out new : List Mark) (tick to : ℕ) → tick < to → new ≡ out ++ ceiling_at locks tick ∷ []
    → out ++ ceilings_from locks tick (to - tick) ≡ before
    → new ++ ceilings_from locks (tick + 1) (to - (tick + 1)) ≡ before
next_ceiling locks before out new tick to lt is so =
    ap (λ (o : List Mark). o ++ ceilings_from locks (tick + 1) (to - (tick + 1))) is
    ∙ append_assoc out (ceiling_at locks tick ∷ []) (ceilings_from locks (tick + 1) (to - (tick + 1)))
    ∙ ap (λ (n : ℕ). out ++ ceilings_from locks tick n) (sym (left_more tick to lt))
    ∙ so

pub all_ceilings : (locks before out : List Mark) (tick to : ℕ) → to ≤ tick
    → out ++ ceilings_from locks tick (to - tick) ≡ before → out ≡ before
all_ceilings locks before out tick to le so =
    sym (append-nil out) ∙ ap (λ (n : ℕ). out ++ ceilings_from locks tick n) (sym (left_none tick to le)) ∙ so
