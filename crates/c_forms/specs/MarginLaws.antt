-- Nothing is lost between a margin and its record.
use Rattle.std.specs.Prelude.{◌≡◌, ◌==◌, if◌then◌else◌, Option, None, Some}
use Rattle.scale_margin.specs.declared.barrier.Barrier.{Barrier}
use Rattle.scale_margin.specs.declared.barrier.Barrier.TheVariants.{Compile, Admit}
use Rattle.scale_margin.specs.declared.barrier.Margin.{Margin}
use Rattle.scale_margin.specs.Barriers.{IsCause}
use Rattle.c_forms.specs.Refusals.{rule_of, admission_of}
use Rattle.c_forms.specs.declared.margin_forms.MarginForm.{MarginForm}
use Rattle.c_forms.specs.Margins.{form_of_margin}

-- what a record says bars the next percentage
abbrev pub barrier_of : MarginForm → Option Barrier
barrier_of form =
    if form.barrier == 9 then Some (Compile (rule_of form.refusal))
    else (if form.barrier == 10 then Some (Admit (admission_of form.refusal)) else None)

abbrev pub margin_of : MarginForm → Margin
margin_of form = record { percent = form.percent; barrier = barrier_of form }

-- want of memory is no barrier, and each other cause is read back
abbrev pub MarginsComeBack : Type 0
MarginsComeBack = (margin : Margin) → IsCause margin.barrier → margin_of (form_of_margin margin) ≡ margin
