use Rattle.std.proofs.Common.{◌≡◌, ◌++◌, map, take, drop}
use Rattle.c_forms.specs.Forms.{form_of_entry}
use Rattle.c_forms.proofs.entries.put_entries.Given as goal

abbrev pub invariant-loop-place : goal.invariant-loop-place
invariant-loop-place l = l.into ≡ map form_of_entry (take l.place l.entries) ++ drop l.place l.initial.into
