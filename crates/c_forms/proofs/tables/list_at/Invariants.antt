use Rattle.std.proofs.Common.{◌≡◌, map, take}
use Rattle.c_forms.proofs.tables.list_at.Given as goal

abbrev pub invariant-loop-id : goal.invariant-loop-id
invariant-loop-id l = l.list.items ≡ map (λ i. record { 0 = i }) (take l.id-index l.id-items)
