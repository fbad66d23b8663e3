use Rattle.std.proofs.Common.{◌≡◌, ◌≤◌, map, take, vec_capacity}
use Rattle.c_forms.specs.Back.{entry_of}
use Rattle.c_stations.proofs.entry.put_entries_of.Given as goal

abbrev pub invariant-loop-form : goal.invariant-loop-form
invariant-loop-form l = record {
  items : l.into.items ≡ map entry_of (take l.form-index l.forms);
  capacity : vec_capacity l.fn.into ≤ vec_capacity l.into;
}
