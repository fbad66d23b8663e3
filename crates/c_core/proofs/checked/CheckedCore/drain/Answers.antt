use Rattle.std.proofs.Common.{◌≡◌, ◌∙◌, ◌-◌, ◌++◌, ℕ, List, length, take, min, ap, vec_len, vec_capacity, arith, rules}
use Rattle.step_journal.specs.declared.entry.Entry.{Entry}
use Rattle.c_core.proofs.Calling.{drained}
use Rattle.c_core.proofs.checked.CheckedCore.drain.Goals as goal

pub returns : goal.returns
returns c =
    let core = c.self.inside.core in let spare = c.self.inside.spare in let count = c.drain-count.result in
    let long : vec_len spare ≡ length spare.items = search rules in
    let places : vec_capacity spare - vec_len spare ≡ 64 = omega (arith, long, ap length c.self.invariant.1, c.self.invariant.2) in
    drained core c.drain-count.new.self c.self.inside.admitted c.args.self.now count c.as_slice.result.now c.args.into.now c.put_entries.new.into c.self.view_is
    (c.drain-count.ensures.count ∙ ap (λ (n : ℕ). min (length c.args.into.now) (min (length core.journal.kept) n)) places)
    (c.as_slice.ensures.value ∙ c.drain-count.ensures.moved ∙ ap (λ (l : List Entry). l ++ take count core.journal.kept) c.self.invariant.1)
    c.put_entries.ensures c.drain-count.ensures.left c.drain-count.ensures.fixed c.drain-count.ensures.after c.keeps_bounds.ensures
