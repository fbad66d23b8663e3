use Rattle.std.proofs.Common.{◌≡◌, ℕ, ◌<◌, Some, ap, sym, ◌∙◌, subst, arith, length, List}
use Rattle.std.proofs.lemmas.List.{with_items_is}
use Rattle.step_journal.specs.State.{row_of}
use Rattle.step_journal.specs.Step.{row_after}
use Rattle.core_tables.specs.Rows.{AreFactsOf}
use Rattle.core_tables.specs.declared.head.Head.{Head}
use Rattle.core_tables.specs.declared.tally.Tally.{Tally}
use Rattle.core_tables.specs.Seen.{tally_of}
use Rattle.core_tables.specs.Changes.{tallies_settled}
use Rattle.core_tables.proofs.Places.{places}
use Rattle.core_tables.proofs.Planned.{at_view}
use Rattle.core_tables.proofs.Effected.{row_here, job_in_set, is_declared, has_its_item, used_low, clock_low, one_here, one_own, one_facts, one_many, end_at, effected, tally_low, head_is, no_head}
use Rattle.core_tables.proofs.tables.CoreTables.effect.Goals as goal

pub overflow_add-at : goal.overflow_add-at
overflow_add-at c =
    let set = c.args.set.now in
    let some = c.requires.granted in
    omega (arith, clock_low set _ some.state c.args.job c.args.op (at_view set _ _ some.state c.self.view_is some.are) some.legal some.granted)

pub step-requires-clause-tx : goal.step-requires-clause-tx
step-requires-clause-tx c =
    let set = c.args.set.now in
    let some = c.requires.granted in
    let are = at_view set _ _ some.state c.self.view_is some.are in
    omega (arith, job_in_set set some.state c.args.job c.args.op some.legal some.granted, (places set _ some.state are some.legal).rows)

pub step-requires-clause-declared : goal.step-requires-clause-declared
step-requires-clause-declared c =
    let set = c.args.set.now in
    let some = c.requires.granted in
    is_declared set _ some.state c.args.job c.args.op (at_view set _ _ some.state c.self.view_is some.are) some.granted

pub step-requires-clause-item : goal.step-requires-clause-item
step-requires-clause-item c =
    let set = c.args.set.now in
    let some = c.requires.granted in
    has_its_item set some.state c.args.job c.args.op _ some.legal some.granted (at_view set _ _ some.state c.self.view_is some.are).rows.facts.items

pub step-requires-clause-items : goal.step-requires-clause-items
step-requires-clause-items c =
    let set = c.args.set.now in
    let some = c.requires.granted in
    let are = at_view set _ _ some.state c.self.view_is some.are in
    omega (arith, (places set _ some.state are some.legal).items, are.rows.facts.items)

pub step-requires-clause-used : goal.step-requires-clause-used
step-requires-clause-used c =
    let set = c.args.set.now in
    let some = c.requires.granted in
    used_low set _ some.state c.args.job c.args.op (at_view set _ _ some.state c.self.view_is some.are) some.legal some.granted

pub settle-end-requires-clause-in_set : goal.settle-end-requires-clause-in_set
settle-end-requires-clause-in_set c =
    let set = c.args.set.now in
    let some = c.requires.granted in
    let are = at_view set _ _ some.state c.self.view_is some.are in
    let was = row_here set _ some.state c.args.job c.args.op are some.legal some.granted in
    let own = one_own set _ some.state c.args.job c.args.op are some.legal some.granted c.step.new.self (c.step.ensures.after some.granted.row was) in
    let head = head_is c.step.result c.in_ok-head.head _ c.in_ok-head.was (c.step.ensures.head some.granted.row was) in
    subst (λ (k : ℕ). k < length set.txns) (sym (ap (λ (h : Head). h.job.tx.0) head ∙ own)) (job_in_set set some.state c.args.job c.args.op some.legal some.granted)

pub settle-end-requires-clause-row : goal.settle-end-requires-clause-row
settle-end-requires-clause-row c =
    let set = c.args.set.now in
    let some = c.requires.granted in
    let are = at_view set _ _ some.state c.self.view_is some.are in
    let was = row_here set _ some.state c.args.job c.args.op are some.legal some.granted in
    let one = c.step.ensures.after some.granted.row was in
    let own = one_own set _ some.state c.args.job c.args.op are some.legal some.granted c.step.new.self one in
    let head = head_is c.step.result c.in_ok-head.head _ c.in_ok-head.was (c.step.ensures.head some.granted.row was) in
    omega (
      arith,
      ap (λ (h : Head). h.job.tx.0) head ∙ own,
      job_in_set set some.state c.args.job c.args.op some.legal some.granted,
      (places set _ some.state are some.legal).rows,
      one_many set _ some.state c.args.job c.args.op are some.legal some.granted c.step.new.self one,
    )

pub settle-end-requires-clause-facts : goal.settle-end-requires-clause-facts
settle-end-requires-clause-facts c =
    let set = c.args.set.now in
    let some = c.requires.granted in
    let are = at_view set _ _ some.state c.self.view_is some.are in
    let one = c.step.ensures.after some.granted.row (row_here set _ some.state c.args.job c.args.op are some.legal some.granted) in
    subst (AreFactsOf set) (sym (one_facts set _ some.state c.args.job c.args.op are some.legal some.granted c.step.new.self one)) are.rows.facts

pub close-requires-clause-row : goal.close-requires-clause-row
close-requires-clause-row c =
    let set = c.args.set.now in
    let some = c.requires.granted in
    let are = at_view set _ _ some.state c.self.view_is some.are in
    let one = c.step.ensures.after some.granted.row (row_here set _ some.state c.args.job c.args.op are some.legal some.granted) in
    omega (
      arith,
      job_in_set set some.state c.args.job c.args.op some.legal some.granted,
      (places set _ some.state are some.legal).rows,
      one_many set _ some.state c.args.job c.args.op are some.legal some.granted c.step.new.self one,
    )

pub close-requires-clause-tally : goal.close-requires-clause-tally
close-requires-clause-tally c =
    let set = c.args.set.now in
    let some = c.requires.granted in
    let are = at_view set _ _ some.state c.self.view_is some.are in
    omega (arith, job_in_set set some.state c.args.job c.args.op some.legal some.granted, (places set _ some.state are some.legal).tallies, ap length c.deref_mut.ensures.value)

pub close-requires-clause-few : goal.close-requires-clause-few
close-requires-clause-few c =
    let set = c.args.set.now in
    let some = c.requires.granted in
    let are = at_view set _ _ some.state c.self.view_is some.are in
    omega (arith, tally_low set _ some.state c.args.job.tx.0 are some.legal, ap (λ (l : List Tally). (tally_of l c.args.job.tx.0).number) c.deref_mut.ensures.value)

pub returns-in_err-head-clause-end : goal.returns-in_err-head-clause-end
returns-in_err-head-clause-end c = λ s now legal g.
    let set = c.args.set.now in
    let are = at_view set _ _ s c.self.view_is now in
    no_head c.step.result _ c.in_err-head.was (c.step.ensures.head g.row (row_here set _ s c.args.job c.args.op are legal g))

pub returns-in_err-head-clause-after : goal.returns-in_err-head-clause-after
returns-in_err-head-clause-after c = λ s now legal g.
    let set = c.args.set.now in
    let are = at_view set _ _ s c.self.view_is now in
    no_head c.step.result _ c.in_err-head.was (c.step.ensures.head g.row (row_here set _ s c.args.job c.args.op are legal g))

pub returns-clause-end : goal.returns-clause-end
returns-clause-end c = λ s now legal g.
    let set = c.args.set.now in
    let are = at_view set _ _ s c.self.view_is now in
    let was = row_here set _ s c.args.job c.args.op are legal g in
    let one = c.step.ensures.after g.row was in
    let here = one_here set _ s c.args.job c.args.op are legal g c.step.new.self one in
    let own = one_own set _ s c.args.job c.args.op are legal g c.step.new.self one in
    let head = head_is c.step.result c.in_ok-head.head _ c.in_ok-head.was (c.step.ensures.head g.row was) in
    let same = ap (λ (h : Head). h.job.tx.0) head in
    let there = subst (λ (k : ℕ). row_of c.step.new.self.rows k ≡ Some (row_after s g.row c.args.op)) (sym (same ∙ own)) here in
    end_at set _ s c.args.job c.args.op are legal g c.step.new.self one c.settle-end.result (c.settle-end.ensures.end (row_after s g.row c.args.op) there (sym same) head)

pub returns-clause-after : goal.returns-clause-after
returns-clause-after c = λ s now legal g.
    let set = c.args.set.now in
    let are = at_view set _ _ s c.self.view_is now in
    let was = row_here set _ s c.args.job c.args.op are legal g in
    let one = c.step.ensures.after g.row was in
    let here = one_here set _ s c.args.job c.args.op are legal g c.step.new.self one in
    let own = one_own set _ s c.args.job c.args.op are legal g c.step.new.self one in
    let head = head_is c.step.result c.in_ok-head.head _ c.in_ok-head.was (c.step.ensures.head g.row was) in
    let same = ap (λ (h : Head). h.job.tx.0) head in
    let there = subst (λ (k : ℕ). row_of c.step.new.self.rows k ≡ Some (row_after s g.row c.args.op)) (sym (same ∙ own)) here in
    effected set _ s c.args.job c.args.op are legal g c.step.new.self one c.settle-end.result c.settle-end.new.items c.close.new.pending _
    (c.settle-end.ensures.end (row_after s g.row c.args.op) there (sym same) head)
    (c.settle-end.ensures.items (row_after s g.row c.args.op) there (sym same) head)
    (c.close.ensures.pending (row_after s g.row c.args.op) here)
    (with_items_is c.self.inside.tallies c.close.new.tallies (c.close.auto.tallies ∙ c.deref_mut.ensures.len)
    ∙ (c.close.ensures.tallies ∙ ap (tallies_settled c.args.job.tx.0 c.settle-end.result) c.deref_mut.ensures.value))
