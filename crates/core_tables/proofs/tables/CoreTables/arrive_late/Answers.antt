use Rattle.std.proofs.Common.{◌∙◌}
use Rattle.std.proofs.lemmas.List.{with_items_is}
use Rattle.core_tables.proofs.Arrived.{arrive_cancels, arrive_releases, arrives}
use Rattle.core_tables.proofs.Planned.{at_view}
use Rattle.core_tables.proofs.tables.CoreTables.arrive_late.Goals as goal

pub cancel-requires : goal.cancel-requires
cancel-requires c =
    let set = c.requires.arrives.0 in
    let some = c.requires.arrives.1 in
    let are = at_view set _ _ some.state c.self.view_is some.are in
    record { set = set; facts = are.rows.facts; can = arrive_cancels set c.args.tick _ some.state are some.can c.deref_mut.result.now c.deref_mut.ensures.value }

pub release-requires-clause-can : goal.release-requires-clause-can
release-requires-clause-can c =
    let set = c.requires.arrives.0 in
    let some = c.requires.arrives.1 in
    let are = at_view set _ _ some.state c.self.view_is some.are in
    let can = arrive_cancels set c.args.tick _ some.state are some.can c.deref_mut.result.now c.deref_mut.ensures.value in
    record {
      planned = some.state.planned;
      holds = are.planned;
      can = arrive_releases set c.args.tick _ some.state are some.can c.cancel.new.pending (c.cancel.ensures.pending set are.rows.facts can);
    }

pub returns : goal.returns
returns c = λ set s now can.
    let are = at_view set _ _ s c.self.view_is now in
    let cancel = arrive_cancels set c.args.tick _ s are can c.deref_mut.result.now c.deref_mut.ensures.value in
    let rows = c.cancel.ensures.pending set are.rows.facts cancel in
    let free = arrive_releases set c.args.tick _ s are can c.cancel.new.pending rows in
    arrives set c.args.tick _ s are can c.cancel.new.pending c.release.new.pending c.deref_mut.result.now _ c.release.new.calendar c.deref_mut.ensures.value rows
    (with_items_is c.self.inside.tallies c.cancel.new.tallies (c.cancel.auto.tallies ∙ c.deref_mut.ensures.len) ∙ c.cancel.ensures.tallies set are.rows.facts cancel)
    c.release.ensures.facts (c.release.ensures.rows s.planned are.planned free) (c.release.ensures.planned s.planned are.planned free) c.release.ensures.rest
