use Rattle.std.proofs.Common.{◌≡◌, [], ap, sym, subst, refl}
use Rattle.std.specs.List.{fold}
use Rattle.txn_set.specs.Set.{Set}
use Rattle.core_tables.specs.Rows.{AreFactsOf}
use Rattle.core_tables.specs.Seen.{TablesSeen}
use Rattle.core_tables.specs.Changes.{late_jobs, tally_late}
use Rattle.core_tables.proofs.Arrived.{arrive_releases, arrives}
use Rattle.core_tables.proofs.Cancels.{cancelled_none}
use Rattle.core_tables.proofs.Planned.{at_view}
use Rattle.core_tables.proofs.tables.CoreTables.arrive_in_time.Goals as goal

pub release-requires-clause-can : goal.release-requires-clause-can
release-requires-clause-can c =
    let set = c.requires.arrives.0 in
    let some = c.requires.arrives.1 in
    let are = at_view set _ _ some.state c.self.view_is some.are in
    let in_time : (set : Set) → AreFactsOf set c.self.inside.pending.facts → late_jobs set c.args.tick c.self.inside.pending.rows ≡ [] =
    subst (λ (t : TablesSeen). (set : Set) → AreFactsOf set t.pending.facts → late_jobs set c.args.tick t.pending.rows ≡ []) (sym c.self.view_is) c.requires.in_time in
    record {
      planned = some.state.planned;
      holds = are.planned;
      can = arrive_releases set c.args.tick _ some.state are some.can c.self.inside.pending (cancelled_none set c.args.tick c.self.inside.pending (in_time set are.rows.facts));
    }

pub returns : goal.returns
returns c = λ set s now can.
    let are = at_view set _ _ s c.self.view_is now in
    let in_time : (set : Set) → AreFactsOf set c.self.inside.pending.facts → late_jobs set c.args.tick c.self.inside.pending.rows ≡ [] =
    subst (λ (t : TablesSeen). (set : Set) → AreFactsOf set t.pending.facts → late_jobs set c.args.tick t.pending.rows ≡ []) (sym c.self.view_is) c.requires.in_time in
    let none = in_time set are.rows.facts in
    let rows = cancelled_none set c.args.tick c.self.inside.pending none in
    let free = arrive_releases set c.args.tick _ s are can c.self.inside.pending rows in
    arrives set c.args.tick _ s are can c.self.inside.pending c.release.new.pending _ _ c.release.new.calendar refl rows
    (ap (fold tally_late c.self.inside.tallies.items) (sym none))
    c.release.ensures.facts (c.release.ensures.rows s.planned are.planned free) (c.release.ensures.planned s.planned are.planned free) c.release.ensures.rest
