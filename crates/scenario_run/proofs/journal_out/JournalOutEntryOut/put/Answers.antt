use Rattle.std.proofs.Common.{rules, arith, ◌≡◌, ◌+◌, ◌<◌, ◌++◌, List, take, drop, length, sym, ap, subst, ◌∙◌, ℕ}
use Rattle.step_journal.specs.declared.entry.Entry.{Entry}
use Rattle.step_journal.specs.History.{IsLegal}
use Rattle.scenario_run.specs.Outs.{IsGoing, IsOtherIn, LeavesFronts}
use Rattle.scenario_run.proofs.Putting.{goes, taken_at, put_other, put_goes_on, put_leaves, put_begins, put_taken, going_here, going_back, legal_back, begins_back, leaves_back, of_now}
use Rattle.scenario_run.proofs.Fronts.{not_ok}
use Rattle.scenario_run.proofs.journal_out.JournalOutEntryOut.put.Goals as goal

pub append_all-requires-clause-legal : goal.append_all-requires-clause-legal
append_all-requires-clause-legal g c =
    let d = g.D.Disk in
    let out = c.args.self.now in
    let fine = c.requires.fine in
    let begun = g.T.Journaled.begun in
    let names = out.names.now in
    let set = out.set.now in
    let there = out.there.items in
    let kept = out.kept.items in
    let e = c.args.entries.now in
    let going : IsGoing d.seen d.may_leave d.moment d.left_since names set begun.disk out.log there kept =
    going_here d.seen d.may_leave d.moment d.left_since begun names set there out.room out.log.disk fine.1.1 out.standing out.log kept fine.0 c.requires.nothing_lost.0 fine.1.0 fine.1.2 in
    let legal : IsLegal set (kept ++ e) = legal_back d.seen d.may_leave d.moment d.left_since begun names set there out.room out.log.disk fine.1.1 kept e fine.0 fine.1.0 fine.2.0 in
    let known : c.some_from-known.result.now ≡ take (length e) (drop (length kept) there) = search rules in
    put_goes_on d.seen d.may_leave d.moment d.left_since names set begun.disk out.log there kept e c.some_from-known.result.now going legal known c.in_default.ensures

pub returns-clause-taken : goal.returns-clause-taken
returns-clause-taken g c = λ history got.
    let d = g.D.Disk in
    let out = c.args.self.now in
    let fine = c.requires.fine in
    let begun = g.T.Journaled.begun in
    let names = out.names.now in
    let set = out.set.now in
    let there = out.there.items in
    let kept = out.kept.items in
    let e = c.args.entries.now in
    let going : IsGoing d.seen d.may_leave d.moment d.left_since names set begun.disk out.log there kept =
    going_here d.seen d.may_leave d.moment d.left_since begun names set there out.room out.log.disk fine.1.1 out.standing out.log kept fine.0 c.requires.nothing_lost.0 fine.1.0 fine.1.2 in
    let legal : IsLegal set (kept ++ e) = legal_back d.seen d.may_leave d.moment d.left_since begun names set there out.room out.log.disk fine.1.1 kept e fine.0 fine.1.0 fine.2.0 in
    let known : c.some_from-known.result.now ≡ take (length e) (drop (length kept) there) = search rules in
    let new = c.append_all.new.self in
    let moments : LeavesFronts d.seen d.moment d.left_since names set begun.disk new.disk there (kept ++ e) =
    put_leaves d.seen d.may_leave d.moment d.left_since names set begun.disk out.log there kept e c.some_from-known.result.now going legal known c.in_default.ensures new.disk fine.1.1.tells c.append_all.ensures.any_moment in
    let taken : IsGoing d.seen d.may_leave d.moment d.left_since names set begun.disk new there (kept ++ e) =
    put_taken d.seen d.may_leave d.moment d.left_since names set begun.disk out.log there kept e c.some_from-known.result.now going legal known c.in_default.ensures
    new (c.in-Ok.ensures.goes going.goes) c.in-Ok.ensures.stands (λ none. (c.append_all.ensures.none none).1) moments in (
      c.append.ensures.items ∙ ap (λ (l : List Entry). l ++ e) got.0,
      of_now d.seen d.may_leave d.moment d.left_since begun names set there out.room out.log.disk got.1 new.disk c.append_all.ensures.faults.told,
      taken_at out.standing _ (goes out.standing begun.there kept c.requires.nothing_lost.0)
          (going_back d.seen d.may_leave d.moment d.left_since begun names set there out.room out.log.disk got.1 new kept e history got.0 taken),
    )

pub returns-in-Some-clause-lost : goal.returns-in-Some-clause-lost
returns-in-Some-clause-lost g c =
    let d = g.D.Disk in
    let out = c.args.self.now in
    let fine = c.requires.fine in
    let begun = g.T.Journaled.begun in
    let names = out.names.now in
    let set = out.set.now in
    let there = out.there.items in
    let kept = out.kept.items in
    let e = c.args.entries.now in
    let going : IsGoing d.seen d.may_leave d.moment d.left_since names set begun.disk out.log there kept =
    going_here d.seen d.may_leave d.moment d.left_since begun names set there out.room out.log.disk fine.1.1 out.standing out.log kept fine.0 c.requires.nothing_lost.0 fine.1.0 fine.1.2 in
    let known : c.some_from-known.result.now ≡ take (length e) (drop (length kept) there) = search rules in
    let other : IsOtherIn there kept e (length kept + c.in-Some.at) =
    put_other there kept e c.some_from-known.result.now c.in-Some.at going.agrees known c.in-Some.ensures in
    let place : c.len-place.result ≡ length kept = search rules in (
      subst (λ (n : ℕ). IsOtherIn begun.there kept e (n + c.in-Some.at)) (sym place)
          (subst (λ (l : List Entry). IsOtherIn l kept e (length kept + c.in-Some.at)) fine.1.1.there_is other),
      going.untouched (omega (arith, other.first.within)),
    )

pub returns-in_default-append_all-clause-lost : goal.returns-in_default-append_all-clause-lost
returns-in_default-append_all-clause-lost g c =
    let d = g.D.Disk in
    let out = c.args.self.now in
    let fine = c.requires.fine in
    let begun = g.T.Journaled.begun in
    let names = out.names.now in
    let set = out.set.now in
    let there = out.there.items in
    let kept = out.kept.items in
    let e = c.args.entries.now in
    let going : IsGoing d.seen d.may_leave d.moment d.left_since names set begun.disk out.log there kept =
    going_here d.seen d.may_leave d.moment d.left_since begun names set there out.room out.log.disk fine.1.1 out.standing out.log kept fine.0 c.requires.nothing_lost.0 fine.1.0 fine.1.2 in
    let legal : IsLegal set (kept ++ e) = legal_back d.seen d.may_leave d.moment d.left_since begun names set there out.room out.log.disk fine.1.1 kept e fine.0 fine.1.0 fine.2.0 in
    let known : c.some_from-known.result.now ≡ take (length e) (drop (length kept) there) = search rules in
    let new = c.append_all.new.self in
    let some : 0 < length e = search rules in (
      (
        some,
        begins_back d.seen d.may_leave d.moment d.left_since begun names set there out.room out.log.disk fine.1.1 (kept ++ e)
            (put_begins d.seen d.may_leave d.moment d.left_since names set begun.disk out.log there kept e c.some_from-known.result.now going legal known c.in_default.ensures
            (λ none. not_ok c.append_all.result _ c.in_default-append_all.is (c.append_all.ensures.none none).0)),
      ),
      leaves_back d.seen d.may_leave d.moment d.left_since begun names set there out.room out.log.disk fine.1.1 new.disk (kept ++ e)
          (put_leaves d.seen d.may_leave d.moment d.left_since names set begun.disk out.log there kept e c.some_from-known.result.now going legal known c.in_default.ensures new.disk fine.1.1.tells c.append_all.ensures.any_moment),
    )
