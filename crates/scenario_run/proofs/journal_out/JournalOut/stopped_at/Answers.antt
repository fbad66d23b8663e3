use Rattle.std.proofs.Common.{rules, ◌≡◌, ◌<◌, ◌+◌, ◌-◌, ◌^◌, length, subst, arith}
use Rattle.scenario_run.specs.declared.standing.JournalStanding.{JournalStanding}
use Rattle.scenario_run.specs.Outs.{IsOtherIn, LostAt}
use Rattle.scenario_run.proofs.Putting.{other_record}
use Rattle.scenario_run.proofs.journal_out.JournalOut.stopped_at.Goals as goal

pub returns-in-Other-clause-other : goal.returns-in-Other-clause-other
returns-in-Other-clause-other g c = λ piece rest h.
    let out = c.args.self.now in
    let other : IsOtherIn out.there.items out.kept.items piece c.in-Other.place =
    subst (λ (s : JournalStanding). LostAt s out.there.items out.kept.items piece) c.in-Other.is h in
    let within : c.in-Other.place < length out.there.items = other.first.within in
    let few : length out.there.items < 2 ^ 64 - 1 = omega (arith, out.there.ok.0) in
    let is : c.saturating_add.result ≡ c.in-Other.place + 1 = omega (arith, c.saturating_add.ensures, within, few) in
    other_record out.there.items out.kept.items piece rest c.in-Other.place c.saturating_add.result other is
