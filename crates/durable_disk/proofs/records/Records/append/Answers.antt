use Rattle.std.proofs.Common.{ℕ, List, ◌++◌, ◌∷◌, [], true, subst}
use Rattle.std.specs.Prelude.{⊤}
use Rattle.durable_disk.specs.Standing.{RecordsSeen, Stands}
use Rattle.durable_disk.proofs.Calls.{at_rest, may_be_left}
use Rattle.durable_disk.proofs.records.Records.append.Goals as goal

pub returns-in_default-open_gate-clause-stands : goal.returns-in_default-open_gate-clause-stands
returns-in_default-open_gate-clause-stands g c =
    let d = g.D.Disk in
    let log = c.self.inside in
    let new = c.open_gate.new.disk in
    let body = c.args.body.now in
    subst (λ (l : RecordsSeen _). ⊤ → (bodies : List (List ℕ)) → Stands (d.seen l.disk) (d.may_leave l.disk) l.count l.stopped bodies → Stands (d.seen new) (d.may_leave new) log.count true (bodies ++ body ∷ [])) c.self.view_is
    (λ _ bodies stands.
    let rest = at_rest (d.seen log.disk) (d.may_leave log.disk) log.count log.stopped bodies c.if-self.false stands in
    may_be_left (d.seen new) (d.may_leave new) log.count bodies body rest.0
    (c.open_gate.ensures.now bodies body rest.0 (c.in-Ok.ensures.staged bodies rest.0 rest.1)))
