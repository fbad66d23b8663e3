use Rattle.std.proofs.Common.{◌≡◌, ◌∙◌, List, ℕ, ap, reverse, subst}
use Rattle.durable_journal.specs.Opened.{IsRefused}
use Rattle.c_stations.specs.Calls.{held}
use Rattle.c_stations.specs.Device.{Device, Queued}
use Rattle.c_stations.proofs.log_opening.opened_on.Goals as goal

pub returns-in-Err-clause-refused : goal.returns-in-Err-clause-refused
returns-in-Err-clause-refused g c =
    let base = g.T.Based.base in
    let names = c.args.names.now in
    let set = c.args.set.now in
    let same : held base (reverse c.over-disk.result.calls) ≡ base =
    ap (λ (d : Device). held base (reverse d.calls)) c.over-disk.ensures ∙ ap (λ (q : Queued). held base (reverse q.calls)) c.requires.base in
    c.refused_by.ensures.read names set c.args.room base c.requires.some
    (subst (λ (file : List ℕ). IsRefused names set c.args.room file c.in-Err.error) same c.in-Err.ensures.refused)
