use Rattle.std.proofs.Common.{subst}
use Rattle.rt_base.specs.declared.name.Names.{Names}
use Rattle.c_stations.specs.Opening.{WhyNotOpened, WhyUnread}
use Rattle.c_stations.proofs.Transfers.{err_of, unread_opens}
use Rattle.c_stations.proofs.log_opening.open_file.Goals as goal

pub returns-in_err-names-clause-refused : goal.returns-in_err-names-clause-refused
returns-in_err-names-clause-refused c =
    err_of c.from_residual.result c.in_err-names.field-0.0 (WhyNotOpened c.args.text.now c.args.room c.args.bytes.now) c.from_residual.ensures.1 (c.in_err-names.ensures.refused c.args.room c.args.bytes.now)

pub returns-clause-refused : goal.returns-clause-refused
returns-clause-refused c =
    let set = c.in_ok-names.set in
    unread_opens c.args.text.now c.args.room c.args.bytes.now c.in_ok-names.names set c.in-Err.error c.in_ok-names.ensures.declares
    (subst (λ (n : Names). WhyUnread n set c.args.room c.args.bytes.now c.in-Err.error) c.names.ensures c.in-Err.ensures.refused)
