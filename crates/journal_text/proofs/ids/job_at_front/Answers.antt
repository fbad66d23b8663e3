use Rattle.std.proofs.Common.{sym, arith}
use Rattle.journal_text.proofs.IdLaws.{next_job_found}
use Rattle.journal_text.proofs.ids.job_at_front.Goals as goal

pub returns : goal.returns
returns c =
    next_job_found c.args.names.now.txns c.args.bytes.now c.in_ok-front.front.now c.in_ok-name.name.now c.in_ok-name.after.now c.in_ok-serial.rest.now c.in_ok-tx.tx c.in_ok-serial.serial
    c.in_ok-front.ensures c.in_ok-name.ensures.0 c.in_ok-name.ensures.1.0 c.in_ok-name.ensures.1.1 c.in_ok-serial.ensures.written c.in_ok-serial.ensures.ends (omega (arith, c.if-serial.false)) (sym c.in_ok-tx.ensures)
