use Rattle.core_tables.proofs.Facts.{known, idle_arrives}
use Rattle.core_tables.proofs.tables.CoreTables.go_on.Goals as goal

pub arrive-requires : goal.arrive-requires
arrive-requires c =
    let set = c.requires.idle.0 in
    let some = c.requires.idle.1 in
    record { arrives = (set, record { state = some.state; are = some.are; can = idle_arrives set some.state c.args.to (known set some.state some.legal) some.idle }) }

pub returns : goal.returns
returns c = λ set s are legal idle. c.arrive.ensures set s are (idle_arrives set s c.args.to (known set s legal) idle)
