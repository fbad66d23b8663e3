use Rattle.name_table.proofs.Places.{key_behind}
use Rattle.name_table.proofs.Numbers.add.Goals as goal

pub returns-clause-added : goal.returns-clause-added
returns-clause-added c =
    key_behind (λ k. k.items) c.args.name.now c.self.inside.names.keys c.insert.new.self.keys c.args.self.now
    c.in_ok-from_slice.field-0 c.self.view_is c.in_ok-from_slice.ensures.items c.requires.new c.in_ok-insert.ensures.keys
