use Rattle.table_tests.proofs.waits.blocks.Given as goal

abbrev pub ghosts-may_block : goal.ghosts-may_block
ghosts-may_block a = record { name = a.blank.name; parts = a.blank.parts }
