use Rattle.std.proofs.Common.{rules}
use Rattle.journal_text.proofs.NumeralLaws.{of_is}
use Rattle.journal_text.proofs.numeral.Numeral.of.Goals as goal

pub invariant_of-result : goal.invariant_of-result
invariant_of-result c =
    of_is c.args.number c.copy_from_slice.new.self c.as_bytes-text.result.now (search rules) (search rules) (search rules)
