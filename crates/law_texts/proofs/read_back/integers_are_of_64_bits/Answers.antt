use Rattle.law_texts.proofs.Generated.{generated_has_integers}
use Rattle.law_texts.proofs.Integers.{read_has_integers}
use Rattle.law_texts.proofs.read_back.integers_are_of_64_bits.Goals as goal

pub returns-clause-read : goal.returns-clause-read
returns-clause-read c = read_has_integers

pub returns-clause-generated : goal.returns-clause-generated
returns-clause-generated c = generated_has_integers
