-- Words both ways.
use Rattle.std.proofs.Common.{ℕ, List}
use Rattle.rt_base.specs.Names.{AreNames}
use Rattle.journal_text.specs.Laws.{NumbersBothWays, IdsBothWays}
use Rattle.line_fields.proofs.NumberLaws.{unsigned_takes, unsigned_again, unsigned_lacks, short_takes, short_again, short_lacks, signed_takes, signed_again, signed_lacks}
use Rattle.journal_text.proofs.IdLaws.{tx_takes, tx_again, item_takes, item_again, id_lacks, job_takes, job_again, job_lacks}

pub numbers : NumbersBothWays
numbers = record {
  unsigned = record { both = record { again = unsigned_again; takes = unsigned_takes }; no_blank = unsigned_lacks };
  short = record { both = record { again = short_again; takes = short_takes }; no_blank = short_lacks };
  signed = record { both = record { again = signed_again; takes = signed_takes }; no_blank = signed_lacks };
}

pub named : (names : List (List ℕ)) → AreNames names → IdsBothWays names
named names good = record {
  tx = record {
    both = record { again = λ tx lt. tx_again names tx good lt; takes = tx_takes names };
    no_blank = λ tx lt. id_lacks names tx.0 good lt;
  };
  item = record {
    both = record { again = λ item lt. item_again names item good lt; takes = item_takes names };
    no_blank = λ item lt. id_lacks names item.0 good lt;
  };
  job = record {
    both = record { again = λ job fits. job_again names job good fits; takes = job_takes names };
    no_blank = λ job fits. job_lacks names job good fits;
  };
}
