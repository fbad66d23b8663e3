-- The declarations of a head may be compiled, and are kept as they are.
use Rattle.txn_compiler.specs.Kept.{IsInRange, AreLists}
use Rattle.report_text.specs.declared.read.Head.{Head}
use Rattle.report_text.specs.IsHead.{IsHead, set_of}

pub in_range : (head : Head) → IsHead head → IsInRange (set_of head)
in_range head h = record {
  reads = λ k d lt. (h.reads k d lt).in_range;
  writes = λ k d lt. (h.writes k d lt).in_range;
  together = λ k d lt. (h.together k d lt).in_range;
}

pub are_lists : (head : Head) → IsHead head → AreLists (set_of head)
are_lists head h = record { reads = h.reads; writes = h.writes; together = h.together }
