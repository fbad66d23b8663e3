-- The rows of a set have the responses of its transactions and the age bounds of its items.
use Rattle.std.proofs.Common.{◌∙◌, ap}
use Rattle.rt_base.specs.declared.ids.TxId.{TxId}
use Rattle.txn_set.specs.Set.{Set, IsCompiled}
use Rattle.law_times.specs.Response.{response}
use Rattle.set_admission.specs.Laws.{RowsAgree}
use Rattle.set_admission.proofs.Link.{response-at}
use Rattle.set_admission.proofs.AgeRows.{same-age}

pub rows_agree : (set : Set) → IsCompiled set → RowsAgree set
rows_agree set ok = record {
  responses = λ rank tx inside is. response-at set ok rank tx inside ∙ ap (λ (t : TxId). response set t.0) is;
  ages = same-age set ok;
}
