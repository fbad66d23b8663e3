use Rattle.std.proofs.Common.{◌≡◌, ℕ, ◌<◌, List, ◌++◌, length, vec_len, ap, sym, subst, ◌∙◌, arith, rules}
use Rattle.std.specs.Prelude.{Bool, is_some}
use Rattle.std.proofs.lemmas.List.{get_or_read}
use Rattle.rt_base.specs.declared.name.Names.{Names}
use Rattle.txn_set.specs.Set.{Set, no_txn}
use Rattle.job_rows.specs.declared.row.JobRow.{JobRow}
use Rattle.report_text.proofs.RowLaws.{next_row}
use Rattle.report_export.specs.declared.tally.Tally.{Tally}
use Rattle.report_export.specs.Worsts.{jobs_of}
use Rattle.report_export.specs.Tallies.{no_jobs, tally_at, tallied, IsTally}
use Rattle.report_export.specs.Texts.{txn_lines}
use Rattle.report_export.proofs.Tallying.{tallied_length, are_tallied}
use Rattle.report_export.proofs.SumTelling.{tally_told, rows_in}
use Rattle.report_export.proofs.summing.add_txns.Goals as goal

pub index-requires : goal.index-requires
index-requires c =
    let n : ℕ = length c.txns-txns.result.now in
    let count : length c.in_ok-tallies.tallies.items ≡ n = ap length c.in_ok-tallies.ensures ∙ tallied_length n c.args.rows.now in
    let same : vec_len c.in_ok-tallies.tallies ≡ length c.in_ok-tallies.tallies.items = search rules in
    omega (arith, c.loop-i-test.true, count, same)

pub loop-i-preserved : goal.loop-i-preserved
loop-i-preserved c =
    let names : Names = c.args.summed.names.now in
    let set : Set = c.args.summed.set.now in
    let admitted : Bool = is_some c.args.summed.bounds in
    let rows : List JobRow = c.args.rows.now in
    let n : ℕ = length c.txns-txns.result.now in
    let i : ℕ = c.loop-i.i in
    let lt : i < n = c.loop-i-test.true in
    let tallies : List Tally = c.in_ok-tallies.tallies.items in
    let told : Tally = c.index.result.now in
    let count : length tallies ≡ n = ap length c.in_ok-tallies.ensures ∙ tallied_length n rows in
    let read : told ≡ tally_at (tallied n rows) i =
    get_or_read tallies i told (omega (arith, lt, count)) c.index.ensures no_jobs ∙ ap (λ (l : List Tally). tally_at l i) c.in_ok-tallies.ensures in
    let is : IsTally told (jobs_of i rows) =
    subst (λ (t : Tally). IsTally t (jobs_of i rows)) (sym read)
    (are_tallied n rows i lt (rows_in names set rows n c.requires.names (ap length c.txns-txns.ensures) c.requires.rows)) in
    next_row (txn_lines names set admitted rows) _ _ _ set.txns i no_txn (omega (arith, lt, ap length c.txns-txns.ensures))
    (c.in_ok-add_txn.ensures ∙ ap (λ (t : List ℕ). c.loop-i.into.items ++ t) (tally_told names set admitted rows i told is))
    c.loop-i.invariant
