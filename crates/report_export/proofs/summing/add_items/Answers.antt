use Rattle.std.proofs.Common.{◌≡◌, ℕ, ◌<◌, List, ◌++◌, length, get_or, vec_len, Option, None, ap, ◌∙◌, arith, rules}
use Rattle.std.specs.Prelude.{Bool, is_some}
use Rattle.std.proofs.lemmas.List.{get_or_read}
use Rattle.rt_base.specs.declared.ids.JobId.{JobId}
use Rattle.rt_base.specs.declared.name.Names.{Names}
use Rattle.item_model.specs.Kinds.{validity_of}
use Rattle.txn_set.specs.Set.{Set}
use Rattle.step_journal.specs.declared.entry.Entry.{Entry}
use Rattle.set_admission.specs.Bounds.{age_of}
use Rattle.job_rows.specs.declared.row.JobRow.{JobRow}
use Rattle.report_text.proofs.RowLaws.{no_item, next_row}
use Rattle.report_export.specs.Worsts.{worst, commit_of, ages}
use Rattle.report_export.specs.Ages.{commit_at}
use Rattle.report_export.specs.Texts.{bound_in, age_text, item_lines}
use Rattle.report_export.proofs.Aging.{are_commits, ages_length, are_ages}
use Rattle.report_export.proofs.SumTelling.{rows_in}
use Rattle.report_export.proofs.summing.add_items.Goals as goal

pub index-requires : goal.index-requires
index-requires c =
    let n : ℕ = length c.items-items.result.now in
    let count : length c.in_ok-worsts.worsts.items ≡ n = ap length c.in_ok-worsts.ensures ∙ ages_length n c.as_slice.result.now c.args.entries.now in
    let same : vec_len c.in_ok-worsts.worsts ≡ length c.in_ok-worsts.worsts.items = search rules in
    omega (arith, c.loop-i-test.true, count, same)

pub loop-i-preserved : goal.loop-i-preserved
loop-i-preserved c =
    let names : Names = c.args.summed.names.now in
    let set : Set = c.args.summed.set.now in
    let admitted : Bool = is_some c.args.summed.bounds in
    let rows : List JobRow = c.args.rows.now in
    let entries : List Entry = c.args.entries.now in
    let n : ℕ = length c.items-items.result.now in
    let i : ℕ = c.loop-i.i in
    let lt : i < n = c.loop-i-test.true in
    let commits : List (List (Option ℕ)) = c.as_slice.result.now in
    let worsts : List (Option ℕ) = c.in_ok-worsts.worsts.items in
    let found : Option ℕ = c.index.result.now in
    let count : length worsts ≡ n = ap length c.in_ok-worsts.ensures ∙ ages_length n commits entries in
    let are : (job : JobId) → commit_at commits job ≡ commit_of rows job =
    λ (job : JobId). ap (λ (l : List (List (Option ℕ))). commit_at l job) (c.as_slice.ensures.value ∙ c.in_ok-commits.ensures)
    ∙ are_commits (length c.txns.result.now) rows job (rows_in names set rows (length c.txns.result.now) c.requires.names (ap length c.txns.ensures) c.requires.rows) in
    let is : found ≡ worst (ages rows i entries) =
    get_or_read worsts i found (omega (arith, lt, count)) c.index.ensures None
    ∙ (ap (λ (l : List (Option ℕ)). get_or l i None) c.in_ok-worsts.ensures ∙ are_ages n commits rows are entries i lt) in
    let out : List ℕ = c.loop-i.into.items in
    let bound : Option ℕ = bound_in admitted (age_of set i) in
    next_row (item_lines names set admitted rows entries) _ _ _ set.items i no_item (omega (arith, lt, ap length c.items-items.ensures))
    (c.in_ok-add_age.ensures ∙ ap (λ (o : Option ℕ). out ++ age_text names i o bound (validity_of set.items i)) is)
    c.loop-i.invariant
