use Rattle.std.proofs.Common.{rules, slice_get, ◌++◌, ◌≡◌}
use Rattle.item_model.specs.Kinds.{validity_of}
use Rattle.journal_text.specs.Ids.{name_at}
use Rattle.picture_text.proofs.Sums.{back}
use Rattle.picture_command.specs.Tables.{age_bound_of, cell, kind_of, maybe_cell}
use Rattle.picture_command.proofs.items.add_item.Goals as goal

pub returns : goal.returns
returns c =
    let step_1 : c.add_cell.new.into.items ≡ c.args.into.now.items ++ (cell (name_at c.args.names.now.items c.args.item.0)) = search rules in
    let step_2 : c.add_cell-2.new.into.items ≡ c.add_cell.new.into.items ++ (cell (kind_of (slice_get c.args.set.now.items c.args.item.0))) = search rules in
    let step_3 : c.add_maybe_cell.new.into.items ≡ c.add_cell-2.new.into.items ++ (maybe_cell (validity_of c.args.set.now.items c.args.item.0)) = search rules in
    let step_4 : c.add_maybe_cell-2.new.into.items ≡ c.add_maybe_cell.new.into.items ++ (maybe_cell (age_bound_of c.args.set.now c.args.ages.now c.args.item.0)) = search rules in
    let from_3 : c.add_maybe_cell-2.new.into.items ≡ c.add_cell-2.new.into.items ++ ((maybe_cell (validity_of c.args.set.now.items c.args.item.0)) ++ (maybe_cell (age_bound_of c.args.set.now c.args.ages.now c.args.item.0))) =
    back c.add_maybe_cell-2.new.into.items c.add_maybe_cell.new.into.items c.add_cell-2.new.into.items (maybe_cell (validity_of c.args.set.now.items c.args.item.0)) (maybe_cell (age_bound_of c.args.set.now c.args.ages.now c.args.item.0)) step_4 step_3 in
    let from_2 : c.add_maybe_cell-2.new.into.items ≡ c.add_cell.new.into.items ++ ((cell (kind_of (slice_get c.args.set.now.items c.args.item.0))) ++ ((maybe_cell (validity_of c.args.set.now.items c.args.item.0)) ++ (maybe_cell (age_bound_of c.args.set.now c.args.ages.now c.args.item.0)))) =
    back c.add_maybe_cell-2.new.into.items c.add_cell-2.new.into.items c.add_cell.new.into.items (cell (kind_of (slice_get c.args.set.now.items c.args.item.0))) ((maybe_cell (validity_of c.args.set.now.items c.args.item.0)) ++ (maybe_cell (age_bound_of c.args.set.now c.args.ages.now c.args.item.0))) from_3 step_2 in
    let from_1 : c.add_maybe_cell-2.new.into.items ≡ c.args.into.now.items ++ ((cell (name_at c.args.names.now.items c.args.item.0)) ++ ((cell (kind_of (slice_get c.args.set.now.items c.args.item.0))) ++ ((maybe_cell (validity_of c.args.set.now.items c.args.item.0)) ++ (maybe_cell (age_bound_of c.args.set.now c.args.ages.now c.args.item.0))))) =
    back c.add_maybe_cell-2.new.into.items c.add_cell.new.into.items c.args.into.now.items (cell (name_at c.args.names.now.items c.args.item.0)) ((cell (kind_of (slice_get c.args.set.now.items c.args.item.0))) ++ ((maybe_cell (validity_of c.args.set.now.items c.args.item.0)) ++ (maybe_cell (age_bound_of c.args.set.now c.args.ages.now c.args.item.0)))) from_2 step_1 in
    from_1
