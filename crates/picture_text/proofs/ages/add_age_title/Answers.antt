use Rattle.std.proofs.Common.{[], codes, decimal, rules, slice_get, ◌++◌, ◌+◌, ◌-◌, ◌≡◌}
use Rattle.journal_text.specs.Ids.{name_at}
use Rattle.schedule_marks.specs.Places.{item_y, validity_in}
use Rattle.schedule_marks.specs.Svg.{fitting, line, words}
use Rattle.picture_text.specs.Ages.{bound_word}
use Rattle.picture_text.proofs.Sums.{back}
use Rattle.picture_text.proofs.ages.add_age_title.Goals as goal

pub returns : goal.returns
returns c =
    let step_1 : c.add_line.new.into.items ≡ c.args.into.now.items ++ (line (codes "b") 0 (item_y c.args.set.now c.args.item.0) c.args.left (item_y c.args.set.now c.args.item.0)) = search rules in
    let step_2 : c.add_words.new.into.items ≡ c.add_line.new.into.items ++ (words (codes "n") 10 (item_y c.args.set.now c.args.item.0 + 16) (name_at c.args.names.now.items c.args.item.0) []) = search rules in
    let step_3 : c.add_validity_word.new.into.items ≡ c.add_words.new.into.items ++ (fitting (codes "s") 10 (item_y c.args.set.now c.args.item.0 + 32) (c.args.left - 10) (codes "valid ") (decimal (validity_in c.args.set.now c.args.item.0))) = search rules in
    let step_4 : c.add_bound_word.new.into.items ≡ c.add_validity_word.new.into.items ++ (bound_word c.args.left (item_y c.args.set.now c.args.item.0) (slice_get c.args.ages.now c.args.item.0)) = search rules in
    let from_3 : c.add_bound_word.new.into.items ≡ c.add_words.new.into.items ++ ((fitting (codes "s") 10 (item_y c.args.set.now c.args.item.0 + 32) (c.args.left - 10) (codes "valid ") (decimal (validity_in c.args.set.now c.args.item.0))) ++ (bound_word c.args.left (item_y c.args.set.now c.args.item.0) (slice_get c.args.ages.now c.args.item.0))) =
    back c.add_bound_word.new.into.items c.add_validity_word.new.into.items c.add_words.new.into.items (fitting (codes "s") 10 (item_y c.args.set.now c.args.item.0 + 32) (c.args.left - 10) (codes "valid ") (decimal (validity_in c.args.set.now c.args.item.0))) (bound_word c.args.left (item_y c.args.set.now c.args.item.0) (slice_get c.args.ages.now c.args.item.0)) step_4 step_3 in
    let from_2 : c.add_bound_word.new.into.items ≡ c.add_line.new.into.items ++ ((words (codes "n") 10 (item_y c.args.set.now c.args.item.0 + 16) (name_at c.args.names.now.items c.args.item.0) []) ++ ((fitting (codes "s") 10 (item_y c.args.set.now c.args.item.0 + 32) (c.args.left - 10) (codes "valid ") (decimal (validity_in c.args.set.now c.args.item.0))) ++ (bound_word c.args.left (item_y c.args.set.now c.args.item.0) (slice_get c.args.ages.now c.args.item.0)))) =
    back c.add_bound_word.new.into.items c.add_words.new.into.items c.add_line.new.into.items (words (codes "n") 10 (item_y c.args.set.now c.args.item.0 + 16) (name_at c.args.names.now.items c.args.item.0) []) ((fitting (codes "s") 10 (item_y c.args.set.now c.args.item.0 + 32) (c.args.left - 10) (codes "valid ") (decimal (validity_in c.args.set.now c.args.item.0))) ++ (bound_word c.args.left (item_y c.args.set.now c.args.item.0) (slice_get c.args.ages.now c.args.item.0))) from_3 step_2 in
    let from_1 : c.add_bound_word.new.into.items ≡ c.args.into.now.items ++ ((line (codes "b") 0 (item_y c.args.set.now c.args.item.0) c.args.left (item_y c.args.set.now c.args.item.0)) ++ ((words (codes "n") 10 (item_y c.args.set.now c.args.item.0 + 16) (name_at c.args.names.now.items c.args.item.0) []) ++ ((fitting (codes "s") 10 (item_y c.args.set.now c.args.item.0 + 32) (c.args.left - 10) (codes "valid ") (decimal (validity_in c.args.set.now c.args.item.0))) ++ (bound_word c.args.left (item_y c.args.set.now c.args.item.0) (slice_get c.args.ages.now c.args.item.0))))) =
    back c.add_bound_word.new.into.items c.add_line.new.into.items c.args.into.now.items (line (codes "b") 0 (item_y c.args.set.now c.args.item.0) c.args.left (item_y c.args.set.now c.args.item.0)) ((words (codes "n") 10 (item_y c.args.set.now c.args.item.0 + 16) (name_at c.args.names.now.items c.args.item.0) []) ++ ((fitting (codes "s") 10 (item_y c.args.set.now c.args.item.0 + 32) (c.args.left - 10) (codes "valid ") (decimal (validity_in c.args.set.now c.args.item.0))) ++ (bound_word c.args.left (item_y c.args.set.now c.args.item.0) (slice_get c.args.ages.now c.args.item.0)))) from_2 step_1 in
    from_1
