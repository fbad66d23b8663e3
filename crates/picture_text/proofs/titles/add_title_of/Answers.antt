use Rattle.std.proofs.Common.{ℕ, List, ap, ◌∙◌, [], codes, rules, ◌++◌, ◌+◌, ◌-◌, ◌≡◌}
use Rattle.journal_text.specs.Ids.{name_at}
use Rattle.schedule_marks.specs.Places.{level_y, y_of}
use Rattle.schedule_marks.specs.Svg.{words}
use Rattle.picture_text.specs.Texts.{lane_titles, row_title}
use Rattle.txn_set.specs.Set.{txn_of}
use Rattle.picture_text.proofs.Sums.{back, same_title}
use Rattle.picture_text.proofs.titles.add_title_of.Goals as goal

pub returns : goal.returns
returns c =
    let step_1 : c.add_title.new.into.items ≡ c.args.into.now.items ++ (row_title c.args.left (name_at c.args.names.now.txns c.args.tx.0) (txn_of c.args.set.now c.args.tx.0).prio (y_of c.args.set.now c.args.tx.0)) =
    c.in_ok-add_title.ensures ∙ ap (λ (t : List ℕ). c.args.into.now.items ++ t)
    (same_title c.args.left _ _ _ _ _ _ (c.name-name.ensures ∙ ap (λ (n : List (List ℕ)). name_at n c.args.tx.0) c.as_slice.ensures)
    c.priority.ensures c.y-y.ensures.value) in
    let step_2 : c.add_words.new.into.items ≡ c.add_title.new.into.items ++ (words (codes "s e") (c.args.left - 10) (level_y c.args.set.now (txn_of c.args.set.now c.args.tx.0).prio + 4) (name_at c.args.names.now.txns c.args.tx.0) []) = search rules in
    let step_3 : c.add_lane_titles.new.into.items ≡ c.add_words.new.into.items ++ (lane_titles c.args.names.now (txn_of c.args.set.now c.args.tx.0) (c.args.left - 10) (y_of c.args.set.now c.args.tx.0)) = search rules in
    let from_2 : c.add_lane_titles.new.into.items ≡ c.add_title.new.into.items ++ ((words (codes "s e") (c.args.left - 10) (level_y c.args.set.now (txn_of c.args.set.now c.args.tx.0).prio + 4) (name_at c.args.names.now.txns c.args.tx.0) []) ++ (lane_titles c.args.names.now (txn_of c.args.set.now c.args.tx.0) (c.args.left - 10) (y_of c.args.set.now c.args.tx.0))) =
    back c.add_lane_titles.new.into.items c.add_words.new.into.items c.add_title.new.into.items (words (codes "s e") (c.args.left - 10) (level_y c.args.set.now (txn_of c.args.set.now c.args.tx.0).prio + 4) (name_at c.args.names.now.txns c.args.tx.0) []) (lane_titles c.args.names.now (txn_of c.args.set.now c.args.tx.0) (c.args.left - 10) (y_of c.args.set.now c.args.tx.0)) step_3 step_2 in
    let from_1 : c.add_lane_titles.new.into.items ≡ c.args.into.now.items ++ ((row_title c.args.left (name_at c.args.names.now.txns c.args.tx.0) (txn_of c.args.set.now c.args.tx.0).prio (y_of c.args.set.now c.args.tx.0)) ++ ((words (codes "s e") (c.args.left - 10) (level_y c.args.set.now (txn_of c.args.set.now c.args.tx.0).prio + 4) (name_at c.args.names.now.txns c.args.tx.0) []) ++ (lane_titles c.args.names.now (txn_of c.args.set.now c.args.tx.0) (c.args.left - 10) (y_of c.args.set.now c.args.tx.0)))) =
    back c.add_lane_titles.new.into.items c.add_title.new.into.items c.args.into.now.items (row_title c.args.left (name_at c.args.names.now.txns c.args.tx.0) (txn_of c.args.set.now c.args.tx.0).prio (y_of c.args.set.now c.args.tx.0)) ((words (codes "s e") (c.args.left - 10) (level_y c.args.set.now (txn_of c.args.set.now c.args.tx.0).prio + 4) (name_at c.args.names.now.txns c.args.tx.0) []) ++ (lane_titles c.args.names.now (txn_of c.args.set.now c.args.tx.0) (c.args.left - 10) (y_of c.args.set.now c.args.tx.0))) from_2 step_1 in
    from_1
