use Rattle.std.proofs.Common.{[], codes, ◌++◌, ◌+◌, ◌≡◌}
use Rattle.schedule_marks.specs.Svg.{circle, some_word, words}
use Rattle.picture_text.proofs.Sums.{back}
use Rattle.picture_text.proofs.legend.add_end_key.Goals as goal

pub returns : goal.returns
returns c =
    let from_2 : c.add_words.new.into.items ≡ c.add_circle.new.into.items ++ ((some_word (codes "l") (c.args.x + 10) 58 c.args.letter.now) ++ (words (codes "s") (c.args.x + 26) 59 c.args.word.now [])) =
    back c.add_words.new.into.items c.add_word.new.into.items c.add_circle.new.into.items (some_word (codes "l") (c.args.x + 10) 58 c.args.letter.now) (words (codes "s") (c.args.x + 26) 59 c.args.word.now []) c.in_ok-add_words.ensures c.in_ok-add_word.ensures in
    let from_1 : c.add_words.new.into.items ≡ c.args.into.now.items ++ ((circle c.args.class.now (c.args.x + 10) 55) ++ ((some_word (codes "l") (c.args.x + 10) 58 c.args.letter.now) ++ (words (codes "s") (c.args.x + 26) 59 c.args.word.now []))) =
    back c.add_words.new.into.items c.add_circle.new.into.items c.args.into.now.items (circle c.args.class.now (c.args.x + 10) 55) ((some_word (codes "l") (c.args.x + 10) 58 c.args.letter.now) ++ (words (codes "s") (c.args.x + 26) 59 c.args.word.now [])) from_2 c.in_ok-add_circle.ensures in
    from_1
