use Rattle.std.proofs.Common.{[], codes, ◌++◌, ◌≡◌}
use Rattle.schedule_marks.specs.Svg.{line, words}
use Rattle.picture_text.proofs.Sums.{back}
use Rattle.picture_text.proofs.legend.add_arrows_legend.Goals as goal

pub returns : goal.returns
returns c =
    let from_5 : c.add_words-3.new.into.items ≡ c.add_words-2.new.into.items ++ ((line (codes "v") 520 35 540 35) ++ (words (codes "s") 552 39 (codes "refused: waits on the job pointed at") [])) =
    back c.add_words-3.new.into.items c.add_line-3.new.into.items c.add_words-2.new.into.items (line (codes "v") 520 35 540 35) (words (codes "s") 552 39 (codes "refused: waits on the job pointed at") []) c.in_ok-add_words-3.ensures c.in_ok-add_line-3.ensures in
    let from_4 : c.add_words-3.new.into.items ≡ c.add_line-2.new.into.items ++ ((words (codes "s") 436 39 (codes "deadline") []) ++ ((line (codes "v") 520 35 540 35) ++ (words (codes "s") 552 39 (codes "refused: waits on the job pointed at") []))) =
    back c.add_words-3.new.into.items c.add_words-2.new.into.items c.add_line-2.new.into.items (words (codes "s") 436 39 (codes "deadline") []) ((line (codes "v") 520 35 540 35) ++ (words (codes "s") 552 39 (codes "refused: waits on the job pointed at") [])) from_5 c.in_ok-add_words-2.ensures in
    let from_3 : c.add_words-3.new.into.items ≡ c.add_words.new.into.items ++ ((line (codes "d") 426 27 426 43) ++ ((words (codes "s") 436 39 (codes "deadline") []) ++ ((line (codes "v") 520 35 540 35) ++ (words (codes "s") 552 39 (codes "refused: waits on the job pointed at") [])))) =
    back c.add_words-3.new.into.items c.add_line-2.new.into.items c.add_words.new.into.items (line (codes "d") 426 27 426 43) ((words (codes "s") 436 39 (codes "deadline") []) ++ ((line (codes "v") 520 35 540 35) ++ (words (codes "s") 552 39 (codes "refused: waits on the job pointed at") []))) from_4 c.in_ok-add_line-2.ensures in
    let from_2 : c.add_words-3.new.into.items ≡ c.add_line.new.into.items ++ ((words (codes "s") 346 39 (codes "release") []) ++ ((line (codes "d") 426 27 426 43) ++ ((words (codes "s") 436 39 (codes "deadline") []) ++ ((line (codes "v") 520 35 540 35) ++ (words (codes "s") 552 39 (codes "refused: waits on the job pointed at") []))))) =
    back c.add_words-3.new.into.items c.add_words.new.into.items c.add_line.new.into.items (words (codes "s") 346 39 (codes "release") []) ((line (codes "d") 426 27 426 43) ++ ((words (codes "s") 436 39 (codes "deadline") []) ++ ((line (codes "v") 520 35 540 35) ++ (words (codes "s") 552 39 (codes "refused: waits on the job pointed at") [])))) from_3 c.in_ok-add_words.ensures in
    let from_1 : c.add_words-3.new.into.items ≡ c.args.into.now.items ++ ((line (codes "u") 336 43 336 27) ++ ((words (codes "s") 346 39 (codes "release") []) ++ ((line (codes "d") 426 27 426 43) ++ ((words (codes "s") 436 39 (codes "deadline") []) ++ ((line (codes "v") 520 35 540 35) ++ (words (codes "s") 552 39 (codes "refused: waits on the job pointed at") [])))))) =
    back c.add_words-3.new.into.items c.add_line.new.into.items c.args.into.now.items (line (codes "u") 336 43 336 27) ((words (codes "s") 346 39 (codes "release") []) ++ ((line (codes "d") 426 27 426 43) ++ ((words (codes "s") 436 39 (codes "deadline") []) ++ ((line (codes "v") 520 35 540 35) ++ (words (codes "s") 552 39 (codes "refused: waits on the job pointed at") []))))) from_2 c.in_ok-add_line.ensures in
    from_1
