use Rattle.std.proofs.Common.{[], codes, ◌++◌, ◌≡◌}
use Rattle.schedule_marks.specs.Svg.{line, rect, words}
use Rattle.picture_text.proofs.Sums.{back}
use Rattle.picture_text.proofs.legend.add_ages_legend.Goals as goal

pub returns : goal.returns
returns c =
    let from_10 : c.add_words-5.new.into.items ≡ c.add_words-4.new.into.items ++ ((rect (codes "ar") 558 73 5 5) ++ (words (codes "s") 570 79 (codes "read by a job that committed") [])) =
    back c.add_words-5.new.into.items c.add_rect.new.into.items c.add_words-4.new.into.items (rect (codes "ar") 558 73 5 5) (words (codes "s") 570 79 (codes "read by a job that committed") []) c.in_ok-add_words-5.ensures c.in_ok-add_rect.ensures in
    let from_9 : c.add_words-5.new.into.items ≡ c.add_line-5.new.into.items ++ ((words (codes "s") 446 79 (codes "its age bound") []) ++ ((rect (codes "ar") 558 73 5 5) ++ (words (codes "s") 570 79 (codes "read by a job that committed") []))) =
    back c.add_words-5.new.into.items c.add_words-4.new.into.items c.add_line-5.new.into.items (words (codes "s") 446 79 (codes "its age bound") []) ((rect (codes "ar") 558 73 5 5) ++ (words (codes "s") 570 79 (codes "read by a job that committed") [])) from_10 c.in_ok-add_words-4.ensures in
    let from_8 : c.add_words-5.new.into.items ≡ c.add_words-3.new.into.items ++ ((line (codes "ab") 420 75 440 75) ++ ((words (codes "s") 446 79 (codes "its age bound") []) ++ ((rect (codes "ar") 558 73 5 5) ++ (words (codes "s") 570 79 (codes "read by a job that committed") [])))) =
    back c.add_words-5.new.into.items c.add_line-5.new.into.items c.add_words-3.new.into.items (line (codes "ab") 420 75 440 75) ((words (codes "s") 446 79 (codes "its age bound") []) ++ ((rect (codes "ar") 558 73 5 5) ++ (words (codes "s") 570 79 (codes "read by a job that committed") []))) from_9 c.in_ok-add_line-5.ensures in
    let from_7 : c.add_words-5.new.into.items ≡ c.add_line-4.new.into.items ++ ((words (codes "s") 316 79 (codes "its validity") []) ++ ((line (codes "ab") 420 75 440 75) ++ ((words (codes "s") 446 79 (codes "its age bound") []) ++ ((rect (codes "ar") 558 73 5 5) ++ (words (codes "s") 570 79 (codes "read by a job that committed") []))))) =
    back c.add_words-5.new.into.items c.add_words-3.new.into.items c.add_line-4.new.into.items (words (codes "s") 316 79 (codes "its validity") []) ((line (codes "ab") 420 75 440 75) ++ ((words (codes "s") 446 79 (codes "its age bound") []) ++ ((rect (codes "ar") 558 73 5 5) ++ (words (codes "s") 570 79 (codes "read by a job that committed") [])))) from_8 c.in_ok-add_words-3.ensures in
    let from_6 : c.add_words-5.new.into.items ≡ c.add_words-2.new.into.items ++ ((line (codes "av") 290 75 310 75) ++ ((words (codes "s") 316 79 (codes "its validity") []) ++ ((line (codes "ab") 420 75 440 75) ++ ((words (codes "s") 446 79 (codes "its age bound") []) ++ ((rect (codes "ar") 558 73 5 5) ++ (words (codes "s") 570 79 (codes "read by a job that committed") [])))))) =
    back c.add_words-5.new.into.items c.add_line-4.new.into.items c.add_words-2.new.into.items (line (codes "av") 290 75 310 75) ((words (codes "s") 316 79 (codes "its validity") []) ++ ((line (codes "ab") 420 75 440 75) ++ ((words (codes "s") 446 79 (codes "its age bound") []) ++ ((rect (codes "ar") 558 73 5 5) ++ (words (codes "s") 570 79 (codes "read by a job that committed") []))))) from_7 c.in_ok-add_line-4.ensures in
    let from_5 : c.add_words-5.new.into.items ≡ c.add_line-3.new.into.items ++ ((words (codes "s") 176 79 (codes "age of a value") []) ++ ((line (codes "av") 290 75 310 75) ++ ((words (codes "s") 316 79 (codes "its validity") []) ++ ((line (codes "ab") 420 75 440 75) ++ ((words (codes "s") 446 79 (codes "its age bound") []) ++ ((rect (codes "ar") 558 73 5 5) ++ (words (codes "s") 570 79 (codes "read by a job that committed") []))))))) =
    back c.add_words-5.new.into.items c.add_words-2.new.into.items c.add_line-3.new.into.items (words (codes "s") 176 79 (codes "age of a value") []) ((line (codes "av") 290 75 310 75) ++ ((words (codes "s") 316 79 (codes "its validity") []) ++ ((line (codes "ab") 420 75 440 75) ++ ((words (codes "s") 446 79 (codes "its age bound") []) ++ ((rect (codes "ar") 558 73 5 5) ++ (words (codes "s") 570 79 (codes "read by a job that committed") [])))))) from_6 c.in_ok-add_words-2.ensures in
    let from_4 : c.add_words-5.new.into.items ≡ c.add_words.new.into.items ++ ((line (codes "ag") 150 82 170 70) ++ ((words (codes "s") 176 79 (codes "age of a value") []) ++ ((line (codes "av") 290 75 310 75) ++ ((words (codes "s") 316 79 (codes "its validity") []) ++ ((line (codes "ab") 420 75 440 75) ++ ((words (codes "s") 446 79 (codes "its age bound") []) ++ ((rect (codes "ar") 558 73 5 5) ++ (words (codes "s") 570 79 (codes "read by a job that committed") [])))))))) =
    back c.add_words-5.new.into.items c.add_line-3.new.into.items c.add_words.new.into.items (line (codes "ag") 150 82 170 70) ((words (codes "s") 176 79 (codes "age of a value") []) ++ ((line (codes "av") 290 75 310 75) ++ ((words (codes "s") 316 79 (codes "its validity") []) ++ ((line (codes "ab") 420 75 440 75) ++ ((words (codes "s") 446 79 (codes "its age bound") []) ++ ((rect (codes "ar") 558 73 5 5) ++ (words (codes "s") 570 79 (codes "read by a job that committed") []))))))) from_5 c.in_ok-add_line-3.ensures in
    let from_3 : c.add_words-5.new.into.items ≡ c.add_line-2.new.into.items ++ ((words (codes "s") 32 79 (codes "response bound") []) ++ ((line (codes "ag") 150 82 170 70) ++ ((words (codes "s") 176 79 (codes "age of a value") []) ++ ((line (codes "av") 290 75 310 75) ++ ((words (codes "s") 316 79 (codes "its validity") []) ++ ((line (codes "ab") 420 75 440 75) ++ ((words (codes "s") 446 79 (codes "its age bound") []) ++ ((rect (codes "ar") 558 73 5 5) ++ (words (codes "s") 570 79 (codes "read by a job that committed") []))))))))) =
    back c.add_words-5.new.into.items c.add_words.new.into.items c.add_line-2.new.into.items (words (codes "s") 32 79 (codes "response bound") []) ((line (codes "ag") 150 82 170 70) ++ ((words (codes "s") 176 79 (codes "age of a value") []) ++ ((line (codes "av") 290 75 310 75) ++ ((words (codes "s") 316 79 (codes "its validity") []) ++ ((line (codes "ab") 420 75 440 75) ++ ((words (codes "s") 446 79 (codes "its age bound") []) ++ ((rect (codes "ar") 558 73 5 5) ++ (words (codes "s") 570 79 (codes "read by a job that committed") [])))))))) from_4 c.in_ok-add_words.ensures in
    let from_2 : c.add_words-5.new.into.items ≡ c.add_line.new.into.items ++ ((line (codes "rb") 15 81 20 81) ++ ((words (codes "s") 32 79 (codes "response bound") []) ++ ((line (codes "ag") 150 82 170 70) ++ ((words (codes "s") 176 79 (codes "age of a value") []) ++ ((line (codes "av") 290 75 310 75) ++ ((words (codes "s") 316 79 (codes "its validity") []) ++ ((line (codes "ab") 420 75 440 75) ++ ((words (codes "s") 446 79 (codes "its age bound") []) ++ ((rect (codes "ar") 558 73 5 5) ++ (words (codes "s") 570 79 (codes "read by a job that committed") [])))))))))) =
    back c.add_words-5.new.into.items c.add_line-2.new.into.items c.add_line.new.into.items (line (codes "rb") 15 81 20 81) ((words (codes "s") 32 79 (codes "response bound") []) ++ ((line (codes "ag") 150 82 170 70) ++ ((words (codes "s") 176 79 (codes "age of a value") []) ++ ((line (codes "av") 290 75 310 75) ++ ((words (codes "s") 316 79 (codes "its validity") []) ++ ((line (codes "ab") 420 75 440 75) ++ ((words (codes "s") 446 79 (codes "its age bound") []) ++ ((rect (codes "ar") 558 73 5 5) ++ (words (codes "s") 570 79 (codes "read by a job that committed") []))))))))) from_3 c.in_ok-add_line-2.ensures in
    let from_1 : c.add_words-5.new.into.items ≡ c.args.into.now.items ++ ((line (codes "rb") 20 68 20 82) ++ ((line (codes "rb") 15 81 20 81) ++ ((words (codes "s") 32 79 (codes "response bound") []) ++ ((line (codes "ag") 150 82 170 70) ++ ((words (codes "s") 176 79 (codes "age of a value") []) ++ ((line (codes "av") 290 75 310 75) ++ ((words (codes "s") 316 79 (codes "its validity") []) ++ ((line (codes "ab") 420 75 440 75) ++ ((words (codes "s") 446 79 (codes "its age bound") []) ++ ((rect (codes "ar") 558 73 5 5) ++ (words (codes "s") 570 79 (codes "read by a job that committed") []))))))))))) =
    back c.add_words-5.new.into.items c.add_line.new.into.items c.args.into.now.items (line (codes "rb") 20 68 20 82) ((line (codes "rb") 15 81 20 81) ++ ((words (codes "s") 32 79 (codes "response bound") []) ++ ((line (codes "ag") 150 82 170 70) ++ ((words (codes "s") 176 79 (codes "age of a value") []) ++ ((line (codes "av") 290 75 310 75) ++ ((words (codes "s") 316 79 (codes "its validity") []) ++ ((line (codes "ab") 420 75 440 75) ++ ((words (codes "s") 446 79 (codes "its age bound") []) ++ ((rect (codes "ar") 558 73 5 5) ++ (words (codes "s") 570 79 (codes "read by a job that committed") [])))))))))) from_2 c.in_ok-add_line.ensures in
    from_1
