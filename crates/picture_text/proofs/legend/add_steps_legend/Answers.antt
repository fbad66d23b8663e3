use Rattle.std.proofs.Common.{[], codes, ◌++◌, ◌≡◌}
use Rattle.picture_text.specs.Legend.{step_key}
use Rattle.picture_text.proofs.Sums.{back}
use Rattle.picture_text.proofs.legend.add_steps_legend.Goals as goal

pub returns : goal.returns
returns c =
    let from_4 : c.add_step_key-5.new.into.items ≡ c.add_step_key-3.new.into.items ++ ((step_key (codes "k") (codes "z") (codes "C") 280 (codes "commit")) ++ (step_key (codes "q") (codes "z") (codes "Q") 370 (codes "quit"))) =
    back c.add_step_key-5.new.into.items c.add_step_key-4.new.into.items c.add_step_key-3.new.into.items (step_key (codes "k") (codes "z") (codes "C") 280 (codes "commit")) (step_key (codes "q") (codes "z") (codes "Q") 370 (codes "quit")) c.in_ok-add_step_key-5.ensures c.in_ok-add_step_key-4.ensures in
    let from_3 : c.add_step_key-5.new.into.items ≡ c.add_step_key-2.new.into.items ++ ((step_key (codes "c") (codes "j") [] 180 (codes "compute")) ++ ((step_key (codes "k") (codes "z") (codes "C") 280 (codes "commit")) ++ (step_key (codes "q") (codes "z") (codes "Q") 370 (codes "quit")))) =
    back c.add_step_key-5.new.into.items c.add_step_key-3.new.into.items c.add_step_key-2.new.into.items (step_key (codes "c") (codes "j") [] 180 (codes "compute")) ((step_key (codes "k") (codes "z") (codes "C") 280 (codes "commit")) ++ (step_key (codes "q") (codes "z") (codes "Q") 370 (codes "quit"))) from_4 c.in_ok-add_step_key-3.ensures in
    let from_2 : c.add_step_key-5.new.into.items ≡ c.add_step_key.new.into.items ++ ((step_key (codes "w") (codes "z") (codes "W") 90 (codes "write")) ++ ((step_key (codes "c") (codes "j") [] 180 (codes "compute")) ++ ((step_key (codes "k") (codes "z") (codes "C") 280 (codes "commit")) ++ (step_key (codes "q") (codes "z") (codes "Q") 370 (codes "quit"))))) =
    back c.add_step_key-5.new.into.items c.add_step_key-2.new.into.items c.add_step_key.new.into.items (step_key (codes "w") (codes "z") (codes "W") 90 (codes "write")) ((step_key (codes "c") (codes "j") [] 180 (codes "compute")) ++ ((step_key (codes "k") (codes "z") (codes "C") 280 (codes "commit")) ++ (step_key (codes "q") (codes "z") (codes "Q") 370 (codes "quit")))) from_3 c.in_ok-add_step_key-2.ensures in
    let from_1 : c.add_step_key-5.new.into.items ≡ c.args.into.now.items ++ ((step_key (codes "r") (codes "j") (codes "R") 10 (codes "read")) ++ ((step_key (codes "w") (codes "z") (codes "W") 90 (codes "write")) ++ ((step_key (codes "c") (codes "j") [] 180 (codes "compute")) ++ ((step_key (codes "k") (codes "z") (codes "C") 280 (codes "commit")) ++ (step_key (codes "q") (codes "z") (codes "Q") 370 (codes "quit")))))) =
    back c.add_step_key-5.new.into.items c.add_step_key.new.into.items c.args.into.now.items (step_key (codes "r") (codes "j") (codes "R") 10 (codes "read")) ((step_key (codes "w") (codes "z") (codes "W") 90 (codes "write")) ++ ((step_key (codes "c") (codes "j") [] 180 (codes "compute")) ++ ((step_key (codes "k") (codes "z") (codes "C") 280 (codes "commit")) ++ (step_key (codes "q") (codes "z") (codes "Q") 370 (codes "quit"))))) from_2 c.in_ok-add_step_key.ensures in
    from_1
