use Rattle.std.proofs.Common.{codes, ◌++◌, ◌≡◌}
use Rattle.picture_text.specs.Legend.{key}
use Rattle.picture_text.proofs.Sums.{back}
use Rattle.picture_text.proofs.legend.add_jobs_legend.Goals as goal

pub returns : goal.returns
returns c =
    let from_5 : c.add_key-6.new.into.items ≡ c.add_key-4.new.into.items ++ ((key (codes "lw") 120 28 (codes "write lock")) ++ (key (codes "a") 240 28 (codes "ceiling"))) =
    back c.add_key-6.new.into.items c.add_key-5.new.into.items c.add_key-4.new.into.items (key (codes "lw") 120 28 (codes "write lock")) (key (codes "a") 240 28 (codes "ceiling")) c.in_ok-add_key-6.ensures c.in_ok-add_key-5.ensures in
    let from_4 : c.add_key-6.new.into.items ≡ c.add_key-3.new.into.items ++ ((key (codes "lr") 10 28 (codes "read lock")) ++ ((key (codes "lw") 120 28 (codes "write lock")) ++ (key (codes "a") 240 28 (codes "ceiling")))) =
    back c.add_key-6.new.into.items c.add_key-4.new.into.items c.add_key-3.new.into.items (key (codes "lr") 10 28 (codes "read lock")) ((key (codes "lw") 120 28 (codes "write lock")) ++ (key (codes "a") 240 28 (codes "ceiling"))) from_5 c.in_ok-add_key-4.ensures in
    let from_3 : c.add_key-6.new.into.items ≡ c.add_key-2.new.into.items ++ ((key (codes "i") 640 8 (codes "runs as the one that waits")) ++ ((key (codes "lr") 10 28 (codes "read lock")) ++ ((key (codes "lw") 120 28 (codes "write lock")) ++ (key (codes "a") 240 28 (codes "ceiling"))))) =
    back c.add_key-6.new.into.items c.add_key-3.new.into.items c.add_key-2.new.into.items (key (codes "i") 640 8 (codes "runs as the one that waits")) ((key (codes "lr") 10 28 (codes "read lock")) ++ ((key (codes "lw") 120 28 (codes "write lock")) ++ (key (codes "a") 240 28 (codes "ceiling")))) from_4 c.in_ok-add_key-3.ensures in
    let from_2 : c.add_key-6.new.into.items ≡ c.add_key.new.into.items ++ ((key (codes "o") 550 8 (codes "waits")) ++ ((key (codes "i") 640 8 (codes "runs as the one that waits")) ++ ((key (codes "lr") 10 28 (codes "read lock")) ++ ((key (codes "lw") 120 28 (codes "write lock")) ++ (key (codes "a") 240 28 (codes "ceiling")))))) =
    back c.add_key-6.new.into.items c.add_key-2.new.into.items c.add_key.new.into.items (key (codes "o") 550 8 (codes "waits")) ((key (codes "i") 640 8 (codes "runs as the one that waits")) ++ ((key (codes "lr") 10 28 (codes "read lock")) ++ ((key (codes "lw") 120 28 (codes "write lock")) ++ (key (codes "a") 240 28 (codes "ceiling"))))) from_3 c.in_ok-add_key-2.ensures in
    let from_1 : c.add_key-6.new.into.items ≡ c.args.into.now.items ++ ((key (codes "p") 450 8 (codes "pending")) ++ ((key (codes "o") 550 8 (codes "waits")) ++ ((key (codes "i") 640 8 (codes "runs as the one that waits")) ++ ((key (codes "lr") 10 28 (codes "read lock")) ++ ((key (codes "lw") 120 28 (codes "write lock")) ++ (key (codes "a") 240 28 (codes "ceiling"))))))) =
    back c.add_key-6.new.into.items c.add_key.new.into.items c.args.into.now.items (key (codes "p") 450 8 (codes "pending")) ((key (codes "o") 550 8 (codes "waits")) ++ ((key (codes "i") 640 8 (codes "runs as the one that waits")) ++ ((key (codes "lr") 10 28 (codes "read lock")) ++ ((key (codes "lw") 120 28 (codes "write lock")) ++ (key (codes "a") 240 28 (codes "ceiling")))))) from_2 c.in_ok-add_key.ensures in
    from_1
