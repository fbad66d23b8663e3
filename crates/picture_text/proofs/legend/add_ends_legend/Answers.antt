use Rattle.std.proofs.Common.{[], codes, ◌++◌, ◌≡◌}
use Rattle.picture_text.specs.Legend.{end_key}
use Rattle.picture_text.proofs.Sums.{back}
use Rattle.picture_text.proofs.legend.add_ends_legend.Goals as goal

pub returns : goal.returns
returns c =
    let from_5 : c.add_end_key-6.new.into.items ≡ c.add_end_key-4.new.into.items ++ ((end_key (codes "xa") 390 (codes "A") (codes "apart")) ++ (end_key (codes "xq") 480 (codes "Q") (codes "quit"))) =
    back c.add_end_key-6.new.into.items c.add_end_key-5.new.into.items c.add_end_key-4.new.into.items (end_key (codes "xa") 390 (codes "A") (codes "apart")) (end_key (codes "xq") 480 (codes "Q") (codes "quit")) c.in_ok-add_end_key-6.ensures c.in_ok-add_end_key-5.ensures in
    let from_4 : c.add_end_key-6.new.into.items ≡ c.add_end_key-3.new.into.items ++ ((end_key (codes "xs") 300 (codes "S") (codes "stale")) ++ ((end_key (codes "xa") 390 (codes "A") (codes "apart")) ++ (end_key (codes "xq") 480 (codes "Q") (codes "quit")))) =
    back c.add_end_key-6.new.into.items c.add_end_key-4.new.into.items c.add_end_key-3.new.into.items (end_key (codes "xs") 300 (codes "S") (codes "stale")) ((end_key (codes "xa") 390 (codes "A") (codes "apart")) ++ (end_key (codes "xq") 480 (codes "Q") (codes "quit"))) from_5 c.in_ok-add_end_key-4.ensures in
    let from_3 : c.add_end_key-6.new.into.items ≡ c.add_end_key-2.new.into.items ++ ((end_key (codes "xl") 220 (codes "L") (codes "late")) ++ ((end_key (codes "xs") 300 (codes "S") (codes "stale")) ++ ((end_key (codes "xa") 390 (codes "A") (codes "apart")) ++ (end_key (codes "xq") 480 (codes "Q") (codes "quit"))))) =
    back c.add_end_key-6.new.into.items c.add_end_key-3.new.into.items c.add_end_key-2.new.into.items (end_key (codes "xl") 220 (codes "L") (codes "late")) ((end_key (codes "xs") 300 (codes "S") (codes "stale")) ++ ((end_key (codes "xa") 390 (codes "A") (codes "apart")) ++ (end_key (codes "xq") 480 (codes "Q") (codes "quit")))) from_4 c.in_ok-add_end_key-3.ensures in
    let from_2 : c.add_end_key-6.new.into.items ≡ c.add_end_key.new.into.items ++ ((end_key (codes "xo") 120 (codes "O") (codes "overrun")) ++ ((end_key (codes "xl") 220 (codes "L") (codes "late")) ++ ((end_key (codes "xs") 300 (codes "S") (codes "stale")) ++ ((end_key (codes "xa") 390 (codes "A") (codes "apart")) ++ (end_key (codes "xq") 480 (codes "Q") (codes "quit")))))) =
    back c.add_end_key-6.new.into.items c.add_end_key-2.new.into.items c.add_end_key.new.into.items (end_key (codes "xo") 120 (codes "O") (codes "overrun")) ((end_key (codes "xl") 220 (codes "L") (codes "late")) ++ ((end_key (codes "xs") 300 (codes "S") (codes "stale")) ++ ((end_key (codes "xa") 390 (codes "A") (codes "apart")) ++ (end_key (codes "xq") 480 (codes "Q") (codes "quit"))))) from_3 c.in_ok-add_end_key-2.ensures in
    let from_1 : c.add_end_key-6.new.into.items ≡ c.args.into.now.items ++ ((end_key (codes "xk") 10 [] (codes "committed")) ++ ((end_key (codes "xo") 120 (codes "O") (codes "overrun")) ++ ((end_key (codes "xl") 220 (codes "L") (codes "late")) ++ ((end_key (codes "xs") 300 (codes "S") (codes "stale")) ++ ((end_key (codes "xa") 390 (codes "A") (codes "apart")) ++ (end_key (codes "xq") 480 (codes "Q") (codes "quit"))))))) =
    back c.add_end_key-6.new.into.items c.add_end_key.new.into.items c.args.into.now.items (end_key (codes "xk") 10 [] (codes "committed")) ((end_key (codes "xo") 120 (codes "O") (codes "overrun")) ++ ((end_key (codes "xl") 220 (codes "L") (codes "late")) ++ ((end_key (codes "xs") 300 (codes "S") (codes "stale")) ++ ((end_key (codes "xa") 390 (codes "A") (codes "apart")) ++ (end_key (codes "xq") 480 (codes "Q") (codes "quit")))))) from_2 c.in_ok-add_end_key.ensures in
    from_1
