use Rattle.std.proofs.Common.{codes, ◌++◌, ◌≡◌}
use Rattle.picture_text.proofs.Sums.{back}
use Rattle.picture_command.specs.Page.{page_title, safe_head, sheet_style}
use Rattle.picture_command.proofs.whole.add_head.Goals as goal

pub returns : goal.returns
returns c =
    let from_3 : c.add.new.into.items ≡ c.add_title.new.into.items ++ ((sheet_style) ++ (codes "</head>\n<body>\n")) =
    back c.add.new.into.items c.add_sheet_style.new.into.items c.add_title.new.into.items (sheet_style) (codes "</head>\n<body>\n") c.in_ok-add.ensures c.in_ok-add_sheet_style.ensures in
    let from_2 : c.add.new.into.items ≡ c.add_safe_head.new.into.items ++ ((page_title c.args.part) ++ ((sheet_style) ++ (codes "</head>\n<body>\n"))) =
    back c.add.new.into.items c.add_title.new.into.items c.add_safe_head.new.into.items (page_title c.args.part) ((sheet_style) ++ (codes "</head>\n<body>\n")) from_3 c.in_ok-add_title.ensures in
    let from_1 : c.add.new.into.items ≡ c.args.into.now.items ++ ((safe_head) ++ ((page_title c.args.part) ++ ((sheet_style) ++ (codes "</head>\n<body>\n")))) =
    back c.add.new.into.items c.add_safe_head.new.into.items c.args.into.now.items (safe_head) ((page_title c.args.part) ++ ((sheet_style) ++ (codes "</head>\n<body>\n"))) from_2 c.in_ok-add_safe_head.ensures in
    from_1
