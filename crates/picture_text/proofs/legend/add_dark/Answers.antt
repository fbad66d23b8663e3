use Rattle.std.proofs.Common.{codes, ◌++◌, ◌≡◌}
use Rattle.picture_text.proofs.Sums.{back}
use Rattle.picture_text.proofs.legend.add_dark.Goals as goal

pub returns : goal.returns
returns c =
    let from_4 : c.add-5.new.into.items ≡ c.add-3.new.into.items ++ ((codes ".rb,.ab{stroke:#b98ae6}.ag{stroke:#58b0f0}.av{stroke:#ff6b81}.ar{fill:#4fc3a1}") ++ (codes "}</style>\n")) =
    back c.add-5.new.into.items c.add-4.new.into.items c.add-3.new.into.items (codes ".rb,.ab{stroke:#b98ae6}.ag{stroke:#58b0f0}.av{stroke:#ff6b81}.ar{fill:#4fc3a1}") (codes "}</style>\n") c.in_ok-add-5.ensures c.in_ok-add-4.ensures in
    let from_3 : c.add-5.new.into.items ≡ c.add-2.new.into.items ++ ((codes ".o,.v,.vs,.vb,.ht{stroke:#ff6b81}.vt{fill:#ff6b81}.u{stroke:#eee}.ut{fill:#eee}.d{stroke:#58b0f0}.dt{fill:#58b0f0}") ++ ((codes ".rb,.ab{stroke:#b98ae6}.ag{stroke:#58b0f0}.av{stroke:#ff6b81}.ar{fill:#4fc3a1}") ++ (codes "}</style>\n"))) =
    back c.add-5.new.into.items c.add-3.new.into.items c.add-2.new.into.items (codes ".o,.v,.vs,.vb,.ht{stroke:#ff6b81}.vt{fill:#ff6b81}.u{stroke:#eee}.ut{fill:#eee}.d{stroke:#58b0f0}.dt{fill:#58b0f0}") ((codes ".rb,.ab{stroke:#b98ae6}.ag{stroke:#58b0f0}.av{stroke:#ff6b81}.ar{fill:#4fc3a1}") ++ (codes "}</style>\n")) from_4 c.in_ok-add-3.ensures in
    let from_2 : c.add-5.new.into.items ≡ c.add.new.into.items ++ ((codes ".p{fill:#3a3d45}.lr{fill:#1d3b4e}.lw{fill:#4a2a12}.a{fill:#3a2e4d}.t{stroke:#b79be0}.i{fill:#4a2038}") ++ ((codes ".o,.v,.vs,.vb,.ht{stroke:#ff6b81}.vt{fill:#ff6b81}.u{stroke:#eee}.ut{fill:#eee}.d{stroke:#58b0f0}.dt{fill:#58b0f0}") ++ ((codes ".rb,.ab{stroke:#b98ae6}.ag{stroke:#58b0f0}.av{stroke:#ff6b81}.ar{fill:#4fc3a1}") ++ (codes "}</style>\n")))) =
    back c.add-5.new.into.items c.add-2.new.into.items c.add.new.into.items (codes ".p{fill:#3a3d45}.lr{fill:#1d3b4e}.lw{fill:#4a2a12}.a{fill:#3a2e4d}.t{stroke:#b79be0}.i{fill:#4a2038}") ((codes ".o,.v,.vs,.vb,.ht{stroke:#ff6b81}.vt{fill:#ff6b81}.u{stroke:#eee}.ut{fill:#eee}.d{stroke:#58b0f0}.dt{fill:#58b0f0}") ++ ((codes ".rb,.ab{stroke:#b98ae6}.ag{stroke:#58b0f0}.av{stroke:#ff6b81}.ar{fill:#4fc3a1}") ++ (codes "}</style>\n"))) from_3 c.in_ok-add-2.ensures in
    let from_1 : c.add-5.new.into.items ≡ c.args.into.now.items ++ ((codes "@media(prefers-color-scheme:dark){text,.s{fill:#ddd}.f{fill:#ddd;stroke:#16181d}.bg{fill:#16181d}.g{stroke:#33363d}.b{stroke:#777}.h{stroke:#bbb}") ++ ((codes ".p{fill:#3a3d45}.lr{fill:#1d3b4e}.lw{fill:#4a2a12}.a{fill:#3a2e4d}.t{stroke:#b79be0}.i{fill:#4a2038}") ++ ((codes ".o,.v,.vs,.vb,.ht{stroke:#ff6b81}.vt{fill:#ff6b81}.u{stroke:#eee}.ut{fill:#eee}.d{stroke:#58b0f0}.dt{fill:#58b0f0}") ++ ((codes ".rb,.ab{stroke:#b98ae6}.ag{stroke:#58b0f0}.av{stroke:#ff6b81}.ar{fill:#4fc3a1}") ++ (codes "}</style>\n"))))) =
    back c.add-5.new.into.items c.add.new.into.items c.args.into.now.items (codes "@media(prefers-color-scheme:dark){text,.s{fill:#ddd}.f{fill:#ddd;stroke:#16181d}.bg{fill:#16181d}.g{stroke:#33363d}.b{stroke:#777}.h{stroke:#bbb}") ((codes ".p{fill:#3a3d45}.lr{fill:#1d3b4e}.lw{fill:#4a2a12}.a{fill:#3a2e4d}.t{stroke:#b79be0}.i{fill:#4a2038}") ++ ((codes ".o,.v,.vs,.vb,.ht{stroke:#ff6b81}.vt{fill:#ff6b81}.u{stroke:#eee}.ut{fill:#eee}.d{stroke:#58b0f0}.dt{fill:#58b0f0}") ++ ((codes ".rb,.ab{stroke:#b98ae6}.ag{stroke:#58b0f0}.av{stroke:#ff6b81}.ar{fill:#4fc3a1}") ++ (codes "}</style>\n")))) from_2 c.in_ok-add.ensures in
    from_1
