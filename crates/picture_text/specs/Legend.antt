-- What stands in each picture alike.
use Rattle.std.specs.Prelude.{ℕ, ◌+◌, List, [], codes}
use Rattle.journal_text.specs.Lines.{◌⊕◌}
use Rattle.schedule_marks.specs.Svg.{rect, line, circle, words, some_word}

-- the classes of texts, lines, steps, spans and ends
abbrev pub light_style : List ℕ
light_style =
    codes "<style>text{font:11px monospace;fill:#111}.n{font-size:12px;font-weight:bold}.m{text-anchor:middle}.e{text-anchor:end}.s{fill:#333}"
    ⊕ codes ".f{fill:#333;paint-order:stroke;stroke:#fff;stroke-width:3px}.j{fill:#111;font-weight:bold;text-anchor:middle}"
    ⊕ codes ".z{fill:#fff;font-weight:bold;text-anchor:middle}.l{fill:#fff;font-size:9px;font-weight:bold;text-anchor:middle}"
    ⊕ codes ".bg{fill:#fff}.g{stroke:#e4e4e4}.b{stroke:#888}.h{stroke:#333}.p{fill:#e6e6e6}"
    ⊕ codes ".r{fill:#56b4e9}.w{fill:#b34a00}.c{fill:#f0e442}.k{fill:#00785a}.q{fill:#555}"
    ⊕ codes ".lr{fill:#cfe8f8;stroke:#56b4e9}.lw{fill:#f7d3b8;stroke:#b34a00}.a{fill:#e3d7ee}.t{stroke:#5b2a86;stroke-width:2}"
    ⊕ codes ".o{fill:url(#wait);stroke:#b00020}.i{fill:#f3c9df;stroke:#a0457a}.v,.vs,.vb{stroke:#b00020;stroke-width:2}.v{marker-end:url(#to)}"
    ⊕ codes ".vb{stroke-width:1;stroke-dasharray:3}.u{stroke:#111;stroke-width:2;marker-end:url(#at)}.d{stroke:#0072b2;stroke-width:2;marker-end:url(#due)}"
    ⊕ codes ".ut{fill:#111}.dt{fill:#0072b2}.vt{fill:#b00020}.ht{stroke:#b00020}circle{stroke:#fff}"
    ⊕ codes ".rb{stroke:#7a3db8;stroke-width:2}.ab{stroke:#7a3db8;stroke-dasharray:4}.ag{stroke:#0072b2;stroke-width:2}.av{stroke:#b00020;stroke-dasharray:4}.ar{fill:#00785a}"
    ⊕ codes ".xk{fill:#00785a}.xo{fill:#8a5a00}.xl{fill:#b00020}.xs{fill:#8a2f6b}.xa{fill:#005a94}.xq{fill:#555}"

-- their colours on a dark screen
abbrev pub dark_style : List ℕ
dark_style =
    codes "@media(prefers-color-scheme:dark){text,.s{fill:#ddd}.f{fill:#ddd;stroke:#16181d}.bg{fill:#16181d}.g{stroke:#33363d}.b{stroke:#777}.h{stroke:#bbb}"
    ⊕ codes ".p{fill:#3a3d45}.lr{fill:#1d3b4e}.lw{fill:#4a2a12}.a{fill:#3a2e4d}.t{stroke:#b79be0}.i{fill:#4a2038}"
    ⊕ codes ".o,.v,.vs,.vb,.ht{stroke:#ff6b81}.vt{fill:#ff6b81}.u{stroke:#eee}.ut{fill:#eee}.d{stroke:#58b0f0}.dt{fill:#58b0f0}"
    ⊕ codes ".rb,.ab{stroke:#b98ae6}.ag{stroke:#58b0f0}.av{stroke:#ff6b81}.ar{fill:#4fc3a1}"
    ⊕ codes "}</style>\n"

abbrev pub style : List ℕ
style = light_style ⊕ dark_style

abbrev pub release_head : List ℕ
release_head =
    codes "<defs><marker id='at' markerUnits='userSpaceOnUse' markerWidth='8' markerHeight='8' refX='6' refY='4' orient='auto'><path class='ut' d='M0,0L7,4L0,8z'/></marker>"

abbrev pub deadline_head : List ℕ
deadline_head =
    codes "<marker id='due' markerUnits='userSpaceOnUse' markerWidth='8' markerHeight='8' refX='6' refY='4' orient='auto'><path class='dt' d='M0,0L7,4L0,8z'/></marker>"

abbrev pub refusal_head : List ℕ
refusal_head =
    codes "<marker id='to' markerUnits='userSpaceOnUse' markerWidth='8' markerHeight='8' refX='6' refY='4' orient='auto'><path class='vt' d='M0,0L7,4L0,8z'/></marker>"

abbrev pub hatching : List ℕ
hatching =
    codes "<pattern id='wait' width='6' height='6' patternUnits='userSpaceOnUse'><path class='ht' d='M0,6L6,0'/></pattern></defs>\n"

-- the heads of arrows, and the hatching of waits
abbrev pub arrows : List ℕ
arrows = release_head ⊕ deadline_head ⊕ refusal_head ⊕ hatching

-- a coloured field and what it means
abbrev pub key : List ℕ → ℕ → ℕ → List ℕ → List ℕ
key class x y word = rect class x y 20 14 ⊕ words (codes "s") (x + 26) (y + 11) word []

-- the field and the letter of a step, and what they mean
abbrev pub step_key : List ℕ → List ℕ → List ℕ → ℕ → List ℕ → List ℕ
step_key class letter_class letter x word = key class x 8 word ⊕ some_word letter_class (x + 10) 19 letter

-- a disc with its letter, and the end that it means
abbrev pub end_key : List ℕ → ℕ → List ℕ → List ℕ → List ℕ
end_key class x letter word =
    circle class (x + 10) 55 ⊕ some_word (codes "l") (x + 10) 58 letter ⊕ words (codes "s") (x + 26) 59 word []

abbrev pub steps_legend : List ℕ
steps_legend =
    step_key (codes "r") (codes "j") (codes "R") 10 (codes "read")
    ⊕ step_key (codes "w") (codes "z") (codes "W") 90 (codes "write")
    ⊕ step_key (codes "c") (codes "j") [] 180 (codes "compute")
    ⊕ step_key (codes "k") (codes "z") (codes "C") 280 (codes "commit")
    ⊕ step_key (codes "q") (codes "z") (codes "Q") 370 (codes "quit")

abbrev pub jobs_legend : List ℕ
jobs_legend =
    key (codes "p") 450 8 (codes "pending")
    ⊕ key (codes "o") 550 8 (codes "waits")
    ⊕ key (codes "i") 640 8 (codes "runs as the one that waits")
    ⊕ key (codes "lr") 10 28 (codes "read lock")
    ⊕ key (codes "lw") 120 28 (codes "write lock")
    ⊕ key (codes "a") 240 28 (codes "ceiling")

abbrev pub arrows_legend : List ℕ
arrows_legend =
    line (codes "u") 336 43 336 27
    ⊕ words (codes "s") 346 39 (codes "release") []
    ⊕ line (codes "d") 426 27 426 43
    ⊕ words (codes "s") 436 39 (codes "deadline") []
    ⊕ line (codes "v") 520 35 540 35
    ⊕ words (codes "s") 552 39 (codes "refused: waits on the job pointed at") []

abbrev pub ends_legend : List ℕ
ends_legend =
    end_key (codes "xk") 10 [] (codes "committed")
    ⊕ end_key (codes "xo") 120 (codes "O") (codes "overrun")
    ⊕ end_key (codes "xl") 220 (codes "L") (codes "late")
    ⊕ end_key (codes "xs") 300 (codes "S") (codes "stale")
    ⊕ end_key (codes "xa") 390 (codes "A") (codes "apart")
    ⊕ end_key (codes "xq") 480 (codes "Q") (codes "quit")

abbrev pub ages_legend : List ℕ
ages_legend =
    line (codes "rb") 20 68 20 82
    ⊕ line (codes "rb") 15 81 20 81
    ⊕ words (codes "s") 32 79 (codes "response bound") []
    ⊕ line (codes "ag") 150 82 170 70
    ⊕ words (codes "s") 176 79 (codes "age of a value") []
    ⊕ line (codes "av") 290 75 310 75
    ⊕ words (codes "s") 316 79 (codes "its validity") []
    ⊕ line (codes "ab") 420 75 440 75
    ⊕ words (codes "s") 446 79 (codes "its age bound") []
    ⊕ rect (codes "ar") 558 73 5 5
    ⊕ words (codes "s") 570 79 (codes "read by a job that committed") []

abbrev pub legend : List ℕ
legend = steps_legend ⊕ jobs_legend ⊕ arrows_legend ⊕ ends_legend ⊕ ages_legend
