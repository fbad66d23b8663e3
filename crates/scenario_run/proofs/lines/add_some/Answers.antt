use Rattle.std.proofs.Common.{◌++◌, List, ℕ, take, ap, sym, ◌∙◌, append_assoc, arith}
use Rattle.std.proofs.lemmas.List.{length-take}
use Rattle.report_text.specs.Texts.{entries_text}
use Rattle.scenario_run.proofs.Texts.{continues_front}
use Rattle.scenario_run.proofs.lines.add_some.Goals as goal

pub push_all-requires-clause-next : goal.push_all-requires-clause-next
push_all-requires-clause-next g c = continues_front c.args.names.now c.args.writer.now c.args.entries.now c.min-count.result c.requires.next

pub push_all-requires-clause-room : goal.push_all-requires-clause-room
push_all-requires-clause-room g c =
    omega (arith, length-take c.min-count.result c.args.entries.now, c.min-count.ensures, c.len-before.ensures)

pub returns-clause-added : goal.returns-clause-added
returns-clause-added g c =
    let sent = c.in_ok-make_room.ensures.sent in (
      sent.0,
      sent.1,
      ap (λ (l : List ℕ). sent.0 ++ l) c.push_all.ensures.text
          ∙ (sym (append_assoc sent.0 c.make_room.new.lines.items (entries_text c.args.names.now (take c.min-count.result c.args.entries.now)))
          ∙ ap (λ (l : List ℕ). l ++ entries_text c.args.names.now (take c.min-count.result c.args.entries.now)) sent.2),
    )
