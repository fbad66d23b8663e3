use Rattle.std.proofs.Common.{◌≡◌, ◌*◌, ◌≤◌, ◌++◌, List, ℕ, length, take, drop, ap, sym, subst, ◌∙◌, arith}
use Rattle.std.proofs.Math.ListN.{drop_of_length-le}
use Rattle.std.proofs.lemmas.List.{take_all, length-drop}
use Rattle.std.specs.Io.KnownBytes.{Appends}
use Rattle.txn_set.specs.Set.{Set}
use Rattle.step_journal.specs.History.{IsLegal}
use Rattle.step_journal.specs.declared.entry.Entry.{Entry as Noted}
use Rattle.report_text.specs.Texts.{entries_text}
use Rattle.run_report.specs.Report.{Continues}
use Rattle.job_rows.specs.Upkeep.{Follows}
use Rattle.scenario_run.proofs.Texts.{continues_rest, rest_is, cut_short, all_sent, has_begun, has_come, counted_none, counted_next, always_err}
use Rattle.scenario_run.proofs.lines.add_lines.Goals as goal

pub add_some-requires-clause-next : goal.add_some-requires-clause-next
add_some-requires-clause-next g c =
    subst (λ (l : List Noted). Continues c.args.names.now c.loop-done.writer l) (sym (rest_is c.loop-done.done c.args.entries.now))
    (continues_rest c.args.names.now c.args.writer.now c.loop-done.writer c.args.entries.now c.loop-done.done c.requires.next
    c.loop-done.invariant.0.places c.loop-done.invariant.0.follows)

pub add_some-requires-clause-some : goal.add_some-requires-clause-some
add_some-requires-clause-some g c =
    omega (arith, c.loop-done-test.true, ap (λ (l : List Noted). length l) (rest_is c.loop-done.done c.args.entries.now), length-drop c.loop-done.done c.args.entries.now)

pub loop-done-init : goal.loop-done-init
loop-done-init g c = (
  has_begun c.args.names.now c.args.writer.now c.args.entries.now (g.K.Sink.taken c.args.sink.now) c.args.lines.now.items c.requires.empty,
  omega arith,
  omega arith,
  counted_none c.args.names.now c.args.entries.now,
  omega arith,
)

pub returns-in_err-count-clause-front : goal.returns-in_err-count-clause-front
returns-in_err-count-clause-front g c =
    always_err c.from_residual.result (cut_short (g.K.Sink.taken c.args.sink.now) (g.K.Sink.taken c.loop-done.sink) (g.K.Sink.taken c.add_some.new.sink) c.loop-done.lines.items
    (entries_text c.args.names.now (drop c.loop-done.done c.args.entries.now)) (entries_text c.args.names.now c.args.entries.now)
    c.in_err-count.ensures.front.0 c.loop-done.invariant.0.way c.in_err-count.ensures.front.1)

pub loop-done-preserved : goal.loop-done-preserved
loop-done-preserved g c =
    let names = c.args.names.now in
    let entries = c.args.entries.now in
    let done : ℕ = c.loop-done.done in
    let count : ℕ = c.in_ok-count.count in
    let rest = rest_is done entries in
    let told = c.in_ok-count.ensures in
    let added = subst (λ (l : List Noted). (sent : List ℕ) × Appends (g.K.Sink.taken c.loop-done.sink) (g.K.Sink.taken c.add_some.new.sink) sent
    × (sent ++ c.add_some.new.lines.items ≡ c.loop-done.lines.items ++ entries_text names (take count l))) rest told.added in
    let bytes = subst (λ (l : List Noted). (c.in_ok-count.more ≡ length (entries_text names (take count l))) × (c.in_ok-count.more ≤ 256 * count)) rest told.bytes in
    let follows = subst (λ (l : List Noted). (set : Set) (before : List Noted) → Follows set c.loop-done.writer before → IsLegal set (before ++ take count l)
    → Follows set c.add_some.new.writer (before ++ take count l)) rest told.follows in
    let within : count ≤ length (drop done entries) = subst (λ (l : List Noted). count ≤ length l) rest told.some.1 in (
      has_come names c.args.writer.now c.loop-done.writer c.add_some.new.writer entries done count
          (g.K.Sink.taken c.args.sink.now) (g.K.Sink.taken c.loop-done.sink) (g.K.Sink.taken c.add_some.new.sink) c.loop-done.lines.items c.add_some.new.lines.items
          c.loop-done.invariant.0 added.0 added.1 added.2 follows c.add_some.ensures.places,
      omega (arith, c.loop-done.invariant.1, c.add_some.ensures.room),
      omega (arith, c.loop-done.invariant.2, c.add_some.ensures.cause.later),
      counted_next names entries done count c.loop-done.bytes c.in_ok-count.more c.loop-done.invariant.3 bytes.0 bytes.1,
      omega (arith, within, length-drop done entries, c.loop-done.invariant.4),
    )

pub returns-clause-all : goal.returns-clause-all
returns-clause-all g c =
    let le : length c.args.entries.now ≤ c.loop-done.done = omega (arith, c.loop-done-test.false) in
    let none = ap (entries_text c.args.names.now) (drop_of_length-le c.args.entries.now le) in (
      all_sent (g.K.Sink.taken c.args.sink.now) (g.K.Sink.taken c.loop-done.sink) (g.K.Sink.taken c.send.new.sink) c.loop-done.lines.items
          (entries_text c.args.names.now (drop c.loop-done.done c.args.entries.now)) (entries_text c.args.names.now c.args.entries.now) c.loop-done.invariant.0.way none c.in_ok-send.ensures.all.0,
      c.in_ok-send.ensures.all.1,
    )

pub returns-in_err-send-clause-front : goal.returns-in_err-send-clause-front
returns-in_err-send-clause-front g c =
    always_err c.from_residual-in_err-send.result (cut_short (g.K.Sink.taken c.args.sink.now) (g.K.Sink.taken c.loop-done.sink) (g.K.Sink.taken c.send.new.sink) c.loop-done.lines.items
    (entries_text c.args.names.now (drop c.loop-done.done c.args.entries.now)) (entries_text c.args.names.now c.args.entries.now)
    c.in_err-send.ensures.front.0 c.loop-done.invariant.0.way c.in_err-send.ensures.front.1)

pub returns-clause-follows : goal.returns-clause-follows
returns-clause-follows g c =
    let le : length c.args.entries.now ≤ c.loop-done.done = omega (arith, c.loop-done-test.false) in
    λ set history f legal. subst (λ (l : List Noted). Follows set c.loop-done.writer (history ++ l)) (take_all c.loop-done.done c.args.entries.now le) (c.loop-done.invariant.0.follows set history f legal)
