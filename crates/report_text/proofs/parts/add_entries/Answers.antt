use Rattle.std.proofs.Common.{◌≡◌, List, ◌∷◌, [], ◌++◌, refl, ap, ◌∙◌, rules}
use Rattle.step_journal.specs.declared.entry.Entry.{Entry}
use Rattle.report_text.specs.Forms.{entry_form}
use Rattle.report_text.specs.Document.{lines_of, front}
use Rattle.report_text.specs.Placed.{entry_lines}
use Rattle.report_text.specs.First.{IsFirst, HasNone}
use Rattle.report_text.proofs.Places.{one_entry}
use Rattle.report_text.proofs.Walking.{at_start, goes_on, one_more}
use Rattle.report_text.proofs.FirstLaws.{walked, all_got}
use Rattle.report_text.proofs.parts.add_entries.Goals as goal

pub loop-entry-init : goal.loop-entry-init
loop-entry-init c = (
  refl,
  at_start (entry_form c.args.second c.args.names.now) c.args.first c.args.text.now,
  refl,
  c.new-next.ensures.next c.args.names.now,
)

pub loop-entry-preserved : goal.loop-entry-preserved
loop-entry-preserved c =
    let h : IsFirst c.args.second c.args.names.now c.loop-entry.rest.now c.in-Some.entry c.in-Some.more.now = search rules in
    let kept : c.reserve.new.self.items ≡ c.loop-entry.entries.items = search rules in
    let pushed : c.push_reserved.new.self.items ≡ c.loop-entry.entries.items ++ c.in-Some.entry ∷ [] = c.push_reserved.ensures.items ∙ ap (λ (es : List Entry). es ++ c.in-Some.entry ∷ []) kept in (
      rw pushed (one_more (entry_form c.args.second c.args.names.now) c.loop-entry.entries.items
          (c.args.entries.now.items ++ front (entry_form c.args.second c.args.names.now) (lines_of c.args.text.now).0)
          c.loop-entry.rest.now h.line c.in-Some.more.now c.in-Some.entry h.cut h.form c.loop-entry.invariant.0),
      goes_on (entry_form c.args.second c.args.names.now) c.args.first c.args.text.now c.loop-entry.n c.loop-entry.rest.now
          h.line c.in-Some.more.now c.in-Some.entry h.cut h.form c.loop-entry.invariant.1,
      rw pushed (one_entry c.args.names.now c.loop-entry.entries.items c.loop-entry.rest.now h.line c.in-Some.more.now
          c.in-Some.entry (entry_lines c.args.names.now c.args.entries.now.items ++ c.args.text.now) h.cut h.is c.loop-entry.invariant.2),
      search rules,
    )

pub returns-clause-entries : goal.returns-clause-entries
returns-clause-entries c =
    let none : HasNone c.args.second c.args.names.now c.loop-entry.rest.now = search rules in
    all_got c.args.second c.args.names.now c.loop-entry.entries.items
    (c.args.entries.now.items ++ front (entry_form c.args.second c.args.names.now) (lines_of c.args.text.now).0)
    c.loop-entry.rest.now none c.loop-entry.invariant.0

pub returns-clause-after : goal.returns-clause-after
returns-clause-after c =
    let none : HasNone c.args.second c.args.names.now c.loop-entry.rest.now = search rules in
    walked c.args.second c.args.names.now c.args.first c.args.text.now c.loop-entry.n c.loop-entry.rest.now none c.loop-entry.invariant.1
