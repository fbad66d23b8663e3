use Rattle.std.proofs.Common.{◌++◌, List, ℕ, take, ap, sym, subst, ◌∙◌, arith, append_assoc}
use Rattle.std.specs.Prelude.{is_some}
use Rattle.std.proofs.lemmas.List.{take_more, take_all}
use Rattle.item_model.specs.declared.stored.Stored.{Stored}
use Rattle.step_journal.specs.declared.entry.Entry.{Entry}
use Rattle.step_journal.specs.declared.entry.Entry.TheVariants.{Planned}
use Rattle.step_journal.specs.History.{state_of}
use Rattle.job_rows.specs.Rows.{job_rows}
use Rattle.job_rows.specs.Upkeep.{Follows}
use Rattle.report_text.specs.Texts.{whole_entry_line, entries_text}
use Rattle.report_text.proofs.RowLaws.{next_row, all_rows}
use Rattle.run_report.specs.Report.{opening_text, closing_text}
use Rattle.job_rows.proofs.Fronts.{next_legal, next_fits}
use Rattle.run_report.proofs.whole.report_with_items.Goals as goal

abbrev filler : Entry
filler = Planned (record { 0 = 0 }) 0

pub add_next-requires : goal.add_next-requires
add_next-requires c =
    let inv = c.loop-i.invariant in
    record {
      goes = record {
        set = c.args.set.now;
        history = take c.loop-i.i c.args.entries.now;
        follows = inv.follows;
        legal = next_legal c.args.set.now c.args.entries.now c.loop-i.i filler c.loop-i-test.true c.requires.legal;
        fits = omega (arith, inv.places, next_fits c.args.entries.now c.loop-i.i filler c.loop-i-test.true);
      };
      one_each = c.requires.names;
    }

pub loop-i-preserved : goal.loop-i-preserved
loop-i-preserved c =
    let inv = c.loop-i.invariant in
    let history : List Entry = take c.loop-i.i c.args.entries.now in
    let legal = next_legal c.args.set.now c.args.entries.now c.loop-i.i filler c.loop-i-test.true c.requires.legal in
    record {
      so_far = next_row (whole_entry_line c.args.names.now) _ _ _ c.args.entries.now c.loop-i.i filler c.loop-i-test.true c.in_ok-add_next.ensures.text inv.so_far;
      follows = subst (Follows c.args.set.now c.add_next.new.writer) (sym (take_more c.args.entries.now c.loop-i.i filler c.loop-i-test.true)) (c.in_ok-add_next.ensures.follows c.args.set.now history inv.follows legal);
      places = c.add_next.ensures.places ∙ inv.places;
    }

pub finish-requires : goal.finish-requires
finish-requires c =
    record {
      set = c.args.set.now;
      history = c.args.entries.now;
      follows = subst (Follows c.args.set.now c.loop-i.writer) (take_all c.loop-i.i c.args.entries.now c.loop-i-test.false) c.loop-i.invariant.follows;
      one_each = c.requires.names;
      last = c.requires.last;
    }

pub returns : goal.returns
returns c =
    let opening : List ℕ = opening_text c.args.names.now c.args.set.now (is_some c.args.bounds) in
    let lines : List ℕ = entries_text c.args.names.now c.args.entries.now in
    let rows = job_rows c.args.set.now c.args.entries.now in
    let follows = subst (Follows c.args.set.now c.loop-i.writer) (take_all c.loop-i.i c.args.entries.now c.loop-i-test.false) c.loop-i.invariant.follows in
    c.in_ok-finish.ensures.text c.args.set.now c.args.entries.now follows
    ∙ ap (λ (t : List ℕ). t ++ closing_text c.args.names.now rows c.args.items.now) (all_rows (whole_entry_line c.args.names.now) _ _ c.args.entries.now c.loop-i.i c.loop-i-test.false c.loop-i.invariant.so_far)
    ∙ ap (λ (i : List Stored). (opening ++ lines) ++ closing_text c.args.names.now rows i) c.requires.last
    ∙ append_assoc opening lines (closing_text c.args.names.now rows (state_of c.args.set.now c.args.entries.now).items)
