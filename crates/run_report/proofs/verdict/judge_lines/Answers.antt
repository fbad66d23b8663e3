use Rattle.std.proofs.Common.{is_some, ap, ◌∙◌}
use Rattle.rt_base.specs.declared.name.Names.{Names}
use Rattle.step_journal.specs.History.{state_of}
use Rattle.job_rows.specs.Rows.{job_rows}
use Rattle.run_report.specs.Report.{opening_text, closing_text, report_of}
use Rattle.run_report.proofs.Judging.{legal_said}
use Rattle.run_report.proofs.Between.{begins_within, ends_within, between_said}
use Rattle.run_report.proofs.verdict.judge_lines.Goals as goal

pub is_between-requires-clause-left : goal.is_between-requires-clause-left
is_between-requires-clause-left c = begins_within _ _ _ _ _ c.requires.stand

pub is_between-requires-clause-after : goal.is_between-requires-clause-after
is_between-requires-clause-after c = ends_within _ _ _ _ _ c.requires.stand

pub returns-then-is_between : goal.returns-then-is_between
returns-then-is_between c =
    between_said c.args.told.bytes.now c.args.names.now c.args.set.now (is_some c.args.bounds) c.args.told.entries.now c.args.told.first
    c.args.told.left c.args.told.after c.requires.parts c.requires.stand c.requires.admitted c.requires.legal
    (c.is_between.ensures.opening c.if-is_between.true ∙ (c.deref.ensures.value ∙ (c.in_ok-opening.ensures.opening
    ∙ ap (λ (n : Names). opening_text n c.args.set.now (is_some c.args.bounds)) c.names.ensures)))
    (c.is_between.ensures.closing c.if-is_between.true ∙ (c.deref-2.ensures.value ∙ (c.in_ok-opening.ensures.closing
    ∙ ap (λ (n : Names). closing_text n (job_rows c.args.set.now c.args.told.entries.now) (state_of c.args.set.now c.args.told.entries.now).items) c.names.ensures)))

pub returns : goal.returns
returns c =
    legal_said c.args.told.bytes.now c.args.names.now c.args.set.now (is_some c.args.bounds) c.args.told.entries.now c.args.told.first
    c.deref-3.result.now c.compared.result c.requires.parts c.requires.admitted c.requires.legal
    (c.deref-3.ensures.value ∙ (c.in_ok-text.ensures
    ∙ ap (λ (n : Names). report_of n c.args.set.now (is_some c.args.bounds) c.args.told.entries.now) c.names-2.ensures))
    c.compared.ensures
