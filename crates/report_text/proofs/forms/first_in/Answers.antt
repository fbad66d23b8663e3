use Rattle.std.proofs.Common.{◌≡◌, true, refl, ◌∙◌, sym, subst}
use Rattle.step_journal.specs.declared.entry.Entry.{Entry}
use Rattle.report_text.specs.Forms.{may_be}
use Rattle.report_text.proofs.FirstLaws.{first_is, first_not, first_none, if_none}
use Rattle.report_text.proofs.forms.first_in.Goals as goal

pub returns-in_err-entry-clause-none : goal.returns-in_err-entry-clause-none
returns-in_err-entry-clause-none c =
    if_none c.from_residual.result _ (first_none c.args.second c.args.names.now c.args.text.now c.in_err-entry.ensures.entry)

pub returns-then-may_be-clause-some : goal.returns-then-may_be-clause-some
returns-then-may_be-clause-some c =
    first_is c.args.second c.args.names.now c.args.text.now c.in_ok-entry.entry c.in_ok-entry.more.now c.in_ok-entry.ensures.entry
    (sym c.may_be.ensures ∙ c.if-may_be.true)

pub returns-else-may_be-clause-none : goal.returns-else-may_be-clause-none
returns-else-may_be-clause-none c =
    first_not c.args.second c.args.names.now c.args.text.now c.in_ok-entry.entry c.in_ok-entry.more.now c.in_ok-entry.ensures.entry
    (sym c.may_be.ensures ∙ c.if-may_be.false)

pub returns-in-Some-clause-some : goal.returns-in-Some-clause-some
returns-in-Some-clause-some c =
    let compute = c.in-Some.ensures.compute in
    first_is c.args.second c.args.names.now c.args.text.now c.in-Some.entry c.in-Some.more.now (c.in-Some.ensures.some c.args.names.now c.requires)
    (subst (λ (e : Entry). may_be c.args.second e ≡ true) (sym compute.2) refl)

pub returns-in-Some-clause-next : goal.returns-in-Some-clause-next
returns-in-Some-clause-next c = c.in-Some.ensures.next c.args.names.now c.requires

pub first_entry-requires : goal.first_entry-requires
first_entry-requires c = c.in_default.ensures.next c.args.names.now c.requires
