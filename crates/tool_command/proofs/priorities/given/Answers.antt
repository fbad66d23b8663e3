use Rattle.std.proofs.Common.{sym, subst}
use Rattle.txn_set.specs.Set.{Set}
use Rattle.law_times.specs.Pass.{prio_at}
use Rattle.report_text.specs.Texts.{NamesSet}
use Rattle.tool_command.proofs.Assigning.{names_with}
use Rattle.tool_command.proofs.priorities.given.Goals as goal

pub admission-requires : goal.admission-requires
admission-requires c =
    subst (λ (set : Set). NamesSet c.args.names.now set) (sym c.in_ok-set.ensures) (names_with c.args.names.now c.args.set.now (prio_at c.args.prios.now) c.requires.names)
