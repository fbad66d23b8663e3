use Rattle.std.proofs.Common.{◌∙◌, ap, ap₂, subst}
use Rattle.std.proofs.lemmas.List.{map-id}
use Rattle.std.proofs.lemmas.Result.{IfOk-weaker}
use Rattle.clap.specs.Words.{is_simple, is_simple_and_free, subcommand_of}
use Rattle.clap.specs.Kinds.{FailsBy}
use Rattle.clap.specs.Faults.{fault_of}
use Rattle.tool_command.proofs.Lines.{simple, simple_and_free}
use Rattle.tool_command.proofs.line.parsed.Goals as goal

pub returns : goal.returns
returns c =
    let line = c.in_ok-tool_line.ensures.0 in
    let words = map-id c.args.words.now in
    let parse = c.try_get_matches_from in
    record {
      kinds = subst (λ f. FailsBy f parse.result) (ap₂ fault_of line words) (parse.ensures.kinds (ap is_simple_and_free line ∙ simple_and_free));
      found = IfOk-weaker parse.result _ _ (λ m h. (h (ap is_simple line ∙ simple)).1 ∙ ap₂ subcommand_of line words) parse.ensures.matches;
    }
