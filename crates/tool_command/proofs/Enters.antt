-- Clap refuses a first word that names no command.
use Rattle.std.proofs.Common.{◌≡◌, ◌∙◌, false, [], ◌∷◌, None, refl, ap, ap₂, codes}
use Rattle.std.specs.Prelude.{is_some}
use Rattle.std.specs.Str.{bytes_eq}
use Rattle.clap.specs.Walk.{Held, Names, Step, Text, idle, nothing_held, subcommand_met, subcommand_or_other, walk}
use Rattle.clap.specs.Simple.{Shape, built, entered, names_of}
use Rattle.clap.specs.Kinds.{Kinds, or_else}
use Rattle.clap.specs.Faults.{entered_fault, fault_of, other_fault, step_fault, stray_fault, turn_fault}
use Rattle.clap.specs.declared.error.kind.ErrorKind.TheVariants as kind
use Rattle.command_words.proofs.Walks.{IsPlainWord, met_plain, no_fault}
use Rattle.command_words.proofs.Enters.{start, level_first}
use Rattle.tool_command.specs.Shape.{tool}

abbrev top : Shape
top = (built tool).top

abbrev names : Names
names = names_of (built tool)

-- none of the commands has this name
pub record IsNoName (name : Text) : Type 0 where
  pub slack : bytes_eq (codes "slack") name ≡ false
  pub priorities : bytes_eq (codes "priorities") name ≡ false
  pub summary : bytes_eq (codes "summary") name ≡ false
  pub json : bytes_eq (codes "json") name ≡ false
  pub table : bytes_eq (codes "table") name ≡ false
  pub check : bytes_eq (codes "check") name ≡ false

not_met : (name : Text) → IsNoName name → subcommand_met names idle name ≡ None
not_met name unnamed = rw (unnamed.slack, unnamed.priorities, unnamed.summary, unnamed.json, unnamed.table, unnamed.check) refl

refused : (name : Text) → IsNoName name → IsPlainWord name → turn_fault top names start name ≡ stray_fault top
refused name unnamed plain =
    let none = not_met name unnamed in
    ap₂ (λ (f : Kinds) (met : Held × Step). or_else f (step_fault top 1 met.0 met.1))
    (ap (λ o. other_fault top o name nothing_held) none ∙ no_fault top idle name nothing_held plain)
    (ap (λ o. subcommand_or_other [] o idle 1 name nothing_held) none ∙ met_plain [] idle 1 name nothing_held plain)

pub fault_there : (name : Text) → IsNoName name → IsPlainWord name → fault_of tool (name ∷ []) ≡ stray_fault top
fault_there name unnamed plain =
    level_first top names name [] (is_some (entered (built tool) (walk [] names nothing_held (name ∷ [])).stopped)) (entered_fault (built tool) (walk [] names nothing_held (name ∷ [])).stopped)
    kind.UnknownArgument (kind.InvalidSubcommand ∷ []) (refused name unnamed plain)
