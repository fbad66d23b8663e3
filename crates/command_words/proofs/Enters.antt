-- At the program's own level clap goes on to the subcommand that the first word names, or refuses it.
use Rattle.std.proofs.Common.{◌≡◌, ◌∙◌, Bool, false, List, [], ◌∷◌, Option, Some, None, refl, sym, ap, ap₂, codes}
use Rattle.std.specs.List.{fold}
use Rattle.std.specs.Option.{option_map_or, option_map}
use Rattle.std.specs.Prelude.{is_some, find}
use Rattle.std.specs.Str.{bytes_eq}
use Rattle.clap.specs.Walk.{Held, Names, Step, Text, Walk, idle, answers_to, finished, nothing_held, settled, subcommand_met, subcommand_or_other, walk, walk_from, walked}
use Rattle.clap.specs.Simple.{Shape, built, entered, label_of, names_of, rows_at, subcommand_of}
use Rattle.clap.specs.Kinds.{Kinds, or_else}
use Rattle.clap.specs.Faults.{check_fault, defaults_fault, entered_fault, fault_of, level_fault, other_fault, settle_fault, step_fault, stray_fault, turn_fault, walk_fault}
use Rattle.clap.specs.declared.error.kind.ErrorKind.{ErrorKind}
use Rattle.clap.specs.declared.error.kind.ErrorKind.TheVariants as kind
use Rattle.clap.proofs.WalkLemmas.{walk_stopped}
use Rattle.clap.proofs.FaultLemmas.{stopped_fault}
use Rattle.command_words.specs.Shape.{rtdb}
use Rattle.command_words.proofs.Walks.{IsPlainWord, met_plain, no_fault as no_plain_fault}

abbrev pub top : Shape
top = (built rtdb).top

abbrev pub names : Names
names = names_of (built rtdb)

or_nothing : (k : Kinds) → or_else k [] ≡ k
or_nothing [] = refl
or_nothing (x ∷ xs) = refl

abbrev pub start : Walk
start = walk_from nothing_held

abbrev pub stopped_at : Text → List Text → Walk
stopped_at name words = record start { stopped = Some (name, words) }

module _ (name : Text) (s : Shape) (met : walked [] names start name ≡ stopped_at name []) (passes : turn_fault top names start name ≡ []) (is : find (λ t. answers_to name (label_of t)) (built rtdb).subs ≡ Some s) where
  walk_is : (words : List Text) → walk [] names nothing_held (name ∷ words) ≡ stopped_at name words
  walk_is words = ap (λ (w : Walk). fold (walked [] names) w words) met ∙ sym (walk_stopped [] names start name [] words)

  no_fault : (words : List Text) → walk_fault top names start (name ∷ words) ≡ []
  unfolding walk_fault
  no_fault words = ap₂ or_else passes (ap (λ (w : Walk). walk_fault top names w words) met ∙ stopped_fault top names start (name, []) words)

  abbrev level : Held → List Text → Kinds → Option (Text × List Text) → Kinds
  level h words faults stop =
      or_else faults (or_else (entered_fault (built rtdb) stop) (or_else (settle_fault [] top.args_override_self h)
      (or_else (defaults_fault (settled [] h).rows []) (check_fault top (finished [] h) (is_some (entered (built rtdb) stop))))))

  abbrev below : List Text → Option Shape → Kinds
  below words o =
      or_else (option_map_or (λ t. level_fault t [] nothing_held words false []) o []) (or_else (settle_fault [] top.args_override_self nothing_held)
      (or_else (defaults_fault [] []) (check_fault top [] (is_some (option_map (λ t. rows_at t words) o)))))

  nothing_more : (words : List Text) → below words (Some s) ≡ or_else (level_fault s [] nothing_held words false []) []
  unfolding defaults_fault
  nothing_more words = refl

  -- the fault is the subcommand's
  pub fault_below : (words : List Text) → fault_of rtdb (name ∷ words) ≡ level_fault s [] nothing_held words false []
  fault_below words =
      ap₂ (λ (faults : Kinds) (w : Walk). level w.held words faults w.stopped) (no_fault words) (walk_is words)
      ∙ (ap (below words) is ∙ (nothing_more words ∙ or_nothing (level_fault s [] nothing_held words false [])))

  pub rows_below : (words : List Text) → subcommand_of rtdb (name ∷ words) ≡ Some (rows_at s words)
  rows_below words =
      ap (λ (w : Walk). entered (built rtdb) w.stopped) (walk_is words)
      ∙ ap (option_map (λ (t : Shape). rows_at t words)) is

-- ---- a first word that names none

-- none of the commands has this name
pub record IsNoName (name : Text) : Type 0 where
  pub ceilings : bytes_eq (codes "ceilings") name ≡ false
  pub admit : bytes_eq (codes "admit") name ≡ false
  pub run : bytes_eq (codes "run") name ≡ false
  pub replay : bytes_eq (codes "replay") name ≡ false
  pub gen : bytes_eq (codes "gen") name ≡ false
  pub load : bytes_eq (codes "load") name ≡ false
  pub rates : bytes_eq (codes "rates") name ≡ false
  pub margin : bytes_eq (codes "margin") name ≡ false

not_met : (name : Text) → IsNoName name → subcommand_met names idle name ≡ None
not_met name unnamed = rw (unnamed.ceilings, unnamed.admit, unnamed.run, unnamed.replay, unnamed.gen, unnamed.load, unnamed.rates, unnamed.margin) refl

refused : (name : Text) → IsNoName name → IsPlainWord name → turn_fault top names start name ≡ stray_fault top
refused name unnamed plain =
    let none = not_met name unnamed in
    ap₂ (λ (f : Kinds) (met : Held × Step). or_else f (step_fault top 1 met.0 met.1))
    (ap (λ o. other_fault top o name nothing_held) none ∙ no_plain_fault top idle name nothing_held plain)
    (ap (λ o. subcommand_or_other [] o idle 1 name nothing_held) none ∙ met_plain [] idle 1 name nothing_held plain)

pub level_first : (s : Shape) (ns : Names) (word : Text) (words : List Text) (has : Bool) (below : Kinds) (k : ErrorKind) (ks : Kinds) → turn_fault s ns start word ≡ k ∷ ks → level_fault s ns nothing_held (word ∷ words) has below ≡ k ∷ ks
unfolding walk_fault
level_first s ns word words has below k ks e =
    let end : Held = (walk s.rules ns nothing_held (word ∷ words)).held in
    ap (λ t. or_else (or_else t (walk_fault s ns (walked s.rules ns start word) words))
    (or_else below (or_else (settle_fault s.rules s.args_override_self end) (or_else (defaults_fault (settled s.rules end).rows s.rules) (check_fault s (finished s.rules end) has))))) e

pub fault_there : (name : Text) (words : List Text) → IsNoName name → IsPlainWord name → fault_of rtdb (name ∷ words) ≡ stray_fault top
fault_there name words unnamed plain =
    level_first top names name words (is_some (entered (built rtdb) (walk [] names nothing_held (name ∷ words)).stopped)) (entered_fault (built rtdb) (walk [] names nothing_held (name ∷ words)).stopped)
    kind.UnknownArgument (kind.InvalidSubcommand ∷ []) (refused name unnamed plain)
