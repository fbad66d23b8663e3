-- What clap says of the word that it is asked about is what the definition says.
use Rattle.std.proofs.Common.{◌≡◌, ◌∙◌, ◌==◌, ◌&&◌, ap₂, Bool, true, false, not, List, [], ◌∷◌, Option, Some, None, refl, sym, ap, subst, codes, true≢false, if◌then◌else◌}
use Rattle.std.specs.Str.{bytes_eq}
use Rattle.std.proofs.lemmas.Bool.{eqb-true}
use Rattle.std.proofs.lemmas.Slice.Eq.{bytes_eq-Decides}
use Rattle.clap.specs.Simple.{subcommand_of}
use Rattle.clap.specs.Kinds.{IsAmong, Kinds}
use Rattle.clap.specs.Faults.{fault_of, walk_fault, defaults_fault}
use Rattle.clap.specs.declared.error.kind.ErrorKind.{ErrorKind}
use Rattle.clap.proofs.OnLiterals.{clap_on_literals}
use Rattle.command_words.specs.Asking.{is_name}
use Rattle.command_words.proofs.Parts.{plain_word}
use Rattle.rt_base.proofs.Padding.{both as both_true}
use Rattle.tool_command.specs.declared.command.ToolCommand.{ToolCommand}
use Rattle.tool_command.specs.declared.command.ToolCommand.TheVariants.{Slack, Priorities, Summary, Json, Table, Check}
use Rattle.tool_command.specs.Commands.{Text, named, command_of}
use Rattle.tool_command.specs.Asking.{is_askable, said}
use Rattle.tool_command.specs.Shape.{tool}
use Rattle.tool_command.proofs.Enters.{IsNoName, fault_there}

abbrev outcome : Kinds → Option ToolCommand → Option ToolCommand
outcome [] answer = answer
outcome (k ∷ ks) answer = None

abbrev reply : List Text → Option ToolCommand
reply words = outcome (fault_of tool words) (said (subcommand_of tool words))

slack_reply : reply (codes "slack" ∷ []) ≡ Some Slack
unfolding clap_on_literals walk_fault defaults_fault
slack_reply = refl

priorities_reply : reply (codes "priorities" ∷ []) ≡ Some Priorities
unfolding clap_on_literals walk_fault defaults_fault
priorities_reply = refl

summary_reply : reply (codes "summary" ∷ []) ≡ Some Summary
unfolding clap_on_literals walk_fault defaults_fault
summary_reply = refl

json_reply : reply (codes "json" ∷ []) ≡ Some Json
unfolding clap_on_literals walk_fault defaults_fault
json_reply = refl

table_reply : reply (codes "table" ∷ []) ≡ Some Table
unfolding clap_on_literals walk_fault defaults_fault
table_reply = refl

check_reply : reply (codes "check" ∷ []) ≡ Some (Check false)
unfolding clap_on_literals walk_fault defaults_fault
check_reply = refl

trial_reply : reply (codes "check" ∷ codes "--trial" ∷ []) ≡ Some (Check true)
unfolding clap_on_literals walk_fault defaults_fault
trial_reply = refl

same : (a b : Text) → bytes_eq a b ≡ true → a ≡ b
same a b e = (bytes_eq-Decides a b).0 e

flipped : (a b : Text) → bytes_eq a b ≡ false → bytes_eq b a ≡ false
flipped a b e = go (bytes_eq b a) refl
  where
    go : (x : Bool) → bytes_eq b a ≡ x → x ≡ false
    go false at = refl
    go true at = absurd (true≢false (sym ((bytes_eq-Decides a b).1 (sym (same b a at))) ∙ e))

-- by the name

abbrev chosen : Bool → Bool → Bool → Bool → Bool → Bool → Option ToolCommand
chosen slack priorities summary json table check =
    if slack then Some Slack else (if priorities then Some Priorities else (if summary then Some Summary else (if json then Some Json else (if table then Some Table else (if check then Some (Check false) else None)))))

by_name : (name : Text) → is_name name ≡ true → (slack priorities summary json table check : Bool)
    → bytes_eq name (codes "slack") ≡ slack
    → bytes_eq name (codes "priorities") ≡ priorities
    → bytes_eq name (codes "summary") ≡ summary
    → bytes_eq name (codes "json") ≡ json
    → bytes_eq name (codes "table") ≡ table
    → bytes_eq name (codes "check") ≡ check
    → reply (name ∷ []) ≡ chosen slack priorities summary json table check
by_name name first true b1 b2 b3 b4 b5 is i j k l m = ap (λ n. reply (n ∷ [])) (same name (codes "slack") is) ∙ slack_reply
by_name name first false true b2 b3 b4 b5 h is j k l m = ap (λ n. reply (n ∷ [])) (same name (codes "priorities") is) ∙ priorities_reply
by_name name first false false true b3 b4 b5 h i is k l m = ap (λ n. reply (n ∷ [])) (same name (codes "summary") is) ∙ summary_reply
by_name name first false false false true b4 b5 h i j is l m = ap (λ n. reply (n ∷ [])) (same name (codes "json") is) ∙ json_reply
by_name name first false false false false true b5 h i j k is m = ap (λ n. reply (n ∷ [])) (same name (codes "table") is) ∙ table_reply
by_name name first false false false false false true h i j k l is = ap (λ n. reply (n ∷ [])) (same name (codes "check") is) ∙ check_reply
by_name [] first false false false false false false h i j k l m = absurd (true≢false (sym first))
by_name (b ∷ bs) first false false false false false false h i j k l m =
    let unnamed : IsNoName (b ∷ bs) = record {
      slack = flipped (b ∷ bs) (codes "slack") h;
      priorities = flipped (b ∷ bs) (codes "priorities") i;
      summary = flipped (b ∷ bs) (codes "summary") j;
      json = flipped (b ∷ bs) (codes "json") k;
      table = flipped (b ∷ bs) (codes "table") l;
      check = flipped (b ∷ bs) (codes "check") m;
    } in
    ap (λ f. outcome f (said (subcommand_of tool ((b ∷ bs) ∷ [])))) (fault_there (b ∷ bs) unnamed (plain_word b bs (not_true (b == 45) first)))
  where
    not_true : (x : Bool) → not x ≡ true → x ≡ false
    not_true true e = sym e
    not_true false e = refl

-- `check --trial`

of_trial : (name option : Text) → (bytes_eq name (codes "check") && bytes_eq option (codes "--trial")) ≡ true
    → reply (name ∷ option ∷ []) ≡ command_of (name ∷ option ∷ [])
of_trial name option is =
    let both = both_true (bytes_eq name (codes "check")) (bytes_eq option (codes "--trial")) is in
    ap₂ (λ n o. reply (n ∷ o ∷ [])) (same name (codes "check") both.0) (same option (codes "--trial") both.1)
    ∙ (trial_reply ∙ sym (ap (λ (b : Bool). if b then Some (Check true) else None) is))

reads : (words : List Text) → is_askable words ≡ true → reply words ≡ command_of words
reads [] asked = absurd (true≢false (sym asked))
reads (name ∷ []) asked =
    by_name name asked (bytes_eq name (codes "slack")) (bytes_eq name (codes "priorities")) (bytes_eq name (codes "summary")) (bytes_eq name (codes "json")) (bytes_eq name (codes "table")) (bytes_eq name (codes "check"))
    refl refl refl refl refl refl
reads (name ∷ option ∷ []) asked = of_trial name option asked
reads (a ∷ b ∷ c ∷ rest) asked = absurd (true≢false (sym asked))

-- what clap is not asked about

no_name : (name : Text) → is_name name ≡ false → named name false ≡ None
no_name [] e = refl
no_name (b ∷ bs) e = subst (λ x. named (x ∷ bs) false ≡ None) (sym (eqb-true b 45 (not_false (b == 45) e))) refl
  where
    not_false : (x : Bool) → not x ≡ false → x ≡ true
    not_false true e = refl
    not_false false e = absurd (true≢false e)

pub unasked : (words : List Text) → is_askable words ≡ false → None ≡ command_of words
unasked [] asked = refl
unasked (name ∷ []) asked = sym (no_name name asked)
unasked (name ∷ option ∷ []) asked = sym (ap (λ (b : Bool). if b then Some (Check true) else None) asked)
unasked (a ∷ b ∷ c ∷ rest) asked = refl

-- where clap has no fault the command is the subcommand's
pub told : (words : List Text) → is_askable words ≡ true → fault_of tool words ≡ [] → said (subcommand_of tool words) ≡ command_of words
told words asked none = sym (ap (λ f. outcome f (said (subcommand_of tool words))) none) ∙ reads words asked

-- where it has one there is no command
pub refused : (words : List Text) (k : ErrorKind) → is_askable words ≡ true → IsAmong k (fault_of tool words) → None ≡ command_of words
refused words k asked among = sym (go (fault_of tool words) among) ∙ reads words asked
  where
    go : (faults : Kinds) → IsAmong k faults → outcome faults (said (subcommand_of tool words)) ≡ None
    go [] among = absurd among
    go (x ∷ xs) among = refl
