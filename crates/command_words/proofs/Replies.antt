-- What clap says of the words that it is asked about is what the definition says.
use Rattle.std.proofs.Common.{◌≡◌, ◌∙◌, ◌&&◌, ◌||◌, ◌==◌, ℕ, Bool, true, false, not, List, [], ◌∷◌, map, Option, Some, None, refl, sym, ap, ap₂, subst, codes, true≢false, if◌then◌else◌}
use Rattle.std.specs.Prelude.{find, is_some, option_and_then, ◌++◌}
use Rattle.std.specs.List.{list_all}
use Rattle.std.proofs.lemmas.Bool.{eqb-true}
use Rattle.std.specs.Str.{bytes_eq}
use Rattle.std.proofs.lemmas.Slice.Eq.{bytes_eq-Decides}
use Rattle.clap.specs.Walk.{answers_to, nothing_held, walked}
use Rattle.clap.specs.Simple.{Shape, built, label_of, rows_at, subcommand_of}
use Rattle.clap.specs.Kinds.{IsAmong, Kinds}
use Rattle.clap.specs.Faults.{fault_of, level_fault, turn_fault}
use Rattle.clap.specs.Words.{new_app}
use Rattle.clap.specs.declared.error.kind.ErrorKind.{ErrorKind}
use Rattle.clap.proofs.OnLiterals.{clap_on_literals}
use Rattle.rt_base.proofs.Padding.{both as both_true}
use Rattle.command_words.specs.declared.command.Command.{Command}
use Rattle.command_words.specs.declared.command.PlainCommand.TheVariants.{Ceilings, Admit, Replay, Rates, Margin}
use Rattle.command_words.specs.Commands.{Text, Part, alone, command_of, gen_of, load_of, named, number_of, parts_of, run_of}
use Rattle.command_words.specs.Asking.{begins_with_number, is_askable, is_name, is_part, said, wants_number}
use Rattle.command_words.specs.Shape.{generating, rtdb}
use Rattle.command_words.proofs.Walks.{IsPlainWord, fault_by, fault_is, rows_are, rows_by, text_of}
use Rattle.command_words.proofs.Enters.{IsNoName, fault_below, fault_there, names, rows_below, start, stopped_at, top}
use Rattle.command_words.proofs.Leaves.{AreRight, Piece, admit_answer, answer, built_sub, ceilings_answer, flag, gen_answer, joined, load_answer, load_sub, margin_answer, numeral, option_word, outcome, part, rates_answer, replay_answer, run_answer, run_sub, sound, token}
use Rattle.command_words.proofs.Parts.{Pieces, no_parts, pieces_of, plain_number, plain_word}

abbrev reply : List Text → Option Command
reply words = outcome (fault_of rtdb words) (said (subcommand_of rtdb words))

reply_below : (name : Text) (s : Shape) → walked [] names start name ≡ stopped_at name [] → turn_fault top names start name ≡ [] → find (λ t. answers_to name (label_of t)) (built rtdb).subs ≡ Some s → s.name ≡ name
    → (words : List Text) (ps : Pieces words) → reply (name ∷ words) ≡ answer name s ps.pieces
reply_below name s met passes is label words ps =
    let tokens = map token ps.pieces in
    let right = sound ps.pieces ps.right in
    let fault : fault_of rtdb (name ∷ words) ≡ fault_by s tokens =
    fault_below name s met passes is words ∙ (ap (λ ws. level_fault s [] nothing_held ws false []) ps.are ∙ fault_is s tokens right) in
    let rows : subcommand_of rtdb (name ∷ words) ≡ Some (name, rows_by s tokens) =
    rows_below name s met passes is words ∙ (ap (λ ws. Some (rows_at s ws)) ps.are ∙ (ap Some (rows_are s tokens right) ∙ ap (λ n. Some (n, rows_by s tokens)) label)) in
    ap₂ (λ f r. outcome f (said r)) fault rows

ceilings_reply : (words : List Text) (ps : Pieces words) → reply (codes "ceilings" ∷ words) ≡ answer (codes "ceilings") (built_sub (new_app (codes "ceilings")).top) ps.pieces
unfolding clap_on_literals
ceilings_reply = reply_below (codes "ceilings") (built_sub (new_app (codes "ceilings")).top) refl refl refl refl

admit_reply : (words : List Text) (ps : Pieces words) → reply (codes "admit" ∷ words) ≡ answer (codes "admit") (built_sub (new_app (codes "admit")).top) ps.pieces
unfolding clap_on_literals
admit_reply = reply_below (codes "admit") (built_sub (new_app (codes "admit")).top) refl refl refl refl

run_reply : (words : List Text) (ps : Pieces words) → reply (codes "run" ∷ words) ≡ answer (codes "run") run_sub ps.pieces
unfolding clap_on_literals
run_reply = reply_below (codes "run") run_sub refl refl refl refl

replay_reply : (words : List Text) (ps : Pieces words) → reply (codes "replay" ∷ words) ≡ answer (codes "replay") (built_sub (new_app (codes "replay")).top) ps.pieces
unfolding clap_on_literals
replay_reply = reply_below (codes "replay") (built_sub (new_app (codes "replay")).top) refl refl refl refl

gen_reply : (words : List Text) (ps : Pieces words) → reply (codes "gen" ∷ words) ≡ answer (codes "gen") (built_sub generating.top) ps.pieces
unfolding clap_on_literals
gen_reply = reply_below (codes "gen") (built_sub generating.top) refl refl refl refl

load_reply : (words : List Text) (ps : Pieces words) → reply (codes "load" ∷ words) ≡ answer (codes "load") load_sub ps.pieces
unfolding clap_on_literals
load_reply = reply_below (codes "load") load_sub refl refl refl refl

rates_reply : (words : List Text) (ps : Pieces words) → reply (codes "rates" ∷ words) ≡ answer (codes "rates") (built_sub (new_app (codes "rates")).top) ps.pieces
unfolding clap_on_literals
rates_reply = reply_below (codes "rates") (built_sub (new_app (codes "rates")).top) refl refl refl refl

margin_reply : (words : List Text) (ps : Pieces words) → reply (codes "margin" ∷ words) ≡ answer (codes "margin") (built_sub (new_app (codes "margin")).top) ps.pieces
unfolding clap_on_literals
margin_reply = reply_below (codes "margin") (built_sub (new_app (codes "margin")).top) refl refl refl refl

-- the words that begin with a number

no_number : (v : Text) → (IsPlainWord v → ⊥) → is_some (number_of v) ≡ true → ⊥
no_number v spelled is = go (number_of v) refl is
  where
    go : (o : Option ℕ) → number_of v ≡ o → is_some o ≡ true → ⊥
    go None at some = true≢false (sym some)
    go (Some k) at some = spelled (plain_number v k at)

is_long : {X : Type 0} (o : Option X) (x : X) → o ≡ Some x → o ≡ None → ⊥
is_long o x some none = true≢false (ap is_some (sym some ∙ none))

gen_there : (ps : List Piece) → AreRight ps → begins_with_number (map text_of (map token ps)) ≡ true → answer (codes "gen") (built_sub generating.top) ps ≡ gen_of (map part ps)
gen_there [] right begins = absurd (true≢false (sym begins))
gen_there (flag ∷ ps) right begins = absurd (no_number (codes "--trial") (λ p. is_long _ _ refl p.1) begins)
gen_there (option_word ∷ ps) right begins = absurd (no_number (codes "--workers") (λ p. is_long _ _ refl p.1) begins)
gen_there (joined v k ∷ ps) right begins = absurd (no_number (codes "--workers=" ++ v) (λ p. is_long _ _ refl p.1) begins)
gen_there (numeral v k ∷ ps) right begins = gen_answer v k ps right.0.0

load_there : (ps : List Piece) → AreRight ps → begins_with_number (map text_of (map token ps)) ≡ true → answer (codes "load") load_sub ps ≡ load_of (map part ps)
load_there [] right begins = absurd (true≢false (sym begins))
load_there (flag ∷ ps) right begins = absurd (no_number (codes "--trial") (λ p. is_long _ _ refl p.1) begins)
load_there (option_word ∷ ps) right begins = absurd (no_number (codes "--workers") (λ p. is_long _ _ refl p.1) begins)
load_there (joined v k ∷ ps) right begins = absurd (no_number (codes "--workers=" ++ v) (λ p. is_long _ _ refl p.1) begins)
load_there (numeral v k ∷ ps) right begins = load_answer v k ps right.0.0 right.1

-- ---- by the first word

same : (a b : Text) → bytes_eq a b ≡ true → a ≡ b
same a b e = (bytes_eq-Decides a b).0 e

flipped : (a b : Text) → bytes_eq a b ≡ false → bytes_eq b a ≡ false
flipped a b e = go (bytes_eq b a) refl
  where
    go : (x : Bool) → bytes_eq b a ≡ x → x ≡ false
    go false at = refl
    go true at = absurd (true≢false (sym ((bytes_eq-Decides a b).1 (sym (same b a at))) ∙ e))

abbrev Wants : Text → List Text → Type 0
Wants name words = (not (wants_number name) || begins_with_number words) ≡ true

abbrev chosen : Bool → Bool → Bool → Bool → Bool → Bool → Bool → Bool → List Part → Option Command
chosen ceilings admit run replay gen load rates margin parts =
    if ceilings then alone Ceilings parts
    else (if admit then alone Admit parts
    else (if run then run_of parts
    else (if replay then alone Replay parts
    else (if gen then gen_of parts
    else (if load then load_of parts
    else (if rates then alone Rates parts
    else (if margin then alone Margin parts
    else None)))))))

by_name : (name : Text) (words : List Text) (ps : Pieces words) → Wants name words → is_name name ≡ true → (ceilings admit run replay gen load rates margin : Bool)
    → bytes_eq name (codes "ceilings") ≡ ceilings → bytes_eq name (codes "admit") ≡ admit → bytes_eq name (codes "run") ≡ run → bytes_eq name (codes "replay") ≡ replay → bytes_eq name (codes "gen") ≡ gen → bytes_eq name (codes "load") ≡ load → bytes_eq name (codes "rates") ≡ rates → bytes_eq name (codes "margin") ≡ margin
    → reply (name ∷ words) ≡ chosen ceilings admit run replay gen load rates margin (map part ps.pieces)
by_name name words ps wants first true b1 b2 b3 b4 b5 b6 b7 is i j k l m n o =
    ap (λ n. reply (n ∷ words)) (same name (codes "ceilings") is) ∙ (ceilings_reply words ps ∙ ceilings_answer ps.pieces)
by_name name words ps wants first false true b2 b3 b4 b5 b6 b7 h is j k l m n o =
    ap (λ n. reply (n ∷ words)) (same name (codes "admit") is) ∙ (admit_reply words ps ∙ admit_answer ps.pieces)
by_name name words ps wants first false false true b3 b4 b5 b6 b7 h i is k l m n o =
    ap (λ n. reply (n ∷ words)) (same name (codes "run") is) ∙ (run_reply words ps ∙ run_answer ps.pieces ps.right)
by_name name words ps wants first false false false true b4 b5 b6 b7 h i j is l m n o =
    ap (λ n. reply (n ∷ words)) (same name (codes "replay") is) ∙ (replay_reply words ps ∙ replay_answer ps.pieces)
by_name name words ps wants first false false false false true b5 b6 b7 h i j k is m n o =
    let named_so = same name (codes "gen") is in
    let begins : begins_with_number (map text_of (map token ps.pieces)) ≡ true = subst (λ x. begins_with_number x ≡ true) ps.are (subst (λ x. Wants x words) named_so wants) in
    ap (λ n. reply (n ∷ words)) named_so ∙ (gen_reply words ps ∙ gen_there ps.pieces ps.right begins)
by_name name words ps wants first false false false false false true b6 b7 h i j k l is n o =
    let named_so = same name (codes "load") is in
    let begins : begins_with_number (map text_of (map token ps.pieces)) ≡ true = subst (λ x. begins_with_number x ≡ true) ps.are (subst (λ x. Wants x words) named_so wants) in
    ap (λ n. reply (n ∷ words)) named_so ∙ (load_reply words ps ∙ load_there ps.pieces ps.right begins)
by_name name words ps wants first false false false false false false true b7 h i j k l m is o =
    ap (λ n. reply (n ∷ words)) (same name (codes "rates") is) ∙ (rates_reply words ps ∙ rates_answer ps.pieces)
by_name name words ps wants first false false false false false false false true h i j k l m n is =
    ap (λ n. reply (n ∷ words)) (same name (codes "margin") is) ∙ (margin_reply words ps ∙ margin_answer ps.pieces)
by_name [] words ps wants first false false false false false false false false h i j k l m n o = absurd (true≢false (sym first))
by_name (b ∷ bs) words ps wants first false false false false false false false false h i j k l m n o =
    let unnamed : IsNoName (b ∷ bs) = record {
      ceilings = flipped (b ∷ bs) (codes "ceilings") h;
      admit = flipped (b ∷ bs) (codes "admit") i;
      run = flipped (b ∷ bs) (codes "run") j;
      replay = flipped (b ∷ bs) (codes "replay") k;
      gen = flipped (b ∷ bs) (codes "gen") l;
      load = flipped (b ∷ bs) (codes "load") m;
      rates = flipped (b ∷ bs) (codes "rates") n;
      margin = flipped (b ∷ bs) (codes "margin") o;
    } in
    ap (λ f. outcome f (said (subcommand_of rtdb ((b ∷ bs) ∷ words)))) (fault_there (b ∷ bs) words unnamed (plain_word b bs (not_true (b == 45) first)))
  where
    not_true : (x : Bool) → not x ≡ true → x ≡ false
    not_true true e = sym e
    not_true false e = refl

pub reads : (words : List Text) → is_askable words ≡ true → reply words ≡ command_of words
reads [] asked = absurd (true≢false (sym asked))
reads (name ∷ words) asked =
    let both = both_true (is_name name) (list_all is_part words && (not (wants_number name) || begins_with_number words)) asked in
    let rest = both_true (list_all is_part words) (not (wants_number name) || begins_with_number words) both.1 in
    let ps = pieces_of words rest.0 in
    by_name name words ps rest.1 both.0
    (bytes_eq name (codes "ceilings")) (bytes_eq name (codes "admit")) (bytes_eq name (codes "run")) (bytes_eq name (codes "replay")) (bytes_eq name (codes "gen")) (bytes_eq name (codes "load")) (bytes_eq name (codes "rates")) (bytes_eq name (codes "margin"))
    refl refl refl refl refl refl refl refl
    ∙ sym (ap (option_and_then (named name)) ps.parts)

-- ---- what clap is not asked about

-- a word that may not name a command names none
no_name : (name : Text) (parts : List Part) → is_name name ≡ false → named name parts ≡ None
no_name [] parts e = refl
no_name (b ∷ bs) parts e = subst (λ (x : ℕ). named (x ∷ bs) parts ≡ None) (sym (eqb-true b 45 (not_false (b == 45) e))) refl
  where
    not_false : (x : Bool) → not x ≡ false → x ≡ true
    not_false true e = refl
    not_false false e = absurd (true≢false e)

nothing_named : (name : Text) (o : Option (List Part)) → is_name name ≡ false → option_and_then (named name) o ≡ None
nothing_named name None e = refl
nothing_named name (Some parts) e = no_name name parts e

gen_without : (ps : List Piece) → AreRight ps → begins_with_number (map text_of (map token ps)) ≡ false → gen_of (map part ps) ≡ None
gen_without [] right begins = refl
gen_without (flag ∷ ps) right begins = refl
gen_without (option_word ∷ ps) right begins = refl
gen_without (joined v k ∷ ps) right begins = refl
gen_without (numeral v k ∷ ps) right begins = absurd (true≢false (sym (ap is_some right.0.0) ∙ begins))

load_without : (ps : List Piece) → AreRight ps → begins_with_number (map text_of (map token ps)) ≡ false → load_of (map part ps) ≡ None
load_without [] right begins = refl
load_without (flag ∷ ps) right begins = refl
load_without (option_word ∷ ps) right begins = refl
load_without (joined v k ∷ ps) right begins = refl
load_without (numeral v k ∷ ps) right begins = absurd (true≢false (sym (ap is_some right.0.0) ∙ begins))

without_number : (name : Text) (words : List Text) (ps : Pieces words) → begins_with_number words ≡ false → (gen load : Bool) → bytes_eq name (codes "gen") ≡ gen → bytes_eq name (codes "load") ≡ load → (not (gen || load) || begins_with_number words) ≡ false
    → named name (map part ps.pieces) ≡ None
without_number name words ps begins true load is other wants =
    ap (λ n. named n (map part ps.pieces)) (same name (codes "gen") is) ∙ gen_without ps.pieces ps.right (subst (λ x. begins_with_number x ≡ false) ps.are begins)
without_number name words ps begins false true other is wants =
    ap (λ n. named n (map part ps.pieces)) (same name (codes "load") is) ∙ load_without ps.pieces ps.right (subst (λ x. begins_with_number x ≡ false) ps.are begins)
without_number name words ps begins false false h i wants = absurd (true≢false wants)

pub unasked : (words : List Text) → is_askable words ≡ false → None ≡ command_of words
unasked [] asked = refl
unasked (name ∷ words) asked = sym (by_first (is_name name) refl asked)
  where
    or_false : (a b : Bool) → (a || b) ≡ false → b ≡ false
    or_false true b e = absurd (true≢false e)
    or_false false b e = e

    by_parts : (b : Bool) → list_all is_part words ≡ b → (b && (not (wants_number name) || begins_with_number words)) ≡ false → option_and_then (named name) (parts_of words) ≡ None
    by_parts false all e = ap (option_and_then (named name)) (no_parts words all)
    by_parts true all e =
        let ps = pieces_of words all in
        ap (option_and_then (named name)) ps.parts
        ∙ without_number name words ps (or_false (not (wants_number name)) (begins_with_number words) e) (bytes_eq name (codes "gen")) (bytes_eq name (codes "load")) refl refl e

    by_first : (b : Bool) → is_name name ≡ b → (b && (list_all is_part words && (not (wants_number name) || begins_with_number words))) ≡ false → option_and_then (named name) (parts_of words) ≡ None
    by_first false first e = nothing_named name (parts_of words) first
    by_first true first e = by_parts (list_all is_part words) refl e

-- where clap has no fault the command is the subcommand's
pub told : (words : List Text) → is_askable words ≡ true → fault_of rtdb words ≡ [] → said (subcommand_of rtdb words) ≡ command_of words
told words asked none = sym (ap (λ f. outcome f (said (subcommand_of rtdb words))) none) ∙ reads words asked

-- where it has one there is no command
pub refused : (words : List Text) (k : ErrorKind) → is_askable words ≡ true → IsAmong k (fault_of rtdb words) → None ≡ command_of words
refused words k asked among = sym (go (fault_of rtdb words) among) ∙ reads words asked
  where
    go : (faults : Kinds) → IsAmong k faults → outcome faults (said (subcommand_of rtdb words)) ≡ None
    go [] among = absurd among
    go (x ∷ xs) among = refl
