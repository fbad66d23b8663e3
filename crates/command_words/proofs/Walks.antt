-- A walk of clap over the words after a subcommand does not look into words that are no flags.
use Rattle.std.proofs.Common.{◌≡◌, ◌∙◌, ℕ, Bool, true, false, List, [], ◌∷◌, map, Option, Some, None, refl, ap, ap₂, if◌then◌else◌}
use Rattle.std.specs.List.{fold}
use Rattle.std.specs.Option.{option_map_or}
use Rattle.std.specs.Str.{bytes_eq}
use Rattle.clap.specs.Lexer.{long_of, short_of}
use Rattle.clap.specs.Walk.{Held, Row, Rule, Step, Text, Waiting, Walk, idle, option, positional, trailing, after_step, finished, long_or_other, nothing_held, plain_word, settled, short_or_plain, walk_from, walked, word_met}
use Rattle.clap.specs.Simple.{Shape, rows_at}
use Rattle.clap.specs.Kinds.{Kinds, or_else}
use Rattle.clap.specs.Faults.{bundle_fault, check_fault, defaults_fault, flag_word_fault, level_fault, other_fault, settle_fault, step_fault, turn_fault, walk_fault, word_fault}

-- the word is no flag
abbrev pub IsPlainWord : Text → Type 0
IsPlainWord word = (bytes_eq word (45 ∷ 45 ∷ []) ≡ false) × (long_of word ≡ None) × (short_of word ≡ None)

-- a word of which the walk looks at the bytes, and one of which it does not
pub data Token : Type 0 where
  spelled : Text → Token
  unread : Text → Token

abbrev pub text_of : Token → Text
text_of (spelled word) = word
text_of (unread word) = word

abbrev pub AreSound : List Token → Type 0
AreSound [] = Unit {0}
AreSound (spelled word ∷ tokens) = AreSound tokens
AreSound (unread word ∷ tokens) = IsPlainWord word × AreSound tokens

pub met_plain : (c : List Rule) (waiting : Waiting) (position : ℕ) (word : Text) (h : Held) → IsPlainWord word → word_met c [] false waiting position word h ≡ plain_word c waiting word h
met_plain c waiting position word h p = go waiting
  where
    after : (w : Waiting) → ◌≡◌ {A = Held × Step} (if bytes_eq word (45 ∷ 45 ∷ []) then (h, trailing position) else long_or_other c w word (long_of word) h) (plain_word c w word h)
    after w =
        ap (λ (b : Bool). if b then (h, trailing position) else long_or_other c w word (long_of word) h) p.0
        ∙ (ap (λ l. long_or_other c w word l h) p.1 ∙ ap (λ s. short_or_plain c w word s h) p.2)

    go : (w : Waiting) → word_met c [] false w position word h ≡ plain_word c w word h
    go idle = after idle
    go (option id) = after (option id)
    go positional = after positional

pub no_fault : (s : Shape) (waiting : Waiting) (word : Text) (h : Held) → IsPlainWord word → word_fault s [] false waiting word h ≡ []
no_fault s waiting word h p = go waiting
  where
    after : other_fault s None word h ≡ []
    after =
        ap (λ (b : Bool). if b then [] else flag_word_fault s.rules s.args_override_self (long_of word) word h) p.0
        ∙ (ap (λ l. flag_word_fault s.rules s.args_override_self l word h) p.1 ∙ ap (λ o. option_map_or (λ flags. bundle_fault s.rules s.args_override_self flags h) o []) p.2)

    go : (w : Waiting) → word_fault s [] false w word h ≡ []
    go idle = after
    go (option id) = after
    go positional = after

-- the walk after one more token, and its fault

abbrev pub plain_step : List Rule → Walk → Text → Walk
plain_step c w word = after_step c word w (plain_word c w.waiting word w.held).0 (plain_word c w.waiting word w.held).1

abbrev pub plain_walked : List Rule → Option (Text × List Text) → Bool → Walk → Text → Walk
plain_walked c (Some p) trails w word = walked c [] w word
plain_walked c None true w word = walked c [] w word
plain_walked c None false w word = plain_step c w word

abbrev pub walked_by : List Rule → Walk → Token → Walk
walked_by c w (spelled word) = walked c [] w word
walked_by c w (unread word) = plain_walked c w.stopped w.is_trailing w word

abbrev pub plain_turn : Shape → Option (Text × List Text) → Bool → Walk → Text → Kinds
plain_turn s (Some p) trails w word = turn_fault s [] w word
plain_turn s None true w word = turn_fault s [] w word
plain_turn s None false w word = step_fault s w.position (plain_word s.rules w.waiting word w.held).0 (plain_word s.rules w.waiting word w.held).1

abbrev pub turn_by : Shape → Walk → Token → Kinds
turn_by s w (spelled word) = turn_fault s [] w word
turn_by s w (unread word) = plain_turn s w.stopped w.is_trailing w word

plain_walked_is : (c : List Rule) (word : Text) (held : Held) (waiting : Waiting) (position : ℕ) (trails : Bool) (stopped : Option (Text × List Text)) → IsPlainWord word
    → walked c [] (record { held = held; waiting = waiting; position = position; is_trailing = trails; stopped = stopped }) word
    ≡ plain_walked c stopped trails (record { held = held; waiting = waiting; position = position; is_trailing = trails; stopped = stopped }) word
unfolding walked
plain_walked_is c word held waiting position trails (Some p) plain = refl
plain_walked_is c word held waiting position true None plain = refl
plain_walked_is c word held waiting position false None plain =
    ap (λ (met : Held × Step). after_step c word (record { held = held; waiting = waiting; position = position; is_trailing = false; stopped = None }) met.0 met.1)
    (met_plain c waiting position word held plain)

plain_turn_is : (s : Shape) (word : Text) (held : Held) (waiting : Waiting) (position : ℕ) (trails : Bool) (stopped : Option (Text × List Text)) → IsPlainWord word
    → turn_fault s [] (record { held = held; waiting = waiting; position = position; is_trailing = trails; stopped = stopped }) word
    ≡ plain_turn s stopped trails (record { held = held; waiting = waiting; position = position; is_trailing = trails; stopped = stopped }) word
plain_turn_is s word held waiting position trails (Some p) plain = refl
plain_turn_is s word held waiting position true None plain = refl
plain_turn_is s word held waiting position false None plain =
    ap₂ (λ (f : Kinds) (met : Held × Step). or_else f (step_fault s position met.0 met.1)) (no_fault s waiting word held plain) (met_plain s.rules waiting position word held plain)

-- the same over a list

abbrev pub walk_by : List Rule → Walk → List Token → Walk
walk_by c w [] = w
walk_by c w (token ∷ tokens) = walk_by c (walked_by c w token) tokens

abbrev pub faults_by : Shape → Walk → List Token → Kinds
faults_by s w [] = []
faults_by s w (token ∷ tokens) = or_else (turn_by s w token) (faults_by s (walked_by s.rules w token) tokens)

walk_is : (c : List Rule) (w : Walk) (tokens : List Token) → AreSound tokens → fold (walked c []) w (map text_of tokens) ≡ walk_by c w tokens
walk_is c w [] sound = refl
walk_is c w (spelled word ∷ tokens) sound = walk_is c (walked c [] w word) tokens sound
walk_is c w (unread word ∷ tokens) sound =
    ap (λ (v : Walk). fold (walked c []) v (map text_of tokens)) (plain_walked_is c word w.held w.waiting w.position w.is_trailing w.stopped sound.0)
    ∙ walk_is c (walked_by c w (unread word)) tokens sound.1

faults_are : (s : Shape) (w : Walk) (tokens : List Token) → AreSound tokens → walk_fault s [] w (map text_of tokens) ≡ faults_by s w tokens
unfolding walk_fault
faults_are s w [] sound = refl
faults_are s w (spelled word ∷ tokens) sound = ap (or_else (turn_fault s [] w word)) (faults_are s (walked s.rules [] w word) tokens sound)
faults_are s w (unread word ∷ tokens) sound =
    ap₂ (λ (f : Kinds) (v : Walk). or_else f (walk_fault s [] v (map text_of tokens)))
    (plain_turn_is s word w.held w.waiting w.position w.is_trailing w.stopped sound.0) (plain_walked_is s.rules word w.held w.waiting w.position w.is_trailing w.stopped sound.0)
    ∙ ap (or_else (turn_by s w (unread word))) (faults_are s (walked_by s.rules w (unread word)) tokens sound.1)

abbrev pub end_by : Shape → List Token → Held
end_by s tokens = (walk_by s.rules (walk_from nothing_held) tokens).held

abbrev pub after_walk : Shape → Kinds → Held → Kinds
after_walk s faults end =
    or_else faults (or_else [] (or_else (settle_fault s.rules s.args_override_self end)
    (or_else (defaults_fault (settled s.rules end).rows s.rules) (check_fault s (finished s.rules end) false))))

-- the fault of a subcommand at these tokens, and its rows
abbrev pub fault_by : Shape → List Token → Kinds
fault_by s tokens = after_walk s (faults_by s (walk_from nothing_held) tokens) (end_by s tokens)

abbrev pub rows_by : Shape → List Token → List Row
rows_by s tokens = finished s.rules (end_by s tokens)

pub fault_is : (s : Shape) (tokens : List Token) → AreSound tokens → level_fault s [] nothing_held (map text_of tokens) false [] ≡ fault_by s tokens
fault_is s tokens sound =
    ap₂ (λ (faults : Kinds) (w : Walk). after_walk s faults w.held) (faults_are s (walk_from nothing_held) tokens sound) (walk_is s.rules (walk_from nothing_held) tokens sound)

pub rows_are : (s : Shape) (tokens : List Token) → AreSound tokens → rows_at s (map text_of tokens) ≡ (s.name, rows_by s tokens)
rows_are s tokens sound = ap (λ (w : Walk). (s.name, finished s.rules w.held)) (walk_is s.rules (walk_from nothing_held) tokens sound)
