-- What clap makes of the words after a subcommand is what the definition says of them.
use Rattle.std.proofs.Common.{◌≡◌, ℕ, true, false, List, [], ◌∷◌, ◌++◌, map, Option, Some, None, option_map, refl, ap, ap₂, codes}
use Rattle.std.specs.Prelude.{option_and_then}
use Rattle.clap.specs.Walk.{Row, Walk, nothing_held, option, walk_from}
use Rattle.clap.specs.Simple.{Shape, built_leaf, inherited, marked_built, with_leaf_noted}
use Rattle.clap.specs.Kinds.{Kinds}
use Rattle.clap.proofs.OnLiterals.{clap_on_literals}
use Rattle.command_words.specs.declared.command.Command.{Command}
use Rattle.command_words.specs.declared.command.PlainCommand.TheVariants.{Ceilings, Admit, Replay, Rates, Margin}
use Rattle.command_words.specs.Commands.{Text, Part, trial, workers, workers_are, number, number_of, run_of, load_of, gen_of, alone}
use Rattle.command_words.specs.Asking.{generate, load_by, run_by, said_of}
use Rattle.command_words.specs.Shape.{generating, loading, rtdb, running}
use Rattle.clap.specs.Words.{new_app}
use Rattle.command_words.proofs.Walks.{IsPlainWord, Token, spelled, unread, AreSound, after_walk, fault_by, faults_by, rows_by, walk_by}

-- a word that is a part: `--trial`, `--workers`, `--workers=` with a number, and a number
pub data Piece : Type 0 where
  flag : Piece
  option_word : Piece
  joined : Text → ℕ → Piece
  numeral : Text → ℕ → Piece

abbrev pub token : Piece → Token
token flag = spelled (codes "--trial")
token option_word = spelled (codes "--workers")
token (joined v k) = spelled (codes "--workers=" ++ v)
token (numeral v k) = unread v

abbrev pub part : Piece → Part
part flag = trial
part option_word = workers
part (joined v k) = workers_are k
part (numeral v k) = number k

abbrev pub IsRight : Piece → Type 0
IsRight flag = Unit {0}
IsRight option_word = Unit {0}
IsRight (joined v k) = number_of v ≡ Some k
IsRight (numeral v k) = (number_of v ≡ Some k) × IsPlainWord v

abbrev pub AreRight : List Piece → Type 0
AreRight [] = Unit {0}
AreRight (p ∷ ps) = IsRight p × AreRight ps

pub sound : (ps : List Piece) → AreRight ps → AreSound (map token ps)
sound [] right = tt
sound (flag ∷ ps) right = sound ps right.1
sound (option_word ∷ ps) right = sound ps right.1
sound (joined v k ∷ ps) right = sound ps right.1
sound (numeral v k ∷ ps) right = (right.0.1, sound ps right.1)

abbrev pub outcome : Kinds → Option Command → Option Command
outcome [] answer = answer
outcome (k ∷ ks) answer = None

-- a subcommand as it is built
abbrev pub built_sub : Shape → Shape
built_sub s = built_leaf (inherited (with_leaf_noted (marked_built rtdb.top)) s)

abbrev pub answer : Text → Shape → List Piece → Option Command
answer name s ps = outcome (fault_by s (map token ps)) (said_of name (rows_by s (map token ps)))

pub ceilings_answer : (ps : List Piece) → answer (codes "ceilings") (built_sub (new_app (codes "ceilings")).top) ps ≡ alone Ceilings (map part ps)
unfolding clap_on_literals
ceilings_answer [] = refl
ceilings_answer (flag ∷ ps) = refl
ceilings_answer (option_word ∷ ps) = refl
ceilings_answer (joined v k ∷ ps) = refl
ceilings_answer (numeral v k ∷ ps) = refl

pub admit_answer : (ps : List Piece) → answer (codes "admit") (built_sub (new_app (codes "admit")).top) ps ≡ alone Admit (map part ps)
unfolding clap_on_literals
admit_answer [] = refl
admit_answer (flag ∷ ps) = refl
admit_answer (option_word ∷ ps) = refl
admit_answer (joined v k ∷ ps) = refl
admit_answer (numeral v k ∷ ps) = refl

pub replay_answer : (ps : List Piece) → answer (codes "replay") (built_sub (new_app (codes "replay")).top) ps ≡ alone Replay (map part ps)
unfolding clap_on_literals
replay_answer [] = refl
replay_answer (flag ∷ ps) = refl
replay_answer (option_word ∷ ps) = refl
replay_answer (joined v k ∷ ps) = refl
replay_answer (numeral v k ∷ ps) = refl

pub rates_answer : (ps : List Piece) → answer (codes "rates") (built_sub (new_app (codes "rates")).top) ps ≡ alone Rates (map part ps)
unfolding clap_on_literals
rates_answer [] = refl
rates_answer (flag ∷ ps) = refl
rates_answer (option_word ∷ ps) = refl
rates_answer (joined v k ∷ ps) = refl
rates_answer (numeral v k ∷ ps) = refl

pub margin_answer : (ps : List Piece) → answer (codes "margin") (built_sub (new_app (codes "margin")).top) ps ≡ alone Margin (map part ps)
unfolding clap_on_literals
margin_answer [] = refl
margin_answer (flag ∷ ps) = refl
margin_answer (option_word ∷ ps) = refl
margin_answer (joined v k ∷ ps) = refl
margin_answer (numeral v k ∷ ps) = refl

pub gen_answer : (v : Text) (k : ℕ) (ps : List Piece) → number_of v ≡ Some k → answer (codes "gen") (built_sub generating.top) (numeral v k ∷ ps) ≡ gen_of (map part (numeral v k ∷ ps))
unfolding clap_on_literals
gen_answer v k [] e = ap (option_map generate) e
gen_answer v k (flag ∷ ps) e = refl
gen_answer v k (option_word ∷ ps) e = refl
gen_answer v k (joined w n ∷ ps) e = refl
gen_answer v k (numeral w n ∷ ps) e = refl

-- ---- a second `--workers`

-- what was found before it: the number of workers alone, or with `--trial` before it or after it, or after another number
data Had : Type 0 where
  alone_had : Had
  after_trial : Had
  before_trial : Had

abbrev pub run_sub : Shape
run_sub = built_sub running.top

abbrev pub load_sub : Shape
load_sub = built_sub loading.top

abbrev held_after : Shape → List Token → Walk
held_after s tokens = walk_by s.rules (walk_from nothing_held) tokens

abbrev first_tokens : Had → Text → List Token
first_tokens alone_had v = spelled (codes "--workers=" ++ v) ∷ []
first_tokens after_trial v = spelled (codes "--trial") ∷ spelled (codes "--workers=" ++ v) ∷ []
first_tokens before_trial v = spelled (codes "--workers=" ++ v) ∷ spelled (codes "--trial") ∷ []

abbrev again : Shape → List Row → Walk
again s rows = record { held = record { rows = rows; pending = Some (codes "workers", []); skip = 0 }; waiting = option (codes "workers"); position = 1; is_trailing = false; stopped = None }

abbrev run_rows : Had → Text → List Row
run_rows h v = (held_after run_sub (first_tokens h v)).held.rows

abbrev answer_from : Shape → Walk → Option Command → List Piece → Option Command
answer_from s w result ps = outcome (after_walk s (faults_by s w (map token ps)) (walk_by s.rules w (map token ps)).held) result

run_again : (h : Had) (v : Text) (result : Option Command) (ps : List Piece) → answer_from run_sub (again run_sub (run_rows h v)) result ps ≡ None
unfolding clap_on_literals
run_again h v result [] = refl
run_again h v result (flag ∷ ps) = refl
run_again h v result (option_word ∷ ps) = refl
run_again h v result (joined w n ∷ ps) = refl
run_again alone_had v result (numeral w n ∷ []) = refl
run_again alone_had v result (numeral w n ∷ flag ∷ ps) = refl
run_again alone_had v result (numeral w n ∷ option_word ∷ ps) = refl
run_again alone_had v result (numeral w n ∷ joined x m ∷ ps) = refl
run_again alone_had v result (numeral w n ∷ numeral x m ∷ ps) = refl
run_again after_trial v result (numeral w n ∷ []) = refl
run_again after_trial v result (numeral w n ∷ flag ∷ ps) = refl
run_again after_trial v result (numeral w n ∷ option_word ∷ ps) = refl
run_again after_trial v result (numeral w n ∷ joined x m ∷ ps) = refl
run_again after_trial v result (numeral w n ∷ numeral x m ∷ ps) = refl
run_again before_trial v result (numeral w n ∷ []) = refl
run_again before_trial v result (numeral w n ∷ flag ∷ ps) = refl
run_again before_trial v result (numeral w n ∷ option_word ∷ ps) = refl
run_again before_trial v result (numeral w n ∷ joined x m ∷ ps) = refl
run_again before_trial v result (numeral w n ∷ numeral x m ∷ ps) = refl

-- ---- the options of a run

pub run_answer : (ps : List Piece) → AreRight ps → answer (codes "run") run_sub ps ≡ run_of (map part ps)
unfolding clap_on_literals
run_answer [] right = refl
run_answer (flag ∷ []) right = refl
run_answer (flag ∷ flag ∷ ps) right = refl
run_answer (flag ∷ option_word ∷ []) right = refl
run_answer (flag ∷ option_word ∷ flag ∷ ps) right = refl
run_answer (flag ∷ option_word ∷ option_word ∷ ps) right = refl
run_answer (flag ∷ option_word ∷ joined v k ∷ ps) right = refl
run_answer (flag ∷ option_word ∷ numeral v k ∷ []) right = ap (option_map (run_by true)) right.1.1.0.0
run_answer (flag ∷ option_word ∷ numeral v k ∷ flag ∷ ps) right = refl
run_answer (flag ∷ option_word ∷ numeral v k ∷ option_word ∷ ps) right = run_again after_trial v _ ps
run_answer (flag ∷ option_word ∷ numeral v k ∷ joined w n ∷ ps) right = refl
run_answer (flag ∷ option_word ∷ numeral v k ∷ numeral w n ∷ ps) right = refl
run_answer (flag ∷ joined v k ∷ []) right = ap (option_map (run_by true)) right.1.0
run_answer (flag ∷ joined v k ∷ flag ∷ ps) right = refl
run_answer (flag ∷ joined v k ∷ option_word ∷ ps) right = run_again after_trial v _ ps
run_answer (flag ∷ joined v k ∷ joined w n ∷ ps) right = refl
run_answer (flag ∷ joined v k ∷ numeral w n ∷ ps) right = refl
run_answer (flag ∷ numeral v k ∷ ps) right = refl
run_answer (option_word ∷ []) right = refl
run_answer (option_word ∷ flag ∷ ps) right = refl
run_answer (option_word ∷ option_word ∷ ps) right = refl
run_answer (option_word ∷ joined v k ∷ ps) right = refl
run_answer (option_word ∷ numeral v k ∷ []) right = ap (option_map (run_by false)) right.1.0.0
run_answer (option_word ∷ numeral v k ∷ flag ∷ []) right = ap (option_map (run_by true)) right.1.0.0
run_answer (option_word ∷ numeral v k ∷ flag ∷ flag ∷ ps) right = refl
run_answer (option_word ∷ numeral v k ∷ flag ∷ option_word ∷ ps) right = run_again before_trial v _ ps
run_answer (option_word ∷ numeral v k ∷ flag ∷ joined w n ∷ ps) right = refl
run_answer (option_word ∷ numeral v k ∷ flag ∷ numeral w n ∷ ps) right = refl
run_answer (option_word ∷ numeral v k ∷ option_word ∷ ps) right = run_again alone_had v _ ps
run_answer (option_word ∷ numeral v k ∷ joined w n ∷ ps) right = refl
run_answer (option_word ∷ numeral v k ∷ numeral w n ∷ ps) right = refl
run_answer (joined v k ∷ []) right = ap (option_map (run_by false)) right.0
run_answer (joined v k ∷ flag ∷ []) right = ap (option_map (run_by true)) right.0
run_answer (joined v k ∷ flag ∷ flag ∷ ps) right = refl
run_answer (joined v k ∷ flag ∷ option_word ∷ ps) right = run_again before_trial v _ ps
run_answer (joined v k ∷ flag ∷ joined w n ∷ ps) right = refl
run_answer (joined v k ∷ flag ∷ numeral w n ∷ ps) right = refl
run_answer (joined v k ∷ option_word ∷ ps) right = run_again alone_had v _ ps
run_answer (joined v k ∷ joined w n ∷ ps) right = refl
run_answer (joined v k ∷ numeral w n ∷ ps) right = refl
run_answer (numeral v k ∷ ps) right = refl

-- ---- what follows the number of a load

abbrev load_rows : Text → Text → List Row
load_rows v w = (held_after load_sub (unread v ∷ spelled (codes "--workers=" ++ w) ∷ [])).held.rows

abbrev load_again_at : List Row → Walk
load_again_at rows = record (again load_sub rows) { position = 2 }

load_again : (v w : Text) (result : Option Command) (ps : List Piece) → answer_from load_sub (load_again_at (load_rows v w)) result ps ≡ None
unfolding clap_on_literals
load_again v w result [] = refl
load_again v w result (flag ∷ ps) = refl
load_again v w result (option_word ∷ ps) = refl
load_again v w result (joined x m ∷ ps) = refl
load_again v w result (numeral x m ∷ []) = refl
load_again v w result (numeral x m ∷ flag ∷ ps) = refl
load_again v w result (numeral x m ∷ option_word ∷ ps) = refl
load_again v w result (numeral x m ∷ joined y i ∷ ps) = refl
load_again v w result (numeral x m ∷ numeral y i ∷ ps) = refl

abbrev load_in : Option ℕ → Option ℕ → Option Command
load_in n k = option_and_then (λ m. option_map (load_by m) k) n

pub load_answer : (v : Text) (k : ℕ) (ps : List Piece) → number_of v ≡ Some k → AreRight ps → answer (codes "load") load_sub (numeral v k ∷ ps) ≡ load_of (map part (numeral v k ∷ ps))
unfolding clap_on_literals
load_answer v k [] e right = ap (λ n. load_in n (Some 1)) e
load_answer v k (flag ∷ ps) e right = refl
load_answer v k (option_word ∷ []) e right = refl
load_answer v k (option_word ∷ flag ∷ ps) e right = refl
load_answer v k (option_word ∷ option_word ∷ ps) e right = refl
load_answer v k (option_word ∷ joined w n ∷ ps) e right = refl
load_answer v k (option_word ∷ numeral w n ∷ []) e right = ap₂ load_in e right.1.0.0
load_answer v k (option_word ∷ numeral w n ∷ flag ∷ ps) e right = refl
load_answer v k (option_word ∷ numeral w n ∷ option_word ∷ ps) e right = load_again v w _ ps
load_answer v k (option_word ∷ numeral w n ∷ joined x m ∷ ps) e right = refl
load_answer v k (option_word ∷ numeral w n ∷ numeral x m ∷ ps) e right = refl
load_answer v k (joined w n ∷ []) e right = ap₂ load_in e right.0
load_answer v k (joined w n ∷ flag ∷ ps) e right = refl
load_answer v k (joined w n ∷ option_word ∷ ps) e right = load_again v w _ ps
load_answer v k (joined w n ∷ joined x m ∷ ps) e right = refl
load_answer v k (joined w n ∷ numeral x m ∷ ps) e right = refl
load_answer v k (numeral w n ∷ ps) e right = refl
