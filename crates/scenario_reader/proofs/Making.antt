-- What is known of the scenario that forms declare.
use Rattle.std.proofs.Common.{◌≡◌, ℕ, ◌+◌, ◌^◌, ◌<◌, ◌≤◌, Bool, true, false, cond, ltb, not, List, [], ◌∷◌, ◌++◌, map, length, get_or, Option, Some, None, Result, Ok, Err, Vec, refl, sym, ap, subst, ◌∙◌, arith}
use Rattle.std.specs.Prelude.{IfOk}
use Rattle.std.specs.Option.{option_or, option_map}
use Rattle.std.specs.List.{All, list_all, position, position_or_len}
use Rattle.std.proofs.lemmas.Bool.{ltb-false, not-false}
use Rattle.std.proofs.lemmas.List.{get_or-map, length-map, map_push}
use Rattle.std.proofs.lemmas.List.Elements.{All-nil, All-cons, All-same, All-head, All-tail, All-map, All-weaker}
use Rattle.std.proofs.lemmas.List.Sums.{fails_before_first, list_all-from_AllPass}
use Rattle.step_script.specs.Scripts.{is_good, program_of}
use Rattle.step_script.specs.declared.whole.Scenario.{Scenario}
use Rattle.step_script.specs.Shown.{Shown, shown}
use Rattle.step_script.specs.Scenarios.{HasTextTimes, IsTextOp, IsProgramOver}
use Rattle.scenario_forms.specs.Ops.{KnownOp}
use Rattle.scenario_forms.specs.declared.txn.ReadTxn.{ReadTxn}
use Rattle.scenario_forms.specs.Txns.{Txn, txn_view}
use Rattle.scenario_forms.specs.Root.{Formed}
use Rattle.scenario_reader.specs.Unknown.{is_unknown_op, unknown_in, unknown_from, unknown_name}
use Rattle.scenario_reader.specs.Made.{decl_of, program_from, ops_of, made_of, IsGoodOp, IsGoodTxn, HasGoodScript}

pub or_none : {A : Type 0} (a b : Option A) → option_or a b ≡ None → (a ≡ None) × (b ≡ None)
or_none None b none = (refl, none)
or_none (Some x) b none = absurd cc

pub map_none : {A B : Type 0} (f : A → B) (a : Option A) → option_map f a ≡ None → a ≡ None
map_none f None none = refl
map_none f (Some x) none = absurd cc

-- where no operation has an unknown name, each is known

past_all : (n k : ℕ) (b : Bool) → ltb k n ≡ b → cond b (Some k) None ≡ None → n ≤ k
past_all n k true is none = absurd cc
past_all n k false is none = ltb-false k n is

all_known : (script : List KnownOp) → position is_unknown_op script ≡ None → All (λ op. op.1 ≡ true) script
all_known script none k d lt =
    let past : length script ≤ position_or_len is_unknown_op script = past_all (length script) _ _ refl none in
    not-false (get_or script k d).1 (fails_before_first is_unknown_op script k d (omega arith))

good_ops : (n : ℕ) (script : List KnownOp) → All (IsGoodOp n) script → All (λ op. op.1 ≡ true) script
    → list_all (is_good n) (ops_of script) ≡ true
good_ops n script good known =
    list_all-from_AllPass (is_good n) (ops_of script)
    (All-map (λ op. is_good n op ≡ true) (λ op. op.0) script (λ k d lt. (good k d lt).good (known k d lt)))

good_script : (n i : ℕ) (t : Txn) → IsGoodTxn n t → unknown_in i t ≡ None → HasGoodScript n t
good_script n i t good none =
    good_ops n t.script good.script
    (all_known t.script (map_none _ _ (or_none _ _ (or_none _ _ none).1).1))

good_from : (n i : ℕ) (ts : List Txn) → All (IsGoodTxn n) ts → unknown_from i ts ≡ None → All (HasGoodScript n) ts
good_from n i [] good none = All-nil (HasGoodScript n)
good_from n i (t ∷ ts) good none =
    All-cons (HasGoodScript n) t ts
    (good_script n i t (All-head (IsGoodTxn n) t ts good) (or_none _ _ none).0)
    (good_from n (i + 1) ts (All-tail (IsGoodTxn n) t ts good) (or_none _ _ none).1)

pub good_scripts : (f : Formed) → All (IsGoodTxn (length f.items.decls)) f.txns.txns → unknown_name f ≡ None
    → All (HasGoodScript (length f.items.decls)) f.txns.txns
good_scripts f good none = good_from (length f.items.decls) 0 f.txns.txns good (or_none _ _ none).0

-- programs and times

program_over : (n : ℕ) (t : Txn) → HasGoodScript n t → IsGoodTxn n t → IsProgramOver n (program_from n t)
program_over n t script good = record {
  over = refl;
  good = script;
  computes = All-map IsTextOp (λ op. op.0) t.script (λ k d lt. (good.script k d lt).text);
}

pub programs_over : (n : ℕ) (ts : List Txn) → All (HasGoodScript n) ts → All (IsGoodTxn n) ts
    → All (IsProgramOver n) (map (program_from n) ts)
programs_over n ts scripts good =
    All-map (IsProgramOver n) (program_from n) ts (λ k d lt. program_over n (get_or ts k d) (scripts k d lt)
    (good k d lt))

pub text_times : (n : ℕ) (ts : List Txn) → All (IsGoodTxn n) ts → All HasTextTimes (map (decl_of n) ts)
text_times n ts good = All-map HasTextTimes (decl_of n) ts (λ k d lt. (good k d lt).times)

-- items along an equation
pub if_ok_same : {T E Z : Type 0} (r : Result (Vec T Z) E) (xs ys : List T) → xs ≡ ys → IfOk r (λ v. v.items ≡ xs)
    → IfOk r (λ v. v.items ≡ ys)
if_ok_same (Ok v) xs ys same h = h ∙ same
if_ok_same (Err e) xs ys same h = tt

-- transactions one after another

pub all_views : (n : ℕ) (ts all : List ReadTxn) → ts ≡ all → All (HasGoodScript n) (map txn_view all)
    → All (λ t. HasGoodScript n (txn_view t)) ts
all_views n ts all same good =
    All-same (λ t. HasGoodScript n (txn_view t)) ts all same
    (λ k d lt. subst (HasGoodScript n) (get_or-map txn_view all k d (txn_view d) lt)
    (good k (txn_view d) (omega (arith, length-map all txn_view))))

pub this_one : (P : ReadTxn → Type 0) (rest left : List ReadTxn) (t : ReadTxn) → left ≡ t ∷ rest → All P left → P t
this_one P rest left t is all = All-head P t rest (All-same P (t ∷ rest) left (sym is) all)

pub the_rest : (P : ReadTxn → Type 0) (rest left : List ReadTxn) (t : ReadTxn) → left ≡ t ∷ rest → All P left
    → All P rest
the_rest P rest left t is all = All-tail P t rest (All-same P (t ∷ rest) left (sym is) all)

pub twice_push : {B : Type 0} (f : Txn → B) (ts : List ReadTxn) (t : ReadTxn) (new old : List B)
    → new ≡ old ++ f (txn_view t) ∷ [] → old ≡ map f (map txn_view ts) → new ≡ map f (map txn_view (ts ++ t ∷ []))
twice_push f ts t new old added so_far =
    added ∙ ap (λ xs. xs ++ f (txn_view t) ∷ []) so_far ∙ sym (map_push f (map txn_view ts) (txn_view t))
    ∙ ap (map f) (sym (map_push txn_view ts t))

-- one script for each transaction
pub scripts_match : (s : Scenario) (f : Formed) → shown s ≡ made_of f → length s.scripts ≡ length s.txns
scripts_match s f is =
    sym (length-map s.scripts program_of)
    ∙ ap (λ (x : Shown). length x.programs) is
    ∙ length-map f.txns.txns (program_from (length f.items.decls))
    ∙ sym (length-map f.txns.txns (decl_of (length f.items.decls)))
    ∙ sym (ap (λ (x : Shown). length x.txns) is)

-- as many transactions as forms have
pub few_txns : (s : Scenario) (f : Formed) → shown s ≡ made_of f → length f.txns.txns ≤ 2 ^ 32
    → length s.txns ≤ 2 ^ 32
few_txns s f is few = omega (
  arith,
  few,
  ap (λ (x : Shown). length x.txns) is,
  length-map f.txns.txns (decl_of (length f.items.decls)),
)
