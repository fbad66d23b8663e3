-- A scenario is one that a text can hold.
use Rattle.std.proofs.Common.{◌≡◌, ℕ, zero, suc, ◌+◌, ◌<◌, ◌≤◌, ◌^◌, List, [], ◌∷◌, length, get_or, map, subst, Bool, true, false, cond, Option, Some, None, option_map, Ok, refl, sym, ap, arith}
use Rattle.std.specs.Prelude.{nat_lt}
use Rattle.std.specs.List.{All, list_any}
use Rattle.std.specs.Option.{option_or}
use Rattle.std.proofs.lemmas.Bool.{or_parts, ltb-false}
use Rattle.std.proofs.lemmas.List.{nil_from_length}
use Rattle.rt_base.specs.Names.{AreNames}
use Rattle.rt_base.specs.declared.release.PlanRefused.{PlanRefused}
use Rattle.rt_base.specs.declared.release.PlanRefused.TheVariants.{TooSoon, TooFar}
use Rattle.txn_set.specs.declared.decl.TxnDecl.{TxnDecl}
use Rattle.txn_set.specs.Set.{no_txn}
use Rattle.step_script.specs.Scripts.{compute, Program, is_good}
use Rattle.step_script.specs.declared.releases.Releases.{Releases}
use Rattle.step_script.specs.declared.releases.Releases.TheVariants.{At, Jobs, Eager}
use Rattle.step_script.specs.Shown.{Shown}
use Rattle.step_script.specs.Releases.{jobs_of, total_jobs, ticks_of, refused_tick, refused_from}
use Rattle.step_script.specs.Scenarios.{IsScenario}
use Rattle.scenario_forms.specs.Root.{forms_at}
use Rattle.scenario_writer.specs.Canonical.{Written, written, is_second, canonical, merged_ops}
use Rattle.scenario_writer.specs.Integers.{OpHasConstants, HasIntegers}
use Rattle.scenario_writer.proofs.Merging.{merge_all, good_merged}
use Rattle.law_texts.proofs.Txns.{InTextRange, IsTextTxn}
use Rattle.law_texts.proofs.Forms.{IsText, forms_back}
use Rattle.law_texts.specs.ReadBack.{read_forms}
use Rattle.law_texts.proofs.Merged.{merge_text}
use Rattle.law_texts.proofs.MergedScenario.{some_ops, short_ops}

abbrev no_program : Program
no_program = record { ops = []; samples = []; items = 0 }

abbrev at_place : List (List ℕ) → List TxnDecl → List Program → List Releases → ℕ → Written
at_place ns ts ps rs k = record {
  name = get_or ns k [];
  decl = get_or ts k no_txn;
  program = get_or ps k no_program;
  releases = get_or rs k (At []);
}

written_all : (P : Written → Type 0) (ns : List (List ℕ)) (ts : List TxnDecl) (ps : List Program) (rs : List Releases)
    → ((k : ℕ) → k < length ts → P (at_place ns ts ps rs k)) → All P (written ns ts ps rs)
written_all P [] ts ps rs h k d lt = absurd (omega arith)
written_all P (n ∷ ns) [] ps rs h k d lt = absurd (omega arith)
written_all P (n ∷ ns) (t ∷ ts) [] rs h k d lt = absurd (omega arith)
written_all P (n ∷ ns) (t ∷ ts) (p ∷ ps) [] h k d lt = absurd (omega arith)
written_all P (n ∷ ns) (t ∷ ts) (p ∷ ps) (r ∷ rs) h zero d lt = h 0 (omega arith)
written_all P (n ∷ ns) (t ∷ ts) (p ∷ ps) (r ∷ rs) h (suc k) d lt =
    written_all P ns ts ps rs (λ j l. h (suc j) (omega arith)) k d (omega arith)

pub names_written : (ns : List (List ℕ)) (ts : List TxnDecl) (ps : List Program) (rs : List Releases)
    → length ns ≡ length ts
    → length ps ≡ length ts → length rs ≡ length ts → map (λ w. w.name) (written ns ts ps rs) ≡ ns
names_written [] ts ps rs a b c = refl
names_written (n ∷ ns) [] ps rs a b c = absurd (omega arith)
names_written (n ∷ ns) (t ∷ ts) [] rs a b c = absurd (omega arith)
names_written (n ∷ ns) (t ∷ ts) (p ∷ ps) [] a b c = absurd (omega arith)
names_written (n ∷ ns) (t ∷ ts) (p ∷ ps) (r ∷ rs) a b c =
    ap (λ (ms : List (List ℕ)). n ∷ ms) (names_written ns ts ps rs (omega arith) (omega arith) (omega arith))

none_at : (p : TxnDecl → Bool) (ts : List TxnDecl) → list_any p ts ≡ false → (k : ℕ) (d : TxnDecl) → k < length ts
    → p (get_or ts k d) ≡ false
none_at p [] h k d lt = absurd (omega arith)
none_at p (t ∷ ts) h zero d lt = (or_parts (p t) (list_any p ts) h).0
none_at p (t ∷ ts) h (suc k) d lt = none_at p ts (or_parts (p t) (list_any p ts) h).1 k d (omega arith)

-- The ranges of releases.

not_far : (soon far : Bool) (x y : ℕ × PlanRefused) (o : Option (ℕ × PlanRefused))
    → cond soon (Some x) (cond far (Some y) o) ≡ None → (far ≡ false) × (o ≡ None)
not_far true far x y o h = cc
not_far false true x y o h = cc
not_far false false x y o h = (refl, h)

low_ticks : (index earliest period : ℕ) (ticks : List ℕ) → refused_tick index earliest period ticks ≡ None
    → All (λ tick. tick ≤ 2 ^ 53) ticks
low_ticks index earliest period [] h k d lt = absurd (omega arith)
low_ticks index earliest period (tick ∷ ticks) h zero d lt =
    let far : tick ≤ 2 ^ 40 = ltb-false (2 ^ 40) tick (not_far (nat_lt tick earliest) (nat_lt (2 ^ 40) tick)
    (index, TooSoon earliest)
    (index, TooFar (2 ^ 40)) (refused_tick (index + 1) (tick + period) period ticks) h).0 in omega arith
low_ticks index earliest period (tick ∷ ticks) h (suc k) d lt =
    low_ticks (index + 1) (tick + period) period ticks (not_far (nat_lt tick earliest) (nat_lt (2 ^ 40) tick)
    (index, TooSoon earliest)
    (index, TooFar (2 ^ 40)) (refused_tick (index + 1) (tick + period) period ticks) h).1 k d (omega arith)

in_range : (t : TxnDecl) (r : Releases) → refused_tick 0 0 t.period (ticks_of t r) ≡ None → jobs_of r ≤ 65536
    → InTextRange r
in_range t (At ticks) h few = low_ticks 0 0 t.period ticks h
in_range t (Jobs n) h few = omega arith
in_range t (Eager n) h few = omega arith

none_parts : (tx : ℕ) (o : Option (ℕ × PlanRefused)) (rest : Option (ℕ × ℕ × PlanRefused))
    → option_or (option_map (λ bad. (tx, bad.0, bad.1)) o) rest ≡ None → (o ≡ None) × (rest ≡ None)
none_parts tx None rest h = (refl, h)
none_parts tx (Some bad) rest h = cc

ranges_from : (tx : ℕ) (ts : List TxnDecl) (rs : List Releases) → refused_from tx ts rs ≡ None → total_jobs rs ≤ 65536
    → (k : ℕ)
    → k < length ts → InTextRange (get_or rs k (At []))
ranges_from tx [] rs h few k lt = absurd (omega arith)
ranges_from tx (t ∷ ts) [] h few k lt = λ j d l. absurd (omega arith)
ranges_from tx (t ∷ ts) (r ∷ rs) h few zero lt = in_range t r
    (none_parts tx (refused_tick 0 0 t.period (ticks_of t r)) (refused_from (tx + 1) ts rs) h).0 (omega arith)
ranges_from tx (t ∷ ts) (r ∷ rs) h few (suc k) lt = ranges_from (tx + 1) ts rs
    (none_parts tx (refused_tick 0 0 t.period (ticks_of t r)) (refused_from (tx + 1) ts rs) h).1 (omega arith) k
    (omega arith)

constants_sum : (m n : ℕ) → OpHasConstants (compute m) → OpHasConstants (compute n) → OpHasConstants (compute (m + n))
constants_sum m n a b = tt

module _ (s : Shown) (h : IsScenario s) (g : HasIntegers s) where
  txn_text : (k : ℕ) → k < length s.txns
      → IsTextTxn (is_second s) s.names.items (at_place s.names.txns s.txns s.programs s.releases k)
  txn_text k lt =
      let within : k < length s.programs = (let e : length s.programs ≡ length s.txns = h.scripted in omega arith) in
      let same : length s.names.items ≡ length s.items = h.named_items in
      record {
        ranges = record {
          times = h.times k no_txn lt;
          quiet = λ first. let low : (get_or s.txns k no_txn).quiet ≤ 0 = ltb-false 0 (get_or s.txns k no_txn).quiet
              (none_at (λ t. nat_lt 0 t.quiet) s.txns (or_parts (list_any (λ t. nat_lt 0 t.quiet) s.txns)
              (nat_lt 0 (length s.together)) first).0 k no_txn lt) in omega arith;
          releases = ranges_from 0 s.txns s.releases h.planned h.few_jobs k lt;
        };
        reads = λ j e l. let below : (get_or (get_or s.txns k no_txn).reads j e).0 < length s.items =
            (h.reads k no_txn lt).in_range j e l in omega arith;
        writes = λ j e l. let below : (get_or (get_or s.txns k no_txn).writes j e).0 < length s.items =
            (h.writes k no_txn lt).in_range j e l in omega arith;
        samples = (g.programs k no_program within).samples;
        good = subst (λ (n : ℕ). All (λ op. is_good n op ≡ true) (merged_ops (get_or s.programs k no_program).ops))
            (sym same)
            (good_merged (length s.items) (get_or s.programs k no_program).ops (h.programs k no_program within).good);
        text = merge_text (get_or s.programs k no_program).ops (some_ops s h k no_program within)
            (short_ops s h k no_program within);
        constants = merge_all OpHasConstants constants_sum (get_or s.programs k no_program).ops
            (g.programs k no_program within).constants;
      }

  no_sets : is_second s ≡ false → s.together ≡ []
  no_sets first = nil_from_length s.together (let low : length s.together ≤ 0 = ltb-false 0 (length s.together)
      (or_parts (list_any (λ t. nat_lt 0 t.quiet) s.txns) (nat_lt 0 (length s.together)) first).1 in omega arith)

  is_text : IsText (is_second s) s
  is_text = record {
    item_names = h.item_names;
    txn_names = subst AreNames (sym (names_written s.names.txns s.txns s.programs s.releases h.named_txns h.scripted
        h.released))
        h.txn_names;
    named_items = h.named_items;
    valid = h.validities;
    initial = g.initial;
    txns = written_all (IsTextTxn (is_second s) s.names.items) s.names.txns s.txns s.programs s.releases txn_text;
    sets = λ k d lt. record {
      items = λ j e l. let below : (get_or (get_or s.together k d).items j e).0 < length s.items =
          (h.together k d lt).in_range j e l in
          let same : length s.names.items ≡ length s.items = h.named_items in omega arith;
      within = h.within k d lt;
    };
    no_sets = no_sets;
  }

  -- its canonical data is read by its forms as it was written
  pub canonical_forms : forms_at (canonical s) ≡ Ok (read_forms (is_second s) s)
  unfolding canonical
  canonical_forms = forms_back s (is_second s) is_text
