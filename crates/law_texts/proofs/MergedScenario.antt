-- A scenario is one with each run of computes as one, too.
use Rattle.std.proofs.Common.{◌≡◌, ℕ, ◌+◌, ◌<◌, ◌≤◌, List, [], ◌∷◌, length, get_or, map, subst, true, Option, Some, None, option_map, refl, sym, ap, ◌∙◌, arith}
use Rattle.std.specs.List.{All}
use Rattle.std.specs.Option.{option_or}
use Rattle.std.proofs.lemmas.Bool.{ltb-false, leb-true}
use Rattle.std.proofs.lemmas.List.{length-map, get_or-map}
use Rattle.std.proofs.lemmas.List.Sums.{AllPass-from_list_all, list_all-from_AllPass}
use Rattle.item_model.specs.declared.decl.ItemDecl.{ItemDecl}
use Rattle.txn_set.specs.declared.decl.TxnDecl.{TxnDecl}
use Rattle.step_script.specs.Scripts.{Operation, read, write, compute, commit, quit, Program, is_good}
use Rattle.step_script.specs.Shown.{Shown}
use Rattle.step_script.specs.Bodies.{steps_of, bad_op, bad_script_from}
use Rattle.step_script.specs.Scenarios.{IsProgramOver, IsScenario}
use Rattle.scenario_writer.specs.Canonical.{merged_ops, merged_program, merged}
use Rattle.scenario_writer.proofs.Ranges.{none_long}
use Rattle.scenario_writer.proofs.GeneratedScripts as writing
use Rattle.scenario_writer.proofs.Merging.{head, tail, good_merged}
use Rattle.law_texts.proofs.Merged.{IsSome, merge_steps, merge_text, merge_none}

some_good : (items : ℕ) (op : Operation) → is_good items op ≡ true → IsSome op
some_good items (read i) h = tt
some_good items (write i value) h = tt
some_good items (compute n) h = leb-true 1 n h
some_good items commit h = tt
some_good items quit h = tt

pub all_some : (items : ℕ) (p : Program) → IsProgramOver items p → All IsSome p.ops
all_some items p h k d lt = some_good items (get_or p.ops k d) (AllPass-from_list_all
    (is_good items) p.ops h.good k d lt)

pub program_merged : (items : ℕ) (p : Program) → IsProgramOver items p → steps_of p.ops ≤ 10000
    → IsProgramOver items (merged_program p)
program_merged items p h short = record {
  over = h.over;
  good = list_all-from_AllPass (is_good items) (merged_ops p.ops) (good_merged items p.ops h.good);
  computes = merge_text p.ops (all_some items p h) short;
}

none_parts : (tx : ℕ) (o : Option ℕ) (rest : Option (ℕ × ℕ)) → option_or (option_map (λ op. (tx, op)) o) rest ≡ None
    → (o ≡ None) × (rest ≡ None)
none_parts tx None rest h = (refl, h)
none_parts tx (Some n) rest h = cc

none_from : (tx : ℕ) (o : Option ℕ) (rest : Option (ℕ × ℕ)) → o ≡ None → rest ≡ None
    → option_or (option_map (λ op. (tx, op)) o) rest ≡ None
none_from tx o rest e f = ap (λ (q : Option ℕ). option_or (option_map (λ op. (tx, op)) q) rest) e ∙ f

scripts_merged : (decls : List ItemDecl) (tx : ℕ) (ts : List TxnDecl) (ps : List Program)
    → All (λ p. All IsSome p.ops) ps
    → bad_script_from decls tx ts ps ≡ None → bad_script_from decls tx ts (map merged_program ps) ≡ None
scripts_merged decls tx [] ps h none = refl
scripts_merged decls tx (t ∷ ts) [] h none = refl
scripts_merged decls tx (t ∷ ts) (p ∷ ps) h none =
    let q = none_parts tx (bad_op decls t p.ops) (bad_script_from decls (tx + 1) ts ps) none in
    none_from tx _ _ (merge_none decls t p.ops [] (head (λ p. All IsSome p.ops) p ps h) q.0)
    (scripts_merged decls (tx + 1) ts ps (tail (λ p. All IsSome p.ops) p ps h) q.1)

-- a fact of each program, with its runs as one
mapped : (P : Program → Type 0) (ps : List Program) → ((k : ℕ) (d : Program) → k < length ps
    → P (merged_program (get_or ps k d)))
    → All P (map merged_program ps)
mapped P ps h k d lt =
    let within : k < length ps = (let e : length (map merged_program ps) ≡ length ps = length-map ps merged_program in
    omega arith) in
    subst P (sym (get_or-map merged_program ps k d d within)) (h k d within)

module _ (s : Shown) (h : IsScenario s) where
  pub some_ops : All (λ p. All IsSome p.ops) s.programs
  some_ops k d lt = all_some (length s.items) (get_or s.programs k d) (h.programs k d lt)

  pub short_ops : (k : ℕ) (d : Program) → k < length s.programs → steps_of (get_or s.programs k d).ops ≤ 10000
  short_ops k d lt = ltb-false 10000 (steps_of (get_or s.programs k d).ops)
      (none_long s.programs k d h.short_scripts lt)

  short_merged : (k : ℕ) (d : Program) → k < length (map merged_program s.programs)
      → steps_of (get_or (map merged_program s.programs) k d).ops ≤ 10000
  short_merged = mapped (λ p. steps_of p.ops ≤ 10000) s.programs
      (λ k d lt. let e : steps_of (merged_ops (get_or s.programs k d).ops) ≡ steps_of (get_or s.programs k d).ops =
      merge_steps (get_or s.programs k d).ops (some_ops k d lt) in
      let f : steps_of (get_or s.programs k d).ops ≤ 10000 = short_ops k d lt in omega arith)

  pub merged_is : IsScenario (merged s)
  merged_is = record {
    item_names = h.item_names;
    txn_names = h.txn_names;
    named_items = h.named_items;
    named_txns = h.named_txns;
    scripted = length-map s.programs merged_program ∙ h.scripted;
    released = h.released;
    reads = h.reads;
    writes = h.writes;
    together = h.together;
    validities = h.validities;
    times = h.times;
    within = h.within;
    programs = mapped (IsProgramOver (length s.items)) s.programs
        (λ k d lt. program_merged (length s.items) (get_or s.programs k d) (h.programs k d lt) (short_ops k d lt));
    good_scripts = scripts_merged s.items 0 s.txns s.programs some_ops h.good_scripts;
    short_scripts = writing.none_long (map merged_program s.programs) short_merged;
    few_jobs = h.few_jobs;
    planned = h.planned;
    room = h.room;
    small_room = h.small_room;
    eager = h.eager;
  }
