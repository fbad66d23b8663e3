-- What writing asks of a scenario's parts.
use Rattle.std.proofs.Common.{◌≡◌, ℕ, zero, suc, ◌+◌, ◌<◌, ◌≤◌, List, [], ◌∷◌, length, get_or, drop, map, subst, Bool, true, false, not, cond, Option, Some, None, refl, sym, ap, ◌∙◌, arith}
use Rattle.std.specs.List.{All, list_all, position, position_or_len, prefix_len}
use Rattle.std.proofs.lemmas.Bool.{ltb-false, not-true}
use Rattle.std.proofs.lemmas.List.{length-map, get_or-map, drop_all}
use Rattle.txn_set.specs.declared.decl.TxnDecl.{TxnDecl}
use Rattle.step_script.specs.declared.script.Script.{Script}
use Rattle.step_script.specs.Scripts.{Program, program_of, is_good}
use Rattle.step_script.specs.Shown.{Shown}
use Rattle.step_script.specs.Bodies.{steps_of, is_long}
use Rattle.step_script.specs.Scenarios.{IsScenario}
use Rattle.step_script.specs.declared.releases.Releases.{Releases}
use Rattle.scenario_writer.specs.Canonical.{written}
use Rattle.scenario_writer.specs.Writable.{AreWritable}
use Rattle.scenario_writer.proofs.Loops.{next}

passes : (q : Program → Bool) (b : Bool) (n : ℕ) (ps : List Program) → suc (length ps) ≤ cond b (1 + n) 0
    → (b ≡ true) × (length ps ≤ n)
passes q true n ps h = (refl, omega arith)
passes q false n ps h = absurd (omega arith)

prefix_all : (q : Program → Bool) (ps : List Program) → length ps ≤ prefix_len q ps → (k : ℕ) (d : Program)
    → k < length ps
    → q (get_or ps k d) ≡ true
prefix_all q [] h k d lt = absurd (omega arith)
prefix_all q (p ∷ ps) h zero d lt = (passes q (q p) (prefix_len q ps) ps h).0
prefix_all q (p ∷ ps) h (suc k) d lt = prefix_all q ps (passes q (q p) (prefix_len q ps) ps h).1 k d (omega arith)

tested : (b : Bool) (n : ℕ) (o : Option ℕ) → cond b (Some n) o ≡ None → b ≡ false
tested true n o h = cc
tested false n o h = refl

pub none_long : (ps : List Program) (k : ℕ) (d : Program) → position is_long ps ≡ None → k < length ps
    → is_long (get_or ps k d) ≡ false
none_long ps k d none lt = not-true (is_long (get_or ps k d)) (prefix_all (λ p. not (is_long p)) ps
    (ltb-false (position_or_len is_long ps) (length ps) (tested _ _ _ none)) k d lt)

module _ (s : Shown) (h : IsScenario s) where
  pub sets_below : All (λ g. All (λ i. i.0 < length s.names.items) g.items) s.together
  sets_below k d lt j e l =
      let below : (get_or (get_or s.together k d).items j e).0 < length s.items = (h.together k d lt).in_range j e l in
      let same : length s.names.items ≡ length s.items = h.named_items in
      omega arith

  pub writable : AreWritable s.names.items s.names.txns s.txns s.programs s.releases
  writable =
      let same : length s.names.items ≡ length s.items = h.named_items in
      record {
        named = h.named_txns;
        scripted = h.scripted;
        released = h.released;
        reads = λ k d lt j e l. (let below : (get_or (get_or s.txns k d).reads j e).0 < length s.items =
            (h.reads k d lt).in_range j e l in omega arith);
        writes = λ k d lt j e l. (let below : (get_or (get_or s.txns k d).writes j e).0 < length s.items =
            (h.writes k d lt).in_range j e l in omega arith);
        good = λ k d lt. subst (λ (n : ℕ). list_all (is_good n) (get_or s.programs k d).ops ≡ true) (sym same)
            (h.programs k d lt).good;
        short = λ k d lt. ltb-false 10000 (steps_of (get_or s.programs k d).ops)
            (none_long s.programs k d h.short_scripts lt);
      }

  pub writable_as : (names ns : List (List ℕ)) (ts : List TxnDecl) (ps : List Program) (rs : List Releases)
      → names ≡ s.names.items
      → ns ≡ s.names.txns → ts ≡ s.txns → ps ≡ s.programs → rs ≡ s.releases → AreWritable names ns ts ps rs
  writable_as names ns ts ps rs a b c d e =
      subst (λ (x : List (List ℕ)). AreWritable x ns ts ps rs) (sym a)
      (subst (λ (x : List (List ℕ)). AreWritable s.names.items x ts ps rs) (sym b)
      (subst (λ (x : List TxnDecl). AreWritable s.names.items s.names.txns x ps rs) (sym c)
      (subst (λ (x : List Program). AreWritable s.names.items s.names.txns s.txns x rs) (sym d)
      (subst (λ (x : List Releases). AreWritable s.names.items s.names.txns s.txns s.programs x) (sym e) writable))))

-- the transactions that are left
pub next_written : (ns : List (List ℕ)) (ts : List TxnDecl) (ss : List Script) (rs : List Releases) (i : ℕ) (n : List ℕ)
    (t : TxnDecl) (p : Script) (r : Releases) → i < length ns → i < length ts → i < length ss → i < length rs
    → n ≡ get_or ns i n → t ≡ get_or ts i t → p ≡ get_or ss i p → r ≡ get_or rs i r
    → written (drop i ns) (drop i ts) (map program_of (drop i ss)) (drop i rs)
    ≡ record { name = n; decl = t; program = program_of p; releases = r }
    ∷ written (drop (i + 1) ns) (drop (i + 1) ts) (map program_of (drop (i + 1) ss)) (drop (i + 1) rs)
next_written ns ts ss rs i n t p r a b c d e f g h =
    rw (next ns i n a e, next ts i t b f, next ss i p c g, next rs i r d h) refl

program_at : (P : Program → Type 0) (ss : List Script) (i : ℕ) (s : Script) → i < length ss → s ≡ get_or ss i s
    → All P (map program_of ss) → P (program_of s)
program_at P ss i s lt is h =
    let within : i < length (map program_of ss) = (let e : length
    (map program_of ss) ≡ length ss = length-map ss program_of in omega arith) in
    subst P (get_or-map program_of ss i s (program_of s) lt ∙ ap program_of (sym is)) (h i (program_of s) within)

module _ (names ns : List (List ℕ)) (ts : List TxnDecl) (ss : List Script) (rs : List Releases)
    (h : AreWritable names ns ts (map program_of ss) rs) where
  pub reads_at : (i : ℕ) (t : TxnDecl) → i < length ts → t ≡ get_or ts i t → All (λ k. k.0 < length names) t.reads
  reads_at i t lt is = subst (λ (u : TxnDecl). All (λ k. k.0 < length names) u.reads) (sym is) (h.reads i t lt)

  pub writes_at : (i : ℕ) (t : TxnDecl) → i < length ts → t ≡ get_or ts i t → All (λ k. k.0 < length names) t.writes
  writes_at i t lt is = subst (λ (u : TxnDecl). All (λ k. k.0 < length names) u.writes) (sym is) (h.writes i t lt)

  abbrev pub within : (i : ℕ) → i < length ts → i < length ss
  within i lt = let e : length (map program_of ss) ≡ length ts = h.scripted in
      let f : length (map program_of ss) ≡ length ss = length-map ss program_of in omega arith

  pub good_at : (i : ℕ) (s : Script) → i < length ts → s ≡ get_or ss i s
      → list_all (is_good (length names)) (program_of s).ops ≡ true
  good_at i s lt is = program_at (λ p. list_all (is_good (length names)) p.ops ≡ true) ss i s (within i lt) is h.good

  pub short_at : (i : ℕ) (s : Script) → i < length ts → s ≡ get_or ss i s → steps_of (program_of s).ops ≤ 10000
  short_at i s lt is = program_at (λ p. steps_of p.ops ≤ 10000) ss i s (within i lt) is h.short

-- a fact of each script is one of its program
pub all_programs : (P : Program → Type 0) (ss : List Script) → All (λ s. P (program_of s)) ss
    → All P (map program_of ss)
all_programs P [] h k d lt = absurd (omega arith)
all_programs P (s ∷ ss) h zero d lt = h 0 s (omega arith)
all_programs P (s ∷ ss) h (suc k) d lt = all_programs P ss (λ j e l. h (suc j) e (omega arith)) k d (omega arith)

pub none_written : (ns : List (List ℕ)) (ts : List TxnDecl) (ss : List Script) (rs : List Releases) (i : ℕ)
    → length ns ≤ i
    → written (drop i ns) (drop i ts) (map program_of (drop i ss)) (drop i rs) ≡ []
none_written ns ts ss rs i le =
    ap (λ (ms : List (List ℕ)). written ms (drop i ts) (map program_of (drop i ss)) (drop i rs)) (drop_all i ns le)
