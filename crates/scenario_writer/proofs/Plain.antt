-- The canonical data of a scenario has no float, and nests less deep than a reader goes.
use Rattle.std.proofs.Common.{◌≡◌, ℕ, zero, suc, ◌+◌, ◌*◌, ◌≤◌, max, ℤ, pos, negsuc, List, [], ◌∷◌, length, get_or, map, Bool, true, false, ◌&&◌, Option, Some, None, option_map, refl, arith}
use Rattle.std.specs.Prelude.{nat_le, nat_lt}
use Rattle.std.specs.List.{All, list_all}
use Rattle.std.proofs.lemmas.Bool.{or_from, and_parts, leb-true}
use Rattle.rt_base.specs.declared.ids.ItemId.{ItemId}
use Rattle.rt_base.specs.declared.ids.TogetherDecl.{TogetherDecl}
use Rattle.item_model.specs.declared.decl.ItemDecl.{ItemDecl}
use Rattle.item_model.specs.declared.decl.ItemKind.{ItemKind}
use Rattle.item_model.specs.declared.decl.ItemKind.TheVariants.{Sensor, Derived, State}
use Rattle.item_model.specs.Kinds.{validity_of_kind}
use Rattle.txn_set.specs.declared.decl.TxnDecl.{TxnDecl}
use Rattle.step_script.specs.Values.{Tree, leaf_const, leaf_sample, leaf_serial, leaf_last, node}
use Rattle.step_script.specs.Scripts.{Operation, read, write, compute, commit, quit, Program, depth, reads_below, is_good}
use Rattle.step_script.specs.declared.releases.Releases.{Releases}
use Rattle.step_script.specs.declared.releases.Releases.TheVariants.{At, Jobs, Eager}
use Rattle.step_script.specs.Shown.{Shown}
use Rattle.step_script.specs.Scenarios.{IsScenario}
use Rattle.serde_json.specs.Data.{Data, array, object, number, string, unsigned, Items, no_items, item, Members, no_members, member, items_depth, members_depth}
use Rattle.serde_json.specs.Data as data_of
use Rattle.serde_json.specs.View.{items_of}
use Rattle.serde_json.specs.Written.{has_float, items_have_float, members_have_float}
use Rattle.scenario_writer.specs.Canonical.{whole, integer, word, array_of, one, optional, item_word, item_words, op_word, expr_data, op_data, merged_ops, script_data, item_data, items_data, ticks_data, jobs_data, eager_data, quiet_data, Written, txn_data, set_data, written, sets_data, is_second, canonical}
use Rattle.scenario_writer.proofs.Merging.{head, tail, good_merged}

pub record IsPlain (most : ℕ) (d : Data) : Type 0 where
  pub no_float : has_float d ≡ false
  pub low : data_of.depth d ≤ most

record ArePlain (most : ℕ) (ms : Members) : Type 0 where
  no_float : members_have_float ms ≡ false
  low : members_depth ms ≤ most

plain_word : (most : ℕ) (text : List ℕ) → IsPlain most (word text)
plain_word most text = record { no_float = refl; low = omega arith }

plain_whole : (most n : ℕ) → IsPlain most (whole n)
plain_whole most n = record { no_float = refl; low = omega arith }

plain_integer : (most : ℕ) (z : ℤ) → IsPlain most (integer z)
plain_integer most (pos n) = record { no_float = refl; low = omega arith }
plain_integer most (negsuc n) = record { no_float = refl; low = omega arith }

no_more : (most : ℕ) → ArePlain most no_members
no_more most = record { no_float = refl; low = omega arith }

with_member : (most : ℕ) (name : List ℕ) (d : Data) (ms : Members) → IsPlain most d → ArePlain most ms
    → ArePlain most (member name d ms)
with_member most name d ms h g = record {
  no_float = or_from (has_float d) (members_have_float ms) h.no_float g.no_float;
  low = (let a : data_of.depth d ≤ most = h.low in let b : members_depth ms ≤ most = g.low in omega arith);
}

abbrev IfPlain : ℕ → Option Data → Type 0
IfPlain most None = Unit {0}
IfPlain most (Some d) = IsPlain most d

with_optional : (most : ℕ) (name : List ℕ) (o : Option Data) (ms : Members) → IfPlain most o → ArePlain most ms
    → ArePlain most (optional name o ms)
with_optional most name None ms h g = g
with_optional most name (Some d) ms h g = with_member most name d ms h g

plain_object : (most : ℕ) (ms : Members) → ArePlain most ms → IsPlain (suc most) (object ms)
plain_object most ms h = record {
  no_float = h.no_float;
  low =
      (let a : members_depth ms ≤ most = h.low in omega arith);
}

plain_one : (most : ℕ) (name : List ℕ) (d : Data) → IsPlain most d → IsPlain (suc most) (one name d)
plain_one most name d h = plain_object most (member name d no_members) (with_member most name d no_members h
    (no_more most))

higher : (most more : ℕ) (d : Data) → most ≤ more → IsPlain most d → IsPlain more d
higher most more d le h = record {
  no_float = h.no_float;
  low =
      (let a : data_of.depth d ≤ most = h.low in omega arith);
}

items_plain : (most : ℕ) (ds : List Data) → All (IsPlain most) ds
    → (items_have_float (items_of ds) ≡ false) × (items_depth (items_of ds) ≤ most)
items_plain most [] h = (refl, omega arith)
items_plain most (d ∷ ds) h =
    let p = head (IsPlain most) d ds h in
    let q = items_plain most ds (tail (IsPlain most) d ds h) in (
      or_from (has_float d) (items_have_float (items_of ds)) p.no_float q.0,
      (let a : data_of.depth d ≤ most = p.low in let b : items_depth (items_of ds) ≤ most = q.1 in omega arith),
    )

plain_array : (most : ℕ) (ds : List Data) → All (IsPlain most) ds → IsPlain (suc most) (array_of ds)
plain_array most ds h =
    let q = items_plain most ds h in
    record { no_float = q.0; low = (let b : items_depth (items_of ds) ≤ most = q.1 in omega arith) }

-- the same of a list of data that are made one by one
each_mapped : {A : Type 0} (most : ℕ) (f : A → Data) (xs : List A) → All (λ x. IsPlain most (f x)) xs
    → All (IsPlain most) (map f xs)
each_mapped most f [] g k d lt = absurd (omega arith)
each_mapped most f (x ∷ xs) g zero d lt = g 0 x (omega arith)
each_mapped most f (x ∷ xs) g (suc k) d lt = each_mapped most f xs (λ j e l. g (suc j) e (omega arith)) k d
    (omega arith)

plain_mapped : {A : Type 0} (most : ℕ) (f : A → Data) (xs : List A) → All (λ x. IsPlain most (f x)) xs
    → IsPlain (suc most) (array_of (map f xs))
plain_mapped most f xs h = plain_array most (map f xs) (each_mapped most f xs h)

pair_plain : (most : ℕ) (a b : Data) → IsPlain most a → IsPlain most b → All (IsPlain most) (a ∷ b ∷ [])
pair_plain most a b h g zero d lt = h
pair_plain most a b h g (suc zero) d lt = g
pair_plain most a b h g (suc (suc k)) d lt = absurd (omega arith)

plain_items : (most : ℕ) (names : List (List ℕ)) (ids : List ItemId) → IsPlain (suc most) (item_words names ids)
plain_items most names ids = plain_mapped most (item_word names) ids (λ k d lt. plain_word most _)

plain_expr : (names : List (List ℕ)) (t : Tree) → IsPlain (2 * depth t) (expr_data names t)
plain_expr names (leaf_const z) = plain_integer 2 z
plain_expr names leaf_sample = plain_word 2 _
plain_expr names leaf_serial = plain_word 2 _
plain_expr names (leaf_last i) = higher 1 2 _ (omega arith) (plain_one 0 _ _ (plain_word 0 _))
plain_expr names (node op a b) =
    higher (suc (suc (2 * max (depth a) (depth b)))) (2 * (1 + max (depth a) (depth b))) _ (omega arith)
    (plain_one (suc (2 * max (depth a) (depth b))) (op_word op) _
    (plain_array (2 * max (depth a) (depth b)) (expr_data names a ∷ expr_data names b ∷ [])
    (pair_plain (2 * max (depth a) (depth b)) (expr_data names a) (expr_data names b)
    (higher (2 * depth a) (2 * max (depth a) (depth b)) (expr_data names a) (omega arith) (plain_expr names a))
    (higher (2 * depth b) (2 * max (depth a) (depth b)) (expr_data names b) (omega arith) (plain_expr names b)))))

plain_op : (names : List (List ℕ)) (items : ℕ) (op : Operation) → is_good items op ≡ true
    → IsPlain 65 (op_data names op)
plain_op names items (read i) h = plain_one 64 _ _ (plain_word 64 _)
plain_op names items (write i value) h =
    let low : depth value ≤ 32 = leb-true (depth value) 32 (and_parts (nat_lt i.0 items && reads_below items value)
    (nat_le (depth value) 32) h).1 in
    plain_object 64 _ (with_member 64 _ _ _ (higher (2 * depth value) 64 (expr_data names value) (omega arith)
    (plain_expr names value))
    (with_member 64 _ _ _ (plain_word 64 _) (no_more 64)))
plain_op names items (compute n) h = plain_one 64 _ _ (plain_whole 64 n)
plain_op names items commit h = plain_word 65 _
plain_op names items quit h = plain_word 65 _

plain_script : (names : List (List ℕ)) (items : ℕ) (ops : List Operation) → list_all (is_good items) ops ≡ true
    → IsPlain 66 (script_data names ops)
plain_script names items ops h = plain_mapped 65 (op_data names) (merged_ops ops)
    (λ k d lt. plain_op names items (get_or (merged_ops ops) k d) (good_merged items ops h k d lt))

plain_validity : (most : ℕ) (kind : ItemKind) → IfPlain most (option_map whole (validity_of_kind kind))
plain_validity most (Sensor v) = plain_whole most v
plain_validity most (Derived v) = plain_whole most v
plain_validity most State = tt

plain_item : (name : List ℕ) (d : ItemDecl) → IsPlain 1 (item_data name d)
plain_item name d = plain_object 0 _ (with_member 0 _ _ _ (plain_word 0 _) (with_member 0 _ _ _ (plain_word 0 _)
    (with_optional 0 _ _ _ (plain_validity 0 d.kind) (with_member 0 _ _ _ (plain_integer 0 d.initial) (no_more 0)))))

each_item : (names : List (List ℕ)) (ds : List ItemDecl) → All (IsPlain 1) (items_data names ds)
each_item [] ds k d lt = absurd (omega arith)
each_item (n ∷ ns) [] k d lt = absurd (omega arith)
each_item (n ∷ ns) (d ∷ ds) zero e lt = plain_item n d
each_item (n ∷ ns) (d ∷ ds) (suc k) e lt = each_item ns ds k e (omega arith)

plain_ticks : (r : Releases) → IfPlain 66 (ticks_data r)
plain_ticks (At ticks) = plain_mapped 65 whole ticks (λ k d lt. plain_whole 65 _)
plain_ticks other = tt

plain_jobs : (r : Releases) → IfPlain 66 (jobs_data r)
plain_jobs (Jobs n) = plain_whole 66 n
plain_jobs other = tt

plain_eager : (r : Releases) → IfPlain 66 (eager_data r)
plain_eager (Eager n) = plain_whole 66 n
plain_eager other = tt

plain_quiet : (second : Bool) (quiet : ℕ) → IfPlain 66 (quiet_data second quiet)
plain_quiet true quiet = plain_whole 66 quiet
plain_quiet false quiet = tt

plain_names : (names : List (List ℕ)) (ids : List ItemId) → IsPlain 66 (item_words names ids)
plain_names names ids = higher 1 66 _ (omega arith) (plain_items 0 names ids)

plain_txn : (second : Bool) (names : List (List ℕ)) (items : ℕ) (w : Written)
    → list_all (is_good items) w.program.ops ≡ true
    → IsPlain 67 (txn_data second names w)
plain_txn second names items w good = plain_object 66 _
    (with_member 66 _ _ _ (plain_whole 66 _)
    (with_optional 66 _ _ _ (plain_eager w.releases)
    (with_optional 66 _ _ _ (plain_jobs w.releases)
    (with_member 66 _ _ _ (plain_word 66 _)
    (with_member 66 _ _ _ (plain_whole 66 _)
    (with_member 66 _ _ _ (plain_whole 66 _)
    (with_member 66 _ _ _ (plain_whole 66 _)
    (with_optional 66 _ _ _ (plain_quiet second w.decl.quiet)
    (with_member 66 _ _ _ (plain_names names w.decl.reads)
    (with_optional 66 _ _ _ (plain_ticks w.releases)
    (with_member 66 _ _ _ (plain_mapped 65 integer w.program.samples (λ k d lt. plain_integer 65 _))
    (with_member 66 _ _ _ (plain_script names items w.program.ops good)
    (with_member 66 _ _ _ (plain_whole 66 _)
    (with_member 66 _ _ _ (plain_names names w.decl.writes) (no_more 66)))))))))))))))

each_txn : (second : Bool) (names : List (List ℕ)) (items : ℕ) (ns : List (List ℕ)) (ts : List TxnDecl)
    (ps : List Program)
    (rs : List Releases) → All (λ p. list_all (is_good items) p.ops ≡ true) ps
    → All (λ w. IsPlain 67 (txn_data second names w)) (written ns ts ps rs)
each_txn second names items [] ts ps rs h k d lt = absurd (omega arith)
each_txn second names items (n ∷ ns) [] ps rs h k d lt = absurd (omega arith)
each_txn second names items (n ∷ ns) (t ∷ ts) [] rs h k d lt = absurd (omega arith)
each_txn second names items (n ∷ ns) (t ∷ ts) (p ∷ ps) [] h k d lt = absurd (omega arith)
each_txn second names items (n ∷ ns) (t ∷ ts) (p ∷ ps) (r ∷ rs) h zero d lt =
    plain_txn second names items (record { name = n; decl = t; program = p; releases = r }) (h 0 p (omega arith))
each_txn second names items (n ∷ ns) (t ∷ ts) (p ∷ ps) (r ∷ rs) h (suc k) d lt =
    each_txn second names items ns ts ps rs (λ j e l. h (suc j) e (omega arith)) k d (omega arith)

plain_set : (names : List (List ℕ)) (g : TogetherDecl) → IsPlain 67 (set_data names g)
plain_set names g = plain_object 66 _ (with_member 66 _ _ _ (plain_names names g.items)
    (with_member 66 _ _ _ (plain_whole 66 _) (no_more 66)))

plain_sets : (second : Bool) (names : List (List ℕ)) (sets : List TogetherDecl)
    → IfPlain 68 (sets_data second names sets)
plain_sets true names sets = plain_mapped 67 (set_data names) sets (λ k d lt. plain_set names _)
plain_sets false names sets = tt

pub canonical_plain : (s : Shown) → IsScenario s → IsPlain 69 (canonical s)
unfolding canonical
canonical_plain s h = plain_object 68 _
    (with_member 68 _ _ _ (higher 2 68 _ (omega arith) (plain_array 1 _ (each_item s.names.items s.items)))
    (with_optional 68 _ _ _ (plain_sets (is_second s) s.names.items s.together)
    (with_member 68 _ _ _ (plain_mapped 67 (txn_data (is_second s) s.names.items) _
    (each_txn (is_second s) s.names.items (length s.items) s.names.txns s.txns s.programs s.releases
    (λ k d lt. (h.programs k d lt).good)))
    (with_member 68 _ _ _ (plain_whole 68 _) (no_more 68)))))
