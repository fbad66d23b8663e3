-- Relative sets, and the transactions of a scenario, that are read as they were written.
use Rattle.std.proofs.Common.{◌≡◌, ℕ, ◌≤◌, ◌<◌, ◌^◌, List, [], ◌∷◌, ◌++◌, length, get_or, map, codes, Bool, true, Some, None, Ok, refl, sym, ap, ◌∙◌, arith}
use Rattle.std.specs.List.{All}
use Rattle.std.proofs.lemmas.List.{append_assoc, append-nil}
use Rattle.rt_base.specs.declared.ids.TogetherDecl.{TogetherDecl}
use Rattle.rt_base.specs.Names.{is_name}
use Rattle.name_table.specs.Places.{place_in}
use Rattle.serde_json.specs.Find.{as_array}
use Rattle.serde_json.specs.View.{items_of}
use Rattle.scenario_forms.specs.declared.error.Place.TheVariants as places
use Rattle.scenario_forms.specs.Arrays.{named}
use Rattle.scenario_forms.specs.Reading.{fold_at}
use Rattle.scenario_forms.specs.Fields.{Places, whole}
use Rattle.scenario_forms.specs.Sets.{Together, set_at, set_step}
use Rattle.scenario_forms.specs.Txns.{Txn, Txns, with_txn, txn_step}
use Rattle.scenario_writer.specs.Canonical.{Written, txn_data, set_data, item_word, item_words}
use Rattle.scenario_writer.specs.Canonical as written
use Rattle.law_texts.proofs.Parts.{then, found_member, forms_back, whole_back, head, tail, unfold_step, unfold_end}
use Rattle.law_texts.proofs.Exprs.{ArePlaced, item_back}
use Rattle.law_texts.proofs.Names.{AreFresh, rest_fresh}
use Rattle.law_texts.specs.ReadBack.{read_txn, read_set}
use Rattle.law_texts.proofs.Txns.{IsTextTxn, name_back, txn_back}

-- its items are items of the scenario, and its interval is in the range of a text
pub record IsTextSet (names : List (List ℕ)) (g : TogetherDecl) : Type 0 where
  pub items : All (λ i. i.0 < length names) g.items
  pub within : g.within ≤ 2 ^ 40

module _ (names : List (List ℕ)) (items : Places) (placed : ArePlaced items names) where
  set_back : (i : ℕ) (g : TogetherDecl) → IsTextSet names g → set_at items i (set_data names g) ≡ Ok (read_set g)
  unfolding set_at
  set_back i g h =
      then _ (items_of (map (item_word names) g.items)) _ (found_member (places.SetItems i) as_array (codes "items")
      (set_data names g)
      (item_words names g.items) _ refl refl)
      ∙ then _ (map Some g.items) _ (forms_back (λ j. places.SetElement i j) (named items)
      (item_word names) Some g.items
      (λ k e lt. ap Some (item_back items names placed (get_or g.items k e) (h.items k e lt))))
      ∙ then _ g.within _ (found_member (places.SetWithin i) (whole 0 (2 ^ 40)) (codes "within") (set_data names g)
      (written.whole g.within)
      g.within refl (whole_back 0 (2 ^ 40) g.within (omega arith) h.within))

  one_set : (acc : List Together) (g : TogetherDecl) → IsTextSet names g
      → set_step items acc (set_data names g) ≡ Ok (acc ++ read_set g ∷ [])
  unfolding set_step
  one_set acc g h = then _ (read_set g) _ (set_back (length acc) g h)

  pub sets_from : (sets : List TogetherDecl) (acc : List Together) → All (IsTextSet names) sets
      → fold_at (set_step items) acc (items_of (map (set_data names) sets)) ≡ Ok (acc ++ map read_set sets)
  sets_from [] acc h = unfold_end (set_step items) acc ∙ ap Ok (sym (append-nil acc))
  sets_from (g ∷ sets) acc h =
      unfold_step (set_step items) acc (acc ++ read_set g ∷ []) (set_data names g) (map (set_data names) sets) _
      (one_set acc g (head (IsTextSet names) g sets h))
      (sets_from sets (acc ++ read_set g ∷ []) (tail (IsTextSet names) g sets h)
      ∙ ap Ok (append_assoc acc (read_set g ∷ []) (map read_set sets)))

  abbrev txn_table : List (List ℕ) → List Txn → Txns
  txn_table ns xs = record { names = ns; txns = xs }

  one_txn : (second : Bool) (ns : List (List ℕ)) (xs : List Txn) (w : Written) → IsTextTxn second names w
      → is_name w.name ≡ true → place_in ns w.name ≡ None
      → txn_step second items (txn_table ns xs) (txn_data second names w)
      ≡ Ok (with_txn (txn_table ns xs) w.name (read_txn w))
  unfolding txn_step
  one_txn second ns xs w h plain new =
      then _ w.name _ (name_back names w.name w.decl w.program (place_in ns) (length ns) second w.releases plain new)
      ∙ then _ (read_txn w) _ (txn_back names w.name w.decl w.program items placed (length ns) second w.releases h)

  pub txns_from : (second : Bool) (ws : List Written) (ns : List (List ℕ)) (xs : List Txn)
      → AreFresh ns (map (λ w. w.name) ws) → All (IsTextTxn second names) ws
      → fold_at (txn_step second items) (txn_table ns xs) (items_of (map (txn_data second names) ws))
      ≡ Ok (txn_table (ns ++ map (λ w. w.name) ws) (xs ++ map read_txn ws))
  txns_from second [] ns xs fresh h =
      unfold_end (txn_step second items) (txn_table ns xs)
      ∙ ap (λ (ms : List (List ℕ)). Ok (txn_table ms xs)) (sym (append-nil ns))
      ∙ ap (λ (ys : List Txn). Ok (txn_table (ns ++ []) ys)) (sym (append-nil xs))
  txns_from second (w ∷ ws) ns xs fresh h =
      unfold_step (txn_step second items) (txn_table ns xs) (with_txn (txn_table ns xs) w.name (read_txn w))
      (txn_data second names w) (map (txn_data second names) ws) _
      (one_txn second ns xs w (head (IsTextTxn second names) w ws h) (fresh.plain 0 (omega arith))
      (fresh.new 0 (omega arith)))
      (txns_from second ws (ns ++ w.name ∷ []) (xs ++ read_txn w ∷ [])
      (rest_fresh ns w.name (map (λ u. u.name) ws) fresh) (tail (IsTextTxn second names) w ws h)
      ∙ ap (λ (ms : List (List ℕ)). Ok (txn_table ms ((xs ++ read_txn w ∷ []) ++ map read_txn ws)))
      (append_assoc ns (w.name ∷ []) (map (λ u. u.name) ws))
      ∙ ap (λ (ys : List Txn). Ok (txn_table (ns ++ w.name ∷ map (λ u. u.name) ws) ys))
      (append_assoc xs (read_txn w ∷ []) (map read_txn ws)))
