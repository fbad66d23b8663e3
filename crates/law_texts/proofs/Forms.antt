-- A scenario's data is read by its forms as it was written.
use Rattle.std.proofs.Common.{◌≡◌, FitsSigned, List, [], length, map, codes, Bool, true, false, cond, Ok, refl, sym, ap, ◌∙◌}
use Rattle.std.specs.Int.{w64}
use Rattle.std.specs.List.{All}
use Rattle.rt_base.specs.Names.{AreNames}
use Rattle.name_table.specs.Places.{place_in}
use Rattle.rt_base.specs.declared.ids.TogetherDecl.{TogetherDecl}
use Rattle.step_script.specs.Shown.{Shown}
use Rattle.step_script.specs.Scenarios.{HasValidity}
use Rattle.serde_json.specs.Data.{no_items}
use Rattle.serde_json.specs.Find.{as_array}
use Rattle.serde_json.specs.View.{items_of}
use Rattle.scenario_forms.specs.declared.error.Place.TheVariants as places
use Rattle.scenario_forms.specs.Reading.{member_at}
use Rattle.scenario_forms.specs.Sets.{set_step}
use Rattle.scenario_forms.specs.Root.{is_second, head_at, items_at, txns_at, sets_at, forms_at}
use Rattle.scenario_writer.specs.Canonical.{canonical_as, items_data, txns_in, set_data, array_of}
use Rattle.law_texts.proofs.Parts.{then, found_member, found_or, absent_or, unfold_end}
use Rattle.law_texts.proofs.Exprs.{ArePlaced}
use Rattle.law_texts.proofs.Names.{all_fresh, all_placed}
use Rattle.law_texts.specs.ReadBack.{table, read_set, all_written, read_forms}
use Rattle.law_texts.proofs.Items.{items_from}
use Rattle.law_texts.proofs.Txns.{IsTextTxn}
use Rattle.law_texts.proofs.Sets.{IsTextSet, sets_from, txns_from}

-- what reading its text by forms needs of a scenario
pub record IsText (second : Bool) (s : Shown) : Type 0 where
  pub item_names : AreNames s.names.items
  pub txn_names : AreNames (map (λ w. w.name) (all_written s))
  pub named_items : length s.names.items ≡ length s.items
  pub valid : All (λ d. HasValidity d.kind) s.items
  pub initial : All (λ d. FitsSigned w64 d.initial) s.items
  pub txns : All (IsTextTxn second s.names.items) (all_written s)
  pub sets : All (IsTextSet s.names.items) s.together
  pub no_sets : second ≡ false → s.together ≡ []

module _ (s : Shown) where
  same_version : (second : Bool) → is_second (canonical_as second s) ≡ second
  same_version true = refl
  same_version false = refl

  head_back : (second : Bool) → head_at (canonical_as second s) ≡ Ok (cond second 2 1)
  unfolding head_at member_at
  head_back true = refl
  head_back false = refl

  placed : (second : Bool) → IsText second s → ArePlaced (place_in s.names.items) s.names.items
  placed second h = all_placed s.names.items h.item_names

  items_back : (second : Bool) → IsText second s
      → items_at (canonical_as second s) ≡ Ok (table s.names.items s.items)
  unfolding items_at
  items_back second h =
      then _ (items_of (items_data s.names.items s.items)) _ (found_member places.Items as_array (codes "items")
      (canonical_as second s)
      (array_of (items_data s.names.items s.items)) _ refl refl)
      ∙ items_from s.names.items s.items [] [] h.named_items
      (all_fresh s.names.items h.item_names) h.valid h.initial

  txns_found : (second : Bool) → member_at places.Txns as_array (codes "transactions") (canonical_as second s)
      ≡ Ok (items_of (txns_in second s))
  unfolding member_at
  txns_found true = refl
  txns_found false = refl

  txns_back : (second : Bool) → IsText second s
      → txns_at second (place_in s.names.items) (canonical_as second s) ≡ Ok ((read_forms second s).txns)
  unfolding txns_at
  txns_back second h =
      then _ (items_of (txns_in second s)) _ (txns_found second)
      ∙ txns_from s.names.items (place_in s.names.items) (placed second h) second (all_written s) [] []
      (all_fresh (map (λ w. w.name) (all_written s)) h.txn_names) h.txns

  sets_back : (second : Bool) → IsText second s
      → sets_at (place_in s.names.items) (canonical_as second s) ≡ Ok (map read_set s.together)
  unfolding sets_at
  sets_back true h =
      then _ (items_of (map (set_data s.names.items) s.together)) _ (found_or no_items places.Together as_array
      (codes "together")
      (canonical_as true s) (array_of (map (set_data s.names.items) s.together)) _ refl refl)
      ∙ sets_from s.names.items (place_in s.names.items) (placed true h) s.together [] h.sets
  sets_back false h =
      then _ no_items _ (absent_or no_items places.Together as_array (codes "together") (canonical_as false s) refl)
      ∙ unfold_end (set_step (place_in s.names.items)) []
      ∙ ap (λ (gs : List TogetherDecl). Ok (map read_set gs)) (sym (h.no_sets refl))

  pub forms_back : (second : Bool) → IsText second s → forms_at (canonical_as second s) ≡ Ok (read_forms second s)
  unfolding forms_at
  forms_back second h =
      then _ (cond second 2 1) _ (head_back second)
      ∙ then _ (table s.names.items s.items) _ (items_back second h)
      ∙ then _ ((read_forms second s).txns) _
      (ap (λ (b : Bool). txns_at b (place_in s.names.items) (canonical_as second s)) (same_version second)
      ∙ txns_back second h)
      ∙ then _ (map read_set s.together) _ (sets_back second h)
