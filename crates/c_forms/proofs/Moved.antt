-- The two words of one struct, moved into another that owns the same: a slot into a handle, and a handle into a slot. Assumes
-- `Logic`.
use Rattle.c_forms.proofs.Steps.{◌≡◌, List, [], ◌∷◌, ◌++◌, refl, sym, ap, subst, Val, SProp, ent, id⊢, Fml, ftrue, fsep, WpFn, ‵, raw, ◌⊛◌, ◌$◌, ◌∵◌, !, qed, done, move, keep, split, fsplit, join, suffices, rewrite, stop, fld, of_opd, no_more, and_then, returns, enter, alloc_all, pass_all, free_all, look_at, get, get_in, sets, agg, sub, whole, tables, RattleType, owns, types_at, plain, Ptr, ptr_val, nothing, Stays, stay_dropped, walk_of, Goes-dropped, says, ends_at, ghosts, proved_at, held, layout}
use seplogic.Ra.Ura.{Ura}
use mir.Syntax.{Fn, Callee, local, value_local, ty_ptr, place, copy, field, rv_opd, aggregate, assign, seq, return}
use types.Logic.{Logic}
use prog.Model.{Model}
use prog.Wp.{Closed}
use contract.Running.{Running}
use contract.Notation.{connectives}
use denote.Exit.{yes, left, Last}
use denote.Builtin.{RawPtr}
use denote.Struct.Owning.{shape}
use denote.Struct.Struct.{Shape, Struct}
use denote.Triple.Clauses.{Ended, Clauses, closing}
use denote.Triple.Spec.{Meets}
use Rattle.std.specs.Prelude.{Option}
use Rattle.c_forms.specs.contracts.slot.Slot as slot
use Rattle.c_forms.proofs.BoxApart.{two, ptr_fits, words_fit, fields_apart, fields_together}
use Rattle.c_forms.proofs.Apart.{Heap, heap_lawful}

-- a struct of a pointer and an allocator that owns what a handle does
pub record Holder (T : RattleType) : Type 2 where
  pub row : RattleType
  pub shape : Shape
  pub parts : row.Denot → Ptr × Heap.Denot × Option T.Denot
  pub make : Ptr × Heap.Denot × Option T.Denot → row.Denot
  pub made : (x : Ptr × Heap.Denot × Option T.Denot) → parts (make x) ≡ x

module _ (T : RattleType) where
  abbrev words : Holder T → RattleType
  words A = Struct (record (A.shape) { fields = RawPtr ∷ Heap ∷ [] })

  abbrev owned : (A : Holder T) → Ptr × Heap.Denot × Option T.Denot → List Val → Fml
  owned A x vs = fsep ((words A).own_val (x.0, (x.1, tt)) vs) (held T x.1 x.0 x.2)

  -- its row, as it is made of these
  abbrev pub row_of : Holder T → RattleType
  row_of A = record (A.row) { mir = (words A).mir; own_val = λ d vs. owned A (A.parts d) vs }

  -- the code that takes one apart and makes the other
  abbrev pub moving : Holder T → Holder T → Fn
  moving A B = record {
    lifetimes = 0;
    outlives = [];
    ty_params = [];
    givens = 0;
    params = 1;
    locals = local (layout (words B)) value_local ∷ local (layout (words A)) value_local ∷ local ty_ptr value_local ∷ local (layout Heap) value_local ∷ local ty_ptr value_local ∷ [];
    body = seq (assign (place 2 []) (rv_opd (copy (place 1 (field 0 ∷ [])))))
        (seq (assign (place 3 []) (rv_opd (copy (place 1 (field 1 ∷ [])))))
        (seq (assign (place 4 []) (rv_opd (copy (place 2 []))))
        (seq (assign (place 0 []) (aggregate (copy (place 4 []) ∷ copy (place 3 []) ∷ []))) return)));
  }

  abbrev pub ended : Holder T → Holder T → Ended
  ended A B = record { signature = record { lifetimes = 0; outlives = []; params = plain (λ κs. row_of A) ∷ []; result = plain (λ κs. row_of B) }; kept = (yes, tt) }

  module _ {M : Type 1} (𝓤 : Ura M) (A B : Holder T) (Says : A.row.Denot → B.row.Denot → Type 0) where
    abbrev pub clauses : Clauses 𝓤 (ended A B)
    clauses κs args = record { ghost = Unit {0}; requires = λ _. (connectives 𝓤).⊤ₛ; ensures = λ _ r _. (connectives 𝓤).⌜◌⌝ (Says args.0 r) }

    module _ (𝓛 : Logic 𝓤) (𝓜 : Model 𝓤 𝓛.H) (𝓡 : Running 𝓤 𝓛.H 𝓜) where
      pub moved : (name : Callee) → Closed 𝓤 𝓛.H (tables 𝓤 𝓛.H 𝓜 𝓡 𝓡.env).C (tables 𝓤 𝓛.H 𝓜 𝓡 𝓡.env).Λ name (moving A B)
          → ((x : A.row.Denot) (w : Last (A.row.exit yes) x) → left (A.row.exit yes) x w ≡ ftrue) → ((x : A.row.Denot) → Last (A.row.exit yes) x) → ((d : A.row.Denot) → Says d (B.make (A.parts d)))
          → Meets 𝓛 (ended A B).signature ((tables 𝓤 𝓛.H 𝓜 𝓡 𝓡.env).C name) (closing 𝓛 (ended A B) clauses)
      moved name closed silent last says_so =
          let 𝓣 = tables 𝓤 𝓛.H 𝓜 𝓡 𝓡.env in let e = ended A B in let fn = moving A B in
          let stayed : Stays e.signature.params e.kept = (stay_dropped (plain (λ _. row_of A)) yes, tt) in
          proved_at 𝓛 e stayed clauses 𝓜 𝓡 (Goes-dropped 𝓛 0 (plain (λ _. row_of A)) yes (λ κs x w. silent x w), tt) name fn closed (λ y are.
          let d : A.row.Denot = y.0.3.0 in let x = A.parts d in let Post : Val → SProp 𝓤 = (walk_of 𝓛 e stayed clauses).post y in let Run : List Val → SProp 𝓤 = λ us. WpFn 𝓤 𝓛.H 𝓣.C 𝓣.Λ fn us Post in
          qed 𝓛 ((‵ ftrue ⊛ ‵ (owns (types_at e.signature.params y.0.0) y.0.3 y.0.4)) ∷ raw ((clauses y.0.0 y.0.3).requires y.1) ∷ []) ∵
          split ! $ move ! (1 ∷ []) $ fsplit ! $ fsplit ! $ fields_apart Heap heap_lawful ghosts ! A.shape x.0 x.1 y.0.4.0 (λ h is fits.
          let w : Val = two (ptr_val x.0) h in let good = words_fit Heap heap_lawful x.0 h fits in
          suffices ! (Run (w ∷ [])) (subst (λ (us : List Val). ent 𝓤 (Run (w ∷ [])) (Run us)) (sym (ap (λ (us : List Val). us ++ []) is)) (id⊢ 𝓤 (Run (w ∷ [])))) $
          enter ! 𝓣.C 𝓣.Λ fn (w ∷ []) Post $ alloc_all ! (λ l. pass_all ! refl (good, tt) $
          sets ! (of_opd ! (get_in ! (fld ! refl (stop !)) (sub ! 0 refl (whole !)))) refl (ptr_fits x.0) $
          sets ! (of_opd ! (get_in ! (fld ! refl (stop !)) (sub ! 1 refl (whole !)))) refl fits $
          sets ! (of_opd ! (get ! refl)) refl (ptr_fits x.0) $
          sets ! (agg ! (and_then ! (get ! refl) (and_then ! (get ! refl) (no_more !)))) refl good $
          -- [the allocator; what is held; ..]
          move ! (1 ∷ 0 ∷ []) $ fields_together Heap heap_lawful ghosts ! B.shape (held T x.1 x.0 x.2) x.0 h x.1 $
          rewrite ! 0 (λ (z : Ptr × Heap.Denot × Option T.Denot). ‵ (owned B z (w ∷ []))) (sym (B.made x)) refl $
          returns ! (look_at ! 0 refl) $ free_all ! refl $
          suffices ! _ (ends_at 𝓛 e stayed clauses y w (B.make x) (last d, tt) (tt, tt)) $ says ! (says_so d) $
          keep ! (0 ∷ 2 ∷ []) $ nothing ! $ nothing ! $ join ! $ move ! (2 ∷ []) $ done !)))

-- a slot
abbrev pub slot_of : (T : RattleType) → Holder T
slot_of T = record { row = slot.the_row T; shape = shape (slot.the_type T); parts = λ d. (d.at, d.alloc, d.value); make = λ x. record { at = x.0; alloc = x.1; value = x.2 }; made = λ x. refl }
