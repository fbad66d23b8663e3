-- `of_raw` makes a slot of the two words of a raw box.
use Rattle.c_forms.proofs.Steps.{List, [], ◌∷◌, ◌++◌, refl, sym, ap, subst, a_type, Val, inst_fn, SProp, ent, id⊢, ftrue, flft, WpFn, Item, ‵, raw, ◌⊛◌, ◌$◌, ◌∵◌, !, qed, done, move, keep, split, fsplit, join, suffices, stop, fld, of_opd, no_more, and_then, returns, enter, alloc_all, pass_all, free_all, look_at, get, get_in, sets, agg, sub, whole, tables, RattleType, owns, types_at, plain, ptr_val, nothing, param, layouts, Stays, stay_dropped, walk_of, Goes-dropped, says, ends_at, shape, Some, ghosts, proved_at, held}
use Rattle.c_forms.proofs.BoxApart.{Row, two, ptr_fits, words_fit, fields_apart, fields_together}
use Rattle.c_forms.proofs.Apart.{Heap, heap_lawful}
use Rattle.c_forms.specs.contracts.raw_box.RawBox as raw_box
use Rattle.c_forms.specs.contracts.slot.Slot as slot
use Rattle.c_forms.specs.contracts.slot.Slot.of_raw as f
use Rattle.c_forms.proofs.slot.Slot.of_raw.Statement.{statement}
use Rattle.c_forms.proofs.slot.Slot.of_raw.Code as code

pub of_raw_spec : {M : Type 1} → statement M
of_raw_spec 𝓤 𝓛 𝓜 𝓡 wired T' laws_T =
    let T : RattleType = param 0 T' in let ended = f.ended T' in let clauses = f.clauses T' 𝓛 𝓜.mem 𝓡.returns in
    let given = layouts (a_type ∷ []) (T', tt) in let fn = inst_fn given code.function in let 𝓣 = tables 𝓤 𝓛.H 𝓜 𝓡 𝓡.env in
    let stayed : Stays ended.signature.params ended.kept = (stay_dropped (plain (λ _. Row T Heap ghosts)) ended.kept.0, tt) in
    proved_at 𝓛 ended stayed clauses 𝓜 𝓡 (Goes-dropped 𝓛 1 (plain (λ _. Row T Heap ghosts)) ended.kept.0 (λ κs x w. refl), tt) (f.Key.name given) fn (code.unfolded 𝓤 𝓛.H 𝓜 𝓡 wired (T', tt)) (λ y are.
    let d = y.0.3.0 in let Post : Val → SProp 𝓤 = (walk_of 𝓛 ended stayed clauses).post y in let Run : List Val → SProp 𝓤 = λ us. WpFn 𝓤 𝓛.H 𝓣.C 𝓣.Λ fn us Post in
    let alive : Item 𝓤 = ‵ (flft y.0.0.0 y.0.1.0) ⊛ ‵ ftrue in
    qed 𝓛 ((alive ⊛ ‵ (owns (types_at ended.signature.params y.0.0) y.0.3 y.0.4)) ∷ raw ((clauses y.0.0 y.0.3).requires y.1) ∷ []) ∵
    split ! $ move ! (1 ∷ []) $ fsplit ! $ fsplit ! $ fields_apart Heap heap_lawful ghosts ! (shape (raw_box.the_type T Heap ghosts)) d.at d.alloc y.0.4.0 (λ h is fits.
    let w : Val = two (ptr_val d.at) h in let good = words_fit Heap heap_lawful d.at h fits in
    suffices ! (Run (w ∷ [])) (subst (λ (us : List Val). ent 𝓤 (Run (w ∷ [])) (Run us)) (sym (ap (λ (us : List Val). us ++ []) is)) (id⊢ 𝓤 (Run (w ∷ [])))) $
    enter ! 𝓣.C 𝓣.Λ fn (w ∷ []) Post $ alloc_all ! (λ l. pass_all ! refl (good, tt) $
    sets ! (of_opd ! (get_in ! (fld ! refl (stop !)) (sub ! 0 refl (whole !)))) refl (ptr_fits d.at) $
    sets ! (of_opd ! (get_in ! (fld ! refl (stop !)) (sub ! 1 refl (whole !)))) refl fits $
    sets ! (agg ! (and_then ! (get ! refl) (and_then ! (get ! refl) (no_more !)))) refl good $
    -- [the allocator; the block; ..]
    move ! (1 ∷ 0 ∷ []) $ fields_together Heap heap_lawful ghosts ! (shape (slot.the_type T)) (held T d.alloc d.at (Some d.value)) d.at h d.alloc $
    returns ! (look_at ! 0 refl) $ free_all ! refl $
    suffices ! _ (ends_at 𝓛 ended stayed clauses y w (record { at = d.at; alloc = d.alloc; value = Some d.value }) (tt, tt) (tt, tt)) $ says ! refl $
    -- [the slot; nothing; the tokens; nothing]
    keep ! (0 ∷ 2 ∷ []) $ nothing ! $ nothing ! $ join ! $ move ! (2 ∷ []) $ done !)))
