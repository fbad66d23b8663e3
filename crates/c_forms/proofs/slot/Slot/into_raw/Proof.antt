-- `into_raw` tests the pointer, and makes a raw box of the two words where it is not null.
use Rattle.c_forms.proofs.Steps.{◌≡◌, List, [], ◌∷◌, ◌++◌, refl, sym, ap, ◌∙◌, subst, lit<, a_type, Val, vptr, vnull, vcons, vnil, inst_fn, SProp, ent, id⊢, ftrue, flft, WpFn, Item, ‵, raw, ◌⊛◌, at_ret, ◌$◌, ◌∵◌, !, qed, done, move, keep, split, fsplit, join, suffices, use0, use1, stop, fld, lit, of_opd, bin, no_more, and_then, first, branches, exec, returns, enter, alloc_all, pass_all, free_all, look_at, get, get_in, sets, sets_last, env, agg, sub, whole, live, tables, RattleType, owns, types_at, type_at, plain, Ptr, block_ptr, null_ptr, ptr_val, tests_null, nothing, param, layout, layouts, Stays, stay_dropped, walk_of, Goes-dropped, says, ends_at, shape, None, Some, ghosts, Some-of, none_of, after, Good, and_tt, proved_at}
use Rattle.c_forms.proofs.BoxApart.{Row, two, ptr_fits, words_fit, fields_apart, put_together}
use Rattle.c_forms.proofs.Apart.{Heap, heap_lawful, held_by_case}
use Rattle.c_forms.specs.contracts.slot.Slot as slot
use Rattle.c_forms.specs.contracts.slot.Slot.into_raw as f
use Rattle.c_forms.proofs.slot.Slot.into_raw.Statement.{statement}
use Rattle.c_forms.proofs.slot.Slot.into_raw.Code as code

pub into_raw_spec : {M : Type 1} → statement M
into_raw_spec 𝓤 𝓛 𝓜 𝓡 wired T' laws_T =
    let T : RattleType = param 0 T' in let Raw : RattleType = Row T Heap ghosts in let ended = f.ended T' in let clauses = f.clauses T' 𝓛 𝓜.mem 𝓡.returns in
    let given = layouts (a_type ∷ []) (T', tt) in let fn = inst_fn given code.function in let 𝓣 = tables 𝓤 𝓛.H 𝓜 𝓡 𝓡.env in let Out : RattleType = type_at ended.signature.result (T'.lives, tt) in
    let stayed : Stays ended.signature.params ended.kept = (stay_dropped (plain (λ _. slot.the_row T)) ended.kept.0, tt) in
    proved_at 𝓛 ended stayed clauses 𝓜 𝓡 (Goes-dropped 𝓛 1 (plain (λ _. slot.the_row T)) ended.kept.0 (λ κs x w. refl), tt) (f.Key.name given) fn (code.unfolded 𝓤 𝓛.H 𝓜 𝓡 wired (T', tt)) (λ y are.
    let this = y.0.3.0 in let Post : Val → SProp 𝓤 = (walk_of 𝓛 ended stayed clauses).post y in let Run : List Val → SProp 𝓤 = λ us. WpFn 𝓤 𝓛.H 𝓣.C 𝓣.Λ fn us Post in
    let alive : Item 𝓤 = ‵ (flft y.0.0.0 y.0.1.0) ⊛ ‵ ftrue in
    let runs : (p : Ptr) (h : Val) → y.0.4.0 ≡ two (ptr_val p) h ∷ [] → ent 𝓤 (Run (two (ptr_val p) h ∷ [])) (Run (y.0.4.0 ++ [])) =
    λ p h is. subst (λ (us : List Val). ent 𝓤 (Run (two (ptr_val p) h ∷ [])) (Run us)) (sym (ap (λ (us : List Val). us ++ []) is)) (id⊢ 𝓤 (Run (two (ptr_val p) h ∷ []))) in
    qed 𝓛 ((alive ⊛ ‵ (owns (types_at ended.signature.params y.0.0) y.0.3 y.0.4)) ∷ raw ((clauses y.0.0 y.0.3).requires y.1) ∷ []) ∵
    split ! $ move ! (1 ∷ []) $ fsplit ! $ fsplit ! $ fields_apart Heap heap_lawful ghosts ! (shape (slot.the_type T)) this.at this.alloc y.0.4.0 (λ h is fits. move ! (1 ∷ []) $
    held_by_case T ! this.alloc this.at this.value
    (λ null shut. let w : Val = two vnull h in let v : Val = live 0 vnil in let none : Good (layout Out) v = (tt, (record { fits = lit< tt }, tt)) in
    suffices ! (Run (w ∷ [])) (runs null_ptr h (is ∙ ap (λ (p : Ptr). two (ptr_val p) h ∷ []) null)) $
    enter ! 𝓣.C 𝓣.Λ fn (w ∷ []) Post $ alloc_all ! (λ l. pass_all ! refl (words_fit Heap heap_lawful null_ptr h fits, tt) $
    sets ! (of_opd ! (get_in ! (fld ! refl (stop !)) (sub ! 0 refl (whole !)))) refl (ptr_fits null_ptr) $
    sets ! (of_opd ! (get_in ! (fld ! refl (stop !)) (sub ! 1 refl (whole !)))) refl fits $
    sets ! (bin ! (get ! refl) (lit ! tt) tt) refl (tt, tt) $ first ! $ branches ! (get ! refl)
    (λ _. sets_last ! (agg ! (and_then ! (lit ! tt) (no_more !))) refl none $
    exec ! 𝓣.C 𝓣.Λ (env fn.locals l) (after 4 fn.body) (at_ret _ Post) $
    sets ! (of_opd ! (get ! refl)) refl none $
    -- [the allocator; nothing; the tokens; nothing; the locals]
    use0 𝓛 (‵ (Out.own_val None (v ∷ []))) (none_of 𝓛 Raw) $
    returns ! (look_at ! 0 refl) $ free_all ! refl $
    suffices ! _ (ends_at 𝓛 ended stayed clauses y v None (tt, tt) (tt, tt)) $ says ! shut $
    keep ! (0 ∷ 3 ∷ []) $ nothing ! $ nothing ! $ join ! $ move ! (2 ∷ []) $ done !)
    (λ not_null. absurd not_null)))
    (λ b o x lies holds test. let w : Val = two (vptr b o) h in let v : Val = live 1 (vcons w vnil) in let d : Raw.Denot = record { at = block_ptr b o; alloc = this.alloc; value = x } in
    let good = words_fit Heap heap_lawful (block_ptr b o) h fits in let some : Good (layout Out) v = (and_tt _ good.0, (record { fits = lit< tt }, (good.1, tt))) in
    suffices ! (Run (w ∷ [])) (runs (block_ptr b o) h (is ∙ ap (λ (p : Ptr). two (ptr_val p) h ∷ []) lies)) $
    enter ! 𝓣.C 𝓣.Λ fn (w ∷ []) Post $ alloc_all ! (λ l. pass_all ! refl (good, tt) $
    sets ! (of_opd ! (get_in ! (fld ! refl (stop !)) (sub ! 0 refl (whole !)))) refl (ptr_fits (block_ptr b o)) $
    sets ! (of_opd ! (get_in ! (fld ! refl (stop !)) (sub ! 1 refl (whole !)))) refl fits $
    sets ! (bin ! (get ! refl) (lit ! tt) (tests_null (block_ptr b o) test)) refl (tt, tt) $ first ! $ branches ! (get ! refl)
    (λ null. absurd null)
    (λ _. sets ! (agg ! (and_then ! (get ! refl) (and_then ! (get ! refl) (no_more !)))) refl good $
    sets_last ! (agg ! (and_then ! (lit ! tt) (and_then ! (get ! refl) (no_more !)))) refl some $
    exec ! 𝓣.C 𝓣.Λ (env fn.locals l) (after 4 fn.body) (at_ret _ Post) $
    sets ! (of_opd ! (get ! refl)) refl some $
    -- [the block; the allocator; nothing; the tokens; nothing; the locals]
    put_together T Heap heap_lawful ghosts ! (block_ptr b o) h this.alloc x $ use1 𝓛 (‵ (Out.own_val (Some d) (v ∷ []))) (Some-of 𝓛 Raw d w) $
    returns ! (look_at ! 0 refl) $ free_all ! refl $
    suffices ! _ (ends_at 𝓛 ended stayed clauses y v (Some d) (tt, tt) (tt, tt)) $ says ! holds $
    keep ! (0 ∷ 2 ∷ []) $ nothing ! $ nothing ! $ join ! $ move ! (2 ∷ []) $ done !)))))
