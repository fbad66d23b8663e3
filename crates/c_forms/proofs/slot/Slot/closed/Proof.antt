-- `closed` makes the struct of null and the allocator.
use Rattle.c_forms.proofs.Steps.{List, [], ◌∷◌, ◌++◌, refl, sym, ap, subst, a_type, Val, vnull, inst_fn, SProp, ent, id⊢, ftrue, flft, WpFn, Item, ‵, raw, ◌⊛◌, ◌$◌, ◌∵◌, !, qed, done, move, keep, split, fsplit, join, suffices, rewrite, feq_i, lit, no_more, and_then, returns, enter, alloc_all, pass_all, free_all, look_at, get, sets, agg, tables, RattleType, owns, types_at, plain, Ptr, null_ptr, nothing, param, layout, layouts, Stays, stay_dropped, walk_of, Goes-dropped, says, ends_at, shape, None, ghosts, one, proved_at, held}
use Rattle.c_forms.proofs.BoxApart.{two, words_fit, fields_together}
use Rattle.c_forms.proofs.Apart.{Heap, heap_lawful}
use Rattle.c_forms.specs.contracts.slot.Slot as slot
use Rattle.c_forms.specs.contracts.slot.Slot.closed as f
use Rattle.c_forms.proofs.slot.Slot.closed.Statement.{statement}
use Rattle.c_forms.proofs.slot.Slot.closed.Code as code

pub closed_spec : {M : Type 1} → statement M
closed_spec 𝓤 𝓛 𝓜 𝓡 wired T' laws_T =
    let T : RattleType = param 0 T' in let ended = f.ended T' in let clauses = f.clauses T' 𝓛 𝓜.mem 𝓡.returns in
    let given = layouts (a_type ∷ []) (T', tt) in let fn = inst_fn given code.function in let 𝓣 = tables 𝓤 𝓛.H 𝓜 𝓡 𝓡.env in
    let stayed : Stays ended.signature.params ended.kept = (stay_dropped (plain (λ _. Heap)) ended.kept.0, tt) in
    proved_at 𝓛 ended stayed clauses 𝓜 𝓡 (Goes-dropped 𝓛 1 (plain (λ _. Heap)) ended.kept.0 (λ κs x w. refl), tt) (f.Key.name given) fn (code.unfolded 𝓤 𝓛.H 𝓜 𝓡 wired (T', tt)) (λ y are.
    let a = y.0.3.0 in let Post : Val → SProp 𝓤 = (walk_of 𝓛 ended stayed clauses).post y in let Run : List Val → SProp 𝓤 = λ us. WpFn 𝓤 𝓛.H 𝓣.C 𝓣.Λ fn us Post in
    let arg = one (layout Heap) y.0.4.0 ((heap_lawful.lawful 𝓛).typed a y.0.4.0 are.0) in let h : Val = arg.0 in
    let alive : Item 𝓤 = ‵ (flft y.0.0.0 y.0.1.0) ⊛ ‵ ftrue in
    qed 𝓛 ((alive ⊛ ‵ (owns (types_at ended.signature.params y.0.0) y.0.3 y.0.4)) ∷ raw ((clauses y.0.0 y.0.3).requires y.1) ∷ []) ∵
    split ! $ move ! (1 ∷ []) $ fsplit ! $ rewrite ! 0 (λ (us : List Val). ‵ (Heap.own_val a us)) arg.1 refl $
    suffices ! (Run (h ∷ [])) (subst (λ (us : List Val). ent 𝓤 (Run (h ∷ [])) (Run us)) (sym (ap (λ (us : List Val). us ++ []) arg.1)) (id⊢ 𝓤 (Run (h ∷ [])))) $
    enter ! 𝓣.C 𝓣.Λ fn (h ∷ []) Post $ alloc_all ! (λ l. pass_all ! refl (arg.2, tt) $
    sets ! (agg ! (and_then ! (lit ! tt) (and_then ! (get ! refl) (no_more !)))) refl (words_fit Heap heap_lawful null_ptr h arg.2) $
    feq_i ! Ptr null_ptr null_ptr refl $ fields_together Heap heap_lawful ghosts ! (shape (slot.the_type T)) (held T a null_ptr None) null_ptr h a $
    returns ! (look_at ! 0 refl) $ free_all ! refl $
    suffices ! _ (ends_at 𝓛 ended stayed clauses y (two vnull h) (record { at = null_ptr; alloc = a; value = None }) (tt, tt) (tt, tt)) $ says ! refl $
    -- [the slot; nothing; the tokens; nothing]
    keep ! (0 ∷ 2 ∷ []) $ nothing ! $ nothing ! $ join ! $ move ! (2 ∷ []) $ done !))
