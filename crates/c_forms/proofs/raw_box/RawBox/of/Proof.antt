-- `of` calls `Box::into_raw_with_allocator`, which answers the pointer and the allocator with the block, and makes the
-- struct of the two.
use Rattle.std.proofs.Common.{◌≡◌, List, [], ◌∷◌, ◌++◌, refl, sym, ap, ◌∙◌, subst}
use mir.Syntax.{Args, Fn, a_type, dcons, dnil}
use mir.Val.{Val, vptr}
use mir.MapTy.{inst_fn}
use base.Logic.{SProp, ent, id⊢}
use base.Fml.{ftrue, fsep, flft}
use prog.Wp.{WpFn}
use types.Kit.{Item, ‵, raw, ◌⊛◌, some, later, ◌$◌, ◌∵◌, !, qed, done, move, drop, split, split3, join, fsplit, fjoin, pick, suffices, use1, await, rewrite}
use types.Run.{stop, fld, of_opd, no_more, and_then, returns, enter}
use types.ByLocal.{alloc_all, pass_all, free_all, look_at, get, get_in, sets, lands_as}
use types.Part.{agg, sub, whole}
use contract.Monad.{fact}
use contract.Running.{tables}
use denote.Exit.{no}
use denote.RattleType.{RattleType, owns}
use denote.Signature.{types_at, plain}
use denote.Builtin.{RawPtr}
use denote.RawPtr.{Ptr, block_ptr, ptr_val}
use denote.Steps.{nothing, only, heard}
use denote.Param.{param, layout, bounded}
use denote.Param.Laws.{param_laws}
use denote.Struct.Tuple.{Tuple, tuple_type}
use denote.Struct.Declared.{shape}
use denote.Triple.Spec.{triple_of}
use denote.Triple.Table.{framed}
use denote.Triple.Call.{calls_at}
use denote.Triple.Walked.{Stays, stay_dropped, walk_of, says, ends_at}
use Rattle.std.proofs.alloc.Calls.{Goes-blank}
use Rattle.std.proofs.cell.Inside.{one}
use Rattle.std.proofs.raw_atomic.Walks.{proved_at}
use Rattle.std.specs.contracts.boxed.Box as box
use Rattle.std.proofs.boxed.Box.TheLaws as box_laws
use Rattle.std.specs.contracts.boxed.Box.into_raw_with_allocator as callee
use Rattle.std.proofs.boxed.Box.into_raw_with_allocator.Met.{met}
use Rattle.c_forms.proofs.BoxApart.{two, words_fit, fields_apart, block_of, in_its_block, Row, put_together}
use Rattle.c_forms.specs.contracts.raw_box.RawBox.of as f
use Rattle.c_forms.proofs.raw_box.RawBox.of.Statement.{statement}
use Rattle.c_forms.proofs.raw_box.RawBox.of.Code as code

pub of_spec : {M : Type 1} → statement M
of_spec 𝓤 𝓛 𝓜 𝓡 wired T' A' laws_T laws_A g d drop_T drop_A bound met_T met_A =
    let T : RattleType = param 0 T' in let A : RattleType = param 1 A' in let lawful = param_laws 1 A' laws_A in
    let Boxed : RattleType = box.the_row T A g in
    let ended = f.ended T' A' g d drop_T drop_A in let clauses = f.clauses T' A' g d drop_T drop_A 𝓛 𝓜.mem 𝓡.returns in
    let given : Args = bounded (a_type ∷ a_type ∷ []) (T', (A', tt)) (dcons d (dcons drop_T (dcons drop_A dnil))) in let fn : Fn = inst_fn given code.function in
    let stayed : Stays ended.signature.params ended.kept = (stay_dropped (plain (λ _. Boxed)) no, tt) in
    let 𝓣 = tables 𝓤 𝓛.H 𝓜 𝓡 𝓡.env in
    proved_at 𝓛 ended stayed clauses 𝓜 𝓡 (Goes-blank 𝓛 2 (plain (λ _. Boxed)) no (λ κs x w. tt), tt) (f.Key.name given) fn (code.unfolded 𝓤 𝓛.H 𝓜 𝓡 wired (T', (A', tt)) d drop_T drop_A) (λ y are.
    let κs = y.0.0 in let qs = y.0.1 in let b = y.0.3.0 in let a = b.alloc in let Post : Val → SProp 𝓤 = (walk_of 𝓛 ended stayed clauses).post y in
    let arg = one (layout Boxed) y.0.4.0 (((box_laws.the_field_loose T A g (param_laws 0 T' laws_T) lawful).lawful 𝓛).typed b y.0.4.0 are.0) in
    let w : Val = arg.0 in let alive : Item 𝓤 = ‵ (flft κs.0 qs.0) ⊛ ‵ (flft κs.1.0 qs.1.0) ⊛ ‵ ftrue in
    let Run : List Val → SProp 𝓤 = λ us. WpFn 𝓤 𝓛.H 𝓣.C 𝓣.Λ fn us Post in
    let Pair = Tuple (RawPtr ∷ A ∷ []) in let C = triple_of 𝓛 (callee.signature T' A' g d drop_A drop_T) (callee.spec T' A' g d drop_A drop_T 𝓛 𝓜.mem 𝓡.returns) in
    let z : C.Ghost = ((κs, qs, tt, (b, tt), (w ∷ [], tt)), tt) in
    qed 𝓛 ((alive ⊛ ‵ (owns (types_at ended.signature.params κs) y.0.3 y.0.4)) ∷ raw ((clauses κs y.0.3).requires y.1) ∷ []) ∵
    split ! $ move ! (1 ∷ []) $ fsplit ! $ rewrite ! 0 (λ (us : List Val). ‵ (Boxed.own_val b us)) arg.1 refl $
    fjoin ! $ move ! (1 ∷ 0 ∷ []) $ join ! $ join ! $ use1 𝓛 (raw (C.pre z)) (id⊢ 𝓤 _) $
    suffices ! (Run (w ∷ [])) (subst (λ (us : List Val). ent 𝓤 (Run (w ∷ [])) (Run us)) (sym (ap (λ (us : List Val). us ++ []) arg.1)) (id⊢ 𝓤 (Run (w ∷ [])))) $
    enter ! 𝓣.C 𝓣.Λ fn (w ∷ []) Post $ alloc_all ! (λ l. pass_all ! refl (arg.2, tt) $
    sets ! (of_opd ! (get ! refl)) refl arg.2 $
    calls_at ! (framed 𝓤 𝓛.H 𝓜 𝓣) C (met 𝓤 𝓛 𝓜 𝓡 (code.calls-std_alloc::boxed::Box::into_raw_with_allocator 𝓡.env wired) T' A' laws_T laws_A g d drop_A drop_T bound met_A met_T) z
    (and_then ! (get ! refl) (no_more !)) (λ v.
    use1 𝓛 (later (some (λ (r : Ptr × A.Denot). (alive ⊛ ‵ (Pair.own_val r (v ∷ []))) ⊛
    some (λ (_ : (Unit {0} × (Unit {0} × Unit {0})) × Unit {0}). ‵ (fsep (fsep ftrue (fsep ftrue ftrue)) ftrue) ⊛ (raw (fact 𝓤 (r.1 ≡ a)) ⊛ ‵ (block_of T A g a r.0 b.value)))))) (id⊢ 𝓤 _) $
    await ! tt $ pick ! (λ r. split ! $ move ! (1 ∷ []) $ pick ! (λ _. split3 ! $ drop ! $ heard ! (r.1 ≡ a) (λ same.
    in_its_block T A g ! a r.0 b.value (λ block offset lies. move ! (1 ∷ []) $ split ! $ move ! (1 ∷ []) $
    fields_apart A lawful g ! (shape (tuple_type (RawPtr ∷ A ∷ []))) r.0 r.1 (v ∷ []) (λ h is fits.
    rewrite ! 0 (λ (x : A.Denot). ‵ (A.own_val x (h ∷ []))) same refl $
    -- [the allocator; the tokens; the block; the locals]
    let good = words_fit A lawful (block_ptr block offset) h fits in let made : (Row T A g).Denot = record { at = block_ptr block offset; alloc = a; value = b.value } in
    lands_as ! (ap only (is ∙ ap (λ (p : Ptr). two (ptr_val p) h ∷ []) lies)) refl good $
    sets ! (of_opd ! (get_in ! (fld ! refl (stop !)) (sub ! 0 refl (whole !)))) refl (tt, tt) $
    sets ! (of_opd ! (get_in ! (fld ! refl (stop !)) (sub ! 1 refl (whole !)))) refl fits $
    sets ! (of_opd ! (get ! refl)) refl fits $
    sets ! (agg ! (and_then ! (get ! refl) (and_then ! (get ! refl) (no_more !)))) refl good $
    move ! (2 ∷ 0 ∷ []) $ put_together T A lawful g ! (block_ptr block offset) h a b.value $
    returns ! (look_at ! 0 refl) $ free_all ! refl $
    suffices ! _ (ends_at 𝓛 ended stayed clauses y (two (vptr block offset) h) made ((tt, (tt, tt)), tt) (tt, tt)) $ says ! refl $
    nothing ! $ nothing ! $ join ! $ move ! (2 ∷ []) $ done !))))))))
