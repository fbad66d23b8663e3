-- `into_box` hands the block and the allocator to `Box::from_raw`, and answers its box.
use Rattle.std.proofs.Common.{◌≡◌, List, [], ◌∷◌, ◌++◌, refl, sym, ap, subst}
use mir.Syntax.{Args, Fn, a_type, dcons, dnil}
use mir.Val.{Val, vptr}
use mir.MapTy.{inst_fn}
use base.Logic.{SProp, ent, id⊢}
use base.Fml.{ftrue, flft}
use prog.Wp.{WpFn}
use types.Kit.{Item, ‵, raw, ◌⊛◌, some, later, at_ret, ◌$◌, ◌∵◌, !, qed, done, move, drop, split, split3, join, fsplit, fjoin, pick, suffices, use1, await, feq_i}
use types.Run.{stop, fld, of_opd, no_more, and_then, first, blocks, exec, returns, enter}
use types.ByLocal.{alloc_all, pass_all, free_all, look_at, get, get_in, sets, lands_last, env}
use types.Part.{sub, whole}
use contract.BorrowLft.{◌⊑◌}
use contract.Monad.{fact}
use contract.Running.{tables}
use denote.Exit.{no}
use denote.RattleType.{RattleType, owns}
use denote.Laws.{Lawful, shows}
use denote.Signature.{types_at, plain}
use denote.RawPtr.{block_ptr}
use denote.Steps.{nothing, peeks, heard}
use denote.Param.{param, bounded}
use denote.Param.Laws.{param_laws}
use denote.Triple.Clauses.{Lasts, lasts}
use denote.Triple.Spec.{triple_of}
use denote.Triple.Table.{framed}
use denote.Triple.Call.{calls_at_last}
use denote.Triple.Walked.{Stays, stay_dropped, walk_of, says, ends_at}
use Rattle.std.proofs.alloc.Calls.{Goes-blank}
use Rattle.std.proofs.alloc.Shapes.{after}
use Rattle.std.proofs.raw_atomic.Walks.{proved_at}
use Rattle.std.specs.contracts.boxed.Box as box
use Rattle.std.proofs.boxed.Box.TheLaws as box_laws
use Rattle.std.specs.contracts.boxed.Box.from_raw as callee
use Rattle.std.proofs.boxed.Box.from_raw.Met.{met}
use Rattle.c_forms.proofs.BoxApart.{Row, two, words_fit, taken_apart}
use Rattle.c_forms.specs.contracts.raw_box.RawBox.into_box as f
use Rattle.c_forms.proofs.raw_box.RawBox.into_box.Statement.{statement}
use Rattle.c_forms.proofs.raw_box.RawBox.into_box.Code as code

pub into_box_spec : {M : Type 1} → statement M
into_box_spec 𝓤 𝓛 𝓜 𝓡 wired T' A' laws_T laws_A g d drop_T drop_A bound met_T met_A =
    let T : RattleType = param 0 T' in let A : RattleType = param 1 A' in let lawful = param_laws 1 A' laws_A in
    let Boxed : RattleType = box.the_row T A g in let box_lawful : Lawful 𝓛 Boxed = (box_laws.the_field_loose T A g (param_laws 0 T' laws_T) lawful).lawful 𝓛 in
    let ended = f.ended T' A' g d drop_T drop_A in let clauses = f.clauses T' A' g d drop_T drop_A 𝓛 𝓜.mem 𝓡.returns in
    let given : Args = bounded (a_type ∷ a_type ∷ []) (T', (A', tt)) (dcons d (dcons drop_T (dcons drop_A dnil))) in let fn : Fn = inst_fn given code.function in
    let stayed : Stays ended.signature.params ended.kept = (stay_dropped (plain (λ _. Row T A g)) no, tt) in
    let 𝓣 = tables 𝓤 𝓛.H 𝓜 𝓡 𝓡.env in
    proved_at 𝓛 ended stayed clauses 𝓜 𝓡 (Goes-blank 𝓛 2 (plain (λ _. Row T A g)) no (λ κs x w. tt), tt) (f.Key.name given) fn (code.unfolded 𝓤 𝓛.H 𝓜 𝓡 wired (T', (A', tt)) d drop_T drop_A) (λ y are.
    let κs = y.0.0 in let qs = y.0.1 in let this = y.0.3.0 in let Post : Val → SProp 𝓤 = (walk_of 𝓛 ended stayed clauses).post y in
    let Run : List Val → SProp 𝓤 = λ us. WpFn 𝓤 𝓛.H 𝓣.C 𝓣.Λ fn us Post in let alive : Item 𝓤 = ‵ (flft κs.0 qs.0) ⊛ ‵ (flft κs.1.0 qs.1.0) ⊛ ‵ ftrue in
    qed 𝓛 ((alive ⊛ ‵ (owns (types_at ended.signature.params κs) y.0.3 y.0.4)) ∷ raw ((clauses κs y.0.3).requires y.1) ∷ []) ∵
    split ! $ move ! (1 ∷ []) $ fsplit ! $ taken_apart T A lawful g ! this y.0.4.0 (λ b o h lies is fits.
    let p : List Val = vptr b o ∷ [] in let w : Val = two (vptr b o) h in let good = words_fit A lawful (block_ptr b o) h fits in
    let C = triple_of 𝓛 (callee.signature T' A' g d drop_A) (callee.spec T' A' g d drop_A 𝓛 𝓜.mem 𝓡.returns) in
    let z : C.Ghost = ((κs, qs, tt, (this.alloc, (block_ptr b o, tt)), (h ∷ [], (p, tt))), this.value) in
    -- [the block; the allocator; nothing; the tokens; the lifetimes' bounds]
    move ! (4 ∷ []) $ use1 𝓛 (raw (fact 𝓤 (κs.0 ⊑ T'.lives)) ⊛ raw (fact 𝓤 (κs.1.0 ⊑ A'.lives)) ⊛ ‵ ftrue) (id⊢ 𝓤 _) $ split3 ! $
    move ! (2 ∷ []) $ drop ! $ move ! (1 ∷ 2 ∷ []) $ join ! $ move ! (1 ∷ 0 ∷ []) $ join ! $
    -- [what the call requires; the allocator; nothing; the tokens]
    move ! (2 ∷ []) $ feq_i ! (List Val) p p refl $ fjoin ! $ move ! (2 ∷ 0 ∷ []) $ fjoin ! $ move ! (2 ∷ 0 ∷ []) $ join ! $ join ! $ use1 𝓛 (raw (C.pre z)) (id⊢ 𝓤 _) $
    suffices ! (Run (w ∷ [])) (subst (λ (us : List Val). ent 𝓤 (Run (w ∷ [])) (Run us)) (sym (ap (λ (us : List Val). us ++ []) is)) (id⊢ 𝓤 (Run (w ∷ [])))) $
    enter ! 𝓣.C 𝓣.Λ fn (w ∷ []) Post $ alloc_all ! (λ l. pass_all ! refl (good, tt) $
    sets ! (of_opd ! (get_in ! (fld ! refl (stop !)) (sub ! 0 refl (whole !)))) refl (tt, tt) $
    sets ! (of_opd ! (get_in ! (fld ! refl (stop !)) (sub ! 1 refl (whole !)))) refl fits $
    first ! $ blocks ! $ sets ! (of_opd ! (get ! refl)) refl fits $
    calls_at_last ! (framed 𝓤 𝓛.H 𝓜 𝓣) C (met 𝓤 𝓛 𝓜 𝓡 (code.calls-std_alloc::boxed::Box::from_raw 𝓡.env wired) T' A' laws_T laws_A g d drop_A bound met_A) z
    (and_then ! (get ! refl) (and_then ! (get ! refl) (no_more !))) (λ v. let last = callee.ended T' A' g d drop_A in
    use1 𝓛 (later (some (λ (r : Boxed.Denot). (alive ⊛ ‵ (Boxed.own_val r (v ∷ []))) ⊛
    some (λ (ls : Lasts last κs z.0.3). ‵ (lasts last κs z.0.3 ls) ⊛ (raw (fact 𝓤 (r.value ≡ this.value)) ⊛ raw (fact 𝓤 (r.alloc ≡ this.alloc))))))) (id⊢ 𝓤 _) $
    await ! tt $ pick ! (λ r. split ! $ move ! (1 ∷ []) $ pick ! (λ _. split3 ! $ drop ! $ heard ! (r.value ≡ this.value) (λ same. drop ! $ split ! $ move ! (1 ∷ []) $
    -- [the box; the tokens; the locals]
    peeks ! Boxed _ (shows 𝓛 Boxed) r (v ∷ []) (λ shown. let typed = (box_lawful.typed r (v ∷ []) shown).0 in
    lands_last ! refl typed $ exec ! 𝓣.C 𝓣.Λ (env fn.locals l) (after 3 fn.body) (at_ret _ Post) $
    sets ! (of_opd ! (get ! refl)) refl typed $
    returns ! (look_at ! 0 refl) $ free_all ! refl $
    suffices ! _ (ends_at 𝓛 ended stayed clauses y v r ((tt, (tt, tt)), tt) (tt, tt)) $ says ! same $
    nothing ! $ nothing ! $ join ! $ move ! (2 ∷ []) $ done !))))))))
