-- A `RawBox` is a struct of two words, its pointer and its allocator. Taken apart it is the block of the box and the
-- allocator, and of these two it is made. Assumes `Logic`.
use Rattle.std.proofs.Common.{◌≡◌, ℕ, List, [], ◌∷◌, ◌++◌, refl, ap, ◌∙◌, true, ◌&&◌, T, lit<}
use seplogic.Ra.Ura.{Ura}
use mir.Syntax.{impl, tnil, dnil}
use mir.Raw.{raw as bare}
use mir.Val.{Val, vptr, vstruct, vcons, vnil, of_list, has_ty, WT}
use base.Logic.{never, fst∗}
use base.Fml.{Fml, fsep}
use types.Logic.{Logic, sem}
use types.Kit.{Item, Goal, Seq, Step, step, ‵, ◌$◌, move, drop, fsplit, fjoin, fpick, fpack, feq_i, feq_l}
use denote.RattleType.{RattleType, Valss}
use denote.Builtin.{RawPtr}
use denote.RawPtr.{Ptr, block_ptr, null_ptr, ptr_val, in_a_block}
use denote.Steps.{nothing}
use denote.Memory.{lone}
use denote.Param.{layout}
use denote.Param.Laws.{Laws}
use denote.Struct.Struct.{Shape, Struct, within}
use denote.Struct.Owning.{shape}
use Rattle.std.specs.declared.alloc.Allocator.{Ghosts}
use Rattle.std.specs.Box.Ownership.{box_owns}
use Rattle.std.proofs.alloc.Calls.{Al, handle_tells}
use Rattle.std.proofs.cell.Inside.{Good}
use Rattle.std.proofs.ResultValues.{and_tt}
use Rattle.c_forms.specs.contracts.raw_box.RawBox as raw_box

-- the pointer's word beside the allocator's
abbrev pub two : Val → Val → Val
two p h = vstruct (vcons p (vcons h vnil))

-- a value of two fields, each of one word
pub as_two : {vs ps hs : List Val} {p h : Val} → vs ≡ vstruct (of_list (ps ++ (hs ++ []))) ∷ [] → ps ≡ p ∷ [] → hs ≡ h ∷ [] → vs ≡ two p h ∷ []
as_two {hs = hs} {p = p} whole first second =
    whole ∙ ap (λ (us : List Val). vstruct (of_list (us ++ (hs ++ []))) ∷ []) first ∙ ap (λ (us : List Val). vstruct (of_list (p ∷ (us ++ []))) ∷ []) second

pub ptr_fits : (p : Ptr) → Good (layout RawPtr) (ptr_val p)
ptr_fits (block_ptr b o) = (tt, tt)
ptr_fits null_ptr = (tt, record { fits = lit< tt })

module _ (A : RattleType) (laws : Laws A) where
  pub words_fit : (p : Ptr) (h : Val) → Good (layout A) h → T (has_ty (layout RawPtr) (ptr_val p) && (has_ty (layout A) h && true)) × WT (two (ptr_val p) h)
  words_fit (block_ptr b o) h fits = (and_tt (has_ty (layout A) h) fits.0, (tt, (fits.1, tt)))
  words_fit null_ptr h fits = (and_tt (has_ty (layout A) h) fits.0, (record { fits = lit< tt }, (fits.1, tt)))

  module _ (g : Ghosts A.Denot) {M : Type 1} {𝓤 : Ura M} {𝓛 : Logic 𝓤} {K : Type 0} {Γ : List (Item 𝓤)} {G : Goal 𝓤 𝓛.H} where
    -- a struct or a pair of a pointer and an allocator: what is left is what the allocator owns
    pub fields_apart : K → (s : Shape) (p : Ptr) (a : A.Denot) (vs : List Val)
        → ((h : Val) → vs ≡ two (ptr_val p) h ∷ [] → Good (layout A) h → Seq K 𝓛 (‵ (A.own_val a (h ∷ [])) ∷ Γ) G)
        → Seq K 𝓛 (‵ ((Struct (record s { fields = RawPtr ∷ A ∷ [] })).own_val (p, (a, tt)) vs) ∷ Γ) G
    fields_apart t s p a vs next =
        let allocator : Al = record { row = A; laws = laws; g = g; d = impl [] tnil dnil; drops = impl [] tnil dnil } in
        fpick t (λ words. fsplit t $ feq_l t (λ whole. fsplit t $ feq_l t (λ first. fsplit t $
        -- [the allocator; the end of the fields]
        handle_tells allocator t a words.1.0 (λ h second fits. move t (1 ∷ []) $ drop t $ next h (as_two whole first second) fits))))

    -- of [what the struct owns beside its fields; the allocator]
    pub fields_together : K → (s : Shape) (F : Fml) (p : Ptr) (h : Val) (a : A.Denot)
        → Step K 𝓛 (‵ (fsep ((Struct (record s { fields = RawPtr ∷ A ∷ [] })).own_val (p, (a, tt)) (two (ptr_val p) h ∷ [])) F) ∷ Γ) G (‵ F ∷ ‵ (A.own_val a (h ∷ [])) ∷ Γ) G
    fields_together t s F p h a = step (λ rest. let word : List Val = ptr_val p ∷ [] in let whole : List Val = two (ptr_val p) h ∷ [] in
        nothing t $ move t (2 ∷ 0 ∷ []) $ fjoin t $ feq_i t (List Val) word word refl $ fjoin t $ feq_i t (List Val) whole whole refl $ fjoin t $
        fpack t (Valss (RawPtr ∷ A ∷ [])) (within (record s { fields = RawPtr ∷ A ∷ [] }) (p, (a, tt)) whole) (word, (h ∷ [], tt)) $ fjoin t $ rest)

module _ (E A : RattleType) (g : Ghosts A.Denot) where
  abbrev pub Row : RattleType
  Row = raw_box.the_row E A g

  -- what a box owns beside its allocator: its value in memory, and the right to free the block
  abbrev pub block_of : A.Denot → Ptr → E.Denot → Fml
  block_of a p x = box_owns (g.dealloc_token a) E p x

  module _ {M : Type 1} {𝓤 : Ura M} {𝓛 : Logic 𝓤} {K : Type 0} {Γ : List (Item 𝓤)} {G : Goal 𝓤 𝓛.H} where
    -- nothing lies at null
    pub in_its_block : K → (a : A.Denot) (p : Ptr) (x : E.Denot) → ((b o : ℕ) → p ≡ block_ptr b o → Seq K 𝓛 (‵ (block_of a (block_ptr b o) x) ∷ Γ) G) → Seq K 𝓛 (‵ (block_of a p x) ∷ Γ) G
    in_its_block t a p x = in_a_block t p (λ q. block_of a q x) (fst∗ 𝓤 (never 𝓤) (sem 𝓛 (g.dealloc_token a (bare (lone E.mir)) null_ptr)))

module _ (E A : RattleType) (laws : Laws A) (g : Ghosts A.Denot) {M : Type 1} {𝓤 : Ura M} {𝓛 : Logic 𝓤} {K : Type 0} {Γ : List (Item 𝓤)} {G : Goal 𝓤 𝓛.H} where
  -- of [the block; the allocator]
  pub put_together : K → (p : Ptr) (h : Val) (a : A.Denot) (x : E.Denot)
      → Step K 𝓛 (‵ ((Row E A g).own_val (record { at = p; alloc = a; value = x }) (two (ptr_val p) h ∷ [])) ∷ Γ) G (‵ (block_of E A g a p x) ∷ ‵ (A.own_val a (h ∷ [])) ∷ Γ) G
  put_together t p h a x = fields_together A laws g t (shape (raw_box.the_type E A g)) (block_of E A g a p x) p h a

  -- [the block; the allocator]
  pub taken_apart : K → (d : (Row E A g).Denot) (vs : List Val)
      → ((b o : ℕ) (h : Val) → d.at ≡ block_ptr b o → vs ≡ two (vptr b o) h ∷ [] → Good (layout A) h
      → Seq K 𝓛 (‵ (block_of E A g d.alloc (block_ptr b o) d.value) ∷ ‵ (A.own_val d.alloc (h ∷ [])) ∷ Γ) G)
      → Seq K 𝓛 (‵ ((Row E A g).own_val d vs) ∷ Γ) G
  taken_apart t d vs next =
      fsplit t $ fields_apart A laws g t (shape (raw_box.the_type E A g)) d.at d.alloc vs (λ h is fits. move t (1 ∷ []) $
      in_its_block E A g t d.alloc d.at d.value (λ b o lies. next b o h lies (is ∙ ap (λ (p : Ptr). two (ptr_val p) h ∷ []) lies) fits))
