-- What a handle owns, by cases: nothing at null, or the block of a box. Assumes `Logic`.
use Rattle.std.proofs.Common.{◌≡◌, ℕ, List, ◌∷◌, refl}
use seplogic.Ra.Ura.{Ura}
use mir.Raw.{raw as bare}
use base.Logic.{ent, guard, guard_i, via, snd∗}
use base.Fml.{Fml}
use types.Logic.{Logic, sem}
use types.Kit.{Item, Goal, Seq, ‵, given, ◌$◌, feq_l, use1, learn}
use contract.Monad.{fact_use}
use denote.RattleType.{RattleType}
use denote.Memory.{lone}
use denote.RawPtr.{Ptr, block_ptr, null_ptr, lies_at, Testable}
use denote.Param.Laws.{Laws}
use base.Fraction.{full_share}
use Rattle.std.specs.declared.option.Option.{Option}
use Rattle.std.specs.declared.option.Option.TheVariants.{None, Some}
use Rattle.std.specs.contracts.alloc.Global as heap
use Rattle.std.proofs.alloc.Global.TheLaws as heap_laws
use Rattle.std.specs.contracts.impls.GlobalAllocator.TheImpl.{ghosts}
use Rattle.std.proofs.GlobalToken.{dealloc_token-Testable}
use Rattle.c_forms.proofs.BoxApart.{block_of, in_its_block}
use Rattle.c_forms.specs.Held.{held}

abbrev pub Heap : RattleType
Heap = heap.the_row

abbrev pub heap_lawful : Laws Heap
heap_lawful = heap_laws.the_row_laws

module _ (T : RattleType) where
  abbrev pub block : Heap.Denot → Ptr → T.Denot → Fml
  block = block_of T Heap ghosts

  module _ {M : Type 1} {𝓤 : Ura M} (𝓛 : Logic 𝓤) (a : Heap.Denot) where
    -- a pointer to a block that may be freed may be compared with null
    tested : (p : Ptr) (x : T.Denot) → ent 𝓤 (sem 𝓛 (block a p x)) (guard 𝓤 (Testable p) (sem 𝓛 (block a p x)))
    tested p x =
        let frees = ghosts.dealloc_token a (bare (lone T.mir)) p in
        fact_use 𝓤 (Testable p) (via 𝓤 (sem 𝓛 frees) (snd∗ 𝓤 (sem 𝓛 (lies_at T full_share p x)) (sem 𝓛 frees)) (dealloc_token-Testable 𝓛 a (bare (lone T.mir)) p))
        (guard_i 𝓤 (Testable p) (sem 𝓛 (block a p x)))

  module _ {M : Type 1} {𝓤 : Ura M} {𝓛 : Logic 𝓤} {K : Type 0} {Γ : List (Item 𝓤)} {G : Goal 𝓤 𝓛.H} where
    pub held_by_case : K → (a : Heap.Denot) (p : Ptr) (s : Option T.Denot)
        → (p ≡ null_ptr → s ≡ None → Seq K 𝓛 Γ G)
        → ((b o : ℕ) (x : T.Denot) → p ≡ block_ptr b o → s ≡ Some x → Testable (block_ptr b o) → Seq K 𝓛 (‵ (block a (block_ptr b o) x) ∷ Γ) G)
        → Seq K 𝓛 (‵ (held T a p s) ∷ Γ) G
    held_by_case t a p None none some = feq_l t (λ null. none null refl)
    held_by_case t a p (Some x) none some = in_its_block T Heap ghosts t a p x (λ b o lies.
        use1 𝓛 (given (Testable (block_ptr b o)) (‵ (block a (block_ptr b o) x))) (tested 𝓛 a (block_ptr b o) x) $ learn t (λ test. some b o x lies refl test))
