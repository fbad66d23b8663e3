-- What is known of a cell whose seats were joined into one.
use Rattle.std.proofs.Common.{◌≡◌, ℕ, zero, suc, ◌≤◌, ◌≢◌, max, Bool, true, false, List, [], ◌∷◌, ◌++◌, length, Option, Some, sym, refl, ap, ◌∙◌, subst, arith, le_refl}
use mathlib.Core.Logic.{dite}
use native.Mathlib.Decide.{ℕ_discrete}
use mathlib.Core.Option.{some, some-injective, some-ne-none}
use lib.ListN.{get_elem?}
use Rattle.atomic_table.specs.Table.{Final, Seen}
use Rattle.turn_cell.specs.declared.view.View.{View}
use Rattle.turn_cell.specs.Turn.{Begins, Heard, Stand, mark_number, total, times, weight, times_in, joined, Holds}
use Rattle.turn_cell.specs.Seats.{Gathered, Whole, MarkIsOne, drained_in, marks_in}
use Rattle.turn_cell.proofs.Sums.{term_le, terms_le, total-only, times-append}
use Rattle.turn_cell.proofs.Lists.{off, at_longer2, stand_longer, stand_left, stand_right}
use Rattle.turn_cell.proofs.Keeps.{born_of}

module _ {N : Type 0} where
  pub gathered_one : (v : View N) → v.begun ≡ true → v.holds ≡ false → v.weight ≡ 1 → MarkIsOne v → Gathered (v ∷ []) v
  gathered_one v begun idle one mark = record {
    begun = begun;
    idle = idle;
    any = omega arith;
    weighs = one;
    counts = λ place. omega arith;
    number = omega arith;
    marks = omega arith;
    single = single;
    lies = λ history a h s. at history a s;
    based = based;
  }
    where
      at : (history : List N) → Begins v.seen history → Stand v.mine history → (k : ℕ) (u : View N) → get_elem? (v ∷ []) k ≡ some u → Begins u.seen history × Stand u.mine history
      at history a s zero u e = subst (λ (x : View N). Begins x.seen history × Stand x.mine history) (some-injective _ _ e) (a, s)
      at history a s (suc k) u e = absurd (some-ne-none u (sym e))

      single : (k : ℕ) (u : View N) → get_elem? (v ∷ []) k ≡ some u → MarkIsOne u
      single zero u e = subst MarkIsOne (some-injective _ _ e) mark
      single (suc k) u e = absurd (some-ne-none u (sym e))

      based : (k : ℕ) (u : View N) → get_elem? (v ∷ []) k ≡ some u → u.base ≤ v.base
      based zero u e = subst (λ (x : View N). x.base ≤ v.base) (some-injective _ _ e) (le_refl v.base)
      based (suc k) u e = absurd (some-ne-none u (sym e))

  pub gathered_more : (views : List (View N)) (v w : View N) → Gathered views v → w.weight ≡ 1 → MarkIsOne w → Gathered (w ∷ views) (joined v w)
  gathered_more views v w g one mark = record {
    begun = refl;
    idle = refl;
    any = omega arith;
    weighs = let e = g.weighs in omega arith;
    counts = λ place. let e = g.counts place in let a = times-append place v.mine w.mine in omega arith;
    number = let e = g.number in omega arith;
    marks = let e = g.marks in omega arith;
    single = single;
    lies = lies;
    based = based;
  }
    where
      lies : (history : List N) → Begins (joined v w).seen history → Heard (joined v w).heard history → Stand (v.mine ++ w.mine) history → (k : ℕ) (u : View N) → get_elem? (w ∷ views) k ≡ some u → Begins u.seen history × Stand u.mine history
      lies history a h s zero u e = subst (λ (x : View N). Begins x.seen history × Stand x.mine history) (some-injective _ _ e) (h 1 w.seen refl, stand_right v.mine w.mine history s)
      lies history a h s (suc k) u e = g.lies history (h 0 v.seen refl) (λ i l e'. h (suc (suc i)) l (at_longer2 v.heard w.heard i l e')) (stand_left v.mine w.mine history s) k u e

      single : (k : ℕ) (u : View N) → get_elem? (w ∷ views) k ≡ some u → MarkIsOne u
      single zero u e = subst MarkIsOne (some-injective _ _ e) mark
      single (suc k) u e = g.single k u e

      based : (k : ℕ) (u : View N) → get_elem? (w ∷ views) k ≡ some u → u.base ≤ max v.base w.base
      based zero u e = subst (λ (x : View N). x.base ≤ max v.base w.base) (some-injective _ _ e) (omega arith)
      based (suc k) u e = let b = g.based k u e in omega arith

  -- where one mark is among the views, it is that of the one whose number is the sum of all
  pub marked_number : (views : List (View N)) → ((k : ℕ) (u : View N) → get_elem? views k ≡ some u → MarkIsOne u) → total marks_in views ≡ 1 → (k : ℕ) (u : View N) → get_elem? views k ≡ some u → u.marked ≡ true → u.drained ≡ total drained_in views
  marked_number views single one k u at marked = sym (total-only drained_in views k u at others)
    where
      mine : u.marks ≡ 1
      mine = (single k u at).0 ∙ ap mark_number marked

      unmarked : (b : Bool) → mark_number b ≡ 0 → b ≡ false
      unmarked true e = absurd (omega arith)
      unmarked false e = refl

      others : (j : ℕ) (w : View N) → j ≢ k → get_elem? views j ≡ some w → w.drained ≡ 0
      others j w ne e = let t = terms_le marks_in views k j u w ne at e in let m = single j w e in
          m.1 (unmarked w.marked (sym m.0 ∙ (let n = mine in omega arith)))

module _ {T N F : Type 0} (stands : T → List N → Type 0) (fixed : T → F) (first : T → ℕ) (origin : T) (start seats : ℕ) where
  abbrev V : Type 0
  V = View N

  -- no more were joined than the cell has
  pub at_most_all : (id : ℕ) (v : V) (words : List ℕ) (xs : List (Option T)) (views : List V) → Final (Seen (Holds stands fixed first origin start seats) id v) words xs → Gathered views v → length views ≤ seats
  at_most_all id v words xs views final g =
      let s = final.0 in let at = final.1.1 in let b = born_of stands fixed first origin start seats s final.1.0 id v at g.begun in let k = b.6 in
      let weighs = k.weighs in let heavy = g.weighs in let t = term_le weight s.views id v at in omega arith

  pub ends : (id : ℕ) (v : V) (words : List ℕ) (xs : List (Option T)) (views : List V) → Final (Seen (Holds stands fixed first origin start seats) id v) words xs → Gathered views v → seats ≤ length views
      → (x : T) × (get_elem? xs 0 ≡ some (Some x)) × Whole stands fixed first origin start x views
  ends id v words xs views final g enough =
      let s = final.0 in let at = final.1.1 in let b = born_of stands fixed first origin start seats s final.1.0 id v at g.begun in let k = b.6 in let f = k.each id v at in let history = b.3 in
      let weighs = k.weighs in let heavy = g.weighs in
      let light : (j : ℕ) (u : V) → j ≢ id → get_elem? s.views j ≡ some u → u.weight ≡ 0 = λ j u ne e. let t = terms_le weight s.views id j v u ne at e in omega arith in
      let free : b.0 ≡ 0 = dite (ℕ_discrete b.0 0) (λ e. e) (λ taken. let h = k.held taken in dite (ℕ_discrete k.holder id)
      (λ e. absurd (off h.2 (subst (λ (u : V). u.holds ≡ false) (some-injective _ _ (sym at ∙ (ap (get_elem? s.views) (sym e) ∙ h.1))) g.idle)))
      (λ ne. absurd (off h.2 (((k.each k.holder h.0 h.1).spent_is (light k.holder h.0 ne h.1)).1)))) in
      let marked : v.marked ≡ true = let h = k.mark in dite (ℕ_discrete k.marker id)
      (λ e. subst (λ (u : V). u.marked ≡ true) (some-injective _ _ (sym h.1 ∙ (ap (get_elem? s.views) e ∙ at))) h.2)
      (λ ne. absurd (off h.2 (((k.each k.marker h.0 h.1).spent_is (light k.marker h.0 ne h.1)).2))) in
      let x = k.free free in
      let one_mark : total marks_in views ≡ 1 = let o = f.once ∙ ap mark_number marked in let m = g.marks in omega arith in
      let based = f.based in let number = (f.marked marked).1 in let is = x.4 in let all = g.number in (
        x.0,
        final.4 0 (Some x.0) (ap (λ l. get_elem? l 0) b.5 ∙ ap some x.1),
        record {
          history = history;
          stood = x.2;
          same = x.3;
          began = k.began;
          each = λ i u e. let l = g.lies history f.sees f.told (stand_longer v.mine v.seen history f.sees f.stand) i u e in let c = g.based i u e in (l.0, l.1, omega arith);
          placed = λ place. let p = k.placed place in let o = total-only (times_in place) s.views id v at (λ j u ne e. ap (times place) ((k.each j u e).spent_is (light j u ne e)).0) in let c = g.counts place in omega arith;
          marked = one_mark;
          drained = λ i u e m. let d = marked_number views g.single one_mark i u e m in omega arith;
        },
      )
