-- Each step of a turn keeps its rule.
use Rattle.std.proofs.Common.{◌≡◌, ℕ, zero, suc, ◌+◌, ◌%◌, ◌^◌, ◌<◌, ◌≤◌, ◌≢◌, Bool, true, false, ◌||◌, List, [], ◌∷◌, ◌++◌, length, get_or, set, Option, Some, sym, refl, ap, ◌∙◌, subst, inr, ⊎_elim, arith, if◌then◌else◌, nat_eq, eqb, le_refl, length-append, mod-eq_of_lt}
use mathlib.Core.Logic.{dite}
use native.Mathlib.Decide.{ℕ_discrete}
use mathlib.Core.Option.{some, none, some-injective, some-ne-none}
use mathlib.Core.Option as maybe
use prog.Atomic.{either}
use lib.ListN.{get_elem?}
use Rattle.atomic_table.specs.Table.{State, Me, Act, Valid, carried_after, keeps, takes, gives, step, stepped, Allows, Splits, Joins}
use Rattle.atomic_table.proofs.Lists.{at_snoc, at_longer, set_again, set_else, exchanged}
use Rattle.turn_cell.specs.declared.view.View.{View}
use Rattle.turn_cell.specs.Turn.{Begins, Heard, mark_number, below, total, weight, times_in, counted, unborn, starting, missing, taking, noting, draining, released, keeping, sibling, joined, spent, Fits, IsMarked, Kept, Unborn, Born, Holds, Starts, Gives, Adds, Drains, Looks, Tries}
use Rattle.turn_cell.proofs.Sums.{total-set, total-append, set_there, times-append, below_next}
use Rattle.turn_cell.proofs.Lists.{out, off, each_set, at_append, whole, longer, stand_longer, stand_note, stand_both, longer_is}

module _ {N : Type 0} where
  -- the sums where one view changes
  sum_same : (g : View N → ℕ) (views : List (View N)) (id : ℕ) (v w : View N) → get_elem? views id ≡ some v → g w ≡ g v → total g (set views id w) ≡ total g views
  sum_same g views id v w at same = let t = total-set g views id v w at in omega arith

  -- what holds of the view that a seat has, where its view changes to one that agrees
  has_set : (P : View N → Type 0) (views : List (View N)) (place id : ℕ) (v w : View N) → get_elem? views id ≡ some v → (P v → P w) → (u : View N) × (get_elem? views place ≡ some u) × P u → (u : View N) × (get_elem? (set views id w) place ≡ some u) × P u
  has_set P views place id v w at same h = dite (ℕ_discrete place id)
      (λ e. (w, subst (λ j. get_elem? (set views id w) j ≡ some w) (sym e) (set_there views id v w at), same (subst P (some-injective _ _ (sym h.1 ∙ (ap (get_elem? views) e ∙ at))) h.2)))
      (λ ne. (h.0, set_else views id place w ne ∙ h.1, h.2))

module _ {T N F : Type 0} (stands : T → List N → Type 0) (fixed : T → F) (first : T → ℕ) (origin : T) (start seats : ℕ) where
  abbrev V : Type 0
  V = View N

  abbrev Home : Type 0
  Home = maybe.Option (Option T)

  abbrev St : Type 0
  St = State (Option T) V

  abbrev M : Type 0
  M = Me (Option T) V

  abbrev Rule : St → Type 0
  Rule = Holds stands fixed first origin start seats

  abbrev K : ℕ → ℕ → Home → List V → List N → Type 0
  K = Kept stands fixed first origin start seats

  abbrev B : St → Type 0
  B = Born stands fixed first origin start seats

  pub born_of : (s : St) → Rule s → (id : ℕ) (v : V) → get_elem? s.views id ≡ some v → v.begun ≡ true → B s
  born_of s r id v at begun = ⊎_elim (λ (u : Unborn {N = N} stands fixed first origin start seats s). absurd (no id (subst (λ l. get_elem? l id ≡ some v) u.2 at))) (λ b. b) r
    where
      no : (j : ℕ) → get_elem? (unborn (first origin) seats ∷ []) j ≡ some v → ⊥
      no zero e = off begun (sym (ap (λ (u : V). u.begun) (some-injective _ _ e)))
      no (suc j) e = some-ne-none v (sym e)

  missed : (turn drained : ℕ) (home : Home) (views : List V) (history : List N) (id : ℕ) (v : V) → get_elem? views id ≡ some v → K turn drained home views history → K turn drained home (set views id (missing v)) history
  missed turn drained home views history id v at k = let f = k.each id v at in let w = missing v in record {
    holder = k.holder;
    marker = k.marker;
    began = k.began;
    each = each_set (Fits history turn k.holder drained k.marker) views id w
        (record { begun = f.begun; sees = f.sees; told = f.told; stand = f.stand; holds = f.holds; spent_is = f.spent_is; marked = f.marked; plain = f.plain; once = f.once; based = f.based })
        (λ j u _. k.each j u);
    free = k.free;
    held = λ n. has_set (λ u. u.holds ≡ true) views k.holder id v w at (λ h. h) (k.held n);
    mark = has_set (λ u. u.marked ≡ true) views k.marker id v w at (λ h. h) k.mark;
    weighs = sum_same weight views id v w at refl ∙ k.weighs;
    placed = λ place. ap (λ (n : ℕ). n + below place start) (sum_same (times_in place) views id v w at refl) ∙ k.placed place;
  }

  -- a view that holds the turn, or would where it is spent
  counted_is : (v : V) (drained n : ℕ) → (v.marked ≡ true → v.drained ≡ n) → (v.marked ≡ false → v.base ≡ n) → counted v ≡ n
  counted_is v drained n = go v.marked
    where
      go : (b : Bool) → (b ≡ true → v.drained ≡ n) → (b ≡ false → v.base ≡ n) → (if b then v.drained else v.base) ≡ n
      go true p q = p refl
      go false p q = q refl

  took : (drained now : ℕ) (home : Home) (views : List V) (history : List N) (id : ℕ) (v : V) → get_elem? views id ≡ some v → v.weight ≢ 0 → now ≡ drained → K 0 drained home views history
      → K 1 drained none (set views id (taking v history now)) history
  took drained now home views history id v at some_weight is k = let f = k.each id v at in let w = taking v history now in record {
    holder = id;
    marker = k.marker;
    began = k.began;
    each = each_set (Fits history 1 id drained k.marker) views id w
        (record { begun = f.begun; sees = whole history; told = f.told; stand = stand_longer v.mine v.seen history f.sees f.stand; holds = λ _. (refl, (λ e. absurd (omega arith)), refl, counted_is w drained drained (λ m. (f.marked m).1) (λ _. is)); spent_is = λ z. absurd (some_weight z); marked = f.marked; plain = f.plain; once = f.once; based = omega arith })
        (λ j u _ e. let g = k.each j u e in record { begun = g.begun; sees = g.sees; told = g.told; stand = g.stand; holds = λ h. absurd ((g.holds h).1 refl); spent_is = g.spent_is; marked = g.marked; plain = g.plain; once = g.once; based = g.based });
    free = λ e. absurd (omega arith);
    held = λ _. (w, set_there views id v w at, refl);
    mark = has_set (λ u. u.marked ≡ true) views k.marker id v w at (λ h. h) k.mark;
    weighs = sum_same weight views id v w at refl ∙ k.weighs;
    placed = λ place. ap (λ (n : ℕ). n + below place start) (sum_same (times_in place) views id v w at refl) ∙ k.placed place;
  }

  pub tries : (slots id : ℕ) (m : M) (told : Option T) → told ≡ Some origin → m.0.begun ≡ true → m.0.holds ≡ false → m.0.weight ≡ 1 → Allows Rule slots id m 0 (λ n. either (eqb n 0) 1 n) (Tries stands fixed first told (step slots 0 0 1 none) m)
  tries slots id m told told_is begun idle one s r _ at _ = let b = born_of s r id m.0 at begun in let n : ℕ = get_or s.words 0 0 in
      let turn_is : n ≡ b.0 = ap (λ l. get_or l 0 0) b.4 in
      exchanged n 0 1 (λ z. (w : V) × (a : Act (Option T)) × Valid s.homes m.1 a × Rule (stepped s 0 z id m.1 w a) × Tries stands fixed first told (step slots 0 0 1 none) m n (w, carried_after m.1 a))
      (λ e. let kept = subst (λ (t : ℕ). K t b.1 b.2 s.views b.3) (sym turn_is ∙ e) b.6 in let x = kept.free refl in let f = kept.each id m.0 at in (
        taking m.0 b.3 (first x.0),
        takes 0 (Some x.0),
        ap (λ l. get_elem? l 0) b.5 ∙ ap some x.1,
        inr (1, b.1, none, b.3, ap (λ l. set l 0 1) b.4, ap (λ l. set l 0 none) b.5, took b.1 (first x.0) b.2 s.views b.3 id m.0 at (λ z. absurd (omega arith)) x.4 kept),
        ((λ _. (x.0, b.3, refl, refl, counted_is (taking m.0 b.3 (first x.0)) b.1 (first x.0) (λ h. (f.marked h).1 ∙ sym x.4) (λ _. refl), (let l = f.based in let e = x.4 in omega arith), f.sees, x.2, λ o o_is. x.3 ∙ ap (λ t. fixed (out origin t)) (sym told_is ∙ o_is))), (λ ne. absurd (ne e))),
      ))
      (λ ne. (
        missing m.0,
        keeps,
        tt,
        inr (n, b.1, b.2, b.3, ap (λ l. set l 0 n) b.4, b.5, subst (λ (t : ℕ). K t b.1 b.2 (set s.views id (missing m.0)) b.3) (sym turn_is) (missed b.0 b.1 b.2 s.views b.3 id m.0 at b.6)),
        ((λ e. absurd (ne e)), (λ _. (refl, refl))),
      ))

  noted : (turn drained : ℕ) (home : Home) (views : List V) (history : List N) (id : ℕ) (v : V) (note : N) → get_elem? views id ≡ some v → v.holds ≡ true → K turn drained home views history
      → K turn drained home (set views id (noting v note)) (history ++ note ∷ [])
  noted turn drained home views history id v note at holds k = let f = k.each id v at in let w = noting v note in let mine = f.holds holds in let more = history ++ note ∷ [] in
      let long : length more ≡ length history + 1 = omega (arith, length-append history (note ∷ [])) in let began = k.began in record {
        holder = k.holder;
        marker = k.marker;
        began = omega arith;
        each = each_set (Fits more turn k.holder drained k.marker) views id w
            (record {
              begun = f.begun;
              sees = subst (λ l. Begins (v.seen ++ note ∷ []) (l ++ note ∷ [])) mine.2 (whole (v.seen ++ note ∷ []));
              told = λ i l e. longer l history note (f.told i l e);
              stand = stand_note v.mine v.seen note f.stand;
              holds = λ h. (mine.0, mine.1, ap (λ l. l ++ note ∷ []) mine.2, mine.3);
              spent_is = λ z. absurd (off holds (f.spent_is z).1);
              marked = f.marked;
              plain = f.plain;
              once = f.once;
              based = f.based;
            })
            (λ j u ne e. let g = k.each j u e in record { begun = g.begun; sees = longer u.seen history note g.sees; told = λ i l e'. longer l history note (g.told i l e'); stand = g.stand; holds = λ h. absurd (ne ((g.holds h).0 ∙ sym mine.0)); spent_is = g.spent_is; marked = g.marked; plain = g.plain; once = g.once; based = g.based });
        free = λ e. absurd (mine.1 e);
        held = λ n. has_set (λ u. u.holds ≡ true) views k.holder id v w at (λ h. h) (k.held n);
        mark = has_set (λ u. u.marked ≡ true) views k.marker id v w at (λ h. h) k.mark;
        weighs = sum_same weight views id v w at refl ∙ k.weighs;
        placed = λ place. let t = total-set (times_in place) views id v w at in let a = times-append place v.mine ((length v.seen, note) ∷ []) in let p = k.placed place in let b = below_next place (length history) in
            let same : length v.seen ≡ length history = ap length mine.2 in
            let here : below place (length more) ≡ below place (length history) + (if nat_eq place (length v.seen) then 1 else 0) = ap (below place) long ∙ (b ∙ ap (λ (n : ℕ). below place (length history) + (if nat_eq place n then 1 else 0)) (sym same)) in
            omega arith;
      }

  pub adds : (slots id : ℕ) (m : M) (note : N) (told : Option N) → told ≡ Some note → m.0.begun ≡ true → m.0.holds ≡ true → length m.0.seen + 1 < 2 ^ 64 → Allows Rule slots id m 1 (λ n. (n + 1) % 2 ^ 64) (Adds told (step slots 1 1 0 none) m)
  adds slots id m note told is begun holds room s r wide at _ = let b = born_of s r id m.0 at begun in let f = b.6.each id m.0 at in
      let n : ℕ = get_or s.words 1 0 in
      let count_is : n ≡ length b.3 = ap (λ l. get_or l 1 0) b.4 in
      let same : length m.0.seen ≡ length b.3 = ap length (f.holds holds).2 in
      let next : (n + 1) % 2 ^ 64 ≡ length (b.3 ++ note ∷ []) = mod-eq_of_lt (omega arith) ∙ omega (arith, length-append b.3 (note ∷ [])) in (
        noting m.0 note,
        keeps,
        tt,
        inr (b.0, b.1, b.2, b.3 ++ note ∷ [], ap (λ l. set l 1 ((n + 1) % 2 ^ 64)) b.4 ∙ ap (λ (c : ℕ). b.0 ∷ c ∷ b.1 ∷ []) next, b.5, noted b.0 b.1 b.2 s.views b.3 id m.0 note at holds b.6),
        (λ other told_is. (ap (λ o. noting m.0 (out note o)) (sym is ∙ told_is), refl)),
      )

  drew : (turn drained count : ℕ) (home : Home) (views : List V) (history : List N) (id : ℕ) (v : V) → get_elem? views id ≡ some v → v.holds ≡ true → v.marked ≡ true → K turn drained home views history
      → K turn (drained + count) home (set views id (draining v count)) history
  drew turn drained count home views history id v at holds marked k = let f = k.each id v at in let w = draining v count in let mine = f.holds holds in let has = f.marked marked in let now : v.drained + count ≡ drained + count = ap (λ (n : ℕ). n + count) has.1 in
      record {
        holder = k.holder;
        marker = k.marker;
        began = k.began;
        each = each_set (Fits history turn k.holder (drained + count) k.marker) views id w
            (record { begun = f.begun; sees = f.sees; told = f.told; stand = f.stand; holds = λ _. (mine.0, mine.1, mine.2, counted_is w drained (drained + count) (λ _. now) (λ p. absurd (off marked p))); spent_is = f.spent_is; marked = λ _. (has.0, now); plain = λ p. absurd (off marked p); once = f.once; based = let l = f.based in omega arith })
            (λ j u ne e. let g = k.each j u e in record { begun = g.begun; sees = g.sees; told = g.told; stand = g.stand; holds = λ h. absurd (ne ((g.holds h).0 ∙ sym mine.0)); spent_is = g.spent_is; marked = λ h. absurd (ne ((g.marked h).0 ∙ sym has.0)); plain = g.plain; once = g.once; based = let l = g.based in omega arith });
        free = λ e. absurd (mine.1 e);
        held = λ n. has_set (λ u. u.holds ≡ true) views k.holder id v w at (λ h. h) (k.held n);
        mark = has_set (λ u. u.marked ≡ true) views k.marker id v w at (λ h. h) k.mark;
        weighs = sum_same weight views id v w at refl ∙ k.weighs;
        placed = λ place. ap (λ (n : ℕ). n + below place start) (sum_same (times_in place) views id v w at refl) ∙ k.placed place;
      }

  pub drains : (slots id count : ℕ) (m : M) → m.0.begun ≡ true → m.0.holds ≡ true → m.0.marked ≡ true → m.0.drained + count < 2 ^ 64 → Allows Rule slots id m 2 (λ n. (n + count) % 2 ^ 64) (Drains (step slots 2 count 0 none) m)
  drains slots id count m begun holds marked room s r wide at _ = let b = born_of s r id m.0 at begun in let f = b.6.each id m.0 at in
      let n : ℕ = get_or s.words 2 0 in
      let drained_is : n ≡ b.1 = ap (λ l. get_or l 2 0) b.4 in
      let mine = (f.marked marked).1 in
      let next : (n + count) % 2 ^ 64 ≡ b.1 + count = mod-eq_of_lt (omega arith) ∙ omega arith in (
        draining m.0 count,
        keeps,
        tt,
        inr (b.0, b.1 + count, b.2, b.3, ap (λ l. set l 2 ((n + count) % 2 ^ 64)) b.4 ∙ ap (λ (c : ℕ). b.0 ∷ length b.3 ∷ c ∷ []) next, b.5, drew b.0 b.1 count b.2 s.views b.3 id m.0 at holds marked b.6),
        (refl, refl),
      )

  gave : (turn drained : ℕ) (home : Home) (views : List V) (history : List N) (id : ℕ) (v : V) (x : T) → get_elem? views id ≡ some v → v.holds ≡ true → stands x v.seen → fixed x ≡ fixed origin → first x ≡ counted v → K turn drained home views history
      → K 0 drained (some (Some x)) (set views id (released v)) history
  gave turn drained home views history id v x at holds fits same whole_first k = let f = k.each id v at in let w = released v in let mine = f.holds holds in record {
    holder = k.holder;
    marker = k.marker;
    began = k.began;
    each = each_set (Fits history 0 k.holder drained k.marker) views id w
        (record { begun = f.begun; sees = f.sees; told = f.told; stand = f.stand; holds = λ h. absurd (off h refl); spent_is = λ z. ((f.spent_is z).0, refl, (f.spent_is z).2); marked = f.marked; plain = f.plain; once = f.once; based = f.based })
        (λ j u ne e. let g = k.each j u e in record { begun = g.begun; sees = g.sees; told = g.told; stand = g.stand; holds = λ h. absurd (ne ((g.holds h).0 ∙ sym mine.0)); spent_is = g.spent_is; marked = g.marked; plain = g.plain; once = g.once; based = g.based });
    free = λ _. (x, refl, subst (stands x) mine.2 fits, same, whole_first ∙ mine.3);
    held = λ n. absurd (n refl);
    mark = has_set (λ u. u.marked ≡ true) views k.marker id v w at (λ h. h) k.mark;
    weighs = sum_same weight views id v w at refl ∙ k.weighs;
    placed = λ place. ap (λ (n : ℕ). n + below place start) (sum_same (times_in place) views id v w at refl) ∙ k.placed place;
  }

  gives_at : (slots id : ℕ) (v : V) (x : T) → v.begun ≡ true → v.holds ≡ true → stands x v.seen → fixed x ≡ fixed origin → first x ≡ counted v → Allows Rule slots id (v, (0, Some x) ∷ []) 0 (λ _. 0) (Gives (step slots 0 0 0 none) (v, (0, Some x) ∷ []))
  gives_at slots id v x begun holds fits same counted_first s r wide at _ = let b = born_of s r id v at begun in (
    released v,
    gives,
    tt,
    inr (0, b.1, some (Some x), b.3, ap (λ l. set l 0 0) b.4, ap (λ l. set l 0 (some (Some x))) b.5, gave b.0 b.1 b.2 s.views b.3 id v x at holds fits same counted_first b.6),
    (refl, refl),
  )

  pub gives_back : (slots id : ℕ) (m : M) (v : V) (x : T) → m ≡ (v, (0, Some x) ∷ []) → v.begun ≡ true → v.holds ≡ true → stands x v.seen → fixed x ≡ fixed origin → first x ≡ counted v → Allows Rule slots id m 0 (λ _. 0) (Gives (step slots 0 0 0 none) m)
  gives_back slots id m v x is begun holds fits same counted_first = subst (λ (y : M). Allows Rule slots id y 0 (λ _. 0) (Gives (step slots 0 0 0 none) y)) (sym is) (gives_at slots id v x begun holds fits same counted_first)

  pub looks : (slots id : ℕ) (m : M) → m.0.begun ≡ true → Allows Rule slots id m 1 (λ n. n) (Looks (step slots 1 0 0 none) m)
  looks slots id m begun s r wide at _ = let b = born_of s r id m.0 at begun in let n : ℕ = get_or s.words 1 0 in let count_is : n ≡ length b.3 = ap (λ l. get_or l 1 0) b.4 in
      let sees = (b.6.each id m.0 at).sees in let long : length b.3 ≡ length m.0.seen + length sees.0 = ap length sees.1 ∙ length-append m.0.seen sees.0 in (
        m.0,
        keeps,
        tt,
        inr (b.0, b.1, b.2, b.3, ap (λ l. set l 1 n) b.4 ∙ ap (λ (c : ℕ). b.0 ∷ c ∷ b.1 ∷ []) count_is, b.5, subst (λ vs. K b.0 b.1 b.2 vs b.3) (sym (set_again s.views id m.0 at)) b.6),
        (refl, refl, omega arith),
      )

  started : (views : List V) (past : List N) → stands origin past → length past ≡ start → 0 < seats → K 0 (first origin) (some (Some origin)) (starting (unborn (first origin) seats) past ∷ []) past
  started views past fits long some_seats = let w : V = starting (unborn (first origin) seats) past in record {
    holder = 0;
    marker = 0;
    began = omega arith;
    each = one w;
    free = λ _. (origin, refl, fits, refl, refl);
    held = λ n. absurd (n refl);
    mark = (w, refl, refl);
    weighs = omega arith;
    placed = λ place. let e = ap (below place) long in omega arith;
  }
    where
      one : (w : V) (j : ℕ) (u : V) → get_elem? (starting (unborn (first origin) seats) past ∷ []) j ≡ some u → Fits past 0 0 (first origin) 0 j u
      one w zero u e = subst (Fits past 0 0 (first origin) 0 0) (some-injective _ _ e)
          (record { begun = refl; sees = whole past; told = λ k l e'. absurd (some-ne-none l (sym e')); stand = λ k p e'. absurd (some-ne-none p (sym e')); holds = λ h. absurd (off h refl); spent_is = λ z. absurd (omega arith); marked = λ _. (refl, refl); plain = λ h. absurd (off refl h); once = refl; based = le_refl (first origin) })
      one w (suc j) u e = absurd (some-ne-none u (sym e))

  pub starts : (slots id : ℕ) (m : M) (past : List N) → m ≡ (unborn (first origin) seats, []) → stands origin past → length past ≡ start → 0 < seats → Allows Rule slots id m 0 (λ n. n) (Starts past (step slots 0 0 0 none) m)
  starts slots id m past is fits long some_seats s r wide at _ = let n : ℕ = get_or s.words 0 0 in let u : V = unborn (first origin) seats in let w : V = starting u past in
      let mine : m.0 ≡ u = ap (λ (x : M). x.0) is in
      ⊎_elim
      (λ (t : Unborn {N = N} stands fixed first origin start seats s).
      let free : n ≡ 0 = ap (λ l. get_or l 0 0) t.0 in
      let now : set s.views id w ≡ w ∷ [] = ap (λ l. set l id w) t.2 ∙ only id u w m.0 (subst (λ l. get_elem? l id ≡ some m.0) t.2 at) in (
        w,
        keeps,
        tt,
        inr (0, first origin, some (Some origin), past, ap (λ l. set l 0 n) t.0 ∙ (λ i. free i ∷ sym long i ∷ first origin ∷ []), t.1, subst (λ vs. K 0 (first origin) (some (Some origin)) vs past) (sym now) (started s.views past fits long some_seats)),
        (ap (λ (v : V). starting v past) (sym mine), refl),
      ))
      (λ (b : B s). absurd (off ((b.6.each id m.0 at).begun) (ap (λ (v : V). v.begun) mine)))
      r
    where
      only : (j : ℕ) (u w v : V) → get_elem? (u ∷ []) j ≡ some v → set (u ∷ []) j w ≡ w ∷ []
      only zero u w v e = refl
      only (suc j) u w v e = absurd (some-ne-none v (sym e))

  pub splits : (id : ℕ) (v : V) → v.begun ≡ true → 2 ≤ v.weight → Splits Rule id v (keeping v) (sibling v)
  splits id v begun heavy s r at = let b = born_of s r id v at begun in let k = b.6 in let f = k.each id v at in let w = keeping v in let x = sibling v in let views = s.views in let history = b.3 in
      inr (
        b.0,
        b.1,
        b.2,
        b.3,
        b.4,
        b.5,
        record {
          holder = k.holder;
          marker = k.marker;
          began = k.began;
          each = λ j u e. ⊎_elim
              (each_set (Fits history b.0 k.holder b.1 k.marker) views id w
              (record { begun = f.begun; sees = f.sees; told = f.told; stand = f.stand; holds = f.holds; spent_is = λ z. absurd (omega arith); marked = f.marked; plain = f.plain; once = f.once; based = f.based })
              (λ i y _. k.each i y) j u)
              (λ (is : x ≡ u). subst (Fits history b.0 k.holder b.1 k.marker j) is
              (record { begun = refl; sees = f.sees; told = λ i l e'. absurd (some-ne-none l (sym e')); stand = λ i p e'. absurd (some-ne-none p (sym e')); holds = λ h. absurd (off h refl); spent_is = λ z. absurd (omega arith); marked = λ h. absurd (off h refl); plain = λ _. refl; once = refl; based = f.based }))
              (at_snoc (set views id w) x u j e);
          free = k.free;
          held = λ n. let h = has_set (λ u. u.holds ≡ true) views k.holder id v w at (λ h. h) (k.held n) in (h.0, at_longer (set views id w) (x ∷ []) k.holder h.0 h.1, h.2);
          mark = let h = has_set (λ u. u.marked ≡ true) views k.marker id v w at (λ h. h) k.mark in (h.0, at_longer (set views id w) (x ∷ []) k.marker h.0 h.1, h.2);
          weighs = let t = total-set weight views id v w at in let a = total-append weight (set views id w) (x ∷ []) in let e = k.weighs in omega arith;
          placed = λ place. let t = sum_same (times_in place) views id v w at refl in let a = total-append (times_in place) (set views id w) (x ∷ []) in let p = k.placed place in omega arith;
        },
      )

  -- what another view has, where that view is neither of two that change
  has_apart : (P : V → Type 0) (views : List V) (place id other : ℕ) (v w x y : V) → get_elem? views id ≡ some v → get_elem? views other ≡ some w → ¬ P v → ¬ P w → (u : V) × (get_elem? views place ≡ some u) × P u
      → (u : V) × (get_elem? (set (set views id x) other y) place ≡ some u) × P u
  has_apart P views place id other v w x y at there no_v no_w h =
      let not_id : place ≢ id = λ e. no_v (subst P (some-injective _ _ (sym h.1 ∙ (ap (get_elem? views) e ∙ at))) h.2) in
      let not_other : place ≢ other = λ e. no_w (subst P (some-injective _ _ (sym h.1 ∙ (ap (get_elem? views) e ∙ there))) h.2) in
      (h.0, set_else (set views id x) other place y not_other ∙ (set_else views id place x not_id ∙ h.1), h.2)

  -- the mark, after two views were joined
  marks : (views : List V) (marker id other : ℕ) (v w x : V) → ¬ (other ≡ id) → get_elem? views id ≡ some v → get_elem? views other ≡ some w → x.marked ≡ (w.marked || v.marked) → IsMarked views marker → (w.marked ≡ true → other ≡ marker) → (v.marked ≡ true → id ≡ marker)
      → (now : ℕ) × IsMarked (set (set views id x) other spent) now × (x.marked ≡ true → id ≡ now) × ((j : ℕ) → j ≢ id → j ≢ other → j ≡ marker → j ≡ now)
  marks views marker id other v w x apart at there is mark theirs mine = go w.marked refl v.marked refl
    where
      here : get_elem? (set (set views id x) other spent) id ≡ some x
      here = set_else (set views id x) other id spent (λ e. apart (sym e)) ∙ set_there views id v x at

      go : (b : Bool) → w.marked ≡ b → (d : Bool) → v.marked ≡ d → (now : ℕ) × IsMarked (set (set views id x) other spent) now × (x.marked ≡ true → id ≡ now) × ((j : ℕ) → j ≢ id → j ≢ other → j ≡ marker → j ≡ now)
      go true wb d vd = (id, (x, here, is ∙ ap (λ t. t || v.marked) wb), (λ _. refl), (λ j _ ne e. absurd (ne (e ∙ sym (theirs wb)))))
      go false wb true vd = (id, (x, here, is ∙ (ap (λ t. t || v.marked) wb ∙ vd)), (λ _. refl), (λ j ne _ e. absurd (ne (e ∙ sym (mine vd)))))
      go false wb false vd = (marker, has_apart (λ u. u.marked ≡ true) views marker id other v w x spent at there (λ h. off h vd) (λ h. off h wb) mark, (λ h. absurd (off h (is ∙ (ap (λ t. t || v.marked) wb ∙ vd)))), (λ j _ _ e. e))

  or_plain : (a b : Bool) → (a || b) ≡ false → (a ≡ false) × (b ≡ false)
  or_plain true b e = absurd (off refl e)
  or_plain false b e = (refl, e)

  -- the number of the one that has the mark
  joins_number : (v w : V) (drained : ℕ) → (v.marked ≡ true → v.drained ≡ drained) → (w.marked ≡ true → w.drained ≡ drained) → (v.marked ≡ false → v.drained ≡ 0) → (w.marked ≡ false → w.drained ≡ 0) → (v.marked ≡ true → w.marked ≡ true → ⊥)
      → ((w.marked || v.marked) ≡ true → v.drained + w.drained ≡ drained) × ((w.marked || v.marked) ≡ false → v.drained + w.drained ≡ 0)
  joins_number v w drained v_has w_has v_plain w_plain one = go w.marked refl v.marked refl
    where
      go : (b : Bool) → w.marked ≡ b → (d : Bool) → v.marked ≡ d → ((b || d) ≡ true → v.drained + w.drained ≡ drained) × ((b || d) ≡ false → v.drained + w.drained ≡ 0)
      go true wb true vd = absurd (one vd wb)
      go true wb false vd = ((λ _. let p = w_has wb in let q = v_plain vd in omega arith), (λ e. absurd (off refl e)))
      go false wb true vd = ((λ _. let p = v_has vd in let q = w_plain wb in omega arith), (λ e. absurd (off refl e)))
      go false wb false vd = ((λ e. absurd (off e refl)), (λ _. let p = v_plain vd in let q = w_plain wb in omega arith))

  joins_once : (v w : V) → v.marks ≡ mark_number v.marked → w.marks ≡ mark_number w.marked → (v.marked ≡ true → w.marked ≡ true → ⊥)
      → v.marks + w.marks ≡ mark_number (w.marked || v.marked)
  joins_once v w v_has w_has one = go w.marked refl v.marked refl
    where
      go : (b : Bool) → w.marked ≡ b → (d : Bool) → v.marked ≡ d → v.marks + w.marks ≡ mark_number (b || d)
      go true wb true vd = absurd (one vd wb)
      go true wb false vd = let p = v_has ∙ ap mark_number vd in let q = w_has ∙ ap mark_number wb in omega arith
      go false wb true vd = let p = v_has ∙ ap mark_number vd in let q = w_has ∙ ap mark_number wb in omega arith
      go false wb false vd = let p = v_has ∙ ap mark_number vd in let q = w_has ∙ ap mark_number wb in omega arith

  heard_both : (v w : V) (history : List N) → Begins v.seen history → Begins w.seen history → Heard v.heard history → Heard w.heard history → Heard (v.seen ∷ w.seen ∷ (v.heard ++ w.heard)) history
  heard_both v w history a b p q zero l e = subst (λ s. Begins s history) (some-injective _ _ e) a
  heard_both v w history a b p q (suc zero) l e = subst (λ s. Begins s history) (some-injective _ _ e) b
  heard_both v w history a b p q (suc (suc k)) l e = ⊎_elim (λ left. p k l left) (λ t. q t.0 l t.1) (at_append v.heard w.heard k l e)

  pub joins : (id : ℕ) (v : V) (other : ℕ) (w : V) → v.begun ≡ true → v.holds ≡ false → w.holds ≡ false → v.weight ≢ 0 → Joins Rule id v other w (joined v w) spent
  joins id v other w begun v_idle w_idle heavy s r at apart after = let b = born_of s r id v at begun in let k = b.6 in let history = b.3 in let views = s.views in let x = joined v w in
      let there : get_elem? views other ≡ some w = sym (set_else views id other x apart) ∙ after in
      let f = k.each id v at in let g = k.each other w there in
      let m = marks views k.marker id other v w x apart at there refl k.mark (λ h. (g.marked h).0) (λ h. (f.marked h).0) in
      let not_both : v.marked ≡ true → w.marked ≡ true → ⊥ = λ p q. apart ((g.marked q).0 ∙ sym (f.marked p).0) in
      let n = joins_number v w b.1 (λ h. (f.marked h).1) (λ h. (g.marked h).1) f.plain g.plain not_both in
      let l = longer_is v.seen w.seen history f.sees g.sees in
      let vb = f.based in let wb = g.based in
      inr (
        b.0,
        b.1,
        b.2,
        b.3,
        b.4,
        b.5,
        record {
          holder = k.holder;
          marker = m.0;
          began = k.began;
          each = each_set (Fits history b.0 k.holder b.1 m.0) (set views id x) other spent
              (record { begun = refl; sees = (history, refl); told = λ i y e. absurd (some-ne-none y (sym e)); stand = λ i p e. absurd (some-ne-none p (sym e)); holds = λ h. absurd (off h refl); spent_is = λ _. (refl, refl, refl); marked = λ h. absurd (off h refl); plain = λ _. refl; once = refl; based = omega arith })
              (λ j u not_other e. each_set (λ i y. i ≢ other → Fits history b.0 k.holder b.1 m.0 i y) views id x
              (λ _. record { begun = refl; sees = l.0; told = heard_both v w history f.sees g.sees f.told g.told; stand = stand_both v.mine w.mine x.seen (stand_longer v.mine v.seen x.seen l.1 f.stand) (stand_longer w.mine w.seen x.seen l.2 g.stand); holds = λ h. absurd (off h refl); spent_is = λ z. absurd (heavy (omega arith)); marked = λ h. (m.2 h, n.0 h); plain = n.1; once = joins_once v w f.once g.once not_both; based = omega arith })
              (λ i y not_id e' apart'. let q = k.each i y e' in record { begun = q.begun; sees = q.sees; told = q.told; stand = q.stand; holds = q.holds; spent_is = q.spent_is; marked = λ h. (m.3 i not_id apart' (q.marked h).0, (q.marked h).1); plain = q.plain; once = q.once; based = q.based })
              j u e not_other);
          free = k.free;
          held = λ t. has_apart (λ u. u.holds ≡ true) views k.holder id other v w x spent at there (λ h. off h v_idle) (λ h. off h w_idle) (k.held t);
          mark = m.1;
          weighs = let p = total-set weight views id v x at in let q = total-set weight (set views id x) other w spent after in let e = k.weighs in omega arith;
          placed = λ place. let p = total-set (times_in place) views id v x at in let q = total-set (times_in place) (set views id x) other w spent after in let a = times-append place v.mine w.mine in let e = k.placed place in omega arith;
        },
      )
