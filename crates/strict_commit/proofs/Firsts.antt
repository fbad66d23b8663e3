-- The first in a list whose items rise is the first in item order.
use Rattle.std.proofs.Common.{◌≡◌, ℕ, zero, suc, ◌<◌, ◌≤◌, ◌==◌, Bool, true, false, cond, ◌||◌, List, [], ◌∷◌, Option, None, Some, IsTrue, refl, ap, sym, ◌∙◌, subst, arith}
use Rattle.std.proofs.lemmas.Bool.{eqb-true}
use Rattle.std.specs.Prelude.{IfSome}
use Rattle.std.specs.List.{find, list_any, All, cons_option}
use Rattle.std.specs.Option.{option_map_or}
use Rattle.rt_base.specs.declared.ids.ItemId.{ItemId}
use Rattle.item_model.specs.declared.decl.ItemDecl.{ItemDecl}
use Rattle.item_model.specs.declared.stored.OutsideRead.{OutsideRead}
use Rattle.item_model.specs.Work.{Work, read_of, reads_of, is_expired}
use Rattle.strict_commit.specs.Jobs.{AreInItemOrder, IsLeastOf, is_past}

items_above : (m : ℕ) (is : List ItemId) → All (λ k. m < k.0) is → (n : ℕ) → IsTrue (list_any (λ k. k.0 == n) is) → m < n
items_above m [] all n h = absurd cc
items_above m (k ∷ ks) all n h = at (k.0 == n) refl (items_above m ks (λ j d lt. all (suc j) d (omega arith)) n) h where
  at : (b : Bool) → (k.0 == n) ≡ b → (IsTrue (list_any (λ j. j.0 == n) ks) → m < n) → IsTrue (b || list_any (λ j. j.0 == n) ks) → m < n
  at true e rest h = let first : m < k.0 = all zero k (omega arith) in omega (arith, eqb-true k.0 n e)
  at false e rest h = rest h

least_here : (test : ℕ → Bool) (i : ItemId) (is : List ItemId) (n : ℕ) → AreInItemOrder (i ∷ is) → n ≡ i.0 → IsLeastOf test (i ∷ is) n
least_here test i is n rising e other among t = at (i.0 == other) refl (items_above i.0 is (λ k d lt. rising zero (suc k) d (omega arith) (omega arith)) other) among where
  at : (b : Bool) → (i.0 == other) ≡ b → (IsTrue (list_any (λ j. j.0 == other) is) → i.0 < other) → IsTrue (b || list_any (λ j. j.0 == other) is) → n ≤ other
  at true same rest h = omega (arith, eqb-true i.0 other same, e)
  at false same rest h = let above : i.0 < other = rest h in omega (arith, e)

least_later : (test : ℕ → Bool) (i : ItemId) (is : List ItemId) (n : ℕ) → test i.0 ≡ false → IsLeastOf test is n → IsLeastOf test (i ∷ is) n
least_later test i is n lacks least other among t = at (i.0 == other) refl (λ h. least other h t) among where
  at : (b : Bool) → (i.0 == other) ≡ b → (IsTrue (list_any (λ j. j.0 == other) is) → n ≤ other) → IsTrue (b || list_any (λ j. j.0 == other) is) → n ≤ other
  at true same rest h = absurd (let f : test other ≡ false = ap test (sym (eqb-true i.0 other same)) ∙ lacks in cc)
  at false same rest h = rest h

tail_rises : (i : ItemId) (is : List ItemId) → AreInItemOrder (i ∷ is) → AreInItemOrder is
tail_rises i is rising a b d lt within = rising (suc a) (suc b) d (omega arith) (omega arith)

if_some : {A : Type 0} (P Q : A → Type 0) (o : Option A) → ((x : A) → P x → Q x) → IfSome o P → IfSome o Q
if_some P Q None f h = h
if_some P Q (Some x) f h = f x h

least_at : (test : ℕ → Bool) (i : ItemId) (is : List ItemId) (b : Bool) → test i.0 ≡ b → AreInItemOrder (i ∷ is) → IfSome (find (λ k. test k.0) is) (λ k. IsLeastOf test is k.0)
    → IfSome (cond b (Some i) (find (λ k. test k.0) is)) (λ k. IsLeastOf test (i ∷ is) k.0)
least_at test i is true e rising rest = least_here test i is i.0 rising refl
least_at test i is false e rising rest = if_some (λ k. IsLeastOf test is k.0) (λ k. IsLeastOf test (i ∷ is) k.0) (find (λ k. test k.0) is) (λ k. least_later test i is k.0 e) rest

least_found : (test : ℕ → Bool) (is : List ItemId) → AreInItemOrder is → IfSome (find (λ k. test k.0) is) (λ k. IsLeastOf test is k.0)
least_found test [] rising = tt
least_found test (i ∷ is) rising = least_at test i is (test i.0) refl rising (least_found test is (tail_rises i is rising))

pub first_is_least : (test : ℕ → Bool) (is : List ItemId) (o : Option ItemId) → o ≡ find (λ k. test k.0) is → AreInItemOrder is → IfSome o (λ k. IsLeastOf test is k.0)
first_is_least test is o e rising = subst (λ (q : Option ItemId). IfSome q (λ k. IsLeastOf test is k.0)) (sym e) (least_found test is rising)

-- a read that is found is of the item that was looked for
found_item : (rs : List OutsideRead) (n : ℕ) (r : OutsideRead) → find (λ q. q.item.0 == n) rs ≡ Some r → r.item.0 ≡ n
found_item [] n r h = absurd cc
found_item (q ∷ qs) n r h = at (q.item.0 == n) refl (found_item qs n r) h where
  at : (b : Bool) → (q.item.0 == n) ≡ b → (find (λ q. q.item.0 == n) qs ≡ Some r → r.item.0 ≡ n) → cond b (Some q) (find (λ q. q.item.0 == n) qs) ≡ Some r → r.item.0 ≡ n
  at true e rest h = let same : q ≡ r = cc in ap (λ (k : OutsideRead). k.item.0) (sym same) ∙ eqb-true q.item.0 n e
  at false e rest h = rest h

module _ (decls : List ItemDecl) (work : Work) (tick : ℕ) where
  abbrev past : ℕ → Bool
  past n = is_past decls work tick n

  abbrev Firsts : List ItemId → Option OutsideRead → Type 0
  Firsts is o = IfSome o (λ r. IsLeastOf past is r.item.0)

  later : (i : ItemId) (is : List ItemId) → past i.0 ≡ false → Firsts is (find (is_expired decls tick) (reads_of work is)) → Firsts (i ∷ is) (find (is_expired decls tick) (reads_of work is))
  later i is lacks rest = if_some (λ r. IsLeastOf past is r.item.0) (λ r. IsLeastOf past (i ∷ is) r.item.0) (find (is_expired decls tick) (reads_of work is)) (λ r. least_later past i is r.item.0 lacks) rest

  read_at : (i : ItemId) (is : List ItemId) (r : OutsideRead) (b : Bool) → read_of work i.0 ≡ Some r → is_expired decls tick r ≡ b → AreInItemOrder (i ∷ is) → Firsts is (find (is_expired decls tick) (reads_of work is))
      → Firsts (i ∷ is) (cond b (Some r) (find (is_expired decls tick) (reads_of work is)))
  read_at i is r true e x rising rest = least_here past i is r.item.0 rising (found_item work.reads i.0 r e)
  read_at i is r false e x rising rest = later i is (ap (λ (o : Option OutsideRead). option_map_or (is_expired decls tick) o false) e ∙ x) rest

  item_at : (i : ItemId) (is : List ItemId) (o : Option OutsideRead) → read_of work i.0 ≡ o → AreInItemOrder (i ∷ is) → Firsts is (find (is_expired decls tick) (reads_of work is))
      → Firsts (i ∷ is) (find (is_expired decls tick) (cons_option o (reads_of work is)))
  item_at i is None e rising rest = later i is (ap (λ (o : Option OutsideRead). option_map_or (is_expired decls tick) o false) e) rest
  item_at i is (Some r) e rising rest = read_at i is r (is_expired decls tick r) e refl rising rest

  past_found : (is : List ItemId) → AreInItemOrder is → Firsts is (find (is_expired decls tick) (reads_of work is))
  past_found [] rising = tt
  past_found (i ∷ is) rising = item_at i is (read_of work i.0) refl rising (past_found is (tail_rises i is rising))

  pub past_is_least : (is : List ItemId) (r : OutsideRead) → Some r ≡ find (is_expired decls tick) (reads_of work is) → AreInItemOrder is → IsLeastOf (is_past decls work tick) is r.item.0
  past_is_least is r e rising = subst (Firsts is) (sym e) (past_found is rising)
