-- Numbers and texts, one by one.
use Rattle.std.proofs.Common.{◌≡◌, ℕ, ◌+◌, ◌*◌, ◌/◌, ◌≤◌, List, ◌++◌, ap, ◌∙◌, add-one, append_assoc, div-le_self}
use Rattle.std.proofs.lemmas.Nat.{mul-le}
use Rattle.txn_set.specs.Set.{Set}
use Rattle.picture_text.specs.Ages.{if_dated, dated_text}
use Rattle.picture_text.specs.Texts.{below, row_title}

-- a part is no more than the whole
pub quotient : (n m : ℕ) → n / m ≤ n
quotient n m = div-le_self n m

-- so many steps of this length
pub long : (i step : ℕ) → i ≤ 10000 → step ≤ 100 → i * step ≤ 1000000
long i step few short = mul-le i step 10000 100 few short

-- one text more
pub below_more : (f : ℕ → List ℕ) (before out new : List ℕ) (i : ℕ) → new ≡ out ++ f i → out ≡ before ++ below f i
    → new ≡ before ++ below f (i + 1)
below_more f before out new i is so =
    rw (add-one i) (is ∙ ap (λ (o : List ℕ). o ++ f i) so ∙ append_assoc before (below f i) (f i))

-- one item more
pub dated_more : (set : Set) (f : ℕ → List ℕ) (before out new : List ℕ) (i : ℕ) → new ≡ out ++ if_dated set f i
    → out ≡ before ++ dated_text set f i → new ≡ before ++ dated_text set f (i + 1)
dated_more set f before out new i is so =
    rw (add-one i) (is ∙ ap (λ (o : List ℕ). o ++ if_dated set f i) so ∙ append_assoc before (dated_text set f i) (if_dated set f i))

-- the title of a row by what is said of its transaction
pub same_title : (left prio prio' y y' : ℕ) (name name' : List ℕ) → name ≡ name' → prio ≡ prio' → y ≡ y'
    → row_title left name prio y ≡ row_title left name' prio' y'
same_title left prio prio' y y' name name' n p e =
    ap (λ (v : List ℕ). row_title left v prio y) n
    ∙ (ap (λ (v : ℕ). row_title left name' v y) p ∙ ap (λ (v : ℕ). row_title left name' prio' v) e)

-- a text and the one before it
pub back : (new mid old x y : List ℕ) → new ≡ mid ++ y → mid ≡ old ++ x → new ≡ old ++ (x ++ y)
back new mid old x y is so = is ∙ ap (λ (t : List ℕ). t ++ y) so ∙ append_assoc old x y
