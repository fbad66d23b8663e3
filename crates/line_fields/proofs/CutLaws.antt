-- Fields are read back as they were written.
use Rattle.std.proofs.Common.{◌≡◌, ℕ, zero, suc, ◌+◌, ◌-◌, ◌<◌, Bool, true, false, cond, nat_eq, ltb, eqb, List, [], ◌∷◌, ◌++◌, length, take, drop, get_or, Option, Some, None, option_map, refl, sym, ap, subst, ◌∙◌, arith, length-append, length-drop, drop-cons, add-one}
use Rattle.std.proofs.Math.Seq.{take-length, drop-append-add}
use Rattle.std.specs.Prelude.{position, not}
use Rattle.std.specs.List.{position_or_len, list_all}
use Rattle.std.specs.Str.{bytes_eq}
use Rattle.std.proofs.lemmas.List.{take_at, drop_at, take-append-drop, get_or-append_right, get_or_append_left, append-nil, length-take-le, get_or-take}
use Rattle.std.proofs.lemmas.List.Sums.{position_or_len_is, prefix_len-le-length}
use Rattle.std.proofs.lemmas.List.Quantifiers.{position-Some}
use Rattle.std.proofs.lemmas.Slice.Eq.{bytes_eq-Decides}
use Rattle.std.proofs.lemmas.Bool.{lt-ltb, ltb-false, eqb-true, ne_eqb, eq-eqb}
use Rattle.rt_base.proofs.Padding.{both as both_true}
use Rattle.line_fields.specs.Cuts.{◌>>=◌, word_of, field_of, next, word_is, done_of, cut_at, Lacks, Ends}

-- a slice from n on
pub rest_of : (n : ℕ) (bs : List ℕ) → take (length bs - n) (drop n bs) ≡ drop n bs
rest_of n bs = ap (λ m. take m (drop n bs)) (sym (length-drop n bs)) ∙ take-length (drop n bs)

-- ---- steps of reading

pub some_is : {A : Type 0} (x y : A) → Some x ≡ Some y → x ≡ y
some_is x y e = cc

pub none_some : {A : Type 0} (x : A) → None ≡ Some x → ⊥
none_some x e = cc

pub bind_some : {A B : Type 0} (o : Option A) (f : A → Option B) (y : B) → (o >>= f) ≡ Some y
    → (x : A) × (o ≡ Some x) × (f x ≡ Some y)
bind_some None f y e = absurd cc
bind_some (Some x) f y e = (x, refl, e)

map_some : {A B : Type 0} (f : A → B) (o : Option A) (y : B) → option_map f o ≡ Some y
    → (x : A) × (o ≡ Some x) × (f x ≡ y)
map_some f None y e = absurd cc
map_some f (Some x) y e = (x, refl, cc)

pub chosen : {A : Type 0} (b : Bool) (x : Option A) (y : A) → cond b x None ≡ Some y → (b ≡ true) × (x ≡ Some y)
chosen true x y e = (refl, e)
chosen false x y e = absurd (none_some y e)

-- ---- cuts

pub position_at : {X : Type 0} (p : X → Bool) (xs : List X) (k : ℕ) (d : X) → k < length xs → p (get_or xs k d) ≡ true
    → ((j : ℕ) → j < k → p (get_or xs j d) ≡ false) → position p xs ≡ Some k
position_at p xs k d lt here before =
    let at : position_or_len p xs ≡ k = position_or_len_is p xs k d (omega arith) before (λ _. here) in
    let inside : ltb k (length xs) ≡ true = lt-ltb k (length xs) lt in
    rw (at, inside) refl

first_of_rest : (byte : ℕ) (rest : List ℕ) (n : ℕ) → get_or (byte ∷ rest) (n - n) 0 ≡ byte
first_of_rest byte rest n = let none : n - n ≡ 0 = omega arith in rw none refl

after : (f : List ℕ) (byte : ℕ) (rest : List ℕ) → drop (length f + 1) (f ++ byte ∷ rest) ≡ rest
after f byte rest = drop-append-add f (byte ∷ rest) 1

here : (byte : ℕ) (f rest : List ℕ) → get_or (f ++ byte ∷ rest) (length f) 0 ≡ byte
here byte f rest =
    get_or-append_right f (byte ∷ rest) (length f) (length f) 0 refl (omega arith) ∙ first_of_rest byte rest (length f)

before : (byte : ℕ) (f rest : List ℕ) → Lacks byte f → (j : ℕ) → j < length f
    → nat_eq (get_or (f ++ rest) j 0) byte ≡ false
before byte f rest lacks j h = ne_eqb _ _ (λ same. lacks j h (sym (get_or_append_left f rest 0 j h) ∙ same))

pub cut_again : (byte : ℕ) (f rest : List ℕ) → Lacks byte f → cut_at byte (f ++ byte ∷ rest) ≡ Some (f, rest)
cut_again byte f rest lacks =
    let all = f ++ byte ∷ rest in
    let lt : length f < length all = omega (arith, length-append f (byte ∷ rest)) in
    let at : position (λ b. nat_eq b byte) all ≡ Some (length f) = position_at (λ b. nat_eq b byte) all (length f) 0 lt (eq-eqb _ _ (here byte f rest)) (before byte f (byte ∷ rest) lacks) in
    ap (option_map (λ (p : ℕ). (take p all, drop (p + 1) all))) at
    ∙ ap (λ (t : List ℕ). Some (t, drop (length f + 1) all)) (take_at f (byte ∷ rest) (length f) refl)
    ∙ ap (λ (t : List ℕ). Some (f, t)) (after f byte rest)

pub cut_takes : (byte : ℕ) (bs f rest : List ℕ) → cut_at byte bs ≡ Some (f, rest) → bs ≡ f ++ byte ∷ rest
cut_takes byte bs f rest e =
    let at = map_some (λ (p : ℕ). (take p bs, drop (p + 1) bs)) (position (λ b. nat_eq b byte) bs) (f, rest) e in
    let i = at.0 in
    let found = position-Some (λ b. nat_eq b byte) bs i 0 at.1 in
    let is : get_or bs i 0 ≡ byte = eqb-true _ _ found.1 in
    let lt : i < length bs = found.0 in
    let cut : bs ≡ take i bs ++ get_or bs i 0 ∷ drop (i + 1) bs = sym (take-append-drop i bs) ∙ ap (λ (t : List ℕ). take i bs ++ t) (rw (add-one, drop-cons bs i 0) refl) in
    cut ∙ ap (λ (b : ℕ). take i bs ++ b ∷ drop (i + 1) bs) is ∙ ap (λ (p : List ℕ × List ℕ). p.0 ++ byte ∷ p.1) at.2

pub cut_lacks : (byte : ℕ) (bs f rest : List ℕ) → cut_at byte bs ≡ Some (f, rest) → Lacks byte f
cut_lacks byte bs f rest e =
    let at = map_some (λ (p : ℕ). (take p bs, drop (p + 1) bs)) (position (λ b. nat_eq b byte) bs) (f, rest) e in
    let i = at.0 in
    let found = position-Some (λ b. nat_eq b byte) bs i 0 at.1 in
    let is : take i bs ≡ f = ap (λ (p : List ℕ × List ℕ). p.0) at.2 in
    let size : length (take i bs) ≡ i = length-take-le i bs (omega (arith, found.0)) in
    subst (Lacks byte) is (λ j lt same. let other : nat_eq (get_or bs j 0) byte ≡ false = found.2 j (omega arith) in absurd (cc (other, eq-eqb (get_or bs j 0) byte (sym (get_or-take i bs j 0 (omega arith)) ∙ same))))

-- where there is none, all stands before it
none_at : {X : Type 0} (p : X → Bool) (xs : List X) (test : Bool) → ltb (position_or_len p xs) (length xs) ≡ test
    → cond test (Some (position_or_len p xs)) None ≡ None → length xs ≡ position_or_len p xs
none_at p xs true e none = absurd (none_some _ (sym none))
none_at p xs false e none = omega (arith, prefix_len-le-length (λ x. not (p x)) xs, ltb-false _ _ e)

pub none_found : {X : Type 0} (p : X → Bool) (xs : List X) → position p xs ≡ None → length xs ≡ position_or_len p xs
none_found p xs none = none_at p xs (ltb (position_or_len p xs) (length xs)) refl none

-- ---- words and fields

pub word_takes : (bs : List ℕ) → bs ≡ (word_of bs).0 ++ (word_of bs).1
unfolding word_of
word_takes bs = sym (take-append-drop (position_or_len (λ b. nat_eq b 32) bs) bs)

word_len : (w rest : List ℕ) → Lacks 32 w → Ends rest → position_or_len (λ b. nat_eq b 32) (w ++ rest) ≡ length w
word_len w [] lacks ends =
    position_or_len_is (λ b. nat_eq b 32) (w ++ []) (length w) 0 (omega (arith, length-append w [])) (before 32 w [] lacks) (λ (lt : length w < length (w ++ [])). absurd (omega (arith, length-append w [])))
word_len w (b ∷ rest) lacks ends =
    position_or_len_is (λ c. nat_eq c 32) (w ++ b ∷ rest) (length w) 0 (omega (arith, length-append w (b ∷ rest))) (before 32 w (b ∷ rest) lacks) (λ _. eq-eqb _ _ (here b w rest ∙ ends))

pub word_again : (w rest : List ℕ) → Lacks 32 w → Ends rest → word_of (w ++ rest) ≡ (w, rest)
unfolding word_of
word_again w rest lacks ends =
    let at = word_len w rest lacks ends in
    rw at (ap (λ (t : List ℕ). (t, drop (length w) (w ++ rest))) (take_at w rest (length w) refl) ∙ ap (λ (t : List ℕ). (w, t)) (drop_at w rest (length w) refl))

pub field_takes : (bs w rest : List ℕ) → field_of bs ≡ Some (w, rest) → bs ≡ 32 ∷ (w ++ rest)
unfolding field_of
field_takes [] w rest e = absurd (none_some (w, rest) e)
field_takes (b ∷ bs) w rest e =
    let t = chosen (nat_eq b 32) (Some (word_of bs)) (w, rest) e in
    let is : b ≡ 32 = eqb-true b 32 t.0 in
    let parts : word_of bs ≡ (w, rest) = some_is _ _ t.1 in
    ap (λ (c : ℕ). c ∷ bs) is
    ∙ ap (λ (r : List ℕ). 32 ∷ r) (word_takes bs ∙ ap (λ (p : List ℕ × List ℕ). p.0 ++ p.1) parts)

pub field_again : (w rest : List ℕ) → Lacks 32 w → Ends rest → field_of (32 ∷ (w ++ rest)) ≡ Some (w, rest)
unfolding field_of
field_again w rest lacks ends = ap (λ (p : List ℕ × List ℕ). Some p) (word_again w rest lacks ends)

-- ---- what a field is read as

-- what is read from a word is written so, and fits
abbrev pub Takes : {A : Type 0} → (A → Type 0) → (A → List ℕ) → (List ℕ → Option A) → Type 0
Takes {A} Fits print read = (w : List ℕ) (a : A) → read w ≡ Some a → Fits a × (print a ≡ w)

-- the field, and how reading goes on
pub record Step {A B : Type 0} (Fits : A → Type 0) (print : A → List ℕ) (bs : List ℕ) (k : A × List ℕ → Option B) (y : B) : Type 0 where
  pub got : A
  pub rest : List ℕ
  pub fits : Fits got
  pub line : bs ≡ 32 ∷ (print got ++ rest)
  pub more : k (got, rest) ≡ Some y

pub take_step : {A B : Type 0} (Fits : A → Type 0) (print : A → List ℕ) (read : List ℕ → Option A)
    → Takes Fits print read → (bs : List ℕ) (k : A × List ℕ → Option B) (y : B) → (next read bs >>= k) ≡ Some y
    → Step Fits print bs k y
unfolding next
take_step Fits print read law bs k y e =
    let n = bind_some (field_of bs >>= λ f. read f.0 >>= λ a. Some (a, f.1)) k y e in
    let f = bind_some (field_of bs) (λ f. read f.0 >>= λ a. Some (a, f.1)) n.0 n.1 in
    let a = bind_some (read f.0.0) (λ a. Some (a, f.0.1)) n.0 f.2 in
    let t = law f.0.0 a.0 a.1 in
    let same : (a.0, f.0.1) ≡ n.0 = some_is _ _ a.2 in
    record {
      got = a.0;
      rest = f.0.1;
      fits = t.0;
      line = field_takes bs f.0.0 f.0.1 f.1 ∙ ap (λ (w : List ℕ). 32 ∷ (w ++ f.0.1)) (sym t.1);
      more = ap k same ∙ n.2;
    }

-- the last field
pub record Last {A B : Type 0} (Fits : A → Type 0) (print : A → List ℕ) (bs : List ℕ) (k : A → Option B) (y : B) : Type 0 where
  pub got : A
  pub fits : Fits got
  pub line : bs ≡ 32 ∷ print got
  pub more : k got ≡ Some y

pub done_takes : (bs : List ℕ) (x : Unit {0}) → done_of bs ≡ Some x → bs ≡ []
done_takes [] x e = refl
done_takes (b ∷ bs) x e = absurd (none_some x e)

pub take_last : {A B : Type 0} (Fits : A → Type 0) (print : A → List ℕ) (read : List ℕ → Option A)
    → Takes Fits print read → (bs : List ℕ) (k : A → Option B) (y : B)
    → (next read bs >>= λ p. done_of p.1 >>= λ _. k p.0) ≡ Some y → Last Fits print bs k y
take_last Fits print read law bs k y e =
    let s = take_step Fits print read law bs (λ p. done_of p.1 >>= λ _. k p.0) y e in
    let d = bind_some (done_of s.rest) (λ _. k s.got) y s.more in
    let none = done_takes s.rest d.0 d.1 in
    record {
      got = s.got;
      fits = s.fits;
      line = s.line ∙ ap (λ (r : List ℕ). 32 ∷ (print s.got ++ r)) none ∙ ap (λ (r : List ℕ). 32 ∷ r) (append-nil (print s.got));
      more = d.2;
    }

pub next_again : {A : Type 0} (read : List ℕ → Option A) (w rest : List ℕ) (a : A) → read w ≡ Some a → Lacks 32 w
    → Ends rest → next read (32 ∷ (w ++ rest)) ≡ Some (a, rest)
unfolding next
next_again read w rest a is lacks ends = rw (field_again w rest lacks ends, is) refl

pub next_last : {A : Type 0} (read : List ℕ → Option A) (w : List ℕ) (a : A) → read w ≡ Some a → Lacks 32 w
    → next read (32 ∷ w) ≡ Some (a, [])
next_last read w a is lacks =
    ap (λ (r : List ℕ). next read (32 ∷ r)) (sym (append-nil w)) ∙ next_again read w [] a is lacks tt

-- ---- a word that is given

pub given_takes : (v : List ℕ) → Takes (λ (u : Unit {0}). Unit {0}) (λ u. v) (word_is v)
unfolding word_is
given_takes v w u e = let t = chosen (bytes_eq w v) (Some tt) u e in (tt, sym ((bytes_eq-Decides w v).0 t.0))

pub given_again : (v : List ℕ) → word_is v v ≡ Some tt
unfolding word_is
given_again v = let same : bytes_eq v v ≡ true = (bytes_eq-Decides v v).1 refl in rw same refl

-- ---- bytes that a word lacks

not_and : (b : Bool) → not b ≡ true → b ≡ true → ⊥
not_and true e h = cc
not_and false e h = cc

-- a test of each byte, which computes at a word that is written out
pub lacks_test : (byte : ℕ) (bs : List ℕ) → list_all (λ b. not (eqb b byte)) bs ≡ true → Lacks byte bs
lacks_test byte [] e i lt = absurd (omega arith)
lacks_test byte (b ∷ bs) e zero lt =
    λ same. let t = both_true (not (eqb b byte)) (list_all (λ c. not (eqb c byte)) bs) e in not_and (eqb b byte) t.0 (eq-eqb b byte same)
lacks_test byte (b ∷ bs) e (suc i) lt =
    let t = both_true (not (eqb b byte)) (list_all (λ c. not (eqb c byte)) bs) e in lacks_test byte bs t.1 i (omega arith)

pub lacks_append : (byte : ℕ) (a b : List ℕ) → Lacks byte a → Lacks byte b → Lacks byte (a ++ b)
lacks_append byte [] b p q i lt = q i lt
lacks_append byte (x ∷ a) b p q zero lt = p zero (omega arith)
lacks_append byte (x ∷ a) b p q (suc i) lt = lacks_append byte a b (λ j h. p (suc j) (omega arith)) q i (omega arith)

-- ---- a word that the next field does not begin with

none_unless : {A : Type 0} (o : Option A) → ((x : A) → o ≡ Some x → ⊥) → o ≡ None
none_unless None never = refl
none_unless (Some x) never = absurd (never x refl)

-- a field that is a word begins with it
word_front : (want bs : List ℕ) (y : Unit {0} × List ℕ) → next (word_is want) bs ≡ Some y
    → (rest : List ℕ) × (bs ≡ 32 ∷ (want ++ rest))
unfolding next
word_front want bs y e =
    let f = bind_some (field_of bs) (λ f. word_is want f.0 >>= λ a. Some (a, f.1)) y e in
    let a = bind_some (word_is want f.0.0) (λ a. Some (a, f.0.1)) y f.2 in
    let t = given_takes want f.0.0 a.0 a.1 in
    (f.0.1, field_takes bs f.0.0 f.0.1 f.1 ∙ ap (λ (w : List ℕ). 32 ∷ (w ++ f.0.1)) (sym t.1))

pub too_short : (want bs : List ℕ) → length bs < length want + 1 → next (word_is want) bs ≡ None
too_short want bs few =
    none_unless (next (word_is want) bs) (λ y e.
    let f = word_front want bs y e in
    omega (arith, few, ap length f.1, length-append want f.0))

pub no_blank : (want bs : List ℕ) → (get_or bs 0 0 ≡ 32 → ⊥) → next (word_is want) bs ≡ None
no_blank want bs other =
    none_unless (next (word_is want) bs) (λ y e. other (ap (λ (l : List ℕ). get_or l 0 0) (word_front want bs y e).1))

pub other_front : (want bs : List ℕ) → bytes_eq (take (length want) (drop 1 bs)) want ≡ false → next (word_is want) bs ≡ None
other_front want bs other =
    none_unless (next (word_is want) bs) (λ y e.
    let f = word_front want bs y e in
    let front : take (length want) (drop 1 bs) ≡ want = ap (λ (l : List ℕ). take (length want) (drop 1 l)) f.1 ∙ take_at want f.0 (length want) refl in
    absurd (cc (other, (bytes_eq-Decides (take (length want) (drop 1 bs)) want).1 front)))
