-- Arrays that are sent by a loop.
use Rattle.std.proofs.Common.{◌≡◌, ℕ, suc, ◌+◌, ◌<◌, ◌≤◌, List, [], ◌∷◌, ◌++◌, length, get_or, drop, take, map, subst, zero, refl, sym, ap, ◌∙◌, arith}
use Rattle.std.proofs.lemmas.List.{append_assoc, append-nil, at_drop_more, at_drop_all, drop_more, drop_all, take_more, take_all, get_or_default}
use Rattle.std.proofs.lemmas.List.Elements.{All-append}
use Rattle.std.specs.List.{All}
use Rattle.item_model.specs.declared.decl.ItemDecl.{ItemDecl}
use Rattle.json.specs.Token.{begin_array, end_array}
use Rattle.json.specs.Written.{Written}
use Rattle.serde_json.specs.Data.{Data}
use Rattle.scenario_writer.specs.Canonical.{array_of, item_data, items_data}
use Rattle.scenario_writer.specs.Sent.{Adds, Sends, SendsItems}
use Rattle.scenario_writer.proofs.Sending.{no_items_sent, one_item, then_items, array_sent}

-- values that are sent in an array which began after `old`, before those that are left of all
pub record Begun (all left : List Data) (old now : Written) : Type 0 where
  pub opened : Written
  pub sent : List Data
  pub begins : Adds (begin_array ∷ []) old opened
  pub sends : SendsItems sent opened now
  pub same : sent ++ left ≡ all

pub begun : (all : List Data) (a b : Written) → Adds (begin_array ∷ []) a b → Begun all all a b
begun all a b h = record { opened = b; sent = []; begins = h; sends = no_items_sent b; same = refl }

-- some more values, with which begins what is left
pub more : (ds rest left all : List Data) (a b c : Written) → left ≡ ds ++ rest → Begun all left a b
    → SendsItems ds b c → Begun all rest a c
more ds rest left all a b c begins h g = record {
  opened = h.opened;
  sent = h.sent ++ ds;
  begins = h.begins;
  sends = then_items h.sent ds h.opened b c h.sends g;
  same = append_assoc h.sent ds rest ∙ ap (λ (es : List Data). h.sent ++ es) (sym begins) ∙ h.same;
}

pub one_more : (d : Data) (rest left all : List Data) (a b c : Written) → left ≡ d ∷ rest → Begun all left a b
    → Sends d b c → Begun all rest a c
one_more d rest left all a b c begins h g = more (d ∷ []) rest left all a b c begins h (one_item d b c g)

pub done : (left all : List Data) (a b c : Written) → left ≡ [] → Begun all left a b → Adds (end_array ∷ []) b c
    → Sends (array_of all) a c
done left all a b c ends h g =
    let same : h.sent ≡ all = sym (append-nil h.sent) ∙ ap (λ (es : List Data). h.sent ++ es) (sym ends) ∙ h.same in
    subst (λ (ds : List Data). Sends (array_of ds) a c) same (array_sent h.sent a h.opened b c h.begins h.sends g)

-- the same for the elements of a list
pub more_mapped : {A : Type 0} (f : A → Data) (xs : List A) (i : ℕ) (x : A) (all : List Data) (a b c : Written)
    → i < length xs → x ≡ get_or xs i x → Begun all (map f (drop i xs)) a b → Sends (f x) b c
    → Begun all (map f (drop (i + 1) xs)) a c
more_mapped {A = A} f xs i x all a b c lt at h g = one_more (f x) _ _ all a b c (at_drop_more (map f) xs i x lt
    ∙ ap (λ (y : A). f y ∷ map f (drop (i + 1) xs)) (sym at)) h g

pub more_mapped_at : {A : Type 0} (f : A → Data) (xs : List A) (i : ℕ) (e : A) (all : List Data) (a b c : Written)
    → i < length xs → Begun all (map f (drop i xs)) a b → Sends (f (get_or xs i e)) b c
    → Begun all (map f (drop (i + 1) xs)) a c
more_mapped_at f xs i e all a b c lt h g = more_mapped f xs i (get_or xs i e) all a b c lt (get_or_default xs i e
    (get_or xs i e) lt) h g

pub all_mapped : {A : Type 0} (f : A → Data) (xs : List A) (i : ℕ) (all : List Data) (a b c : Written)
    → length xs ≤ i → Begun all (map f (drop i xs)) a b → Adds (end_array ∷ []) b c → Sends (array_of all) a c
all_mapped f xs i all a b c le h g = done _ all a b c (at_drop_all (map f) xs i le) h g

-- a fact of the elements so far, and of one more
pub only : {A : Type 0} (P : A → Type 0) (x : A) → P x → All P (x ∷ [])
only P x p zero d lt = p
only P x p (suc k) d lt = absurd (omega arith)

pub more_hold : {A : Type 0} (P : A → Type 0) (xs : List A) (i : ℕ) (x : A) → i < length xs → x ≡ get_or xs i x
    → All P (take i xs) → P x → All P (take (i + 1) xs)
more_hold {A = A} P xs i x lt is so_far p =
    subst (λ (ys : List A). All P ys) (sym (take_more xs i x lt ∙ ap (λ (y : A). take i xs ++ y ∷ []) (sym is)))
    (All-append P (take i xs) (x ∷ []) so_far (only P x p))

pub all_hold : {A : Type 0} (P : A → Type 0) (xs : List A) (i : ℕ) → length xs ≤ i → All P (take i xs) → All P xs
all_hold {A = A} P xs i le h = subst (λ (ys : List A). All P ys) (take_all i xs le) h

-- the elements that are left
pub next : {A : Type 0} (xs : List A) (i : ℕ) (x : A) → i < length xs → x ≡ get_or xs i x
    → drop i xs ≡ x ∷ drop (i + 1) xs
next {A = A} xs i x lt is = drop_more xs i x lt ∙ ap (λ (y : A). y ∷ drop (i + 1) xs) (sym is)

pub more_hold_at : {A : Type 0} (P : A → Type 0) (xs : List A) (i : ℕ) (e : A) → i < length xs → All P (take i xs)
    → P (get_or xs i e) → All P (take (i + 1) xs)
more_hold_at P xs i e lt so_far p = more_hold P xs i (get_or xs i e) lt (get_or_default xs i e
    (get_or xs i e) lt) so_far p

-- the items that are left
pub next_item : (ns : List (List ℕ)) (ds : List ItemDecl) (i : ℕ) (n : List ℕ) (e : ItemDecl) → i < length ns
    → i < length ds
    → n ≡ get_or ns i n
    → items_data (drop i ns) (drop i ds) ≡ item_data n (get_or ds i e) ∷ items_data (drop (i + 1) ns) (drop (i + 1) ds)
next_item ns ds i n e a b f = rw (next ns i n a f, drop_more ds i e b) refl

pub no_items_left : (ns : List (List ℕ)) (ds : List ItemDecl) (i : ℕ) → length ns ≤ i
    → items_data (drop i ns) (drop i ds) ≡ []
no_items_left ns ds i le = ap (λ (ms : List (List ℕ)). items_data ms (drop i ds)) (drop_all i ns le)
