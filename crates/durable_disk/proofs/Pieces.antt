-- What the writes of a piece of records make of a file.
use Rattle.std.proofs.Common.{◌≡◌, ◌⊎◌, inl, inr, ⊎_elim, ℕ, suc, ◌+◌, ◌*◌, ◌<◌, ◌≤◌, List, [], ◌∷◌, ◌++◌, length, get_or, take, Option, Some, None, IfSome, IsSome, Result, Ok, Err, OnOk, sym, ◌∙◌, ap, subst, arith, length-append}
use Rattle.std.proofs.lemmas.List.{get_or_push, get_or_append_left, length_push, append_assoc, append-nil}
use Rattle.std.proofs.lemmas.Bool.{cases_lt, cases_eq}
use Rattle.durable_disk.specs.Images.{Written, Torn}
use Rattle.durable_disk.specs.Device.{AfterWrite, BothTold, Elapses, Follows, LeavesOnly, NoMore, Only}
use Rattle.durable_disk.proofs.Writes.{torn_whole}
use Rattle.durable_disk.specs.Records.{Reads, HasBodies, HasFirst}
use Rattle.durable_disk.specs.Standing.{EachLeft, IsSettled, IsStaging}
use Rattle.durable_disk.proofs.RecordMoments.{started, goes_on}
use Rattle.durable_disk.proofs.Calls.{each_told}

-- records that are read are bodies behind open gates
pub bodies_read : (file : List ℕ) (bodies : List (List ℕ)) → Reads file bodies → HasBodies file bodies (length bodies)
bodies_read file bodies r = record { gates = r.gates; each = r.each; wide = r.wide; shut = r.shut; there = r.there }

-- and where the gates of all of them are open, they are read
pub read_bodies : (file : List ℕ) (bodies : List (List ℕ)) (opened : ℕ) → length bodies ≤ opened → HasBodies file bodies opened → Reads file bodies
read_bodies file bodies opened enough has = record {
  gates = λ k h. has.gates k (omega (arith, h, enough));
  each = has.each;
  wide = has.wide;
  shut = has.shut;
  there = has.there;
}

-- a body is written behind others, with a closed gate behind it
module _ (file new : List ℕ) (all : List (List ℕ)) (opened : ℕ) (body bytes : List ℕ) (has : HasBodies file all opened) (few : opened ≤ length all) (wide : length body ≡ 255) (is : bytes ≡ body ++ 0 ∷ []) (w : Written (256 * length all + 1) bytes file new) where
  long : length bytes ≡ 256
  long = ap length is ∙ omega (arith, length-append body (0 ∷ []), wide)

  kept : (i : ℕ) → i < 256 * length all + 1 → get_or new i 0 ≡ get_or file i 0
  kept i h = w.others i (omega (arith, h, has.there)) (inl h)

  last : get_or new (256 * length (all ++ body ∷ [])) 0 ≡ 0
  last =
      ap (λ (k : ℕ). get_or new k 0) (omega (arith, length_push all body))
      ∙ w.range 255 (omega (arith, long))
      ∙ ap (λ (l : List ℕ). get_or l 255 0) is
      ∙ get_or_push body 0 0 255 wide

  here : (i : ℕ) → i < 255 → get_or new (256 * length all + 1 + i) 0 ≡ get_or body i 0
  here i low = w.range i (omega (arith, low, long)) ∙ ap (λ (l : List ℕ). get_or l i 0) is ∙ get_or_append_left body (0 ∷ []) 0 i (omega (arith, low, wide))

  old_body : (k : ℕ) → k < length all → get_or (all ++ body ∷ []) k [] ≡ get_or all k []
  old_body k h = get_or_append_left all (body ∷ []) [] k h

  new_body : (k : ℕ) → k ≡ length all → get_or (all ++ body ∷ []) k [] ≡ body
  new_body k at = get_or_push all body [] k (sym at)

  at_end : (k : ℕ) → k < length (all ++ body ∷ []) → length all ≤ k → k ≡ length all
  at_end k h high = omega (arith, h, high, length_push all body)

  pub body_put : HasBodies new (all ++ body ∷ []) opened
  body_put = record {
    gates = λ k h. kept (256 * k) (omega (arith, h, few)) ∙ has.gates k h;
    each = λ k h i low. ⊎_elim
        (λ old. kept (256 * k + 1 + i) (omega (arith, old, low)) ∙ has.each k old i low ∙ ap (λ (l : List ℕ). get_or l i 0) (sym (old_body k old)))
        (λ high. let at = at_end k h high in ap (λ (j : ℕ). get_or new (256 * j + 1 + i) 0) at ∙ here i low ∙ ap (λ (l : List ℕ). get_or l i 0) (sym (new_body k at)))
        (cases_lt k (length all));
    wide = λ k h. ⊎_elim (λ old. ap length (old_body k old) ∙ has.wide k old) (λ high. ap length (new_body k (at_end k h high)) ∙ wide) (cases_lt k (length all));
    shut = λ one. absurd (omega (arith, last, one));
    there = omega (arith, w.end, long, length_push all body);
  }

-- what is left of the write of a gate behind the open ones leaves the bodies
module _ (file c : List ℕ) (all : List (List ℕ)) (opened k : ℕ) (has : HasBodies file all opened) (after : opened ≤ k) (within : k < length all) (torn : Torn (256 * k) 1 file c) where
  same : (i : ℕ) → i < 256 * length all + 1 → (i < 256 * k) ⊎ (256 * k + 1 ≤ i) → get_or c i 0 ≡ get_or file i 0
  same i h out = torn.others i (omega (arith, h, has.there)) out

  beside : (j i : ℕ) → i < 255 → (256 * j + 1 + i < 256 * k) ⊎ (256 * k + 1 ≤ 256 * j + 1 + i)
  beside j i low = ⊎_elim (λ less. inl (omega (arith, less, low))) (λ more. inr (omega (arith, more))) (cases_lt j k)

  pub gate_torn : HasBodies c all opened
  gate_torn = record {
    gates = λ j h. same (256 * j) (omega (arith, h, after, within)) (inl (omega (arith, h, after))) ∙ has.gates j h;
    each = λ j h i low. same (256 * j + 1 + i) (omega (arith, h, low)) (beside j i low) ∙ has.each j h i low;
    wide = has.wide;
    shut = λ one. has.shut (sym (same (256 * length all) (omega arith) (inr (omega (arith, within)))) ∙ one);
    there = omega (arith, has.there, torn.no_shorter);
  }

-- and the gate is open once it is written
pub gate_open : (file new : List ℕ) (all : List (List ℕ)) (k : ℕ) → HasBodies file all k → k < length all → Written (256 * k) (1 ∷ []) file new → HasBodies new all (k + 1)
gate_open file new all k has within w =
    let kept = gate_torn file new all k k has (omega arith) within (torn_whole (256 * k) (1 ∷ []) file new (omega arith) w) in
    record {
      gates = λ j h. ⊎_elim (λ old. kept.gates j old) (λ at. ap (λ (n : ℕ). get_or new n 0) (omega (arith, at, h)) ∙ w.range 0 (omega arith)) (cases_lt j k);
      each = kept.each;
      wide = kept.wide;
      shut = kept.shut;
      there = kept.there;
    }

-- the first gate that is not known to be open is, or is not
module _ (c : List ℕ) (bodies : List (List ℕ)) (b : List ℕ) (more : List (List ℕ)) (has : HasBodies c (bodies ++ b ∷ more) (length bodies)) where
  further : get_or c (256 * length bodies) 0 ≡ 1 → HasBodies c ((bodies ++ b ∷ []) ++ more) (length (bodies ++ b ∷ []))
  further one = subst (λ (l : List (List ℕ)). HasBodies c l (length (bodies ++ b ∷ []))) (sym (append_assoc bodies (b ∷ []) more)) (record {
    gates = λ k h. ⊎_elim (λ old. has.gates k old) (λ at. ap (λ (n : ℕ). get_or c n 0) (omega (arith, at, h, length_push bodies b)) ∙ one) (cases_lt k (length bodies));
    each = has.each;
    wide = has.wide;
    shut = has.shut;
    there = has.there;
  })

  shut_here : (get_or c (256 * length bodies) 0 ≡ 1 → ⊥) → Reads c bodies
  shut_here off = record {
    gates = has.gates;
    each = λ k h i low. has.each k (omega (arith, h, length-append bodies (b ∷ more))) i low ∙ ap (λ (l : List ℕ). get_or l i 0) (get_or_append_left bodies (b ∷ more) [] k h);
    wide = λ k h. ap length (sym (get_or_append_left bodies (b ∷ more) [] k h)) ∙ has.wide k (omega (arith, h, length-append bodies (b ∷ more)));
    shut = off;
    there = omega (arith, has.there, length-append bodies (b ∷ more));
  }

-- bodies of which the first so many have open gates are read up to the first gate that is not open
pub first_read : (c : List ℕ) (bodies more : List (List ℕ)) → HasBodies c (bodies ++ more) (length bodies) → HasFirst bodies more c
first_read c bodies [] has = (0, omega arith, read_bodies c (bodies ++ []) (length bodies) (omega (arith, length-append bodies [])) has)
first_read c bodies (b ∷ more) has = ⊎_elim
    (λ one.
    let rest = first_read c (bodies ++ b ∷ []) more (further c bodies b more has one) in
    (suc rest.0, omega (arith, rest.1), subst (λ (l : List (List ℕ)). Reads c l) (append_assoc bodies (b ∷ []) (take rest.0 more)) rest.2))
    (λ off. (0, omega arith, subst (λ (l : List (List ℕ)). Reads c l) (sym (append-nil bodies)) (shut_here c bodies b more has off)))
    (cases_eq (get_or c (256 * length bodies) 0) 1)

-- What calls of a disk make of these.

-- after a write that keeps what each image has
pub kept_left : (P : List ℕ → Type 0) (Q : List ℕ → List ℕ → Type 0) (at n : ℕ) (seen later : Option (List ℕ)) (old new : List ℕ → Type 0) → ((d c : List ℕ) → P d → Torn at n d c → P c)
    → BothTold Q seen later → Follows (Torn at n) old new → EachLeft seen old P → EachLeft later new P
kept_left P Q at n None None old new keeps both follows each = tt
kept_left P Q at n None (Some g) old new keeps both follows each = absurd both
kept_left P Q at n (Some f) None old new keeps both follows each = absurd both
kept_left P Q at n (Some f) (Some g) old new keeps both follows each = λ c left. let from = follows c left in keeps from.0 c (each from.0 from.1) from.2

-- what a read gives once a body is written
pub put_done : {T E : Type 0} (r : Result T E) (at : ℕ) (body bytes : List ℕ) (seen later : Option (List ℕ)) (all : List (List ℕ)) (opened : ℕ) → at ≡ 256 * length all + 1 → opened ≤ length all
    → length body ≡ 255 → bytes ≡ body ++ 0 ∷ [] → BothTold (AfterWrite r at bytes) seen later → IfSome seen (λ file. HasBodies file all opened)
    → OnOk r (IfSome later (λ file. HasBodies file (all ++ body ∷ []) opened))
put_done (Err e) at body bytes seen later all opened here few wide is both has = tt
put_done (Ok t) at body bytes None None all opened here few wide is both has = tt
put_done (Ok t) at body bytes None (Some g) all opened here few wide is both has = absurd both
put_done (Ok t) at body bytes (Some f) None all opened here few wide is both has = absurd both
put_done (Ok t) at body bytes (Some f) (Some g) all opened here few wide is both has =
    let w = both.written (omega (arith, ap length is, length-append body (0 ∷ []))) in
    body_put f g all opened body bytes has few wide is (subst (λ (a : ℕ). Written a bytes f g) here w)

-- what a read gives once a gate is written
pub open_done : {T : Type 0} (E : Type 0) (t : T) (at k : ℕ) (seen later : Option (List ℕ)) (all : List (List ℕ)) → at ≡ 256 * k → k < length all
    → BothTold (AfterWrite {T = T} {E = E} (Ok t) at (1 ∷ [])) seen later → IfSome seen (λ file. HasBodies file all k) → IfSome later (λ file. HasBodies file all (k + 1))
open_done E t at k None None all here within both has = tt
open_done E t at k None (Some g) all here within both has = absurd both
open_done E t at k (Some f) None all here within both has = absurd both
open_done E t at k (Some f) (Some g) all here within both has =
    let w : Written at (1 ∷ []) f g = both.written (omega arith) in
    gate_open f g all k has within (subst (λ (a : ℕ). Written a (1 ∷ []) f g) here w)

-- after a sync each image is what a read gives
pub synced_each : (P : List ℕ → Type 0) (seen : Option (List ℕ)) (outcomes : List ℕ → Type 0) → Only seen outcomes → IfSome seen P → EachLeft seen outcomes P
synced_each P None outcomes only has = tt
synced_each P (Some file) outcomes only has = λ c left. subst P (sym (only c left)) has

-- and where all gates are open, the log is at rest
pub synced_settled : (seen : Option (List ℕ)) (outcomes : List ℕ → Type 0) (all : List (List ℕ)) (opened : ℕ) → length all ≤ opened → Only seen outcomes → IfSome seen (λ file. HasBodies file all opened) → IsSettled seen outcomes all
synced_settled None outcomes all opened enough only has = tt
synced_settled (Some file) outcomes all opened enough only has = (read_bodies file all opened enough has, only)

-- with none of some more
pub none_first : (c : List ℕ) (bodies more : List (List ℕ)) → Reads c bodies → HasFirst bodies more c
none_first c bodies more r = (0, omega arith, subst (λ (l : List (List ℕ)). Reads c l) (sym (append-nil bodies)) r)

-- A piece: a sync behind the bodies, the gates, and a sync.
module _ {D : Type 0} (seen : D → Option (List ℕ)) (may_leave : D → List ℕ → Type 0) (moment : D → ℕ) (left_since : D → ℕ → List ℕ → Type 0) (bodies more : List (List ℕ)) (old mid : D)
    (staging : IsStaging (seen old) (may_leave old) bodies more) (told : IsSome (seen old)) (same : seen mid ≡ seen old) where
  -- until the first sync
  pub first_synced : ((c : List ℕ) → left_since old (moment old) c → may_leave old c) → NoMore (may_leave old) (may_leave mid)
      → Elapses (moment old) (moment mid) (left_since old) (left_since mid) (may_leave mid) → LeavesOnly moment left_since old mid (HasFirst bodies more)
  first_synced now fewer time =
      let here = each_told (seen old) (may_leave old) (λ f. Reads f bodies) told staging.1 in
      goes_on moment left_since old old mid (HasFirst bodies more) (may_leave mid)
      (started moment left_since old (HasFirst bodies more) (may_leave old) now (λ f left. none_first f bodies more (here f left)))
      time
      (λ f left. none_first f bodies more (here f (fewer f left)))

  -- the bodies after it
  pub bodies_synced : (k : ℕ) → k ≡ length bodies → IfSome (seen mid) (λ file. HasBodies file (bodies ++ more) k)
  bodies_synced k is = subst (λ (n : ℕ). IfSome (seen mid) (λ file. HasBodies file (bodies ++ more) n)) (sym is)
      (subst (λ s. IfSome s (λ file. HasBodies file (bodies ++ more) (length bodies))) (sym same) staging.0)

  pub mid_told : IsSome (seen mid)
  mid_told = subst (λ s. IsSome s) (sym same) told

pub first_by : (k : ℕ) (bodies more : List (List ℕ)) (c : List ℕ) → k ≡ length bodies → HasBodies c (bodies ++ more) k → HasFirst bodies more c
first_by k bodies more c is has = first_read c bodies more (subst (λ (n : ℕ). HasBodies c (bodies ++ more) n) is has)
