-- What calls of a disk leave of it that write within a range of bytes.
use Rattle.std.proofs.Common.{◌≡◌, inl, inr, ⊎_elim, ℕ, ◌+◌, ◌<◌, ◌≤◌, List, length, Option, Some, None, Result, Ok, Err, refl, sym, ◌∙◌, subst, arith}
use Rattle.std.proofs.lemmas.Bool.{cases_lt}
use Rattle.durable_disk.specs.Images.{Torn}
use Rattle.durable_disk.specs.Device.{AfterWrite, BothTold, Follows, NoMore, Elapses, WritesWithin}
use Rattle.durable_disk.proofs.Writes.{torn_none, torn_whole}

-- some of a write in a part of a range is some of one in the range
pub torn_wider : (at n at' n' : ℕ) (old new : List ℕ) → at ≤ at' → at' + n' ≤ at + n → 0 < n → Torn at' n' old new → Torn at n old new
torn_wider at n at' n' old new from to some torn = record {
  others = λ i within outside. torn.others i within (⊎_elim (λ low. inl (omega (arith, low, from))) (λ high. inr (omega (arith, high, to))) outside);
  no_shorter = torn.no_shorter;
  no_longer = λ longer. (some, omega (arith, (torn.no_longer longer).1, to));
}

pub torn_then : (at n : ℕ) (a b c : List ℕ) → Torn at n a b → Torn at n b c → Torn at n a c
torn_then at n a b c first second = record {
  others = λ i within outside. second.others i (omega (arith, within, first.no_shorter)) outside ∙ first.others i within outside;
  no_shorter = omega (arith, first.no_shorter, second.no_shorter);
  no_longer = λ longer. ⊎_elim
      (λ on. second.no_longer on)
      (λ same. let r = first.no_longer (omega (arith, longer, same)) in (r.0, omega (arith, r.1, same)))
      (cases_lt (length b) (length c));
}

-- a write, whatever it answered, leaves some of it
pub torn_after : {T E : Type 0} (result : Result T E) (at : ℕ) (bytes old new : List ℕ) → AfterWrite result at bytes old new → Torn at (length bytes) old new
torn_after (Err e) at bytes old new after = after.failed
torn_after (Ok t) at bytes old new after = ⊎_elim
    (λ some. torn_whole at bytes old new some (after.written some))
    (λ none. subst (λ (f : List ℕ). Torn at (length bytes) old f) (sym (after.none (omega (arith, none)))) (torn_none at (length bytes) old))
    (cases_lt 0 (length bytes))

both_torn : {T E : Type 0} (result : Result T E) (at n at' : ℕ) (bytes : List ℕ) (old new : Option (List ℕ)) → at ≤ at' → at' + length bytes ≤ at + n → 0 < n
    → BothTold (AfterWrite result at' bytes) old new → BothTold (Torn at n) old new
both_torn result at n at' bytes None None from to some both = tt
both_torn result at n at' bytes None (Some new) from to some both = both
both_torn result at n at' bytes (Some old) None from to some both = both
both_torn result at n at' bytes (Some old) (Some new) from to some both = torn_wider at n at' (length bytes) old new from to some (torn_after result at' bytes old new both)

both_same : (at n : ℕ) (old new : Option (List ℕ)) → new ≡ old → BothTold (Torn at n) old new
both_same at n old new is = subst (λ (s : Option (List ℕ)). BothTold (Torn at n) old s) (sym is) (here old)
  where
    here : (s : Option (List ℕ)) → BothTold (Torn at n) s s
    here None = tt
    here (Some file) = torn_none at n file

both_then : (at n : ℕ) (a b c : Option (List ℕ)) → BothTold (Torn at n) a b → BothTold (Torn at n) b c → BothTold (Torn at n) a c
both_then at n None None None first second = tt
both_then at n None None (Some z) first second = second
both_then at n None (Some y) c first second = absurd first
both_then at n (Some x) None c first second = absurd first
both_then at n (Some x) (Some y) None first second = second
both_then at n (Some x) (Some y) (Some z) first second = torn_then at n x y z first second

both_wider : (at n at' n' : ℕ) (a b : Option (List ℕ)) → at ≤ at' → at' + n' ≤ at + n → 0 < n → BothTold (Torn at' n') a b → BothTold (Torn at n) a b
both_wider at n at' n' None None from to some both = tt
both_wider at n at' n' None (Some y) from to some both = both
both_wider at n at' n' (Some x) None from to some both = both
both_wider at n at' n' (Some x) (Some y) from to some both = torn_wider at n at' n' x y from to some both

module _ {D : Type 0} (seen : D → Option (List ℕ)) (may_leave : D → List ℕ → Type 0) (moment : D → ℕ) (left_since : D → ℕ → List ℕ → Type 0) (at n : ℕ) where
  abbrev Within : D → D → Type 0
  Within old new = WritesWithin seen may_leave moment left_since at n old new

  -- what a crash leaves is some of what it might have left
  abbrev Some_of : D → List ℕ → Type 0
  Some_of old c = (d : List ℕ) × may_leave old d × Torn at n d c

  pub within_none : (d : D) → ((c : List ℕ) → left_since d (moment d) c → may_leave d c) → Within d d
  within_none d now = record {
    reads = both_same at n (seen d) (seen d) refl;
    crash = λ c left. (c, left, torn_none at n c);
    moments = record { later = omega arith; each = λ c left. (c, now c left, torn_none at n c); before = λ t c le left. inl left };
  }

  -- one call more
  pub within_more : (old mid new : D) → Within old mid → BothTold (Torn at n) (seen mid) (seen new) → Follows (Torn at n) (may_leave mid) (may_leave new)
      → Elapses (moment mid) (moment new) (left_since mid) (left_since new) (may_leave new) → Within old new
  within_more old mid new so_far reads crash time = record {
    reads = both_then at n (seen old) (seen mid) (seen new) so_far.reads reads;
    crash = now;
    moments = record {
      later = omega (arith, so_far.moments.later, time.later);
      each = λ c left. ⊎_elim (λ was. so_far.moments.each c was) (λ is. now c is) (time.nothing_else (moment old) c so_far.moments.later left);
      before = λ t c le left. ⊎_elim (λ was. so_far.moments.before t c le was) (λ is. inr (now c is)) (time.nothing_else t c (omega (arith, le, so_far.moments.later)) left);
    };
  }
    where
      now : Follows (Torn at n) (may_leave old) (may_leave new)
      now c left =
          let one = crash c left in
          let two = so_far.crash one.0 one.1 in
          (two.0, two.1, torn_then at n two.0 one.0 c two.2 one.2)

  -- one write more
  pub within_write : {T E : Type 0} (result : Result T E) (at' : ℕ) (bytes : List ℕ) (old mid new : D) → at ≤ at' → at' + length bytes ≤ at + n → 0 < n → Within old mid
      → BothTold (AfterWrite result at' bytes) (seen mid) (seen new) → Follows (Torn at' (length bytes)) (may_leave mid) (may_leave new)
      → Elapses (moment mid) (moment new) (left_since mid) (left_since new) (may_leave new) → Within old new
  within_write result at' bytes old mid new from to some so_far reads crash time =
      within_more old mid new so_far (both_torn result at n at' bytes (seen mid) (seen new) from to some reads)
      (λ c left. let one = crash c left in (one.0, one.1, torn_wider at n at' (length bytes) one.0 c from to some one.2)) time

  -- one read or sync more
  pub within_sync : (old mid new : D) → Within old mid → seen new ≡ seen mid → NoMore (may_leave mid) (may_leave new)
      → Elapses (moment mid) (moment new) (left_since mid) (left_since new) (may_leave new) → Within old new
  within_sync old mid new so_far same fewer time =
      within_more old mid new so_far (both_same at n (seen mid) (seen new) same) (λ c left. (c, fewer c left, torn_none at n c)) time

  pub within_then : (a b c : D) → Within a b → Within b c → Within a c
  within_then a b c first second = record {
    reads = both_then at n (seen a) (seen b) (seen c) first.reads second.reads;
    crash = λ f left. on f (second.crash f left);
    moments = record {
      later = omega (arith, first.moments.later, second.moments.later);
      each = λ f left. ⊎_elim (λ was. first.moments.each f was) (λ is. on f is) (second.moments.before (moment a) f first.moments.later left);
      before = λ t f le left. ⊎_elim (λ was. first.moments.before t f le was) (λ is. inr (on f is)) (second.moments.before t f (omega (arith, le, first.moments.later)) left);
    };
  }
    where
      on : (f : List ℕ) → Some_of b f → Some_of a f
      on f it = let two = first.crash it.0 it.1 in (two.0, two.1, torn_then at n two.0 it.0 f two.2 it.2)

  pub within_wider : (at' n' : ℕ) (a b : D) → at ≤ at' → at' + n' ≤ at + n → 0 < n → WritesWithin seen may_leave moment left_since at' n' a b → Within a b
  within_wider at' n' a b from to some h = record {
    reads = both_wider at n at' n' (seen a) (seen b) from to some h.reads;
    crash = λ c left. wider c (h.crash c left);
    moments = record {
      later = h.moments.later;
      each = λ c left. wider c (h.moments.each c left);
      before = λ t c le left. ⊎_elim (λ was. inl was) (λ is. inr (wider c is)) (h.moments.before t c le left);
    };
  }
    where
      wider : (c : List ℕ) → ((d : List ℕ) × may_leave a d × Torn at' n' d c) → Some_of a c
      wider c it = (it.0, it.1, torn_wider at n at' n' it.0 c from to some it.2)
