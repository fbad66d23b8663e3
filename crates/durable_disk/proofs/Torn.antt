-- What writes make of records, whole or in part.
use Rattle.std.proofs.Common.{◌≡◌, ◌⊎◌, inl, inr, ⊎_elim, ℕ, ◌+◌, ◌*◌, ◌<◌, ◌≤◌, List, [], ◌∷◌, ◌++◌, length, get_or, sym, ◌∙◌, ap, arith, length-append}
use Rattle.std.proofs.lemmas.List.{get_or_push, get_or_append_left, length_push}
use Rattle.std.proofs.lemmas.Bool.{cases_lt, cases_eq}
use Rattle.durable_disk.specs.Images.{KeepsOthers, Written, Torn}
use Rattle.durable_disk.specs.Records.{Reads, HasStaged, IsBeforeOrAfter}

-- the first n bytes of a file are those of another, and both have them
abbrev Agree : ℕ → List ℕ → List ℕ → Type 0
Agree n file c = (n ≤ length c) × ((i : ℕ) → i < n → get_or c i 0 ≡ get_or file i 0)

-- records are read of the bytes up to their closed gate
reads_front : (file c : List ℕ) (bodies : List (List ℕ)) → Reads file bodies → Agree (256 * length bodies + 1) file c → Reads c bodies
reads_front file c bodies r same = record {
  gates = λ k h. same.1 (256 * k) (omega (arith, h)) ∙ r.gates k h;
  each = λ k h i low. same.1 (256 * k + 1 + i) (omega (arith, h, low)) ∙ r.each k h i low;
  wide = r.wide;
  shut = λ is. r.shut (sym (same.1 (256 * length bodies) (omega arith)) ∙ is);
  there = omega (arith, same.0);
}

-- what is left of a write that begins behind the closed gate leaves the records as they are
pub torn_past : (at n : ℕ) (file c : List ℕ) (bodies : List (List ℕ)) → 256 * length bodies < at → Reads file bodies → Torn at n file c → Reads c bodies
torn_past at n file c bodies past r torn =
    reads_front file c bodies r (
      omega (arith, r.there, torn.no_shorter),
      λ i h. torn.others i (omega (arith, h, r.there)) (inl (omega (arith, h, past))),
    )

pub torn_behind : (n : ℕ) (file c : List ℕ) (bodies : List (List ℕ)) → Reads file bodies → Torn (256 * length bodies + 1) n file c → Reads c bodies
torn_behind n file c bodies = torn_past (256 * length bodies + 1) n file c bodies (omega arith)

module _ (file new : List ℕ) (bodies : List (List ℕ)) (body bytes : List ℕ) (r : Reads file bodies) (wide : length body ≡ 255) (is : bytes ≡ body ++ 0 ∷ []) (w : Written (256 * length bodies + 1) bytes file new) where
  long : length bytes ≡ 256
  long = ap length is ∙ omega (arith, length-append body (0 ∷ []), wide)

  last : get_or new (256 * (length bodies + 1)) 0 ≡ 0
  last =
      ap (λ (k : ℕ). get_or new k 0) (omega arith)
      ∙ w.range 255 (omega (arith, long))
      ∙ ap (λ (l : List ℕ). get_or l 255 0) is
      ∙ get_or_push body 0 0 255 wide

  pub staged : HasStaged new bodies body
  staged = record {
    reads = reads_front file new bodies r (
      omega (arith, w.end, long),
      λ i h. w.others i (omega (arith, h, r.there)) (inl h),
    );
    behind = λ i low. w.range i (omega (arith, low, long)) ∙ ap (λ (l : List ℕ). get_or l i 0) is ∙ get_or_append_left body (0 ∷ []) 0 i (omega (arith, low, wide));
    wide = wide;
    shut = λ one. absurd (omega (arith, last, one));
    there = omega (arith, w.end, long);
  }

-- the staged record counts where its gate is open
module _ (file c : List ℕ) (bodies : List (List ℕ)) (body : List ℕ) (s : HasStaged file bodies body) (longer : length file ≤ length c) (others : KeepsOthers (256 * length bodies) 1 file c) where
  same : (i : ℕ) → i < 256 * (length bodies + 1) + 1 → (i < 256 * length bodies) ⊎ (256 * length bodies + 1 ≤ i) → get_or c i 0 ≡ get_or file i 0
  same i h out = others i (omega (arith, h, s.there)) out

  more : List (List ℕ)
  more = bodies ++ body ∷ []

  count : length more ≡ length bodies + 1
  unfolding more
  count = length_push bodies body

  old_record : (k : ℕ) → k < length bodies → get_or more k [] ≡ get_or bodies k []
  unfolding more
  old_record k h = get_or_append_left bodies (body ∷ []) [] k h

  new_record : (k : ℕ) → k ≡ length bodies → get_or more k [] ≡ body
  unfolding more
  new_record k is = get_or_push bodies body [] k (sym is)

  with_open : get_or c (256 * length bodies) 0 ≡ 1 → Reads c more
  with_open one = record {
    gates = λ k h. ⊎_elim (λ low. same (256 * k) (omega (arith, low)) (inl (omega (arith, low))) ∙ s.reads.gates k low) (λ at. ap (λ (j : ℕ). get_or c (256 * j) 0) (last k h at) ∙ one) (cases_lt k (length bodies));
    each = λ k h i low. ⊎_elim
        (λ old. same (256 * k + 1 + i) (omega (arith, old, low)) (inl (omega (arith, old, low))) ∙ s.reads.each k old i low ∙ ap (λ (l : List ℕ). get_or l i 0) (sym (old_record k old)))
        (λ at. let is = last k h at in same (256 * k + 1 + i) (omega (arith, is, low)) (inr (omega (arith, is))) ∙ ap (λ (j : ℕ). get_or file (256 * j + 1 + i) 0) is ∙ s.behind i low ∙ ap (λ (l : List ℕ). get_or l i 0) (sym (new_record k is)))
        (cases_lt k (length bodies));
    wide = λ k h. ⊎_elim (λ old. ap length (old_record k old) ∙ s.reads.wide k old) (λ at. ap length (new_record k (last k h at)) ∙ s.wide) (cases_lt k (length bodies));
    shut = λ is. s.shut (sym (same (256 * (length bodies + 1)) (omega arith) (inr (omega arith))) ∙ ap (λ (j : ℕ). get_or c (256 * j) 0) (sym count) ∙ is);
    there = omega (arith, count, s.there, longer);
  }
    where
      last : (k : ℕ) → k < length more → length bodies ≤ k → k ≡ length bodies
      last k h at = omega (arith, h, at, count)

  with_closed : (get_or c (256 * length bodies) 0 ≡ 1 → ⊥) → Reads c bodies
  with_closed off = record {
    gates = λ k h. same (256 * k) (omega (arith, h)) (inl (omega (arith, h))) ∙ s.reads.gates k h;
    each = λ k h i low. same (256 * k + 1 + i) (omega (arith, h, low)) (inl (omega (arith, h, low))) ∙ s.reads.each k h i low;
    wide = s.reads.wide;
    shut = off;
    there = omega (arith, s.reads.there, longer);
  }

  pub either : IsBeforeOrAfter bodies body c
  unfolding more
  either = elim (cases_eq (get_or c (256 * length bodies) 0) 1) [ inl one ↦ inr (with_open one) | inr off ↦ inl (with_closed off) ]

  pub opened : get_or c (256 * length bodies) 0 ≡ 1 → Reads c (bodies ++ body ∷ [])
  unfolding more
  opened one = with_open one
