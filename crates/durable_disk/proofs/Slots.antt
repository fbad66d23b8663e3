-- Records that are read one place after another.
use Rattle.std.proofs.Common.{◌≡◌, ◌≢◌, ℕ, zero, suc, min, ◌+◌, ◌-◌, ◌*◌, ◌<◌, ◌≤◌, ◌==◌, Bool, true, false, List, [], ◌∷◌, length, get_or, take, drop, refl, sym, ◌∙◌, ap, arith, length-drop, cond, inl}
use Rattle.std.proofs.lemmas.List.{length-take, get_or-take, get_or-drop}
use Rattle.std.proofs.lemmas.Grind.{same_number_lists}
use Rattle.std.proofs.lemmas.Bool.Decides.{nat_tests}
use Rattle.durable_disk.specs.Images.{Written}
use Rattle.durable_disk.specs.Records.{closed, short, whole, slot_of, slot_at, Reads}

-- a list that is found whole is an open gate and 255 bytes
pub record IsWhole (bytes body : List ℕ) : Type 0 where
  pub is : bytes ≡ 1 ∷ body
  pub wide : length body ≡ 255

is_number : (a b : ℕ) → (a == b) ≡ true → a ≡ b
is_number a b t = grind (arith, nat_tests)

is_one : (a : ℕ) → (a == 1) ≡ true → a ≡ 1
is_one a t = is_number a 1 t

is_other : (a b : ℕ) → (a == b) ≡ false → a ≢ b
is_other a b t is = grind (arith, nat_tests)

whole_is_by : (gate : ℕ) (rest body : List ℕ) (b c : Bool) → (gate == 1) ≡ b → (length rest == 255) ≡ c → cond b (cond c (whole rest) short) closed ≡ whole body → IsWhole (gate ∷ rest) body
whole_is_by gate rest body true true one wide found =
    let same : rest ≡ body = cc in
    let open_gate : gate ≡ 1 = is_one gate one in
    let long : length rest ≡ 255 = is_number (length rest) 255 wide in
    record { is = (λ i. open_gate i ∷ same i); wide = ap length (sym same) ∙ long }
whole_is_by gate rest body true false one wide found = absurd (cc)
whole_is_by gate rest body false c one wide found = absurd (cc)

pub whole_is : (bytes body : List ℕ) → slot_of bytes ≡ whole body → IsWhole bytes body
whole_is [] body found = absurd (cc)
whole_is (gate ∷ rest) body found = whole_is_by gate rest body (gate == 1) (length rest == 255) refl refl found

closed_is_by : (gate : ℕ) (rest : List ℕ) (b c : Bool) → (gate == 1) ≡ b → cond b (cond c (whole rest) short) closed ≡ closed → gate ≢ 1
closed_is_by gate rest true true one found is = absurd (cc)
closed_is_by gate rest true false one found is = absurd (cc)
closed_is_by gate rest false c one found is = is_other gate 1 one is

pub closed_is : (bytes : List ℕ) → slot_of bytes ≡ closed → (0 < length bytes) × (get_or bytes 0 0 ≢ 1)
closed_is [] found = absurd (cc)
closed_is (gate ∷ rest) found = (omega arith, closed_is_by gate rest (gate == 1) (length rest == 255) refl found)

-- records that were found one after another, and then a closed gate
module _ (file : List ℕ) (bodies : List (List ℕ)) (found : (k : ℕ) → k < length bodies → slot_at k file ≡ whole (get_or bodies k [])) (shut : slot_at (length bodies) file ≡ closed) where
  place : ℕ → List ℕ
  place k = take 256 (drop (256 * k) file)

  at_place : (k i : ℕ) → i < 256 → get_or (place k) i 0 ≡ get_or file (256 * k + i) 0
  unfolding place
  at_place k i low = get_or-take 256 (drop (256 * k) file) i 0 low ∙ get_or-drop (256 * k) file i 0

  a_record : (k : ℕ) → k < length bodies → IsWhole (place k) (get_or bodies k [])
  unfolding place
  a_record k h = whole_is (take 256 (drop (256 * k) file)) (get_or bodies k []) (found k h)

  an_end : (0 < length (place (length bodies))) × (get_or (place (length bodies)) 0 0 ≢ 1)
  unfolding place
  an_end = closed_is (take 256 (drop (256 * length bodies) file)) shut

  pub reads_found : Reads file bodies
  unfolding place
  reads_found = record {
    gates = λ k h. ap (λ (j : ℕ). get_or file j 0) (omega arith) ∙ sym (at_place k 0 (omega arith)) ∙ ap (λ (l : List ℕ). get_or l 0 0) (a_record k h).is;
    each = λ k h i low. ap (λ (j : ℕ). get_or file j 0) (omega arith) ∙ sym (at_place k (suc i) (omega (arith, low))) ∙ ap (λ (l : List ℕ). get_or l (suc i) 0) (a_record k h).is;
    wide = λ k h. (a_record k h).wide;
    shut = λ is. an_end.1 (at_place (length bodies) 0 (omega arith) ∙ ap (λ (j : ℕ). get_or file j 0) (omega arith) ∙ is);
    there = omega (arith, an_end.0, length-take 256 (drop (256 * length bodies) file), length-drop (256 * length bodies) file);
  }

-- the other way: of a file that has these records each place is found so
whole_place : (bytes body : List ℕ) → bytes ≡ 1 ∷ body → length body ≡ 255 → slot_of bytes ≡ whole body
whole_place bytes body is wide =
    ap slot_of is ∙ ap (λ (n : ℕ). cond (n == 255) (whole body) short) wide

closed_place_by : (gate : ℕ) (rest : List ℕ) (b : Bool) → (gate == 1) ≡ b → gate ≢ 1 → cond b (cond (length rest == 255) (whole rest) short) closed ≡ closed
closed_place_by gate rest true one off = absurd (off (is_one gate one))
closed_place_by gate rest false one off = refl

closed_place : (bytes : List ℕ) → 0 < length bytes → get_or bytes 0 0 ≢ 1 → slot_of bytes ≡ closed
closed_place [] some off = absurd (omega (arith, some))
closed_place (gate ∷ rest) some off = closed_place_by gate rest (gate == 1) refl off

module _ (file : List ℕ) (bodies : List (List ℕ)) (r : Reads file bodies) where
  length-place : (k : ℕ) → length (take 256 (drop (256 * k) file)) ≡ min 256 (length file - 256 * k)
  length-place k = length-take 256 (drop (256 * k) file) ∙ ap (λ (n : ℕ). min 256 n) (length-drop (256 * k) file)

  read_place : (k i : ℕ) → i < 256 → get_or (take 256 (drop (256 * k) file)) i 0 ≡ get_or file (256 * k + i) 0
  read_place k i low = get_or-take 256 (drop (256 * k) file) i 0 low ∙ get_or-drop (256 * k) file i 0

  record_bytes : (k : ℕ) → k < length bodies → take 256 (drop (256 * k) file) ≡ 1 ∷ get_or bodies k []
  record_bytes k h = same_number_lists _ _ lengths each
    where
      lengths : length (take 256 (drop (256 * k) file)) ≡ length (1 ∷ get_or bodies k [])
      lengths = omega (arith, length-place k, r.wide k h, r.there, h)

      each : (i : ℕ) → i < length (take 256 (drop (256 * k) file)) → get_or (take 256 (drop (256 * k) file)) i 0 ≡ get_or (1 ∷ get_or bodies k []) i 0
      each zero low = read_place k 0 (omega arith) ∙ ap (λ (j : ℕ). get_or file j 0) (omega arith) ∙ r.gates k h
      each (suc i) low =
          read_place k (suc i) (omega (arith, low, length-place k)) ∙ ap (λ (j : ℕ). get_or file j 0) (omega arith) ∙ r.each k h i (omega (arith, low, length-place k))

  pub found_record : (k : ℕ) → k < length bodies → slot_at k file ≡ whole (get_or bodies k [])
  found_record k h = whole_place (take 256 (drop (256 * k) file)) (get_or bodies k []) (record_bytes k h) (r.wide k h)

  pub found_end : slot_at (length bodies) file ≡ closed
  found_end =
      closed_place (take 256 (drop (256 * length bodies) file)) (omega (arith, length-place (length bodies), r.there))
      (λ is. r.shut (sym (read_place (length bodies) 0 (omega arith) ∙ ap (λ (j : ℕ). get_or file j 0) (omega arith)) ∙ is))

-- a closed gate that is written where it is missing
module _ (file new : List ℕ) (bodies : List (List ℕ)) (found : (k : ℕ) → k < length bodies → slot_at k file ≡ whole (get_or bodies k [])) (w : Written (256 * length bodies) (0 ∷ []) file new) where
  bytes_at : (k i : ℕ) → i < 256 → get_or (take 256 (drop (256 * k) file)) i 0 ≡ get_or file (256 * k + i) 0
  bytes_at k i low = get_or-take 256 (drop (256 * k) file) i 0 low ∙ get_or-drop (256 * k) file i 0

  here_is : (k : ℕ) → k < length bodies → IsWhole (take 256 (drop (256 * k) file)) (get_or bodies k [])
  here_is k h = whole_is (take 256 (drop (256 * k) file)) (get_or bodies k []) (found k h)

  -- each record lies in the file
  inside : (k : ℕ) → k < length bodies → 256 * k + 256 ≤ length file
  inside k h =
      let r = here_is k h in
      omega (arith, ap length r.is, r.wide, length-take 256 (drop (256 * k) file), length-drop (256 * k) file)

  kept : (k i : ℕ) → k < length bodies → i < 256 → get_or new (256 * k + i) 0 ≡ get_or file (256 * k + i) 0
  kept k i h low = w.others (256 * k + i) (omega (arith, low, inside k h)) (inl (omega (arith, h, low)))

  pub reads_closed : Reads new bodies
  reads_closed = record {
    gates = λ k h. ap (λ (j : ℕ). get_or new j 0) (omega arith) ∙ kept k 0 h (omega arith) ∙ sym (bytes_at k 0 (omega arith)) ∙ ap (λ (l : List ℕ). get_or l 0 0) (here_is k h).is;
    each = λ k h i low. ap (λ (j : ℕ). get_or new j 0) (omega arith) ∙ kept k (suc i) h (omega (arith, low)) ∙ sym (bytes_at k (suc i) (omega (arith, low))) ∙ ap (λ (l : List ℕ). get_or l (suc i) 0) (here_is k h).is;
    wide = λ k h. (here_is k h).wide;
    shut = λ is. let zero_here : get_or new (256 * length bodies) 0 ≡ 0 = ap (λ (j : ℕ). get_or new j 0) (omega arith) ∙ w.range 0 (omega arith) in absurd (omega (arith, zero_here, is));
    there = omega (arith, w.end);
  }
