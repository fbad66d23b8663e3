-- Places in a script, and what was told.
use Rattle.std.proofs.Common.{◌≡◌, ℕ, zero, suc, ◌+◌, ◌-◌, ◌<◌, ◌≤◌, Bool, cond, List, [], ◌∷◌, ◌++◌, length, map, drop, Option, Some, None, ℤ, pos, refl, sym, ap, subst, ◌∙◌, arith, zero-add, length-append}
use Rattle.std.specs.List.{slice_get}
use Rattle.std.proofs.lemmas.Bool.{lt-ltb, le-ltb}
use Rattle.rt_base.specs.declared.operation.Outcome.{Outcome}
use Rattle.step_script.specs.declared.script.ScriptOp.{ScriptOp}
use Rattle.step_script.specs.declared.script.Script.{Script}
use Rattle.step_script.specs.Rows.{last_in}
use Rattle.step_script.specs.Values.{Known, Tree, value_in}
use Rattle.step_script.specs.Scripts.{Operation, read, write, compute, commit, quit, operation, width, op_at, noted, noted_at, lasts_after, lasts_of, IsWithin, program_of, IsTold, sample_of, asked_by, next_of}

shift : (n k : ℕ) → n + 1 + k ≡ n + suc k
shift n k = omega arith

plus_none : (n : ℕ) → n ≡ n + 0
plus_none n = omega arith

-- one more outcome
pub lasts_more : (ops : List Operation) (n : ℕ) (lasts : ℕ → ℤ) (os : List Outcome) (o : Outcome)
    → lasts_after ops n lasts (os ++ o ∷ []) ≡ noted_at (op_at ops (n + length os)) o (lasts_after ops n lasts os)
lasts_more ops n lasts [] o = ap (λ (k : ℕ). noted_at (op_at ops k) o lasts) (plus_none n)
lasts_more ops n lasts (x ∷ os) o =
    lasts_more ops (n + 1) (noted_at (op_at ops n) x lasts) os o
    ∙ ap (λ (k : ℕ). noted_at (op_at ops k) o (lasts_after ops (n + 1) (noted_at (op_at ops n) x lasts) os))
    (shift n (length os))

lasts_one : (ops : List Operation) (lasts : ℕ → ℤ) (os : List Outcome) (o : Outcome)
    → lasts_after ops 0 lasts (os ++ o ∷ []) ≡ noted_at (op_at ops (length os)) o (lasts_after ops 0 lasts os)
lasts_one ops lasts os o = lasts_more ops 0 lasts os o
    ∙ ap (λ (k : ℕ). noted_at (op_at ops k) o (lasts_after ops 0 lasts os)) (zero-add (length os))

-- the first of what is left
front : (op : Operation) (more : List Operation) (k : ℕ) → k < width op → op_at (op ∷ more) k ≡ Some op
front op more k lt = ap (λ (b : Bool). cond b (Some op) (op_at more (k - width op))) (lt-ltb k (width op) lt)

past : (op : Operation) (more : List Operation) (k m : ℕ) → k ≡ width op + m → op_at (op ∷ more) k ≡ op_at more m
past op more k m e =
    let le : width op ≤ k = omega arith in
    let left : k - width op ≡ m = omega arith in
    ap (λ (b : Bool). cond b (Some op) (op_at more (k - width op))) (le-ltb k (width op) le) ∙ ap (op_at more) left

split : (ops : List ScriptOp) (place : ℕ) (op : ScriptOp) → slice_get ops place ≡ Some op
    → drop place (map operation ops) ≡ operation op ∷ drop (suc place) (map operation ops)
split [] place op is = absurd cc
split (x ∷ xs) zero op is = let same : x ≡ op = cc in ap (λ (y : ScriptOp). operation y ∷ map operation xs) same
split (x ∷ xs) (suc place) op is = split xs place op is

ended : (ops : List ScriptOp) (place : ℕ) → slice_get ops place ≡ None → drop place (map operation ops) ≡ []
ended [] zero is = refl
ended [] (suc place) is = refl
ended (x ∷ xs) zero is = absurd cc
ended (x ∷ xs) (suc place) is = ended xs place is

width_pos : (op : Operation) → 0 < width op
width_pos (read item) = omega arith
width_pos (write item value) = omega arith
width_pos (compute n) = omega arith
width_pos commit = omega arith
width_pos quit = omega arith

within_none : (ops : List Operation) → IsWithin ops 0
within_none [] = refl
within_none (op ∷ ops) = width_pos op

abbrev rest_of : Script → List Operation
rest_of s = drop s.place (map operation s.ops.items)

-- the operation that stands where as many outcomes were told
stands_at : (s : Script) (serial : ℕ) (os : List Outcome) → IsTold s serial os
    → op_at (program_of s).ops (length os) ≡ op_at (rest_of s) s.done
stands_at s serial os h = ap (op_at (program_of s).ops) (plus_none (length os)) ∙ h.left 0
    ∙ ap (op_at (rest_of s)) (sym (plus_none s.done))

-- the operation in hand
pub in_hand : (s : Script) (op : ScriptOp) → slice_get s.ops.items s.place ≡ Some op → IsWithin (rest_of s) s.done
    → op_at (rest_of s) s.done ≡ Some (operation op)
in_hand s op is within =
    let e = split s.ops.items s.place op is in
    let w = subst (λ (r : List Operation). IsWithin r s.done) e within in
    ap (λ (r : List Operation). op_at r s.done) e ∙ front (operation op) _ s.done w

pub none_in_hand : (s : Script) → slice_get s.ops.items s.place ≡ None → op_at (rest_of s) s.done ≡ None
none_in_hand s is = ap (λ (r : List Operation). op_at r s.done) (ended s.ops.items s.place is)

abbrev known : Script → Known
known s = record { sample = sample_of s.samples.items s.serial; serial = pos s.serial; lasts = last_in s.lasts.items }

asks : (s : Script) (serial : ℕ) (os : List Outcome) (o : Option Operation) → IsTold s serial os
    → op_at (rest_of s) s.done ≡ o → asked_by (known s) o ≡ next_of (program_of s) serial os
asks s serial os o h is =
    ap (λ (n : ℕ). asked_by (record { sample = sample_of s.samples.items n; serial = pos n; lasts = last_in s.lasts.items })
    o) h.begun
    ∙ ap (λ (l : ℕ → ℤ). asked_by (record {
      sample = sample_of s.samples.items serial;
      serial = pos serial;
      lasts =
          l;
    }) o) h.lasts
    ∙ ap (λ (p : Option Operation). asked_by (record {
      sample = sample_of s.samples.items serial;
      serial = pos serial;
      lasts = lasts_of (program_of s) os;
    }) p) (sym (stands_at s serial os h ∙ is))

pub asks_op : (s : Script) (op : ScriptOp) → slice_get s.ops.items s.place ≡ Some op
    → (serial : ℕ) (os : List Outcome) → IsTold s serial os
    → asked_by (known s) (Some (operation op)) ≡ next_of (program_of s) serial os
asks_op s op is serial os h = asks s serial os _ h (in_hand s op is h.within)

pub asks_none : (s : Script) → slice_get s.ops.items s.place ≡ None → (serial : ℕ) (os : List Outcome)
    → IsTold s serial os → asked_by (known s) None ≡ next_of (program_of s) serial os
asks_none s is serial os h = asks s serial os _ h (none_in_hand s is)

count_more : (os : List Outcome) (o : Outcome) (m : ℕ) → length (os ++ o ∷ []) + m ≡ length os + suc m
count_more os o m = omega (arith, length-append os (o ∷ []))

pub told_none : (s : Script) (o : Outcome) → slice_get s.ops.items s.place ≡ None → (serial : ℕ) (os : List Outcome)
    → IsTold s serial os → IsTold s serial (os ++ o ∷ [])
told_none s o is serial os h = record {
  begun = h.begun;
  lasts = h.lasts ∙ sym (lasts_one (program_of s).ops _ os o
      ∙ ap (λ (p : Option Operation). noted_at p o (lasts_of (program_of s) os)) (stands_at s serial os h
      ∙ none_in_hand s is));
  within = h.within;
  left = λ m. ap (op_at (program_of s).ops) (count_more os o m) ∙ h.left (suc m)
      ∙ ap (λ (r : List Operation). op_at r (s.done + suc m)) (ended s.ops.items s.place is)
      ∙ sym (ap (λ (r : List Operation). op_at r (s.done + m)) (ended s.ops.items s.place is));
}

lasts_told : (s s' : Script) (o : Outcome) (op : ScriptOp) → slice_get s.ops.items s.place ≡ Some op → s'.ops ≡ s.ops
    → last_in s'.lasts.items ≡ noted (operation op) o (last_in s.lasts.items) → (serial : ℕ) (os : List Outcome)
    → IsTold s serial os → last_in s'.lasts.items ≡ lasts_of (program_of s') (os ++ o ∷ [])
lasts_told s s' o op is ops lasts serial os h =
    lasts
    ∙ ap (noted (operation op) o) h.lasts
    ∙ ap (λ (p : Option Operation). noted_at p o (lasts_of (program_of s) os)) (sym (stands_at s serial os h
    ∙ in_hand s op is h.within))
    ∙ sym (lasts_one (program_of s).ops _ os o)
    ∙ ap (λ v. lasts_after (map operation v.items) 0 (λ i. pos 0) (os ++ o ∷ [])) (sym ops)

-- once more
pub told_again : (s s' : Script) (o : Outcome) (op : ScriptOp) → slice_get s.ops.items s.place ≡ Some op
    → s'.ops ≡ s.ops → s'.serial ≡ s.serial → s'.place ≡ s.place → s'.done ≡ s.done + 1
    → last_in s'.lasts.items ≡ noted (operation op) o (last_in s.lasts.items) → s.done + 1 < width (operation op)
    → (serial : ℕ) (os : List Outcome) → IsTold s serial os → IsTold s' serial (os ++ o ∷ [])
told_again s s' o op is ops same_serial place done lasts lt serial os h =
    let same : rest_of s' ≡ rest_of s = cc in
    let e = split s.ops.items s.place op is in
    let w : s'.done < width (operation op) = omega arith in
    record {
      begun = same_serial ∙ h.begun;
      lasts = lasts_told s s' o op is ops lasts serial os h;
      within = subst (λ (r : List Operation). IsWithin r s'.done) (sym (same ∙ e)) w;
      left = λ m. ap (λ v. op_at (map operation v.items) (length (os ++ o ∷ []) + m)) ops
          ∙ ap (op_at (program_of s).ops) (count_more os o m) ∙ h.left (suc m)
          ∙ ap (op_at (rest_of s)) (sym (ap (λ (k : ℕ). k + m) done ∙ shift s.done m))
          ∙ ap (λ (r : List Operation). op_at r (s'.done + m)) (sym same);
    }

-- on to the next operation
pub told_next : (s s' : Script) (o : Outcome) (op : ScriptOp) → slice_get s.ops.items s.place ≡ Some op
    → s'.ops ≡ s.ops → s'.serial ≡ s.serial → s'.place ≡ s.place + 1 → s'.done ≡ 0
    → last_in s'.lasts.items ≡ noted (operation op) o (last_in s.lasts.items) → width (operation op) ≤ s.done + 1
    → (serial : ℕ) (os : List Outcome) → IsTold s serial os → IsTold s' serial (os ++ o ∷ [])
told_next s s' o op is ops same_serial place done lasts le serial os h =
    let e = split s.ops.items s.place op is in
    let w : s.done < width (operation op) = subst (λ (r : List Operation). IsWithin r s.done) e h.within in
    let next : s'.place ≡ suc s.place = omega arith in
    let same : rest_of s' ≡ drop (suc s.place) (map operation s.ops.items) = cc in
    record {
      begun = same_serial ∙ h.begun;
      lasts = lasts_told s s' o op is ops lasts serial os h;
      within = subst (λ (k : ℕ). IsWithin (rest_of s') k) (sym done) (within_none (rest_of s'));
      left = λ m. ap (λ v. op_at (map operation v.items) (length (os ++ o ∷ []) + m)) ops
          ∙ ap (op_at (program_of s).ops) (count_more os o m) ∙ h.left (suc m)
          ∙ ap (λ (r : List Operation). op_at r (s.done + suc m)) e
          ∙ past (operation op) _ (s.done + suc m) m (omega arith) ∙ ap (λ (r : List Operation). op_at r m) (sym same)
          ∙ ap (op_at (rest_of s')) (sym (ap (λ (k : ℕ). k + m) done ∙ zero-add m));
    }

pub same_known : (t : Tree) (a a' b b' : ℤ) (l l' : ℕ → ℤ) → a ≡ a' → b ≡ b' → l ≡ l'
    → value_in (record { sample = a; serial = b; lasts = l }) t ≡ value_in
    (record { sample = a'; serial = b'; lasts = l' }) t
same_known t a a' b b' l l' p q r =
    ap (λ (x : ℤ). value_in (record { sample = x; serial = b; lasts = l }) t) p
    ∙ ap (λ (x : ℤ). value_in (record { sample = a'; serial = x; lasts = l }) t) q
    ∙ ap (λ (x : ℕ → ℤ). value_in (record { sample = a'; serial = b'; lasts = x }) t) r

-- what was found at a place of a list, as the list that it is a part of
pub found : (xs ys : List ScriptOp) (place : ℕ) (o : Option ScriptOp) (r : Option ScriptOp) → xs ≡ ys
    → r ≡ slice_get xs place → r ≡ o → slice_get ys place ≡ o
found xs ys place o r same is got = ap (λ (zs : List ScriptOp). slice_get zs place) (sym same) ∙ sym is ∙ got
