-- How long names, jobs and numbers are, and lines in a row.
use Rattle.std.proofs.Common.{◌≡◌, ℕ, ◌+◌, ◌*◌, ◌<◌, ◌≤◌, ◌^◌, true, ◌&&◌, List, [], ◌∷◌, ◌++◌, length, decimal, ap, inl, inr, arith, codes, length-append}
use Rattle.std.specs.Prelude.{nat_lt}
use Rattle.std.specs.List.{list_all}
use Rattle.std.proofs.lemmas.Bool.{and_parts, ltb-true, cases_lt}
use Rattle.std.proofs.lemmas.List.{get_or_past}
use Rattle.std.proofs.lemmas.Fmt.{length-decimal-le}
use Rattle.rt_base.specs.Names.{is_letter, is_name_byte, is_name, AreNames}
use Rattle.rt_base.specs.declared.ids.JobId.{JobId}
use Rattle.journal_text.specs.Ids.{name_at, job_text}
use Rattle.report_text.specs.Rows.{numbered}
use Rattle.run_report.proofs.Every.{Every}

-- ---- names

plain_length : (name : List ℕ) → is_name name ≡ true → length name ≤ 32
plain_length [] plain = absurd cc
plain_length (b ∷ bs) plain =
    let few = and_parts (is_letter b && nat_lt (length bs) 32) (list_all is_name_byte bs) plain in
    let lt : length bs < 32 = ltb-true (length bs) 32 (and_parts (is_letter b) (nat_lt (length bs) 32) few.0).1 in
    omega (arith, lt)

-- past the names there is no text
pub name_length : (names : List (List ℕ)) (i : ℕ) → AreNames names → length (name_at names i) ≤ 32
name_length names i good = elim (cases_lt i (length names)) [
  | inl lt ↦ plain_length (name_at names i) (good.plain i lt)
  | inr past ↦ omega (arith, ap (λ (t : List ℕ). length t) (get_or_past names i [] past))
]

-- ---- numbers

-- a tick
pub tick_length : (n : ℕ) → n ≤ 2 ^ 40 + 2 ^ 30 → length (decimal n) ≤ 13
tick_length n le = length-decimal-le 13 n (omega arith) (omega arith) (omega arith)

-- a time within a period
pub time_length : (n : ℕ) → n ≤ 2 ^ 30 → length (decimal n) ≤ 10
time_length n le = length-decimal-le 10 n (omega arith) (omega arith) (omega arith)

-- a number of steps
pub steps_length : (n : ℕ) → n < 10000 → length (decimal n) ≤ 4
steps_length n lt = length-decimal-le 4 n (omega arith) (omega arith) (omega arith)

-- ---- jobs

pub job_length : (txns : List (List ℕ)) (job : JobId) (digits : ℕ) → AreNames txns → length (decimal job.serial) ≤ digits
    → length (job_text txns job) ≤ 33 + digits
job_length txns job digits good le =
    omega (
      arith,
      length-append (name_at txns job.tx.0 ++ codes "/") (decimal job.serial),
      length-append (name_at txns job.tx.0) (codes "/"),
      name_length txns job.tx.0 good,
      le,
    )

-- ---- lines in a row

-- each has so many bytes at most, wherever it stands
pub numbered_length : {A : Type 0} (f : ℕ → A → List ℕ) (most i : ℕ) (xs : List A)
    → Every (λ x. (k : ℕ) → length (f k x) ≤ most) xs → length (numbered f i xs) ≤ most * length xs
numbered_length f most i [] h = omega arith
numbered_length f most i (x ∷ xs) h =
    omega (arith, length-append (f i x) (numbered f (i + 1) xs), h.0 i, numbered_length f most (i + 1) xs h.1)

-- what holds at each place of all holds of each at every place
pub every_places : {A : Type 0} (f : ℕ → A → List ℕ) (most : ℕ) (xs : List A)
    → ((k : ℕ) → Every (λ x. length (f k x) ≤ most) xs) → Every (λ x. (k : ℕ) → length (f k x) ≤ most) xs
every_places f most [] h = tt
every_places f most (x ∷ xs) h = (λ k. (h k).0, every_places f most xs (λ k. (h k).1))
