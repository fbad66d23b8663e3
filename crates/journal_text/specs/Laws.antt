-- What is written as a word is read back, and nothing else is read.
use Rattle.std.specs.Prelude.{ℕ, ◌≡◌, ◌<◌, ◌^◌, List, length, Option, Some, decimal}
use Rattle.std.specs.Fmt.{signed_decimal}
use Rattle.rt_base.specs.declared.ids.TxId.{TxId}
use Rattle.rt_base.specs.declared.ids.ItemId.{ItemId}
use Rattle.rt_base.specs.Names.{AreNames}
use Rattle.line_fields.specs.Cuts.{Lacks}
use Rattle.line_fields.specs.Numbers.{unsigned_of, short_of, signed_of, IsI64}
use Rattle.journal_text.specs.Ids.{name_at, tx_of, item_of, job_text, job_of, IsJob}

-- what fits is read from what is written of it, and what is read from a text fits and is written so
pub record BothWays {A : Type 0} (Fits : A → Type 0) (print : A → List ℕ) (read : List ℕ → Option A) : Type 0 where
  pub again : (a : A) → Fits a → read (print a) ≡ Some a
  pub takes : (w : List ℕ) (a : A) → read w ≡ Some a → Fits a × (print a ≡ w)

-- the same of one field: there is no blank in it
pub record WordBothWays {A : Type 0} (Fits : A → Type 0) (print : A → List ℕ) (read : List ℕ → Option A) : Type 0 where
  pub both : BothWays Fits print read
  pub no_blank : (a : A) → Fits a → Lacks 32 (print a)

-- numbers below 2^64, numbers below 2^32, and numbers from -2^63 to 2^63 - 1
pub record NumbersBothWays : Type 0 where
  pub unsigned : WordBothWays (λ n. n < 2 ^ 64) decimal unsigned_of
  pub short : WordBothWays (λ n. n < 2 ^ 32) decimal short_of
  pub signed : WordBothWays IsI64 signed_decimal signed_of

-- transactions, items and jobs by their names
pub record IdsBothWays (names : List (List ℕ)) : Type 0 where
  pub tx : WordBothWays (λ (tx : TxId). tx.0 < length names) (λ tx. name_at names tx.0) (tx_of names)
  pub item : WordBothWays (λ (item : ItemId). item.0 < length names) (λ item. name_at names item.0) (item_of names)
  pub job : WordBothWays (IsJob names) (job_text names) (job_of names)

abbrev pub NamedBothWays : Type 0
NamedBothWays = (names : List (List ℕ)) → AreNames names → IdsBothWays names
