-- The text of a refusal's record is that of the refusal.
use Rattle.std.specs.Prelude.{◌≡◌, ℕ, ◌<◌, List, [], ◌++◌, codes, slice_index_or}
use Rattle.rt_base.specs.declared.name.Names.{Names}
use Rattle.refusal_lines.specs.Causes.{number, compile_cause, admit_cause}
use Rattle.c_forms.specs.declared.refusals.Refused.{Refused}
use Rattle.c_forms.specs.declared.refusals.Refused.TheVariants as refused
use Rattle.c_forms.specs.Refusals.{form_of_refusal, plain}
use Rattle.rtdb_c.specs.Texts.{item_name, txn_name, numbered, names_for, text_of}

-- each number names the item and the transaction that it is
pub record AreNumbered (names : Names) (n : ℕ) : Type 0 where
  pub items : (i : ℕ) → i < n → slice_index_or names.items i [] ≡ item_name i
  pub txns : (i : ℕ) → i < n → slice_index_or names.txns i [] ≡ txn_name i

abbrev pub NumbersAreNames : Type 0
NumbersAreNames = (n : ℕ) → AreNumbered (numbered n) n

-- why no database is opened, in words
abbrev pub cause_of : Names → Refused → List ℕ
cause_of names (refused.BadKind row) = codes "BadKind" ++ number row
cause_of names (refused.BadNumber place) = codes "BadNumber" ++ number place
cause_of names (refused.BadTxn row) = codes "BadTransaction" ++ number row
cause_of names (refused.BadTogether row) = codes "BadTogetherRow" ++ number row
cause_of names (refused.NotCompiled error) = compile_cause names error
cause_of names (refused.NotAdmitted error) = admit_cause names error
cause_of names refused.NoRoom = codes "RoomTooLarge"
cause_of names refused.OutOfMemory = codes "OutOfMemory"

-- wherever memory is wanted, it is told in one word
abbrev pub RefusalsAreTold : Type 0
RefusalsAreTold = (why : Refused) → text_of (form_of_refusal why).0 (form_of_refusal why).1 ≡ cause_of (names_for (form_of_refusal why).1) (plain why)
