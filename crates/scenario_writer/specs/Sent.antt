-- What is sent to a writer of JSON: tokens that are read as the data.
use Rattle.std.specs.Prelude.{◌≡◌, ℕ, List, [], ◌∷◌, ◌++◌, map, codes, Bool, Option, Some, None}
use Rattle.txn_set.specs.declared.decl.TxnDecl.{TxnDecl}
use Rattle.step_script.specs.Scripts.{Program}
use Rattle.step_script.specs.declared.releases.Releases.{Releases}
use Rattle.json.specs.Token.{Token}
use Rattle.json.specs.Tree.{json_tokens}
use Rattle.json.specs.Written.{Written}
use Rattle.serde_json.specs.Data.{Data, Members, no_members, member}
use Rattle.serde_json.specs.Read.{of_json}
use Rattle.serde_json.specs.Written.{outline}
use Rattle.scenario_writer.specs.Canonical.{whole, integer, word, array_of, item_words, script_data, ticks_data, jobs_data, eager_data, quiet_data}

-- these tokens follow
pub record Adds (ts : List Token) (old new : Written) : Type 0 where
  pub tokens : new.tokens ≡ old.tokens ++ ts
  pub before : new.before ≡ old.before

-- a value follows
pub record Sends (d : Data) (old new : Written) : Type 0 where
  pub adds : Adds (json_tokens (outline d)) old new
  pub read : of_json (outline d) ≡ Some d

-- Values of an array.

abbrev pub items_sent : List Data → List Token
items_sent [] = []
items_sent (d ∷ ds) = json_tokens (outline d) ++ items_sent ds

abbrev pub AreRead : List Data → Type 0
AreRead [] = Unit {0}
AreRead (d ∷ ds) = (of_json (outline d) ≡ Some d) × AreRead ds

pub record SendsItems (ds : List Data) (old new : Written) : Type 0 where
  pub adds : Adds (items_sent ds) old new
  pub read : AreRead ds

-- Members of an object.

pub record Field : Type 0 where
  pub name : List ℕ
  pub value : Data

abbrev pub field : List ℕ → Data → Field
field name d = record { name = name; value = d }

abbrev pub members_of : List Field → Members
members_of [] = no_members
members_of (f ∷ fs) = member f.name f.value (members_of fs)

abbrev pub fields_sent : List Field → List Token
fields_sent [] = []
fields_sent (f ∷ fs) = Token.key f.name ∷ (json_tokens (outline f.value) ++ fields_sent fs)

abbrev pub FieldsAreRead : List Field → Type 0
FieldsAreRead [] = Unit {0}
FieldsAreRead (f ∷ fs) = (of_json (outline f.value) ≡ Some f.value) × FieldsAreRead fs

pub record SendsFields (fs : List Field) (old new : Written) : Type 0 where
  pub adds : Adds (fields_sent fs) old new
  pub read : FieldsAreRead fs

-- a member that may be absent
abbrev pub optional_field : List ℕ → Option Data → List Field
optional_field name None = []
optional_field name (Some d) = field name d ∷ []

-- a transaction's members, in three parts

abbrev pub head_fields : List ℕ → TxnDecl → Releases → List Field
head_fields name t r =
    field (codes "deadline") (whole t.deadline)
    ∷ (optional_field (codes "eager") (eager_data r)
    ++ (optional_field (codes "jobs") (jobs_data r)
    ++ field (codes "name") (word name) ∷ []))

abbrev pub number_fields : Bool → TxnDecl → List Field
number_fields second t =
    field (codes "offset") (whole t.offset)
    ∷ field (codes "period") (whole t.period)
    ∷ field (codes "priority") (whole t.prio)
    ∷ optional_field (codes "quiet") (quiet_data second t.quiet)

abbrev pub list_fields : List (List ℕ) → TxnDecl → Program → Releases → List Field
list_fields names t p r =
    field (codes "reads") (item_words names t.reads)
    ∷ (optional_field (codes "releases") (ticks_data r)
    ++ field (codes "samples") (array_of (map integer p.samples))
    ∷ field (codes "script") (script_data names p.ops)
    ∷ field (codes "steps") (whole t.steps)
    ∷ field (codes "writes") (item_words names t.writes)
    ∷ [])
