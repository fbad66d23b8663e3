-- Why a scenario or a set is refused, as it is written: what follows the first words of the line.
use Rattle.std.specs.Prelude.{ℕ, List, [], ◌++◌, codes, decimal, slice_index_or}
use Rattle.rt_base.specs.declared.ids.ItemId.{ItemId}
use Rattle.rt_base.specs.declared.ids.TxId.{TxId}
use Rattle.rt_base.specs.declared.name.Names.{Names}
use Rattle.rt_base.specs.declared.release.PlanRefused.{PlanRefused}
use Rattle.rt_base.specs.declared.release.PlanRefused.TheVariants as refused
use Rattle.scenario_forms.specs.declared.error.Place.TheVariants as places
use Rattle.scenario_forms.specs.declared.error.TxnMember.{TxnMember}
use Rattle.scenario_forms.specs.declared.error.TxnMember.TheVariants as of_txns
use Rattle.scenario_reader.specs.declared.error.ScenarioError.{ScenarioError}
use Rattle.scenario_reader.specs.declared.error.ScenarioError.TheVariants as scenario
use Rattle.txn_compiler.specs.declared.error.Which.{Which}
use Rattle.txn_compiler.specs.declared.error.Which.TheVariants as which
use Rattle.txn_compiler.specs.declared.error.CompileError.{CompileError}
use Rattle.txn_compiler.specs.declared.error.CompileError.TheVariants as compiling
use Rattle.set_admission.specs.declared.error.AdmitError.{AdmitError}
use Rattle.set_admission.specs.declared.error.AdmitError.TheVariants as admitting
use Rattle.refusal_lines.specs.Places.{txn_member, place_text}

-- a blank, and then a word or a number
abbrev pub word : List ℕ → List ℕ
word text = codes " " ++ text

abbrev pub number : ℕ → List ℕ
number n = word (decimal n)

-- the name of an item, and of a transaction
abbrev pub item : Names → ItemId → List ℕ
item names i = word (slice_index_or names.items i.0 [])

abbrev pub txn : Names → TxId → List ℕ
txn names tx = word (slice_index_or names.txns tx.0 [])

-- a release too soon, or too far; no other cause comes
abbrev pub release_cause : Names → TxId → ℕ → PlanRefused → List ℕ
release_cause names tx index (refused.TooSoon earliest) = codes "TooSoon" ++ txn names tx ++ number index ++ number earliest
release_cause names tx index (refused.TooFar limit) = codes "TooFar" ++ txn names tx ++ number index ++ number limit
release_cause names tx index cause = []

abbrev pub scenario_cause : Names → ScenarioError → List ℕ
scenario_cause names scenario.NotJson = codes "NotJson"
scenario_cause names (scenario.BadField place) = codes "BadField" ++ word (place_text place)
scenario_cause names (scenario.UnknownName place) = codes "UnknownName" ++ word (place_text place)
scenario_cause names (scenario.BadScript tx op) =
    codes "BadScript" ++ word (place_text (places.Element tx.0 of_txns.Script op))
scenario_cause names (scenario.TooManySteps tx) =
    codes "TooManySteps" ++ word (place_text (places.TxnMember tx.0 of_txns.Script))
scenario_cause names (scenario.TooManyJobs count) = codes "TooManyJobs" ++ number count
scenario_cause names (scenario.BadRelease tx index cause) = release_cause names tx index cause
scenario_cause names (scenario.RoomTooLarge needed) = codes "RoomTooLarge" ++ number needed
scenario_cause names (scenario.EagerTooFar needed) = codes "EagerTooFar" ++ number needed
scenario_cause names scenario.OutOfMemory = []

-- the member of a transaction that holds one of its numbers
abbrev pub member_of : Which → TxnMember
member_of which.Prio = of_txns.Priority
member_of which.Steps = of_txns.Steps
member_of which.Period = of_txns.Period
member_of which.Deadline = of_txns.Deadline
member_of which.Offset = of_txns.Offset
member_of which.Quiet = of_txns.Quiet

abbrev pub which_text : Which → List ℕ
which_text field = txn_member (member_of field)

abbrev pub compile_cause : Names → CompileError → List ℕ
compile_cause names (compiling.TooManyItems count) = codes "TooManyItems" ++ number count
compile_cause names (compiling.TooManyTxns count) = codes "TooManyTxns" ++ number count
compile_cause names (compiling.SamePrio a b) = codes "SamePrio" ++ txn names a ++ txn names b
compile_cause names (compiling.BadTimes tx field) = codes "BadTimes" ++ txn names tx ++ word (which_text field)
compile_cause names (compiling.NoWriter i) = codes "NoWriter" ++ item names i
compile_cause names (compiling.TwoWriters i a b) = codes "TwoWriters" ++ item names i ++ txn names a ++ txn names b
compile_cause names (compiling.CyclicDerivation i) = codes "CyclicDerivation" ++ item names i
compile_cause names compiling.OutOfMemory = []
compile_cause names (compiling.TooManySets count) = codes "TooManySets" ++ number count
compile_cause names (compiling.BadTogether set) = codes "BadTogether" ++ number set

abbrev pub admit_cause : Names → AdmitError → List ℕ
admit_cause names (admitting.NotSchedulable tx demand) = codes "NotSchedulable" ++ txn names tx ++ number demand
admit_cause names (admitting.TooOld tx i age) = codes "TooOld" ++ txn names tx ++ item names i ++ number age
admit_cause names admitting.OutOfMemory = []
admit_cause names (admitting.TooApart tx set age) = codes "TooApart" ++ txn names tx ++ number set ++ number age
