-- Places of a scenario as they are written.
use Rattle.std.specs.Prelude.{ℕ, List, ◌++◌, codes, decimal}
use Rattle.scenario_forms.specs.declared.error.Place.{Place}
use Rattle.scenario_forms.specs.declared.error.Place.TheVariants as places
use Rattle.scenario_forms.specs.declared.error.ItemMember.{ItemMember}
use Rattle.scenario_forms.specs.declared.error.ItemMember.TheVariants as of_items
use Rattle.scenario_forms.specs.declared.error.TxnMember.{TxnMember}
use Rattle.scenario_forms.specs.declared.error.TxnMember.TheVariants as of_txns

abbrev pub item_member : ItemMember → List ℕ
item_member of_items.Name = codes "name"
item_member of_items.Kind = codes "kind"
item_member of_items.Validity = codes "validity"
item_member of_items.Value = codes "value"

abbrev pub txn_member : TxnMember → List ℕ
txn_member of_txns.Name = codes "name"
txn_member of_txns.Priority = codes "priority"
txn_member of_txns.Period = codes "period"
txn_member of_txns.Offset = codes "offset"
txn_member of_txns.Deadline = codes "deadline"
txn_member of_txns.Steps = codes "steps"
txn_member of_txns.Quiet = codes "quiet"
txn_member of_txns.Reads = codes "reads"
txn_member of_txns.Writes = codes "writes"
txn_member of_txns.Releases = codes "releases"
txn_member of_txns.Jobs = codes "jobs"
txn_member of_txns.Eager = codes "eager"
txn_member of_txns.Samples = codes "samples"
txn_member of_txns.Script = codes "script"

-- a place, as a path from the root; indexes count from 0
abbrev pub place_text : Place → List ℕ
place_text places.Root = codes "/"
place_text places.Version = codes "/version"
place_text places.Items = codes "/items"
place_text (places.Item i) = codes "/items/" ++ decimal i
place_text (places.ItemMember i member) = codes "/items/" ++ decimal i ++ codes "/" ++ item_member member
place_text places.Txns = codes "/transactions"
place_text (places.Txn i) = codes "/transactions/" ++ decimal i
place_text (places.TxnMember i member) = codes "/transactions/" ++ decimal i ++ codes "/" ++ txn_member member
place_text (places.Element i member j) =
    codes "/transactions/" ++ decimal i ++ codes "/" ++ txn_member member ++ codes "/" ++ decimal j
place_text places.Together = codes "/together"
place_text (places.Set i) = codes "/together/" ++ decimal i
place_text (places.SetItems i) = codes "/together/" ++ decimal i ++ codes "/items"
place_text (places.SetWithin i) = codes "/together/" ++ decimal i ++ codes "/within"
place_text (places.SetElement i j) = codes "/together/" ++ decimal i ++ codes "/items/" ++ decimal j
