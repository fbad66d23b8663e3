-- The refusal of a set, as one total function: none where it meets the admission rule.
use Rattle.std.specs.Prelude.{◌≡◌, ℕ, zero, suc, nat_lt, nat_le, ◌&&◌, Bool, if◌then◌else◌, List, [], ◌∷◌, map, length, Option, None, Some}
use Rattle.std.specs.List.{filter, find}
use Rattle.std.specs.Option.{option_map}
use Rattle.rt_base.specs.declared.ids.TxId.{TxId}
use Rattle.rt_base.specs.declared.ids.ItemId.{ItemId}
use Rattle.rt_base.specs.declared.ids.TogetherDecl.{TogetherDecl}
use Rattle.item_model.specs.Kinds.{validity_of}
use Rattle.item_model.specs.Work.{is_above, first_of_both}
use Rattle.txn_set.specs.Set.{Set, IsCompiled, txn_of, may_read}
use Rattle.txn_set.specs.Ceilings.{greatest}
use Rattle.law_times.specs.Response.{demand, response}
use Rattle.set_admission.specs.declared.error.AdmitError.{AdmitError}
use Rattle.set_admission.specs.declared.error.AdmitError.TheVariants.{NotSchedulable, TooOld, TooApart, OutOfMemory}
use Rattle.set_admission.specs.Bounds.{age_of, MeetsAdmission, AreResponsesOf, AreAgesOf}

-- the transactions in falling priority, each put to its place among those before it in the list

abbrev pub prio_of : Set → TxId → ℕ
prio_of set tx = (txn_of set tx.0).prio

abbrev pub placed : Set → TxId → List TxId → List TxId
placed set tx [] = tx ∷ []
placed set tx (t ∷ ts) = if nat_lt (prio_of set t) (prio_of set tx) then tx ∷ t ∷ ts else t ∷ placed set tx ts

abbrev pub falling_to : Set → ℕ → List TxId
falling_to set zero = []
falling_to set (suc n) = placed set (record { 0 = n }) (falling_to set n)

unfoldable pub falling : Set → List TxId
falling set = falling_to set (length set.txns)

-- the first refusal that one of the transactions gives
abbrev pub first_refusal : (TxId → Option AdmitError) → List TxId → Option AdmitError
first_refusal refuses [] = None
first_refusal refuses (tx ∷ txs) = first_of_both (refuses tx) (first_refusal refuses txs)

-- a transaction without a response is refused with its demand within its deadline
abbrev pub where_none : Option ℕ → AdmitError → Option AdmitError
where_none None error = Some error
where_none (Some w) error = None

abbrev pub last_demand : Set → TxId → ℕ
last_demand set tx = demand set tx.0 (txn_of set tx.0).deadline

abbrev pub not_schedulable : Set → TxId → Option AdmitError
not_schedulable set tx = where_none (response set tx.0) (NotSchedulable tx (last_demand set tx))

-- the first declared read in item order whose age bound exceeds its validity
abbrev pub is_too_old : Set → ItemId → Bool
is_too_old set item = is_above (age_of set item.0) (validity_of set.items item.0)

abbrev pub too_old : Set → TxId → Option AdmitError
too_old set tx = option_map (λ i. TooOld tx i (age_of set i.0)) (find (is_too_old set) (txn_of set tx.0).reads)

-- the items of a relative set that a transaction reads, and their greatest age bound
abbrev pub read_together : Set → TxId → TogetherDecl → List ItemId
read_together set tx group = filter (λ i. may_read (txn_of set tx.0) i.0) group.items

abbrev pub greatest_age : Set → List ItemId → ℕ
greatest_age set items = greatest (map (λ i. age_of set i.0) items)

-- two or more items whose ages may lie further apart than the interval
abbrev pub is_apart : ℕ → ℕ → ℕ → Bool
is_apart count age within = nat_le 2 count && nat_lt within age

abbrev pub apart_age : Set → TxId → TogetherDecl → Option ℕ
apart_age set tx group =
    if is_apart (length (read_together set tx group)) (greatest_age set (read_together set tx group)) group.within
    then Some (greatest_age set (read_together set tx group))
    else None

-- the first relative set, from this place in the list on, whose items may be too far apart
abbrev pub apart_from : Set → TxId → ℕ → List TogetherDecl → Option AdmitError
apart_from set tx place [] = None
apart_from set tx place (group ∷ groups) =
    first_of_both (option_map (λ age. TooApart tx place age) (apart_age set tx group))
    (apart_from set tx (suc place) groups)

abbrev pub too_apart : Set → TxId → Option AdmitError
too_apart set tx = apart_from set tx 0 set.together

-- NotSchedulable, else TooOld, else TooApart, each by falling priority
unfoldable pub refusal : Set → Option AdmitError
refusal set =
    first_of_both (first_refusal (not_schedulable set) (falling set))
    (first_of_both (first_refusal (too_old set) (falling set)) (first_refusal (too_apart set) (falling set)))

-- an error is the refusal that was found; want of memory says nothing
abbrev pub Refuses : Option AdmitError → AdmitError → Type 0
Refuses found OutOfMemory = Unit {0}
Refuses found (NotSchedulable tx demand) = found ≡ Some (NotSchedulable tx demand)
Refuses found (TooOld tx item age) = found ≡ Some (TooOld tx item age)
Refuses found (TooApart tx place age) = found ≡ Some (TooApart tx place age)

-- what an admitted set keeps: it is compiled and meets the admission rule, and its responses and age bounds stand
-- beside it
pub record IsKept (set : Set) (responses ages : List ℕ) : Type 0 where
  pub compiled : IsCompiled set
  pub admitted : MeetsAdmission set
  pub responses_are : AreResponsesOf set responses
  pub ages_are : AreAgesOf set ages
