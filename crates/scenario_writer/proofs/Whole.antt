-- Objects of which members may be absent: what is sent for them in parts is what is sent for the whole.
use Rattle.std.proofs.Common.{◌≡◌, ℕ, ◌∷◌, ◌++◌, [], List, Bool, true, false, if◌then◌else◌, codes, Option, Some, None, refl, subst}
use Rattle.json.specs.Token.{begin_object, end_object}
use Rattle.json.specs.Written.{Written}
use Rattle.serde_json.specs.Data.{Data, object, no_members, member}
use Rattle.step_script.specs.Scripts.{Program}
use Rattle.txn_set.specs.declared.decl.TxnDecl.{TxnDecl}
use Rattle.step_script.specs.Shown.{Shown}
use Rattle.step_script.specs.declared.releases.Releases.{Releases}
use Rattle.step_script.specs.declared.releases.Releases.TheVariants.{At, Jobs, Eager}
use Rattle.scenario_writer.specs.Canonical.{whole, array_of, optional, items_data, sets_data, txns_in, txn_data, is_second, canonical_as, canonical}
use Rattle.scenario_writer.specs.Sent.{Adds, Sends, Field, SendsFields, field, members_of, optional_field, head_fields, number_fields, list_fields}
use Rattle.scenario_writer.proofs.Sending.{then_fields, all_put, object_sent}

-- a transaction

abbrev txn_fields : Bool → List (List ℕ) → List ℕ → TxnDecl → Program → Releases → List Field
txn_fields second names n t p r = (head_fields n t r ++ number_fields second t) ++ list_fields names t p r

record IsWhole (d : Data) (fs : List Field) : Type 0 where
  ordered : all_put fs no_members ≡ members_of fs
  same : object (members_of fs) ≡ d

txn_is_whole : (second : Bool) (names : List (List ℕ)) (n : List ℕ) (t : TxnDecl) (p : Program) (r : Releases)
    → IsWhole (txn_data second names (record { name = n; decl = t; program = p; releases = r }))
    (txn_fields second names n t p r)
txn_is_whole true names n t p (At ticks) = record { ordered = refl; same = refl }
txn_is_whole true names n t p (Jobs k) = record { ordered = refl; same = refl }
txn_is_whole true names n t p (Eager k) = record { ordered = refl; same = refl }
txn_is_whole false names n t p (At ticks) = record { ordered = refl; same = refl }
txn_is_whole false names n t p (Jobs k) = record { ordered = refl; same = refl }
txn_is_whole false names n t p (Eager k) = record { ordered = refl; same = refl }

whole_sent : (d : Data) (fs : List Field) (a b c e : Written) → IsWhole d fs → Adds (begin_object ∷ []) a b
    → SendsFields fs b c → Adds (end_object ∷ []) c e → Sends d a e
whole_sent d fs a b c e w begins sends ends = subst (λ (x : Data). Sends x a e) w.same
    (object_sent fs a b c e w.ordered begins sends ends)

pub whole_txn : (second : Bool) (names : List (List ℕ)) (n : List ℕ) (t : TxnDecl) (p : Program) (r : Releases)
    (a b c d e f : Written) → Adds (begin_object ∷ []) a b → SendsFields (head_fields n t r) b c
    → SendsFields (number_fields second t) c d → SendsFields (list_fields names t p r) d e → Adds (end_object ∷ []) e f
    → Sends (txn_data second names (record { name = n; decl = t; program = p; releases = r })) a f
whole_txn second names n t p r a b c d e f begins head numbers lists ends =
    whole_sent _ (txn_fields second names n t p r) a b e f (txn_is_whole second names n t p r) begins
    (then_fields _ _ b d e (then_fields _ _ b c d head numbers) lists) ends

-- a scenario

abbrev root_fields : Data → Option Data → Data → ℕ → List Field
root_fields items sets txns version =
    field (codes "items") items
    ∷ (optional_field (codes "together") sets
    ++ field (codes "transactions") txns
    ∷ field (codes "version") (whole version)
    ∷ [])

root_is_whole : (items : Data) (sets : Option Data) (txns : Data) (version : ℕ)
    → IsWhole (object (member (codes "items") items
    (optional (codes "together") sets
    (member (codes "transactions") txns
    (member (codes "version") (whole version) no_members))))) (root_fields items sets txns version)
root_is_whole items (Some sets) txns version = record { ordered = refl; same = refl }
root_is_whole items None txns version = record { ordered = refl; same = refl }

pub whole_scenario : (s : Shown) (second : Bool) (version : ℕ) (a b c d e f g : Written) → second ≡ is_second s
    → version ≡ (if second then 2 else 1) → Adds (begin_object ∷ []) a b
    → SendsFields (field (codes "items") (array_of (items_data s.names.items s.items)) ∷ []) b c
    → SendsFields (optional_field (codes "together") (sets_data second s.names.items s.together)) c d
    → SendsFields (field (codes "transactions") (array_of (txns_in second s)) ∷ []) d e
    → SendsFields (field (codes "version") (whole version) ∷ []) e f → Adds (end_object ∷ []) f g
    → Sends (canonical s) a g
unfolding canonical
whole_scenario s second version a b c d e f g is known begins items sets txns last ends =
    subst (λ (x : Bool). Sends (canonical_as x s) a g) is (
    subst (λ (v : ℕ). Sends (object (member (codes "items") (array_of (items_data s.names.items s.items))
    (optional (codes "together") (sets_data second s.names.items s.together)
    (member (codes "transactions") (array_of (txns_in second s))
    (member (codes "version") (whole v) no_members))))) a g) known (
    whole_sent _ _ a b f g (root_is_whole _ _ _ _) begins
    (then_fields (_ ∷ []) _ b c f items (then_fields _ _ c d f sets (then_fields (_ ∷ []) _ d e f txns last))) ends))
