-- Transactions that are read as they were written.
use Rattle.std.proofs.Common.{◌≡◌, ℕ, ◌≤◌, ◌<◌, ◌^◌, FitsSigned, List, length, get_or, map, codes, Bool, true, false, Some, None, cond, Ok, refl, sym, ap, ◌∙◌, arith}
use Rattle.std.specs.Int.{w64}
use Rattle.std.specs.List.{All}
use Rattle.std.proofs.lemmas.List.{map-id}
use Rattle.rt_base.specs.declared.ids.ItemId.{ItemId}
use Rattle.rt_base.specs.Names.{is_name}
use Rattle.txn_set.specs.declared.decl.TxnDecl.{TxnDecl}
use Rattle.step_script.specs.Scripts.{Program, is_good}
use Rattle.step_script.specs.Scenarios.{HasTextTimes, IsTextOp}
use Rattle.step_script.specs.declared.releases.Releases.{Releases}
use Rattle.step_script.specs.declared.releases.Releases.TheVariants.{At, Jobs, Eager}
use Rattle.serde_json.specs.Data.{Data}
use Rattle.serde_json.specs.Find.{get, as_array}
use Rattle.serde_json.specs.View.{items_of}
use Rattle.scenario_forms.specs.declared.error.Place.TheVariants as places
use Rattle.scenario_forms.specs.declared.error.TxnMember.{TxnMember}
use Rattle.scenario_forms.specs.declared.error.TxnMember.TheVariants as members
use Rattle.scenario_forms.specs.Arrays.{named}
use Rattle.scenario_forms.specs.Reading.{needed, member_or}
use Rattle.scenario_forms.specs.Fields.{Places, whole, integer, new_name, no_others, formed_unit}
use Rattle.scenario_forms.specs.Ops.{op_in}
use Rattle.scenario_forms.specs.Txns.{is_txn_member, times_at, absent, fixed_at, counted_at, eager_at, releases_at, names_at, samples_at, script_at, txn_at, txn_name}
use Rattle.scenario_writer.specs.Canonical.{Written, txn_data, word, item_word, item_words, op_data, merged_ops, script_data, array_of}
use Rattle.scenario_writer.specs.Canonical as written
use Rattle.scenario_writer.specs.Integers.{OpHasConstants}
use Rattle.law_texts.proofs.Parts.{then, found_member, found_or, absent_or, forms_back, whole_back, integer_back}
use Rattle.law_texts.specs.ReadBack.{times_of, known_op, read_txn}
use Rattle.law_texts.proofs.Exprs.{ArePlaced}
use Rattle.law_texts.proofs.Exprs as exprs
use Rattle.law_texts.proofs.Ops.{op_back}
use Rattle.law_texts.proofs.Items.{new_back}

-- a fact of the data of a transaction, by the version and the form of releases
by_form : (P : Bool → Releases → Type 0) → ((ticks : List ℕ) → P true (At ticks)) → ((n : ℕ) → P true (Jobs n))
    → ((n : ℕ) → P true (Eager n)) → ((ticks : List ℕ) → P false (At ticks)) → ((n : ℕ) → P false (Jobs n))
    → ((n : ℕ) → P false (Eager n)) → (second : Bool) (r : Releases) → P second r
by_form P a b c d e f true (At ticks) = a ticks
by_form P a b c d e f true (Jobs n) = b n
by_form P a b c d e f true (Eager n) = c n
by_form P a b c d e f false (At ticks) = d ticks
by_form P a b c d e f false (Jobs n) = e n
by_form P a b c d e f false (Eager n) = f n

same_form : {A : Type 0} (f g : Bool → Releases → A) → ((ticks : List ℕ) → f true (At ticks) ≡ g true (At ticks))
    → ((n : ℕ) → f true (Jobs n) ≡ g true (Jobs n)) → ((n : ℕ) → f true (Eager n) ≡ g true (Eager n))
    → ((ticks : List ℕ) → f false (At ticks) ≡ g false (At ticks)) → ((n : ℕ) → f false (Jobs n) ≡ g false (Jobs n))
    → ((n : ℕ) → f false (Eager n) ≡ g false (Eager n)) → (second : Bool) (r : Releases) → f second r ≡ g second r
same_form f g a b c d e h = by_form (λ s r. f s r ≡ g s r) a b c d e h

-- releases within the ranges of a text
abbrev pub InTextRange : Releases → Type 0
InTextRange (At ticks) = All (λ tick. tick ≤ 2 ^ 53) ticks
InTextRange (Jobs n) = n ≤ 2 ^ 31
InTextRange (Eager n) = n ≤ 2 ^ 31

-- a transaction's numbers and releases are within the ranges of a text, and version 1 has no quiet steps
pub record HasRanges (second : Bool) (t : TxnDecl) (r : Releases) : Type 0 where
  pub times : HasTextTimes t
  pub quiet : second ≡ false → t.quiet ≡ 0
  pub releases : InTextRange r

-- what the numbers, items and script of a transaction meet
pub record IsTextTxn (second : Bool) (names : List (List ℕ)) (w : Written) : Type 0 where
  pub ranges : HasRanges second w.decl w.releases
  pub reads : All (λ i. i.0 < length names) w.decl.reads
  pub writes : All (λ i. i.0 < length names) w.decl.writes
  pub samples : All (FitsSigned w64) w.program.samples
  pub good : All (λ op. is_good (length names) op ≡ true) (merged_ops w.program.ops)
  pub text : All IsTextOp (merged_ops w.program.ops)
  pub constants : All OpHasConstants (merged_ops w.program.ops)

module _ (names : List (List ℕ)) (name : List ℕ) (t : TxnDecl) (p : Program) where
  abbrev made : Releases → Written
  made r = record { name = name; decl = t; program = p; releases = r }

  abbrev datum : Bool → Releases → Data
  datum second r = txn_data second names (made r)

  gets_name : (second : Bool) (r : Releases) → get (codes "name") (datum second r) ≡ Some (word name)
  gets_name = same_form (λ s r. get (codes "name") (datum s r)) (λ s r. Some (word name))
      (λ x. refl) (λ x. refl) (λ x. refl) (λ x. refl) (λ x. refl) (λ x. refl)

  gets_priority : (second : Bool) (r : Releases) → get (codes "priority") (datum second r) ≡ Some (written.whole t.prio)
  gets_priority = same_form (λ s r. get (codes "priority") (datum s r)) (λ s r. Some (written.whole t.prio))
      (λ x. refl) (λ x. refl) (λ x. refl) (λ x. refl) (λ x. refl) (λ x. refl)

  gets_period : (second : Bool) (r : Releases) → get (codes "period") (datum second r) ≡ Some (written.whole t.period)
  gets_period = same_form (λ s r. get (codes "period") (datum s r)) (λ s r. Some (written.whole t.period))
      (λ x. refl) (λ x. refl) (λ x. refl) (λ x. refl) (λ x. refl) (λ x. refl)

  gets_offset : (second : Bool) (r : Releases) → get (codes "offset") (datum second r) ≡ Some (written.whole t.offset)
  gets_offset = same_form (λ s r. get (codes "offset") (datum s r)) (λ s r. Some (written.whole t.offset))
      (λ x. refl) (λ x. refl) (λ x. refl) (λ x. refl) (λ x. refl) (λ x. refl)

  gets_deadline : (second : Bool) (r : Releases) → get (codes "deadline") (datum second r) ≡ Some
      (written.whole t.deadline)
  gets_deadline = same_form (λ s r. get (codes "deadline") (datum s r)) (λ s r. Some (written.whole t.deadline))
      (λ x. refl) (λ x. refl) (λ x. refl) (λ x. refl) (λ x. refl) (λ x. refl)

  gets_steps : (second : Bool) (r : Releases) → get (codes "steps") (datum second r) ≡ Some (written.whole t.steps)
  gets_steps = same_form (λ s r. get (codes "steps") (datum s r)) (λ s r. Some (written.whole t.steps))
      (λ x. refl) (λ x. refl) (λ x. refl) (λ x. refl) (λ x. refl) (λ x. refl)

  gets_quiet : (second : Bool) (r : Releases) → get (codes "quiet") (datum second r) ≡ written.quiet_data second t.quiet
  gets_quiet = same_form (λ s r. get (codes "quiet") (datum s r)) (λ s r. written.quiet_data s t.quiet)
      (λ x. refl) (λ x. refl) (λ x. refl) (λ x. refl) (λ x. refl) (λ x. refl)

  gets_reads : (second : Bool) (r : Releases) → get (codes "reads") (datum second r) ≡ Some (item_words names t.reads)
  gets_reads = same_form (λ s r. get (codes "reads") (datum s r)) (λ s r. Some (item_words names t.reads))
      (λ x. refl) (λ x. refl) (λ x. refl) (λ x. refl) (λ x. refl) (λ x. refl)

  gets_writes : (second : Bool) (r : Releases) → get (codes "writes") (datum second r) ≡ Some
      (item_words names t.writes)
  gets_writes = same_form (λ s r. get (codes "writes") (datum s r)) (λ s r. Some (item_words names t.writes))
      (λ x. refl) (λ x. refl) (λ x. refl) (λ x. refl) (λ x. refl) (λ x. refl)

  gets_samples : (second : Bool) (r : Releases)
      → get (codes "samples") (datum second r) ≡ Some (array_of (map written.integer p.samples))
  gets_samples = same_form (λ s r. get (codes "samples") (datum s r)) (λ s r. Some (array_of
      (map written.integer p.samples)))
      (λ x. refl) (λ x. refl) (λ x. refl) (λ x. refl) (λ x. refl) (λ x. refl)

  gets_script : (second : Bool) (r : Releases) → get (codes "script") (datum second r) ≡ Some (script_data names p.ops)
  gets_script = same_form (λ s r. get (codes "script") (datum s r)) (λ s r. Some (script_data names p.ops))
      (λ x. refl) (λ x. refl) (λ x. refl) (λ x. refl) (λ x. refl) (λ x. refl)

  only_members : (second : Bool) (r : Releases) → no_others (is_txn_member second) (datum second r) ≡ true
  only_members = same_form (λ s r. no_others (is_txn_member s) (datum s r)) (λ s r. true)
      (λ x. refl) (λ x. refl) (λ x. refl) (λ x. refl) (λ x. refl) (λ x. refl)

  quiet_back : (i : ℕ) (second : Bool) (r : Releases) → t.quiet ≤ 2 ^ 40 → (second ≡ false → t.quiet ≡ 0)
      → member_or 0 (places.TxnMember i members.Quiet) (whole 0 (2 ^ 40)) (codes "quiet") (datum second r) ≡ Ok t.quiet
  quiet_back i true r low none = found_or 0 (places.TxnMember i members.Quiet) (whole 0 (2 ^ 40)) (codes "quiet")
      (datum true r)
      (written.whole t.quiet) t.quiet (gets_quiet true r) (whole_back 0 (2 ^ 40) t.quiet (omega arith) low)
  quiet_back i false r low none =
      absent_or 0 (places.TxnMember i members.Quiet) (whole 0 (2 ^ 40)) (codes "quiet") (datum false r)
      (gets_quiet false r)
      ∙ ap Ok (sym (none refl))

  times_back : (i : ℕ) (second : Bool) (r : Releases) → HasRanges second t r
      → times_at i (datum second r) ≡ Ok (times_of t)
  unfolding times_at
  times_back i second r h =
      then _ t.prio _ (found_member (places.TxnMember i members.Priority) (whole 0 (2 ^ 31)) (codes "priority")
      (datum second r) (written.whole t.prio) t.prio
      (gets_priority second r) (whole_back 0 (2 ^ 31) t.prio (omega arith) h.times.prio))
      ∙ then _ t.period _ (found_member (places.TxnMember i members.Period) (whole 0 (2 ^ 40)) (codes "period")
      (datum second r) (written.whole t.period) t.period
      (gets_period second r) (whole_back 0 (2 ^ 40) t.period (omega arith) h.times.period))
      ∙ then _ t.offset _ (found_or 0 (places.TxnMember i members.Offset) (whole 0 (2 ^ 40)) (codes "offset")
      (datum second r) (written.whole t.offset) t.offset
      (gets_offset second r) (whole_back 0 (2 ^ 40) t.offset (omega arith) h.times.offset))
      ∙ then _ t.deadline _ (found_or t.period (places.TxnMember i members.Deadline) (whole 0 (2 ^ 40))
      (codes "deadline") (datum second r) (written.whole t.deadline)
      t.deadline (gets_deadline second r) (whole_back 0 (2 ^ 40) t.deadline (omega arith) h.times.deadline))
      ∙ then _ t.steps _ (found_member (places.TxnMember i members.Steps) (whole 0 (2 ^ 40)) (codes "steps")
      (datum second r) (written.whole t.steps) t.steps
      (gets_steps second r) (whole_back 0 (2 ^ 40) t.steps (omega arith) h.times.steps))
      ∙ then _ t.quiet _ (quiet_back i second r h.times.quiet h.quiet)

  module _ (items : Places) (placed : ArePlaced items names) where
    words_back : (i : ℕ) (member : TxnMember) (key : List ℕ) (d : Data) (ids : List ItemId)
        → get key d ≡ Some (item_words names ids) → All (λ k. k.0 < length names) ids
        → names_at items i member key d ≡ Ok (map Some ids)
    unfolding names_at
    words_back i member key d ids found below =
        then _ (items_of (map (item_word names) ids)) _ (found_or _ (places.TxnMember i member) as_array key d
        (item_words names ids) _ found refl)
        ∙ forms_back (λ j. places.Element i member j) (named items) (item_word names) Some ids
        (λ k e lt. ap Some (exprs.item_back items names placed (get_or ids k e) (below k e lt)))

    samples_back : (i : ℕ) (d : Data) → get (codes "samples") d ≡ Some (array_of (map written.integer p.samples))
        → All (FitsSigned w64) p.samples → samples_at i d ≡ Ok p.samples
    unfolding samples_at
    samples_back i d found fits =
        then _ (items_of (map written.integer p.samples)) _ (found_or _ (places.TxnMember i members.Samples) as_array
        (codes "samples") d
        (array_of (map written.integer p.samples)) _ found refl)
        ∙ forms_back (λ j. places.Element i members.Samples j) integer written.integer (λ z. z) p.samples
        (λ k e lt. integer_back (get_or p.samples k e) (fits k e lt))
        ∙ ap Ok (map-id p.samples)

    script_back : (i : ℕ) (d : Data) → get (codes "script") d ≡ Some (script_data names p.ops)
        → All (λ op. is_good (length names) op ≡ true) (merged_ops p.ops) → All IsTextOp (merged_ops p.ops)
        → All OpHasConstants (merged_ops p.ops) → script_at items i d ≡ Ok (map known_op (merged_ops p.ops))
    unfolding script_at
    script_back i d found good text fits =
        then _ (items_of (map (op_data names) (merged_ops p.ops))) _ (found_or _
        (places.TxnMember i members.Script) as_array
        (codes "script") d (script_data names p.ops) _ found refl)
        ∙ forms_back (λ j. places.Element i members.Script j) (op_in items) (op_data names) known_op (merged_ops p.ops)
        (λ k e lt. op_back items names placed (get_or (merged_ops p.ops) k e) (good k e lt) (text k e lt) (fits k e lt))

  ticks_back : (i : ℕ) (second : Bool) (ticks : List ℕ) → All (λ tick. tick ≤ 2 ^ 53) ticks
      → get (codes "releases") (datum second (At ticks)) ≡ Some (array_of (map written.whole ticks))
      → absent (places.TxnMember i members.Jobs) (codes "jobs") (datum second (At ticks)) ≡ Ok formed_unit
      → absent (places.TxnMember i members.Eager) (codes "eager") (datum second (At ticks)) ≡ Ok formed_unit
      → fixed_at i (datum second (At ticks)) ≡ Ok (At ticks)
  unfolding fixed_at
  ticks_back i second ticks low found no_jobs no_eager =
      then _ (items_of (map written.whole ticks)) _ (found_or _ (places.TxnMember i members.Releases) as_array
      (codes "releases")
      (datum second (At ticks)) (array_of (map written.whole ticks)) _ found refl)
      ∙ then _ ticks _ (forms_back (λ j. places.Element i members.Releases j) (whole 0 (2 ^ 53)) written.whole
      (λ n. n) ticks
      (λ k e lt. whole_back 0 (2 ^ 53) (get_or ticks k e) (omega arith) (low k e lt)) ∙ ap Ok (map-id ticks))
      ∙ then _ formed_unit _ no_jobs ∙ then _ formed_unit _ no_eager

  jobs_back : (i : ℕ) (second : Bool) (n : ℕ) → n ≤ 2 ^ 31 → get (codes "jobs") (datum second (Jobs n)) ≡ Some
      (written.whole n)
      → absent (places.TxnMember i members.Eager) (codes "eager") (datum second (Jobs n)) ≡ Ok formed_unit
      → counted_at i (datum second (Jobs n)) ≡ Ok (Jobs n)
  unfolding counted_at
  jobs_back i second n low found no_eager =
      then _ n _ (found_member (places.TxnMember i members.Jobs) (whole 0 (2 ^ 31)) (codes "jobs") (datum second
      (Jobs n)) (written.whole n) n
      found (whole_back 0 (2 ^ 31) n (omega arith) low))
      ∙ then _ formed_unit _ no_eager

  eager_back : (i : ℕ) (second : Bool) (n : ℕ) → n ≤ 2 ^ 31 → get (codes "eager") (datum second (Eager n)) ≡ Some
      (written.whole n)
      → eager_at i (datum second (Eager n)) ≡ Ok (Eager n)
  unfolding eager_at
  eager_back i second n low found =
      then _ n _ (found_member (places.TxnMember i members.Eager) (whole 0 (2 ^ 31)) (codes "eager") (datum second
      (Eager n)) (written.whole n) n
      found (whole_back 0 (2 ^ 31) n (omega arith) low))

  releases_back : (i : ℕ) (second : Bool) (r : Releases) → InTextRange r → releases_at i (datum second r) ≡ Ok r
  unfolding releases_at
  releases_back i true (At ticks) low = ticks_back i true ticks low refl refl refl
  releases_back i true (Jobs n) low = jobs_back i true n low refl refl
  releases_back i true (Eager n) low = eager_back i true n low refl
  releases_back i false (At ticks) low = ticks_back i false ticks low refl refl refl
  releases_back i false (Jobs n) low = jobs_back i false n low refl refl
  releases_back i false (Eager n) low = eager_back i false n low refl

  pub name_back : (taken : Places) (i : ℕ) (second : Bool) (r : Releases) → is_name name ≡ true → taken name ≡ None
      → txn_name second taken i (datum second r) ≡ Ok name
  unfolding txn_name
  name_back taken i second r plain new =
      then _ formed_unit _ (ap (λ (b : Bool). needed (places.Txn i) (cond b (Some formed_unit) None))
      (only_members second r))
      ∙ found_member (places.TxnMember i members.Name) (new_name taken) (codes "name") (datum second r)
      (word name) name (gets_name second r)
      (new_back taken name plain new)

  pub txn_back : (items : Places) → ArePlaced items names → (i : ℕ) (second : Bool) (r : Releases)
      → IsTextTxn second names (made r)
      → txn_at items i (datum second r) ≡ Ok (read_txn (made r))
  unfolding txn_at
  txn_back items placed i second r h =
      then _ (times_of t) _ (times_back i second r h.ranges)
      ∙ then _ (map Some t.reads) _ (words_back items placed i members.Reads (codes "reads") (datum second r) t.reads
      (gets_reads second r) h.reads)
      ∙ then _ (map Some t.writes) _ (words_back items placed i members.Writes (codes "writes")
      (datum second r) t.writes (gets_writes second r) h.writes)
      ∙ then _ r _ (releases_back i second r h.ranges.releases)
      ∙ then _ p.samples _ (samples_back items placed i (datum second r) (gets_samples second r) h.samples)
      ∙ then _ (map known_op (merged_ops p.ops)) _ (script_back items placed i (datum second r)
      (gets_script second r) h.good h.text h.constants)
