-- The text of each rule, with the names that are made of numbers.
use Rattle.std.proofs.Common.{◌≡◌, ℕ, ◌+◌, ◌<◌, List, [], ◌++◌, refl, ap, ◌∙◌, arith, zero-add}
use Rattle.std.specs.Prelude.{codes, slice_index_or}
use Rattle.std.proofs.lemmas.List.FromFn.{get_or-map-range_with_len}
use Rattle.txn_compiler.specs.declared.error.Which.TheVariants as which
use Rattle.txn_compiler.specs.declared.error.CompileError.TheVariants as rule
use Rattle.set_admission.specs.declared.error.AdmitError.TheVariants as admission
use Rattle.refusal_lines.specs.Causes.{word, number, which_text}
use Rattle.c_forms.specs.declared.refusals.RefusalForm.{RefusalForm}
use Rattle.c_forms.specs.declared.refusals.Refused.TheVariants as refused
use Rattle.c_forms.specs.Refusals.{which_of}
use Rattle.rtdb_c.specs.Texts.{item_name, txn_name, numbered, names_for, rule_text, admission_text}
use Rattle.rtdb_c.specs.Laws.{NumbersAreNames, RefusalsAreTold}

item_at : (n i : ℕ) → i < n → slice_index_or (numbered n).items i [] ≡ item_name i
item_at n i lt = get_or-map-range_with_len item_name 0 n i i [] lt (zero-add i)

txn_at : (n i : ℕ) → i < n → slice_index_or (numbered n).txns i [] ≡ txn_name i
txn_at n i lt = get_or-map-range_with_len txn_name 0 n i i [] lt (zero-add i)

pub numbers_named : NumbersAreNames
numbers_named n = record { items = item_at n; txns = txn_at n }

-- the names of a record's numbers
module _ (form : RefusalForm) where
  pub item_a : slice_index_or (names_for form).items form.a [] ≡ item_name form.a
  item_a = item_at (form.a + form.b + form.c + 1) form.a (omega arith)

  pub item_b : slice_index_or (names_for form).items form.b [] ≡ item_name form.b
  item_b = item_at (form.a + form.b + form.c + 1) form.b (omega arith)

  pub txn_a : slice_index_or (names_for form).txns form.a [] ≡ txn_name form.a
  txn_a = txn_at (form.a + form.b + form.c + 1) form.a (omega arith)

  pub txn_b : slice_index_or (names_for form).txns form.b [] ≡ txn_name form.b
  txn_b = txn_at (form.a + form.b + form.c + 1) form.b (omega arith)

  pub txn_c : slice_index_or (names_for form).txns form.c [] ≡ txn_name form.c
  txn_c = txn_at (form.a + form.b + form.c + 1) form.c (omega arith)

-- a text of one, two or three names
one : (head : List ℕ) (x y : List ℕ) → x ≡ y → head ++ word x ≡ head ++ word y
one head x y e = ap (λ (t : List ℕ). head ++ word t) e

two : (head : List ℕ) (x y v w : List ℕ) → x ≡ y → v ≡ w → head ++ word x ++ word v ≡ head ++ word y ++ word w
two head x y v w e f = ap (λ (t : List ℕ). t ++ word v) (one head x y e) ∙ one (head ++ word y) v w f

three : (head : List ℕ) (x y v w p q : List ℕ) → x ≡ y → v ≡ w → p ≡ q → head ++ word x ++ word v ++ word p ≡ head ++ word y ++ word w ++ word q
three head x y v w p q e f g = ap (λ (t : List ℕ). t ++ word p) (two head x y v w e f) ∙ one (head ++ word y ++ word w) p q g

-- what is said of a record with this rule
of_rule : (form : RefusalForm) (k : ℕ) → form.rule ≡ k → rule_text form ≡ rule_text (record form { rule = k })
of_rule form k e = ap (λ (r : ℕ). rule_text (record form { rule = r })) e

of_admission : (form : RefusalForm) (k : ℕ) → form.rule ≡ k → admission_text form ≡ admission_text (record form { rule = k })
of_admission form k e = ap (λ (r : ℕ). admission_text (record form { rule = r })) e

module _ (form : RefusalForm) where
  pub same_prio : form.rule ≡ 12 → rule_text form ≡ codes "SamePrio" ++ word (txn_name form.a) ++ word (txn_name form.b)
  same_prio e = of_rule form 12 e ∙ two (codes "SamePrio") _ _ _ _ (txn_a form) (txn_b form)

  pub bad_times : form.rule ≡ 13 → rule_text form ≡ codes "BadTimes" ++ word (txn_name form.a) ++ word (which_text (which_of form.which))
  bad_times e = of_rule form 13 e ∙ two (codes "BadTimes") _ _ _ _ (txn_a form) refl

  pub no_writer : form.rule ≡ 14 → rule_text form ≡ codes "NoWriter" ++ word (item_name form.a)
  no_writer e = of_rule form 14 e ∙ one (codes "NoWriter") _ _ (item_a form)

  pub two_writers : form.rule ≡ 15 → rule_text form ≡ codes "TwoWriters" ++ word (item_name form.a) ++ word (txn_name form.b) ++ word (txn_name form.c)
  two_writers e = of_rule form 15 e ∙ three (codes "TwoWriters") _ _ _ _ _ _ (item_a form) (txn_b form) (txn_c form)

  pub cyclic : form.rule ≡ 16 → rule_text form ≡ codes "CyclicDerivation" ++ word (item_name form.a)
  cyclic e = of_rule form 16 e ∙ one (codes "CyclicDerivation") _ _ (item_a form)

  pub not_schedulable : form.rule ≡ 20 → admission_text form ≡ codes "NotSchedulable" ++ word (txn_name form.a) ++ number form.b
  not_schedulable e = of_admission form 20 e ∙ two (codes "NotSchedulable") _ _ _ _ (txn_a form) refl

  pub too_old : form.rule ≡ 21 → admission_text form ≡ codes "TooOld" ++ word (txn_name form.a) ++ word (item_name form.b) ++ number form.c
  too_old e = of_admission form 21 e ∙ three (codes "TooOld") _ _ _ _ _ _ (txn_a form) (item_b form) refl

  pub too_apart : form.rule ≡ 22 → admission_text form ≡ codes "TooApart" ++ word (txn_name form.a) ++ number form.b ++ number form.c
  too_apart e = of_admission form 22 e ∙ three (codes "TooApart") _ _ _ _ _ _ (txn_a form) refl refl

pub refusals_told : RefusalsAreTold
refusals_told (refused.BadKind row) = refl
refusals_told (refused.BadNumber place) = refl
refusals_told (refused.BadTxn row) = refl
refusals_told (refused.BadTogether row) = refl
refusals_told (refused.NotCompiled (rule.TooManyItems count)) = refl
refusals_told (refused.NotCompiled (rule.TooManyTxns count)) = refl
refusals_told (refused.NotCompiled (rule.SamePrio a b)) = refl
refusals_told (refused.NotCompiled (rule.BadTimes tx which.Prio)) = refl
refusals_told (refused.NotCompiled (rule.BadTimes tx which.Steps)) = refl
refusals_told (refused.NotCompiled (rule.BadTimes tx which.Period)) = refl
refusals_told (refused.NotCompiled (rule.BadTimes tx which.Deadline)) = refl
refusals_told (refused.NotCompiled (rule.BadTimes tx which.Offset)) = refl
refusals_told (refused.NotCompiled (rule.BadTimes tx which.Quiet)) = refl
refusals_told (refused.NotCompiled (rule.NoWriter item)) = refl
refusals_told (refused.NotCompiled (rule.TwoWriters item a b)) = refl
refusals_told (refused.NotCompiled (rule.CyclicDerivation item)) = refl
refusals_told (refused.NotCompiled rule.OutOfMemory) = refl
refusals_told (refused.NotCompiled (rule.TooManySets count)) = refl
refusals_told (refused.NotCompiled (rule.BadTogether set)) = refl
refusals_told (refused.NotAdmitted (admission.NotSchedulable tx demand)) = refl
refusals_told (refused.NotAdmitted (admission.TooOld tx item age)) = refl
refusals_told (refused.NotAdmitted admission.OutOfMemory) = refl
refusals_told (refused.NotAdmitted (admission.TooApart tx set age)) = refl
refusals_told refused.NoRoom = refl
refusals_told refused.OutOfMemory = refl
