-- A step ends its job as stale or apart only where it commits.
use Rattle.std.proofs.Common.{◌≡◌, ℕ, ◌+◌, Bool, true, false, List, [], ◌∷◌, ◌++◌, Option, refl, sym, ap, ◌∙◌, subst, inl, inr}
use Rattle.rt_base.specs.declared.operation.Op.{Op}
use Rattle.rt_base.specs.declared.operation.Op.TheVariants.{Read, Write, Compute, Commit, Quit}
use Rattle.rt_base.specs.declared.operation.End.{End}
use Rattle.rt_base.specs.declared.operation.End.TheVariants as end
use Rattle.txn_set.specs.Set.{Set, IsCompiled}
use Rattle.step_journal.specs.declared.entry.Entry.{Entry}
use Rattle.step_journal.specs.declared.entry.Entry.TheVariants.{Planned, Step, Blocked, Idle}
use Rattle.step_journal.specs.State.{Row}
use Rattle.step_journal.specs.Instant.{is_due}
use Rattle.step_journal.specs.Step.{given, row_after, end_by, end_of}
use Rattle.step_journal.specs.History.{IsLegal, IsLegalEntry, state_of}
use Rattle.law_histories.proofs.Members.{In}
use Rattle.sim_run.proofs.Histories.{legal_parts}
use Rattle.board.specs.Over.{over_of}
use Rattle.board.proofs.Overs.{over_after}
use Rattle.job_rows.proofs.Moved.{moves}
use Rattle.law_texts.specs.Lines.{NamesItems, OnlyCommitsNameItems}

-- an end that names no item
abbrev pub IsPlain : Option End → Type 0
IsPlain over = NamesItems over → ⊥

abbrev pub EndsBy : Op → Option End → Type 0
EndsBy (Read item) over = IsPlain over
EndsBy (Write item value) over = IsPlain over
EndsBy Compute over = IsPlain over
EndsBy Commit over = Unit {0}
EndsBy Quit over = IsPlain over

abbrev pub EndsWell : Entry → Type 0
EndsWell (Planned tx tick) = Unit {0}
EndsWell (Step job op outcome over tick) = EndsBy op over
EndsWell (Blocked job op by ceiling tick) = Unit {0}
EndsWell (Idle from to) = Unit {0}

plain_steps : (test due : Bool) → IsPlain (over_of (given test end.Overrun) due)
plain_steps true due = λ named. named
plain_steps false true = λ named. named
plain_steps false false = λ named. named

ends_by : (set : Set) (x : Row) (tick : ℕ) (op : Op) (due : Bool) → EndsBy op (over_of (end_by set x tick op) due)
ends_by set x tick Commit due = tt
ends_by set x tick Quit due = λ named. named
ends_by set x tick other due = plain_steps _ due

ends_well : (set : Set) (es : List Entry) (e : Entry) → IsCompiled set → IsLegal set es
    → IsLegalEntry set (state_of set es) e → EndsWell e
ends_well set es (Step job op outcome over tick) ok legal next =
    let m = moves set (state_of set es) (Step job op outcome over tick) next in
    let now : ℕ = (state_of set es).now + 1 in
    let after : over_of (end_by set (row_after (state_of set es) m.row op) now op) (is_due set now m.row) ≡ over =
    over_after set es m.row op ok legal m.runs ∙ (ap (λ s. end_of s m.row.job) (sym m.next_is) ∙ sym m.over_is) in
    subst (EndsBy op) after (ends_by set (row_after (state_of set es) m.row op) now op (is_due set now m.row))
ends_well set es other ok legal next = tt

commits : (op : Op) (over : Option End) → EndsBy op over → NamesItems over → op ≡ Commit
commits Commit over plain names = refl
commits other over plain names = absurd (plain names)

pub only_commits : OnlyCommitsNameItems
only_commits set entries job op outcome over tick ok legal names =
    let parts = legal_parts set entries (Step job op outcome over tick) [] legal in
    commits op over (ends_well set entries (Step job op outcome over tick) ok parts.0 parts.1) names

-- ---- an entry of a history, with those before it

pub record IsSplit (entries : List Entry) (e : Entry) : Type 0 where
  pub before : List Entry
  pub after : List Entry
  pub whole : entries ≡ before ++ e ∷ after

pub split : (entries : List Entry) (e : Entry) → In e entries → IsSplit entries e
split [] e i = absurd i
split (x ∷ xs) e (inl same) = record { before = []; after = xs; whole = ap (λ (y : Entry). y ∷ xs) (sym same) }
split (x ∷ xs) e (inr i) =
    let s = split xs e i in
    record { before = x ∷ s.before; after = s.after; whole = ap (λ (l : List Entry). x ∷ l) s.whole }

pub legal_at : (set : Set) (entries : List Entry) (e : Entry) (s : IsSplit entries e) → IsLegal set entries
    → IsLegal set s.before × IsLegalEntry set (state_of set s.before) e
legal_at set entries e s legal = legal_parts set s.before e s.after (subst (IsLegal set) s.whole legal)

pub each_ends_well : (set : Set) (entries : List Entry) (e : Entry) → IsCompiled set → IsLegal set entries → In e entries
    → EndsWell e
each_ends_well set entries e ok legal i =
    let s = split entries e i in
    let parts = legal_at set entries e s legal in
    ends_well set s.before e ok parts.0 parts.1
